use Rattle.std.proofs.Common.{◌≡◌, ◌<◌, ◌∙◌, ◌+◌, ◌++◌, Some, refl, sym, ap, drop, length, option_map, append-nil, arith, rules}
use Rattle.hl_parser.specs.declared.tree.Tree.{Tree}
use Rattle.hl_parser.specs.Trees.{a_block, a_do, a_for, a_jump, a_local, a_stmt, a_while, an_if, present}
use Rattle.hl_parser.specs.Views.{plain_maybe, plain_of, plain_trees}
use Rattle.hl_parser.proofs.Plain.{plain-Block, plain-Do, plain-For, plain-If, plain-Jump, plain-Local, plain-Stmt, plain-While}
use Rattle.hl_meaning.specs.Trees.{block_stmt, run_stmt}
use Rattle.hl_meaning.specs.Views.{plain_stmts}
use Rattle.hl_meaning.proofs.Plain.{plain_stmt-Block}
use Rattle.hl_rules.specs.Constants.{named_type}
use Rattle.hl_rules.specs.Declarations.{after_first, after_starts, after_statement, locals_among, locals_first, locals_if, locals_in}
use Rattle.hl_rules.specs.Elaboration.{first_variables, starts_variables, statement_variables, statements_variables, variables_if}
use Rattle.hl_rules.specs.Expressions.{value_code}
use Rattle.hl_rules.specs.Rules.{noted}
use Rattle.hl_rules.specs.Scopes.{behind, looped, opened}
use Rattle.hl_rules.specs.Sites.{attributes_sites, condition_if, condition_sites, expression_if, expression_sites, first_if, starts_sites, statement_if, statement_sites, statements_sites, type_sites}
use Rattle.hl_rules.specs.Statements.{appended, one_stmt, starts_code, statement_code, statement_code_if, statements_code}
use Rattle.hl_rules.proofs.Noting.{noted-none}
use Rattle.hl_values.specs.ScopeChanges.{held_of}
use Rattle.hl_values.specs.ScopeViews.{scope_of}
use Rattle.hl_types.specs.Walks.{after_part, after_statements, made_expr, made_expr_if, made_stmt_if, made_stmts, part_code}
use Rattle.hl_types.proofs.Closing.{behind-none}
use Rattle.hl_types.proofs.Shapes.{runs}
use Rattle.hl_types.proofs.StatementNotes.{block-behind, body-behind, branch-behind, do-is, for-behind, for-is, if-behind, if-is, noted-head, noted-headed, while-is}
use Rattle.hl_types.proofs.StatementWalks.{block-code, part-there, walk-block, walk-do, walk-for, walk-if, walk-jump, walk-local, walk-part, walk-while}
use Rattle.hl_types.proofs.Turns.{left-end, left-turn, noted-end, noted-turn}
use Rattle.hl_types.proofs.TypedForms.{loop-around, made-ok, same-ok, whenever}
use Rattle.hl_types.proofs.Walking.{appended-first, both-is, code-end, code-turn, list-both, list-end, list-turn, noted-both}
use Rattle.hl_types.proofs.statements.+statements.Goals as goal

pub statement-returns-in-Stmt : goal.statement-returns-in-Stmt
statement-returns-in-Stmt t c =
    let s = scope_of c.args.scope.now in
    let f = c.args.found.now in
    let v = (held_of c.args.scope.now).variables in
    let u = plain_of c.args.tree.now in
    let part = plain_maybe c.in-Stmt.part in
    let tree : u ≡ a_stmt c.in-Stmt.at part = ap plain_of c.in-Stmt.is ∙ plain-Stmt c.in-Stmt.at c.in-Stmt.part in
    let walk = walk-part s c.in-Stmt.at part u tree in
    let r = c.statement_part.result in
    record {
      code = made-ok r made_stmts (part_code s part) (statement_code s u) c.statement_part.ensures.code walk.code;
      found = same-ok r c.statement_part.new.found (noted f (statement_if s part)) (noted f (statement_sites s u)) c.statement_part.ensures.found (walk.found f);
      scope = same-ok r (scope_of c.statement_part.new.scope) (after_part s part) (after_statement s u) c.statement_part.ensures.scope walk.scope;
      variables = same-ok r (held_of c.statement_part.new.scope).variables (v ++ variables_if s part) (v ++ statement_variables s u) c.statement_part.ensures.variables (walk.variables v);
    }

pub statement-returns-in-Block : goal.statement-returns-in-Block
statement-returns-in-Block t c =
    let s = scope_of c.args.scope.now in
    let f = c.args.found.now in
    let v = (held_of c.args.scope.now).variables in
    let u = plain_of c.args.tree.now in
    let ts = plain_trees c.in-Block.statements in
    let tree : u ≡ a_block c.in-Block.at ts = ap plain_of c.in-Block.is ∙ plain-Block c.in-Block.at c.in-Block.statements in
    let walk = walk-block s c.in-Block.at ts u tree in
    let r = c.block.result in
    record {
      code = made-ok r made_stmts (statement_code s (a_block 0 ts)) (statement_code s u) c.block.ensures.code walk.code;
      found = same-ok r c.block.new.found (noted f (statements_sites (opened s) ts)) (noted f (statement_sites s u)) c.block.ensures.found (walk.found f);
      scope = same-ok r (scope_of c.block.new.scope) (behind (locals_among ts) s) (after_statement s u) c.block.ensures.scope walk.scope;
      variables = same-ok r (held_of c.block.new.scope).variables (v ++ statements_variables (opened s) ts) (v ++ statement_variables s u) c.block.ensures.variables (walk.variables v);
    }

pub statement-returns-in-Local : goal.statement-returns-in-Local
statement-returns-in-Local t c =
    let s = scope_of c.args.scope.now in
    let f = c.args.found.now in
    let v = (held_of c.args.scope.now).variables in
    let u = plain_of c.args.tree.now in
    let ts = plain_trees c.in-Local.starts in
    let got = plain_of c.get.result.now in
    let k = c.is_some.result in
    let tree : u ≡ a_local c.in-Local.at c.in-Local.constant (plain_of c.in-Local.ty) ts = ap plain_of c.in-Local.is ∙ plain-Local c.in-Local.at c.in-Local.constant c.in-Local.ty c.in-Local.starts in
    let walk = walk-local s c.in-Local.at c.in-Local.constant got (plain_of c.in-Local.ty) k ts u (ap plain_of c.get.ensures) c.is_some.ensures tree in
    let r = c.local.result in
    record {
      code = made-ok r made_stmts (starts_code s (named_type s got) k ts) (statement_code s u) c.local.ensures.code walk.code;
      found = same-ok r c.local.new.found (noted f (type_sites s got ++ starts_sites s (named_type s got) k ts)) (noted f (statement_sites s u)) c.local.ensures.found (walk.found f);
      scope = same-ok r (scope_of c.local.new.scope) (after_starts (named_type s got) k s ts) (after_statement s u) c.local.ensures.scope walk.scope;
      variables = same-ok r (held_of c.local.new.scope).variables (v ++ starts_variables s (named_type s got) k ts) (v ++ statement_variables s u) c.local.ensures.variables (walk.variables v);
    }

pub statement-returns-in-If : goal.statement-returns-in-If
statement-returns-in-If t c =
    let s = scope_of c.args.scope.now in
    let f = c.args.found.now in
    let v = (held_of c.args.scope.now).variables in
    let u = plain_of c.args.tree.now in
    let at = c.in-If.at in
    let attributes = plain_trees c.in-If.attributes in
    let alternative = plain_maybe c.in-If.alternative in
    let cond = plain_of c.get-in-If.result.now in
    let consequent = plain_of c.get-in-If-2.result.now in
    let tree : u ≡ an_if at attributes cond consequent alternative =
    ap plain_of c.in-If.is ∙ (plain-If at c.in-If.attributes c.in-If.cond c.in-If.consequent c.in-If.alternative ∙
    sym (both-is (λ (x y : Tree). an_if at attributes (plain_of x) (plain_of y) alternative) c.get-in-If.ensures c.get-in-If-2.ensures)) in
    let walk = walk-if s at attributes cond consequent alternative u tree in
    let r = c.choice.result in
    record {
      code = made-ok r made_stmts (statement_code s (an_if 0 attributes cond consequent alternative)) (statement_code s u) c.choice.ensures.code walk.code;
      found = same-ok r c.choice.new.found (noted f (statement_sites s (an_if 0 attributes cond consequent alternative))) (noted f (statement_sites s u)) c.choice.ensures.found (walk.found f);
      scope = same-ok r (scope_of c.choice.new.scope) (behind (locals_in consequent + locals_if alternative) s) (after_statement s u) c.choice.ensures.scope walk.scope;
      variables = same-ok r (held_of c.choice.new.scope).variables (v ++ statement_variables s (an_if 0 attributes cond consequent alternative)) (v ++ statement_variables s u) c.choice.ensures.variables (walk.variables v);
    }

pub statement-returns-in-For : goal.statement-returns-in-For
statement-returns-in-For t c =
    let s = scope_of c.args.scope.now in
    let f = c.args.found.now in
    let v = (held_of c.args.scope.now).variables in
    let u = plain_of c.args.tree.now in
    let at = c.in-For.at in
    let attributes = plain_trees c.in-For.attributes in
    let first = plain_maybe c.in-For.first in
    let cond = plain_maybe c.in-For.cond in
    let step = plain_maybe c.in-For.step in
    let body = plain_of c.get-in-For.result.now in
    let tree : u ≡ a_for at attributes first cond step body =
    ap plain_of c.in-For.is ∙ (plain-For at c.in-For.attributes c.in-For.first c.in-For.cond c.in-For.step c.in-For.body ∙
    sym (ap (λ (x : Tree). a_for at attributes first cond step (plain_of x)) c.get-in-For.ensures)) in
    let walk = walk-for s at attributes first cond step body u tree in
    let r = c.for_loop.result in
    record {
      code = made-ok r made_stmts (statement_code s (a_for 0 attributes first cond step body)) (statement_code s u) c.for_loop.ensures.code walk.code;
      found = same-ok r c.for_loop.new.found (noted f (statement_sites s (a_for 0 attributes first cond step body))) (noted f (statement_sites s u)) c.for_loop.ensures.found (walk.found f);
      scope = same-ok r (scope_of c.for_loop.new.scope) (behind (locals_first first + locals_in body) s) (after_statement s u) c.for_loop.ensures.scope walk.scope;
      variables = same-ok r (held_of c.for_loop.new.scope).variables (v ++ statement_variables s (a_for 0 attributes first cond step body)) (v ++ statement_variables s u) c.for_loop.ensures.variables (walk.variables v);
    }

pub statement-returns-in-While : goal.statement-returns-in-While
statement-returns-in-While t c =
    let s = scope_of c.args.scope.now in
    let f = c.args.found.now in
    let v = (held_of c.args.scope.now).variables in
    let u = plain_of c.args.tree.now in
    let at = c.in-While.at in
    let attributes = plain_trees c.in-While.attributes in
    let cond = plain_of c.get-in-While.result.now in
    let body = plain_of c.get-in-While-2.result.now in
    let tree : u ≡ a_while at attributes cond body =
    ap plain_of c.in-While.is ∙ (plain-While at c.in-While.attributes c.in-While.cond c.in-While.body ∙
    sym (both-is (λ (x y : Tree). a_while at attributes (plain_of x) (plain_of y)) c.get-in-While.ensures c.get-in-While-2.ensures)) in
    let walk = walk-while s at attributes cond body u tree in
    let r = c.while_loop.result in
    record {
      code = made-ok r made_stmts (statement_code s (a_while 0 attributes cond body)) (statement_code s u) c.while_loop.ensures.code walk.code;
      found = same-ok r c.while_loop.new.found (noted f (statement_sites s (a_while 0 attributes cond body))) (noted f (statement_sites s u)) c.while_loop.ensures.found (walk.found f);
      scope = same-ok r (scope_of c.while_loop.new.scope) (behind (locals_in body) s) (after_statement s u) c.while_loop.ensures.scope walk.scope;
      variables = same-ok r (held_of c.while_loop.new.scope).variables (v ++ statement_variables (looped s) body) (v ++ statement_variables s u) c.while_loop.ensures.variables (walk.variables v);
    }

pub statement-returns-in-Do : goal.statement-returns-in-Do
statement-returns-in-Do t c =
    let s = scope_of c.args.scope.now in
    let f = c.args.found.now in
    let v = (held_of c.args.scope.now).variables in
    let u = plain_of c.args.tree.now in
    let at = c.in-Do.at in
    let attributes = plain_trees c.in-Do.attributes in
    let body = plain_of c.get-in-Do.result.now in
    let cond = plain_of c.get-in-Do-2.result.now in
    let tree : u ≡ a_do at attributes body cond =
    ap plain_of c.in-Do.is ∙ (plain-Do at c.in-Do.attributes c.in-Do.body c.in-Do.cond ∙
    sym (both-is (λ (x y : Tree). a_do at attributes (plain_of x) (plain_of y)) c.get-in-Do.ensures c.get-in-Do-2.ensures)) in
    let walk = walk-do s at attributes body cond u tree in
    let r = c.do_loop.result in
    record {
      code = made-ok r made_stmts (statement_code s (a_do 0 attributes body cond)) (statement_code s u) c.do_loop.ensures.code walk.code;
      found = same-ok r c.do_loop.new.found (noted f (statement_sites s (a_do 0 attributes body cond))) (noted f (statement_sites s u)) c.do_loop.ensures.found (walk.found f);
      scope = same-ok r (scope_of c.do_loop.new.scope) (behind (locals_in body) s) (after_statement s u) c.do_loop.ensures.scope walk.scope;
      variables = same-ok r (held_of c.do_loop.new.scope).variables (v ++ statement_variables (looped s) body) (v ++ statement_variables s u) c.do_loop.ensures.variables (walk.variables v);
    }

pub statement-returns-in-Jump : goal.statement-returns-in-Jump
statement-returns-in-Jump t c =
    let s = scope_of c.args.scope.now in
    let f = c.args.found.now in
    let v = (held_of c.args.scope.now).variables in
    let u = plain_of c.args.tree.now in
    let value = plain_maybe c.in-Jump.value in
    let jump = a_jump c.in-Jump.at value in
    let walk = walk-jump s c.in-Jump.at value u (ap plain_of c.in-Jump.is ∙ plain-Jump c.in-Jump.at c.in-Jump.value) in
    let r = c.jump_of.result in
    record {
      code = made-ok r made_stmts (statement_code s jump) (statement_code s u) c.jump_of.ensures.code walk.code;
      found = same-ok r c.jump_of.new.found (noted f (statement_sites s jump)) (noted f (statement_sites s u)) c.jump_of.ensures.found (walk.found f);
      scope = whenever r walk.scope;
      variables = whenever r (sym (append-nil v) ∙ walk.variables v);
    }

pub statement-returns-in_default : goal.statement-returns-in_default
statement-returns-in_default t c =
    let s = scope_of c.args.scope.now in
    let f = c.args.found.now in
    let v = (held_of c.args.scope.now).variables in
    let u = plain_of c.args.tree.now in
    let run = runs s c.args.tree.now (record {
      stmt = c.in_default.not-Stmt;
      block = c.in_default.not-Block;
      local = c.in_default.not-Local;
      choice = c.in_default.not-If;
      for_loop = c.in_default.not-For;
      while_loop = c.in_default.not-While;
      do_loop = c.in_default.not-Do;
      jump = c.in_default.not-Jump;
    }) in
    let r = c.run_statement.result in
    record {
      code = made-ok r made_stmts (option_map (λ value. one_stmt (run_stmt value)) (value_code s u)) (statement_code s u) c.run_statement.ensures.code (sym run.code);
      found = same-ok r c.run_statement.new.found (noted f (expression_sites s u)) (noted f (statement_sites s u)) c.run_statement.ensures.found (sym (ap (noted f) run.found));
      scope = whenever r (sym run.scope);
      variables = whenever r (sym (ap (λ l. v ++ l) run.variables ∙ append-nil v));
    }

pub choice-returns : goal.choice-returns
choice-returns t c =
    let s = scope_of c.args.scope.now in
    let f = c.args.found.now in
    let v = (held_of c.args.scope.now).variables in
    let cond = plain_of c.args.cond.now in
    let consequent = plain_of c.args.consequent.now in
    let alternative = plain_maybe c.args.alternative.now in
    let attributes = plain_trees c.args.attributes.now in
    let inner = scope_of c.branch-scope.new.scope in
    let behind_yes : inner ≡ behind (locals_in consequent) s = c.in_ok-yes.ensures.scope in
    record {
      code =
          made-ok c.if_of.result made_stmts _ (statement_code s (an_if 0 attributes cond consequent alternative)) c.if_of.ensures
          (if-is s 0 attributes cond consequent alternative (made_expr c.in_ok-cond.cond) (made_stmts c.in_ok-yes.«yes») (made_stmt_if c.in_ok-no.«no») inner
          c.in_ok-cond.ensures.code c.in_ok-yes.ensures.code behind_yes c.in_ok-no.ensures.code);
      found =
          whenever c.if_of.result
          (noted-headed f c.tested.new.found c.branch_if.new.found (attributes_sites s attributes) (condition_sites s cond)
          (statement_sites (opened s) consequent ++ statement_if (opened (behind (locals_in consequent) s)) alternative) c.in_ok-cond.ensures.found
          (noted-both c.tested.new.found c.branch-scope.new.found c.branch_if.new.found (statement_sites (opened s) consequent) (statement_if (opened (behind (locals_in consequent) s)) alternative)
          c.in_ok-yes.ensures.found (c.in_ok-no.ensures.found ∙ ap (λ z. noted c.branch-scope.new.found (statement_if (opened z) alternative)) behind_yes)));
      scope = whenever c.if_of.result (if-behind s inner (scope_of c.branch_if.new.scope) consequent alternative behind_yes c.in_ok-no.ensures.scope);
      variables =
          whenever c.if_of.result
          (list-both v (held_of c.branch-scope.new.scope).variables (held_of c.branch_if.new.scope).variables (statement_variables (opened s) consequent)
          (variables_if (opened (behind (locals_in consequent) s)) alternative) c.in_ok-yes.ensures.variables
          (c.in_ok-no.ensures.variables ∙ ap (λ z. (held_of c.branch-scope.new.scope).variables ++ variables_if (opened z) alternative) behind_yes));
    }

pub while_loop-returns : goal.while_loop-returns
while_loop-returns t c =
    let s = scope_of c.args.scope.now in
    let f = c.args.found.now in
    let v = (held_of c.args.scope.now).variables in
    let cond = plain_of c.args.cond.now in
    let body = plain_of c.args.body.now in
    let attributes = plain_trees c.args.attributes.now in
    record {
      code =
          made-ok c.while_of.result made_stmts _ (statement_code s (a_while 0 attributes cond body)) c.while_of.ensures
          (while-is s 0 attributes cond body (made_expr c.in_ok-cond.cond) (made_stmts c.in_ok-body.body) c.in_ok-cond.ensures.code c.in_ok-body.ensures.code);
      found =
          whenever c.while_of.result
          (noted-headed f c.tested.new.found c.loop_body.new.found (attributes_sites s attributes) (condition_sites s cond) (statement_sites (looped s) body)
          c.in_ok-cond.ensures.found c.in_ok-body.ensures.found);
      scope = whenever c.while_of.result c.in_ok-body.ensures.scope;
      variables = whenever c.while_of.result c.in_ok-body.ensures.variables;
    }

pub do_loop-returns : goal.do_loop-returns
do_loop-returns t c =
    let s = scope_of c.args.scope.now in
    let f = c.args.found.now in
    let v = (held_of c.args.scope.now).variables in
    let cond = plain_of c.args.cond.now in
    let body = plain_of c.args.body.now in
    let attributes = plain_trees c.args.attributes.now in
    record {
      code =
          made-ok c.do_of.result made_stmts _ (statement_code s (a_do 0 attributes body cond)) c.do_of.ensures
          (do-is s 0 attributes body cond (made_stmts c.in_ok-body.body) (made_expr c.in_ok-cond.cond) c.in_ok-body.ensures.code c.in_ok-cond.ensures.code);
      found =
          whenever c.do_of.result
          (noted-headed f c.tested.new.found c.loop_body.new.found (attributes_sites s attributes) (condition_sites s cond) (statement_sites (looped s) body)
          c.in_ok-cond.ensures.found c.in_ok-body.ensures.found);
      scope = whenever c.do_of.result c.in_ok-body.ensures.scope;
      variables = whenever c.do_of.result c.in_ok-body.ensures.variables;
    }

pub for_loop-returns : goal.for_loop-returns
for_loop-returns t c =
    let s = scope_of c.args.scope.now in
    let f = c.args.found.now in
    let v = (held_of c.args.scope.now).variables in
    let first = plain_maybe c.args.first.now in
    let cond = plain_maybe c.args.cond.now in
    let step = plain_maybe c.args.step.now in
    let body = plain_of c.args.body.now in
    let attributes = plain_trees c.args.attributes.now in
    let h = c.in_ok-head in
    let after = h.ensures.scope in
    record {
      code =
          made-ok c.for_of.result made_stmts _ (statement_code s (a_for 0 attributes first cond step body)) c.for_of.ensures
          (for-is s 0 attributes first cond step body (made_stmts h.head.init) (made_expr_if h.head.cond) (made_expr_if h.head.step) (made_stmts c.in_ok-body.body)
          h.ensures.init h.ensures.cond h.ensures.step (c.in_ok-body.ensures.code ∙ ap (λ z. statement_code (looped z) body) after));
      found =
          whenever c.for_of.result
          (noted-head f c.for_head.new.found c.loop_body.new.found (attributes_sites s attributes) (first_if (opened s) first) (condition_if (after_first s first) cond) (expression_if (after_first s first) step)
          (statement_sites (looped (after_first s first)) body) h.ensures.found (c.in_ok-body.ensures.found ∙ ap (λ z. noted c.for_head.new.found (statement_sites (looped z) body)) after));
      scope =
          whenever c.for_of.result
          (for-behind s (scope_of c.loop_body.new.scope) (scope_of c.close_block.new.self) first body c.args.scope.now.in_loop (loop-around c.args.scope.now)
          (c.in_ok-body.ensures.scope ∙ ap (behind (locals_in body)) after) c.close_block.ensures.scope);
      variables =
          whenever c.for_of.result
          (ap (λ held. held.variables) c.close_block.ensures.held ∙
          list-both v (held_of c.for_head.new.scope).variables (held_of c.loop_body.new.scope).variables (first_variables (opened s) first) (statement_variables (looped (after_first s first)) body)
          h.ensures.variables (c.in_ok-body.ensures.variables ∙ ap (λ z. (held_of c.for_head.new.scope).variables ++ statement_variables (looped z) body) after));
    }

pub statement_part-returns-in-Some : goal.statement_part-returns-in-Some
statement_part-returns-in-Some t c =
    let s = scope_of c.args.scope.now in
    let f = c.args.found.now in
    let v = (held_of c.args.scope.now).variables in
    let m = plain_maybe c.args.part.now in
    let got = plain_of c.get.result.now in
    let is : m ≡ present got = ap plain_maybe c.in-Some.is ∙ ap (λ (t : Tree). present (plain_of t)) (sym c.get.ensures) in
    let there = part-there s m got is in
    let r = c.statement.result in
    record {
      code = made-ok r made_stmts (statement_code s got) (part_code s m) c.statement.ensures.code there.code;
      found = same-ok r c.statement.new.found (noted f (statement_sites s got)) (noted f (statement_if s m)) c.statement.ensures.found (there.found f);
      scope = same-ok r (scope_of c.statement.new.scope) (after_statement s got) (after_part s m) c.statement.ensures.scope there.scope;
      variables = same-ok r (held_of c.statement.new.scope).variables (v ++ statement_variables s got) (v ++ variables_if s m) c.statement.ensures.variables (there.variables v);
    }

pub statement_part-returns-in_ok-one-in-None : goal.statement_part-returns-in_ok-one-in-None
statement_part-returns-in_ok-one-in-None t c =
    let s = scope_of c.args.scope.now in
    let f = c.args.found.now in
    let v = (held_of c.args.scope.now).variables in
    let is = c.in-None.is in
    record {
      code = ap (λ x. Some x) (c.in_ok-one-in-None.ensures ∙ ap one_stmt (plain_stmt-Block _ ∙ ap (λ l. block_stmt (plain_stmts l)) c.new.ensures)) ∙ sym (ap (λ m. part_code s (plain_maybe m)) is);
      found = sym (ap (λ m. noted f (statement_if s (plain_maybe m))) is ∙ noted-none f);
      scope = sym (ap (λ m. after_part s (plain_maybe m)) is);
      variables = sym (ap (λ m. v ++ variables_if s (plain_maybe m)) is ∙ append-nil v);
    }

pub branch-returns : goal.branch-returns
branch-returns t c =
    let s = scope_of c.args.scope.now in
    let f = c.args.found.now in
    let v = (held_of c.args.scope.now).variables in
    let o = scope_of c.open_block.new.self in
    let opens : o ≡ opened s = c.in_ok-open_block.ensures.scope in
    let tree = plain_of c.args.tree.now in
    let held : (held_of c.open_block.new.self).variables ≡ v = ap (λ h. h.variables) c.open_block.ensures.held in
    record {
      code = c.in_ok-body.ensures.code ∙ ap (λ z. statement_code z tree) opens;
      found = c.in_ok-body.ensures.found ∙ ap (λ z. noted f (statement_sites z tree)) opens;
      scope =
          branch-behind s (scope_of c.statement.new.scope) (scope_of c.close_block.new.self) tree c.args.scope.now.in_loop (loop-around c.args.scope.now)
          (c.in_ok-body.ensures.scope ∙ ap (λ z. after_statement z tree) opens) c.close_block.ensures.scope;
      variables = ap (λ h. h.variables) c.close_block.ensures.held ∙ (c.in_ok-body.ensures.variables ∙ both-is (λ l z. l ++ statement_variables z tree) held opens);
    }

pub loop_body-returns : goal.loop_body-returns
loop_body-returns t c =
    let s = scope_of c.args.scope.now in
    let f = c.args.found.now in
    let v = (held_of c.args.scope.now).variables in
    let o = scope_of c.open_loop.new.self in
    let opens : o ≡ looped s = c.in_ok-open_loop.ensures.scope in
    let tree = plain_of c.args.tree.now in
    let held : (held_of c.open_loop.new.self).variables ≡ v = ap (λ h. h.variables) c.open_loop.ensures.held in
    record {
      code = c.in_ok-body.ensures.code ∙ ap (λ z. statement_code z tree) opens;
      found = c.in_ok-body.ensures.found ∙ ap (λ z. noted f (statement_sites z tree)) opens;
      scope =
          body-behind s (scope_of c.statement.new.scope) (scope_of c.close_block.new.self) tree c.args.scope.now.in_loop (loop-around c.args.scope.now)
          (c.in_ok-body.ensures.scope ∙ ap (λ z. after_statement z tree) opens) c.close_block.ensures.scope;
      variables = ap (λ h. h.variables) c.close_block.ensures.held ∙ (c.in_ok-body.ensures.variables ∙ both-is (λ l z. l ++ statement_variables z tree) held opens);
    }

pub block-returns : goal.block-returns
block-returns t c =
    let s = scope_of c.args.scope.now in
    let f = c.args.found.now in
    let v = (held_of c.args.scope.now).variables in
    let o = scope_of c.open_block.new.self in
    let opens : o ≡ opened s = c.in_ok-open_block.ensures.scope in
    let ts = plain_trees c.args.trees.now in
    let held : (held_of c.open_block.new.self).variables ≡ v = ap (λ h. h.variables) c.open_block.ensures.held in
    let r = c.block_of.result in
    record {
      code = made-ok r made_stmts _ (statement_code s (a_block 0 ts)) c.block_of.ensures (block-code s o ts (made_stmts c.in_ok-body.body) c.in_ok-body.ensures.code opens);
      found = whenever r (c.in_ok-body.ensures.found ∙ ap (λ z. noted f (statements_sites z ts)) opens);
      scope =
          whenever r
          (block-behind s (scope_of c.statements.new.scope) (scope_of c.close_block.new.self) ts c.args.scope.now.in_loop (loop-around c.args.scope.now)
          (c.in_ok-body.ensures.scope ∙ ap (λ z. after_statements z ts) opens) c.close_block.ensures.scope);
      variables = whenever r (ap (λ h. h.variables) c.close_block.ensures.held ∙ (c.in_ok-body.ensures.variables ∙ both-is (λ l z. l ++ statements_variables z ts) held opens));
    }

pub branch_if-returns-in_ok-body-in-Some : goal.branch_if-returns-in_ok-body-in-Some
branch_if-returns-in_ok-body-in-Some t c =
    let s = scope_of c.args.scope.now in
    let f = c.args.found.now in
    let v = (held_of c.args.scope.now).variables in
    let m = plain_maybe c.args.tree.now in
    let got = plain_of c.get.result.now in
    let is : m ≡ present got = ap plain_maybe c.in-Some.is ∙ ap (λ (t : Tree). present (plain_of t)) (sym c.get.ensures) in
    let there = part-there (opened s) m got is in
    let r = c.alternative_of.result in
    record {
      code = made-ok r made_stmt_if _ (statement_code_if (opened s) m) c.alternative_of.ensures (there.other (made_stmts c.in_ok-body-in-Some.body) c.in_ok-body-in-Some.ensures.code);
      found = whenever r (c.in_ok-body-in-Some.ensures.found ∙ there.found f);
      scope = whenever r (c.in_ok-body-in-Some.ensures.scope ∙ ap (λ n. behind n s) there.locals);
      variables = whenever r (c.in_ok-body-in-Some.ensures.variables ∙ there.variables v);
    }

pub branch_if-returns-in-None : goal.branch_if-returns-in-None
branch_if-returns-in-None t c =
    let s = scope_of c.args.scope.now in
    let f = c.args.found.now in
    let v = (held_of c.args.scope.now).variables in
    let is = c.in-None.is in
    record {
      code = sym (ap (λ m. statement_code_if (opened s) (plain_maybe m)) is);
      found = sym (ap (λ m. noted f (statement_if (opened s) (plain_maybe m))) is ∙ noted-none f);
      scope = sym (ap (λ m. behind (locals_if (plain_maybe m)) s) is ∙ behind-none s);
      variables = sym (ap (λ m. v ++ variables_if (opened s) (plain_maybe m)) is ∙ append-nil v);
    }

pub statements-loop-tree-preserved : goal.statements-loop-tree-preserved
statements-loop-tree-preserved t c =
    let s = scope_of c.args.scope.now in
    let f = c.args.found.now in
    let v = (held_of c.args.scope.now).variables in
    let s = scope_of c.loop-tree.scope in
    let n = scope_of c.statement.new.scope in
    let xs = c.as_slice-tree-items.result.now in
    let i = c.loop-tree.tree-index in
    let x = c.tree-item.result in
    let rest = plain_trees (drop (i + 1) xs) in
    let within : i < length xs = search rules in
    let behind = c.in_ok-more.ensures.scope in
    record {
      code =
          code-turn (λ l. statements_code s (plain_trees l)) (λ l. statements_code n (plain_trees l)) (statement_code s (plain_of x)) xs i x (made_stmts c.loop-tree.made) (made_stmts c.in_ok-made.made) _
          within c.tree-item.is (ap (λ z. appended (statement_code s (plain_of x)) (statements_code z rest)) (sym behind)) c.loop-tree.invariant.code
          (c.in_ok-made.ensures ∙ ap (appended (made_stmts c.loop-tree.made)) c.in_ok-more.ensures.code);
      found =
          noted-turn (λ l. statements_sites s (plain_trees l)) (λ l. statements_sites n (plain_trees l)) xs i x (statement_sites s (plain_of x)) _ c.loop-tree.found c.statement.new.found
          within c.tree-item.is (ap (λ z. statement_sites s (plain_of x) ++ statements_sites z rest) (sym behind)) c.loop-tree.invariant.found c.in_ok-more.ensures.found;
      scope = ap (λ z. after_statements z rest) behind ∙ left-turn (λ l. after_statements s (plain_trees l)) xs i x _ within c.tree-item.is c.loop-tree.invariant.scope;
      variables =
          list-turn (λ l. statements_variables s (plain_trees l)) (λ l. statements_variables n (plain_trees l)) (statement_variables s (plain_of x)) xs i x (held_of c.loop-tree.scope).variables (held_of c.statement.new.scope).variables _
          within c.tree-item.is (ap (λ z. statement_variables s (plain_of x) ++ statements_variables z rest) (sym behind)) c.loop-tree.invariant.variables c.in_ok-more.ensures.variables;
    }

pub statements-loop-tree-init : goal.statements-loop-tree-init
statements-loop-tree-init t c =
    let s = scope_of c.args.scope.now in
    let f = c.args.found.now in
    let v = (held_of c.args.scope.now).variables in
    let all = statements_code s (plain_trees c.as_slice-tree-items.result.now) in
    record {
      code = ap (λ l. appended (made_stmts (Some l)) all) c.new.ensures ∙ appended-first all;
      found = refl;
      scope = refl;
      variables = refl;
    }

pub statements-returns : goal.statements-returns
statements-returns t c =
    let s = scope_of c.args.scope.now in
    let f = c.args.found.now in
    let v = (held_of c.args.scope.now).variables in
    let n = scope_of c.loop-tree.scope in
    let xs = c.as_slice-tree-items.result.now in
    let i = c.loop-tree.tree-index in
    let items = c.as_slice-tree-items.ensures in
    record {
      code = code-end (λ l. statements_code n (plain_trees l)) xs i (made_stmts c.loop-tree.made) _ (omega arith) refl c.loop-tree.invariant.code ∙ ap (λ l. statements_code s (plain_trees l)) items;
      found = noted-end (λ l. statements_sites n (plain_trees l)) xs i _ c.loop-tree.found (omega arith) refl c.loop-tree.invariant.found ∙ ap (λ l. noted f (statements_sites s (plain_trees l))) items;
      scope = left-end (λ l. after_statements n (plain_trees l)) xs i _ (omega arith) c.loop-tree.invariant.scope ∙ ap (λ l. after_statements s (plain_trees l)) items;
      variables = list-end (λ l. statements_variables n (plain_trees l)) xs i (held_of c.loop-tree.scope).variables _ (omega arith) refl c.loop-tree.invariant.variables ∙ ap (λ l. v ++ statements_variables s (plain_trees l)) items;
    }
