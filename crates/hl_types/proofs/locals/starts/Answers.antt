use Rattle.std.proofs.Common.{◌<◌, ◌∙◌, ◌+◌, ◌++◌, Some, refl, sym, ap, drop, length, arith, rules}
use Rattle.hl_parser.specs.Views.{plain_of, plain_trees}
use Rattle.hl_rules.specs.Declarations.{after_starts}
use Rattle.hl_rules.specs.Elaboration.{start_variable, starts_variables}
use Rattle.hl_rules.specs.Rules.{noted}
use Rattle.hl_rules.specs.Sites.{start_sites, starts_sites}
use Rattle.hl_rules.specs.Statements.{appended, start_code, starts_code}
use Rattle.hl_values.specs.ScopeChanges.{held_of}
use Rattle.hl_values.specs.ScopeViews.{scope_of}
use Rattle.hl_values.specs.Views.{plain_type_if}
use Rattle.hl_types.specs.Walks.{made_stmts}
use Rattle.hl_types.proofs.Turns.{left-end, left-turn, noted-end, noted-turn}
use Rattle.hl_types.proofs.Walking.{appended-first, code-end, code-turn, list-end, list-turn}
use Rattle.hl_types.proofs.locals.starts.Goals as goal

pub loop-tree-init : goal.loop-tree-init
loop-tree-init c =
    let all = starts_code (scope_of c.args.scope.now) (plain_type_if c.args.ty.now) c.args.is_const (plain_trees c.as_slice-tree-items.result.now) in
    record {
      code = ap (λ l. appended (made_stmts (Some l)) all) c.new.ensures ∙ appended-first all;
      found = refl;
      scope = refl;
      variables = refl;
    }

pub loop-tree-preserved : goal.loop-tree-preserved
loop-tree-preserved c =
    let ty = plain_type_if c.args.ty.now in
    let k = c.args.is_const in
    let s = scope_of c.loop-tree.scope in
    let n = scope_of c.start.new.scope in
    let xs = c.as_slice-tree-items.result.now in
    let i = c.loop-tree.tree-index in
    let x = c.tree-item.result in
    let rest = plain_trees (drop (i + 1) xs) in
    let within : i < length xs = search rules in
    let behind = c.in_ok-more.ensures.scope in
    record {
      code =
          code-turn (λ l. starts_code s ty k (plain_trees l)) (λ l. starts_code n ty k (plain_trees l)) (start_code s ty (plain_of x)) xs i x (made_stmts c.loop-tree.made) (made_stmts c.in_ok-made.made) _
          within c.tree-item.is (ap (λ z. appended (start_code s ty (plain_of x)) (starts_code z ty k rest)) (sym behind)) c.loop-tree.invariant.code
          (c.in_ok-made.ensures ∙ ap (appended (made_stmts c.loop-tree.made)) c.in_ok-more.ensures.code);
      found =
          noted-turn (λ l. starts_sites s ty k (plain_trees l)) (λ l. starts_sites n ty k (plain_trees l)) xs i x (start_sites s ty (plain_of x)) _ c.loop-tree.found c.start.new.found
          within c.tree-item.is (ap (λ z. start_sites s ty (plain_of x) ++ starts_sites z ty k rest) (sym behind)) c.loop-tree.invariant.found c.in_ok-more.ensures.found;
      scope = ap (λ z. after_starts ty k z rest) behind ∙ left-turn (λ l. after_starts ty k s (plain_trees l)) xs i x _ within c.tree-item.is c.loop-tree.invariant.scope;
      variables =
          list-turn (λ l. starts_variables s ty k (plain_trees l)) (λ l. starts_variables n ty k (plain_trees l)) (start_variable s ty (plain_of x)) xs i x (held_of c.loop-tree.scope).variables (held_of c.start.new.scope).variables _
          within c.tree-item.is (ap (λ z. start_variable s ty (plain_of x) ++ starts_variables z ty k rest) (sym behind)) c.loop-tree.invariant.variables c.in_ok-more.ensures.variables;
    }

pub returns : goal.returns
returns c =
    let ty = plain_type_if c.args.ty.now in
    let k = c.args.is_const in
    let s = scope_of c.args.scope.now in
    let n = scope_of c.loop-tree.scope in
    let f = c.args.found.now in
    let v = (held_of c.args.scope.now).variables in
    let xs = c.as_slice-tree-items.result.now in
    let i = c.loop-tree.tree-index in
    let items = c.as_slice-tree-items.ensures in
    record {
      code = code-end (λ l. starts_code n ty k (plain_trees l)) xs i (made_stmts c.loop-tree.made) _ (omega arith) refl c.loop-tree.invariant.code ∙ ap (λ l. starts_code s ty k (plain_trees l)) items;
      found = noted-end (λ l. starts_sites n ty k (plain_trees l)) xs i _ c.loop-tree.found (omega arith) refl c.loop-tree.invariant.found ∙ ap (λ l. noted f (starts_sites s ty k (plain_trees l))) items;
      scope = left-end (λ l. after_starts ty k n (plain_trees l)) xs i _ (omega arith) c.loop-tree.invariant.scope ∙ ap (λ l. after_starts ty k s (plain_trees l)) items;
      variables = list-end (λ l. starts_variables n ty k (plain_trees l)) xs i (held_of c.loop-tree.scope).variables _ (omega arith) refl c.loop-tree.invariant.variables ∙ ap (λ l. v ++ starts_variables s ty k (plain_trees l)) items;
    }
