use Rattle.std.proofs.Common.{◌∙◌, sym, ap, refl, ◌<◌, ◌++◌, length, Some, None, arith, rules}
use Rattle.std.proofs.lemmas.Result.{IfOk-weaker}
use Rattle.hl_parser.specs.declared.tree.Tree.{Tree}
use Rattle.hl_parser.specs.Trees.{a_binary, a_choice, a_postfix, a_primary, a_unary, an_expr, at_of, present}
use Rattle.hl_parser.specs.Views.{plain_maybe, plain_of, plain_trees}
use Rattle.hl_parser.proofs.Plain.{plain-And, plain-Args, plain-Bitand, plain-Bitor, plain-Bitxor, plain-Choice, plain-Equal, plain-Expr, plain-Less, plain-Or, plain-Postfix, plain-Primary, plain-Product, plain-Shift, plain-Sum, plain-Unary}
use Rattle.hl_rules.specs.ExpressionRules.{argument_trees}
use Rattle.hl_rules.specs.Rules.{noted}
use Rattle.hl_rules.specs.Sites.{argument_sites, arguments_sites, buffer_or_used, expression_sites, value_sites}
use Rattle.hl_rules.specs.Source.{terminal_at}
use Rattle.hl_rules.specs.Values.{value_of}
use Rattle.hl_rules.proofs.Noting.{noted-append, noted-none}
use Rattle.hl_types.proofs.ExpressionWalks.{before-buffer, before-value, behind-operand, behind-use, empty-typed, found-as, found-behind, found-list, part-first, part-last, part-turn, three-sides, two-sides, typed-as, typed-inside, typed-list}
use Rattle.hl_types.proofs.OtherTrees.{bare-of, nothing-of}
use Rattle.hl_types.proofs.Turns.{noted-end, noted-turn}
use Rattle.hl_values.specs.Basics.{production_of}
use Rattle.hl_values.specs.Noted.{noted_operand, noted_side, noted_use}
use Rattle.hl_values.specs.ScopeViews.{scope_of}
use Rattle.hl_values.proofs.ExpressionLemmas.{known-typed, noted-there}
use Rattle.hl_values.proofs.NoteLemmas.{used-noted}
use Rattle.hl_types.proofs.expressions.+expressions.Goals as goal

pub expression-returns-in-Primary : goal.expression-returns-in-Primary
expression-returns-in-Primary t c =
    let s = scope_of c.args.scope.now in
    let tree = plain_of c.args.tree.now in
    let same = ap plain_of c.in-Primary.is ∙ plain-Primary c.in-Primary.at c.in-Primary.part c.in-Primary.arguments in
    record {
      typed = typed-as s tree _ c.primary.result same c.primary.ensures.typed;
      found = found-as s tree _ c.primary.result c.args.found.now c.primary.new.found same c.primary.ensures.found;
    }

pub expression-returns-in-Postfix : goal.expression-returns-in-Postfix
expression-returns-in-Postfix t c =
    let s = scope_of c.args.scope.now in
    let tree = plain_of c.args.tree.now in
    let same = ap plain_of c.in-Postfix.is ∙ (plain-Postfix c.in-Postfix.at c.in-Postfix.operand c.in-Postfix.mark c.in-Postfix.name c.in-Postfix.part ∙
    ap (λ (o : Tree). a_postfix c.in-Postfix.at (plain_of o) c.in-Postfix.mark c.in-Postfix.name (plain_maybe c.in-Postfix.part)) (sym c.get.ensures)) in
    record {
      typed = typed-as s tree _ c.postfix.result same c.postfix.ensures.typed;
      found = found-as s tree _ c.postfix.result c.args.found.now c.postfix.new.found same c.postfix.ensures.found;
    }

pub expression-returns-in_ok-value-in-Unary : goal.expression-returns-in_ok-value-in-Unary
expression-returns-in_ok-value-in-Unary t c =
    let s = scope_of c.args.scope.now in
    let tree = plain_of c.args.tree.now in
    let value = c.in_ok-value-in-Unary.ensures in
    let same = ap plain_of c.in-Unary.is ∙ (plain-Unary c.in-Unary.at c.in-Unary.cast c.in-Unary.operand ∙ ap (λ (o : Tree). a_unary c.in-Unary.at (plain_maybe c.in-Unary.cast) (plain_of o)) (sym c.get-operand.ensures)) in
    record {
      typed = typed-as s tree _ c.whole_unary.result same c.whole_unary.ensures.typed;
      found = found-behind s tree _ (λ g. noted g (expression_sites s (plain_of c.get-operand.result.now))) c.whole_unary.result c.args.found.now c.expression.new.found c.whole_unary.new.found same value.found c.whole_unary.ensures.found;
    }

pub expression-returns-in-Expr : goal.expression-returns-in-Expr
expression-returns-in-Expr t c =
    let s = scope_of c.args.scope.now in
    let tree = plain_of c.args.tree.now in
    let same = ap plain_of c.in-Expr.is ∙ plain-Expr c.in-Expr.at c.in-Expr.left c.in-Expr.mark c.in-Expr.right in
    record {
      typed = typed-as s tree _ c.assignment.result same c.assignment.ensures.typed;
      found = found-as s tree _ c.assignment.result c.args.found.now c.assignment.new.found same c.assignment.ensures.found;
    }

pub expression-returns-in-Choice : goal.expression-returns-in-Choice
expression-returns-in-Choice t c =
    let s = scope_of c.args.scope.now in
    let tree = plain_of c.args.tree.now in
    let same = ap plain_of c.in-Choice.is ∙ plain-Choice c.in-Choice.at c.in-Choice.condition c.in-Choice.consequent c.in-Choice.alternative in
    record {
      typed = typed-as s tree _ c.conditional.result same c.conditional.ensures.typed;
      found = found-as s tree _ c.conditional.result c.args.found.now c.conditional.new.found same c.conditional.ensures.found;
    }

pub expression-returns-in-Or : goal.expression-returns-in-Or
expression-returns-in-Or t c =
    let s = scope_of c.args.scope.now in
    let tree = plain_of c.args.tree.now in
    let same = ap plain_of c.in-Or.is ∙ plain-Or c.in-Or.at c.in-Or.left c.in-Or.mark c.in-Or.right in
    record {
      typed = typed-as s tree _ c.operation.result same c.operation.ensures.typed;
      found = found-as s tree _ c.operation.result c.args.found.now c.operation.new.found same c.operation.ensures.found;
    }

pub expression-returns-in-And : goal.expression-returns-in-And
expression-returns-in-And t c =
    let s = scope_of c.args.scope.now in
    let tree = plain_of c.args.tree.now in
    let same = ap plain_of c.in-And.is ∙ plain-And c.in-And.at c.in-And.left c.in-And.mark c.in-And.right in
    record {
      typed = typed-as s tree _ c.operation-in-And.result same c.operation-in-And.ensures.typed;
      found = found-as s tree _ c.operation-in-And.result c.args.found.now c.operation-in-And.new.found same c.operation-in-And.ensures.found;
    }

pub expression-returns-in-Bitor : goal.expression-returns-in-Bitor
expression-returns-in-Bitor t c =
    let s = scope_of c.args.scope.now in
    let tree = plain_of c.args.tree.now in
    let same = ap plain_of c.in-Bitor.is ∙ plain-Bitor c.in-Bitor.at c.in-Bitor.left c.in-Bitor.mark c.in-Bitor.right in
    record {
      typed = typed-as s tree _ c.operation-in-Bitor.result same c.operation-in-Bitor.ensures.typed;
      found = found-as s tree _ c.operation-in-Bitor.result c.args.found.now c.operation-in-Bitor.new.found same c.operation-in-Bitor.ensures.found;
    }

pub expression-returns-in-Bitxor : goal.expression-returns-in-Bitxor
expression-returns-in-Bitxor t c =
    let s = scope_of c.args.scope.now in
    let tree = plain_of c.args.tree.now in
    let same = ap plain_of c.in-Bitxor.is ∙ plain-Bitxor c.in-Bitxor.at c.in-Bitxor.left c.in-Bitxor.mark c.in-Bitxor.right in
    record {
      typed = typed-as s tree _ c.operation-in-Bitxor.result same c.operation-in-Bitxor.ensures.typed;
      found = found-as s tree _ c.operation-in-Bitxor.result c.args.found.now c.operation-in-Bitxor.new.found same c.operation-in-Bitxor.ensures.found;
    }

pub expression-returns-in-Bitand : goal.expression-returns-in-Bitand
expression-returns-in-Bitand t c =
    let s = scope_of c.args.scope.now in
    let tree = plain_of c.args.tree.now in
    let same = ap plain_of c.in-Bitand.is ∙ plain-Bitand c.in-Bitand.at c.in-Bitand.left c.in-Bitand.mark c.in-Bitand.right in
    record {
      typed = typed-as s tree _ c.operation-in-Bitand.result same c.operation-in-Bitand.ensures.typed;
      found = found-as s tree _ c.operation-in-Bitand.result c.args.found.now c.operation-in-Bitand.new.found same c.operation-in-Bitand.ensures.found;
    }

pub expression-returns-in-Equal : goal.expression-returns-in-Equal
expression-returns-in-Equal t c =
    let s = scope_of c.args.scope.now in
    let tree = plain_of c.args.tree.now in
    let same = ap plain_of c.in-Equal.is ∙ plain-Equal c.in-Equal.at c.in-Equal.left c.in-Equal.mark c.in-Equal.right in
    record {
      typed = typed-as s tree _ c.operation-in-Equal.result same c.operation-in-Equal.ensures.typed;
      found = found-as s tree _ c.operation-in-Equal.result c.args.found.now c.operation-in-Equal.new.found same c.operation-in-Equal.ensures.found;
    }

pub expression-returns-in-Less : goal.expression-returns-in-Less
expression-returns-in-Less t c =
    let s = scope_of c.args.scope.now in
    let tree = plain_of c.args.tree.now in
    let same = ap plain_of c.in-Less.is ∙ plain-Less c.in-Less.at c.in-Less.left c.in-Less.mark c.in-Less.right in
    record {
      typed = typed-as s tree _ c.operation-in-Less.result same c.operation-in-Less.ensures.typed;
      found = found-as s tree _ c.operation-in-Less.result c.args.found.now c.operation-in-Less.new.found same c.operation-in-Less.ensures.found;
    }

pub expression-returns-in-Shift : goal.expression-returns-in-Shift
expression-returns-in-Shift t c =
    let s = scope_of c.args.scope.now in
    let tree = plain_of c.args.tree.now in
    let same = ap plain_of c.in-Shift.is ∙ plain-Shift c.in-Shift.at c.in-Shift.left c.in-Shift.mark c.in-Shift.right in
    record {
      typed = typed-as s tree _ c.operation-in-Shift.result same c.operation-in-Shift.ensures.typed;
      found = found-as s tree _ c.operation-in-Shift.result c.args.found.now c.operation-in-Shift.new.found same c.operation-in-Shift.ensures.found;
    }

pub expression-returns-in-Sum : goal.expression-returns-in-Sum
expression-returns-in-Sum t c =
    let s = scope_of c.args.scope.now in
    let tree = plain_of c.args.tree.now in
    let same = ap plain_of c.in-Sum.is ∙ plain-Sum c.in-Sum.at c.in-Sum.left c.in-Sum.mark c.in-Sum.right in
    record {
      typed = typed-as s tree _ c.operation-in-Sum.result same c.operation-in-Sum.ensures.typed;
      found = found-as s tree _ c.operation-in-Sum.result c.args.found.now c.operation-in-Sum.new.found same c.operation-in-Sum.ensures.found;
    }

pub expression-returns-in-Product : goal.expression-returns-in-Product
expression-returns-in-Product t c =
    let s = scope_of c.args.scope.now in
    let tree = plain_of c.args.tree.now in
    let same = ap plain_of c.in-Product.is ∙ plain-Product c.in-Product.at c.in-Product.left c.in-Product.mark c.in-Product.right in
    record {
      typed = typed-as s tree _ c.operation-in-Product.result same c.operation-in-Product.ensures.typed;
      found = found-as s tree _ c.operation-in-Product.result c.args.found.now c.operation-in-Product.new.found same c.operation-in-Product.ensures.found;
    }

pub expression-returns-in_default : goal.expression-returns-in_default
expression-returns-in_default t c =
    let s = scope_of c.args.scope.now in
    let tree = plain_of c.args.tree.now in
    let d = c.in_default in
    let nothing = nothing-of s c.args.tree.now d.not-Primary d.not-Postfix d.not-Unary d.not-Expr d.not-Choice d.not-Or d.not-And d.not-Bitor d.not-Bitxor d.not-Bitand d.not-Equal d.not-Less d.not-Shift d.not-Sum d.not-Product in
    record {
      typed = known-typed s tree c.value.result (c.value.ensures ∙ sym nothing.0);
      found = sym (ap (noted c.args.found.now) nothing.1 ∙ noted-none c.args.found.now);
    }

pub used-returns : goal.used-returns
used-returns t c =
    let s = scope_of c.args.scope.now in
    let e = plain_of c.args.tree.now in
    let value = c.in_ok-value in
    record {
      typed = value.ensures.typed;
      found = behind-use c.args.found.now c.expression.new.found c.note_use.new.found s e value.value c.at.result value.ensures.typed c.at.ensures value.ensures.found c.note_use.ensures;
    }

pub operation-returns : goal.operation-returns
operation-returns t c =
    let s = scope_of c.args.scope.now in
    let f = c.args.found.now in
    let l = plain_of c.get-left.result.now in
    let r = plain_of c.get-right.result.now in
    let first = c.in_ok-first in
    let second = c.in_ok-second in
    let same = two-sides (λ x y. a_binary (production_of c.args.operator) c.args.at x c.args.mark y) c.get-left.result.now c.get-right.result.now c.args.left.now c.args.right.now c.get-left.ensures c.get-right.ensures in
    let behind = behind-operand f c.expression.new.found c.note_operand.new.found s l first.first c.at.result first.ensures.typed c.at.ensures first.ensures.found c.note_operand.ensures in
    record {
      typed = typed-as s _ _ c.whole_binary.result same c.whole_binary.ensures.typed;
      found = found-behind s _ _ (λ g. noted (noted_operand (noted g (expression_sites s l)) (value_of s l) (at_of l)) (expression_sites s r)) c.whole_binary.result f c.expression-2.new.found c.whole_binary.new.found same
          (second.ensures.found ∙ ap (λ g. noted g (expression_sites s r)) behind) c.whole_binary.ensures.found;
    }

pub assignment-returns : goal.assignment-returns
assignment-returns t c =
    let s = scope_of c.args.scope.now in
    let f = c.args.found.now in
    let l = plain_of c.get-left.result.now in
    let r = plain_of c.get-right.result.now in
    let first = c.in_ok-first in
    let second = c.in_ok-second in
    let same = two-sides (λ x y. an_expr c.args.at x c.args.mark y) c.get-left.result.now c.get-right.result.now c.args.left.now c.args.right.now c.get-left.ensures c.get-right.ensures in
    let behind = noted-there (λ x. noted_side x c.terminal_at.result) c.expression.new.found (noted f (expression_sites s l)) c.note_side.new.found s l first.first c.at.result first.ensures.typed c.at.ensures first.ensures.found c.note_side.ensures ∙
    ap (λ m. noted_side (noted f (expression_sites s l)) m (value_of s l) (at_of l)) c.terminal_at.ensures in
    record {
      typed = typed-as s _ _ c.whole_assignment.result same c.whole_assignment.ensures.typed;
      found = found-behind s _ _ (λ g. noted (noted_side (noted g (expression_sites s l)) (terminal_at s.tokens c.args.mark) (value_of s l) (at_of l)) (expression_sites s r)) c.whole_assignment.result f c.expression-2.new.found c.whole_assignment.new.found same
          (second.ensures.found ∙ ap (λ g. noted g (expression_sites s r)) behind) c.whole_assignment.ensures.found;
    }

pub conditional-returns : goal.conditional-returns
conditional-returns t c =
    let s = scope_of c.args.scope.now in
    let f = c.args.found.now in
    let x = plain_of c.get-condition.result.now in
    let y = plain_of c.get-consequent.result.now in
    let z = plain_of c.get-alternative.result.now in
    let first = c.in_ok-first in
    let second = c.in_ok-second in
    let third = c.in_ok-third in
    let same = three-sides (a_choice c.args.at) c.get-condition.result.now c.get-consequent.result.now c.get-alternative.result.now c.args.condition.now c.args.consequent.now c.args.alternative.now c.get-condition.ensures c.get-consequent.ensures c.get-alternative.ensures in
    let one = behind-operand f c.expression.new.found c.note_operand.new.found s x first.first c.at.result first.ensures.typed c.at.ensures first.ensures.found c.note_operand.ensures in
    let g = noted_operand (noted f (expression_sites s x)) (value_of s x) (at_of x) in
    let two = behind-operand g c.expression-2.new.found c.note_operand-2.new.found s y second.second c.at-2.result second.ensures.typed c.at-2.ensures (second.ensures.found ∙ ap (λ h. noted h (expression_sites s y)) one) c.note_operand-2.ensures in
    record {
      typed = typed-as s _ _ c.whole_choice.result same c.whole_choice.ensures.typed;
      found = found-behind s _ _ (λ k. noted (noted_operand (noted (noted_operand (noted k (expression_sites s x)) (value_of s x) (at_of x)) (expression_sites s y)) (value_of s y) (at_of y)) (expression_sites s z)) c.whole_choice.result f c.expression-3.new.found c.whole_choice.new.found same
          (third.ensures.found ∙ ap (λ h. noted h (expression_sites s z)) two) c.whole_choice.ensures.found;
    }

pub primary-returns-in-Some : goal.primary-returns-in-Some
primary-returns-in-Some t c =
    let s = scope_of c.args.scope.now in
    let part = plain_maybe c.args.part.now in
    let same = ap (λ m. a_primary c.args.at part (plain_maybe m)) c.in-Some.is ∙ ap (λ (x : Tree). a_primary c.args.at part (present (plain_of x))) (sym c.get.ensures) in
    record {
      typed = typed-as s _ _ c.called.result same c.called.ensures.typed;
      found = found-as s _ _ c.called.result c.args.found.now c.called.new.found same c.called.ensures.found;
    }

pub primary-returns-in-Some-part : goal.primary-returns-in-Some-part
primary-returns-in-Some-part t c =
    let s = scope_of c.args.scope.now in
    let inner = plain_of c.get-in-Some-part.result.now in
    let same = ap (λ m. a_primary c.args.at (plain_maybe c.args.part.now) (plain_maybe m)) c.in-None.is ∙
    (ap (λ m. a_primary c.args.at (plain_maybe m) (plain_maybe None)) c.in-Some-part.is ∙ ap (λ (x : Tree). a_primary c.args.at (present (plain_of x)) (plain_maybe None)) (sym c.get-in-Some-part.ensures)) in
    record {
      typed = typed-as s _ _ c.expression.result same (IfOk-weaker c.expression.result _ _ (λ v is. typed-inside s c.args.at inner v is) c.expression.ensures.typed);
      found = found-as s _ _ c.expression.result c.args.found.now c.expression.new.found same c.expression.ensures.found;
    }

pub primary-returns-in-None-part : goal.primary-returns-in-None-part
primary-returns-in-None-part t c =
    let s = scope_of c.args.scope.now in
    let same = ap (λ m. a_primary c.args.at (plain_maybe c.args.part.now) (plain_maybe m)) c.in-None.is ∙ ap (λ m. a_primary c.args.at (plain_maybe m) (plain_maybe None)) c.in-None-part.is in
    record {
      typed = typed-as s _ _ c.whole_word.result same c.whole_word.ensures.typed;
      found = found-as s _ _ c.whole_word.result c.args.found.now c.whole_word.new.found same c.whole_word.ensures.found;
    }

pub called-returns-in-Some : goal.called-returns-in-Some
called-returns-in-Some t c =
    let s = scope_of c.args.scope.now in
    let list = plain_of c.args.list.now in
    let same = ap (λ m. a_primary c.args.at (plain_maybe m) (present list)) c.in-Some.is ∙ ap (λ (x : Tree). a_primary c.args.at (present (plain_of x)) (present list)) (sym c.get.ensures) in
    record {
      typed = typed-as s _ _ c.whole_constructor.result same c.whole_constructor.ensures.typed;
      found = found-behind s _ _ (λ g. noted g (argument_sites s list)) c.whole_constructor.result c.args.found.now c.argument_list.new.found c.whole_constructor.new.found same c.in_ok-args.ensures.found c.whole_constructor.ensures.found;
    }

pub called-returns-in-None : goal.called-returns-in-None
called-returns-in-None t c =
    let s = scope_of c.args.scope.now in
    let list = plain_of c.args.list.now in
    let same = ap (λ m. a_primary c.args.at (plain_maybe m) (present list)) c.in-None.is in
    record {
      typed = typed-as s _ _ c.whole_call.result same c.whole_call.ensures.typed;
      found = found-behind s _ _ (λ g. noted g (argument_sites s list)) c.whole_call.result c.args.found.now c.argument_list.new.found c.whole_call.new.found same c.in_ok-args.ensures.found c.whole_call.ensures.found;
    }

pub argument_list-returns-in-Args : goal.argument_list-returns-in-Args
argument_list-returns-in-Args t c =
    let s = scope_of c.args.scope.now in
    let same = ap plain_of c.in-Args.is ∙ plain-Args c.in-Args.at c.in-Args.trees in
    record {
      typed = IfOk-weaker c.arguments.result _ _ (λ args is. typed-list s _ _ args (ap argument_trees same) is) c.arguments.ensures.typed;
      found = found-list s _ _ c.arguments.result c.args.found.now c.arguments.new.found same c.arguments.ensures.found;
    }

pub argument_list-returns-in_default : goal.argument_list-returns-in_default
argument_list-returns-in_default t c =
    let s = scope_of c.args.scope.now in
    let bare = bare-of s c.args.list.now c.in_default.not-Args in
    record {
      typed = typed-list s _ _ c.new.result bare.0 (empty-typed s c.new.result c.new.ensures);
      found = sym (ap (noted c.args.found.now) bare.1 ∙ noted-none c.args.found.now);
    }

pub arguments-loop-tree-init : goal.arguments-loop-tree-init
arguments-loop-tree-init t c = record {
  typed = part-first (scope_of c.args.scope.now) (plain_trees c.as_slice-tree-items.result.now) c.new-args.result c.new-args.ensures;
  found = refl;
}

pub arguments-loop-tree-preserved : goal.arguments-loop-tree-preserved
arguments-loop-tree-preserved t c =
    let s = scope_of c.args.scope.now in
    let xs = c.as_slice-tree-items.result.now in
    let i = c.loop-tree.tree-index in
    let x = c.tree-item.result in
    let value = c.in_ok-value in
    let within : i < length xs = search rules in
    record {
      typed = part-turn s (plain_trees xs) xs i x c.loop-tree.args c.push.new.self value.value within c.tree-item.is c.loop-tree.invariant.typed value.ensures.typed c.in_ok-push.ensures.ok;
      found = noted-turn (λ l. arguments_sites s (plain_trees l)) (λ l. arguments_sites s (plain_trees l)) xs i x (value_sites s (plain_of x)) _ c.loop-tree.found c.used.new.found within c.tree-item.is refl c.loop-tree.invariant.found value.ensures.found;
    }

pub arguments-returns : goal.arguments-returns
arguments-returns t c =
    let s = scope_of c.args.scope.now in
    let xs = c.as_slice-tree-items.result.now in
    let i = c.loop-tree.tree-index in
    let items = c.as_slice-tree-items.ensures in
    record {
      typed = typed-list s _ _ c.loop-tree.args (sym (ap plain_trees items)) (part-last s (plain_trees xs) xs i c.loop-tree.args (omega arith) c.loop-tree.invariant.typed);
      found = noted-end (λ l. arguments_sites s (plain_trees l)) xs i _ c.loop-tree.found (omega arith) refl c.loop-tree.invariant.found ∙ ap (λ l. noted c.args.found.now (arguments_sites s (plain_trees l))) items;
    }

pub postfix-returns-in-Some-part : goal.postfix-returns-in-Some-part
postfix-returns-in-Some-part t c =
    let s = scope_of c.args.scope.now in
    let f = c.args.found.now in
    let operand = plain_of c.args.operand.now in
    let same = ap (λ n. a_postfix c.args.at operand c.args.mark n (plain_maybe c.args.part.now)) c.in-Some.is ∙
    (ap (λ m. a_postfix c.args.at operand c.args.mark (Some c.in-Some.name) (plain_maybe m)) c.in-Some-part.is ∙ ap (λ (x : Tree). a_postfix c.args.at operand c.args.mark (Some c.in-Some.name) (present (plain_of x))) (sym c.get.ensures)) in
    record {
      typed = typed-as s _ _ c.method.result same c.method.ensures.typed;
      found = found-as s _ _ c.method.result f c.method.new.found same c.method.ensures.found;
    }

pub unless_buffer-returns-then-is_buffer : goal.unless_buffer-returns-then-is_buffer
unless_buffer-returns-then-is_buffer t c =
    let s = scope_of c.args.scope.now in
    let e = plain_of c.args.operand.now in
    before-buffer c.args.found.now s e (expression_sites s e) (sym c.is_buffer.ensures ∙ c.if-is_buffer.true)

pub unless_buffer-returns : goal.unless_buffer-returns
unless_buffer-returns t c =
    let s = scope_of c.args.scope.now in
    let e = plain_of c.args.operand.now in
    c.in_ok-used.ensures.found ∙ before-value c.args.found.now s e (expression_sites s e) (sym c.is_buffer.ensures ∙ c.if-is_buffer.false)

pub method-returns : goal.method-returns
method-returns t c =
    let s = scope_of c.args.scope.now in
    let f = c.args.found.now in
    let e = plain_of c.args.operand.now in
    let list = argument_sites s (plain_of c.args.list.now) in
    let before = buffer_or_used s e (expression_sites s e) in
    record {
      typed = c.whole_method.ensures.typed;
      found = found-behind s _ (a_postfix c.args.at e c.args.mark (Some c.args.name) (present (plain_of c.args.list.now))) (λ g. noted g (before ++ list)) c.whole_method.result f c.argument_list.new.found c.whole_method.new.found refl
          (c.in_ok-args.ensures.found ∙ (ap (λ g. noted g list) c.in_ok-unless_buffer.ensures ∙ sym (noted-append f before list))) c.whole_method.ensures.found;
    }

pub indexed-whole_element-requires : goal.indexed-whole_element-requires
indexed-whole_element-requires t c = record { buffer = sym c.is_buffer.ensures ∙ c.if-is_buffer.true; value = c.in_ok-value.ensures.typed }

pub indexed-whole_index-requires : goal.indexed-whole_index-requires
indexed-whole_index-requires t c = record { value = sym c.is_buffer.ensures ∙ c.if-is_buffer.false; first = c.in_ok-first.ensures.typed; second = c.in_ok-second.ensures.typed }

pub indexed-returns : goal.indexed-returns
indexed-returns t c =
    let s = scope_of c.args.scope.now in
    let f = c.args.found.now in
    let e = plain_of c.args.operand.now in
    let i = expression_sites s (plain_of c.args.index.now) in
    record {
      typed = c.whole_index.ensures.typed;
      found = found-behind s _ (a_postfix c.args.at e c.args.mark None (present (plain_of c.args.index.now))) (λ g. noted (noted_use (noted g (expression_sites s e)) (value_of s e) (at_of e)) i) c.whole_index.result f _ c.whole_index.new.found refl
          (c.in_ok-second.ensures.found ∙ ap (λ g. noted g i) (c.in_ok-first.ensures.found ∙ used-noted f s e (expression_sites s e))) c.whole_index.ensures.found;
    }
