use Rattle.std.proofs.Common.{◌∙◌, ◌&&◌, None, Some, refl, sym, ap, is_some}
use Rattle.hl_parser.specs.Views.{plain_of}
use Rattle.hl_rules.specs.Constants.{constant_number}
use Rattle.hl_rules.specs.DeclarationRules.{is_minus, is_signed_or_truth, is_truth_word}
use Rattle.hl_rules.specs.Source.{terminal_at}
use Rattle.hl_values.specs.ScopeViews.{scope_of}
use Rattle.hl_types.proofs.InitShapes.{no_sign, sign-tree, word-tree}
use Rattle.hl_types.proofs.constant_words.is_signed_or_truth.Goals as goal

pub returns-in-Some : goal.returns-in-Some
returns-in-Some c =
    sym (ap (is_signed_or_truth (scope_of c.args.scope.now))
    (word-tree c.args.tree.now c.in-Primary.at c.in-Primary.part c.in-Primary.arguments (Some c.in-Some.field-0) c.in-Primary.arguments c.in-Primary.is c.in-Some.is refl))

pub returns-in-Some-arguments : goal.returns-in-Some-arguments
returns-in-Some-arguments c =
    sym (ap (is_signed_or_truth (scope_of c.args.scope.now))
    (word-tree c.args.tree.now c.in-Primary.at c.in-Primary.part c.in-Primary.arguments None (Some c.in-Some-arguments.field-0) c.in-Primary.is c.in-None.is c.in-Some-arguments.is))

pub returns-in-None-arguments : goal.returns-in-None-arguments
returns-in-None-arguments c =
    c.is_truth_word.ensures ∙ (ap is_truth_word c.terminal_at.ensures ∙
    sym (ap (is_signed_or_truth (scope_of c.args.scope.now))
    (word-tree c.args.tree.now c.in-Primary.at c.in-Primary.part c.in-Primary.arguments None None c.in-Primary.is c.in-None.is c.in-None-arguments.is)))

pub returns-in-Some-cast : goal.returns-in-Some-cast
returns-in-Some-cast c =
    sym (ap (is_signed_or_truth (scope_of c.args.scope.now))
    (sign-tree c.args.tree.now c.in-Unary.operand c.in-Unary.at c.in-Unary.cast (Some c.in-Some-cast.field-0) c.in-Unary.is c.in-Some-cast.is))

pub returns-in-None-cast : goal.returns-in-None-cast
returns-in-None-cast c =
    let s = scope_of c.args.scope.now in
    c.is_negative.ensures ∙ (ap (λ x. is_minus (terminal_at s.tokens c.in-Unary.at) && is_some (constant_number s (plain_of x))) c.get.ensures ∙
    sym (ap (is_signed_or_truth s) (sign-tree c.args.tree.now c.in-Unary.operand c.in-Unary.at c.in-Unary.cast None c.in-Unary.is c.in-None-cast.is)))

pub returns-in_default : goal.returns-in_default
returns-in_default c = sym (no_sign (scope_of c.args.scope.now) c.args.tree.now c.in_default.not-Primary c.in_default.not-Unary).leaf
