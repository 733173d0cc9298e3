use Rattle.std.proofs.Common.{◌∙◌, ◌||◌, None, Some, sym, ap, is_some}
use Rattle.hl_parser.specs.Views.{plain_of}
use Rattle.hl_rules.specs.Constants.{constant_number}
use Rattle.hl_rules.specs.DeclarationRules.{is_constant_init, is_signed_or_truth}
use Rattle.hl_values.specs.ScopeViews.{scope_of}
use Rattle.hl_types.proofs.InitShapes.{init-tree, no_init}
use Rattle.hl_types.proofs.constant_words.+constant_inits.Goals as goal

pub is_constant_init-returns-in-Some : goal.is_constant_init-returns-in-Some
is_constant_init-returns-in-Some t c =
    let s = scope_of c.args.scope.now in
    c.is_constant_leaf.ensures ∙ (ap (λ x. is_some (constant_number s (plain_of x)) || is_signed_or_truth s (plain_of x)) c.get.ensures ∙
    sym (ap (is_constant_init s) (init-tree c.args.tree.now c.in-Init.at c.in-Init.value (Some c.in-Some.value) c.in-Init.parts c.in-Init.is c.in-Some.is)))

pub is_constant_init-returns-in-None : goal.is_constant_init-returns-in-None
is_constant_init-returns-in-None t c =
    c.are_constant_inits.ensures ∙
    sym (ap (is_constant_init (scope_of c.args.scope.now)) (init-tree c.args.tree.now c.in-Init.at c.in-Init.value None c.in-Init.parts c.in-Init.is c.in-None.is))

pub is_constant_init-returns-in_default : goal.is_constant_init-returns-in_default
is_constant_init-returns-in_default t c = sym (no_init (scope_of c.args.scope.now) c.args.tree.now c.in_default.not-Init).constant
