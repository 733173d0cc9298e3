use Rattle.std.proofs.Common.{◌∙◌, None, Some, sym, ap}
use Rattle.hl_parser.specs.Views.{plain_of}
use Rattle.hl_rules.specs.Constants.{constant_number}
use Rattle.hl_rules.specs.Declarations.{init_number}
use Rattle.hl_values.specs.ScopeViews.{scope_of}
use Rattle.hl_types.proofs.InitShapes.{init-tree, no_init}
use Rattle.hl_types.proofs.constant_words.init_number.Goals as goal

pub returns-in-Some : goal.returns-in-Some
returns-in-Some c =
    let s = scope_of c.args.scope.now in
    c.constant_number.ensures ∙ (ap (λ x. constant_number s (plain_of x)) c.get.ensures ∙
    sym (ap (init_number s) (init-tree c.args.tree.now c.in-Init.at c.in-Init.value (Some c.in-Some.value) c.in-Init.parts c.in-Init.is c.in-Some.is)))

pub returns-in-None : goal.returns-in-None
returns-in-None c =
    sym (ap (init_number (scope_of c.args.scope.now)) (init-tree c.args.tree.now c.in-Init.at c.in-Init.value None c.in-Init.parts c.in-Init.is c.in-None.is))

pub returns-in_default : goal.returns-in_default
returns-in_default c = sym (no_init (scope_of c.args.scope.now) c.args.tree.now c.in_default.not-Init).number
