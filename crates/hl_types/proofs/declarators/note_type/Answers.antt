use Rattle.std.proofs.Common.{◌∙◌, sym, ap}
use Rattle.hl_parser.specs.Trees.{a_type}
use Rattle.hl_parser.specs.Views.{plain_maybe, plain_of}
use Rattle.hl_parser.proofs.Plain.{plain-Type}
use Rattle.hl_rules.specs.Rules.{noted}
use Rattle.hl_rules.specs.Sites.{type_sites}
use Rattle.hl_rules.proofs.Noting.{noted-none}
use Rattle.hl_values.specs.ScopeViews.{scope_of}
use Rattle.hl_types.proofs.Shapes.{type_sites-none}
use Rattle.hl_types.proofs.declarators.note_type.Goals as goal

pub returns-in-Some : goal.returns-in-Some
returns-in-Some c =
    let s = scope_of c.args.scope.now in
    let f = c.args.found.now in
    sym (ap (λ t. noted f (type_sites s t)) (ap plain_of c.in-Type.is ∙ (plain-Type _ _ ∙ ap (λ b. a_type c.in-Type.at (plain_maybe b)) c.in-Some.is)) ∙ noted-none f)

pub returns-in-None : goal.returns-in-None
returns-in-None c =
    let s = scope_of c.args.scope.now in
    let f = c.args.found.now in
    c.note_name.ensures ∙ sym (ap (λ t. noted f (type_sites s t)) (ap plain_of c.in-Type.is ∙ (plain-Type _ _ ∙ ap (λ b. a_type c.in-Type.at (plain_maybe b)) c.in-None.is)))

pub returns-in_default : goal.returns-in_default
returns-in_default c =
    let s = scope_of c.args.scope.now in
    let f = c.args.found.now in
    sym (ap (noted f) (type_sites-none s c.args.tree.now c.in_default.not-Type) ∙ noted-none f)
