use Rattle.std.proofs.Common.{◌∙◌, sym, ap}
use Rattle.hl_meaning.specs.declared.expression.Location.{Location}
use Rattle.hl_meaning.specs.declared.expression.Form.TheVariants.{Read}
use Rattle.hl_meaning.specs.Trees.{an_expr}
use Rattle.hl_meaning.specs.Views.{plain_expr, plain_form, plain_ty}
use Rattle.hl_rules.specs.Nodes.{value_of_code}
use Rattle.hl_values.specs.Views.{plain_code}
use Rattle.hl_values.proofs.NodeLemmas.{read-made}
use Rattle.hl_values.proofs.typed.Code.value.Goals as goal

pub returns-in_ok-new-in-Place : goal.returns-in_ok-new-in-Place
returns-in_ok-new-in-Place c =
    let made = c.in_ok-new-in-Place.ensures in
    let ty = c.in_ok-ty-in-Place.ensures in
    read-made c.in_ok-new-in-Place.field-0 c.in_ok-ty-in-Place.ty c.in-Place.at c.in-Place.place
    (ap plain_expr made ∙ (c.node-read.ensures ∙ ap (λ (p : Location). an_expr (plain_ty c.in_ok-ty-in-Place.ty) c.in-Place.at (plain_form (Read p))) c.into_inner.ensures))
    (ty ∙ ap (λ (p : Location). plain_ty p.ty) c.get.ensures) ∙
    ap (λ code. value_of_code (plain_code code)) (sym c.in-Place.is)
