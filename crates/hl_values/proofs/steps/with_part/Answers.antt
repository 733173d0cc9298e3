use Rattle.std.proofs.Common.{◌∙◌, sym, ap}
use Rattle.hl_meaning.specs.Views.{plain_location, plain_part, plain_ty}
use Rattle.hl_rules.specs.Nodes.{with_part}
use Rattle.hl_values.specs.Views.{plain_code}
use Rattle.hl_values.proofs.StepLemmas.{place-stepped}
use Rattle.hl_values.proofs.steps.with_part.Goals as goal

pub returns-in_ok-place-in-Place : goal.returns-in_ok-place-in-Place
returns-in_ok-place-in-Place c =
    let made = c.in_ok-place-in-Place.ensures in
    let h = c.in_ok-parts-in-Place.ensures in
    place-stepped c.args.at c.in-Place.at (plain_part c.args.part) (plain_ty c.args.ty) c.in-Place.place c.into_inner-root.result c.in_ok-place-in-Place.place c.in_ok-parts-in-Place.parts c.into_inner-root.ensures (ap plain_location made ∙ c.location.ensures) h ∙
    ap (λ code. with_part c.args.at (plain_part c.args.part) (plain_ty c.args.ty) (plain_code code)) (sym c.in-Place.is)
