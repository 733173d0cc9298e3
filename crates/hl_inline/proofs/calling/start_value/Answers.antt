use Rattle.std.proofs.Common.{◌∙◌, Some, ap, sym}
use Rattle.hl_meaning.specs.Trees.{read_form}
use Rattle.hl_meaning.specs.Views.{plain_location}
use Rattle.hl_meaning.proofs.Plain.{plain_form-Read}
use Rattle.hl_inline.proofs.Callees.{place_type-is, start-given}
use Rattle.hl_inline.proofs.GivenForms.{expr-as}
use Rattle.hl_inline.proofs.calling.start_value.Goals as goal

pub returns-in_ok-place-in-CopyIn : goal.returns-in_ok-place-in-CopyIn
returns-in_ok-place-in-CopyIn c =
    let place = c.args.place.now in
    ap Some (expr-as _ _ _ (c.in_ok-ty-in-CopyIn.ensures ∙ sym (place_type-is place)) (plain_form-Read c.in_ok-place-in-CopyIn.place ∙ ap read_form c.in_ok-place-in-CopyIn.ensures)) ∙
    sym (start-given c.args.copying (plain_location place) c.args.at c.in-CopyIn.is)
