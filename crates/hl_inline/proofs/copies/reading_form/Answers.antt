use Rattle.std.proofs.Common.{◌∙◌, ap, refl}
use Rattle.hl_meaning.specs.Trees.{read_form}
use Rattle.hl_meaning.proofs.Plain.{plain_form-Read}
use Rattle.hl_inline.proofs.GivenForms.{location-whole}
use Rattle.hl_inline.proofs.copies.reading_form.Goals as goal

pub returns : goal.returns
returns c = plain_form-Read _ ∙ ap read_form (location-whole _ _ _ c.in_ok-ty.ensures refl c.new.ensures)
