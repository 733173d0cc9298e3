use Rattle.std.proofs.Common.{◌∙◌, ap, sym}
use Rattle.hl_meaning.specs.Types.{scalar_type}
use Rattle.hl_meaning.specs.Views.{plain_ty}
use Rattle.hl_meaning.proofs.Plain.{plain_ty-Array}
use Rattle.hl_source.specs.Offsets.{element_of}
use Rattle.hl_interpreter.proofs.HeldPaths.{element_of-other}
use Rattle.hl_interpreter.proofs.places.held_element.Goals as goal

pub returns-in-Array : goal.returns-in-Array
returns-in-Array c = ap plain_ty c.get.ensures ∙ sym (ap element_of (ap plain_ty c.in-Array.is ∙ plain_ty-Array _ _))

pub returns-in_default : goal.returns-in_default
returns-in_default c = ap scalar_type c.component_kind.ensures ∙ sym (element_of-other c.args.ty.now c.in_default.not-Array)
