use Rattle.std.proofs.Common.{◌∙◌, ap}
use Rattle.hl_meaning.specs.Layout.{words_of}
use Rattle.hl_meaning.specs.Types.{Ty}
use Rattle.hl_meaning.specs.Views.{plain_structs}
use Rattle.lane_core.specs.Words.{wrapping_mul}
use Rattle.hl_source.specs.Offsets.{further}
use Rattle.hl_interpreter.specs.HeldPlaces.{plain_reached, plain_type}
use Rattle.hl_interpreter.proofs.places.step_to_element.Goals as goal

pub returns : goal.returns
returns c =
    let structs = plain_structs c.args.program.now.structs in
    let from = plain_reached c.args.from in
    c.further.ensures ∙ (ap (further from (plain_type c.element_of-element.result)) (ap (wrapping_mul c.args.index) c.in_ok-words.ensures) ∙
    ap (λ (t : Ty). further from t (wrapping_mul c.args.index (words_of structs t))) c.element_of-element.ensures)
