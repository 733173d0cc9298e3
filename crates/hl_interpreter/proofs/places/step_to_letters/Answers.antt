use Rattle.std.proofs.Common.{◌∙◌, ap, slice_index, sym}
use Rattle.hl_meaning.specs.Types.{scalar_type}
use Rattle.hl_source.specs.Offsets.{further}
use Rattle.hl_interpreter.specs.HeldPlaces.{plain_reached}
use Rattle.hl_interpreter.proofs.HeldPaths.{swizzle-one, swizzle-other}
use Rattle.hl_interpreter.proofs.places.step_to_letters.Goals as goal

pub returns-then-letters-eq1 : goal.returns-then-letters-eq1
returns-then-letters-eq1 c =
    let from = plain_reached c.args.from in
    let letters = c.args.letters.now in
    c.further.ensures ∙ (ap (further from (scalar_type c.reached_kind-kind.result)) c.from.ensures ∙ (ap (λ k. further from (scalar_type k) (slice_index letters 0)) c.reached_kind-kind.ensures ∙
    sym (swizzle-one from letters c.if-letters-eq1.true)))

pub returns-else-letters-eq1 : goal.returns-else-letters-eq1
returns-else-letters-eq1 c = sym (swizzle-other (plain_reached c.args.from) c.args.letters.now c.if-letters-eq1.false)
