use Rattle.std.proofs.Common.{◌∙◌, ap, drop, take}
use Rattle.std.proofs.lemmas.Result.{IfOk-weaker}
use Rattle.hl_meaning.specs.Views.{plain_parts, plain_structs, plain_ty}
use Rattle.hl_source.specs.Offsets.{picked_reached, reached, start_of}
use Rattle.hl_source.specs.Operations.{picked}
use Rattle.hl_interpreter.proofs.places.picked_words.Goals as goal

pub returns : goal.returns
returns c =
    let structs = plain_structs c.args.run.now.program.now.structs in
    let words = c.args.words.now in
    let at = c.in_ok-at.at in
    let parts = plain_parts c.args.parts.now in
    IfOk-weaker c.pick_words.result _ _
    (λ found e. e ∙ (ap (picked at.letters.now) (c.words_at.ensures ∙ ap (λ n. take n (drop at.offset words)) c.in_ok-count.ensures) ∙
    ap (λ r. picked_reached structs r words) (c.in_ok-at.ensures ∙ ap (reached structs (start_of (plain_ty c.args.ty.now)) parts) (c.as_slice.ensures.value ∙ c.in_ok-indexes.ensures))))
    c.pick_words.ensures
