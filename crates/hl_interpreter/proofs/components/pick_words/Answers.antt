use Rattle.std.proofs.Common.{◌∙◌, sym, get_or, slice_index}
use Rattle.std.proofs.lemmas.List.{get_or_default}
use Rattle.hl_interpreter.proofs.Turns.{map-end}
use Rattle.hl_interpreter.proofs.Values.{map-pushed, picked-some}
use Rattle.hl_interpreter.proofs.components.pick_words.Goals as goal

pub loop-letter-preserved : goal.loop-letter-preserved
loop-letter-preserved c =
    let letters = c.args.letters.now in
    let i = c.loop-letter.letter-index in
    let x = get_or letters i 0 in
    map-pushed (slice_index c.args.words.now) letters i x c.word_at.result c.loop-letter.result _ _ c.loop-letter-test.true (get_or_default letters i 0 x c.loop-letter-test.true)
    c.word_at.ensures c.in_ok-push.ensures.ok c.loop-letter.invariant

pub returns : goal.returns
returns c =
    map-end (slice_index c.args.words.now) c.args.letters.now c.loop-letter.letter-index c.loop-letter.result _ c.loop-letter-test.false c.loop-letter.invariant ∙
    sym (picked-some c.args.letters.now c.args.words.now c.if-is_empty.ensures)
