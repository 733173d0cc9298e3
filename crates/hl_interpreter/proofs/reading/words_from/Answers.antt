use Rattle.std.proofs.Common.{◌∙◌, ◌+◌, ap, arith, drop, sym}
use Rattle.lane_core.specs.Words.{wrapping_add}
use Rattle.hl_source.specs.Memory.{word_of, word_offsets}
use Rattle.hl_source.specs.State.{each}
use Rattle.hl_interpreter.proofs.Exits.{memory-exit, stop-exit}
use Rattle.hl_interpreter.proofs.ListLoops.{gathered-end, gathered-stops, gathered-turn, length-offsets, offset-next}
use Rattle.hl_interpreter.proofs.Meeting.{behind, behind-none}
use Rattle.hl_interpreter.proofs.reading.words_from.Goals as goal

pub loop-more-init : goal.loop-more-init
loop-more-init c = λ s.
    let whole = each (word_of c.args.words.now) (word_offsets c.args.offset c.args.count) s in
    behind-none whole ∙ ap (λ l. behind l whole) (sym c.new-found.ensures)

pub loop-more-preserved : goal.loop-more-preserved
loop-more-preserved c = λ s.
    let part = word_of c.args.words.now in
    let xs = word_offsets c.args.offset c.args.count in
    let i = c.loop-more.more in
    gathered-turn part xs (each part xs s) i (wrapping_add c.args.offset i) c.loop-more.found c.in_ok-word.word s s (offset-next c.args.offset c.args.count i c.loop-more-test.true) (c.loop-more.invariant s)
    (c.in_ok-word.ensures s) ∙
    ap (λ l. behind l (each part (drop (i + 1) xs) s)) (sym c.in_ok-push.ensures.ok)

pub returns-in_err-word : goal.returns-in_err-word
returns-in_err-word c = λ s.
    let part = word_of c.args.words.now in
    let xs = word_offsets c.args.offset c.args.count in
    let i = c.loop-more.more in
    stop-exit (λ w. w) c.from_residual.result c.in_err-word.field-0.0 s (each part xs s) c.from_residual.ensures.1
    (gathered-stops part xs (each part xs s) (λ w. w) (λ w. w) i (wrapping_add c.args.offset i) c.loop-more.found c.in_err-word.field-0.0 s s (offset-next c.args.offset c.args.count i c.loop-more-test.true) (c.loop-more.invariant s)
    (c.in_err-word.ensures s))

pub returns-in_err-push : goal.returns-in_err-push
returns-in_err-push c = λ s. memory-exit (λ w. w) c.from_residual-in_err-push.result s _ c.from_residual-in_err-push.ensures.1

pub returns : goal.returns
returns c = λ s.
    let part = word_of c.args.words.now in
    let xs = word_offsets c.args.offset c.args.count in
    gathered-end part xs (each part xs s) c.loop-more.more c.loop-more.found s (omega (arith, length-offsets c.args.offset c.args.count)) (c.loop-more.invariant s)
