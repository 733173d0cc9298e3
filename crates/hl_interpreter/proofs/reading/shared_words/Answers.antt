use Rattle.std.proofs.Common.{◌∙◌, ◌+◌, ℕ, Err, ap, arith, drop, sym}
use Rattle.lane_core.specs.declared.event.Event.TheVariants.{SharedLoad}
use Rattle.lane_core.specs.Words.{wrapping_add}
use Rattle.hl_source.specs.Memory.{cell, shared_size, within, word_offsets}
use Rattle.hl_source.specs.State.{Progress, State, asks_word, each}
use Rattle.hl_interpreter.specs.Runs.{run_context, state_of}
use Rattle.hl_interpreter.proofs.Exits.{memory-exit, stop-exit}
use Rattle.hl_interpreter.proofs.ListLoops.{gathered-end, gathered-stops, gathered-turn, length-offsets, offset-next}
use Rattle.hl_interpreter.proofs.Meeting.{behind, behind-none, same}
use Rattle.hl_interpreter.proofs.reading.shared_words.Goals as goal

abbrev part_in : (number size at : ℕ) → State → Progress ℕ
part_in number size at = within at size (asks_word (SharedLoad (cell number at)))

pub returns-in_err-size : goal.returns-in_err-size
returns-in_err-size c = memory-exit (λ w. w) c.from_residual.result _ _ c.from_residual.ensures.1

pub loop-more-init : goal.loop-more-init
loop-more-init c =
    let whole = each (part_in c.args.number (shared_size (run_context c.args.run.now) c.args.number)) (word_offsets c.args.offset c.args.count) (state_of c.args.run.now.replies.now c.args.state.now) in
    behind-none whole ∙ ap (λ l. behind l whole) (sym c.new-found.ensures)

pub loop-more-preserved : goal.loop-more-preserved
loop-more-preserved c =
    let number = c.args.number in
    let part = part_in number (shared_size (run_context c.args.run.now) number) in
    let xs = word_offsets c.args.offset c.args.count in
    let i = c.loop-more.more in
    let s = state_of c.args.run.now.replies.now c.loop-more.state in
    let t = state_of c.args.run.now.replies.now c.shared_word.new.state in
    gathered-turn part xs _ i (wrapping_add c.args.offset i) c.loop-more.found c.in_ok-word.word s t (offset-next c.args.offset c.args.count i c.loop-more-test.true) c.loop-more.invariant
    (ap (λ n. part_in number n (wrapping_add c.args.offset i) s) (sym c.in_ok-size.ensures) ∙ c.in_ok-word.ensures) ∙
    ap (λ l. behind l (each part (drop (i + 1) xs) t)) (sym c.in_ok-push.ensures.ok)

pub returns-in_err-word : goal.returns-in_err-word
returns-in_err-word c =
    let number = c.args.number in
    let part = part_in number (shared_size (run_context c.args.run.now) number) in
    let xs = word_offsets c.args.offset c.args.count in
    let i = c.loop-more.more in
    let s = state_of c.args.run.now.replies.now c.loop-more.state in
    let t = state_of c.args.run.now.replies.now c.shared_word.new.state in
    stop-exit (λ w. w) c.from_residual-in_err-word.result c.in_err-word.field-0.0 t _ c.from_residual-in_err-word.ensures.1
    (gathered-stops part xs _ (λ w. w) (λ w. w) i (wrapping_add c.args.offset i) c.loop-more.found c.in_err-word.field-0.0 s t (offset-next c.args.offset c.args.count i c.loop-more-test.true) c.loop-more.invariant
    (same (λ w. w) (Err c.in_err-word.field-0.0) t _ _ (ap (λ n. part_in number n (wrapping_add c.args.offset i) s) c.in_ok-size.ensures) c.in_err-word.ensures))

pub returns-in_err-push : goal.returns-in_err-push
returns-in_err-push c = memory-exit (λ w. w) c.from_residual-in_err-push.result _ _ c.from_residual-in_err-push.ensures.1

pub returns : goal.returns
returns c =
    let part = part_in c.args.number (shared_size (run_context c.args.run.now) c.args.number) in
    let xs = word_offsets c.args.offset c.args.count in
    gathered-end part xs _ c.loop-more.more c.loop-more.found (state_of c.args.run.now.replies.now c.loop-more.state) (omega (arith, length-offsets c.args.offset c.args.count)) c.loop-more.invariant
