use Rattle.std.proofs.Common.{◌∙◌, ℕ, Err, ap, arith, get_or, length, sym}
use Rattle.std.proofs.lemmas.List.{get_or_default}
use Rattle.std.specs.List.{zip}
use Rattle.lane_core.specs.declared.event.Event.TheVariants.{SharedStore}
use Rattle.lane_core.specs.declared.event.Reply.{Reply}
use Rattle.lane_core.specs.Words.{wrapping_add}
use Rattle.hl_source.specs.Memory.{cell, shared_size, within, word_offsets}
use Rattle.hl_source.specs.State.{Progress, State, asks, no_value}
use Rattle.hl_interpreter.specs.Runs.{run_context, state_of}
use Rattle.hl_interpreter.proofs.Exits.{effect, memory-exit, stop-exit}
use Rattle.hl_interpreter.proofs.ListLoops.{done-end, done-stops, done-turn, length-written, written-next}
use Rattle.hl_interpreter.proofs.Meeting.{same}
use Rattle.hl_interpreter.proofs.writing.write_shared.Goals as goal

abbrev part_of : (number size : ℕ) → ℕ × ℕ → State → Progress Reply
part_of number size w = within w.0 size (asks (SharedStore (cell number w.0) w.1))

pub returns-in_err-size : goal.returns-in_err-size
returns-in_err-size c = memory-exit effect c.from_residual.result _ _ c.from_residual.ensures.1

pub loop-more-preserved : goal.loop-more-preserved
loop-more-preserved c =
    let number = c.args.number in
    let words = c.args.words.now in
    let offset = c.args.offset in
    let i = c.loop-more.more in
    let word = get_or words i 0 in
    let s = state_of c.args.run.now.replies.now c.loop-more.state in
    let t = state_of c.args.run.now.replies.now c.write_shared_word.new.state in
    done-turn (part_of number (shared_size (run_context c.args.run.now) number)) (zip (word_offsets offset (length words)) words) _ i (wrapping_add offset i, word) s t
    (written-next offset words i word c.loop-more-test.true (get_or_default words i 0 word c.loop-more-test.true)) c.loop-more.invariant
    (ap (λ n. no_value (part_of number n (wrapping_add offset i, word) s)) (sym c.in_ok-size.ensures) ∙ c.in_ok-write_shared_word.ensures)

pub returns-in_err-write_shared_word : goal.returns-in_err-write_shared_word
returns-in_err-write_shared_word c =
    let number = c.args.number in
    let words = c.args.words.now in
    let offset = c.args.offset in
    let i = c.loop-more.more in
    let word = get_or words i 0 in
    let e = c.in_err-write_shared_word.field-0.0 in
    let s = state_of c.args.run.now.replies.now c.loop-more.state in
    let t = state_of c.args.run.now.replies.now c.write_shared_word.new.state in
    stop-exit effect c.from_residual-in_err-write_shared_word.result e t _ c.from_residual-in_err-write_shared_word.ensures.1
    (done-stops (part_of number (shared_size (run_context c.args.run.now) number)) (zip (word_offsets offset (length words)) words) _ effect i (wrapping_add offset i, word) e s t
    (written-next offset words i word c.loop-more-test.true (get_or_default words i 0 word c.loop-more-test.true)) c.loop-more.invariant
    (same effect (Err e) t _ _ (ap (λ n. no_value (part_of number n (wrapping_add offset i, word) s)) c.in_ok-size.ensures) c.in_err-write_shared_word.ensures))

pub returns : goal.returns
returns c =
    let number = c.args.number in
    let words = c.args.words.now in
    done-end (part_of number (shared_size (run_context c.args.run.now) number)) (zip (word_offsets c.args.offset (length words)) words) _ c.loop-more.more (state_of c.args.run.now.replies.now c.loop-more.state)
    (omega (arith, length-written c.args.offset words)) c.loop-more.invariant
