use Rattle.std.proofs.Common.{◌∙◌, ◌∷◌, [], ℕ, List, Err, ap, arith, get_or, sym}
use Rattle.std.proofs.lemmas.List.{get_or_default}
use Rattle.std.proofs.lemmas.Slice.Zip.{length-zip}
use Rattle.std.specs.List.{zip}
use Rattle.lane_core.specs.Words.{wrapping_add}
use Rattle.hl_source.specs.Memory.{write_words}
use Rattle.hl_source.specs.Offsets.{Holder}
use Rattle.hl_source.specs.State.{Context, Progress, State, goes_with, no_value}
use Rattle.hl_interpreter.specs.HeldPlaces.{plain_holder}
use Rattle.hl_interpreter.specs.Runs.{context_of, state_of}
use Rattle.hl_interpreter.proofs.Exits.{effect, stop-exit}
use Rattle.hl_interpreter.proofs.ListLoops.{done-end, done-stops, done-turn, zipped-next}
use Rattle.hl_interpreter.proofs.Meeting.{same, stops}
use Rattle.hl_interpreter.proofs.Turns.{drop-next}
use Rattle.hl_interpreter.proofs.memory.write_each.Goals as goal

abbrev part_of : Context → Holder → (offset : ℕ) → ℕ × ℕ → State → Progress (List ℕ)
part_of c holder offset w = write_words c holder (wrapping_add offset w.0) (w.1 ∷ [])

pub loop-number-preserved : goal.loop-number-preserved
loop-number-preserved c =
    let context = c.args.context.now in
    let holder = plain_holder c.args.holder in
    let letters = c.args.letters.now in
    let words = c.args.words.now in
    let i = c.loop-number.number in
    let letter = get_or letters i 0 in
    let word = get_or words i 0 in
    let s = state_of context.run.now.replies.now c.loop-number.state in
    let t = state_of context.run.now.replies.now c.write_words.new.state in
    done-turn (part_of (context_of context) holder c.args.offset) (zip letters words) _ i (letter, word) s t
    (zipped-next letters words i letter word (drop-next letters i letter (omega arith) (get_or_default letters i 0 letter (omega arith))) (drop-next words i word (omega arith) (get_or_default words i 0 word (omega arith))))
    c.loop-number.invariant
    (ap no_value (ap (λ at. write_words (context_of context) holder at (word ∷ []) s) (sym (ap (wrapping_add c.args.offset) c.from.ensures)) ∙ c.in_ok-write_words.ensures))

pub returns-in_err-write_words : goal.returns-in_err-write_words
returns-in_err-write_words c =
    let context = c.args.context.now in
    let holder = plain_holder c.args.holder in
    let letters = c.args.letters.now in
    let words = c.args.words.now in
    let i = c.loop-number.number in
    let letter = get_or letters i 0 in
    let word = get_or words i 0 in
    let e = c.in_err-write_words.field-0.0 in
    let s = state_of context.run.now.replies.now c.loop-number.state in
    let t = state_of context.run.now.replies.now c.write_words.new.state in
    stop-exit effect c.from_residual.result e t _ c.from_residual.ensures.1
    (done-stops (part_of (context_of context) holder c.args.offset) (zip letters words) _ effect i (letter, word) e s t
    (zipped-next letters words i letter word (drop-next letters i letter (omega arith) (get_or_default letters i 0 letter (omega arith))) (drop-next words i word (omega arith) (get_or_default words i 0 word (omega arith))))
    c.loop-number.invariant
    (stops effect effect e t _ (λ _ u. goes_with [] u)
    (same effect (Err e) t _ _ (ap (λ at. write_words (context_of context) holder at (word ∷ []) s) (ap (wrapping_add c.args.offset) c.from.ensures)) c.in_err-write_words.ensures)))

pub returns : goal.returns
returns c =
    let context = c.args.context.now in
    done-end (part_of (context_of context) (plain_holder c.args.holder) c.args.offset) (zip c.args.letters.now c.args.words.now) _ c.loop-number.number (state_of context.run.now.replies.now c.loop-number.state)
    (omega (arith, length-zip c.args.letters.now c.args.words.now)) c.loop-number.invariant
