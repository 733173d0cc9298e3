use Rattle.std.proofs.Common.{◌≡◌, ◌∙◌, ◌*◌, ◌<◌, ℕ, List, [], Err, ap, arith, drop, length, subst, sym, take}
use Rattle.lane_core.specs.declared.event.Slot.{Slot}
use Rattle.hl_source.specs.Memory.{byte_offset, pieces, store_four}
use Rattle.hl_source.specs.State.{Progress, State, goes_with, no_value}
use Rattle.hl_interpreter.specs.Runs.{state_of}
use Rattle.hl_interpreter.proofs.Exits.{effect, stop-exit}
use Rattle.hl_interpreter.proofs.ListLoops.{done-end, done-stops, done-turn, length-pieces, piece-next}
use Rattle.hl_interpreter.proofs.Meeting.{same, stops}
use Rattle.hl_interpreter.proofs.buffers.store_words.Goals as goal

abbrev part_of : Slot → (index offset : ℕ) → (words : List ℕ) → (piece : ℕ) → State → Progress (List ℕ)
part_of slot index offset words piece = store_four slot index (byte_offset offset piece) (take 4 (drop piece words))

stored : (slot : Slot) (index at place : ℕ) (some words : List ℕ) (s : State) → at ≡ place → some ≡ words → store_four slot index place words s ≡ store_four slot index at some s
stored slot index at place some words s e h = ap (λ n. store_four slot index n words s) (sym e) ∙ ap (λ l. store_four slot index at l s) (sym h)

pub loop-piece-preserved : goal.loop-piece-preserved
loop-piece-preserved c =
    let words = c.args.words.now in
    let part = part_of c.args.slot c.args.index c.args.offset words in
    let i = c.loop-piece.piece in
    let s = state_of c.args.run.now.replies.now c.loop-piece.state in
    let t = state_of c.args.run.now.replies.now c.store_four.new.state in
    done-turn part (pieces (length words)) _ i (4 * i) s t (piece-next (length words) i (subst (λ n. i < n) c.div_ceil-piece-end.ensures c.loop-piece-test.true)) c.loop-piece.invariant (ap no_value (stored c.args.slot c.args.index _ _ _ _ s c.byte_offset.ensures c.four_at-some.ensures ∙ c.in_ok-store_four.ensures))

pub returns-in_err-store_four : goal.returns-in_err-store_four
returns-in_err-store_four c =
    let words = c.args.words.now in
    let part = part_of c.args.slot c.args.index c.args.offset words in
    let i = c.loop-piece.piece in
    let e = c.in_err-store_four.field-0.0 in
    let s = state_of c.args.run.now.replies.now c.loop-piece.state in
    let t = state_of c.args.run.now.replies.now c.store_four.new.state in
    stop-exit effect c.from_residual.result e t _ c.from_residual.ensures.1
    (done-stops part (pieces (length words)) _ effect i (4 * i) e s t (piece-next (length words) i (subst (λ n. i < n) c.div_ceil-piece-end.ensures c.loop-piece-test.true)) c.loop-piece.invariant
    (stops effect effect e t _ (λ _ u. goes_with [] u)
    (same effect (Err e) t _ _ (sym (stored c.args.slot c.args.index _ _ _ _ s c.byte_offset.ensures c.four_at-some.ensures)) c.in_err-store_four.ensures)))

pub returns : goal.returns
returns c =
    let words = c.args.words.now in
    done-end (part_of c.args.slot c.args.index c.args.offset words) (pieces (length words)) _ c.loop-piece.piece (state_of c.args.run.now.replies.now c.loop-piece.state) (omega (arith, length-pieces (length words))) c.loop-piece.invariant
