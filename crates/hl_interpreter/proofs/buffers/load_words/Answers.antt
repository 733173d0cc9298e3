use Rattle.std.proofs.Common.{◌∙◌, ◌+◌, ◌*◌, ◌<◌, ◌++◌, ℕ, List, Err, ap, arith, drop, subst, sym, take}
use Rattle.lane_core.specs.declared.event.Slot.{Slot}
use Rattle.hl_source.specs.Memory.{byte_offset, load_four, pieces}
use Rattle.hl_source.specs.State.{Progress, State, each, goes_with}
use Rattle.hl_interpreter.specs.Runs.{state_of}
use Rattle.hl_interpreter.proofs.Exits.{memory-exit, stop-exit}
use Rattle.hl_interpreter.proofs.Fours.{cut-goes, cut-stops}
use Rattle.hl_interpreter.proofs.ListLoops.{flat, flat-end, flat-stops, flat-turn, length-pieces, piece-next}
use Rattle.hl_interpreter.proofs.Meeting.{behind, behind-none, same}
use Rattle.hl_interpreter.proofs.buffers.load_words.Goals as goal

abbrev part_of : Slot → (index offset piece : ℕ) → State → Progress (List ℕ)
part_of slot index offset piece = load_four slot index (byte_offset offset piece)

pub loop-piece-init : goal.loop-piece-init
loop-piece-init c =
    let whole = flat (each (part_of c.args.slot c.args.index c.args.offset) (pieces c.args.count) (state_of c.args.run.now.replies.now c.args.state.now)) in
    behind-none whole ∙ ap (λ l. behind l whole) (sym c.new-words.ensures)

pub loop-piece-preserved : goal.loop-piece-preserved
loop-piece-preserved c =
    let part = part_of c.args.slot c.args.index c.args.offset in
    let xs = pieces c.args.count in
    let i = c.loop-piece.piece in
    let s = state_of c.args.run.now.replies.now c.loop-piece.state in
    let t = state_of c.args.run.now.replies.now c.load_four.new.state in
    flat-turn part xs _ i (4 * i) c.loop-piece.words c.in_ok-four.four s t (piece-next c.args.count i (subst (λ n. i < n) c.div_ceil-piece-end.ensures c.loop-piece-test.true)) c.loop-piece.invariant
    (ap (λ at. load_four c.args.slot c.args.index at s) (sym c.byte_offset.ensures) ∙ c.in_ok-four.ensures) ∙
    ap (λ l. behind l (flat (each part (drop (i + 1) xs) t))) (sym (c.in_ok-extend_from_slice.ensures.ok ∙ ap (λ l. c.loop-piece.words ++ l) c.as_slice.ensures.value))

pub returns-in_err-four : goal.returns-in_err-four
returns-in_err-four c =
    let part = part_of c.args.slot c.args.index c.args.offset in
    let xs = pieces c.args.count in
    let i = c.loop-piece.piece in
    let e = c.in_err-four.field-0.0 in
    let s = state_of c.args.run.now.replies.now c.loop-piece.state in
    let t = state_of c.args.run.now.replies.now c.load_four.new.state in
    stop-exit (λ w. w) c.from_residual.result e t _ c.from_residual.ensures.1
    (cut-stops (λ w. w) (λ w. w) c.args.count _ e t
    (flat-stops part xs _ (λ w. w) (λ w. w) i (4 * i) c.loop-piece.words e s t (piece-next c.args.count i (subst (λ n. i < n) c.div_ceil-piece-end.ensures c.loop-piece-test.true)) c.loop-piece.invariant
    (same (λ w. w) (Err e) t _ _ (ap (λ at. load_four c.args.slot c.args.index at s) c.byte_offset.ensures) c.in_err-four.ensures)))

pub returns-in_err-extend_from_slice : goal.returns-in_err-extend_from_slice
returns-in_err-extend_from_slice c = memory-exit (λ w. w) c.from_residual-in_err-extend_from_slice.result _ _ c.from_residual-in_err-extend_from_slice.ensures.1

pub returns-in_err-first : goal.returns-in_err-first
returns-in_err-first c = memory-exit (λ w. w) c.from_residual-in_err-first.result _ _ c.from_residual-in_err-first.ensures.1

pub returns : goal.returns
returns c =
    let part = part_of c.args.slot c.args.index c.args.offset in
    let xs = pieces c.args.count in
    let t = state_of c.args.run.now.replies.now c.loop-piece.state in
    cut-goes c.args.count _ c.loop-piece.words t (flat-end part xs _ c.loop-piece.piece c.loop-piece.words t (omega (arith, length-pieces c.args.count)) c.loop-piece.invariant) ∙
    ap (λ l. goes_with l t) (sym (c.in_ok-first.ensures ∙ ap (take c.args.count) c.as_slice-2.ensures.value))
