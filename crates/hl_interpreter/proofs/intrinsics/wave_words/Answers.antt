use Rattle.std.proofs.Common.{◌∙◌, ◌+◌, ap, drop, get_or, sym}
use Rattle.std.proofs.lemmas.List.{get_or_default}
use Rattle.hl_source.specs.Intrinsics.{wave_word, wave_words}
use Rattle.hl_source.specs.Operations.{word_as}
use Rattle.hl_source.specs.State.{after, each, goes_with}
use Rattle.hl_interpreter.specs.Runs.{state_of}
use Rattle.hl_interpreter.proofs.Exits.{memory-exit, stop-exit}
use Rattle.hl_interpreter.proofs.ListLoops.{gathered-end, gathered-stops, gathered-turn}
use Rattle.hl_interpreter.proofs.Meeting.{behind, behind-none, stops}
use Rattle.hl_interpreter.proofs.Turns.{drop-next}
use Rattle.hl_interpreter.proofs.intrinsics.wave_words.Goals as goal

pub loop-operand-init : goal.loop-operand-init
loop-operand-init c =
    let whole = wave_words c.args.wave c.args.lane c.args.kind c.args.words.now (state_of c.args.run.now.replies.now c.args.state.now) in
    behind-none whole ∙ ap (λ l. behind l whole) (sym c.new-found.ensures)

pub loop-operand-preserved : goal.loop-operand-preserved
loop-operand-preserved c =
    let part = wave_word c.args.wave c.args.lane c.args.kind in
    let words = c.args.words.now in
    let i = c.loop-operand.operand-index in
    let x = get_or words i 0 in
    let s = state_of c.args.run.now.replies.now c.loop-operand.state in
    let t = state_of c.args.run.now.replies.now c.ask_word.new.state in
    gathered-turn part words _ i x c.loop-operand.found c.word_as.result s t (drop-next words i x c.loop-operand-test.true (get_or_default words i 0 x c.loop-operand-test.true)) c.loop-operand.invariant
    (ap (λ p. after p (λ reply u. goes_with (word_as c.args.kind reply) u)) c.in_ok-word.ensures ∙ ap (λ w. goes_with w t) (sym c.word_as.ensures)) ∙
    ap (λ l. behind l (each part (drop (i + 1) words) t)) (sym c.in_ok-push.ensures.ok)

pub returns-in_err-word : goal.returns-in_err-word
returns-in_err-word c =
    let part = wave_word c.args.wave c.args.lane c.args.kind in
    let words = c.args.words.now in
    let i = c.loop-operand.operand-index in
    let x = get_or words i 0 in
    let e = c.in_err-word.field-0.0 in
    let s = state_of c.args.run.now.replies.now c.loop-operand.state in
    let t = state_of c.args.run.now.replies.now c.ask_word.new.state in
    stop-exit (λ w. w) c.from_residual.result e t _ c.from_residual.ensures.1
    (gathered-stops part words _ (λ w. w) (λ w. w) i x c.loop-operand.found e s t (drop-next words i x c.loop-operand-test.true (get_or_default words i 0 x c.loop-operand-test.true)) c.loop-operand.invariant
    (stops (λ w. w) (λ w. w) e t _ (λ reply u. goes_with (word_as c.args.kind reply) u) c.in_err-word.ensures))

pub returns-in_err-push : goal.returns-in_err-push
returns-in_err-push c = memory-exit (λ w. w) c.from_residual-in_err-push.result _ _ c.from_residual-in_err-push.ensures.1

pub returns : goal.returns
returns c =
    gathered-end (wave_word c.args.wave c.args.lane c.args.kind) c.args.words.now _ c.loop-operand.operand-index c.loop-operand.found (state_of c.args.run.now.replies.now c.loop-operand.state)
    c.loop-operand-test.false c.loop-operand.invariant
