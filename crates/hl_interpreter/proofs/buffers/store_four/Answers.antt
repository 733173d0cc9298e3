use Rattle.std.proofs.Common.{◌∙◌, [], Err, ap, sym}
use Rattle.lane_core.specs.declared.event.Reply.{Reply}
use Rattle.hl_source.specs.State.{goes_with, no_value}
use Rattle.hl_interpreter.specs.Runs.{state_of}
use Rattle.hl_interpreter.proofs.Exits.{effect, stop-exit}
use Rattle.hl_interpreter.proofs.Fours.{store-event}
use Rattle.hl_interpreter.proofs.Meeting.{same, stops}
use Rattle.hl_interpreter.proofs.buffers.store_four.Goals as goal

pub returns-in_err-ask : goal.returns-in_err-ask
returns-in_err-ask c =
    let s = state_of c.args.run.now.replies.now c.args.state.now in
    let t = state_of c.args.run.now.replies.now c.ask.new.state in
    let e = c.in_err-ask.field-0.0 in
    stop-exit effect c.from_residual.result e t _ c.from_residual.ensures.1
    (stops (λ (reply : Reply). reply) effect e t _ (λ _ u. goes_with [] u)
    (same (λ (reply : Reply). reply) (Err e) t _ _
    (sym (store-event c.args.slot c.args.index c.args.offset c.args.words.now c.in-Ok.count c.four_words.result s c.in-Ok.ensures.1 c.four_words.ensures)) c.in_err-ask.ensures))

pub returns : goal.returns
returns c =
    let s = state_of c.args.run.now.replies.now c.args.state.now in
    ap no_value (store-event c.args.slot c.args.index c.args.offset c.args.words.now c.in-Ok.count c.four_words.result s c.in-Ok.ensures.1 c.four_words.ensures ∙ c.in_ok-ask.ensures)
