use Rattle.std.proofs.Common.{◌∙◌, [], Err, ap, sym}
use Rattle.lane_core.specs.declared.event.Asked.TheVariants.{Fault}
use Rattle.lane_core.specs.declared.event.Event.TheVariants.{SharedStore}
use Rattle.lane_core.specs.declared.event.LaneFault.TheVariants.{OutOfBounds}
use Rattle.hl_source.specs.Memory.{cell}
use Rattle.hl_source.specs.State.{asks, goes_with, no_value}
use Rattle.hl_interpreter.specs.Runs.{state_of}
use Rattle.hl_interpreter.proofs.Cells.{within-in, within-out}
use Rattle.hl_interpreter.proofs.Exits.{effect, ends-err, stop-exit}
use Rattle.hl_interpreter.proofs.Meeting.{same, stops}
use Rattle.hl_interpreter.proofs.writing.write_shared_word.Goals as goal

pub returns-then-at-size : goal.returns-then-at-size
returns-then-at-size c =
    let s = state_of c.args.run.now.replies.now c.args.state.now in
    ends-err effect c.from.result (Fault OutOfBounds) s _ c.from.ensures (ap no_value (within-out c.args.at c.args.size (asks (SharedStore (cell c.args.number c.args.at) c.args.word)) s c.if-at-size.true))

pub returns-in_err-ask : goal.returns-in_err-ask
returns-in_err-ask c =
    let s = state_of c.args.run.now.replies.now c.args.state.now in
    let t = state_of c.args.run.now.replies.now c.ask.new.state in
    let e = c.in_err-ask.field-0.0 in
    stop-exit effect c.from_residual.result e t _ c.from_residual.ensures.1
    (stops (λ reply. reply) effect e t _ (λ _ u. goes_with [] u)
    (same (λ reply. reply) (Err e) t _ _ (sym (within-in c.args.at c.args.size (asks (SharedStore (cell c.args.number c.args.at) c.args.word)) s c.if-at-size.false)) c.in_err-ask.ensures))

pub returns : goal.returns
returns c =
    let s = state_of c.args.run.now.replies.now c.args.state.now in
    ap no_value (within-in c.args.at c.args.size (asks (SharedStore (cell c.args.number c.args.at) c.args.word)) s c.if-at-size.false ∙ c.in_ok-ask.ensures)
