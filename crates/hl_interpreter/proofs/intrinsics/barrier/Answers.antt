use Rattle.std.proofs.Common.{◌∙◌, [], ap, sym}
use Rattle.hl_source.specs.State.{goes_with, no_value}
use Rattle.hl_interpreter.specs.Runs.{state_of}
use Rattle.hl_interpreter.proofs.Exits.{stop-exit}
use Rattle.hl_interpreter.proofs.Meeting.{stops}
use Rattle.hl_interpreter.proofs.intrinsics.barrier.Goals as goal

pub returns-in_err-ask : goal.returns-in_err-ask
returns-in_err-ask c =
    let e = c.in_err-ask.field-0.0 in
    let t = state_of c.args.run.now.replies.now c.ask.new.state in
    stop-exit (λ w. w) c.from_residual.result e t _ c.from_residual.ensures.1 (stops (λ reply. reply) (λ w. w) e t _ (λ _ u. goes_with [] u) c.in_err-ask.ensures)

pub returns : goal.returns
returns c =
    let t = state_of c.args.run.now.replies.now c.ask.new.state in
    ap no_value c.in_ok-ask.ensures ∙ ap (λ l. goes_with l t) (sym c.new.ensures)
