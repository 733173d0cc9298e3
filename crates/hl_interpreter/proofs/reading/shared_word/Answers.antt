use Rattle.std.proofs.Common.{sym}
use Rattle.lane_core.specs.declared.event.Asked.TheVariants.{Fault}
use Rattle.lane_core.specs.declared.event.Event.TheVariants.{SharedLoad}
use Rattle.lane_core.specs.declared.event.LaneFault.TheVariants.{OutOfBounds}
use Rattle.hl_source.specs.Memory.{cell}
use Rattle.hl_source.specs.State.{asks_word}
use Rattle.hl_interpreter.specs.Runs.{state_of}
use Rattle.hl_interpreter.proofs.Cells.{within-in, within-out}
use Rattle.hl_interpreter.proofs.Exits.{ends-err}
use Rattle.hl_interpreter.proofs.Meeting.{same}
use Rattle.hl_interpreter.proofs.reading.shared_word.Goals as goal

pub returns-then-at-size : goal.returns-then-at-size
returns-then-at-size c =
    let s = state_of c.args.run.now.replies.now c.args.state.now in
    ends-err (λ w. w) c.from.result (Fault OutOfBounds) s _ c.from.ensures (within-out c.args.at c.args.size (asks_word (SharedLoad (cell c.args.number c.args.at))) s c.if-at-size.true)

pub returns : goal.returns
returns c =
    let s = state_of c.args.run.now.replies.now c.args.state.now in
    same (λ w. w) c.ask_word.result _ _ _ (sym (within-in c.args.at c.args.size (asks_word (SharedLoad (cell c.args.number c.args.at))) s c.if-at-size.false)) c.ask_word.ensures
