use Rattle.lane_core.specs.declared.event.Asked.TheVariants.{Fault}
use Rattle.lane_core.specs.declared.event.LaneFault.TheVariants.{OutOfBounds}
use Rattle.hl_interpreter.proofs.Cells.{none-written, nothing-written}
use Rattle.hl_interpreter.proofs.Exits.{effect, ends-err}
use Rattle.hl_interpreter.proofs.writing.set_nothing.Goals as goal

pub returns-then-is_empty : goal.returns-then-is_empty
returns-then-is_empty c = λ number offset s past. none-written number offset c.args.words.now s c.if-is_empty.ensures

pub returns-else-is_empty : goal.returns-else-is_empty
returns-else-is_empty c = λ number offset s past.
    ends-err effect c.from.result (Fault OutOfBounds) s _ c.from.ensures (nothing-written number offset c.args.words.now s c.if-is_empty.ensures past)
