use Rattle.std.proofs.Common.{refl}
use Rattle.lane_core.specs.declared.event.Asked.TheVariants.{Fault}
use Rattle.lane_core.specs.declared.event.LaneFault.TheVariants.{OutOfBounds}
use Rattle.hl_source.specs.State.{with_variable}
use Rattle.hl_interpreter.proofs.Cells.{word-past, word-written}
use Rattle.hl_interpreter.proofs.Exits.{effect, ends-err}
use Rattle.hl_interpreter.proofs.writing.set_word.Goals as goal

pub returns-then-at-variable : goal.returns-then-at-variable
returns-then-at-variable c = λ number s there is.
    ends-err effect c.from.result (Fault OutOfBounds) (with_variable number c.args.variable.now s) _ c.from.ensures
    (word-past number c.args.at c.args.word c.args.variable.now s is c.if-at-variable.true)

pub returns : goal.returns
returns c = λ number s there is. word-written number c.args.at c.args.word c.args.variable.now _ s is c.if-at-variable.false refl
