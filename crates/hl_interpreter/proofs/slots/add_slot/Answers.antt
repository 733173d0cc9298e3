use Rattle.hl_interpreter.proofs.Registers.{inserted}
use Rattle.hl_interpreter.proofs.slots.add_slot.Goals as goal

pub returns-in_ok-insert : goal.returns-in_ok-insert
returns-in_ok-insert c = inserted c.args.taken.now c.insert.new.self c.args.slot c.if-slot-eq0.true c.in_ok-insert.ensures.updates.0
