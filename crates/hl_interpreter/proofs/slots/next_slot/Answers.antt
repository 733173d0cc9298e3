use Rattle.std.proofs.Common.{◌∙◌, ℕ, ap, sym}
use Rattle.lane_core.specs.declared.event.Slot.{Slot}
use Rattle.hl_meaning.specs.Slots.{slot_after}
use Rattle.hl_interpreter.proofs.Registers.{least-is_free}
use Rattle.hl_interpreter.proofs.slots.next_slot.Goals as goal

pub returns-in_ok-register-in-None-clause-slot : goal.returns-in_ok-register-in-None-clause-slot
returns-in_ok-register-in-None-clause-slot c = λ all earlier is.
    let r = c.args.resource.now in
    ap (slot_in r.class) (least-is_free all earlier c.args.taken.now r.class c.in_ok-register-in-None.register is c.in_ok-register-in-None.ensures) ∙
    sym (ap (slot_after all earlier r.class r.space) c.in-None.is)
  where
    slot_in : ℕ → ℕ → Slot
    slot_in class register = record { class = class; space = 0; register = register }
