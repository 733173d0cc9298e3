use Rattle.std.proofs.Common.{◌≡◌, ℕ, ◌||◌, drop, map}
use Rattle.hl_meaning.specs.Views.{plain_resource}
use Rattle.hl_interpreter.specs.Registers.{has_register}
use Rattle.hl_interpreter.proofs.Registers.{is_given}
use Rattle.hl_interpreter.proofs.slots.given_registers.Given as goal

abbrev pub invariant-loop-resource : goal.invariant-loop-resource
invariant-loop-resource l =
    (class register : ℕ) → (has_register l.taken class register || is_given class register (map plain_resource (drop l.resource-index l.resources))) ≡ is_given class register (map plain_resource l.resources)
