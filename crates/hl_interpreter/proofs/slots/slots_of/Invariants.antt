use Rattle.std.proofs.Common.{◌≡◌, drop, map}
use Rattle.hl_meaning.specs.Slots.{slots_after, slots_of}
use Rattle.hl_meaning.specs.Views.{plain_resource}
use Rattle.hl_interpreter.specs.Registers.{HasAllBelowStarts, IsTaken}
use Rattle.hl_interpreter.proofs.slots.slots_of.Given as goal

abbrev pub invariant-loop-resource : goal.invariant-loop-resource
invariant-loop-resource l = record {
  slots : slots_after (map plain_resource l.resources) l.slots (map plain_resource (drop l.resource-index l.resources)) ≡ slots_of (map plain_resource l.resources);
  taken : IsTaken (map plain_resource l.resources) l.slots l.taken;
  starts : HasAllBelowStarts l.taken l.starts;
}
