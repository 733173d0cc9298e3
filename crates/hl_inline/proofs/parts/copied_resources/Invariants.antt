use Rattle.std.proofs.Common.{◌≡◌, map, take}
use Rattle.hl_meaning.specs.Views.{plain_resource}
use Rattle.hl_inline.proofs.parts.copied_resources.Given as goal

abbrev pub invariant-loop-resource : goal.invariant-loop-resource
invariant-loop-resource l = map plain_resource l.copies ≡ map plain_resource (take l.resource-index l.resource-items)
