use Rattle.std.proofs.Common.{◌≡◌, map, take}
use Rattle.hl_meaning.specs.Views.{plain_struct}
use Rattle.hl_inline.proofs.parts.copied_structs.Given as goal

abbrev pub invariant-loop-structure : goal.invariant-loop-structure
invariant-loop-structure l = map plain_struct l.copies ≡ map plain_struct (take l.structure-index l.structure-items)
