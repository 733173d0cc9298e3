use Rattle.std.proofs.Common.{◌≡◌, [], drop}
use Rattle.hl_meaning.specs.Layout.{struct_kinds_after}
use Rattle.hl_meaning.specs.Views.{plain_structs}
use Rattle.hl_layout.proofs.kinds.struct_kinds.Given as goal

abbrev pub invariant-loop-structure : goal.invariant-loop-structure
invariant-loop-structure l = struct_kinds_after l.all (plain_structs (drop l.structure-index l.structs)) ≡ struct_kinds_after [] (plain_structs l.structs)
