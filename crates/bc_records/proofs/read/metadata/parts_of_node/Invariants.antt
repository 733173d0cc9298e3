use Rattle.std.proofs.Common.{◌≡◌, map, take}
use Rattle.bc_records.specs.MetadataRecords.{node_part}
use Rattle.bc_records.specs.Read.{read_part}
use Rattle.bc_records.proofs.read.metadata.parts_of_node.Given as goal

abbrev pub invariant-loop-number : goal.invariant-loop-number
invariant-loop-number l = l.ids.items ≡ map node_part (map read_part (take l.number-index l.operands))
