use Rattle.std.proofs.Common.{◌≡◌, ◌+◌, ◌*◌, ◌≤◌, map, take, drop}
use Rattle.std.specs.Prelude.{All, flat_map}
use Rattle.bc_stream.specs.Blocks.{append, parts_contents}
use Rattle.bc_records.specs.BodyRecords.{body_entry}
use Rattle.bc_records.specs.Ranges.{BlockInRange}
use Rattle.bc_records.specs.Written.{written_code}
use Rattle.bc_records.proofs.Steps.{alone}
use Rattle.bc_records.proofs.code.push_blocks.Given as goal

abbrev pub invariant-loop-block : goal.invariant-loop-block
invariant-loop-block l = record {
  so_far : append (parts_contents l.parts) (alone (map body_entry (written_code l.module l.next (flat_map (λ k. k.insts) (drop l.block-index l.all)))))
      ≡ append (parts_contents l.initial.parts) (alone (map body_entry (written_code l.module l.first (flat_map (λ k. k.insts) l.all))));
  limit : l.next ≤ l.first + l.block-index * 2147483647;
  range : All BlockInRange (take l.block-index l.all);
}
