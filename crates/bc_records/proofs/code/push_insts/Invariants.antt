use Rattle.std.proofs.Common.{◌≡◌, ◌+◌, ◌≤◌, map, take, drop}
use Rattle.std.specs.Prelude.{All}
use Rattle.bc_stream.specs.Blocks.{append, parts_contents}
use Rattle.bc_records.specs.BodyRecords.{body_entry}
use Rattle.bc_records.specs.Ranges.{InstInRange}
use Rattle.bc_records.specs.Written.{written_code, value_after}
use Rattle.bc_records.proofs.Steps.{alone}
use Rattle.bc_records.proofs.code.push_insts.Given as goal

abbrev pub invariant-loop-inst : goal.invariant-loop-inst
invariant-loop-inst l = record {
  so_far : append (parts_contents l.parts) (alone (map body_entry (written_code l.module l.next (drop l.inst-index l.all))))
      ≡ append (parts_contents l.initial.parts) (alone (map body_entry (written_code l.module l.first l.all)));
  after : value_after l.module l.next (drop l.inst-index l.all) ≡ value_after l.module l.first l.all;
  limit : l.next ≤ l.first + l.inst-index;
  range : All InstInRange (take l.inst-index l.all);
}
