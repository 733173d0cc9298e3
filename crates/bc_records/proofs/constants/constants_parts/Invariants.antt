use Rattle.std.proofs.Common.{◌≡◌, take, drop}
use Rattle.std.specs.Prelude.{All}
use Rattle.bc_stream.specs.Blocks.{append, parts_contents}
use Rattle.bc_records.specs.Ranges.{ConstInRange}
use Rattle.bc_records.specs.Written.{constants_contents}
use Rattle.bc_records.proofs.ConstantSteps.{left}
use Rattle.bc_records.proofs.constants.constants_parts.Given as goal

abbrev pub invariant-loop-constant : goal.invariant-loop-constant
invariant-loop-constant l = record {
  so_far : append (parts_contents l.parts) (left l.last_type (drop l.constant-index l.all)) ≡ constants_contents l.all;
  range : All ConstInRange (take l.constant-index l.all);
}
