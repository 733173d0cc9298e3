use Rattle.std.proofs.Common.{◌≡◌, take, drop}
use Rattle.std.specs.Prelude.{All, IfSome}
use Rattle.ir_core.specs.Values.{bodies}
use Rattle.bc_stream.specs.Blocks.{append, parts_contents}
use Rattle.bc_records.specs.Ranges.{BodyInRange}
use Rattle.bc_records.specs.Written.{bodies_contents}
use Rattle.bc_records.proofs.write.push_bodies.Given as goal

abbrev pub invariant-loop-function : goal.invariant-loop-function
invariant-loop-function l = record {
  so_far : append (parts_contents l.parts) (bodies_contents l.module (bodies (drop l.function-index l.all)))
      ≡ append (parts_contents l.initial.parts) (bodies_contents l.module (bodies l.all));
  range : All (λ f. IfSome f.body BodyInRange) (take l.function-index l.all);
}
