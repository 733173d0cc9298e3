use Rattle.std.proofs.Common.{◌≡◌, ◌++◌, []}
use Rattle.std.specs.Prelude.{replicate}
use Rattle.bc_records.specs.Read.{block_of}
use Rattle.bc_records.proofs.read.bodies.pad.Given as goal

abbrev pub invariant-loop : goal.invariant-loop
invariant-loop l = l.blocks ≡ l.initial.blocks ++ replicate l.counter (block_of [])
