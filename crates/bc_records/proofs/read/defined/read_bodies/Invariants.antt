use Rattle.std.proofs.Common.{◌≡◌, ◌++◌, map, drop}
use Rattle.std.specs.Prelude.{option_map}
use Rattle.bc_stream.specs.Blocks.{parts_contents}
use Rattle.bc_records.specs.ReadBodies.{bodies_of}
use Rattle.bc_records.proofs.read.defined.read_bodies.Given as goal

abbrev pub invariant-loop-place : goal.invariant-loop-place
invariant-loop-place l =
    l.bodies.items ++ bodies_of l.module (map (option_map (λ p. parts_contents p.now)) (drop l.place l.blocks)) (drop l.place l.module.functions)
    ≡ bodies_of l.module (map (option_map (λ p. parts_contents p.now)) l.blocks) l.module.functions
