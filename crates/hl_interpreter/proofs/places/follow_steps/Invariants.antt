use Rattle.std.proofs.Common.{◌≡◌, ◌≤◌, drop}
use Rattle.hl_meaning.specs.Views.{plain_parts, plain_structs}
use Rattle.hl_source.specs.Offsets.{reached, start_of}
use Rattle.hl_interpreter.specs.HeldPlaces.{plain_reached, plain_type}
use Rattle.hl_interpreter.proofs.places.follow_steps.Given as goal

abbrev pub invariant-loop-part : goal.invariant-loop-part
invariant-loop-part l = record {
  there : reached (plain_structs l.program.structs) (plain_reached l.from) (plain_parts (drop l.part-index l.parts)) (drop l.next l.indexes)
      ≡ reached (plain_structs l.program.structs) (start_of (plain_type l.start)) (plain_parts l.parts) l.indexes;
  few : l.next ≤ l.part-index;
}
