use Rattle.std.proofs.Common.{◌≡◌, ◌++◌, drop}
use Rattle.hl_meaning.specs.Views.{plain_parts}
use Rattle.hl_source.specs.Offsets.{literal_indexes}
use Rattle.hl_interpreter.proofs.places.literal_indexes.Given as goal

abbrev pub invariant-loop-part : goal.invariant-loop-part
invariant-loop-part l = l.indexes ++ literal_indexes (plain_parts (drop l.part-index l.parts)) ≡ literal_indexes (plain_parts l.parts)
