use Rattle.std.proofs.Common.{◌≡◌, map, take, drop}
use Rattle.std.specs.Prelude.{All}
use Rattle.bc_stream.specs.Blocks.{append, parts_contents}
use Rattle.bc_records.specs.Entries.{IsWord}
use Rattle.bc_records.specs.Written.{function_entry}
use Rattle.bc_records.proofs.Steps.{alone}
use Rattle.bc_records.proofs.write.push_functions.Given as goal

abbrev pub invariant-loop-function : goal.invariant-loop-function
invariant-loop-function l = record {
  so_far : append (parts_contents l.parts) (alone (map function_entry (drop l.function-index l.all)))
      ≡ append (parts_contents l.initial.parts) (alone (map function_entry l.all));
  range : All (λ f. IsWord f.ty) (take l.function-index l.all);
}
