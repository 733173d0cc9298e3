use Rattle.std.proofs.Common.{◌≡◌, map, take, drop}
use Rattle.std.specs.Prelude.{All}
use Rattle.bc_stream.specs.Blocks.{append, parts_contents}
use Rattle.bc_records.specs.Entries.{IsText}
use Rattle.bc_records.specs.SymbolRecords.{symbol_entry}
use Rattle.bc_records.specs.Written.{symbols_from, symbols_contents}
use Rattle.bc_records.proofs.Steps.{alone}
use Rattle.bc_records.proofs.symbols.symbols_parts.Given as goal

abbrev pub invariant-loop-value : goal.invariant-loop-value
invariant-loop-value l = record {
  so_far : append (parts_contents l.parts) (alone (map symbol_entry (symbols_from l.value (drop l.value l.all)))) ≡ symbols_contents l.all;
  range : All (λ f. IsText f.name) (take l.value l.all);
}
