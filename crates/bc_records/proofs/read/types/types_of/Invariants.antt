use Rattle.std.proofs.Common.{◌≡◌, [], ◌++◌, map}
use Rattle.bc_stream.specs.Blocks.{parts_contents}
use Rattle.bc_records.specs.Entries.{entries_in}
use Rattle.bc_records.specs.Read.{read_type}
use Rattle.bc_records.specs.TypeRecords.{table_of}
use Rattle.bc_records.proofs.ReadSteps.{from}
use Rattle.bc_records.proofs.read.types.types_of.Given as goal

abbrev pub invariant-loop-part : goal.invariant-loop-part
invariant-loop-part l =
    l.types ++ table_of l.name (map read_type (entries_in (from l.part-items l.part-index)))
    ≡ table_of [] (map read_type (entries_in (parts_contents l.part-items)))
