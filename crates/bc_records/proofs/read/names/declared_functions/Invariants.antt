use Rattle.std.proofs.Common.{◌≡◌, ◌++◌}
use Rattle.bc_stream.specs.Blocks.{parts_contents}
use Rattle.bc_records.specs.Entries.{entries_in}
use Rattle.bc_records.specs.Read.{declared}
use Rattle.bc_records.specs.RecordKinds.{function_entries}
use Rattle.bc_records.proofs.ReadSteps.{from}
use Rattle.bc_records.proofs.read.names.declared_functions.Given as goal

abbrev pub invariant-loop-part : goal.invariant-loop-part
invariant-loop-part l =
    l.functions.items ++ declared (function_entries (entries_in (from l.part-items l.part-index)))
    ≡ declared (function_entries (entries_in (parts_contents l.part-items)))
