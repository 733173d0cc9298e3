use Rattle.std.proofs.Common.{◌≡◌, map}
use Rattle.bc_stream.specs.Blocks.{parts_contents}
use Rattle.bc_records.specs.Entries.{entries_in}
use Rattle.bc_records.specs.Read.{read_symbol, with_names}
use Rattle.bc_records.proofs.ReadSteps.{from}
use Rattle.bc_records.proofs.read.names.name_functions.Given as goal

abbrev pub invariant-loop-part : goal.invariant-loop-part
invariant-loop-part l =
    with_names l.functions.items (map read_symbol (entries_in (from l.part-items l.part-index)))
    ≡ with_names l.initial.functions.items (map read_symbol (entries_in (parts_contents l.part-items)))
