use Rattle.std.proofs.Common.{◌≡◌, map}
use Rattle.bc_stream.specs.Blocks.{parts_contents}
use Rattle.bc_records.specs.Codes.{symbols_block}
use Rattle.bc_records.specs.Entries.{blocks_in}
use Rattle.bc_records.specs.RecordKinds.{all_of}
use Rattle.bc_records.specs.Read.{read_symbol, with_names}
use Rattle.bc_records.proofs.ReadSteps.{from}
use Rattle.bc_records.proofs.read.names.functions_in.Given as goal

abbrev pub invariant-loop-part : goal.invariant-loop-part
invariant-loop-part l =
    with_names l.functions.items (map read_symbol (all_of (blocks_in symbols_block (from l.part-items l.part-index))))
    ≡ with_names l.initial.functions.items (map read_symbol (all_of (blocks_in symbols_block (parts_contents l.part-items))))
