use Rattle.std.proofs.Common.{◌≡◌, ◌++◌, map}
use Rattle.std.specs.Prelude.{option_map}
use Rattle.bc_stream.specs.Blocks.{parts_contents}
use Rattle.bc_records.specs.Codes.{function_block}
use Rattle.bc_records.specs.Entries.{blocks_in, entries_in}
use Rattle.bc_records.specs.ReadBodies.{body_blocks}
use Rattle.bc_records.specs.RecordKinds.{function_entries}
use Rattle.bc_records.proofs.ReadSteps.{from}
use Rattle.bc_records.proofs.read.defined.blocks_of_bodies.Given as goal

abbrev pub invariant-loop-part : goal.invariant-loop-part
invariant-loop-part l =
    map (option_map (λ p. parts_contents p.now)) l.found.items
    ++ body_blocks (function_entries (entries_in (from l.part-items l.part-index))) (blocks_in function_block (parts_contents l.rest))
    ≡ body_blocks (function_entries (entries_in (parts_contents l.part-items))) (blocks_in function_block (parts_contents l.initial.rest))
