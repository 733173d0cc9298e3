-- A block list, as it is held, that has no fault records the module that it says.
use Rattle.std.proofs.Common.{◌≡◌, List, [], ◌∷◌, length, ap, ◌∙◌}
use Rattle.std.specs.Prelude.{All}
use Rattle.bc_stream.specs.declared.block.BlockTree.{BlockTree}
use Rattle.bc_stream.specs.Blocks.{contents_of}
use Rattle.bc_stream.proofs.BlockLemmas.{contents_of-none, contents_of-first}
use Rattle.bc_records.specs.Entries.{entries_in, IsWord}
use Rattle.bc_records.specs.FaultSites.{IsFree}
use Rattle.bc_records.specs.Records.{Recorded}
use Rattle.bc_records.specs.RecordFaults.{record_sites}
use Rattle.bc_records.specs.Read.{read_module}
use Rattle.bc_records.proofs.ReadModule.{free_is_recorded}

-- outside its blocks stand no records
pub blocks_alone : (blocks : List BlockTree) → entries_in (contents_of blocks) ≡ []
blocks_alone [] = ap entries_in contents_of-none
blocks_alone (block ∷ blocks) = ap entries_in (contents_of-first block blocks) ∙ blocks_alone blocks

-- a block list without a fault, whose type table has fewer than 2^32 entries
pub free_blocks_recorded : (blocks : List BlockTree) → IsWord (length (read_module (contents_of blocks)).types) → All IsFree (record_sites (contents_of blocks)) →
    Recorded (contents_of blocks) (read_module (contents_of blocks))
free_blocks_recorded blocks few free = free_is_recorded (contents_of blocks) (blocks_alone blocks) few free
