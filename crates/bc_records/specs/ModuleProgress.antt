-- Where a walk over the block MODULE stands.
use Rattle.std.specs.Prelude.{◌≡◌, suc, ◌==◌, ◌||◌, Bool, ℕ, if◌then◌else◌, List}
use Rattle.bc_stream.specs.Blocks.{Contents}
use Rattle.bc_records.specs.declared.faults.progress.Progress.{Progress}
use Rattle.bc_records.specs.Codes.{function_block, symbols_block, types_block}
use Rattle.bc_records.specs.Entries.{entries_in, blocks_in}
use Rattle.bc_records.specs.FaultSearch.{MarksNamed}
use Rattle.bc_records.specs.RecordFaults.{bodies_before}
use Rattle.bc_records.specs.RecordKinds.{has_code, has_block, all_of}

-- what has come in front of a place
pub record HasCome (before : Contents) (progress : Progress) : Type 0 where
  pub version : has_code 1 (entries_in before) ≡ progress.version
  pub triple : has_code 2 (entries_in before) ≡ progress.triple
  pub layout : has_code 3 (entries_in before) ≡ progress.layout
  pub types : has_block types_block before ≡ progress.types
  pub bodies : bodies_before before ≡ progress.bodies

-- the functions that the symbol tables before a place name are marked
abbrev pub MarksBefore : Contents → List Bool → Type 0
MarksBefore before marks = MarksNamed marks (all_of (blocks_in symbols_block before))

-- what has come behind a record more
abbrev pub behind_code : Progress → ℕ → Progress
behind_code progress code = record {
  version = progress.version || (code == 1);
  triple = progress.triple || (code == 2);
  layout = progress.layout || (code == 3);
  types = progress.types;
  bodies = progress.bodies;
}

-- what has come behind a block more
abbrev pub behind_id : Progress → ℕ → Progress
behind_id progress id = record {
  version = progress.version;
  triple = progress.triple;
  layout = progress.layout;
  types = progress.types || (id == types_block);
  bodies = if id == function_block then suc progress.bodies else progress.bodies;
}
