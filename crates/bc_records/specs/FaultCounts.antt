-- Counts of records with one of three codes that follow one another.
use Rattle.std.specs.Prelude.{ℕ, suc, ◌+◌, ◌==◌, Bool, ◌||◌, List}
use Rattle.bc_records.specs.Entries.{Entry}
use Rattle.bc_records.specs.RecordKinds.{count_code}

abbrev pub is_code_from : (first code : ℕ) → Bool
is_code_from first code = (code == first) || ((code == suc first) || (code == suc (suc first)))

abbrev pub codes_from : (first : ℕ) → List Entry → ℕ
codes_from first es = count_code first es + (count_code (suc first) es + count_code (suc (suc first)) es)
