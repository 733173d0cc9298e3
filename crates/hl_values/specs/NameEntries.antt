-- How names are held.
use Rattle.std.specs.Prelude.{◌≡◌, ℕ, List, [], map, unwrap_or, bytes_eq, ◌≤◌, length}
use Rattle.base_core.specs.Limits.{most_parts}
use Rattle.indexmap.specs.IndexMap.{IndexMap, get_by}
use Rattle.hl_values.specs.declared.name_table.NameEntry.{NameEntry}
use Rattle.hl_values.specs.NameTables.{positions_from}
use denote.Ref.{Bor}

abbrev pub entry_of : {T : Type 0} → NameEntry T → List ℕ × T
entry_of e = (e.name.now, e.value)

-- the positions that are noted for a name
abbrev pub noted_for : {S : Type 0} → IndexMap (Bor (List ℕ)) (List ℕ) S → List ℕ → List ℕ
noted_for positions name = unwrap_or (get_by (λ key. bytes_eq name key.now) positions) []

-- the positions of all names are noted
abbrev pub AreNoted : {S T : Type 0} → List (NameEntry T) → IndexMap (Bor (List ℕ)) (List ℕ) S → Type 0
AreNoted entries positions = (name : List ℕ) → noted_for positions name ≡ positions_from 0 name (map entry_of entries)

-- a table has at most so many entries, and the positions of all names
pub record IsTable {S T : Type 0} (entries : List (NameEntry T)) (positions : IndexMap (Bor (List ℕ)) (List ℕ) S) : Type 0 where
  pub within : length entries ≤ most_parts
  pub noted : AreNoted entries positions
