-- Entries of the type table as they are held.
use Rattle.std.specs.Prelude.{◌≡◌, ℕ, ◌<◌, Bool, List, [], ◌∷◌, map, length, slice_get, Option, None, Some, false, ◌==◌}
use Rattle.std.specs.Borrow.{Bor}
use Rattle.bc_stream.specs.declared.block.Entry as held
use Rattle.bc_records.specs.Entries.{Entry, entry}
use Rattle.bc_records.specs.RecordKinds.{has_entry}

abbrev pub entry_form : Bor held.Entry → Entry
entry_form e = entry e.now.code e.now.values

abbrev pub operands_form : Bor (List ℕ) → List ℕ
operands_form operands = operands.now

abbrev pub signature_form : ℕ × Bor (List ℕ) → ℕ × List ℕ
signature_form s = (s.0, s.1.now)

-- a number is the one that there is
abbrev pub is_the : Option ℕ → ℕ → Bool
is_the None number = false
is_the (Some other) number = other == number

-- for each type, whether a pointer to it stands in the table
abbrev pub MarksPointers : List (Bor held.Entry) → List Bool → Type 0
MarksPointers types pointed =
    (ty : ℕ) → ty < length types → slice_get pointed ty ≡ Some (has_entry (map entry_form types) (entry 8 (ty ∷ 0 ∷ [])))

-- for each type below some number, whether a pointer to it stands among these entries
abbrev pub MarksAmong : List Entry → List Bool → Type 0
MarksAmong entries pointed =
    (ty : ℕ) → ty < length pointed → slice_get pointed ty ≡ Some (has_entry entries (entry 8 (ty ∷ 0 ∷ [])))
