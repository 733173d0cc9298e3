-- The first fault among places, where the kinds of a place ascend.
use Rattle.std.specs.Prelude.{◌≡◌, ℕ, ◌<◌, Bool, Result, MatchResult, Option, None, Some, List, [], ◌∷◌, length, slice_get}
use Rattle.bc_records.specs.declared.faults.fault.Fault.{Fault}
use Rattle.bc_records.specs.declared.faults.fault.Stop.{Stop}
use Rattle.bc_records.specs.declared.faults.fault.Stop.TheVariants.{Found, Memory}
use Rattle.bc_records.specs.Entries.{Entry}
use Rattle.bc_records.specs.FaultSites.{Site}
use Rattle.bc_records.specs.RecordKinds.{names_value}

abbrev pub first_kind : List ℕ → Option ℕ
first_kind [] = None
first_kind (kind ∷ kinds) = Some kind

-- the fault of a place that has a kind
abbrev pub fault_at : (block at : ℕ) → Option ℕ → Option Fault
fault_at block at None = None
fault_at block at (Some kind) = Some (record { kind = kind; block = block; at = at })

-- the first of the two that there is
abbrev pub or_else : Option Fault → Option Fault → Option Fault
or_else None second = second
or_else (Some fault) second = Some fault

-- the first fault among places
abbrev pub first_fault : List Site → Option Fault
first_fault [] = None
first_fault (s ∷ ss) = or_else (fault_at s.block s.at (first_kind s.kinds)) (first_fault ss)

-- for each function, whether a record of a symbol table names it
abbrev pub MarksNamed : List Bool → List Entry → Type 0
MarksNamed marks records = (value : ℕ) → value < length marks → slice_get marks value ≡ Some (names_value value records)

-- a walk stops at the first fault, or where memory is refused
abbrev pub IsStop : Stop → Option Fault → Type 0
IsStop (Found fault) first = first ≡ Some fault
IsStop Memory first = Unit {0}

-- what a walk tells: that there is no fault, or the first
abbrev pub Tells : Result (Unit {0}) Stop → Option Fault → Type 0
Tells result first = MatchResult result (λ _. first ≡ None) (λ stop. IsStop stop first)
