-- Sets of the registers that are taken in space 0, each beside its class.
use Rattle.std.specs.Prelude.{◌≡◌, ℕ, ◌<◌, ◌==◌, ◌++◌, ◌||◌, Bool, true, false, List, Option, Some, None, filter_map, slice_index}
use Rattle.std.specs.BTreeSet.{BTreeSet, contains}
use Rattle.std.specs.List.{list_any}
use Rattle.std.specs.Ordering.{nat_cmp, ordering_then}
use Rattle.lane_core.specs.declared.event.Slot.{Slot}
use Rattle.hl_meaning.specs.Programs.{Resource}
use Rattle.hl_meaning.specs.Slots.{given_register, slot_after, slot_register}

-- whether a register of a class is in a set
abbrev pub has_register : BTreeSet (ℕ × ℕ) → (class register : ℕ) → Bool
has_register taken class register = contains (λ x y. ordering_then (nat_cmp x.0 y.0) (nat_cmp x.1 y.1)) taken (class, register)

-- whether a register is the one that there may be
abbrev pub is_one : Option ℕ → (register : ℕ) → Bool
is_one None register = false
is_one (Some one) register = one == register

-- a set has more than before what there is of each class
abbrev pub Adds : (ℕ → Option ℕ) → (before behind : BTreeSet (ℕ × ℕ)) → Type 0
Adds one before behind = (class register : ℕ) → has_register behind class register ≡ (has_register before class register || is_one (one class) register)

-- a set has the registers that some of the buffers give or that earlier buffers have, and no others
abbrev pub IsTaken : List Resource → (earlier : List Slot) → BTreeSet (ℕ × ℕ) → Type 0
IsTaken all earlier taken =
    (class register : ℕ) → has_register taken class register ≡ list_any (λ t. t == register) (filter_map (given_register class) all ++ filter_map (slot_register class) earlier)

-- a set has each register of a class below one
abbrev pub HasAllBelow : BTreeSet (ℕ × ℕ) → (class bound : ℕ) → Type 0
HasAllBelow taken class bound = (register : ℕ) → register < bound → has_register taken class register ≡ true

-- a set has each register of each class below where the search for the class starts
abbrev pub HasAllBelowStarts : BTreeSet (ℕ × ℕ) → (starts : List ℕ) → Type 0
HasAllBelowStarts taken starts = (class : ℕ) → HasAllBelow taken class (slice_index starts class)

-- the least register of a class that a set doesn't have
abbrev pub IsLeastFree : BTreeSet (ℕ × ℕ) → (class register : ℕ) → Type 0
IsLeastFree taken class register = (has_register taken class register ≡ false) × HasAllBelow taken class register

-- the slot of a buffer, whatever the buffers and the earlier slots are whose registers a set has
abbrev pub IsNextSlot : BTreeSet (ℕ × ℕ) → (class space : ℕ) → Option ℕ → Slot → Type 0
IsNextSlot taken class space register slot = (all : List Resource) (earlier : List Slot) → IsTaken all earlier taken → slot ≡ slot_after all earlier class space register
