-- The slot of each buffer: its class, its register space and its register (HLSL, "Resource Binding"). Which register a
-- buffer has where none is given is this project's own.
use Rattle.std.specs.Prelude.{ℕ, suc, ◌==◌, ◌&&◌, not, if◌then◌else◌, length, List, [], ◌∷◌, ◌++◌, Option, Some, None, filter_map, find, unwrap_or}
use Rattle.std.specs.List.{list_any, range_with_len}
use Rattle.lane_core.specs.declared.event.Slot.{Slot}
use Rattle.hl_meaning.specs.Programs.{Resource}

-- the least number that isn't among some: at most as many numbers are taken as there are among them
abbrev pub least_free : List ℕ → ℕ
least_free taken =
    unwrap_or (find (λ n. not (list_any (λ t. t == n) taken)) (range_with_len 0 (suc (length taken)))) 0

-- the register that a buffer of a class gives, where it stands in space 0
abbrev pub given_register : (class : ℕ) → Resource → Option ℕ
given_register class r = if r.class == class && r.space == 0 then r.register else None

-- the register of a slot of a class in space 0
abbrev pub slot_register : (class : ℕ) → Slot → Option ℕ
slot_register class slot = if slot.class == class && slot.space == 0 then Some slot.register else None

-- The register of a buffer without one: the least of its class in space 0 that no buffer gives and no earlier buffer
-- has.
abbrev pub free_register : List Resource → (earlier : List Slot) → (class : ℕ) → ℕ
free_register all earlier class =
    least_free (filter_map (given_register class) all ++ filter_map (slot_register class) earlier)

-- the slot of a buffer among all, behind the slots of the buffers before it
abbrev pub slot_after : List Resource → (earlier : List Slot) → (class space : ℕ) → Option ℕ → Slot
slot_after all earlier class space (Some register) = record { class = class; space = space; register = register }
slot_after all earlier class space None = record { class = class; space = 0; register = free_register all earlier class }

-- the slots of the buffers, behind those of the buffers before them
abbrev pub slots_after : List Resource → (earlier : List Slot) → List Resource → List Slot
slots_after all earlier [] = earlier
slots_after all earlier (r ∷ resources) =
    slots_after all (earlier ++ slot_after all earlier r.class r.space r.register ∷ []) resources

-- the slot of each buffer of a program, in order
abbrev pub slots_of : List Resource → List Slot
slots_of resources = slots_after resources [] resources
