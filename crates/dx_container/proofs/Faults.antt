-- Which faults there can be, by their kind.
use Rattle.std.proofs.Common.{◌≡◌, ◌≢◌, ℕ, suc, ◌+◌, ◌*◌, ◌<◌, ◌≤◌, List, length, sym, subst, arith}
use Rattle.dx_container.specs.Container.{container_name, half_at, word_at, name_at, part_count, part_place, body_size, IsOnlyProgram, HasFault, short_header, no_container, other_version, other_size, many_parts, long_part, no_only_program, NoFaultBelow, FaultIs}

-- kinds begin at 1
pub below_1 : (bytes : List ℕ) → NoFaultBelow bytes 1
below_1 bytes k o (short_header h) = omega arith
below_1 bytes k o _ = omega arith

-- one kind further
next_kind : (bytes : List ℕ) (kind : ℕ) → NoFaultBelow bytes kind → ((o : ℕ) → ¬ HasFault bytes kind o) → NoFaultBelow bytes (suc kind)
next_kind bytes kind below none k o h =
    let a : k ≢ kind = λ e. none o (subst (λ (i : ℕ). HasFault bytes i o) e h) in
    let b = below k o h in
    omega arith

-- facts that leave no fault of a kind
not_1 : (bytes : List ℕ) → 32 ≤ length bytes → (o : ℕ) → ¬ HasFault bytes 1 o
not_1 bytes long o (short_header h) = omega arith

not_2 : (bytes : List ℕ) → name_at bytes 0 ≡ container_name → (o : ℕ) → ¬ HasFault bytes 2 o
not_2 bytes e o (no_container h) = h e

not_3 : (bytes : List ℕ) → half_at bytes 20 ≡ 1 → half_at bytes 22 ≡ 0 → (o : ℕ) → ¬ HasFault bytes 3 o
not_3 bytes d e o (other_version h) = h (d, e)

not_4 : (bytes : List ℕ) → word_at bytes 24 ≡ length bytes → (o : ℕ) → ¬ HasFault bytes 4 o
not_4 bytes e o (other_size h) = h e

-- a part stands whole
abbrev pub Stands : List ℕ → ℕ → Type 0
Stands bytes k = part_place bytes k + 8 + body_size bytes (part_place bytes k) ≤ length bytes

not_7 : (bytes : List ℕ) (k : ℕ) → IsOnlyProgram bytes k → (o : ℕ) → ¬ HasFault bytes 7 o
not_7 bytes k only o (no_only_program h) = h k only

-- each fact leaves one more kind behind
pub below_2 : (bytes : List ℕ) → 32 ≤ length bytes → NoFaultBelow bytes 2
below_2 bytes long = next_kind bytes 1 (below_1 bytes) (not_1 bytes long)

pub below_3 : (bytes : List ℕ) → 32 ≤ length bytes → name_at bytes 0 ≡ container_name → NoFaultBelow bytes 3
below_3 bytes long name = next_kind bytes 2 (below_2 bytes long) (not_2 bytes name)

pub below_4 : (bytes : List ℕ) → NoFaultBelow bytes 3 → half_at bytes 20 ≡ 1 → half_at bytes 22 ≡ 0 → NoFaultBelow bytes 4
below_4 bytes below first second = next_kind bytes 3 below (not_3 bytes first second)

pub below_5 : (bytes : List ℕ) → NoFaultBelow bytes 4 → word_at bytes 24 ≡ length bytes → NoFaultBelow bytes 5
below_5 bytes below total = next_kind bytes 4 below (not_4 bytes total)

pub below_8 : (bytes : List ℕ) (k : ℕ) → NoFaultBelow bytes 7 → IsOnlyProgram bytes k → NoFaultBelow bytes 8
below_8 bytes k below only = next_kind bytes 7 below (not_7 bytes k only)

-- where a fault of a kind stands
at_1 : (bytes : List ℕ) (o : ℕ) → HasFault bytes 1 o → length bytes ≤ o
at_1 bytes o (short_header h) = omega arith

at_2 : (bytes : List ℕ) (o : ℕ) → HasFault bytes 2 o → 0 ≤ o
at_2 bytes o h = omega arith

at_3 : (bytes : List ℕ) (o : ℕ) → HasFault bytes 3 o → 20 ≤ o
at_3 bytes o (other_version h) = omega arith

at_4 : (bytes : List ℕ) (o : ℕ) → HasFault bytes 4 o → 24 ≤ o
at_4 bytes o (other_size h) = omega arith

at_5 : (bytes : List ℕ) (o : ℕ) → HasFault bytes 5 o → 28 ≤ o
at_5 bytes o (many_parts h) = omega arith

at_6 : (bytes : List ℕ) (k : ℕ) → ((j : ℕ) → j < k → Stands bytes j) → (o : ℕ) → HasFault bytes 6 o → 32 + 4 * k ≤ o
at_6 bytes k stand o (long_part j h passes) =
    let a : ¬ (j < k) = λ below. (let b = stand j below in omega arith) in
    omega arith

at_7 : (bytes : List ℕ) (o : ℕ) → HasFault bytes 7 o → 28 ≤ o
at_7 bytes o (no_only_program h) = omega arith

-- the first fault, kind by kind
pub fault_1 : (bytes : List ℕ) → length bytes < 32 → FaultIs bytes 1 (length bytes)
fault_1 bytes h = record { holds = short_header h; first = below_1 bytes; nearest = at_1 bytes }

pub fault_2 : (bytes : List ℕ) → 32 ≤ length bytes → name_at bytes 0 ≢ container_name → FaultIs bytes 2 0
fault_2 bytes long h = record { holds = no_container h; first = below_2 bytes long; nearest = at_2 bytes }

pub fault_3 : (bytes : List ℕ) → NoFaultBelow bytes 3 → ¬ ((half_at bytes 20 ≡ 1) × (half_at bytes 22 ≡ 0)) → FaultIs bytes 3 20
fault_3 bytes below h = record { holds = other_version h; first = below; nearest = at_3 bytes }

pub fault_4 : (bytes : List ℕ) → NoFaultBelow bytes 4 → word_at bytes 24 ≢ length bytes → FaultIs bytes 4 24
fault_4 bytes below h = record { holds = other_size h; first = below; nearest = at_4 bytes }

pub fault_5 : (bytes : List ℕ) → NoFaultBelow bytes 5 → length bytes < 32 + 4 * part_count bytes → FaultIs bytes 5 28
fault_5 bytes below h = record { holds = many_parts h; first = below; nearest = at_5 bytes }

pub fault_6 : (bytes : List ℕ) (k : ℕ) → NoFaultBelow bytes 6 → ((j : ℕ) → j < k → Stands bytes j) → k < part_count bytes
    → length bytes < part_place bytes k + 8 + body_size bytes (part_place bytes k) → FaultIs bytes 6 (32 + 4 * k)
fault_6 bytes k below stand h passes =
    record { holds = long_part k h passes; first = below; nearest = at_6 bytes k stand }

pub fault_7 : (bytes : List ℕ) → NoFaultBelow bytes 7 → ((k : ℕ) → ¬ IsOnlyProgram bytes k) → FaultIs bytes 7 28
fault_7 bytes below h = record { holds = no_only_program h; first = below; nearest = at_7 bytes }

-- the same fault under equal numbers
pub fault_as : {bytes : List ℕ} {kind offset k o : ℕ} → FaultIs bytes k o → kind ≡ k → offset ≡ o → FaultIs bytes kind offset
fault_as {bytes} {kind} {offset} {k} {o} f d e =
    subst (λ (x : ℕ). FaultIs bytes x offset) (sym d) (subst (λ (x : ℕ). FaultIs bytes k x) (sym e) f)

-- what stands where there is no fault of the kinds before
pub header_stands : (bytes : List ℕ) (kind : ℕ) → 2 ≤ kind → NoFaultBelow bytes kind → 32 ≤ length bytes
header_stands bytes kind far below =
    let all : ¬ (length bytes < 32) = λ h. let a = below 1 (length bytes) (short_header h) in omega arith in
    omega arith

pub places_stand : (bytes : List ℕ) (kind : ℕ) → 6 ≤ kind → NoFaultBelow bytes kind → 32 + 4 * part_count bytes ≤ length bytes
places_stand bytes kind far below =
    let all : ¬ (length bytes < 32 + 4 * part_count bytes) = λ h. let a = below 5 28 (many_parts h) in omega arith in
    omega arith

pub part_stands : (bytes : List ℕ) (kind : ℕ) → 7 ≤ kind → NoFaultBelow bytes kind → (k : ℕ) → k < part_count bytes → Stands bytes k
part_stands bytes kind far below k within =
    let all : ¬ (length bytes < part_place bytes k + 8 + body_size bytes (part_place bytes k)) =
    λ h. let a = below 6 (32 + 4 * k) (long_part k within h) in omega arith in
    omega arith
