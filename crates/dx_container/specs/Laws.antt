-- What holds of every container.
use Rattle.std.specs.Prelude.{◌≡◌, ℕ, ◌^◌, ◌<◌, ◌≤◌, Bool, List, length}
use Rattle.dx_container.specs.Container.{Contained, FaultIs, written_form}

-- bytes contain at most one bitcode, in one version
abbrev pub AtMostOneContent : Type 0
AtMostOneContent =
    (bytes bitcode other : List ℕ) (major minor other_major other_minor : ℕ)
    → Contained bytes bitcode major minor
    → Contained bytes other other_major other_minor
    → (bitcode ≡ other) × (major ≡ other_major) × (minor ≡ other_minor)

-- what is written contains the bitcode that it was written from, in version 6
abbrev pub WrittenIsContained : Type 0
WrittenIsContained =
    (bitcode : List ℕ) (minor : ℕ) (waves : Bool)
    → length bitcode < 2 ^ 31
    → minor ≤ 15
    → Contained (written_form bitcode minor waves) bitcode 6 minor

-- bytes that contain a bitcode have no first fault
abbrev pub ContainedHasNoFault : Type 0
ContainedHasNoFault =
    (bytes bitcode : List ℕ) (major minor kind offset : ℕ)
    → Contained bytes bitcode major minor
    → ¬ FaultIs bytes kind offset

-- bytes have at most one first fault
abbrev pub AtMostOneFault : Type 0
AtMostOneFault =
    (bytes : List ℕ) (kind offset other_kind other_offset : ℕ)
    → FaultIs bytes kind offset
    → FaultIs bytes other_kind other_offset
    → (kind ≡ other_kind) × (offset ≡ other_offset)
