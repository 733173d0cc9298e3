-- From the one part with the name `DXIL` to the whole container.
use Rattle.std.proofs.Common.{◌≡◌, ℕ, ◌+◌, ◌<◌, ◌≤◌, List, length, sym, ap, subst, ◌∙◌, arith}
use Rattle.dx_container.specs.Container.{part_place, body_size, bitcode_at, bitcode_size, major_version, minor_version, StandsAt, ProgramFault, other_shader, long_bitcode, FirstProgramFault, HasFault, short_header, program_fault, NoFaultBelow, FaultIs, Contained}
use Rattle.dx_container.proofs.Faults.{below_8, part_stands}

-- the part stands whole
pub only_stands : (bytes : List ℕ) (part : ℕ) → NoFaultBelow bytes 7 → StandsAt bytes part → part + 8 + body_size bytes part ≤ length bytes
only_stands bytes part below at =
    subst (λ (p : ℕ). p + 8 + body_size bytes p ≤ length bytes) (sym at.place-is)
    (part_stands bytes 7 (omega arith) below at.index at.only.program.counted)

-- a fault of kind 8 is one of that part
of_part : (bytes : List ℕ) (part : ℕ) → StandsAt bytes part → (o : ℕ) → HasFault bytes 8 o → ProgramFault bytes part o
of_part bytes part at o (program_fault k at_k p h) =
    let e : k ≡ at.index = at.only.only k at_k in
    subst (λ (p : ℕ). ProgramFault bytes p o) (ap (λ (j : ℕ). part_place bytes j) e ∙ sym at.place-is) h

-- kinds end at 8
kind_8 : (bytes : List ℕ) (k o : ℕ) → HasFault bytes k o → k ≤ 8
kind_8 bytes k o (short_header h) = omega arith
kind_8 bytes k o _ = omega arith

-- the first fault is one of that part
pub fault_8 : (bytes : List ℕ) (part o : ℕ) → NoFaultBelow bytes 7 → StandsAt bytes part → FirstProgramFault bytes part o → FaultIs bytes 8 o
fault_8 bytes part o below at f =
    record {
      holds = program_fault at.index at.only.program o (subst (λ (p : ℕ). ProgramFault bytes p o) at.place-is f.holds);
      first = below_8 bytes at.index below at.only;
      nearest = λ p h. f.nearest p (of_part bytes part at p h);
    }

-- there is none
none_at_all : (bytes : List ℕ) (part : ℕ) → NoFaultBelow bytes 7 → StandsAt bytes part → ((o : ℕ) → ¬ ProgramFault bytes part o)
    → (k o : ℕ) → ¬ HasFault bytes k o
none_at_all bytes part below at faultless k o h =
    let a = below_8 bytes at.index below at.only k o h in
    let b = kind_8 bytes k o h in
    let e : k ≡ 8 = omega arith in
    faultless o (of_part bytes part at o (subst (λ (i : ℕ). HasFault bytes i o) e h))

pub contained : (bytes bitcode : List ℕ) (part major minor : ℕ) → NoFaultBelow bytes 7 → StandsAt bytes part → ((o : ℕ) → ¬ ProgramFault bytes part o)
    → bitcode ≡ bitcode_at bytes part
    → major ≡ major_version bytes part
    → minor ≡ minor_version bytes part
    → Contained bytes bitcode major minor
contained bytes bitcode part major minor below at faultless b j n =
    record {
      faultless = none_at_all bytes part below at faultless;
      part = at.index;
      program = at.only.program;
      bitcode-is = b ∙ ap (λ (p : ℕ). bitcode_at bytes p) at.place-is;
      major-is = j ∙ ap (λ (p : ℕ). major_version bytes p) at.place-is;
      minor-is = n ∙ ap (λ (p : ℕ). minor_version bytes p) at.place-is;
    }

-- what a part without faults says
pub has_room : (bytes : List ℕ) (part : ℕ) → ((o : ℕ) → ¬ ProgramFault bytes part o) → 24 + bitcode_size bytes part ≤ body_size bytes part
has_room bytes part faultless =
    let a : ¬ (body_size bytes part < 24 + bitcode_size bytes part) = λ h. faultless (part + 28) (long_bitcode h) in
    omega arith

pub is_6 : (bytes : List ℕ) (part : ℕ) → ((o : ℕ) → ¬ ProgramFault bytes part o) → 6 ≡ major_version bytes part
is_6 bytes part faultless =
    let a : ¬ (6 < major_version bytes part) = λ h. faultless (part + 8) (other_shader (λ e. let d = e.1 in omega arith)) in
    let b : ¬ (major_version bytes part < 6) = λ h. faultless (part + 8) (other_shader (λ e. let d = e.1 in omega arith)) in
    omega arith
