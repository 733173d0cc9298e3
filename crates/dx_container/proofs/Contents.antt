-- What a container holds is determined by its bytes.
use Rattle.std.proofs.Common.{subst, ◌≡◌, ◌≢◌, ℕ, ◌<◌, List, sym, ap, ◌∙◌, arith}
use Rattle.dx_container.specs.Container.{FaultIs, HasFault, IsProgram, no_only_program, bitcode_at, major_version, minor_version, part_place}
use Rattle.dx_container.specs.Laws.{AtMostOneContent, AtMostOneFault, ContainedHasNoFault}

-- where two parts have the name `DXIL`, bytes have a fault
two_programs : (bytes : List ℕ) (j k : ℕ) → IsProgram bytes j → IsProgram bytes k → j ≢ k → HasFault bytes 7 28
two_programs bytes j k at_j at_k differ =
    no_only_program (λ i only. differ (only.only j at_j ∙ sym (only.only k at_k)))

-- the part with the name `DXIL` is one
one_program : (bytes : List ℕ) (j k : ℕ) → ((kind offset : ℕ) → ¬ HasFault bytes kind offset) → IsProgram bytes j → IsProgram bytes k → j ≡ k
one_program bytes j k faultless at_j at_k =
    let below : ¬ (j < k) = λ h. faultless 7 28 (two_programs bytes j k at_j at_k (λ e. omega arith)) in
    let above : ¬ (k < j) = λ h. faultless 7 28 (two_programs bytes j k at_j at_k (λ e. omega arith)) in
    omega arith

pub at_most_one : AtMostOneContent
at_most_one bytes bitcode other major minor other_major other_minor one two =
    let e = one_program bytes one.part two.part one.faultless one.program two.program in (
      one.bitcode-is ∙ ap (λ (k : ℕ). bitcode_at bytes (part_place bytes k)) e ∙ sym two.bitcode-is,
      one.major-is ∙ ap (λ (k : ℕ). major_version bytes (part_place bytes k)) e ∙ sym two.major-is,
      one.minor-is ∙ ap (λ (k : ℕ). minor_version bytes (part_place bytes k)) e ∙ sym two.minor-is,
    )

pub no_first_fault : ContainedHasNoFault
no_first_fault bytes bitcode major minor kind offset held fault = held.faultless kind offset fault.holds

-- under one kind, one place
one_place : (bytes : List ℕ) (kind offset other : ℕ) → FaultIs bytes kind offset → FaultIs bytes kind other → offset ≡ other
one_place bytes kind offset other one two =
    let a = one.nearest other two.holds in
    let b = two.nearest offset one.holds in
    omega arith

pub one_fault : AtMostOneFault
one_fault bytes kind offset other_kind other_offset one two =
    let a = one.first other_kind other_offset two.holds in
    let b = two.first kind offset one.holds in
    let e : kind ≡ other_kind = omega arith in
    let same : FaultIs bytes other_kind offset = subst (λ (k : ℕ). FaultIs bytes k offset) e one in
    (e, one_place bytes other_kind offset other_offset same two)
