use Rattle.std.proofs.Common.{◌≡◌, ◌∙◌, sym, ap, ℕ, ◌/◌, ◌%◌, arith}
use Rattle.dx_container.specs.Container.{major_version, shader_kind}
use Rattle.dx_container.proofs.ProgramFaults.{after_12, after_16, after_24, after_28, first_elsewhere, first_long_bitcode, first_many_words, first_other_name, first_other_shader, first_short_body}
use Rattle.dx_container.proofs.content.program_fault.Goals as goal
use Rattle.dx_container.proofs.content.program_fault.Goals.{then-version-ne-COMPUTE-via-then-version-ne-COMPUTE, then-version-ne-COMPUTE-via-else-version-ne-COMPUTE+then-version}

pub returns-then-size-lt-PROGRAM_HEADER_SIZE : goal.returns-then-size-lt-PROGRAM_HEADER_SIZE
returns-then-size-lt-PROGRAM_HEADER_SIZE c = first_short_body c.args.bytes.now c.args.part (omega (arith, c.word-size.ensures.value))

pub returns-then-version-ne-COMPUTE : goal.returns-then-version-ne-COMPUTE
returns-then-version-ne-COMPUTE c =
    let e = c.word-version.ensures.value in
    let other : ¬ ((shader_kind c.args.bytes.now c.args.part ≡ 5) × (major_version c.args.bytes.now c.args.part ≡ 6)) =
    λ h. elim c.then-version-ne-COMPUTE.branch [
      | then-version-ne-COMPUTE-via-then-version-ne-COMPUTE w ↦ w.if-version-ne-COMPUTE.true (ap (λ (v : ℕ). v / 65536) e ∙ h.0)
      | then-version-ne-COMPUTE-via-else-version-ne-COMPUTE+then-version w ↦ w.if-version.true (ap (λ (v : ℕ). v / 16 % 4096) e ∙ h.1)
    ] in
    first_other_shader c.args.bytes.now c.args.part (omega (arith, c.word-size.ensures.value)) other

pub returns-then-size-word : goal.returns-then-size-word
returns-then-size-word c =
    let a = after_12 c.args.bytes.now c.args.part (omega (arith, c.word-size.ensures.value)) (rw c.word-version.ensures.value at c.if-version-ne-COMPUTE.false) (rw c.word-version.ensures.value at c.if-version.false) in
    first_many_words c.args.bytes.now c.args.part a (omega (arith, c.word-size.ensures.value, c.word.ensures.value))

pub returns-then-not-is_name : goal.returns-then-not-is_name
returns-then-not-is_name c =
    let a = after_12 c.args.bytes.now c.args.part (omega (arith, c.word-size.ensures.value)) (rw c.word-version.ensures.value at c.if-version-ne-COMPUTE.false) (rw c.word-version.ensures.value at c.if-version.false) in
    let b = after_16 c.args.bytes.now c.args.part a (omega (arith, c.word-size.ensures.value, c.word.ensures.value)) in
    first_other_name c.args.bytes.now c.args.part b c.if-not-is_name.ensures.no

pub returns-then-word-ne-BITCODE_PLACE : goal.returns-then-word-ne-BITCODE_PLACE
returns-then-word-ne-BITCODE_PLACE c =
    let a = after_12 c.args.bytes.now c.args.part (omega (arith, c.word-size.ensures.value)) (rw c.word-version.ensures.value at c.if-version-ne-COMPUTE.false) (rw c.word-version.ensures.value at c.if-version.false) in
    let b = after_16 c.args.bytes.now c.args.part a (omega (arith, c.word-size.ensures.value, c.word.ensures.value)) in
    let d = after_24 c.args.bytes.now c.args.part b c.if-not-is_name.ensures.yes in
    first_elsewhere c.args.bytes.now c.args.part d (λ e. c.if-word-ne-BITCODE_PLACE.true (c.word-2.ensures.value ∙ e))

pub returns-then-size-word-2 : goal.returns-then-size-word-2
returns-then-size-word-2 c =
    let a = after_12 c.args.bytes.now c.args.part (omega (arith, c.word-size.ensures.value)) (rw c.word-version.ensures.value at c.if-version-ne-COMPUTE.false) (rw c.word-version.ensures.value at c.if-version.false) in
    let b = after_16 c.args.bytes.now c.args.part a (omega (arith, c.word-size.ensures.value, c.word.ensures.value)) in
    let d = after_24 c.args.bytes.now c.args.part b c.if-not-is_name.ensures.yes in
    let f = after_28 c.args.bytes.now c.args.part d (sym c.word-2.ensures.value ∙ c.if-word-ne-BITCODE_PLACE.false) in
    first_long_bitcode c.args.bytes.now c.args.part f (omega (arith, c.word-size.ensures.value, c.word-3.ensures.value))
