-- The fields of the container that is written, and that they make it one.
use Rattle.std.proofs.Common.{◌≡◌, ◌≢◌, ℕ, zero, suc, ◌+◌, ◌/◌, ◌<◌, ◌≤◌, Bool, List, ◌∷◌, length, take, drop, refl, sym, ap, subst, ◌∙◌, lit<, arith}
use Rattle.std.specs.Prelude.{[]}
use Rattle.std.proofs.Math.Seq.{take-length}
use Rattle.std.proofs.lemmas.List.{append-nil}
use Rattle.byteorder.specs.Endian.{little_bytes, little_number}
use Rattle.byteorder.specs.Numbers.{little_number-reads_back}
use Rattle.dx_container.specs.Container.{container_name, program_name, half_at, word_at, name_at, program_body, written_form, part_place, body_size, IsProgram, ProgramFault, short_body, other_shader, many_words, other_name, bitcode_elsewhere, long_bitcode, HasFault, short_header, no_container, other_version, other_size, many_parts, long_part, no_only_program, program_fault, Contained}
use Rattle.dx_container.proofs.Form.{length-program_body}
use Rattle.dx_container.specs.Laws.{WrittenIsContained}

-- what stands in the fields
pub record Fields (bytes bitcode : List ℕ) (minor : ℕ) : Type 0 where
  pub length-is : length bytes ≡ 128 + length bitcode
  pub name-is : name_at bytes 0 ≡ container_name
  pub first-is : half_at bytes 20 ≡ 1
  pub second-is : half_at bytes 22 ≡ 0
  pub total-is : word_at bytes 24 ≡ 128 + length bitcode
  pub count-is : word_at bytes 28 ≡ 4
  pub place-0 : word_at bytes 32 ≡ 48
  pub place-1 : word_at bytes 36 ≡ 64
  pub place-2 : word_at bytes 40 ≡ 80
  pub place-3 : word_at bytes 44 ≡ 96
  pub size-0 : word_at bytes 52 ≡ 8
  pub size-1 : word_at bytes 68 ≡ 8
  pub size-2 : word_at bytes 84 ≡ 8
  pub size-3 : word_at bytes 100 ≡ 24 + length bitcode
  pub name-0 : name_at bytes 48 ≢ program_name
  pub name-1 : name_at bytes 64 ≢ program_name
  pub name-2 : name_at bytes 80 ≢ program_name
  pub name-3 : name_at bytes 96 ≡ program_name
  pub version-is : word_at bytes 104 ≡ 327776 + minor
  pub words-is : word_at bytes 108 ≡ (24 + length bitcode) / 4
  pub again-is : name_at bytes 112 ≡ program_name
  pub place-is : word_at bytes 120 ≡ 16
  pub size-is : word_at bytes 124 ≡ length bitcode
  pub bitcode-is : take (length bitcode) (drop 128 bytes) ≡ bitcode

-- a word that is written is the word that is read
word_back : (x : ℕ) → x < 4294967296 → little_number 4 (little_bytes 4 x) ≡ x
word_back x h = ap (λ (bytes : List ℕ). little_number 4 bytes) (sym (append-nil (little_bytes 4 x))) ∙ little_number-reads_back 4 x [] h

-- lists with other heads differ
heads_differ : (a b : ℕ) (xs ys : List ℕ) → a ≢ b → (a ∷ xs) ≢ (b ∷ ys)
heads_differ a b xs ys differ e = let h : a ≡ b = cc in differ h

form_fields : (bitcode : List ℕ) (minor : ℕ) (waves : Bool) → length bitcode < 2147483648 → minor ≤ 15 → Fields (written_form bitcode minor waves) bitcode minor
unfolding half_at word_at name_at
form_fields bitcode minor waves short low =
    record {
      length-is = omega arith;
      name-is = refl;
      first-is = refl;
      second-is = refl;
      total-is = word_back (128 + length bitcode) (omega arith);
      count-is = refl;
      place-0 = refl;
      place-1 = refl;
      place-2 = refl;
      place-3 = refl;
      size-0 = refl;
      size-1 = refl;
      size-2 = refl;
      size-3 = word_back (length (program_body bitcode minor)) (omega (arith, length-program_body bitcode minor)) ∙ length-program_body bitcode minor;
      name-0 = heads_differ 83 68 _ _ (λ e. omega arith);
      name-1 = heads_differ 73 68 _ _ (λ e. omega arith);
      name-2 = heads_differ 79 68 _ _ (λ e. omega arith);
      name-3 = refl;
      version-is = word_back (327776 + minor) (omega arith);
      words-is = word_back ((24 + length bitcode) / 4) (omega arith);
      again-is = refl;
      place-is = refl;
      size-is = word_back (length bitcode) (omega arith);
      bitcode-is = take-length bitcode;
    }

-- no part passes the end
part_fits : {bytes bitcode : List ℕ} {minor : ℕ} (f : Fields bytes bitcode minor) (k : ℕ) → k < 4
    → part_place bytes k + 8 + body_size bytes (part_place bytes k) ≤ length bytes
part_fits f zero h = rw (f.place-0, f.size-0, f.length-is) (omega arith)
part_fits f (suc zero) h = rw (f.place-1, f.size-1, f.length-is) (omega arith)
part_fits f (suc (suc zero)) h = rw (f.place-2, f.size-2, f.length-is) (omega arith)
part_fits f (suc (suc (suc zero))) h = rw (f.place-3, f.size-3, f.length-is) (omega arith)
part_fits f (suc (suc (suc (suc k)))) h = absurd (omega arith)

-- part 3 has the name `DXIL`
program_3 : {bytes bitcode : List ℕ} {minor : ℕ} (f : Fields bytes bitcode minor) → IsProgram bytes 3
program_3 f = record { counted = rw f.count-is (lit< tt); named = rw (f.place-3, f.name-3) refl }

-- no other part has it
only_3 : {bytes bitcode : List ℕ} {minor : ℕ} (f : Fields bytes bitcode minor) (j : ℕ) → IsProgram bytes j → j ≡ 3
only_3 f zero at_j = absurd (f.name-0 (rw f.place-0 at at_j.named))
only_3 f (suc zero) at_j = absurd (f.name-1 (rw f.place-1 at at_j.named))
only_3 f (suc (suc zero)) at_j = absurd (f.name-2 (rw f.place-2 at at_j.named))
only_3 f (suc (suc (suc zero))) at_j = refl
only_3 f (suc (suc (suc (suc j)))) at_j = let h = at_j.counted in let e = f.count-is in absurd (omega arith)

-- that part has no fault
no_program_fault : {bytes bitcode : List ℕ} {minor : ℕ} (f : Fields bytes bitcode minor) → minor ≤ 15
    → (offset : ℕ) → ¬ ProgramFault bytes 96 offset
no_program_fault f low offset (short_body h) = let e = f.size-3 in omega arith
no_program_fault f low offset (other_shader h) = let e = f.version-is in h (omega arith, omega arith)
no_program_fault f low offset (many_words h) = let a = f.size-3 in let b = f.words-is in omega arith
no_program_fault f low offset (other_name h) = h f.again-is
no_program_fault f low offset (bitcode_elsewhere h) = h f.place-is
no_program_fault f low offset (long_bitcode h) = let a = f.size-3 in let b = f.size-is in omega arith

-- the whole has none
no_fault : {bytes bitcode : List ℕ} {minor : ℕ} (f : Fields bytes bitcode minor) → minor ≤ 15
    → (kind offset : ℕ) → ¬ HasFault bytes kind offset
no_fault f low kind offset (short_header h) = let e = f.length-is in omega arith
no_fault f low kind offset (no_container h) = h f.name-is
no_fault f low kind offset (other_version h) = h (f.first-is, f.second-is)
no_fault f low kind offset (other_size h) = h (f.total-is ∙ sym f.length-is)
no_fault f low kind offset (many_parts h) = let a = f.length-is in let b = f.count-is in omega arith
no_fault f low kind offset (long_part k h passes) =
    let b = f.count-is in
    let e = part_fits f k (omega arith) in
    omega arith
no_fault f low kind offset (no_only_program h) = h 3 (record { program = program_3 f; only = only_3 f })
no_fault {bytes} f low kind offset (program_fault k at_k o h) =
    let e = only_3 f k at_k in
    no_program_fault f low o (subst (λ (part : ℕ). ProgramFault bytes part o) (ap (λ (j : ℕ). part_place bytes j) e ∙ f.place-3) h)

-- the fields make it a container
contained : {bytes bitcode : List ℕ} {minor : ℕ} (f : Fields bytes bitcode minor) → minor ≤ 15
    → Contained bytes bitcode 6 minor
contained f low =
    record {
      faultless = no_fault f low;
      part = 3;
      program = program_3 f;
      bitcode-is = rw (f.place-3, f.size-is, f.bitcode-is) refl;
      major-is = rw (f.place-3, f.version-is) (omega arith);
      minor-is = rw (f.place-3, f.version-is) (omega arith);
    }

pub form_contained : WrittenIsContained
form_contained bitcode minor waves short low = contained (form_fields bitcode minor waves short low) low
