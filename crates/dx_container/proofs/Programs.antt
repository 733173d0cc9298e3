-- The part with the name `DXIL`, among the first parts.
use Rattle.std.proofs.Common.{true, false, is_some, ◌≡◌, ℕ, ◌<◌, List, Option, Some, None, subst, arith}
use Rattle.dx_container.specs.Container.{name_at, part_count, part_place, program_name, IsOnlyProgram}

-- part j has the name
abbrev pub Named : List ℕ → ℕ → Type 0
Named bytes j = name_at bytes (part_place bytes j) ≡ program_name

-- one of the parts below k has the name, and stands at a place
pub record OneBelow (bytes : List ℕ) (k part : ℕ) : Type 0 where
  pub index : ℕ
  pub below : index < k
  pub named : Named bytes index
  pub only : (j : ℕ) → j < k → Named bytes j → j ≡ index
  pub place-is : part ≡ part_place bytes index

-- what was found among the parts below k
abbrev pub FoundBelow : List ℕ → ℕ → Option ℕ → Type 0
FoundBelow bytes k None = (j : ℕ) → j < k → ¬ Named bytes j
FoundBelow bytes k (Some part) = OneBelow bytes k part

-- a second part with the name: none is the only one
pub found_second : (bytes : List ℕ) (k part : ℕ) → k < part_count bytes → OneBelow bytes k part → Named bytes k → (i : ℕ) → ¬ IsOnlyProgram bytes i
found_second bytes k part within f h i only =
    let a = f.below in
    let d = only.only k (record { counted = within; named = h }) in
    let e = only.only f.index (record { counted = omega arith; named = f.named }) in
    absurd (omega arith)

-- no part with the name: none is the only one
pub found_nothing : (bytes : List ℕ) → ((j : ℕ) → j < part_count bytes → ¬ Named bytes j) → (i : ℕ) → ¬ IsOnlyProgram bytes i
found_nothing bytes none i only = none i only.program.counted only.program.named

contradiction : true ≡ false → ⊥
contradiction e = cc

-- a part with the name, and one found before it
pub found_again : (bytes : List ℕ) (k : ℕ) (found : Option ℕ) → k < part_count bytes → FoundBelow bytes k found → true ≡ is_some found
    → Named bytes k → (i : ℕ) → ¬ IsOnlyProgram bytes i
found_again bytes k None within f some h = absurd (contradiction some)
found_again bytes k (Some part) within f some h = found_second bytes k part within f h

-- nothing found among all parts
pub found_missing : (bytes : List ℕ) (k : ℕ) (found : Option ℕ) → k ≡ part_count bytes → found ≡ None → FoundBelow bytes k found
    → (i : ℕ) → ¬ IsOnlyProgram bytes i
found_missing bytes k found end none f =
    let g = subst (λ (o : Option ℕ). FoundBelow bytes k o) none f in
    found_nothing bytes (subst (λ (n : ℕ). (j : ℕ) → j < n → ¬ Named bytes j) end g)
