-- What letters pick, and what picks among them.
use Rattle.std.proofs.Common.{◌≡◌, ◌∙◌, refl, sym, ap, subst, arith, ℕ, zero, suc, ◌≤◌, Bool, true, false, ◌&&◌, if◌then◌else◌, nat_le, nat_lt, List, [], ◌∷◌, map, length, None, Some}
use Rattle.std.specs.Prelude.{◌==◌, slice_index_or}
use Rattle.std.specs.List.{list_all}
use Rattle.std.proofs.lemmas.List.{length-map}
use Rattle.std.proofs.lemmas.Bool.{and_from, le-leb, leb-true}
use Rattle.std.proofs.lemmas.Option.{same_Some}
use Rattle.hl_meaning.specs.declared.ty.Kind.{Kind}
use Rattle.hl_meaning.specs.Types.{Ty, array_type, components_type, scalar_type, struct_type, vector_type, void_type}
use Rattle.hl_meaning.specs.Trees.{an_expr, index_part, literal_form, swizzle_part}
use Rattle.hl_meaning.specs.Places.{part_type, swizzle_type}
use Rattle.hl_meaning.specs.Programs.{StructDef}
use Rattle.hl_rules.specs.Values.{is_longer}
use Rattle.hl_rules.proofs.TypeLemmas.{and-left, and-right}

-- ---- swizzles

-- one to four letters, each a component
pub record IsSwizzle (size : ℕ) (letters : List ℕ) : Type 0 where
  pub some : 1 ≤ length letters
  pub few : length letters ≤ 4
  pub within : list_all (λ letter. nat_lt letter size) letters ≡ true

pub swizzle-there : (size : ℕ) (letters : List ℕ) (ty : Ty) → IsSwizzle size letters → swizzle_type size letters ty ≡ Some ty
swizzle-there size letters ty h =
    rw (le-leb 1 (length letters) h.some) (rw (le-leb (length letters) 4 h.few) (rw h.within refl))

pub swizzle-from : (size : ℕ) (letters : List ℕ) (ty to : Ty) → swizzle_type size letters ty ≡ Some to → IsSwizzle size letters × (ty ≡ to)
swizzle-from size letters ty to e = on (nat_le 1 (length letters)) (nat_le (length letters) 4) (list_all (λ letter. nat_lt letter size) letters) refl refl refl e
  where
    on : (one four within : Bool) → nat_le 1 (length letters) ≡ one → nat_le (length letters) 4 ≡ four → list_all (λ letter. nat_lt letter size) letters ≡ within → (if one && (four && within) then Some ty else None) ≡ Some to → IsSwizzle size letters × (ty ≡ to)
    on true true true a b c k = (record { some = leb-true 1 (length letters) a; few = leb-true (length letters) 4 b; within = c }, same_Some ty to k)
    on true true false a b c k = absurd (cc k)
    on true false within a b c k = absurd (cc k)
    on false four within a b c k = absurd (cc k)

-- a letter among those of a swizzle is one of what it picks from
pub letter-within : (size : ℕ) (before : List ℕ) (letter : ℕ) → list_all (λ x. nat_lt x size) before ≡ true → nat_lt letter (length before) ≡ true → nat_lt (slice_index_or before letter 0) size ≡ true
letter-within size [] letter e h = absurd (not-less letter h)
  where
    not-less : (n : ℕ) → nat_lt n 0 ≡ true → ⊥
    not-less n k = grind arith
letter-within size (x ∷ before) zero e h = and-left (nat_lt x size) (list_all (λ y. nat_lt y size) before) e
letter-within size (x ∷ before) (suc letter) e h =
    letter-within size before letter (and-right (nat_lt x size) (list_all (λ y. nat_lt y size) before) e) (grind arith)

picked-within : (size : ℕ) (before letters : List ℕ) → list_all (λ x. nat_lt x size) before ≡ true → list_all (λ letter. nat_lt letter (length before)) letters ≡ true → list_all (λ letter. nat_lt letter size) (map (λ letter. slice_index_or before letter 0) letters) ≡ true
picked-within size before [] e h = refl
picked-within size before (letter ∷ letters) e h =
    and_from (nat_lt (slice_index_or before letter 0) size) (list_all (λ x. nat_lt x size) (map (λ x. slice_index_or before x 0) letters))
    (letter-within size before letter e (and-left (nat_lt letter (length before)) (list_all (λ x. nat_lt x (length before)) letters) h))
    (picked-within size before letters e (and-right (nat_lt letter (length before)) (list_all (λ x. nat_lt x (length before)) letters) h))

pub picked-swizzle : (size : ℕ) (before letters : List ℕ) → IsSwizzle size before → IsSwizzle (length before) letters → IsSwizzle size (map (λ letter. slice_index_or before letter 0) letters)
picked-swizzle size before letters h k = record {
  some = subst (λ n. 1 ≤ n) (sym (length-map letters (λ letter. slice_index_or before letter 0))) k.some;
  few = subst (λ n. n ≤ 4) (sym (length-map letters (λ letter. slice_index_or before letter 0))) k.few;
  within = picked-within size before letters h.within k.within;
}

-- ---- paths

-- what several letters pick from: a scalar or a vector of a kind and a size
pub record IsPicked (structs : List StructDef) (from to : Ty) (letters : List ℕ) : Type 0 where
  pub kind : Kind
  pub size : ℕ
  pub swizzle : IsSwizzle size letters
  pub to_is : components_type kind (length letters) ≡ to
  pub again : (others : List ℕ) → part_type structs from (swizzle_part others) ≡ swizzle_type size others (components_type kind (length others))

pub picked-from : (structs : List StructDef) (from to : Ty) (letters : List ℕ) → part_type structs from (swizzle_part letters) ≡ Some to → IsPicked structs from to letters
picked-from structs (scalar_type kind) to letters e =
    let s : IsSwizzle 1 letters × (components_type kind (length letters) ≡ to) = swizzle-from 1 letters (components_type kind (length letters)) to e in
    record { kind = kind; size = 1; swizzle = s.0; to_is = s.1; again = λ others. refl }
picked-from structs (vector_type kind size) to letters e =
    let s : IsSwizzle size letters × (components_type kind (length letters) ≡ to) = swizzle-from size letters (components_type kind (length letters)) to e in
    record { kind = kind; size = size; swizzle = s.0; to_is = s.1; again = λ others. refl }
picked-from structs void_type to letters e = absurd (cc e)
picked-from structs (array_type element size) to letters e = absurd (cc e)
picked-from structs (struct_type number) to letters e = absurd (cc e)

pub longer-components : (kind : Kind) (letters : List ℕ) → is_longer letters ≡ true → components_type kind (length letters) ≡ vector_type kind (length letters)
longer-components kind letters e = ap (λ b. if b then scalar_type kind else vector_type kind (length letters)) not-one
  where
    not-one : length letters == 1 ≡ false
    not-one = grind arith

-- a swizzle behind a longer one
pub merged-swizzle : (structs : List StructDef) (from mid to : Ty) (before letters : List ℕ) → is_longer before ≡ true → part_type structs from (swizzle_part before) ≡ Some mid → part_type structs mid (swizzle_part letters) ≡ Some to → part_type structs from (swizzle_part (map (λ letter. slice_index_or before letter 0) letters)) ≡ Some to
merged-swizzle structs from mid to before letters l e h =
    let p : IsPicked structs from mid before = picked-from structs from mid before e in
    let is : vector_type p.kind (length before) ≡ mid = sym (longer-components p.kind before l) ∙ p.to_is in
    let own : IsSwizzle (length before) letters × (components_type p.kind (length letters) ≡ to) = swizzle-from (length before) letters (components_type p.kind (length letters)) to (subst (λ t. part_type structs t (swizzle_part letters) ≡ Some to) (sym is) h) in
    p.again (map (λ letter. slice_index_or before letter 0) letters)
    ∙ (swizzle-there p.size (map (λ letter. slice_index_or before letter 0) letters) _ (picked-swizzle p.size before letters p.swizzle own.0)
    ∙ ap Some (ap (λ n. components_type p.kind n) (length-map letters (λ letter. slice_index_or before letter 0)) ∙ own.1))

-- a constant index behind a longer one
index-into : (structs : List StructDef) (kind : Kind) (size number : ℕ) (ty to : Ty) (at : ℕ) → part_type structs (vector_type kind size) (index_part (an_expr ty at (literal_form number))) ≡ Some to → (nat_lt number size ≡ true) × (scalar_type kind ≡ to)
index-into structs kind size number ty to at e = on (nat_lt number size) refl e
  where
    on : (within : Bool) → nat_lt number size ≡ within → (if within then Some (scalar_type kind) else None) ≡ Some to → (nat_lt number size ≡ true) × (scalar_type kind ≡ to)
    on true a k = (a, same_Some (scalar_type kind) to k)
    on false a k = absurd (cc k)

pub merged-index : (structs : List StructDef) (from mid to ty : Ty) (at number : ℕ) (before : List ℕ) → is_longer before ≡ true → part_type structs from (swizzle_part before) ≡ Some mid → part_type structs mid (index_part (an_expr ty at (literal_form number))) ≡ Some to → part_type structs from (swizzle_part (slice_index_or before number 0 ∷ [])) ≡ Some to
merged-index structs from mid to ty at number before l e h =
    let p : IsPicked structs from mid before = picked-from structs from mid before e in
    let is : vector_type p.kind (length before) ≡ mid = sym (longer-components p.kind before l) ∙ p.to_is in
    let own : (nat_lt number (length before) ≡ true) × (scalar_type p.kind ≡ to) = index-into structs p.kind (length before) number ty to at (subst (λ t. part_type structs t (index_part (an_expr ty at (literal_form number))) ≡ Some to) (sym is) h) in
    p.again (slice_index_or before number 0 ∷ [])
    ∙ (swizzle-there p.size (slice_index_or before number 0 ∷ []) (scalar_type p.kind) (record {
      some = omega arith;
      few = omega arith;
      within = and_from (nat_lt (slice_index_or before number 0) p.size) true (letter-within p.size before number p.swizzle.within own.0) refl;
    })
    ∙ ap Some own.1)
