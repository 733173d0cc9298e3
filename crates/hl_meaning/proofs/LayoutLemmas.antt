-- The words of each form of type, and what the layout of a well-formed program says.
use Rattle.std.proofs.Common.{◌≡◌, ◌∙◌, refl, sym, ap, subst, ℕ, zero, suc, ◌+◌, ◌*◌, ◌<◌, ◌≤◌, ◌⊎◌, inl, inr, List, [], ◌∷◌, None, Some, slice_get, length, unwrap_or, option_map, ◌++◌, get_or, add-zero, zero-add, arith}
use Rattle.std.proofs.lemmas.Bool.{cases_lt}
use Rattle.std.proofs.Math.Nat.{mul-le-mul_left}
use Rattle.hl_meaning.specs.declared.ty.Kind.{Kind}
use Rattle.hl_meaning.specs.Types.{Ty, array_type, scalar_type, struct_type, vector_type, void_type}
use Rattle.std.proofs.Math.Logic.{∥∥₁_elim}
use Rattle.std.proofs.Props.{props}
use Rattle.hl_meaning.specs.Programs.{Member, Program, StructDef}
use Rattle.hl_meaning.specs.WellFormed.{IsWellFormed}
use Rattle.hl_meaning.specs.Layout.{member_offset, member_words, struct_words, struct_words_after, words_of}
use Rattle.std.proofs.lemmas.Option.{slice_get-map, slice_get_past, slice_get_cases, none-some}
use Rattle.std.proofs.lemmas.List.{length_push}
use Rattle.hl_meaning.specs.declared.program.StructDef as held_struct
use Rattle.hl_meaning.specs.Views.{plain_struct, plain_structs}
use Rattle.hl_meaning.specs.Held.{HasWords}
use Rattle.hl_meaning.specs.Stopping.{stopped}

pub stopped-below : (n : ℕ) → n ≤ 4294967296 → stopped n ≡ n
stopped-below n h = omega (arith, h)

pub stopped-above : (n : ℕ) → 4294967296 ≤ n → stopped n ≡ 4294967296
stopped-above n h = omega (arith, h)

pub stopped-product : (n w : ℕ) → stopped (n * stopped w) ≡ stopped (n * w)
stopped-product zero w = omega arith
stopped-product (suc n) w = by_size (cases_lt w 4294967296)
  where
    by_size : (w < 4294967296) ⊎ (4294967296 ≤ w) → stopped (suc n * stopped w) ≡ stopped (suc n * w)
    by_size (inl below) = ap (λ k. stopped (suc n * k)) (stopped-below w (omega (arith, below)))
    by_size (inr above) =
        ap (λ k. stopped (suc n * k)) (stopped-above w above) ∙ (stopped-above (suc n * 4294967296) (omega arith) ∙ sym (stopped-above (suc n * w) (omega (arith, above, mul-le-mul_left (suc n) above))))

pub words-void : (structs : List StructDef) → words_of structs void_type ≡ 0
unfolding words_of
words-void structs = refl

pub words-scalar : (structs : List StructDef) (kind : Kind) → words_of structs (scalar_type kind) ≡ 1
unfolding words_of
words-scalar structs kind = refl

pub words-vector : (structs : List StructDef) (kind : Kind) (size : ℕ) → words_of structs (vector_type kind size) ≡ size
unfolding words_of
words-vector structs kind size = refl

pub words-array : (structs : List StructDef) (element : Ty) (n : ℕ) → words_of structs (array_type element n) ≡ n * words_of structs element
unfolding words_of
words-array structs element n = refl

pub words-struct : (structs : List StructDef) (number : ℕ) → words_of structs (struct_type number) ≡ unwrap_or (slice_get (struct_words structs) number) 0
unfolding words_of
words-struct structs number = refl

-- a struct that is there has the words that are held
pub words-struct_there : (structs : List held_struct.StructDef) (number : ℕ) (d : held_struct.StructDef) → HasWords (plain_structs structs) → slice_get structs number ≡ Some d →
    words_of (plain_structs structs) (struct_type number) ≡ d.words
words-struct_there structs number d has there =
    sym (has number (plain_struct d) (slice_get-map plain_struct structs number ∙ ap (λ o. option_map plain_struct o) there))

-- behind the words of the structs before there is one number for each struct
pub length-struct_words_after : (before : List ℕ) (structs : List StructDef) → length (struct_words_after before structs) ≡ length before + length structs
length-struct_words_after before [] = sym (add-zero (length before))
length-struct_words_after before (d ∷ structs) =
    length-struct_words_after (before ++ member_words before d.members ∷ []) structs ∙ (ap (λ n. n + length structs) (length_push before (member_words before d.members)) ∙ (omega arith))

pub length-struct_words : (structs : List StructDef) → length (struct_words structs) ≡ length structs
length-struct_words structs = length-struct_words_after [] structs ∙ zero-add (length structs)

-- a struct that isn't there has no words
pub words-struct_absent : (structs : List StructDef) (number : ℕ) → slice_get structs number ≡ None → words_of structs (struct_type number) ≡ 0
words-struct_absent structs number absent = words-struct structs number ∙ by_place (slice_get_cases structs number).1
  where
    by_place : ((x : StructDef) × (number < length structs) × (slice_get structs number ≡ Some x) × (get_or structs number x ≡ x)) ⊎ ((length structs ≤ number) × (slice_get structs number ≡ None)) → unwrap_or (slice_get (struct_words structs) number) 0 ≡ 0
    by_place (inl there) = absurd (none-some there.0 (sym absent ∙ there.2))
    by_place (inr past) =
        ap (λ o. unwrap_or o 0) (slice_get_past (struct_words structs) number (subst (λ n. n ≤ number) (sym (length-struct_words structs)) past.0))

pub words-struct_absent_held : (structs : List held_struct.StructDef) (number : ℕ) → slice_get structs number ≡ None → words_of (plain_structs structs) (struct_type number) ≡ 0
words-struct_absent_held structs number absent =
    words-struct_absent (plain_structs structs) number (slice_get-map plain_struct structs number ∙ ap (λ o. option_map plain_struct o) absent)

pub HasWords-prop : (structs : List StructDef) → IsProp (HasWords structs)
HasWords-prop structs = hlevel props

-- the structs of a well-formed program have their words
pub has_words : (p : Program) → ∥ IsWellFormed p ∥₁ → HasWords p.structs
has_words p well_formed = ∥∥₁_elim well_formed (HasWords-prop p.structs) (λ w number d there. (w.structs number d there).words)

-- a member of a well-formed program stands where the layout says
pub has_offset : (p : Program) → ∥ IsWellFormed p ∥₁ → (number place : ℕ) (d : StructDef) (m : Member) → slice_get p.structs number ≡ Some d → slice_get d.members place ≡ Some m →
    m.offset ≡ member_offset p.structs d.members place
has_offset p well_formed number place d m struct_there member_there =
    let is_prop : IsProp (m.offset ≡ member_offset p.structs d.members place) = hlevel props in
    ∥∥₁_elim well_formed is_prop (λ w. (w.structs number d struct_there).offsets place m member_there)
