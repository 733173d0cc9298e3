-- The types that declarations give where no rule is broken.
use Rattle.std.proofs.Common.{◌≡◌, ◌∙◌, ◌⊎◌, inl, inr, refl, sym, ap, subst, ℕ, zero, suc, ◌+◌, ◌<◌, ◌≤◌, Bool, true, false, ◌&&◌, ◌||◌, if◌then◌else◌, List, [], ◌∷◌, ◌++◌, length, Option, Some, None, arith}
use Rattle.std.specs.Prelude.{IsTrue, ◌==◌, is_none, nat_le, nat_lt, option_and_then, option_map, slice_get, unwrap_or}
use Rattle.std.proofs.lemmas.List.{length-map}
use Rattle.hl_lexer.specs.declared.terminal.Terminal.{Terminal}
use Rattle.hl_lexer.specs.declared.terminal.Terminal.TheVariants as terminals
use Rattle.hl_parser.specs.Grammar.{is_basic}
use Rattle.hl_parser.specs.Trees.{Tree, Trees, a_declarator, a_result, a_type, absent, at_of, more_trees, no_trees, present}
use Rattle.hl_meaning.specs.declared.ty.Kind.{Kind}
use Rattle.hl_meaning.specs.Types.{Ty, array_type, scalar_type, struct_type, vector_type, void_type}
use Rattle.hl_meaning.specs.Layout.{words_in}
use Rattle.hl_meaning.specs.WellFormed.{most_words}
use Rattle.hl_rules.specs.Constants.{array_length, array_of, constant_number, declarator_type, length_if, most_length, most_lengths, named_type, result_type, struct_of_sort, tree_count, word_type}
use Rattle.hl_rules.specs.DeclarationRules.{is_more, is_other_sort, is_struct_sort}
use Rattle.hl_rules.specs.Parts.{a_declared, a_length, a_type_name, site}
use Rattle.hl_rules.specs.Scopes.{Scope, Sort, StructInfo, a_buffer_name, a_function_name, a_struct_name, a_variable_name, sort_at, spelled, words_if}
use Rattle.hl_rules.specs.Sites.{declarator_sites, lengths_sites, result_sites, type_sites, value_sites}
use Rattle.hl_rules.proofs.Free.{IsFree, free-first, free-left, free-rest, free-right, not_broken}
use Rattle.hl_rules.proofs.Options.{or-one, or-other}
use Rattle.hl_rules.proofs.Soundness.{IsSound}
use Rattle.hl_rules.proofs.StructForms.{AreKnownStructs, IsKnownType, IsTypeBelow, known_words, type_below, type_words-known, words_known}
use Rattle.hl_rules.proofs.TreeShapes.{IsDeclarator, IsResultOf, IsTypeName}

-- a type that is known, and what it is
pub record IsKnownAs (s : Scope) (ty : Option Ty) : Type 0 where
  pub type : Ty
  pub is : ty ≡ Some type
  pub known : IsKnownType (known_words s.structs) type

-- ---- the names of types

scalar-known : (words : List ℕ) (kind : Kind) → IsKnownType words (scalar_type kind)
scalar-known words kind = record { is_type = tt; fits = omega arith }

vector-known : (words : List ℕ) (kind : Kind) (size : ℕ) → 2 ≤ size → size ≤ 4 → IsKnownType words (vector_type kind size)
vector-known words kind size h k = record { is_type = (h, k); fits = omega (arith, h, k) }

word_type-known : (words : List ℕ) (terminal : Terminal) → IsTrue (is_basic terminal) → IsKnownType words (word_type terminal)
word_type-known words terminals.Bool h = scalar-known words _
word_type-known words terminals.Int h = scalar-known words _
word_type-known words terminals.Uint h = scalar-known words _
word_type-known words terminals.Bool2 h = vector-known words _ 2 (omega arith) (omega arith)
word_type-known words terminals.Bool3 h = vector-known words _ 3 (omega arith) (omega arith)
word_type-known words terminals.Bool4 h = vector-known words _ 4 (omega arith) (omega arith)
word_type-known words terminals.Int2 h = vector-known words _ 2 (omega arith) (omega arith)
word_type-known words terminals.Int3 h = vector-known words _ 3 (omega arith) (omega arith)
word_type-known words terminals.Int4 h = vector-known words _ 4 (omega arith) (omega arith)
word_type-known words terminals.Uint2 h = vector-known words _ 2 (omega arith) (omega arith)
word_type-known words terminals.Uint3 h = vector-known words _ 3 (omega arith) (omega arith)
word_type-known words terminals.Uint4 h = vector-known words _ 4 (omega arith) (omega arith)
word_type-known words other h = absurd (cc h)

-- a struct has at most so many words as a type may have
struct-fits : (words : List ℕ) (structs : List StructInfo) (number : ℕ) → AreKnownStructs words structs → unwrap_or (slice_get (known_words structs) number) 0 ≤ most_words
struct-fits words [] number known = omega arith
struct-fits words (d ∷ structs) zero known = subst (λ o. unwrap_or o 0 ≤ most_words) (sym known.0.has_words) known.0.fits
struct-fits words (d ∷ structs) (suc number) known = struct-fits (words ++ words_known d ∷ []) structs number known.1

struct-known : (s : Scope) (number : ℕ) → IsSound s → number < length s.structs → IsKnownType (known_words s.structs) (struct_type number)
struct-known s number sound h = record {
  is_type = omega (arith, h, length-map s.structs words_known);
  fits = struct-fits [] s.structs number sound.structs;
}

sort-known : (s : Scope) (sort : Option Sort) → IsSound s → ((number : ℕ) → sort ≡ Some (a_struct_name number) → number < length s.structs) → is_none sort ≡ false → is_other_sort is_struct_sort sort ≡ false → IsKnownAs s (struct_of_sort sort)
sort-known s None sound names h k = absurd (cc h)
sort-known s (Some (a_struct_name number)) sound names h k = record { type = struct_type number; is = refl; known = struct-known s number sound (names number refl) }
sort-known s (Some (a_buffer_name number)) sound names h k = absurd (cc k)
sort-known s (Some (a_variable_name v)) sound names h k = absurd (cc k)
sort-known s (Some a_function_name) sound names h k = absurd (cc k)

pub named-known : (s : Scope) → IsSound s → (type : Tree) → IsTypeName s.tokens type → IsFree (type_sites s type) → IsKnownAs s (named_type s type)
named-known s sound (a_type at (present basic)) shape free =
    record { type = word_type _; is = refl; known = word_type-known (known_words s.structs) _ shape }
named-known s sound (a_type at absent) shape free =
    let obeyed = free-first (site s (a_type_name at)) [] free in
    sort-known s (sort_at s at) sound (λ number e. sound.struct_names (spelled s at) number e)
    (not_broken (is_none (sort_at s at)) at obeyed.obeys_3)
    (not_broken (is_other_sort is_struct_sort (sort_at s at)) at obeyed.obeys_4)
named-known s sound other shape free = absurd shape

-- ---- lengths

length-known : (o : Option ℕ) → is_none (length_if o) ≡ false → (n : ℕ) × (length_if o ≡ Some n) × (1 ≤ n) × (n ≤ 65536)
length-known None e = absurd (cc e)
length-known (Some number) e = on (nat_le 1 number) (nat_le number most_length) refl refl e
  where
    on : (above below : Bool) → nat_le 1 number ≡ above → nat_le number most_length ≡ below → is_none (if above && below then Some number else None) ≡ false → (n : ℕ) × ((if above && below then Some number else None) ≡ Some n) × (1 ≤ n) × (n ≤ 65536)
    on true true a b h = (number, refl, grind arith, grind arith)
    on true false a b h = absurd (cc h)
    on false below a b h = absurd (cc h)

-- what rule 6 says at a length
length-free : (s : Scope) (before : ℕ) (first : Tree) (rest : Trees) → IsFree (lengths_sites s before (more_trees first rest)) → is_none (array_length s first) || before == most_lengths ≡ false
length-free s before first rest free =
    not_broken (is_none (array_length s first) || before == most_lengths) (at_of first)
    (free-first (site s (a_length before first)) (lengths_sites s (suc before) rest) (free-right (value_sites s first) (site s (a_length before first) ∷ lengths_sites s (suc before) rest) free)).obeys_6

lengths-rest : (s : Scope) (before : ℕ) (first : Tree) (rest : Trees) → IsFree (lengths_sites s before (more_trees first rest)) → IsFree (lengths_sites s (suc before) rest)
lengths-rest s before first rest free =
    free-rest (site s (a_length before first)) (lengths_sites s (suc before) rest) (free-right (value_sites s first) (site s (a_length before first) ∷ lengths_sites s (suc before) rest) free)

other-number : (m n : ℕ) → m == n ≡ false → m ≤ n → suc m ≤ n
other-number m n e h = grind arith

count-fits : (s : Scope) (before : ℕ) (lengths : Trees) → IsFree (lengths_sites s before lengths) → before ≤ 16 → before + tree_count lengths ≤ 16
count-fits s before no_trees free h = omega (arith, h)
count-fits s before (more_trees first rest) free h =
    omega (
      arith,
      count-fits s (suc before) rest (lengths-rest s before first rest free)
          (other-number before 16 (or-other (is_none (array_length s first)) (before == most_lengths) (length-free s before first rest free)) h),
    )

array-known : (s : Scope) (n before : ℕ) (lengths : Trees) (ty : Ty) → IsFree (lengths_sites s before lengths) → IsTypeBelow n ty → (own : Ty) × (array_of s lengths (Some ty) ≡ Some own) × IsTypeBelow n own
array-known s n before no_trees ty free b = (ty, refl, b)
array-known s n before (more_trees first rest) ty free b = given (length-known (constant_number s first) (or-one (is_none (array_length s first)) (before == most_lengths) (length-free s before first rest free))) (array-known s n (suc before) rest ty (lengths-rest s before first rest free) b)
  where
    given : (size : ℕ) × (array_length s first ≡ Some size) × (1 ≤ size) × (size ≤ 65536) → (element : Ty) × (array_of s rest (Some ty) ≡ Some element) × IsTypeBelow n element → (own : Ty) × (array_of s (more_trees first rest) (Some ty) ≡ Some own) × IsTypeBelow n own
    given l r = (
      array_type r.0 l.0,
      ap (λ o. option_and_then (λ length. option_map (λ t. array_type t length) (array_of s rest (Some ty))) o) l.1 ∙ ap (λ o. option_map (λ t. array_type t l.0) o) r.1,
      (r.2, l.2, l.3),
    )

-- ---- declarators

not_more : (words : ℕ) → nat_lt most_words words ≡ false → words ≤ most_words
not_more words e = grind arith

few-lengths : (count : ℕ) → count ≤ 16 → nat_le count most_lengths ≡ true
few-lengths count h = grind arith

pub declarator-known : (s : Scope) → IsSound s → (ty : Option Ty) → IsKnownAs s ty → (declarator : Tree) → IsDeclarator s.tokens declarator → IsFree (declarator_sites s ty declarator) → IsKnownAs s (declarator_type s ty declarator)
declarator-known s sound ty known (a_declarator at lengths) shape free = given (array-known s (length (known_words s.structs)) 0 lengths known.type inside known.known.is_type)
  where
    inside : IsFree (lengths_sites s 0 lengths)
    inside = free-left (lengths_sites s 0 lengths) (site s (a_declared at (declarator_type s ty (a_declarator at lengths))) ∷ []) free

    few : nat_le (tree_count lengths) most_lengths ≡ true
    few = few-lengths (tree_count lengths) (omega (arith, count-fits s 0 lengths inside (omega arith)))

    is_few : is_more most_words (words_if s.structs (declarator_type s ty (a_declarator at lengths))) ≡ false
    is_few =
        not_broken (is_more most_words (words_if s.structs (declarator_type s ty (a_declarator at lengths)))) at
        (free-first (site s (a_declared at (declarator_type s ty (a_declarator at lengths)))) [] (free-right (lengths_sites s 0 lengths) (site s (a_declared at (declarator_type s ty (a_declarator at lengths))) ∷ []) free)).obeys_42

    given : (own : Ty) × (array_of s lengths (Some known.type) ≡ Some own) × IsTypeBelow (length (known_words s.structs)) own → IsKnownAs s (declarator_type s ty (a_declarator at lengths))
    given r =
        let is : declarator_type s ty (a_declarator at lengths) ≡ Some r.0 = ap (λ c. if c then array_of s lengths ty else None) few ∙ (ap (λ o. array_of s lengths o) known.is ∙ r.1) in
        let words : words_if s.structs (declarator_type s ty (a_declarator at lengths)) ≡ Some (words_in (known_words s.structs) r.0) =
        ap (λ o. words_if s.structs o) is
        ∙ type_words-known s.structs r.0 sound.structs (type_below (length s.structs) r.0 (subst (λ n. IsTypeBelow n r.0) (length-map s.structs words_known) r.2)) in
        record {
          type = r.0;
          is = is;
          known = record { is_type = r.2; fits = not_more (words_in (known_words s.structs) r.0) (ap (λ o. is_more most_words o) (sym words) ∙ is_few) };
        }
declarator-known s sound ty known other shape free = absurd shape

-- ---- results

-- what a function gives is known: no value, or a type that something may have
pub record IsKnownResult (s : Scope) (ty : Option Ty) : Type 0 where
  pub type : Ty
  pub is : ty ≡ Some type
  pub known : (type ≡ void_type) ⊎ IsKnownType (known_words s.structs) type

pub result-known : (s : Scope) → IsSound s → (result : Tree) → IsResultOf s.tokens result → IsFree (result_sites s result) → IsKnownResult s (result_type s result)
result-known s sound (a_result at absent) shape free = record { type = void_type; is = refl; known = inl refl }
result-known s sound (a_result at (present type)) shape free =
    let known = named-known s sound type shape free in
    record { type = known.type; is = known.is; known = inr known.known }
result-known s sound other shape free = absurd shape
