-- The layout of types whose structs stand in front of others.
use Rattle.std.proofs.Common.{◌≡◌, ◌∙◌, refl, sym, ap, ℕ, zero, suc, ◌+◌, ◌*◌, ◌<◌, ◌≤◌, List, [], ◌∷◌, ◌++◌, length, map, Some, append_assoc, length-append, arith}
use Rattle.std.specs.Prelude.{slice_get, unwrap_or}
use Rattle.std.proofs.lemmas.List.{append-nil, length-replicate, map-append}
use Rattle.std.proofs.lemmas.List.Sums.{sum_by-cons}
use Rattle.hl_meaning.specs.declared.ty.Kind.{Kind}
use Rattle.hl_meaning.specs.Types.{Ty, array_type, scalar_type, struct_type, vector_type, void_type}
use Rattle.hl_meaning.specs.Programs.{Member, StructDef}
use Rattle.hl_meaning.specs.Layout.{kinds_in, kinds_of, member_kinds, member_words, repeated, struct_kinds_after, struct_words, struct_words_after, words_in, words_of}

-- ---- lists

pub get-front : {A : Type 0} (xs ys : List A) (n : ℕ) → n < length xs → slice_get (xs ++ ys) n ≡ slice_get xs n
get-front [] ys n h = absurd (omega (arith, h))
get-front (x ∷ xs) ys zero h = refl
get-front (x ∷ xs) ys (suc n) h = get-front xs ys n (omega arith)

pub get-next : {A : Type 0} (xs : List A) (y : A) (ys : List A) → slice_get (xs ++ y ∷ ys) (length xs) ≡ Some y
get-next [] y ys = refl
get-next (x ∷ xs) y ys = get-next xs y ys

-- ---- types

-- a type names structs below a number
abbrev pub IsBelow : ℕ → Ty → Type 0
IsBelow n (struct_type number) = number < n
IsBelow n (array_type element length) = IsBelow n element
IsBelow n _ = Unit {0}

pub below-more : (m n : ℕ) (ty : Ty) → m ≤ n → IsBelow m ty → IsBelow n ty
below-more m n void_type h b = tt
below-more m n (scalar_type kind) h b = tt
below-more m n (vector_type kind size) h b = tt
below-more m n (array_type element count) h b = below-more m n element h b
below-more m n (struct_type number) h b = omega (arith, h, b)

-- ---- words

pub words-front : (words more : List ℕ) (ty : Ty) → IsBelow (length words) ty → words_in (words ++ more) ty ≡ words_in words ty
words-front words more void_type b = refl
words-front words more (scalar_type kind) b = refl
words-front words more (vector_type kind size) b = refl
words-front words more (array_type element count) b = ap (λ w. count * w) (words-front words more element b)
words-front words more (struct_type number) b = ap (λ o. unwrap_or o 0) (get-front words more number b)

pub struct_words-append : (before : List ℕ) (ds es : List StructDef) → struct_words_after before (ds ++ es) ≡ struct_words_after (struct_words_after before ds) es
struct_words-append before [] es = refl
struct_words-append before (d ∷ ds) es = struct_words-append (before ++ member_words before d.members ∷ []) ds es

-- the words of further structs stand behind those of the structs before
pub struct_words-front : (before : List ℕ) (ds : List StructDef) → (more : List ℕ) × (struct_words_after before ds ≡ before ++ more)
struct_words-front before [] = ([], sym (append-nil before))
struct_words-front before (d ∷ ds) = next (struct_words-front (before ++ member_words before d.members ∷ []) ds)
  where
    next : (more : List ℕ) × (struct_words_after (before ++ member_words before d.members ∷ []) ds ≡ (before ++ member_words before d.members ∷ []) ++ more) → (more : List ℕ) × (struct_words_after before (d ∷ ds) ≡ before ++ more)
    next r = (member_words before d.members ∷ r.0, r.1 ∙ append_assoc before (member_words before d.members ∷ []) r.0)

pub words_of-front : (words : List ℕ) (ds more : List StructDef) (ty : Ty) → struct_words ds ≡ words → IsBelow (length words) ty → words_of (ds ++ more) ty ≡ words_in words ty
unfolding words_of
words_of-front words ds more ty e b = given (struct_words-front words more)
  where
    given : (rest : List ℕ) × (struct_words_after words more ≡ words ++ rest) → words_in (struct_words (ds ++ more)) ty ≡ words_in words ty
    given r =
        ap (λ w. words_in w ty) (struct_words-append [] ds more ∙ (ap (λ w. struct_words_after w more) e ∙ r.1))
        ∙ words-front words r.0 ty b

-- ---- kinds

pub kinds-front : (kinds more : List (List Kind)) (ty : Ty) → IsBelow (length kinds) ty → kinds_in (kinds ++ more) ty ≡ kinds_in kinds ty
kinds-front kinds more void_type b = refl
kinds-front kinds more (scalar_type kind) b = refl
kinds-front kinds more (vector_type kind size) b = refl
kinds-front kinds more (array_type element count) b = ap (λ k. repeated count k) (kinds-front kinds more element b)
kinds-front kinds more (struct_type number) b = ap (λ o. unwrap_or o []) (get-front kinds more number b)

pub struct_kinds-append : (before : List (List Kind)) (ds es : List StructDef) → struct_kinds_after before (ds ++ es) ≡ struct_kinds_after (struct_kinds_after before ds) es
struct_kinds-append before [] es = refl
struct_kinds-append before (d ∷ ds) es = struct_kinds-append (before ++ member_kinds before d.members ∷ []) ds es

pub struct_kinds-front : (before : List (List Kind)) (ds : List StructDef) → (more : List (List Kind)) × (struct_kinds_after before ds ≡ before ++ more)
struct_kinds-front before [] = ([], sym (append-nil before))
struct_kinds-front before (d ∷ ds) = next (struct_kinds-front (before ++ member_kinds before d.members ∷ []) ds)
  where
    next : (more : List (List Kind)) × (struct_kinds_after (before ++ member_kinds before d.members ∷ []) ds ≡ (before ++ member_kinds before d.members ∷ []) ++ more) → (more : List (List Kind)) × (struct_kinds_after before (d ∷ ds) ≡ before ++ more)
    next r = (member_kinds before d.members ∷ r.0, r.1 ∙ append_assoc before (member_kinds before d.members ∷ []) r.0)

length-struct_kinds : (before : List (List Kind)) (ds : List StructDef) → length (struct_kinds_after before ds) ≡ length before + length ds
length-struct_kinds before [] = omega arith
length-struct_kinds before (d ∷ ds) =
    length-struct_kinds (before ++ member_kinds before d.members ∷ []) ds ∙ omega (arith, length-append before (member_kinds before d.members ∷ []))

-- the kinds of a type that names structs in front don't change with those behind
pub kinds_of-front : (ds more : List StructDef) (ty : Ty) → IsBelow (length ds) ty → kinds_of (ds ++ more) ty ≡ kinds_of ds ty
unfolding kinds_of
kinds_of-front ds more ty b = given (struct_kinds-front (struct_kinds_after [] ds) more)
  where
    here : IsBelow (length (struct_kinds_after [] ds)) ty
    here = below-more (length ds) (length (struct_kinds_after [] ds)) ty (omega (arith, length-struct_kinds [] ds)) b

    given : (rest : List (List Kind)) × (struct_kinds_after (struct_kinds_after [] ds) more ≡ struct_kinds_after [] ds ++ rest) → kinds_in (struct_kinds_after [] (ds ++ more)) ty ≡ kinds_in (struct_kinds_after [] ds) ty
    given r = ap (λ k. kinds_in k ty) (struct_kinds-append [] ds more ∙ r.1) ∙ kinds-front (struct_kinds_after [] ds) r.0 ty here

-- ---- as many kinds as words

length-repeated : (count : ℕ) (kinds : List Kind) → length (repeated count kinds) ≡ count * length kinds
length-repeated zero kinds = omega arith
length-repeated (suc count) kinds = length-append kinds (repeated count kinds) ∙ (ap (λ n. length kinds + n) (length-repeated count kinds) ∙ grind arith)

get-lengths : (kinds : List (List Kind)) (n : ℕ) → length (unwrap_or (slice_get kinds n) []) ≡ unwrap_or (slice_get (map (λ k. length k) kinds) n) 0
get-lengths [] n = refl
get-lengths (k ∷ kinds) zero = refl
get-lengths (k ∷ kinds) (suc n) = get-lengths kinds n

length-kinds_in : (kinds : List (List Kind)) (ty : Ty) → length (kinds_in kinds ty) ≡ words_in (map (λ k. length k) kinds) ty
length-kinds_in kinds void_type = refl
length-kinds_in kinds (scalar_type kind) = refl
length-kinds_in kinds (vector_type kind size) = length-replicate size kind
length-kinds_in kinds (array_type element count) = length-repeated count (kinds_in kinds element) ∙ ap (λ n. count * n) (length-kinds_in kinds element)
length-kinds_in kinds (struct_type number) = get-lengths kinds number

length-member_kinds : (kinds : List (List Kind)) (members : List Member) → length (member_kinds kinds members) ≡ member_words (map (λ k. length k) kinds) members
length-member_kinds kinds [] = refl
length-member_kinds kinds (m ∷ members) =
    length-append (kinds_in kinds m.ty) (member_kinds kinds members)
    ∙ (ap (λ n. n + length (member_kinds kinds members)) (length-kinds_in kinds m.ty)
    ∙ (ap (λ n. words_in (map (λ k. length k) kinds) m.ty + n) (length-member_kinds kinds members)
    ∙ sym (sum_by-cons (λ x. words_in (map (λ k. length k) kinds) x.ty) m members)))

lengths-struct_kinds : (kinds : List (List Kind)) (ds : List StructDef) → map (λ k. length k) (struct_kinds_after kinds ds) ≡ struct_words_after (map (λ k. length k) kinds) ds
lengths-struct_kinds kinds [] = refl
lengths-struct_kinds kinds (d ∷ ds) =
    lengths-struct_kinds (kinds ++ member_kinds kinds d.members ∷ []) ds
    ∙ ap (λ w. struct_words_after w ds)
    (map-append (λ k. length k) kinds (member_kinds kinds d.members ∷ [])
    ∙ ap (λ n. map (λ k. length k) kinds ++ n ∷ []) (length-member_kinds kinds d.members))

-- a type has a kind for each word
pub length-kinds_of : (ds : List StructDef) (ty : Ty) → length (kinds_of ds ty) ≡ words_of ds ty
unfolding kinds_of words_of
length-kinds_of ds ty = length-kinds_in (struct_kinds_after [] ds) ty ∙ ap (λ w. words_in w ty) (lengths-struct_kinds [] ds)
