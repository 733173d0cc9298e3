-- Structs that are known have the layout of those that the program has.
use Rattle.std.proofs.Common.{drop, take-append-drop, ◌≡◌, ◌∙◌, refl, sym, ap, subst, ℕ, zero, suc, ◌+◌, ◌*◌, ◌<◌, ◌≤◌, List, [], ◌∷◌, ◌++◌, length, map, take, Some, append_assoc, length-append, arith}
use Rattle.std.specs.Prelude.{slice_get, unwrap_or, option_and_then, option_map}
use Rattle.std.proofs.lemmas.List.{append-nil, length-map, map-append}
use Rattle.std.proofs.lemmas.List.Sums.{sum_by-cons}
use Rattle.hl_meaning.specs.Types.{Ty, array_type, scalar_type, struct_type, vector_type, void_type}
use Rattle.hl_meaning.specs.Programs.{StructDef}
use Rattle.hl_meaning.specs.Layout.{member_words, struct_words, struct_words_after, words_in, words_of}
use Rattle.hl_meaning.specs.WellFormed.{IsDeclared, IsType, most_words}
use Rattle.hl_rules.specs.Scopes.{MemberInfo, StructInfo, type_words}
use Rattle.hl_rules.specs.Statements.{members_from, struct_def}
use Rattle.hl_meaning.proofs.LayoutForms.{IsBelow, below-more, words-front, words_of-front}

-- ---- what is known

-- vectors have 2, 3 or 4 components, arrays a length, and structs stand below a number
abbrev pub IsTypeBelow : ℕ → Ty → Type 0
IsTypeBelow n void_type = ⊥
IsTypeBelow n (scalar_type kind) = Unit {0}
IsTypeBelow n (vector_type kind size) = (2 ≤ size) × (size ≤ 4)
IsTypeBelow n (array_type element count) = IsTypeBelow n element × (1 ≤ count) × (count ≤ 65536)
IsTypeBelow n (struct_type number) = number < n

-- such a type with at most so many words as a type may have, where those of the structs are given
pub record IsKnownType (words : List ℕ) (ty : Ty) : Type 0 where
  pub is_type : IsTypeBelow (length words) ty
  pub fits : words_in words ty ≤ most_words

pub record IsKnownMember (words : List ℕ) (m : MemberInfo) : Type 0 where
  pub type : Ty
  pub is : m.ty ≡ Some type
  pub known : IsKnownType words type

abbrev pub AreKnownMembers : List ℕ → List MemberInfo → Type 0
AreKnownMembers words [] = Unit {0}
AreKnownMembers words (m ∷ members) = IsKnownMember words m × AreKnownMembers words members

-- the words of members together
abbrev pub info_words : List ℕ → List MemberInfo → ℕ
info_words words [] = 0
info_words words (m ∷ members) = words_in words (unwrap_or m.ty void_type) + info_words words members

-- a struct behind structs of these words
pub record IsKnownStruct (words : List ℕ) (d : StructInfo) : Type 0 where
  pub some_member : 0 < length d.members
  pub members : AreKnownMembers words d.members
  pub has_words : d.words ≡ Some (info_words words d.members)
  pub fits : info_words words d.members ≤ most_words

abbrev pub words_known : StructInfo → ℕ
words_known d = unwrap_or d.words 0

abbrev pub known_words : List StructInfo → List ℕ
known_words structs = map words_known structs

-- structs behind structs of these words
abbrev pub AreKnownStructs : List ℕ → List StructInfo → Type 0
AreKnownStructs words [] = Unit {0}
AreKnownStructs words (d ∷ structs) = IsKnownStruct words d × AreKnownStructs (words ++ words_known d ∷ []) structs

-- ---- lists of structs

pub known-push : (words : List ℕ) (structs : List StructInfo) (d : StructInfo) → AreKnownStructs words structs → IsKnownStruct (words ++ known_words structs) d → AreKnownStructs words (structs ++ d ∷ [])
known-push words [] d known k = (subst (λ w. IsKnownStruct w d) (append-nil words) k, tt)
known-push words (x ∷ structs) d known k = (
  known.0,
  known-push (words ++ words_known x ∷ []) structs d known.1
      (subst (λ w. IsKnownStruct w d) (sym (append_assoc words (words_known x ∷ []) (known_words structs))) k),
)

pub known-take : (words : List ℕ) (structs : List StructInfo) (n : ℕ) → AreKnownStructs words structs → AreKnownStructs words (take n structs)
known-take words structs zero known = tt
known-take words [] (suc n) known = tt
known-take words (d ∷ structs) (suc n) known = (known.0, known-take (words ++ words_known d ∷ []) structs n known.1)

-- the struct of a number
pub known-at : (words : List ℕ) (structs : List StructInfo) (n : ℕ) (d : StructInfo) → AreKnownStructs words structs → slice_get structs n ≡ Some d → IsKnownStruct (words ++ known_words (take n structs)) d
known-at words [] n d known e = absurd (cc e)
known-at words (x ∷ structs) zero d known e =
    subst (λ w. IsKnownStruct w d) (sym (append-nil words)) (subst (λ y. IsKnownStruct words y) (ap (λ o. unwrap_or o x) e) known.0)
known-at words (x ∷ structs) (suc n) d known e =
    subst (λ w. IsKnownStruct w d) (append_assoc words (words_known x ∷ []) (known_words (take n structs)))
    (known-at (words ++ words_known x ∷ []) structs n d known.1 e)

-- each struct has words
words-at : (words : List ℕ) (structs : List StructInfo) (n : ℕ) → AreKnownStructs words structs → n < length structs → option_and_then (λ (d : StructInfo). d.words) (slice_get structs n) ≡ Some (unwrap_or (slice_get (known_words structs) n) 0)
words-at words [] n known h = absurd (omega (arith, h))
words-at words (d ∷ structs) zero known h = known.0.has_words ∙ ap (λ o. Some (unwrap_or o 0)) (sym known.0.has_words)
words-at words (d ∷ structs) (suc n) known h = words-at (words ++ words_known d ∷ []) structs n known.1 (omega arith)

-- the words of structs are those of the first ones, and of those behind
pub known-split : (structs : List StructInfo) (n : ℕ) → known_words structs ≡ known_words (take n structs) ++ known_words (drop n structs)
known-split structs n = ap known_words (sym (take-append-drop n structs)) ∙ map-append words_known (take n structs) (drop n structs)

-- ---- words

pub type_below : (n : ℕ) (ty : Ty) → IsTypeBelow n ty → IsBelow n ty
type_below n void_type b = tt
type_below n (scalar_type kind) b = tt
type_below n (vector_type kind size) b = tt
type_below n (array_type element count) b = type_below n element b.0
type_below n (struct_type number) b = b

pub type_below-more : (m n : ℕ) (ty : Ty) → m ≤ n → IsTypeBelow m ty → IsTypeBelow n ty
type_below-more m n void_type h b = absurd b
type_below-more m n (scalar_type kind) h b = tt
type_below-more m n (vector_type kind size) h b = b
type_below-more m n (array_type element count) h b = (type_below-more m n element h b.0, b.1, b.2)
type_below-more m n (struct_type number) h b = omega (arith, h, b)

-- the words of a type that names known structs
pub type_words-known : (structs : List StructInfo) (ty : Ty) → AreKnownStructs [] structs → IsBelow (length structs) ty → type_words structs ty ≡ Some (words_in (known_words structs) ty)
type_words-known structs void_type known b = refl
type_words-known structs (scalar_type kind) known b = refl
type_words-known structs (vector_type kind size) known b = refl
type_words-known structs (array_type element count) known b = ap (λ o. option_map (λ words. count * words) o) (type_words-known structs element known b)
type_words-known structs (struct_type number) known b = words-at [] structs number known b

pub known_type-front : (words more : List ℕ) (ty : Ty) → IsKnownType words ty → IsKnownType (words ++ more) ty
known_type-front words more ty known = record {
  is_type = type_below-more (length words) (length (words ++ more)) ty (omega (arith, length-append words more)) known.is_type;
  fits = subst (λ n. n ≤ most_words) (sym (words-front words more ty (type_below (length words) ty known.is_type))) known.fits;
}

-- ---- the structs of the program

members_from-words : (words : List ℕ) (structs : List StructInfo) (offset : ℕ) (members : List MemberInfo) → member_words words (members_from structs offset members) ≡ info_words words members
members_from-words words structs offset [] = refl
members_from-words words structs offset (m ∷ members) =
    sum_by-cons (λ x. words_in words x.ty) (record { name = m.name; ty = unwrap_or m.ty void_type; offset = offset }) (members_from structs (offset + unwrap_or (type_words structs (unwrap_or m.ty void_type)) 0) members)
    ∙ ap (λ n. words_in words (unwrap_or m.ty void_type) + n) (members_from-words words structs (offset + unwrap_or (type_words structs (unwrap_or m.ty void_type)) 0) members)

def-words : (all : List StructInfo) (words : List ℕ) (d : StructInfo) → IsKnownStruct words d → member_words words (struct_def all d).members ≡ words_known d
def-words all words d known = members_from-words words all 0 d.members ∙ ap (λ o. unwrap_or o 0) (sym known.has_words)

defs-words : (all : List StructInfo) (words : List ℕ) (structs : List StructInfo) → AreKnownStructs words structs → struct_words_after words (map (struct_def all) structs) ≡ words ++ known_words structs
defs-words all words [] known = sym (append-nil words)
defs-words all words (d ∷ structs) known =
    ap (λ n. struct_words_after (words ++ n ∷ []) (map (struct_def all) structs)) (def-words all words d known.0)
    ∙ (defs-words all (words ++ words_known d ∷ []) structs known.1 ∙ append_assoc words (words_known d ∷ []) (known_words structs))

-- known structs have the words that the layout gives them
pub struct_words-known : (all structs : List StructInfo) → AreKnownStructs [] structs → struct_words (map (struct_def all) structs) ≡ known_words structs
struct_words-known all structs known = defs-words all [] structs known

-- the words of a type, whatever structs come behind
pub words_of-known : (all structs : List StructInfo) (more : List StructDef) (ty : Ty) → AreKnownStructs [] structs → IsBelow (length structs) ty → words_of (map (struct_def all) structs ++ more) ty ≡ words_in (known_words structs) ty
words_of-known all structs more ty known b =
    words_of-front (known_words structs) (map (struct_def all) structs) more ty (struct_words-known all structs known)
    (below-more (length structs) (length (known_words structs)) ty (omega (arith, length-map structs words_known)) b)

pub is_type-there : (ds : List StructDef) (ty : Ty) → IsTypeBelow (length ds) ty → IsType ds ty
is_type-there ds void_type b = b
is_type-there ds (scalar_type kind) b = b
is_type-there ds (vector_type kind size) b = b
is_type-there ds (array_type element count) b = (is_type-there ds element b.0, b.1, b.2)
is_type-there ds (struct_type number) b = b

-- a known type is one that something may have, whatever structs come behind
pub declared-known : (all structs : List StructInfo) (more : List StructDef) (ty : Ty) → AreKnownStructs [] structs → IsKnownType (known_words structs) ty → IsDeclared (map (struct_def all) structs ++ more) ty
declared-known all structs more ty known k = (
  is_type-there (map (struct_def all) structs ++ more) ty
      (type_below-more (length (known_words structs)) (length (map (struct_def all) structs ++ more)) ty
      (omega (arith, length-append (map (struct_def all) structs) more, length-map structs (struct_def all), length-map structs words_known)) k.is_type),
  subst (λ n. n ≤ most_words)
      (sym (words_of-known all structs more ty known (type_below (length structs) ty (subst (λ n. IsTypeBelow n ty) (length-map structs words_known) k.is_type))))
      k.fits,
)
