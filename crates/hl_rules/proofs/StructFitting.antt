-- Known structs stand in every program that begins with their definitions.
use Rattle.std.proofs.Common.{◌≡◌, ◌∙◌, refl, sym, ap, subst, ℕ, ◌*◌, drop, List, [], ◌++◌, length, take, Option, None, Some}
use Rattle.std.specs.Prelude.{option_and_then, option_map, slice_get, unwrap_or}
use Rattle.std.proofs.lemmas.List.{length-map}
use Rattle.std.proofs.lemmas.Option.{slice_get_within}
use Rattle.hl_meaning.specs.Types.{Ty, array_type, scalar_type, struct_type, vector_type, void_type}
use Rattle.hl_meaning.specs.Layout.{words_of}
use Rattle.hl_meaning.specs.Programs.{StructDef}
use Rattle.hl_meaning.specs.WellFormed.{IsDeclared}
use Rattle.hl_rules.specs.Scopes.{MemberInfo, StructInfo, type_words}
use Rattle.hl_rules.specs.Statements.{struct_def, struct_defs}
use Rattle.hl_rules.proofs.Fitting.{FitsStructs}
use Rattle.hl_meaning.proofs.LayoutForms.{IsBelow, kinds_of-front}
use Rattle.hl_rules.proofs.StructForms.{AreKnownStructs, IsKnownMember, IsKnownType, declared-known, known-split, known_type-front, known_words, type_words-known, words_of-known}
use Rattle.hl_rules.proofs.StructLayout.{member-known, member_type-known}

-- a type that has words names structs that are there
option-there : (f : ℕ → ℕ) (o : Option ℕ) (words : ℕ) → option_map f o ≡ Some words → (w : ℕ) × (o ≡ Some w)
option-there f None words e = absurd (cc e)
option-there f (Some w) words e = (w, refl)

struct-there : (o : Option StructInfo) (words : ℕ) → option_and_then (λ (d : StructInfo). d.words) o ≡ Some words → (d : StructInfo) × (o ≡ Some d)
struct-there None words e = absurd (cc e)
struct-there (Some d) words e = (d, refl)

below-words : (structs : List StructInfo) (ty : Ty) (words : ℕ) → type_words structs ty ≡ Some words → IsBelow (length structs) ty
below-words structs void_type words e = tt
below-words structs (scalar_type kind) words e = tt
below-words structs (vector_type kind size) words e = tt
below-words structs (array_type element count) words e =
    let there = option-there (λ w. count * w) (type_words structs element) words e in
    below-words structs element there.0 there.1
below-words structs (struct_type number) words e =
    let there = struct-there (slice_get structs number) words e in
    slice_get_within structs number there.0 there.1

member-declared : (structs : List StructInfo) (more : List StructDef) (number place : ℕ) (m : MemberInfo) (ty : Ty) → AreKnownStructs [] structs → IsKnownMember (known_words (take number structs)) m → m.ty ≡ Some ty → IsDeclared (struct_defs structs ++ more) ty
member-declared structs more number place m ty known k e =
    subst (λ t. IsDeclared (struct_defs structs ++ more) t) (ap (λ o. unwrap_or o ty) (sym k.is ∙ e))
    (declared-known structs structs more k.type known
    (subst (λ w. IsKnownType w k.type) (sym (known-split structs number)) (known_type-front (known_words (take number structs)) (known_words (drop number structs)) k.type k.known)))

known-words : (structs : List StructInfo) (more : List StructDef) (ty : Ty) (words : ℕ) → AreKnownStructs [] structs → type_words structs ty ≡ Some words → words_of (struct_defs structs ++ more) ty ≡ words
known-words structs more ty words known e =
    let below = below-words structs ty words e in
    words_of-known structs structs more ty known below ∙ ap (λ o. unwrap_or o words) (sym (type_words-known structs ty known below) ∙ e)

-- whatever structs come behind
pub structs-fit : (structs : List StructInfo) (more : List StructDef) → AreKnownStructs [] structs → FitsStructs structs (struct_defs structs ++ more)
structs-fit structs more known = record {
  members = λ number place d m ty there member is. (
    member_type-known structs more number place d m ty there member is,
    member-declared structs more number place m ty known (member-known structs number place d m known there member) is,
  );
  words = λ ty words e. known-words structs more ty words known e;
  kinds = λ ty words e. kinds_of-front (struct_defs structs) more ty (subst (λ n. IsBelow n ty) (sym (length-map structs (struct_def structs))) (below-words structs ty words e));
}
