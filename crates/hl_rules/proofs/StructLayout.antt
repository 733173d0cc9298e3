-- Each known struct keeps what a struct of a program keeps, and its members are there.
use Rattle.std.proofs.Common.{◌≡◌, ◌∙◌, refl, sym, ap, subst, ℕ, zero, suc, ◌+◌, ◌*◌, ◌≤◌, List, [], ◌∷◌, ◌++◌, length, map, take, Some, length-append, arith}
use Rattle.std.specs.Prelude.{slice_get, unwrap_or, option_and_then, option_map}
use Rattle.std.proofs.lemmas.List.{length-map, map-append}
use Rattle.std.proofs.lemmas.List.Sums.{sum_by-cons}
use Rattle.std.proofs.lemmas.Option.{slice_get-map, slice_get_within}
use Rattle.hl_meaning.specs.Types.{Ty, array_type, scalar_type, struct_type, vector_type, void_type}
use Rattle.hl_meaning.specs.Programs.{Member, StructDef}
use Rattle.hl_meaning.specs.Layout.{member_words, words_in}
use Rattle.hl_meaning.specs.Places as places
use Rattle.hl_rules.specs.Scopes.{MemberInfo, StructInfo, type_words}
use Rattle.hl_rules.specs.Statements.{members_from, struct_def, struct_defs}
use Rattle.hl_meaning.proofs.LayoutForms.{IsBelow, below-more, get-front}
use Rattle.hl_rules.proofs.StructForms.{AreKnownMembers, AreKnownStructs, IsKnownMember, IsKnownStruct, known-at, known_words, type_below, words_known}

-- ---- further structs behind

type_words-front : (structs more : List StructInfo) (ty : Ty) → IsBelow (length structs) ty → type_words (structs ++ more) ty ≡ type_words structs ty
type_words-front structs more void_type b = refl
type_words-front structs more (scalar_type kind) b = refl
type_words-front structs more (vector_type kind size) b = refl
type_words-front structs more (array_type element count) b = ap (λ o. option_map (λ words. count * words) o) (type_words-front structs more element b)
type_words-front structs more (struct_type number) b = ap (λ o. option_and_then (λ (d : StructInfo). d.words) o) (get-front structs more number b)

known-below : (words : List ℕ) (n : ℕ) (m : MemberInfo) (known : IsKnownMember words m) → length words ≤ n → IsBelow n (unwrap_or m.ty void_type)
known-below words n m known h =
    subst (λ o. IsBelow n (unwrap_or o void_type)) (sym known.is) (below-more (length words) n known.type h (type_below (length words) known.type known.known.is_type))

members-front : (words : List ℕ) (structs more : List StructInfo) (offset : ℕ) (members : List MemberInfo) → AreKnownMembers words members → length words ≤ length structs → members_from (structs ++ more) offset members ≡ members_from structs offset members
members-front words structs more offset [] known h = refl
members-front words structs more offset (m ∷ members) known h =
    ap (λ w. record { name = m.name; ty = unwrap_or m.ty void_type; offset = offset } ∷ members_from (structs ++ more) (offset + unwrap_or w 0) members)
    (type_words-front structs more (unwrap_or m.ty void_type) (known-below words (length structs) m known.0 h))
    ∙ ap (λ (l : List Member). record { name = m.name; ty = unwrap_or m.ty void_type; offset = offset } ∷ l)
    (members-front words structs more (offset + unwrap_or (type_words structs (unwrap_or m.ty void_type)) 0) members known.1 h)

def-front : (words : List ℕ) (structs more : List StructInfo) (d : StructInfo) → IsKnownStruct words d → length words ≤ length structs → struct_def (structs ++ more) d ≡ struct_def structs d
def-front words structs more d known h =
    ap (λ m. record { name = d.name; members = m; words = unwrap_or d.words 0 }) (members-front words structs more 0 d.members known.members h)

defs-front : (words : List ℕ) (front more structs : List StructInfo) → AreKnownStructs words structs → length words + length structs ≤ length front → map (struct_def (front ++ more)) structs ≡ map (struct_def front) structs
defs-front words front more [] known h = refl
defs-front words front more (d ∷ structs) known h =
    ap (λ x. x ∷ map (struct_def (front ++ more)) structs) (def-front words front more d known.0 (omega arith))
    ∙ ap (λ (l : List StructDef). struct_def front d ∷ l)
    (defs-front (words ++ words_known d ∷ []) front more structs known.1 (omega (arith, length-append words (words_known d ∷ []))))

-- the definitions of known structs don't change with those that come behind
pub struct_defs-front : (structs more : List StructInfo) → AreKnownStructs [] structs → struct_defs (structs ++ more) ≡ struct_defs structs ++ map (struct_def (structs ++ more)) more
struct_defs-front structs more known =
    map-append (struct_def (structs ++ more)) structs more
    ∙ ap (λ l. l ++ map (struct_def (structs ++ more)) more) (defs-front [] structs more structs known (omega arith))

-- ---- members

-- a member of a known struct
pub known_member-at : (words : List ℕ) (members : List MemberInfo) (place : ℕ) (m : MemberInfo) → AreKnownMembers words members → slice_get members place ≡ Some m → IsKnownMember words m
known_member-at words [] place m known e = absurd (cc e)
known_member-at words (x ∷ members) zero m known e = subst (λ y. IsKnownMember words y) (ap (λ o. unwrap_or o x) e) known.0
known_member-at words (x ∷ members) (suc place) m known e = known_member-at words members place m known.1 e

members_from-types : (structs : List StructInfo) (offset : ℕ) (members : List MemberInfo) (place : ℕ) → option_map (λ (m : Member). m.ty) (slice_get (members_from structs offset members) place) ≡ option_map (λ (m : MemberInfo). unwrap_or m.ty void_type) (slice_get members place)
members_from-types structs offset [] place = refl
members_from-types structs offset (m ∷ members) zero = refl
members_from-types structs offset (m ∷ members) (suc place) = members_from-types structs (offset + unwrap_or (type_words structs (unwrap_or m.ty void_type)) 0) members place

-- a member of a known struct is there, whatever structs come behind
pub member_type-known : (structs : List StructInfo) (more : List StructDef) (number place : ℕ) (d : StructInfo) (m : MemberInfo) (ty : Ty) → slice_get structs number ≡ Some d → slice_get d.members place ≡ Some m → m.ty ≡ Some ty → places.member_type (struct_defs structs ++ more) number place ≡ Some ty
member_type-known structs more number place d m ty e k t =
    ap (λ o. option_and_then (λ (x : StructDef). option_map (λ (y : Member). y.ty) (slice_get x.members place)) o)
    (get-front (struct_defs structs) more number (omega (arith, length-map structs (struct_def structs), slice_get_within structs number d e)) ∙ (slice_get-map (struct_def structs) structs number ∙ ap (λ o. option_map (struct_def structs) o) e))
    ∙ (members_from-types structs 0 d.members place ∙ (ap (λ o. option_map (λ (x : MemberInfo). unwrap_or x.ty void_type) o) k ∙ ap (λ o. Some (unwrap_or o void_type)) t))

-- and it has a type that something may have
pub member-known : (structs : List StructInfo) (number place : ℕ) (d : StructInfo) (m : MemberInfo) → AreKnownStructs [] structs → slice_get structs number ≡ Some d → slice_get d.members place ≡ Some m → IsKnownMember (known_words (take number structs)) m
member-known structs number place d m known e k = known_member-at (known_words (take number structs)) d.members place m (known-at [] structs number d known e).members k

-- ---- offsets

-- each member stands behind the words of those before it
pub offsets-from : (words : List ℕ) (structs : List StructInfo) (offset : ℕ) (members : List MemberInfo) (place : ℕ) (m : Member) →
    ((ty : Ty) → IsBelow (length words) ty → unwrap_or (type_words structs ty) 0 ≡ words_in (known_words structs) ty) → AreKnownMembers words members → slice_get (members_from structs offset members) place ≡ Some m →
    m.offset ≡ offset + member_words (known_words structs) (take place (members_from structs offset members))
offsets-from words structs offset [] place m laid known e = absurd (cc e)
offsets-from words structs offset (x ∷ members) zero m laid known e = ap (λ o. (unwrap_or o m).offset) (sym e) ∙ omega arith
offsets-from words structs offset (x ∷ members) (suc place) m laid known e =
    offsets-from words structs (offset + unwrap_or (type_words structs (unwrap_or x.ty void_type)) 0) members place m laid known.1 e
    ∙ omega (arith, laid (unwrap_or x.ty void_type) (known-below words (length words) x known.0 (omega arith)), sum_by-cons (λ (y : Member). words_in (known_words structs) y.ty) (record { name = x.name; ty = unwrap_or x.ty void_type; offset = offset }) (take place (members_from structs (offset + unwrap_or (type_words structs (unwrap_or x.ty void_type)) 0) members)))
