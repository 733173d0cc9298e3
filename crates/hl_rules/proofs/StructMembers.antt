-- Each known struct keeps what a struct of a program keeps, and a member of a name has its type.
use Rattle.std.proofs.Common.{drop, suc, ◌≡◌, ◌∙◌, ◌⊎◌, inl, inr, refl, sym, ap, subst, ℕ, ◌+◌, ◌<◌, ◌≤◌, get_or, List, [], ◌∷◌, ◌++◌, length, map, take, Some, None, length-take, arith}
use Rattle.std.specs.Prelude.{slice_get, unwrap_or, option_and_then, option_map, find, bytes_eq}
use Rattle.std.specs.List.{All}
use Rattle.std.proofs.lemmas.List.{append-nil, length-map, take-map}
use Rattle.std.proofs.lemmas.List.Elements.{All-cons, All-nil}
use Rattle.std.proofs.lemmas.Option.{slice_get-map, slice_get_cases, slice_get_within}
use Rattle.hl_meaning.specs.Types.{Ty, struct_type, void_type}
use Rattle.hl_meaning.specs.Programs.{Member, StructDef}
use Rattle.hl_meaning.specs.Layout.{member_offset, member_words, words_in, words_of}
use Rattle.hl_meaning.specs.Places as places
use Rattle.hl_meaning.specs.WellFormed.{IsDeclared, IsStruct, most_words}
use Rattle.hl_rules.specs.Scopes.{MemberInfo, Scope, StructInfo, type_words}
use Rattle.hl_rules.specs.Statements.{members_from, struct_def, struct_defs}
use Rattle.hl_rules.specs.Values.{member_number, member_type, members_of}
use Rattle.hl_meaning.proofs.LayoutForms.{IsBelow, below-more}
use Rattle.hl_rules.proofs.Searching.{IsFirst, position-first}
use Rattle.hl_rules.proofs.StructForms.{AreKnownMembers, AreKnownStructs, IsKnownMember, IsKnownStruct, IsKnownType, declared-known, known-at, known-split, known-take, known_type-front, known_words, struct_words-known, type_words-known, words_known, words_of-known}
use Rattle.hl_rules.proofs.StructLayout.{known_member-at, member_type-known, offsets-from}

-- ---- names

-- A member that is named has a type that something may have, and it is there, whatever structs come behind.
pub record IsNamedMember (s : Scope) (number place : ℕ) (name : List ℕ) : Type 0 where
  pub type : Ty
  pub is : member_type s number name ≡ Some type
  pub known : IsKnownType (known_words s.structs) type
  pub there : (more : List StructDef) → places.member_type (struct_defs s.structs ++ more) number place ≡ Some type

members-there : (s : Scope) (number : ℕ) (d : StructInfo) → slice_get s.structs number ≡ Some d → members_of s number ≡ d.members
members-there s number d e = rw e refl

members-absent : (s : Scope) (number : ℕ) → slice_get s.structs number ≡ None → members_of s number ≡ []
members-absent s number e = rw e refl

pub named-member : (s : Scope) (number place : ℕ) (name : List ℕ) → AreKnownStructs [] s.structs → member_number (members_of s number) name ≡ Some place → IsNamedMember s number place name
named-member s number place name known e = given (slice_get_cases s.structs number).1
  where
    found : (d : StructInfo) (m : MemberInfo) → slice_get s.structs number ≡ Some d → slice_get d.members place ≡ Some m → find (λ x. bytes_eq x.name name) d.members ≡ Some m → IsKnownMember (known_words (take number s.structs)) m → IsNamedMember s number place name
    found d m struct_there there first k = record {
      type = k.type;
      is = ap (λ l. option_and_then (λ (x : MemberInfo). x.ty) (find (λ x. bytes_eq x.name name) l)) (members-there s number d struct_there) ∙ (ap (λ o. option_and_then (λ (x : MemberInfo). x.ty) o) first ∙ k.is);
      known = subst (λ w. IsKnownType w k.type) (sym (known-split s.structs number)) (known_type-front (known_words (take number s.structs)) (known_words (drop number s.structs)) k.type k.known);
      there = λ more. member_type-known s.structs more number place d m k.type struct_there there k.is;
    }

    struct-there : (d : StructInfo) → slice_get s.structs number ≡ Some d → (m : MemberInfo) × IsFirst (λ x. bytes_eq x.name name) d.members place m → IsNamedMember s number place name
    struct-there d h r = found d r.0 h r.1.there r.1.found (known_member-at (known_words (take number s.structs)) d.members place r.0 (known-at [] s.structs number d known h).members r.1.there)

    given : ((d : StructInfo) × (number < length s.structs) × (slice_get s.structs number ≡ Some d) × (get_or s.structs number d ≡ d)) ⊎ ((length s.structs ≤ number) × (slice_get s.structs number ≡ None)) → IsNamedMember s number place name
    given (inl r) = struct-there r.0 r.2 (position-first (λ x. bytes_eq x.name name) r.0.members place (ap (λ l. member_number l name) (sym (members-there s number r.0 r.2)) ∙ e))
    given (inr r) = absurd (cc (ap (λ l. member_number l name) (sym (members-absent s number r.1)) ∙ e))

-- ---- structs of the program

members-declared : (all structs : List StructInfo) (offset : ℕ) (members : List MemberInfo) → AreKnownStructs [] structs → AreKnownMembers (known_words structs) members → All (λ (m : Member). IsDeclared (map (struct_def all) structs) m.ty) (members_from all offset members)
members-declared all structs offset [] known k = All-nil (λ (m : Member). IsDeclared (map (struct_def all) structs) m.ty)
members-declared all structs offset (m ∷ members) known k =
    All-cons (λ (x : Member). IsDeclared (map (struct_def all) structs) x.ty) (record { name = m.name; ty = unwrap_or m.ty void_type; offset = offset }) (members_from all (offset + unwrap_or (type_words all (unwrap_or m.ty void_type)) 0) members)
    (subst (λ o. IsDeclared (map (struct_def all) structs) (unwrap_or o void_type)) (sym k.0.is)
    (subst (λ l. IsDeclared l k.0.type) (append-nil (map (struct_def all) structs)) (declared-known all structs [] k.0.type known k.0.known)))
    (members-declared all structs (offset + unwrap_or (type_words all (unwrap_or m.ty void_type)) 0) members known k.1)

length-members : (structs : List StructInfo) (offset : ℕ) (members : List MemberInfo) → length (members_from structs offset members) ≡ length members
length-members structs offset [] = refl
length-members structs offset (m ∷ members) = ap suc (length-members structs (offset + unwrap_or (type_words structs (unwrap_or m.ty void_type)) 0) members)

laid : (structs : List StructInfo) (number : ℕ) → AreKnownStructs [] structs → (ty : Ty) → IsBelow (length (known_words (take number structs))) ty → unwrap_or (type_words structs ty) 0 ≡ words_in (known_words structs) ty
laid structs number known ty b =
    ap (λ o. unwrap_or o 0)
    (type_words-known structs ty known
    (below-more (length (known_words (take number structs))) (length structs) ty (omega (arith, length-map (take number structs) words_known, length-take number structs)) b))

known-words_of : (structs : List StructInfo) (number : ℕ) (d : StructInfo) → AreKnownStructs [] structs → slice_get structs number ≡ Some d → words_of (struct_defs structs) (struct_type number) ≡ unwrap_or d.words 0
known-words_of structs number d known e =
    ap (λ l. words_of l (struct_type number)) (sym (append-nil (struct_defs structs)))
    ∙ (words_of-known structs structs [] (struct_type number) known (slice_get_within structs number d e)
    ∙ (ap (λ o. unwrap_or o 0) (slice_get-map words_known structs number) ∙ ap (λ o. unwrap_or (option_map words_known o) 0) e))

struct-kept : (structs : List StructInfo) (number : ℕ) (d : StructInfo) → AreKnownStructs [] structs → slice_get structs number ≡ Some d → IsKnownStruct (known_words (take number structs)) d → IsStruct (struct_defs structs) number (struct_def structs d)
unfolding member_offset
struct-kept structs number d known e k = record {
  some_member = omega (arith, k.some_member, length-members structs 0 d.members);
  types =
      subst (λ l. All (λ (m : Member). IsDeclared l m.ty) (members_from structs 0 d.members)) (sym (take-map (struct_def structs) number structs))
      (members-declared structs (take number structs) 0 d.members (known-take [] structs number known) k.members);
  offsets = λ place m there.
      offsets-from (known_words (take number structs)) structs 0 d.members place m (laid structs number known) k.members there
      ∙ (ap (λ w. 0 + member_words w (take place (members_from structs 0 d.members))) (sym (struct_words-known structs structs known)) ∙ omega arith);
  words = sym (known-words_of structs number d known e);
  fits = subst (λ n. n ≤ most_words) (ap (λ o. unwrap_or o 0) (sym k.has_words)) k.fits;
}

-- each of known structs keeps what a struct of a program keeps
pub structs-kept : (structs : List StructInfo) (number : ℕ) (def : StructDef) → AreKnownStructs [] structs → slice_get (struct_defs structs) number ≡ Some def → IsStruct (struct_defs structs) number def
structs-kept structs number def known e = given (slice_get_cases structs number).1
  where
    given : ((d : StructInfo) × (number < length structs) × (slice_get structs number ≡ Some d) × (get_or structs number d ≡ d)) ⊎ ((length structs ≤ number) × (slice_get structs number ≡ None)) → IsStruct (struct_defs structs) number def
    given (inl r) =
        subst (λ x. IsStruct (struct_defs structs) number x)
        (ap (λ o. unwrap_or o def) (sym (slice_get-map (struct_def structs) structs number ∙ ap (λ o. option_map (struct_def structs) o) r.2) ∙ e))
        (struct-kept structs number r.0 known r.2 (known-at [] structs number r.0 known r.2))
    given (inr r) = absurd (cc (ap (λ o. option_map (struct_def structs) o) (sym r.1) ∙ (sym (slice_get-map (struct_def structs) structs number) ∙ e)))
