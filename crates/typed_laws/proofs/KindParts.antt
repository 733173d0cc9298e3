-- Where the kinds of a part of a type stand among those of the type.
use Rattle.std.proofs.Common.{◌≡◌, ◌∙◌, refl, sym, ap, ℕ, zero, suc, ◌+◌, ◌*◌, ◌<◌, ◌≤◌, List, [], ◌∷◌, ◌++◌, length, Some, slice_get, unwrap_or, arith}
use Rattle.std.specs.Prelude.{replicate, take}
use Rattle.std.specs.List.{All}
use Rattle.std.proofs.lemmas.List.{append_assoc, append-nil, length-append, length-take}
use Rattle.std.proofs.lemmas.Option.{none-some, same_Some}
use Rattle.std.proofs.lemmas.List.Sums.{sum_by-cons}
use Rattle.hl_meaning.specs.declared.ty.Kind.{Kind}
use Rattle.hl_meaning.specs.Types.{Ty, array_type, scalar_type, struct_type, vector_type, void_type}
use Rattle.hl_meaning.specs.Programs.{Member, StructDef}
use Rattle.hl_meaning.specs.Layout.{kinds_in, kinds_of, member_kinds, member_offset, repeated, struct_kinds_after, struct_words, words_in, words_of}
use Rattle.hl_meaning.specs.WellFormed.{IsDeclared, IsStruct, IsType}
use Rattle.typed_laws.proofs.Induction.{Every, every_map, every_from_all}
use Rattle.hl_meaning.proofs.LayoutForms.{IsBelow, below-more, get-next, kinds-front, length-kinds_of, struct_kinds-front}

pub kinds-void : (structs : List StructDef) → kinds_of structs void_type ≡ []
unfolding kinds_of
kinds-void structs = refl

pub kinds-scalar : (structs : List StructDef) (kind : Kind) → kinds_of structs (scalar_type kind) ≡ kind ∷ []
unfolding kinds_of
kinds-scalar structs kind = refl

pub kinds-vector : (structs : List StructDef) (kind : Kind) (size : ℕ) → kinds_of structs (vector_type kind size) ≡ replicate size kind
unfolding kinds_of
kinds-vector structs kind size = refl

pub kinds-array : (structs : List StructDef) (element : Ty) (count : ℕ) → kinds_of structs (array_type element count) ≡ repeated count (kinds_of structs element)
unfolding kinds_of
kinds-array structs element count = refl

-- the structs are those of a program that is well formed
abbrev pub AreStructs : List StructDef → Type 0
AreStructs structs = (number : ℕ) (d : StructDef) → slice_get structs number ≡ Some d → IsStruct structs number d

-- a part of a type, so many words behind its start
pub record PartOf (structs : List StructDef) (whole : Ty) (offset : ℕ) (part : Ty) : Type 0 where
  pub front : List Kind
  pub back : List Kind
  pub is : kinds_of structs whole ≡ front ++ (kinds_of structs part ++ back)
  pub offset_is : length front ≡ offset

pub part_whole : (structs : List StructDef) (whole : Ty) → PartOf structs whole 0 whole
part_whole structs whole = record { front = []; back = []; is = sym (append-nil (kinds_of structs whole)); offset_is = refl }

pub part_within : (structs : List StructDef) (whole part : Ty) (offset : ℕ) → PartOf structs whole offset part → offset + words_of structs part ≤ words_of structs whole
part_within structs whole part offset p =
    omega (arith, sym (length-kinds_of structs whole) ∙ ap length p.is, length-append p.front (kinds_of structs part ++ p.back), length-append (kinds_of structs part) p.back, length-kinds_of structs part, p.offset_is)

-- a part of a part
pub part_further : (structs : List StructDef) (whole middle part : Ty) (offset more : ℕ) → PartOf structs whole offset middle → PartOf structs middle more part → PartOf structs whole (offset + more) part
part_further structs whole middle part offset more p q = record {
  front = p.front ++ q.front;
  back = q.back ++ p.back;
  is =
      p.is ∙ (ap (λ k. p.front ++ (k ++ p.back)) q.is ∙
      (ap (λ k. p.front ++ k) (append_assoc q.front (kinds_of structs part ++ q.back) p.back ∙ ap (λ k. q.front ++ k) (append_assoc (kinds_of structs part) q.back p.back)) ∙
      sym (append_assoc p.front q.front (kinds_of structs part ++ (q.back ++ p.back)))));
  offset_is = length-append p.front q.front ∙ (ap (λ n. n + length q.front) p.offset_is ∙ ap (λ n. offset + n) q.offset_is);
}

-- elements and components

repeated_at : (count index : ℕ) (kinds : List Kind) → index < count → (front : List Kind) × (back : List Kind) × (repeated count kinds ≡ front ++ (kinds ++ back)) × (length front ≡ index * length kinds)
repeated_at zero index kinds low = absurd (omega (arith, low))
repeated_at (suc count) zero kinds low = ([], repeated count kinds, refl, omega arith)
repeated_at (suc count) (suc index) kinds low =
    let rest = repeated_at count index kinds (omega (arith, low)) in (
      kinds ++ rest.0,
      rest.1,
      ap (λ k. kinds ++ k) rest.2 ∙ sym (append_assoc kinds rest.0 (kinds ++ rest.1)),
      length-append kinds rest.0 ∙ (ap (λ n. length kinds + n) rest.3 ∙ grind arith),
    )

pub part_element : (structs : List StructDef) (element : Ty) (count index : ℕ) → index < count → PartOf structs (array_type element count) (index * words_of structs element) element
part_element structs element count index low =
    let at = repeated_at count index (kinds_of structs element) low in
    record { front = at.0; back = at.1; is = kinds-array structs element count ∙ at.2; offset_is = at.3 ∙ ap (λ n. index * n) (length-kinds_of structs element) }

pub replicate_at : (count index : ℕ) (kind : Kind) → index < count → (front : List Kind) × (back : List Kind) × (replicate count kind ≡ front ++ (kind ∷ back)) × (length front ≡ index)
replicate_at zero index kind low = absurd (omega (arith, low))
replicate_at (suc count) zero kind low = ([], replicate count kind, refl, refl)
replicate_at (suc count) (suc index) kind low =
    let rest = replicate_at count index kind (omega (arith, low)) in (kind ∷ rest.0, rest.1, ap (λ k. kind ∷ k) rest.2, ap suc rest.3)

pub part_component : (structs : List StructDef) (kind : Kind) (size index : ℕ) → index < size → PartOf structs (vector_type kind size) index (scalar_type kind)
part_component structs kind size index low =
    let at = replicate_at size index kind low in
    record { front = at.0; back = at.1; is = kinds-vector structs kind size ∙ (at.2 ∙ ap (λ k. at.0 ++ (k ++ at.1)) (sym (kinds-scalar structs kind))); offset_is = at.3 }

-- members

type_below : (structs : List StructDef) (ty : Ty) → IsType structs ty → IsBelow (length structs) ty
type_below structs void_type h = tt
type_below structs (scalar_type kind) h = tt
type_below structs (vector_type kind size) h = tt
type_below structs (array_type element count) h = type_below structs element h.0
type_below structs (struct_type number) h = h

-- the kinds of a struct stand behind those of the structs before it
pub record StructKinds (before : List (List Kind)) (structs : List StructDef) (number : ℕ) (d : StructDef) : Type 0 where
  pub known : List (List Kind)
  pub more : List (List Kind)
  pub all : struct_kinds_after before structs ≡ known ++ more
  pub many : length known ≡ length before + number
  pub there : slice_get (struct_kinds_after before structs) (length before + number) ≡ Some (member_kinds known d.members)

struct_kinds_at : (before : List (List Kind)) (structs : List StructDef) (number : ℕ) (d : StructDef) → slice_get structs number ≡ Some d → StructKinds before structs number d
struct_kinds_at before [] number d there = absurd (none-some d there)
struct_kinds_at before (e ∷ structs) zero d there =
    let behind = struct_kinds-front (before ++ member_kinds before e.members ∷ []) structs in
    let whole : struct_kinds_after before (e ∷ structs) ≡ before ++ (member_kinds before e.members ∷ behind.0) = behind.1 ∙ append_assoc before (member_kinds before e.members ∷ []) behind.0 in
    let nothing : length before + 0 ≡ length before = omega arith in
    record {
      known = before;
      more = member_kinds before e.members ∷ behind.0;
      all = whole;
      many = sym nothing;
      there = ap (λ n. slice_get (struct_kinds_after before (e ∷ structs)) n) nothing ∙ (ap (λ l. slice_get l (length before)) whole ∙
          (get-next before (member_kinds before e.members) behind.0 ∙ ap (λ x. Some (member_kinds before x.members)) (same_Some e d there)));
    }
struct_kinds_at before (e ∷ structs) (suc number) d there =
    let r = struct_kinds_at (before ++ member_kinds before e.members ∷ []) structs number d there in
    let longer : length (before ++ member_kinds before e.members ∷ []) + number ≡ length before + suc number = omega (arith, length-append before (member_kinds before e.members ∷ [])) in
    record {
      known = r.known;
      more = r.more;
      all = r.all;
      many = r.many ∙ longer;
      there = ap (λ n. slice_get (struct_kinds_after (before ++ member_kinds before e.members ∷ []) structs) n) (sym longer) ∙ r.there;
    }

members_known : (known more : List (List Kind)) (members : List Member) → Every (λ m. IsBelow (length known) m.ty) members → member_kinds (known ++ more) members ≡ member_kinds known members
members_known known more [] below = refl
members_known known more (m ∷ members) below =
    ap (λ k. k ++ member_kinds (known ++ more) members) (kinds-front known more m.ty below.0) ∙ ap (λ k. kinds_in known m.ty ++ k) (members_known known more members below.1)

members_below : (structs : List StructDef) (number count : ℕ) (members : List Member) → number ≤ count → All (λ m. IsDeclared (take number structs) m.ty) members → Every (λ m. IsBelow count m.ty) members
members_below structs number count members low all =
    every_map (λ m. IsDeclared (take number structs) m.ty) (λ m. IsBelow count m.ty)
    (λ m declared. below-more (length (take number structs)) count m.ty (omega (arith, low, length-take number structs)) (type_below (take number structs) m.ty declared.0))
    members (every_from_all (λ m. IsDeclared (take number structs) m.ty) members all)

pub kinds-struct : (structs : List StructDef) → AreStructs structs → (number : ℕ) (d : StructDef) → slice_get structs number ≡ Some d →
    kinds_of structs (struct_type number) ≡ member_kinds (struct_kinds_after [] structs) d.members
unfolding kinds_of
kinds-struct structs are number d there =
    let r = struct_kinds_at [] structs number d there in
    let nothing : 0 + number ≡ number = omega arith in
    ap (λ n. unwrap_or (slice_get (struct_kinds_after [] structs) n) []) (sym nothing) ∙
    (ap (λ o. unwrap_or o []) r.there ∙
    (sym (members_known r.known r.more d.members (members_below structs number (length r.known) d.members (omega (arith, r.many)) (are number d there).types)) ∙
    ap (λ l. member_kinds l d.members) (sym r.all)))

-- the kinds of a member among those of its struct
pub record MemberKinds (structs : List StructDef) (members : List Member) (place : ℕ) (m : Member) : Type 0 where
  pub front : List Kind
  pub back : List Kind
  pub is : member_kinds (struct_kinds_after [] structs) members ≡ front ++ (kinds_of structs m.ty ++ back)
  pub offset_is : length front ≡ member_offset structs members place

member_at : (structs : List StructDef) (members : List Member) (place : ℕ) (m : Member) → slice_get members place ≡ Some m → MemberKinds structs members place m
unfolding kinds_of words_of member_offset
member_at structs [] place m there = absurd (none-some m there)
member_at structs (e ∷ members) zero m there =
    record {
      front = [];
      back = member_kinds (struct_kinds_after [] structs) members;
      is = ap (λ x. kinds_in (struct_kinds_after [] structs) x.ty ++ member_kinds (struct_kinds_after [] structs) members) (same_Some e m there);
      offset_is = refl;
    }
member_at structs (e ∷ members) (suc place) m there =
    let r = member_at structs members place m there in
    record {
      front = kinds_of structs e.ty ++ r.front;
      back = r.back;
      is = ap (λ k. kinds_of structs e.ty ++ k) r.is ∙ sym (append_assoc (kinds_of structs e.ty) r.front (kinds_of structs m.ty ++ r.back));
      offset_is = length-append (kinds_of structs e.ty) r.front ∙ (ap (λ n. n + length r.front) (length-kinds_of structs e.ty) ∙ (ap (λ n. words_of structs e.ty + n) r.offset_is ∙
          sym (sum_by-cons (λ x. words_in (struct_words structs) x.ty) e (take place members))));
    }

pub part_member : (structs : List StructDef) → AreStructs structs → (number place : ℕ) (d : StructDef) (m : Member) → slice_get structs number ≡ Some d → slice_get d.members place ≡ Some m →
    PartOf structs (struct_type number) m.offset m.ty
part_member structs are number place d m there member_there =
    let r = member_at structs d.members place m member_there in
    record { front = r.front; back = r.back; is = kinds-struct structs are number d there ∙ r.is; offset_is = r.offset_is ∙ sym ((are number d there).offsets place m member_there) }
