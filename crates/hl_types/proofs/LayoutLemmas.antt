-- The structs of a program, one behind the other.
use Rattle.std.proofs.Common.{◌≡◌, ◌∙◌, refl, sym, ap, ℕ, zero, suc, ◌+◌, ◌<◌, ◌≤◌, List, [], ◌∷◌, ◌++◌, length, map, drop, Option, None, Some, option_map, option_and_then, slice_get, unwrap_or, append_assoc, append-nil, suc-add, get_or, arith}
use Rattle.std.proofs.lemmas.List.{drop_all, map-append}
use Rattle.std.proofs.lemmas.Option.{none-some, slice_get-get_or, slice_get-map}
use Rattle.hl_meaning.specs.declared.ty.HlType.{HlType}
use Rattle.hl_meaning.specs.Programs.{Member as ProgramMember, StructDef}
use Rattle.hl_meaning.specs.Types.{Ty, void_type}
use Rattle.hl_rules.specs.Scopes.{MemberInfo, StructInfo, type_words, words_if}
use Rattle.hl_rules.specs.Statements.{members_from, struct_def}
use Rattle.hl_values.specs.StructTables.{Member, Members, plain_member, plain_struct, plain_structs, structs_behind}
use Rattle.hl_values.specs.Views.{plain_type_if}

abbrev pub known_member : List ℕ → Option Ty → MemberInfo
known_member name ty = record { name = name; ty = ty }

-- ---- words

pub known-words : (structs : List StructInfo) (ty : Option Ty) → unwrap_or (words_if structs ty) 0 ≡ unwrap_or (type_words structs (unwrap_or ty void_type)) 0
known-words structs None = refl
known-words structs (Some ty) = refl

-- ---- what stands at a place

pub drop-at : {A : Type 0} (xs : List A) (at : ℕ) (x : A) → slice_get xs at ≡ Some x → drop at xs ≡ x ∷ drop (at + 1) xs
drop-at [] at x e = absurd (cc e)
drop-at (y ∷ xs) zero x e = ap (λ o. unwrap_or o y ∷ xs) e
drop-at (y ∷ xs) (suc at) x e = drop-at xs at x e ∙ ap (λ k. x ∷ drop k (y ∷ xs)) (sym (suc-add at 1))

-- ---- an entry

no-mapped : {A B C : Type 0} (f : A → B) (g : A → C) (o : Option A) (m : C) → option_map f o ≡ None → option_map g o ≡ Some m → ⊥
no-mapped f g None m e k = none-some m k
no-mapped f g (Some x) m e k = none-some (f x) (sym e)

-- nothing stands where nothing is named
pub no-entry : {A B C : Type 0} (f : A → B) (g : A → C) (xs : List A) (at : ℕ) (m : C) → option_map f (slice_get xs at) ≡ None → slice_get (map g xs) at ≡ Some m → ⊥
no-entry f g xs at m e k = no-mapped f g (slice_get xs at) m e (sym (slice_get-map g xs at) ∙ k)

mapped-is : (o : Option Member) (name : List ℕ) (ty : Option HlType) (m : MemberInfo) → Some name ≡ option_map (λ (e : Member). e.0) o → Some ty ≡ option_map (λ (e : Member). e.1) o → option_map plain_member o ≡ Some m → known_member name (plain_type_if ty) ≡ m
mapped-is None name ty m n t k = absurd (cc k)
mapped-is (Some e) name ty m n t k =
    ap (λ o. known_member (unwrap_or o name) (plain_type_if ty)) n ∙ (ap (λ o. known_member e.0 (plain_type_if (unwrap_or o ty))) t ∙ ap (λ o. unwrap_or o m) k)

pub member-is : (table : List Member) (at : ℕ) (name : List ℕ) (ty : Option HlType) (m : MemberInfo)
    → Some name ≡ option_map (λ (e : Member). e.0) (slice_get table at) → Some ty ≡ option_map (λ (e : Member). e.1) (slice_get table at)
    → slice_get (map plain_member table) at ≡ Some m → known_member name (plain_type_if ty) ≡ m
member-is table at name ty m n t k = mapped-is (slice_get table at) name ty m n t (sym (slice_get-map plain_member table at) ∙ k)

-- ---- members

abbrev pub member_at : (offset : ℕ) → MemberInfo → ProgramMember
member_at offset m = record { name = m.name; ty = unwrap_or m.ty void_type; offset = offset }

abbrev known_part : List ℕ → Ty → ℕ → ProgramMember
known_part name ty offset = record { name = name; ty = ty; offset = offset }

pub made-member : (name text : List ℕ) (ty : Option HlType) (own : Ty) (offset : ℕ) (m : MemberInfo)
    → name ≡ text → own ≡ unwrap_or (plain_type_if ty) void_type → known_member text (plain_type_if ty) ≡ m → known_part name own offset ≡ member_at offset m
made-member name text ty own offset m n o e =
    ap (λ x. known_part x own offset) n ∙ (ap (λ x. known_part text x offset) o ∙ ap (member_at offset) e)

pub more-members : (structs : List StructInfo) (offset next : ℕ) (m : MemberInfo) (rest : List MemberInfo) (before after all : List ProgramMember)
    → after ≡ before ++ member_at offset m ∷ [] → next ≡ offset + unwrap_or (type_words structs (unwrap_or m.ty void_type)) 0
    → before ++ members_from structs offset (m ∷ rest) ≡ all → after ++ members_from structs next rest ≡ all
more-members structs offset next m rest before after all a n whole =
    let behind = members_from structs (offset + unwrap_or (type_words structs (unwrap_or m.ty void_type)) 0) rest in
    ap (λ k. after ++ members_from structs k rest) n ∙ (ap (λ l. l ++ behind) a ∙ (append_assoc before (member_at offset m ∷ []) behind ∙ whole))

-- ---- structs

-- the name and the members of a struct
abbrev shape : StructInfo → List ℕ × List MemberInfo
shape d = (d.name, d.members)

abbrev held : Members → List ℕ × List MemberInfo
held d = (d.0, map plain_member d.1)

shapes-behind : (before : List StructInfo) (structs : List Members) → map shape (structs_behind before structs) ≡ map shape before ++ map held structs
shapes-behind before [] = sym (append-nil (map shape before))
shapes-behind before (d ∷ structs) =
    shapes-behind (before ++ plain_struct before d ∷ []) structs ∙
    (ap (λ l. l ++ map held structs) (map-append shape before (plain_struct before d ∷ [])) ∙
    append_assoc (map shape before) (held d ∷ []) (map held structs))

shape-at : (structs : List Members) (number : ℕ) → option_map shape (slice_get (plain_structs structs) number) ≡ option_map held (slice_get structs number)
shape-at structs number =
    sym (slice_get-map shape (plain_structs structs) number) ∙ (ap (λ l. slice_get l number) (shapes-behind [] structs) ∙ slice_get-map held structs number)

abbrev pub known_def : List ℕ → List ProgramMember → ℕ → StructDef
known_def name members words = record { name = name; members = members; words = words }

-- a struct that isn't there
none-name : (d : Option Members) → None ≡ option_map (λ (x : Members). x.0) d → d ≡ None
none-name None e = refl
none-name (Some d) e = absurd (cc e)

none-members : (d : Option Members) → None ≡ option_map (λ (x : Members). x.1) d → d ≡ None
none-members None e = refl
none-members (Some d) e = absurd (cc e)

none-shape : (d : Option StructInfo) → option_map shape d ≡ None → d ≡ None
none-shape None e = refl
none-shape (Some d) e = absurd (cc e)

no-struct : (structs : List Members) (number : ℕ) → slice_get structs number ≡ None → slice_get (plain_structs structs) number ≡ None
no-struct structs number e = none-shape (slice_get (plain_structs structs) number) (shape-at structs number ∙ ap (option_map held) e)

pub no-name : (structs : List Members) (number : ℕ) (d : StructInfo) → None ≡ option_map (λ (x : Members). x.0) (slice_get structs number) → slice_get (plain_structs structs) number ≡ Some d → ⊥
no-name structs number d e is = none-some d (sym (no-struct structs number (none-name (slice_get structs number) e)) ∙ is)

pub no-members : (structs : List Members) (number : ℕ) (d : StructInfo) → None ≡ option_map (λ (x : Members). x.1) (slice_get structs number) → slice_get (plain_structs structs) number ≡ Some d → ⊥
no-members structs number d e is = none-some d (sym (no-struct structs number (none-members (slice_get structs number) e)) ∙ is)

-- a struct that is there
there : (all : List StructInfo) (d : Option StructInfo) (m : Option Members) (name : List ℕ) (members : List Member) (made : List ProgramMember) (words : ℕ)
    → option_map shape d ≡ option_map held m → Some name ≡ option_map (λ (x : Members). x.0) m → Some members ≡ option_map (λ (x : Members). x.1) m
    → made ≡ members_from all 0 (map plain_member members) → words ≡ unwrap_or (option_and_then (λ (x : StructInfo). x.words) d) 0
    → Some (known_def name made words) ≡ option_map (struct_def all) d
there all None None name members made words e n m a w = absurd (cc n)
there all None (Some k) name members made words e n m a w = absurd (cc e)
there all (Some d) None name members made words e n m a w = absurd (cc n)
there all (Some d) (Some k) name members made words e n m a w =
    let named : name ≡ d.name = ap (λ o. unwrap_or o name) (n ∙ sym (ap (option_map (λ (x : List ℕ × List MemberInfo). x.0)) e)) in
    let own : map plain_member members ≡ d.members =
    ap (λ o. map plain_member (unwrap_or o members)) m ∙ sym (ap (λ o. unwrap_or (option_map (λ (x : List ℕ × List MemberInfo). x.1) o) d.members) e) in
    ap Some (ap (λ x. known_def x made words) named ∙ (ap (λ x. known_def d.name x words) (a ∙ ap (members_from all 0) own) ∙ ap (known_def d.name (members_from all 0 d.members)) w))

pub struct-there : (all : List StructInfo) (structs : List Members) (number : ℕ) (name : List ℕ) (members : List Member) (made : List ProgramMember) (words : ℕ) (d : StructInfo)
    → Some name ≡ option_map (λ (x : Members). x.0) (slice_get structs number) → Some members ≡ option_map (λ (x : Members). x.1) (slice_get structs number)
    → made ≡ members_from all 0 (map plain_member members) → words ≡ unwrap_or (option_and_then (λ (x : StructInfo). x.words) (slice_get (plain_structs structs) number)) 0
    → slice_get (plain_structs structs) number ≡ Some d → known_def name made words ≡ struct_def all d
struct-there all structs number name members made words d n m a w is =
    ap (λ o. unwrap_or o (known_def name made words))
    (there all (slice_get (plain_structs structs) number) (slice_get structs number) name members made words (shape-at structs number) n m a w ∙ ap (option_map (struct_def all)) is)

-- ---- turns

pub turn-members : (all : List StructInfo) (table : List Member) (at offset next : ℕ) (before after whole : List ProgramMember) → at < length table
    → ((m : MemberInfo) → slice_get (map plain_member table) at ≡ Some m → after ≡ before ++ member_at offset m ∷ [])
    → ((m : MemberInfo) → slice_get (map plain_member table) at ≡ Some m → next ≡ offset + unwrap_or (type_words all (unwrap_or m.ty void_type)) 0)
    → before ++ members_from all offset (map plain_member (drop at table)) ≡ whole
    → after ++ members_from all next (map plain_member (drop (at + 1) table)) ≡ whole
turn-members all table at offset next before after whole within made behind invariant =
    let e = get_or table at ([], None) in
    let is : slice_get table at ≡ Some e = slice_get-get_or table at ([], None) within in
    let m : slice_get (map plain_member table) at ≡ Some (plain_member e) = slice_get-map plain_member table at ∙ ap (option_map plain_member) is in
    more-members all offset next (plain_member e) (map plain_member (drop (at + 1) table)) before after whole (made (plain_member e) m) (behind (plain_member e) m)
    (ap (λ l. before ++ members_from all offset (map plain_member l)) (sym (drop-at table at e is)) ∙ invariant)

pub end-members : (all : List StructInfo) (table : List Member) (at offset : ℕ) (before whole : List ProgramMember) → length table ≤ at
    → before ++ members_from all offset (map plain_member (drop at table)) ≡ whole → before ≡ whole
end-members all table at offset before whole within invariant =
    sym (append-nil before) ∙ (ap (λ l. before ++ members_from all offset (map plain_member l)) (sym (drop_all at table within)) ∙ invariant)

some-at : {A : Type 0} (xs : List A) (at : ℕ) → at < length xs → (x : A) × (slice_get xs at ≡ Some x)
some-at [] at within = absurd (omega (arith, within))
some-at (x ∷ xs) at within = (get_or (x ∷ xs) at x, slice_get-get_or (x ∷ xs) at x within)

pub turn-defs : (all : List StructInfo) (at : ℕ) (before after whole : List StructDef) → at < length all
    → ((d : StructInfo) → slice_get all at ≡ Some d → after ≡ before ++ struct_def all d ∷ [])
    → before ++ map (struct_def all) (drop at all) ≡ whole → after ++ map (struct_def all) (drop (at + 1) all) ≡ whole
turn-defs all at before after whole within made invariant =
    let d = some-at all at within in
    ap (λ l. l ++ map (struct_def all) (drop (at + 1) all)) (made d.0 d.1) ∙
    (append_assoc before (struct_def all d.0 ∷ []) (map (struct_def all) (drop (at + 1) all)) ∙
    (ap (λ l. before ++ map (struct_def all) l) (sym (drop-at all at d.0 d.1)) ∙ invariant))

pub end-defs : (all : List StructInfo) (at : ℕ) (before whole : List StructDef) → length all ≤ at → before ++ map (struct_def all) (drop at all) ≡ whole → before ≡ whole
end-defs all at before whole within invariant =
    sym (append-nil before) ∙ (ap (λ l. before ++ map (struct_def all) l) (sym (drop_all at all within)) ∙ invariant)
