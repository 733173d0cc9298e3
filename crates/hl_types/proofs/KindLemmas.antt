-- The words of types and their kinds, by the members of the structs that are held.
use Rattle.std.proofs.Common.{◌≡◌, ◌∙◌, refl, sym, ap, ℕ, zero, suc, ◌+◌, ◌*◌, ◌-◌, ◌^◌, ◌<◌, ◌≤◌, ◌==◌, Bool, true, false, if◌then◌else◌, nat_lt, not, List, [], ◌∷◌, ◌++◌, Option, None, Some, append_assoc, append-nil, drop, get_or, length, map, option_and_then, option_map, slice_get, suc-add, take, unwrap_or, arith}
use Rattle.std.proofs.lemmas.Bool.{eqb-false, eqb-true, ltb-false}
use Rattle.std.proofs.lemmas.List.{length-take-le, length_push, map-append, nil_from_length, take_all, take_more}
use Rattle.std.proofs.lemmas.List.Sums.{sum_by-cons}
use Rattle.std.proofs.lemmas.Option.{slice_get-get_or, slice_get_past}
use Rattle.std.proofs.Math.Seq.{take-add}
use Rattle.hl_meaning.specs.declared.ty.HlType.{HlType}
use Rattle.hl_meaning.specs.declared.ty.Kind.{Kind}
use Rattle.hl_meaning.specs.Layout.{kinds_in, kinds_of, member_kinds, member_words, repeated, struct_kinds_after, struct_words_after, words_in, words_of}
use Rattle.hl_meaning.specs.Programs.{Member as PlainMember, StructDef}
use Rattle.hl_meaning.specs.Types.{Ty, array_type, scalar_type, struct_type, vector_type, void_type}
use Rattle.hl_rules.specs.DeclarationRules.{is_other}
use Rattle.hl_rules.specs.Scopes.{MemberInfo, StructInfo, members_words, type_words, words_if}
use Rattle.hl_rules.specs.Statements.{members_from, struct_def, struct_defs}
use Rattle.hl_meaning.proofs.LayoutForms.{get-next, length-kinds_of}
use Rattle.hl_types.specs.Kinds.{each_behind, each_front, has_count, kinds_behind, kinds_front, kinds_if, member_types, members_at, one_at, struct_kinds, type_kinds, types_kinds}
use Rattle.hl_values.specs.declared.words.WordCount.{WordCount}
use Rattle.hl_values.specs.declared.words.WordCount.TheVariants.{Few, Many}
use Rattle.hl_values.specs.StructTables.{Member, Members, plain_member, plain_struct, plain_structs, structs_behind}
use Rattle.hl_values.specs.Views.{plain_type_if}
use Rattle.hl_values.specs.WordCounts.{counted}

-- ---- counts

-- so many words, as it is held, are so many
pub few-is : (n known count : ℕ) → Few n ≡ counted known → (count == n) ≡ (count == known)
few-is n known count e = by (nat_lt known (2 ^ 64)) e
  where
    by : (b : Bool) → Few n ≡ (if b then Few known else Many) → (count == n) ≡ (count == known)
    by true h = ap (λ x. count == x) (cc h)
    by false h = absurd (cc h)

pub many-is : (known count : ℕ) → count < 2 ^ 64 → Many ≡ counted known → false ≡ (count == known)
many-is known count small e = by (nat_lt known (2 ^ 64)) refl e
  where
    apart : 2 ^ 64 ≤ known → (b : Bool) → count == known ≡ b → false ≡ b
    apart more false is = refl
    apart more true is = absurd (omega (arith, small, more, eqb-true count known is))

    by : (b : Bool) → nat_lt known (2 ^ 64) ≡ b → Many ≡ (if b then Few known else Many) → false ≡ (count == known)
    by true is h = absurd (cc h)
    by false is h = apart (ltb-false known (2 ^ 64) is) (count == known) refl

-- ---- members

pub types-at : (members : List Member) (at : ℕ) (ty : Option HlType) → Some ty ≡ option_map (λ m. m.1) (slice_get members at)
    → member_types (drop at members) ≡ unwrap_or (plain_type_if ty) void_type ∷ member_types (drop (at + 1) members)
types-at [] at ty e = cc
types-at (m ∷ members) zero ty e =
    let same : m.1 ≡ ty = cc in
    ap (λ t. unwrap_or (plain_type_if t) void_type ∷ member_types members) same
types-at (m ∷ members) (suc at) ty e = types-at members at ty e ∙ ap (λ k. unwrap_or (plain_type_if ty) void_type ∷ member_types (drop k (m ∷ members))) (sym (suc-add at 1))

-- ---- structs one behind the other

no_struct : Members
no_struct = ([], [])

-- the words of types one behind the other, and those of each struct; a member without a type has none
abbrev types_words : List ℕ → List Ty → ℕ
types_words words [] = 0
types_words words (ty ∷ types) = words_in words ty + types_words words types

abbrev words_behind : List ℕ → List Members → List ℕ
words_behind before [] = before
words_behind before (d ∷ structs) = words_behind (before ++ types_words before (member_types d.1) ∷ []) structs

each_behind-append : {A : Type 0} (has : List A → List Ty → A) (before : List A) (xs ys : List Members) → each_behind has before (xs ++ ys) ≡ each_behind has (each_behind has before xs) ys
each_behind-append has before [] ys = refl
each_behind-append has before (d ∷ xs) ys = each_behind-append has (before ++ has before (member_types d.1) ∷ []) xs ys

members-read : (structs : List Members) (n : ℕ) → n < length structs → (get_or structs n no_struct).1 ≡ members_at structs n
members-read structs n h = sym (ap (λ o. unwrap_or (option_map (λ d. d.1) o) []) (slice_get-get_or structs n no_struct h))

pub each_front-next : {A : Type 0} (has : List A → List Ty → A) (structs : List Members) (n : ℕ) → n < length structs
    → each_front has structs (n + 1) ≡ each_front has structs n ++ one_at has structs n ∷ []
each_front-next has structs n h =
    ap (each_behind has []) (take_more structs n no_struct h) ∙ (each_behind-append has [] (take n structs) (get_or structs n no_struct ∷ []) ∙
    ap (λ members. each_front has structs n ++ has (each_front has structs n) (member_types members) ∷ []) (members-read structs n h))

-- ---- what a struct has among what others have

pub length-each_behind : {A : Type 0} (has : List A → List Ty → A) (before : List A) (structs : List Members) → length (each_behind has before structs) ≡ length before + length structs
length-each_behind has before [] = omega arith
length-each_behind has before (d ∷ structs) =
    length-each_behind has (before ++ has before (member_types d.1) ∷ []) structs ∙
    omega (arith, length_push before (has before (member_types d.1)))

pub length-each_front : {A : Type 0} (has : List A → List Ty → A) (structs : List Members) (n : ℕ) → n ≤ length structs → length (each_front has structs n) ≡ n
length-each_front has structs n h = length-each_behind has [] (take n structs) ∙ omega (arith, length-take-le n structs h)

each_behind-grows : {A : Type 0} (has : List A → List Ty → A) (before : List A) (structs : List Members) → (more : List A) × (each_behind has before structs ≡ before ++ more)
each_behind-grows has before [] = ([], sym (append-nil before))
each_behind-grows has before (d ∷ structs) =
    let own = has before (member_types d.1) in
    let r = each_behind-grows has (before ++ own ∷ []) structs in
    (own ∷ r.0, r.1 ∙ append_assoc before (own ∷ []) r.0)

front-splits : (structs : List Members) (n b : ℕ) → n < b → take b structs ≡ take (n + 1) structs ++ take (b - (n + 1)) (drop (n + 1) structs)
front-splits structs n b h = let e : b ≡ (n + 1) + (b - (n + 1)) = omega arith in ap (λ k. take k structs) e ∙ take-add (n + 1) (b - (n + 1)) structs

pub each-at : {A : Type 0} (has : List A → List Ty → A) (structs : List Members) (n b : ℕ) → n < b → b ≤ length structs → slice_get (each_front has structs b) n ≡ Some (one_at has structs n)
each-at {A = A} has structs n b below within = given (each_behind-grows has (each_front has structs (n + 1)) (take (b - (n + 1)) (drop (n + 1) structs)))
  where
    here : n < length structs
    here = omega arith

    given : (more : List A) × (each_behind has (each_front has structs (n + 1)) (take (b - (n + 1)) (drop (n + 1) structs)) ≡ each_front has structs (n + 1) ++ more)
        → slice_get (each_front has structs b) n ≡ Some (one_at has structs n)
    given r =
        ap (λ l. slice_get l n)
        (ap (each_behind has []) (front-splits structs n b below) ∙
        (each_behind-append has [] (take (n + 1) structs) (take (b - (n + 1)) (drop (n + 1) structs)) ∙
        (r.1 ∙ (ap (λ l. l ++ r.0) (each_front-next has structs n here) ∙ append_assoc (each_front has structs n) (one_at has structs n ∷ []) r.0)))) ∙
        (ap (λ k. slice_get (each_front has structs n ++ one_at has structs n ∷ r.0) k) (sym (length-each_front has structs n (omega arith))) ∙
        get-next (each_front has structs n) (one_at has structs n) r.0)

pub each-past : {A : Type 0} (has : List A → List Ty → A) (structs : List Members) (n b : ℕ) → b ≤ n → b ≤ length structs → slice_get (each_front has structs b) n ≡ None
each-past has structs n b past within = slice_get_past (each_front has structs b) n (omega (arith, length-each_front has structs b within))

-- ---- structs as the program will have them

abbrev def_types : StructDef → List Ty
def_types d = map (λ m. m.ty) d.members

abbrev info_types : StructInfo → List Ty
info_types d = map (λ m. unwrap_or m.ty void_type) d.members

member_words-types : (words : List ℕ) (members : List PlainMember) → member_words words members ≡ types_words words (map (λ m. m.ty) members)
member_words-types words [] = refl
member_words-types words (m ∷ members) = sum_by-cons (λ x. words_in words x.ty) m members ∙ ap (λ n. words_in words m.ty + n) (member_words-types words members)

member_kinds-types : (kinds : List (List Kind)) (members : List PlainMember) → member_kinds kinds members ≡ types_kinds kinds (map (λ m. m.ty) members)
member_kinds-types kinds [] = refl
member_kinds-types kinds (m ∷ members) = ap (λ l. kinds_in kinds m.ty ++ l) (member_kinds-types kinds members)

words-same : (before : List ℕ) (ds : List StructDef) (structs : List Members) → map def_types ds ≡ map (λ d. member_types d.1) structs → struct_words_after before ds ≡ words_behind before structs
words-same before [] [] e = refl
words-same before [] (x ∷ structs) e = absurd (cc e)
words-same before (d ∷ ds) [] e = absurd (cc e)
words-same before (d ∷ ds) (x ∷ structs) e =
    let head : def_types d ≡ member_types x.1 = cc e in
    let tail : map def_types ds ≡ map (λ y. member_types y.1) structs = cc e in
    ap (λ n. struct_words_after (before ++ n ∷ []) ds) (member_words-types before d.members ∙ ap (types_words before) head) ∙
    words-same (before ++ types_words before (member_types x.1) ∷ []) ds structs tail

kinds-same : (before : List (List Kind)) (ds : List StructDef) (structs : List Members) → map def_types ds ≡ map (λ d. member_types d.1) structs → struct_kinds_after before ds ≡ kinds_behind before structs
kinds-same before [] [] e = refl
kinds-same before [] (x ∷ structs) e = absurd (cc e)
kinds-same before (d ∷ ds) [] e = absurd (cc e)
kinds-same before (d ∷ ds) (x ∷ structs) e =
    let head : def_types d ≡ member_types x.1 = cc e in
    let tail : map def_types ds ≡ map (λ y. member_types y.1) structs = cc e in
    ap (λ n. struct_kinds_after (before ++ n ∷ []) ds) (member_kinds-types before d.members ∙ ap (types_kinds before) head) ∙
    kinds-same (before ++ types_kinds before (member_types x.1) ∷ []) ds structs tail

from-types : (all : List StructInfo) (members : List MemberInfo) (offset : ℕ) → map (λ m. m.ty) (members_from all offset members) ≡ map (λ m. unwrap_or m.ty void_type) members
from-types all [] offset = refl
from-types all (m ∷ members) offset = ap (λ l. unwrap_or m.ty void_type ∷ l) (from-types all members (offset + unwrap_or (type_words all (unwrap_or m.ty void_type)) 0))

defs-types : (all ds : List StructInfo) → map def_types (map (struct_def all) ds) ≡ map info_types ds
defs-types all [] = refl
defs-types all (d ∷ ds) =
    ap (λ t. t ∷ map def_types (map (struct_def all) ds)) (from-types all d.members 0) ∙ ap (λ l. info_types d ∷ l) (defs-types all ds)

held-types : (members : List Member) → map (λ m. unwrap_or m.ty void_type) (map plain_member members) ≡ member_types members
held-types [] = refl
held-types (m ∷ members) = ap (λ l. unwrap_or (plain_type_if m.1) void_type ∷ l) (held-types members)

behind-types : (before : List StructInfo) (structs : List Members) → map info_types (structs_behind before structs) ≡ map info_types before ++ map (λ d. member_types d.1) structs
behind-types before [] = sym (append-nil (map info_types before))
behind-types before (d ∷ structs) =
    let rest = map (λ (x : Members). member_types x.1) structs in
    behind-types (before ++ plain_struct before d ∷ []) structs ∙
    (ap (λ l. l ++ rest) (map-append info_types before (plain_struct before d ∷ [])) ∙
    (append_assoc (map info_types before) (info_types (plain_struct before d) ∷ []) rest ∙
    ap (λ t. map info_types before ++ t ∷ rest) (held-types d.1)))

types-same : (structs : List Members) → map def_types (struct_defs (plain_structs structs)) ≡ map (λ d. member_types d.1) structs
types-same structs = defs-types (plain_structs structs) (plain_structs structs) ∙ behind-types [] structs

-- ---- types

pub kinds-are : (structs : List Members) (ty : Ty) → type_kinds structs ty ≡ kinds_in (kinds_front structs (length structs)) ty
unfolding kinds_of
kinds-are structs ty =
    ap (λ k. kinds_in k ty)
    (kinds-same [] (struct_defs (plain_structs structs)) structs (types-same structs) ∙
    sym (ap (kinds_behind []) (take_all (length structs) structs (omega arith))))

pub count-is : (structs : List Members) (ty : Ty) → length (type_kinds structs ty) ≡ words_in (words_behind [] structs) ty
unfolding words_of
count-is structs ty =
    length-kinds_of (struct_defs (plain_structs structs)) ty ∙
    ap (λ w. words_in w ty) (words-same [] (struct_defs (plain_structs structs)) structs (types-same structs))

-- ---- words that are known

-- structs whose words, where they are known, are these
abbrev AreAsKnown : List StructInfo → List ℕ → Type 0
AreAsKnown [] [] = Unit {0}
AreAsKnown (d ∷ structs) (n ∷ words) = ((k : ℕ) → d.words ≡ Some k → n ≡ k) × AreAsKnown structs words
AreAsKnown _ _ = ⊥

as_known-push : (structs : List StructInfo) (words : List ℕ) (d : StructInfo) (n : ℕ) → AreAsKnown structs words → ((k : ℕ) → d.words ≡ Some k → n ≡ k) → AreAsKnown (structs ++ d ∷ []) (words ++ n ∷ [])
as_known-push [] [] d n known own = (own, tt)
as_known-push [] (m ∷ words) d n known own = absurd known
as_known-push (x ∷ structs) [] d n known own = absurd known
as_known-push (x ∷ structs) (m ∷ words) d n known own = (known.0, as_known-push structs words d n known.1 own)

as_known-at : (structs : List StructInfo) (words : List ℕ) (number k : ℕ) → AreAsKnown structs words → option_and_then (λ (d : StructInfo). d.words) (slice_get structs number) ≡ Some k → unwrap_or (slice_get words number) 0 ≡ k
as_known-at [] words number k known e = absurd (cc e)
as_known-at (d ∷ structs) [] number k known e = absurd known
as_known-at (d ∷ structs) (n ∷ words) zero k known e = known.0 k e
as_known-at (d ∷ structs) (n ∷ words) (suc number) k known e = as_known-at structs words number k known.1 e

mapped-some : (f : ℕ → ℕ) (o : Option ℕ) (k : ℕ) → option_map f o ≡ Some k → (n : ℕ) × (o ≡ Some n) × (f n ≡ k)
mapped-some f None k e = absurd (cc e)
mapped-some f (Some n) k e = (n, refl, cc e)

then-some : (f : ℕ → Option ℕ) (o : Option ℕ) (k : ℕ) → option_and_then f o ≡ Some k → (n : ℕ) × (o ≡ Some n) × (f n ≡ Some k)
then-some f None k e = absurd (cc e)
then-some f (Some n) k e = (n, refl, e)

type-as_known : (structs : List StructInfo) (words : List ℕ) → AreAsKnown structs words → (ty : Ty) (k : ℕ) → type_words structs ty ≡ Some k → words_in words ty ≡ k
type-as_known structs words known void_type k e = cc e
type-as_known structs words known (scalar_type kind) k e = cc e
type-as_known structs words known (vector_type kind size) k e = cc e
type-as_known structs words known (array_type element count) k e =
    let r = mapped-some (λ n. count * n) (type_words structs element) k e in
    ap (λ n. count * n) (type-as_known structs words known element r.0 r.1) ∙ r.2
type-as_known structs words known (struct_type number) k e = as_known-at structs words number k known e

member-as_known : (structs : List StructInfo) (words : List ℕ) → AreAsKnown structs words → (members : List Member) (ty : Option Ty)
    → ((more : ℕ) → members_words structs (map plain_member members) ≡ Some more → types_words words (member_types members) ≡ more)
    → (k : ℕ) → option_and_then (λ n. option_map (λ more. n + more) (members_words structs (map plain_member members))) (words_if structs ty) ≡ Some k
    → words_in words (unwrap_or ty void_type) + types_words words (member_types members) ≡ k
member-as_known structs words known members None behind k e = absurd (cc e)
member-as_known structs words known members (Some ty) behind k e =
    let r = then-some (λ n. option_map (λ more. n + more) (members_words structs (map plain_member members))) (type_words structs ty) k e in
    let rest = mapped-some (λ more. r.0 + more) (members_words structs (map plain_member members)) k r.2 in
    ap (λ n. n + types_words words (member_types members)) (type-as_known structs words known ty r.0 r.1) ∙
    (ap (λ n. r.0 + n) (behind rest.0 rest.1) ∙ rest.2)

members-as_known : (structs : List StructInfo) (words : List ℕ) → AreAsKnown structs words → (members : List Member) (k : ℕ) → members_words structs (map plain_member members) ≡ Some k → types_words words (member_types members) ≡ k
members-as_known structs words known [] k e = cc e
members-as_known structs words known (m ∷ members) k e = member-as_known structs words known members (plain_type_if m.1) (members-as_known structs words known members) k e

behind-as_known : (before : List StructInfo) (words : List ℕ) (structs : List Members) → AreAsKnown before words → AreAsKnown (structs_behind before structs) (words_behind words structs)
behind-as_known before words [] known = known
behind-as_known before words (d ∷ structs) known =
    behind-as_known (before ++ plain_struct before d ∷ []) (words ++ types_words words (member_types d.1) ∷ []) structs
    (as_known-push before words (plain_struct before d) (types_words words (member_types d.1)) known (λ k. members-as_known before words known d.1 k))

-- a type with known words has as many kinds
pub known-count : (structs : List Members) (ty : Ty) (k : ℕ) → type_words (plain_structs structs) ty ≡ Some k → length (type_kinds structs ty) ≡ k
known-count structs ty k e =
    count-is structs ty ∙ type-as_known (plain_structs structs) (words_behind [] structs) (behind-as_known [] [] structs tt) ty k e

-- a struct that is known to have no words has no kinds
pub no-kinds : (structs : List Members) (n : ℕ) → n < length structs → has_count 0 (type_words (plain_structs structs) (struct_type n)) ≡ true → struct_kinds structs n ≡ []
no-kinds structs n within e =
    ap (λ o. unwrap_or o []) (sym (each-at types_kinds structs n (length structs) within (omega arith))) ∙
    (sym (kinds-are structs (struct_type n)) ∙
    nil_from_length (type_kinds structs (struct_type n)) (by (type_words (plain_structs structs) (struct_type n)) refl e))
  where
    by : (known : Option ℕ) → type_words (plain_structs structs) (struct_type n) ≡ known → has_count 0 known ≡ true → length (type_kinds structs (struct_type n)) ≡ 0
    by None is h = absurd (cc h)
    by (Some k) is h = known-count structs (struct_type n) k is ∙ sym (eqb-true 0 k h)

-- ---- repetition

pub repeated-next : (count : ℕ) (kinds : List Kind) → repeated count kinds ++ kinds ≡ repeated (count + 1) kinds
repeated-next zero kinds = sym (append-nil kinds)
repeated-next (suc count) kinds =
    append_assoc kinds (repeated count kinds) kinds ∙ (ap (λ l. kinds ++ l) (repeated-next count kinds) ∙ ap (λ k. repeated k kinds) (sym (suc-add count 1)))

-- ---- as many kinds

pub kinds_if-there : (count : ℕ) (kinds : List Kind) → (count == length kinds) ≡ true → Some kinds ≡ kinds_if count kinds
kinds_if-there count kinds e = sym (ap (λ b. if b then Some kinds else None) e)

pub kinds_if-none : (count : ℕ) (kinds : List Kind) → (count == length kinds) ≡ false → None ≡ kinds_if count kinds
kinds_if-none count kinds e = sym (ap (λ b. if b then Some kinds else None) e)

pub kinds_if-same : (count : ℕ) (kinds found : List Kind) → found ≡ kinds → length found ≡ count → Some found ≡ kinds_if count kinds
kinds_if-same count kinds found e same = by (count == length kinds) refl
  where
    by : (b : Bool) → (count == length kinds) ≡ b → Some found ≡ kinds_if count kinds
    by true is = ap Some e ∙ kinds_if-there count kinds is
    by false is = absurd (eqb-false count (length kinds) is (sym same ∙ ap (λ l. length l) e))

pub kinds_if-apart : (count : ℕ) (kinds found : List Kind) → found ≡ kinds → (length found ≡ count → ⊥) → None ≡ kinds_if count kinds
kinds_if-apart count kinds found e apart = by (count == length kinds) refl
  where
    by : (b : Bool) → (count == length kinds) ≡ b → None ≡ kinds_if count kinds
    by true is = absurd (apart (ap (λ l. length l) e ∙ sym (eqb-true count (length kinds) is)))
    by false is = kinds_if-none count kinds is

not-true : (b : Bool) → not b ≡ true → b ≡ false
not-true true h = absurd (cc h)
not-true false h = refl

-- a type that is known to have other words hasn't so many kinds
pub kinds_if-known : (count : ℕ) (structs : List Members) (ty : Ty) → is_other count (type_words (plain_structs structs) ty) ≡ true → None ≡ kinds_if count (type_kinds structs ty)
kinds_if-known count structs ty e = by (type_words (plain_structs structs) ty) refl e
  where
    by : (known : Option ℕ) → type_words (plain_structs structs) ty ≡ known → is_other count known ≡ true → None ≡ kinds_if count (type_kinds structs ty)
    by None is h = absurd (cc h)
    by (Some k) is h = kinds_if-none count (type_kinds structs ty) (ap (λ n. count == n) (known-count structs ty k is) ∙ not-true (count == k) h)

-- ---- counts that may not be known

pub has-known : (count : ℕ) (words : WordCount) (same : Bool) (known : Option ℕ) → ((n : ℕ) → words ≡ counted n → same ≡ (count == n)) → Some words ≡ option_map counted known → same ≡ has_count count known
has-known count words same None is e = absurd (cc e)
has-known count words same (Some n) is e = is n (cc e)

pub has-none : (count : ℕ) (known : Option ℕ) → None ≡ option_map counted known → false ≡ has_count count known
has-none count None e = refl
has-none count (Some n) e = absurd (cc e)

pub other-known : (count : ℕ) (words : WordCount) (same : Bool) (known : Option ℕ) → ((n : ℕ) → words ≡ counted n → same ≡ (count == n)) → Some words ≡ option_map counted known → not same ≡ is_other count known
other-known count words same None is e = absurd (cc e)
other-known count words same (Some n) is e = ap not (is n (cc e))

pub other-none : (count : ℕ) (known : Option ℕ) → None ≡ option_map counted known → false ≡ is_other count known
other-none count None e = refl
other-none count (Some n) e = absurd (cc e)
