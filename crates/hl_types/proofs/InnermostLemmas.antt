-- A struct has the kinds of its innermost struct, and takes as many steps or more.
use Rattle.std.proofs.Common.{◌≡◌, ◌∙◌, refl, sym, ap, ℕ, zero, suc, ◌+◌, ◌<◌, ◌≤◌, ◌==◌, Bool, true, false, if◌then◌else◌, nat_lt, subst, List, [], ◌∷◌, ◌++◌, Option, None, Some, append-nil, length, option_and_then, slice_get, unwrap_or, arith}
use Rattle.std.proofs.lemmas.Bool.{eqb-true, ltb-false, ltb-true}
use Rattle.std.proofs.lemmas.List.{length_push, take_all}
use Rattle.std.proofs.lemmas.Option.{slice_get_within}
use Rattle.hl_meaning.specs.declared.ty.Kind.{Kind}
use Rattle.hl_meaning.specs.Layout.{kinds_in, repeated}
use Rattle.hl_meaning.specs.Types.{Ty, array_type, scalar_type, struct_type, vector_type, void_type}
use Rattle.hl_meaning.proofs.LayoutForms.{get-next}
use Rattle.hl_types.specs.Kinds.{each_behind, member_types, one_at, struct_kinds, types_kinds}
use Rattle.hl_types.specs.Listing.{type_weight, types_weight}
use Rattle.hl_types.proofs.KindLemmas.{each-at, length-each_behind}
use Rattle.hl_values.specs.Innermost.{innermost_in, innermosts, innermosts_behind, lone_member, lone_struct, lone_struct_if}
use Rattle.hl_values.specs.StructTables.{Member, Members}
use Rattle.hl_values.specs.Views.{plain_type_if}

-- ---- a lone member

array-kinds : (kinds : List (List Kind)) (element : Ty) (count s : ℕ) (b : Bool) → count == 1 ≡ b → (if b then lone_struct element else None) ≡ Some s
    → (lone_struct element ≡ Some s → kinds_in kinds element ≡ unwrap_or (slice_get kinds s) []) → repeated count (kinds_in kinds element) ≡ unwrap_or (slice_get kinds s) []
array-kinds kinds element count s true is h own = ap (λ k. repeated k (kinds_in kinds element)) (eqb-true count 1 is) ∙ (append-nil (kinds_in kinds element) ∙ own h)
array-kinds kinds element count s false is h own = absurd (cc h)

lone-kinds : (kinds : List (List Kind)) (ty : Ty) (s : ℕ) → lone_struct ty ≡ Some s → kinds_in kinds ty ≡ unwrap_or (slice_get kinds s) []
lone-kinds kinds void_type s e = absurd (cc e)
lone-kinds kinds (scalar_type kind) s e = absurd (cc e)
lone-kinds kinds (vector_type kind size) s e = absurd (cc e)
lone-kinds kinds (struct_type n) s e = let same : n ≡ s = cc e in ap (λ k. unwrap_or (slice_get kinds k) []) same
lone-kinds kinds (array_type element count) s e = array-kinds kinds element count s (count == 1) refl e (λ h. lone-kinds kinds element s h)

le-equal : (a b : ℕ) → a ≡ b → a ≤ b
le-equal a b h = omega (arith, h)

le-more : (a b : ℕ) → a ≤ b → a ≤ 1 + b
le-more a b h = omega (arith, h)

array-weight : (weights : List ℕ) (element : Ty) (s : ℕ) (b : Bool) → (if b then lone_struct element else None) ≡ Some s
    → (lone_struct element ≡ Some s → unwrap_or (slice_get weights s) 0 ≤ type_weight weights element) → unwrap_or (slice_get weights s) 0 ≤ 1 + type_weight weights element
array-weight weights element s true h own = le-more _ _ (own h)
array-weight weights element s false h own = absurd (cc h)

lone-weight : (weights : List ℕ) (ty : Ty) (s : ℕ) → lone_struct ty ≡ Some s → unwrap_or (slice_get weights s) 0 ≤ type_weight weights ty
lone-weight weights void_type s e = absurd (cc e)
lone-weight weights (scalar_type kind) s e = absurd (cc e)
lone-weight weights (vector_type kind size) s e = absurd (cc e)
lone-weight weights (struct_type n) s e = let same : n ≡ s = cc e in le-equal _ _ (ap (λ k. unwrap_or (slice_get weights k) 0) (sym same))
lone-weight weights (array_type element count) s e = array-weight weights element s (count == 1) e (λ h. lone-weight weights element s h)

lone-type : (kinds : List (List Kind)) (own : Option Ty) (s : ℕ) → lone_struct_if own ≡ Some s → kinds_in kinds (unwrap_or own void_type) ++ [] ≡ unwrap_or (slice_get kinds s) []
lone-type kinds None s e = absurd (cc e)
lone-type kinds (Some ty) s e = append-nil (kinds_in kinds ty) ∙ lone-kinds kinds ty s e

lone-steps : (weights : List ℕ) (own : Option Ty) (s : ℕ) → lone_struct_if own ≡ Some s → unwrap_or (slice_get weights s) 0 ≤ 1 + (type_weight weights (unwrap_or own void_type) + 1)
lone-steps weights None s e = absurd (cc e)
lone-steps weights (Some ty) s e = more _ _ (lone-weight weights ty s e)
  where
    more : (a b : ℕ) → a ≤ b → a ≤ 1 + (b + 1)
    more a b h = omega (arith, h)

member-kinds : (kinds : List (List Kind)) (members : List Member) (s : ℕ) → lone_member members ≡ Some s → types_kinds kinds (member_types members) ≡ unwrap_or (slice_get kinds s) []
member-kinds kinds [] s e = absurd (cc e)
member-kinds kinds (m ∷ []) s e = lone-type kinds (plain_type_if m.1) s e
member-kinds kinds (m ∷ n ∷ members) s e = absurd (cc e)

member-steps : (weights : List ℕ) (members : List Member) (s : ℕ) → lone_member members ≡ Some s → unwrap_or (slice_get weights s) 0 ≤ types_weight weights (member_types members)
member-steps weights [] s e = absurd (cc e)
member-steps weights (m ∷ []) s e = lone-steps weights (plain_type_if m.1) s e
member-steps weights (m ∷ n ∷ members) s e = absurd (cc e)

-- ---- one struct behind others

get-in : {A : Type 0} (xs ys : List A) (n : ℕ) → n < length xs → slice_get (xs ++ ys) n ≡ slice_get xs n
get-in [] ys n h = absurd (omega (arith, h))
get-in (x ∷ xs) ys zero h = refl
get-in (x ∷ xs) ys (suc n) h = get-in xs ys n (omega (arith, h))

get-last : {A : Type 0} (xs : List A) (y : A) (n : ℕ) → n ≡ length xs → slice_get (xs ++ y ∷ []) n ≡ Some y
get-last xs y n e = ap (λ k. slice_get (xs ++ y ∷ []) k) e ∙ get-next xs y []

le-same : (a b x y : ℕ) → a ≡ x → b ≡ y → x ≤ y → a ≤ b
le-same a b x y e f h = omega (arith, e, f, h)

-- the innermost struct of each has its kinds, and takes as many steps or fewer
abbrev AreSame : List (List Kind) → List ℕ → ℕ → ℕ → Type 0
AreSame kinds weights n c =
    (c < length kinds) × (unwrap_or (slice_get kinds c) [] ≡ unwrap_or (slice_get kinds n) []) × (unwrap_or (slice_get weights c) 0 ≤ unwrap_or (slice_get weights n) 0)

abbrev AreInside : List ℕ → List (List Kind) → List ℕ → Type 0
AreInside inner kinds weights = (n c : ℕ) → slice_get inner n ≡ Some c → AreSame kinds weights n c

same-in : (kinds : List (List Kind)) (weights : List ℕ) (k : List Kind) (w n c : ℕ) → length weights ≡ length kinds → n < length kinds → AreSame kinds weights n c
    → AreSame (kinds ++ k ∷ []) (weights ++ w ∷ []) n c
same-in kinds weights k w n c long within same = (
  omega (arith, same.0, length_push kinds k),
  ap (λ o. unwrap_or o []) (get-in kinds (k ∷ []) c same.0) ∙ (same.1 ∙ sym (ap (λ o. unwrap_or o []) (get-in kinds (k ∷ []) n within))),
  le-same _ _ _ _ (ap (λ o. unwrap_or o 0) (get-in weights (w ∷ []) c (omega (arith, same.0, long)))) (ap (λ o. unwrap_or o 0) (get-in weights (w ∷ []) n (omega (arith, within, long)))) same.2,
)

same-last : (kinds : List (List Kind)) (weights : List ℕ) (k : List Kind) (w n : ℕ) → length weights ≡ length kinds → n ≡ length kinds → AreSame (kinds ++ k ∷ []) (weights ++ w ∷ []) n n
same-last kinds weights k w n long last = (omega (arith, last, length_push kinds k), refl, omega arith)

same-lone : (kinds : List (List Kind)) (weights : List ℕ) (k : List Kind) (w n s c : ℕ) → length weights ≡ length kinds → n ≡ length kinds → AreSame kinds weights s c
    → k ≡ unwrap_or (slice_get kinds s) [] → unwrap_or (slice_get weights s) 0 ≤ w → AreSame (kinds ++ k ∷ []) (weights ++ w ∷ []) n c
same-lone kinds weights k w n s c long last same own less = (
  omega (arith, same.0, length_push kinds k),
  ap (λ o. unwrap_or o []) (get-in kinds (k ∷ []) c same.0) ∙ (same.1 ∙ (sym own ∙ sym (ap (λ o. unwrap_or o []) (get-last kinds k n last)))),
  le-same _ _ _ _ (ap (λ o. unwrap_or o 0) (get-in weights (w ∷ []) c (omega (arith, same.0, long)))) (ap (λ o. unwrap_or o 0) (get-last weights w n (last ∙ sym long)))
      (le-two _ _ _ same.2 less),
)
  where
    le-two : (a b d : ℕ) → a ≤ b → b ≤ d → a ≤ d
    le-two a b d h l = omega (arith, h, l)

inside-last : (inner : List ℕ) (kinds : List (List Kind)) (weights : List ℕ) (members : List Member) → length inner ≡ length kinds → length weights ≡ length kinds → AreInside inner kinds weights
    → (n : ℕ) → n ≡ length kinds → AreSame (kinds ++ types_kinds kinds (member_types members) ∷ []) (weights ++ types_weight weights (member_types members) ∷ []) n (innermost_in inner members)
inside-last inner kinds weights members long wide held n last = by (lone_member members) refl
  where
    k : List Kind
    k = types_kinds kinds (member_types members)

    w : ℕ
    w = types_weight weights (member_types members)

    there : (s : ℕ) → lone_member members ≡ Some s → (o : Option ℕ) → slice_get inner s ≡ o → AreSame (kinds ++ k ∷ []) (weights ++ w ∷ []) n (unwrap_or o (length inner))
    there s lone None e = let same : n ≡ length inner = last ∙ sym long in subst (λ c. AreSame (kinds ++ k ∷ []) (weights ++ w ∷ []) n c) same (same-last kinds weights k w n wide last)
    there s lone (Some c) e = same-lone kinds weights k w n s c wide last (held s c e) (member-kinds kinds members s lone) (member-steps weights members s lone)

    by : (o : Option ℕ) → lone_member members ≡ o → AreSame (kinds ++ k ∷ []) (weights ++ w ∷ []) n (unwrap_or (option_and_then (slice_get inner) o) (length inner))
    by None e = let same : n ≡ length inner = last ∙ sym long in subst (λ c. AreSame (kinds ++ k ∷ []) (weights ++ w ∷ []) n c) same (same-last kinds weights k w n wide last)
    by (Some s) e = there s e (slice_get inner s) refl

inside-push : (inner : List ℕ) (kinds : List (List Kind)) (weights : List ℕ) (members : List Member) → length inner ≡ length kinds → length weights ≡ length kinds → AreInside inner kinds weights
    → AreInside (inner ++ innermost_in inner members ∷ []) (kinds ++ types_kinds kinds (member_types members) ∷ []) (weights ++ types_weight weights (member_types members) ∷ [])
inside-push inner kinds weights members long wide held n c e = by (nat_lt n (length inner)) refl
  where
    i : ℕ
    i = innermost_in inner members

    k : List Kind
    k = types_kinds kinds (member_types members)

    w : ℕ
    w = types_weight weights (member_types members)

    within : n < length (inner ++ i ∷ [])
    within = slice_get_within (inner ++ i ∷ []) n c e

    by : (b : Bool) → nat_lt n (length inner) ≡ b → AreSame (kinds ++ k ∷ []) (weights ++ w ∷ []) n c
    by true is =
        let h = ltb-true n (length inner) is in
        same-in kinds weights k w n c wide (omega (arith, h, long)) (held n c (sym (get-in inner (i ∷ []) n h) ∙ e))
    by false is =
        let last : n ≡ length inner = omega (arith, ltb-false n (length inner) is, within, length_push inner i) in
        let same : i ≡ c = some-same i c (sym (get-last inner i n last) ∙ e) in
        subst (λ x. AreSame (kinds ++ k ∷ []) (weights ++ w ∷ []) n x) same (inside-last inner kinds weights members long wide held n (last ∙ long))
      where
        some-same : (x y : ℕ) → Some x ≡ Some y → x ≡ y
        some-same x y h = cc h

inside-behind : (inner : List ℕ) (kinds : List (List Kind)) (weights : List ℕ) (structs : List Members) → length inner ≡ length kinds → length weights ≡ length kinds → AreInside inner kinds weights
    → AreInside (innermosts_behind inner structs) (each_behind types_kinds kinds structs) (each_behind types_weight weights structs)
inside-behind inner kinds weights [] long wide held = held
inside-behind inner kinds weights (d ∷ structs) long wide held =
    let i = innermost_in inner d.1 in
    let k = types_kinds kinds (member_types d.1) in
    let w = types_weight weights (member_types d.1) in
    inside-behind (inner ++ i ∷ []) (kinds ++ k ∷ []) (weights ++ w ∷ []) structs (length_push inner i ∙ (ap (λ l. l + 1) long ∙ sym (length_push kinds k)))
    (length_push weights w ∙ (ap (λ l. l + 1) wide ∙ sym (length_push kinds k))) (inside-push inner kinds weights d.1 long wide held)

-- ---- all structs

read-one : {A : Type 0} (has : List A → List Ty → A) (structs : List Members) (n : ℕ) → n < length structs → slice_get (each_behind has [] structs) n ≡ Some (one_at has structs n)
read-one has structs n h =
    ap (λ l. slice_get (each_behind has [] l) n) (sym (take_all (length structs) structs (omega arith))) ∙ each-at has structs n (length structs) h (omega arith)

inner-all : (structs : List Members) (n c : ℕ) → slice_get (innermosts structs) n ≡ Some c → AreSame (each_behind types_kinds [] structs) (each_behind types_weight [] structs) n c
inner-all structs n c e = inside-behind [] [] [] structs refl refl (λ m d h. absurd (cc h)) n c e

pub inner-within : (structs : List Members) (n c : ℕ) → Some c ≡ slice_get (innermosts structs) n → c < length structs
inner-within structs n c e = omega (arith, (inner-all structs n c (sym e)).0, length-each_behind types_kinds [] structs)

pub inner-kinds : (structs : List Members) (n c : ℕ) → n < length structs → Some c ≡ slice_get (innermosts structs) n → struct_kinds structs c ≡ struct_kinds structs n
inner-kinds structs n c h e =
    sym (ap (λ o. unwrap_or o []) (read-one types_kinds structs c (inner-within structs n c e))) ∙ ((inner-all structs n c (sym e)).1 ∙
    ap (λ o. unwrap_or o []) (read-one types_kinds structs n h))

pub inner-weight : (structs : List Members) (n c : ℕ) → n < length structs → Some c ≡ slice_get (innermosts structs) n → one_at types_weight structs c ≤ one_at types_weight structs n
inner-weight structs n c h e =
    le-same _ _ _ _ (sym (ap (λ o. unwrap_or o 0) (read-one types_weight structs c (inner-within structs n c e)))) (sym (ap (λ o. unwrap_or o 0) (read-one types_weight structs n h)))
    (inner-all structs n c (sym e)).2
