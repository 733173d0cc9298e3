-- Scalars, vectors and the types that operators give to them.
use Rattle.std.proofs.Common.{◌≡◌, ◌∙◌, refl, sym, ap, subst, ℕ, Bool, true, false, if◌then◌else◌, nat_le, not, ◌&&◌, ◌||◌, ◌==◌, List, [], ◌∷◌, map, drop, length, get_or, ◌<◌, ◌+◌, Option, None, Some, eq-eqb}
use Rattle.std.proofs.lemmas.Bool.{ne_eqb}
use Rattle.std.specs.Prelude.{option_map, option_and_then}
use Rattle.std.proofs.lemmas.List.{at_drop_more}
use Rattle.hl_meaning.specs.declared.ty.Kind.{Kind}
use Rattle.hl_meaning.specs.declared.ty.Kind.TheVariants.{Bool as BoolKind}
use Rattle.hl_meaning.specs.declared.ty.HlType.{HlType}
use Rattle.hl_meaning.specs.declared.ty.HlType.TheVariants.{Void, Scalar, Vector}
use Rattle.hl_meaning.specs.Types.{Ty, array_type, components_type, is_basic, is_void, scalar_type, struct_type, vector_type, void_type, with_kind}
use Rattle.hl_meaning.specs.Views.{plain_ty}
use Rattle.hl_meaning.proofs.Plain.{plain_ty-Array, plain_ty-Scalar, plain_ty-Struct, plain_ty-Vector, plain_ty-Void}
use Rattle.hl_meaning.proofs.TypeLemmas.{type_cases}
use Rattle.hl_rules.specs.Operands.{branch_kind, choice_type, common_behind, common_type, kind_of, negated_type, operand_type, operator_type, signed_type, sized}
use Rattle.hl_rules.specs.Values.{is_no_operand, operand_of, valued}

-- ---- what is held

-- what is neither a scalar nor a vector is one of three forms
pub other_than_basic : {A : Type 0} (f : Ty → A) (x : A) → f void_type ≡ x → ((e : Ty) (n : ℕ) → f (array_type e n) ≡ x) → ((n : ℕ) → f (struct_type n) ≡ x) → (o : HlType) → ((k : Kind) → o ≡ Scalar k → ⊥) → ((k : Kind) (n : ℕ) → o ≡ Vector k n → ⊥) → f (plain_ty o) ≡ x
other_than_basic f x void array struct = type_cases (λ o. ((k : Kind) → o ≡ Scalar k → ⊥) → ((k : Kind) (n : ℕ) → o ≡ Vector k n → ⊥) → f (plain_ty o) ≡ x)
    (λ not_scalar not_vector. ap f plain_ty-Void ∙ void)
    (λ k not_scalar not_vector. absurd (not_scalar k refl))
    (λ k n not_scalar not_vector. absurd (not_vector k n refl))
    (λ e n not_scalar not_vector. ap f (plain_ty-Array e n) ∙ array (plain_ty e) n)
    (λ n not_scalar not_vector. ap f (plain_ty-Struct n) ∙ struct n)

-- what is no scalar is one of four
pub other_than_scalar : {A : Type 0} (f : Ty → A) (x : A) → f void_type ≡ x → ((k : Kind) (n : ℕ) → f (vector_type k n) ≡ x) → ((e : Ty) (n : ℕ) → f (array_type e n) ≡ x) → ((n : ℕ) → f (struct_type n) ≡ x) → (o : HlType) → ((k : Kind) → o ≡ Scalar k → ⊥) → f (plain_ty o) ≡ x
other_than_scalar f x void vector array struct = type_cases (λ o. ((k : Kind) → o ≡ Scalar k → ⊥) → f (plain_ty o) ≡ x)
    (λ not_scalar. ap f plain_ty-Void ∙ void)
    (λ k not_scalar. absurd (not_scalar k refl))
    (λ k n not_scalar. ap f (plain_ty-Vector k n) ∙ vector k n)
    (λ e n not_scalar. ap f (plain_ty-Array e n) ∙ array (plain_ty e) n)
    (λ n not_scalar. ap f (plain_ty-Struct n) ∙ struct n)

-- and so is what isn't `Void`
pub other_than_void : (P : Ty → Type 0) → ((k : Kind) → P (scalar_type k)) → ((k : Kind) (n : ℕ) → P (vector_type k n)) → ((e : Ty) (n : ℕ) → P (array_type e n)) → ((n : ℕ) → P (struct_type n)) → (o : HlType) → (o ≡ Void → ⊥) → P (plain_ty o)
other_than_void P scalar vector array struct = type_cases (λ o. (o ≡ Void → ⊥) → P (plain_ty o))
    (λ not_void. absurd (not_void refl))
    (λ k not_void. subst P (sym (plain_ty-Scalar k)) (scalar k))
    (λ k n not_void. subst P (sym (plain_ty-Vector k n)) (vector k n))
    (λ e n not_void. subst P (sym (plain_ty-Array e n)) (array (plain_ty e) n))
    (λ n not_void. subst P (sym (plain_ty-Struct n)) (struct n))

pub components-one : (kind : Kind) (n : ℕ) → n ≡ 1 → components_type kind n ≡ scalar_type kind
components-one kind n e = ap (λ b. if b then scalar_type kind else vector_type kind n) (eq-eqb n 1 e)

pub components-more : (kind : Kind) (n : ℕ) → (n ≡ 1 → ⊥) → components_type kind n ≡ vector_type kind n
components-more kind n e = ap (λ b. if b then scalar_type kind else vector_type kind n) (ne_eqb n 1 e)

pub with_kind-other : (kind : Kind) (o : HlType) → ((k : Kind) → o ≡ Scalar k → ⊥) → ((k : Kind) (n : ℕ) → o ≡ Vector k n → ⊥) → with_kind kind (plain_ty o) ≡ plain_ty o
with_kind-other kind = type_cases (λ o. ((k : Kind) → o ≡ Scalar k → ⊥) → ((k : Kind) (n : ℕ) → o ≡ Vector k n → ⊥) → with_kind kind (plain_ty o) ≡ plain_ty o)
    (λ not_scalar not_vector. ap (with_kind kind) plain_ty-Void ∙ sym plain_ty-Void)
    (λ k not_scalar not_vector. absurd (not_scalar k refl))
    (λ k n not_scalar not_vector. absurd (not_vector k n refl))
    (λ e n not_scalar not_vector. ap (with_kind kind) (plain_ty-Array e n) ∙ sym (plain_ty-Array e n))
    (λ n not_scalar not_vector. ap (with_kind kind) (plain_ty-Struct n) ∙ sym (plain_ty-Struct n))

-- ---- operands

-- an operand is the scalar or the vector itself
pub operand-is : (a x : Ty) → Some x ≡ operand_of (Some a) → x ≡ a
operand-is (scalar_type k) x e = cc e
operand-is (vector_type k n) x e = cc e
operand-is void_type x e = absurd (cc e)
operand-is (array_type t n) x e = absurd (cc e)
operand-is (struct_type n) x e = absurd (cc e)

pub sized-none_left : (kind : Kind) (a b : Ty) → None ≡ operand_of (Some a) → sized kind a b ≡ None
sized-none_left kind (scalar_type k) b e = absurd (cc e)
sized-none_left kind (vector_type k n) b e = absurd (cc e)
sized-none_left kind void_type b e = refl
sized-none_left kind (array_type t n) b e = refl
sized-none_left kind (struct_type n) b e = refl

pub sized-none_right : (kind : Kind) (a b : Ty) → None ≡ operand_of (Some b) → sized kind a b ≡ None
sized-none_right kind (scalar_type k) (scalar_type l) e = absurd (cc e)
sized-none_right kind (scalar_type k) (vector_type l n) e = absurd (cc e)
sized-none_right kind (scalar_type k) void_type e = refl
sized-none_right kind (scalar_type k) (array_type t n) e = refl
sized-none_right kind (scalar_type k) (struct_type n) e = refl
sized-none_right kind (vector_type k m) (scalar_type l) e = absurd (cc e)
sized-none_right kind (vector_type k m) (vector_type l n) e = absurd (cc e)
sized-none_right kind (vector_type k m) void_type e = refl
sized-none_right kind (vector_type k m) (array_type t n) e = refl
sized-none_right kind (vector_type k m) (struct_type n) e = refl
sized-none_right kind void_type b e = refl
sized-none_right kind (array_type t m) b e = refl
sized-none_right kind (struct_type m) b e = refl

-- both sides of an `if` are the same
pub if-same : {A : Type 0} (b : Bool) (x y z : A) → x ≡ z → y ≡ z → (if b then x else y) ≡ z
if-same true x y z e h = e
if-same false x y z e h = h

pub operand-none_left : (p : ℕ) (a b : Ty) → None ≡ operand_of (Some a) → operand_type p a b ≡ None
operand-none_left p a b e =
    if-same (nat_le p 31) _ _ None (sized-none_left _ a b e) (if-same (p == 37) _ _ None (sized-none_left _ a b e) (sized-none_left _ a b e))

pub operand-none_right : (p : ℕ) (a b : Ty) → None ≡ operand_of (Some b) → operand_type p a b ≡ None
operand-none_right p a b e =
    if-same (nat_le p 31) _ _ None (sized-none_right _ a b e) (if-same (p == 37) _ _ None (sized-none_right _ a b e) (sized-none_right _ a b e))

pub operator-none_left : (p : ℕ) (a b : Ty) → None ≡ operand_of (Some a) → operator_type p a b ≡ None
operator-none_left p a b e = ap (λ o. option_map (λ ty. if p == 35 || p == 36 then with_kind BoolKind ty else ty) o) (operand-none_left p a b e)

pub operator-none_right : (p : ℕ) (a b : Ty) → None ≡ operand_of (Some b) → operator_type p a b ≡ None
operator-none_right p a b e = ap (λ o. option_map (λ ty. if p == 35 || p == 36 then with_kind BoolKind ty else ty) o) (operand-none_right p a b e)

-- what two operands give
pub of_operands : (f : Ty → Ty → Option Ty) (a b x y r t : Ty) → Some x ≡ operand_of (Some a) → Some y ≡ operand_of (Some b) → Some r ≡ f x y → t ≡ r → Some t ≡ f a b
of_operands f a b x y r t e h k l = ap Some l ∙ (k ∙ (ap (λ u. f u y) (operand-is a x e) ∙ ap (f a) (operand-is b y h)))

-- ---- choices

pub choice-none_condition : (c y n : Ty) → None ≡ operand_of (Some c) → choice_type c y n ≡ None
choice-none_condition c y n e = given (sized BoolKind y n)
  where
    given : (o : Option Ty) → option_and_then (λ branches. sized (branch_kind (kind_of y) (kind_of n)) c branches) o ≡ None
    given None = refl
    given (Some branches) = sized-none_left _ c branches e

pub choice-none_yes : (c y n : Ty) → None ≡ operand_of (Some y) → choice_type c y n ≡ None
choice-none_yes c y n e = ap (option_and_then (λ branches. sized (branch_kind (kind_of y) (kind_of n)) c branches)) (sized-none_left BoolKind y n e)

pub choice-none_no : (c y n : Ty) → None ≡ operand_of (Some n) → choice_type c y n ≡ None
choice-none_no c y n e = ap (option_and_then (λ branches. sized (branch_kind (kind_of y) (kind_of n)) c branches)) (sized-none_right BoolKind y n e)

pub of_three_operands : (c y n p q s r t : Ty) → Some p ≡ operand_of (Some c) → Some q ≡ operand_of (Some y) → Some s ≡ operand_of (Some n) → Some r ≡ choice_type p q s → t ≡ r → Some t ≡ choice_type c y n
of_three_operands c y n p q s r t e h k l m =
    ap Some m ∙ (l ∙ (ap (λ u. choice_type u q s) (operand-is c p e) ∙ (ap (λ u. choice_type c u s) (operand-is y q h) ∙ ap (choice_type c y) (operand-is n s k))))

-- ---- one operand

pub signed-none : (a : Ty) → None ≡ operand_of (Some a) → signed_type a ≡ None
signed-none (scalar_type k) e = absurd (cc e)
signed-none (vector_type k n) e = absurd (cc e)
signed-none void_type e = refl
signed-none (array_type t n) e = refl
signed-none (struct_type n) e = refl

pub negated-none : (a : Ty) → None ≡ operand_of (Some a) → negated_type a ≡ None
negated-none (scalar_type k) e = absurd (cc e)
negated-none (vector_type k n) e = absurd (cc e)
negated-none void_type e = refl
negated-none (array_type t n) e = refl
negated-none (struct_type n) e = refl

-- ---- values

pub valued-void : (t : Ty) → is_void t ≡ true → valued (Some t) ≡ None
valued-void void_type e = refl
valued-void (scalar_type k) e = absurd (cc e)
valued-void (vector_type k n) e = absurd (cc e)
valued-void (array_type t n) e = absurd (cc e)
valued-void (struct_type n) e = absurd (cc e)

pub valued-other : (t : Ty) → is_void t ≡ false → valued (Some t) ≡ Some t
valued-other void_type e = absurd (cc e)
valued-other (scalar_type k) e = refl
valued-other (vector_type k n) e = refl
valued-other (array_type t n) e = refl
valued-other (struct_type n) e = refl

pub no_operand-is : (t : Ty) → is_no_operand (Some t) ≡ (not (is_basic t) && not (is_void t))
no_operand-is void_type = refl
no_operand-is (scalar_type k) = refl
no_operand-is (vector_type k n) = refl
no_operand-is (array_type t n) = refl
no_operand-is (struct_type n) = refl

-- ---- several operands

pub common-turn : (types : List HlType) (i : ℕ) (ty : HlType) (before : Option Ty) → i < length types → ty ≡ get_or types i ty → common_behind before (map plain_ty (drop i types)) ≡ common_behind (option_and_then (λ x. common_type x (plain_ty ty)) before) (map plain_ty (drop (i + 1) types))
common-turn types i ty before h e =
    at_drop_more (λ l. common_behind before (map plain_ty l)) types i ty h ∙
    ap (λ t. common_behind (option_and_then (λ x. common_type x (plain_ty t)) before) (map plain_ty (drop (i + 1) types))) (sym e)
