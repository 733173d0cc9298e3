-- The form of an interlocked operation.
use Rattle.std.proofs.Common.{◌≡◌, ◌∙◌, refl, sym, ap, subst, ℕ, List, [], ◌∷◌, map, Option, None, Some, Result, IfOk}
use Rattle.std.specs.Prelude.{option_and_then, option_map}
use Rattle.std.proofs.lemmas.Option.{same_Some}
use Rattle.lane_core.specs.declared.event.AtomicKind.{AtomicKind}
use Rattle.hl_meaning.specs.declared.expression.Expr.{Expr}
use Rattle.hl_meaning.specs.declared.expression.Form.TheVariants.{Atomic}
use Rattle.hl_meaning.specs.declared.expression.Location.{Location}
use Rattle.hl_meaning.specs.declared.expression.Target.{Target}
use Rattle.hl_meaning.specs.declared.expression.Target.TheVariants.{Place}
use Rattle.hl_meaning.specs.declared.ty.HlType.{HlType}
use Rattle.hl_meaning.specs.declared.ty.HlType.TheVariants.{Void}
use Rattle.hl_meaning.specs.Trees as plain
use Rattle.hl_meaning.specs.Trees.{an_expr, atomic_form, place_target, place_type}
use Rattle.hl_meaning.specs.Types.{Ty, void_type}
use Rattle.hl_meaning.specs.Views.{maybe_expr, maybe_location, plain_expr, plain_form, plain_location, plain_maybe_expr, plain_maybe_location, plain_target, plain_ty}
use Rattle.hl_meaning.proofs.Plain.{plain_form-Atomic, plain_target-Place, plain_ty-Void}
use Rattle.hl_rules.specs.declared.interlocked.Interlocked.{Interlocked}
use Rattle.hl_rules.specs.Expressions.{interlocked_code}
use Rattle.hl_rules.specs.Intrinsics.{Operands, operands_of}
use Rattle.hl_rules.specs.Nodes as rules
use Rattle.hl_rules.specs.Nodes.{a_value, a_value_code, converted_code, expr_if, interlocked, kind_for, location_if, perhaps, place_of_code}
use Rattle.hl_values.specs.declared.typed.Code.{Code}
use Rattle.hl_values.specs.Atomics.{Ready, atomic_of, converted_operands, with_original}
use Rattle.hl_values.specs.Few.{first_and_rest}
use Rattle.hl_values.specs.Views.{plain_code, plain_code_if}
use Rattle.hl_values.proofs.NodeLemmas.{place_type-is}

expr-if : (e : Option plain.Expr) → maybe_expr e ≡ expr_if e
expr-if None = refl
expr-if (Some e) = refl

location-if : (place : Option plain.Location) → maybe_location place ≡ location_if place
location-if None = refl
location-if (Some place) = refl

pub atomic_form-is : (target : Target) (kind : Option AtomicKind) (compare : Option Expr) (value : Expr) (held : Option Location) (original : Option plain.Location) →
    option_map plain_location held ≡ original →
    plain_form (Atomic target kind compare value held) ≡ atomic_form (plain_target target) kind (expr_if (option_map plain_expr compare)) (plain_expr value) (location_if original)
atomic_form-is target kind compare value held original same =
    plain_form-Atomic target kind compare value held ∙
    (ap (λ e. atomic_form (plain_target target) kind e (plain_expr value) (plain_maybe_location held)) (expr-if (option_map plain_expr compare)) ∙
    ap (λ l. atomic_form (plain_target target) kind (expr_if (option_map plain_expr compare)) (plain_expr value) l) (ap maybe_location same ∙ location-if original))

-- what is so of what a call made, is so along an equation
pub ok_along : {E : Type 0} (r : Result (Option Code) E) (a b : Option rules.Code) → IfOk r (λ made. plain_code_if made ≡ a) → a ≡ b → IfOk r (λ made. plain_code_if made ≡ b)
ok_along r a b is same = subst (λ x. IfOk r (λ made. plain_code_if made ≡ x)) same is

-- an operation whose operands are converted
by_parts : (at : ℕ) (target : plain.Target) (kind : Option AtomicKind) (c : Option (Option plain.Expr)) (v : Option plain.Expr) (p : Option (Option plain.Location)) →
    option_and_then (λ compare. option_and_then (λ value. option_and_then (λ original. a_value void_type at (atomic_form target kind (expr_if compare) value (location_if original))) p) v) c ≡
    option_map (λ o. a_value_code (an_expr void_type at (atomic_of target kind o))) (option_and_then (λ values. with_original values p) (option_and_then (λ compare. option_map (λ value. (compare, value)) v) c))
by_parts at target kind None v p = refl
by_parts at target kind (Some c) None p = refl
by_parts at target kind (Some c) (Some v) None = refl
by_parts at target kind (Some c) (Some v) (Some p) = refl

interlocked-is : (at : ℕ) (target : plain.Target) (ty : Ty) (form : Interlocked) (o : Operands rules.Code) → interlocked at target ty form o ≡ option_map (λ ready. a_value_code (an_expr void_type at (atomic_of target (kind_for form ty) ready))) (converted_operands ty o)
interlocked-is at target ty form o = by_parts at target (kind_for form ty) (perhaps (converted_code ty) o.compare) (converted_code ty o.value) (perhaps place_of_code o.original)

pub interlocked-some : (at : ℕ) (target : plain.Target) (ty : Ty) (form : Interlocked) (o : Operands rules.Code) (ready : Ready) (kind : Option AtomicKind) (written : plain.Form) (made : rules.Code) →
    Some ready ≡ converted_operands ty o → made ≡ a_value_code (an_expr (plain_ty Void) at written) → written ≡ atomic_of target kind ready → kind ≡ kind_for form ty →
    Some made ≡ interlocked at target ty form o
interlocked-some at target ty form o ready kind written made is made_is written_is kind_is =
    ap Some (made_is ∙ (ap (λ t. a_value_code (an_expr t at written)) plain_ty-Void ∙ ap (λ f. a_value_code (an_expr void_type at f)) (written_is ∙ ap (λ k. atomic_of target k ready) kind_is))) ∙
    (ap (option_map (λ r. a_value_code (an_expr void_type at (atomic_of target (kind_for form ty) r)))) is ∙ sym (interlocked-is at target ty form o))

pub interlocked-none : (at : ℕ) (target : plain.Target) (ty : Ty) (form : Interlocked) (o : Operands rules.Code) → None ≡ converted_operands ty o → None ≡ interlocked at target ty form o
interlocked-none at target ty form o is =
    ap (option_map (λ r. a_value_code (an_expr void_type at (atomic_of target (kind_for form ty) r)))) is ∙ sym (interlocked-is at target ty form o)

-- an operation on a place
pub place-behind : (at : ℕ) (form : Interlocked) (o : Operands rules.Code) (held : Location) (ty : HlType) (place : Option plain.Location) → Some (plain_location held) ≡ place → plain_ty ty ≡ plain_ty held.ty →
    interlocked at (plain_target (Place held)) (plain_ty ty) form o ≡ option_and_then (λ p. interlocked at (place_target p) (place_type p) form o) place
place-behind at form o held ty place is same =
    ap (λ t. interlocked at t (plain_ty ty) form o) (plain_target-Place held) ∙
    (ap (λ t. interlocked at (place_target (plain_location held)) t form o) (same ∙ sym (place_type-is held)) ∙
    ap (λ x. option_and_then (λ p. interlocked at (place_target p) (place_type p) form o) x) is)

pub first_and_rest-is : {A : Type 0} (xs rest : List A) (x : A) → Some (x, rest) ≡ first_and_rest xs → x ∷ rest ≡ xs
first_and_rest-is [] rest x e = absurd (cc e)
first_and_rest-is (y ∷ ys) rest x e = let p = same_Some (x, rest) (y, ys) e in λ i. (p i).0 ∷ (p i).1

-- an operation on the first of what stands behind
pub code-behind : (at : ℕ) (form : Interlocked) (items rest : List Code) (target : Code) (o : Operands rules.Code) → Some (target, rest) ≡ first_and_rest items → Some o ≡ operands_of form (map plain_code rest) →
    option_and_then (λ place. interlocked at (place_target place) (place_type place) form o) (place_of_code (plain_code target)) ≡ interlocked_code at form (map plain_code items)
code-behind at form items rest target o split is =
    ap (λ x. option_and_then (λ own. option_and_then (λ place. interlocked at (place_target place) (place_type place) form own) (place_of_code (plain_code target))) x) is ∙
    ap (λ l. interlocked_code at form (map plain_code l)) (first_and_rest-is items rest target split)
