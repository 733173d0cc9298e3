-- The search for a wrong body: what is known of the functions that it has passed.
use Rattle.std.proofs.Common.{◌≡◌, ℕ, ◌+◌, ◌<◌, ◌≤◌, List, length, get_or, arith, refl, sym, ◌∙◌, subst, Some, Bool, true, false, below_more, inl, inr}
use Rattle.std.specs.Prelude.{slice_get, ◌⊎◌}
use Rattle.std.proofs.lemmas.Option.{slice_get_within, slice_get_read, get_or_from_slice_get}
use Rattle.ir_core.specs.declared.module.Function.{Function}
use Rattle.ir_core.specs.declared.module.Ty.{Ty}
use Rattle.ir_core.specs.ValidatorRules.{IsPlain}
use Rattle.dx_validate.specs.Bodies.{IsWrongAt}
use Rattle.ir_core.specs.ValidatorRules.{HasBody, HasBodyAt}

-- whether a body was seen among the first i functions
abbrev pub Seen : List Function → ℕ → Bool → Type 0
Seen functions i true = (place : ℕ) × (place < i) × HasBodyAt functions place
Seen functions i false = (place : ℕ) → place < i → HasBodyAt functions place → ⊥

pub record Passed (types : List Ty) (functions : List Function) (i : ℕ) (found : Bool) : Type 0 where
  pub right : (place : ℕ) → place < i → IsWrongAt types functions place → ⊥
  pub seen : Seen functions i found

-- a function at a place, by either way of reading it
same_function : (functions : List Function) (i : ℕ) (x y : Function) → x ≡ get_or functions i x → slice_get functions i ≡ Some y → x ≡ y
same_function functions i x y e at = e ∙ get_or_from_slice_get functions i y x at

pub bodiless-at : (functions : List Function) (i : ℕ) (x : Function) → x ≡ get_or functions i x → (HasBody x → ⊥) → HasBodyAt functions i → ⊥
bodiless-at functions i x e none (y, at, body) = none (subst HasBody (sym (same_function functions i x y e at)) body)

-- a function without a body is passed
pub Passed-bodiless : (types : List Ty) (functions : List Function) (i : ℕ) (found : Bool) (x : Function) → Passed types functions i found →
    x ≡ get_or functions i x → (HasBody x → ⊥) → Passed types functions (i + 1) found
Passed-bodiless types functions i found x p e none = record {
  right = below_more (λ (k : ℕ). IsWrongAt types functions k → ⊥) i p.right (λ w. bodiless-at functions i x e none (w.0, w.1, w.2));
  seen = seen_more found p.seen;
} where
  seen_more : (found : Bool) → Seen functions i found → Seen functions (i + 1) found
  seen_more true s = (s.0, omega (arith, s.1), s.2)
  seen_more false s = below_more (λ (k : ℕ). HasBodyAt functions k → ⊥) i s (bodiless-at functions i x e none)

-- the first body is passed where it is plain
pub Passed-first : (types : List Ty) (functions : List Function) (i : ℕ) (x : Function) → Passed types functions i false → i < length functions →
    x ≡ get_or functions i x → HasBody x → IsPlain types x.ty → Passed types functions (i + 1) true
Passed-first types functions i x p lt e body plain = record {
  right = below_more (λ (k : ℕ). IsWrongAt types functions k → ⊥) i p.right right_here;
  seen = (i, omega arith, (x, slice_get_read functions (length functions) i x refl lt e, body));
} where
  split : (y : Function) → x ≡ y → ((earlier : ℕ) × (earlier < i) × HasBodyAt functions earlier) ⊎ (¬ IsPlain types y.ty) → ⊥
  split y s (inl w) = p.seen w.0 w.1 w.2
  split y s (inr odd) = odd (subst (λ (f : Function). IsPlain types f.ty) s plain)

  right_here : IsWrongAt types functions i → ⊥
  right_here (y, at, has, why) = split y (same_function functions i x y e at) why

inside : (functions : List Function) (k : ℕ) → HasBodyAt functions k → k < length functions
inside functions k (y, at, has) = slice_get_within functions k y at

pub Passed-all : (types : List Ty) (functions : List Function) (i : ℕ) (found : Bool) → Passed types functions i found → length functions ≤ i →
    (place : ℕ) → IsWrongAt types functions place → ⊥
Passed-all types functions i found p long place (y, at, has, why) =
    let lt : place < length functions = slice_get_within functions place y at in p.right place (omega arith) (y, at, has, why)

pub seen_one : (types : List Ty) (functions : List Function) (i : ℕ) → Passed types functions i true → (place : ℕ) × HasBodyAt functions place
seen_one types functions i p = (p.seen.0, p.seen.2)

pub seen_none : (types : List Ty) (functions : List Function) (i : ℕ) → Passed types functions i false → length functions ≤ i →
    (place : ℕ) → HasBodyAt functions place → ⊥
seen_none types functions i p long place here =
    let lt : place < length functions = inside functions place here in p.seen place (omega arith) here
