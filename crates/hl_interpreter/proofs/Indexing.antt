-- The indexes of places and the values of expressions, one after another.
use Rattle.std.proofs.Common.{◌≡◌, ◌∙◌, sym, ap, ℕ, ◌+◌, ◌⊎◌, inl, inr, List, [], ◌∷◌, ◌++◌, drop, Err}
use Rattle.hl_meaning.specs.declared.expression.Expr.{Expr}
use Rattle.hl_meaning.specs.declared.expression.Location.{Location}
use Rattle.hl_meaning.specs.declared.expression.PathPart.{PathPart}
use Rattle.hl_meaning.specs.declared.expression.PathPart.TheVariants as part_variants
use Rattle.hl_meaning.specs.declared.expression.Root.{Root}
use Rattle.hl_meaning.specs.declared.expression.Root.TheVariants as root_variants
use Rattle.hl_meaning.specs.Views.{plain_expr, plain_exprs, plain_location, plain_part, plain_parts, plain_root}
use Rattle.hl_meaning.proofs.Plain.{plain_location-is, plain_part-Member, plain_part-Swizzle, plain_root-Constant, plain_root-Shared, plain_root-Variable}
use Rattle.hl_source.specs.Expressions.{evaluates, indexes, root_index, step_index, step_indexes, values}
use Rattle.hl_source.specs.State.{Context, Progress, State, first_then, goes_with, joined}
use Rattle.hl_interpreter.specs.declared.run.Stop.{Stop}
use Rattle.hl_interpreter.specs.Runs.{Meets}
use Rattle.hl_interpreter.proofs.Meeting.{behind, behind-first, behind-first-stops, behind-joined, behind-joined-stops, same, stops}

-- ---- a place

module _ (c : Context) (l : Location) (s : State) where
  whole-is : indexes c (plain_location l) s ≡ joined (root_index c (plain_root l.root) s) (λ s'. step_indexes c (plain_parts l.parts) s')
  whole-is = ap (λ p. indexes c p s) (plain_location-is l)

  pub place-root-stops : {A B : Type 0} (view : A → List ℕ) (other : B → List ℕ) (e : Stop) (t : State) → Meets view (Err e) t (root_index c (plain_root l.root) s) → Meets other (Err e) t (indexes c (plain_location l) s)
  place-root-stops view other e t h =
      same other (Err e) t _ _ (sym whole-is)
      (stops view other e t (root_index c (plain_root l.root) s) (λ some u. behind some (step_indexes c (plain_parts l.parts) u)) h)

  pub place-root : (t : State) (w : List ℕ) → root_index c (plain_root l.root) s ≡ goes_with w t → indexes c (plain_location l) s ≡ behind w (step_indexes c (plain_parts l.parts) t)
  place-root t w h = whole-is ∙ ap (λ q. joined q (λ s'. step_indexes c (plain_parts l.parts) s')) h

module _ (c : Context) (parts : List PathPart) (i : ℕ) (part : PathPart) (acc : List ℕ) (s : State) (whole : Progress (List ℕ)) (next : drop i parts ≡ part ∷ drop (i + 1) parts)
    (is : whole ≡ behind acc (step_indexes c (plain_parts (drop i parts)) s)) where
  abbrev later : State → Progress (List ℕ)
  later s' = step_indexes c (plain_parts (drop (i + 1) parts)) s'

  parts-opened : whole ≡ behind acc (joined (step_index c (plain_part part) s) (λ s'. step_indexes c (plain_parts (drop (i + 1) parts)) s'))
  parts-opened = is ∙ ap (λ l. behind acc (step_indexes c (plain_parts l) s)) next

  pub steps-stop : {A B : Type 0} (view : A → List ℕ) (other : B → List ℕ) (e : Stop) (t : State) → Meets view (Err e) t (step_index c (plain_part part) s) → Meets other (Err e) t whole
  steps-stop view other e t h = same other (Err e) t _ _ (sym parts-opened) (behind-joined-stops view acc (step_index c (plain_part part) s) later other e t h)

  pub steps-next : (t : State) (w : List ℕ) → step_index c (plain_part part) s ≡ goes_with w t → whole ≡ behind (acc ++ w) (step_indexes c (plain_parts (drop (i + 1) parts)) t)
  steps-next t w h = parts-opened ∙ behind-joined acc w t (step_index c (plain_part part) s) later h

-- a step or a root without an index

pub no-step_index : (c : Context) (p : PathPart) (s : State) → ((x : ℕ) × (p ≡ part_variants.Member x)) ⊎ ((x : List ℕ) × (p ≡ part_variants.Swizzle x)) → step_index c (plain_part p) s ≡ goes_with [] s
no-step_index c p s (inl is) = ap (λ q. step_index c q s) (ap plain_part is.1 ∙ plain_part-Member is.0)
no-step_index c p s (inr is) = ap (λ q. step_index c q s) (ap plain_part is.1 ∙ plain_part-Swizzle is.0)

pub no-root_index : (c : Context) (r : Root) (s : State) → ((x : ℕ) × (r ≡ root_variants.Variable x)) ⊎ (((x : ℕ) × (r ≡ root_variants.Constant x)) ⊎ ((x : ℕ) × (r ≡ root_variants.Shared x)))
    → root_index c (plain_root r) s ≡ goes_with [] s
no-root_index c r s (inl is) = ap (λ q. root_index c q s) (ap plain_root is.1 ∙ plain_root-Variable is.0)
no-root_index c r s (inr (inl is)) = ap (λ q. root_index c q s) (ap plain_root is.1 ∙ plain_root-Constant is.0)
no-root_index c r s (inr (inr is)) = ap (λ q. root_index c q s) (ap plain_root is.1 ∙ plain_root-Shared is.0)

-- ---- values

module _ (c : Context) (exprs : List Expr) (i : ℕ) (expr : Expr) (acc : List (List ℕ)) (s : State) (whole : Progress (List (List ℕ))) (next : drop i exprs ≡ expr ∷ drop (i + 1) exprs)
    (is : whole ≡ behind acc (values c (plain_exprs (drop i exprs)) s)) where
  abbrev others : State → Progress (List (List ℕ))
  others s' = values c (plain_exprs (drop (i + 1) exprs)) s'

  values-opened : whole ≡ behind acc (first_then (evaluates c (plain_expr expr) s) (λ s'. values c (plain_exprs (drop (i + 1) exprs)) s'))
  values-opened = is ∙ ap (λ l. behind acc (values c (plain_exprs l) s)) next

  pub values-stop : {A B : Type 0} (view : A → List ℕ) (other : B → List (List ℕ)) (e : Stop) (t : State) → Meets view (Err e) t (evaluates c (plain_expr expr) s) → Meets other (Err e) t whole
  values-stop view other e t h = same other (Err e) t _ _ (sym values-opened) (behind-first-stops view acc (evaluates c (plain_expr expr) s) others other e t h)

  pub values-next : (t : State) (w : List ℕ) → evaluates c (plain_expr expr) s ≡ goes_with w t → whole ≡ behind (acc ++ w ∷ []) (values c (plain_exprs (drop (i + 1) exprs)) t)
  values-next t w h = values-opened ∙ behind-first acc w t (evaluates c (plain_expr expr) s) others h
