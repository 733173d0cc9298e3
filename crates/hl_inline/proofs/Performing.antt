-- Statements of a program without calls, one after another, and what they leave behind.
use Rattle.std.proofs.Common.{◌≡◌, ◌∙◌, refl, sym, ap, subst, ℕ, ◌⊎◌, inl, inr, List, [], ◌∷◌, ◌++◌}
use Rattle.lane_core.specs.Lane.{Lane, Run}
use Rattle.hl_source.specs.State.{Progress, State, after, ends_at, goes_with}
use Rattle.hl_inline.specs.FlatTrees.{Flat, FlatStmt}
use Rattle.hl_inline.specs.FlatViews.{flat_stmts_of}
use Rattle.hl_inline.specs.FlatLane.{FlatLeaving, flat_end, flat_to, performs, performs_all, then_flat}
use Rattle.hl_inline.proofs.Relation.{Alike}
use Rattle.typed_laws.specs.Fitting.{Yields}

abbrev pub perform : Flat → Lane → (n : ℕ) → List FlatStmt → State → Progress FlatLeaving
perform f lane n code s = performs_all f lane n (flat_stmts_of code) s

-- what follows two parts, one after the other
then_then : (p : Progress FlatLeaving) (g h : State → Progress FlatLeaving) → after (after p (then_flat g)) (then_flat h) ≡ after p (then_flat (λ s. after (g s) (then_flat h)))
then_then (goes_with flat_end s) g h = refl
then_then (goes_with (flat_to name) s) g h = refl
then_then (ends_at run) g h = refl

then_cong : (p : Progress FlatLeaving) (g h : State → Progress FlatLeaving) → ((s : State) → g s ≡ h s) → after p (then_flat g) ≡ after p (then_flat h)
then_cong (goes_with flat_end s) g h e = e s
then_cong (goes_with (flat_to name) s) g h e = refl
then_cong (ends_at run) g h e = refl

then_end : (p : Progress FlatLeaving) → after p (then_flat (λ s. goes_with flat_end s)) ≡ p
then_end (goes_with flat_end s) = refl
then_end (goes_with (flat_to name) s) = refl
then_end (ends_at run) = refl

module _ (f : Flat) (lane : Lane) (n : ℕ) where
  pub perform_append : (xs ys : List FlatStmt) (s : State) → perform f lane n (xs ++ ys) s ≡ after (perform f lane n xs s) (then_flat (perform f lane n ys))
  perform_append [] ys s = refl
  perform_append (x ∷ xs) ys s =
      then_cong (performs f lane n x s) _ _ (λ s1. perform_append xs ys s1) ∙ sym (then_then (performs f lane n x s) (perform f lane n xs) (perform f lane n ys))

  pub perform_one : (x : FlatStmt) (s : State) → perform f lane n (x ∷ []) s ≡ performs f lane n x s
  perform_one x s = then_end (performs f lane n x s)

  -- code that comes to its end, and then more
  pub perform_next : (xs ys : List FlatStmt) (s t : State) → perform f lane n xs s ≡ goes_with flat_end t → perform f lane n (xs ++ ys) s ≡ perform f lane n ys t
  perform_next xs ys s t e = perform_append xs ys s ∙ ap (λ p. after p (then_flat (perform f lane n ys))) e

  -- code in which the run ends
  pub perform_ends : (xs ys : List FlatStmt) (s : State) (run : Run) → perform f lane n xs s ≡ ends_at run → perform f lane n (xs ++ ys) s ≡ ends_at run
  perform_ends xs ys s run e = perform_append xs ys s ∙ ap (λ p. after p (then_flat (perform f lane n ys))) e

-- A part of a program, and code that does the same: both end alike, or the code comes to its end in a state that is
-- related by what the part gives.
abbrev pub Runs : {A : Type 0} → (A → State → State → Type 0) → Progress A → Progress FlatLeaving → Type 0
Runs R (goes_with a s) q = (t : State) × (q ≡ goes_with flat_end t) × R a s t
Runs R (ends_at run) q = q ≡ ends_at run

-- A part of a program, and code with an evaluation behind it that together do the same. M holds between both.
abbrev pub Opens : {A : Type 0} → (M : State → Type 0) → (R : State → State → Type 0) → Progress A → Progress FlatLeaving → (State → Progress A) → Type 0
Opens M R (goes_with a s) q k = (t : State) × (q ≡ goes_with flat_end t) × M t × ((u : State) × (k t ≡ goes_with a u) × R s u)
Opens M R (ends_at run) q k = (q ≡ ends_at run) ⊎ ((t : State) × (q ≡ goes_with flat_end t) × M t × (k t ≡ ends_at run))

-- a part, and then what is done with what it gives
pub opens_then : {A B : Type 0} (M : State → Type 0) (R S : State → State → Type 0) (p : Progress A) (q : Progress FlatLeaving) (k : State → Progress A)
    (g h : A → State → Progress B) → Opens M R p q k → ((a : A) (s t : State) → R s t → Alike S (g a s) (h a t)) → Opens M S (after p g) q (λ s. after (k s) h)
opens_then M R S (goes_with a s) q k g h (t, e, m, (u, is, r)) alike = by_next (g a s) (alike a s u r)
  where
    by_next : (p : Progress _) → Alike S p (h a u) → Opens M S p q (λ s. after (k s) h)
    by_next (goes_with b s1) (v, next, r1) = (t, e, m, (v, ap (λ x. after x h) is ∙ next, r1))
    by_next (ends_at run) next = inr (t, e, m, ap (λ x. after x h) is ∙ next)
opens_then M R S (ends_at run) q k g h (inl e) alike = inl e
opens_then M R S (ends_at run) q k g h (inr (t, e, m, is)) alike = inr (t, e, m, ap (λ x. after x h) is)

pub opens_same : {A : Type 0} (M : State → Type 0) (R : State → State → Type 0) (p : Progress A) (q : Progress FlatLeaving) (k l : State → Progress A) → ((s : State) → l s ≡ k s) → Opens M R p q k → Opens M R p q l
opens_same M R (goes_with a s) q k l h (t, e, m, (u, is, r)) = (t, e, m, (u, h t ∙ is, r))
opens_same M R (ends_at run) q k l h (inl e) = inl e
opens_same M R (ends_at run) q k l h (inr (t, e, m, is)) = inr (t, e, m, h t ∙ is)

-- where nothing is left to do behind the code, and its evaluation gives the same wherever it stands
pub alike_map : {A : Type 0} (R S : State → State → Type 0) → ((s t : State) → R s t → S s t) → (p q : Progress A) → Alike R p q → Alike S p q
alike_map R S h (goes_with a s) q (t, e, r) = (t, e, h s t r)
alike_map R S h (ends_at run) q e = e

-- what else is known of what is given
pub runs_with : {A : Type 0} (R : A → State → State → Type 0) (P : A → Type 0) (p : Progress A) (q : Progress FlatLeaving) → Runs R p q → Yields P p → Runs (λ a s t. R a s t × P a) p q
runs_with R P (goes_with a s) q (t, e, r) y = (t, e, (r, y))
runs_with R P (ends_at run) q e y = e

pub runs_map : {A : Type 0} (R S : A → State → State → Type 0) → ((a : A) (s t : State) → R a s t → S a s t) → (p : Progress A) (q : Progress FlatLeaving) → Runs R p q → Runs S p q
runs_map R S h (goes_with a s) q (t, e, r) = (t, e, h a s t r)
runs_map R S h (ends_at run) q e = e

-- a part and code, and then a part and code
pub runs_then : {A B : Type 0} (f : Flat) (lane : Lane) (n : ℕ) (R : A → State → State → Type 0) (S : B → State → State → Type 0) (xs ys : List FlatStmt) (t : State) (p : Progress A) (g : A → State → Progress B) →
    Runs R p (perform f lane n xs t) → ((a : A) (s u : State) → R a s u → Runs S (g a s) (perform f lane n ys u)) → Runs S (after p g) (perform f lane n (xs ++ ys) t)
runs_then f lane n R S xs ys t (goes_with a s) g (u, e, r) next =
    subst (λ q. Runs S (g a s) q) (sym (perform_next f lane n xs ys t u e)) (next a s u r)
runs_then f lane n R S xs ys t (ends_at run) g e next = perform_ends f lane n xs ys t run e
