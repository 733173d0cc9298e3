-- How a part of a run and what follows it meet what calls give.
use Rattle.std.proofs.Common.{◌≡◌, ◌∙◌, refl, sym, ap, subst, ℕ, List, [], ◌∷◌, ◌++◌, append_assoc, append-nil, Result, Ok, Err}
use Rattle.hl_source.specs.State.{Progress, State, after, alone, ends_at, first_then, goes_with, joined, no_value}
use Rattle.hl_interpreter.specs.declared.run.Stop.{Stop}
use Rattle.hl_interpreter.specs.declared.run.Stop.TheVariants.{Ends, Memory}
use Rattle.hl_interpreter.specs.Runs.{Meets}

-- ---- one part behind another

-- a call that stops in a part stops in the part with what follows it
pub stops : {A B C D : Type 0} (view : A → C) (other : B → D) (e : Stop) (s : State) (p : Progress C) (next : C → State → Progress D) → Meets view (Err e) s p → Meets other (Err e) s (after p next)
stops view other Memory s p next h = tt
stops view other (Ends outcome) s p next h = ap (λ q. after q next) h

-- a part that goes on is followed by the next one
pub goes : {B C D : Type 0} (other : B → D) (a : C) (r : Result B Stop) (s t : State) (p : Progress C) (next : C → State → Progress D) → p ≡ goes_with a s → Meets other r t (next a s) → Meets other r t (after p next)
goes other a r s t p next h k = subst (λ q. Meets other r t (after q next)) (sym h) k

-- a part may be put for another one that is the same
pub same : {B D : Type 0} (other : B → D) (r : Result B Stop) (s : State) (p q : Progress D) → p ≡ q → Meets other r s p → Meets other r s q
same other r s p q e h = subst (λ x. Meets other r s x) e h

-- what a call gives, seen otherwise
pub seen : {A C D : Type 0} (view : A → C) (other : A → D) (r : Result A Stop) (s : State) (p : Progress C) (change : C → D) → ((a : A) → change (view a) ≡ other a)
    → Meets view r s p → Meets other r s (after p (λ c t. goes_with (change c) t))
seen view other (Ok a) s p change is h = ap (λ q. after q (λ c t. goes_with (change c) t)) h ∙ ap (λ d. goes_with d s) (is a)
seen view other (Err Memory) s p change is h = tt
seen view other (Err (Ends outcome)) s p change is h = ap (λ q. after q (λ c t. goes_with (change c) t)) h

-- parts one behind the other, grouped otherwise
pub after-after : {A B C : Type 0} (p : Progress A) (f : A → State → Progress B) (g : B → State → Progress C) → after (after p f) g ≡ after p (λ a s. after (f a s) g)
after-after (goes_with a s) f g = refl
after-after (ends_at run) f g = refl

-- ---- operands

module _ {B D : Type 0} (other : B → D) (p : Progress (List ℕ)) (next : List (List ℕ) → State → Progress D) where
  pub one-goes : (w : List ℕ) (s : State) (r : Result B Stop) (t : State) → p ≡ goes_with w s → Meets other r t (next (w ∷ []) s) → Meets other r t (after (alone p) next)
  one-goes w s r t h k = subst (λ q. Meets other r t (after (alone q) next)) (sym h) k

  pub one-stops : {A : Type 0} (view : A → List ℕ) (e : Stop) (s : State) → Meets view (Err e) s p → Meets other (Err e) s (after (alone p) next)
  one-stops view Memory s h = tt
  one-stops view (Ends outcome) s h = ap (λ q. after (alone q) next) h

  -- the first of several operands
  pub first-goes : (rest : State → Progress (List (List ℕ))) (w : List ℕ) (s : State) (r : Result B Stop) (t : State) → p ≡ goes_with w s
      → Meets other r t (after (rest s) (λ ws u. next (w ∷ ws) u)) → Meets other r t (after (first_then p rest) next)
  first-goes rest w s r t h k =
      subst (λ q. Meets other r t (after (first_then q rest) next)) (sym h)
      (same other r t _ _ (sym (after-after (rest s) (λ ws u. goes_with (w ∷ ws) u) next)) k)

  pub first-stops : {A : Type 0} (view : A → List ℕ) (rest : State → Progress (List (List ℕ))) (e : Stop) (s : State) → Meets view (Err e) s p → Meets other (Err e) s (after (first_then p rest) next)
  first-stops view rest Memory s h = tt
  first-stops view rest (Ends outcome) s h = ap (λ q. after (first_then q rest) next) h

-- ---- parts one after another

-- some words were gathered, and more come
abbrev pub behind : {A : Type 0} → List A → Progress (List A) → Progress (List A)
behind acc p = after p (λ more s. goes_with (acc ++ more) s)

pub behind-none : {A : Type 0} (p : Progress (List A)) → p ≡ behind [] p
behind-none (goes_with a s) = refl
behind-none (ends_at run) = refl

pub behind-end : {A : Type 0} (acc : List A) (s : State) → behind acc (goes_with [] s) ≡ goes_with acc s
behind-end acc s = ap (λ l. goes_with l s) (append-nil acc)

pub behind-behind : {A : Type 0} (acc more : List A) (p : Progress (List A)) → behind acc (behind more p) ≡ behind (acc ++ more) p
behind-behind acc more (goes_with a s) = ap (λ l. goes_with l s) (sym (append_assoc acc more a))
behind-behind acc more (ends_at run) = refl

-- one more
pub behind-first : {A : Type 0} (acc : List A) (a : A) (s : State) (p : Progress A) (rest : State → Progress (List A)) → p ≡ goes_with a s → behind acc (first_then p rest) ≡ behind (acc ++ a ∷ []) (rest s)
behind-first acc a s p rest h = ap (λ q. behind acc (first_then q rest)) h ∙ behind-behind acc (a ∷ []) (rest s)

-- some more
pub behind-joined : {A : Type 0} (acc some : List A) (s : State) (p : Progress (List A)) (rest : State → Progress (List A)) → p ≡ goes_with some s → behind acc (joined p rest) ≡ behind (acc ++ some) (rest s)
behind-joined acc some s p rest h = ap (λ q. behind acc (joined q rest)) h ∙ behind-behind acc some (rest s)

module _ {A B C : Type 0} (view : A → C) (acc : List C) (p : Progress C) (rest : State → Progress (List C)) where
  -- a call that stops in the next part stops in the whole
  pub behind-first-stops : (other : B → List C) (e : Stop) (s : State) → Meets view (Err e) s p → Meets other (Err e) s (behind acc (first_then p rest))
  behind-first-stops other Memory s h = tt
  behind-first-stops other (Ends outcome) s h = ap (λ q. behind acc (first_then q rest)) h

module _ {A B C : Type 0} (view : A → List C) (acc : List C) (p : Progress (List C)) (rest : State → Progress (List C)) where
  pub behind-joined-stops : (other : B → List C) (e : Stop) (s : State) → Meets view (Err e) s p → Meets other (Err e) s (behind acc (joined p rest))
  behind-joined-stops other Memory s h = tt
  behind-joined-stops other (Ends outcome) s h = ap (λ q. behind acc (joined q rest)) h

-- ---- parts that are done for their effects

-- what a part gives doesn't count
uncounted : {A : Type 0} (a : A) (p : Progress (List A)) → no_value (after p (λ more u. goes_with (a ∷ more) u)) ≡ no_value p
uncounted a (goes_with more u) = refl
uncounted a (ends_at run) = refl

-- one behind another, each of which gives no value
pub done-first : {A : Type 0} (s : State) (p : Progress A) (rest : State → Progress (List A)) → no_value p ≡ goes_with [] s → no_value (first_then p rest) ≡ no_value (rest s)
done-first s (goes_with a t) rest h =
    let e : t ≡ s = cc in
    uncounted a (rest t) ∙ ap (λ u. no_value (rest u)) e
done-first s (ends_at run) rest h = absurd (cc h)

pub done-first-stops : {A B : Type 0} (other : B → List ℕ) (e : Stop) (s : State) (p : Progress A) (rest : State → Progress (List A)) → Meets other (Err e) s (no_value p) → Meets other (Err e) s (no_value (first_then p rest))
done-first-stops other Memory s p rest h = tt
done-first-stops other (Ends outcome) s (goes_with a t) rest h = absurd (cc h)
done-first-stops other (Ends outcome) s (ends_at run) rest h = h
