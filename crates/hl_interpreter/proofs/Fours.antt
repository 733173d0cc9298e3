-- Words of buffers, four at once.
use Rattle.std.proofs.Common.{◌≡◌, ◌∙◌, refl, sym, ap, ℕ, ◌*◌, ◌<◌, List, [], ◌∷◌, ◌++◌, length, replicate, slice_index, take, Err, arith}
use Rattle.std.specs.Int.{div_ceil}
use Rattle.std.specs.List.{concat}
use Rattle.lane_core.specs.declared.event.Event.TheVariants.{BufferStore}
use Rattle.lane_core.specs.declared.event.Slot.{Slot}
use Rattle.hl_source.specs.State.{Progress, State, after, asks, ends_at, goes_with}
use Rattle.hl_interpreter.specs.declared.run.Stop.{Stop}
use Rattle.hl_interpreter.specs.Runs.{Meets}
use Rattle.hl_interpreter.proofs.ListLoops.{flat}
use Rattle.hl_interpreter.proofs.Meeting.{same, stops}

-- the first four, with zeros behind them
pub first-four : (words : List ℕ) (a b d e : ℕ) → a ≡ slice_index words 0 → b ≡ slice_index words 1 → d ≡ slice_index words 2 → e ≡ slice_index words 3 → a ∷ b ∷ d ∷ e ∷ [] ≡ take 4 (words ++ replicate 4 0)
first-four words a b d e h i j k =
    ap (λ x. x ∷ b ∷ d ∷ e ∷ []) h ∙ (ap (λ x. slice_index words 0 ∷ x ∷ d ∷ e ∷ []) i ∙ (ap (λ x. slice_index words 0 ∷ slice_index words 1 ∷ x ∷ e ∷ []) j ∙
    (ap (λ x. slice_index words 0 ∷ slice_index words 1 ∷ slice_index words 2 ∷ x ∷ []) k ∙ four words)))
  where
    four : (words : List ℕ) → slice_index words 0 ∷ slice_index words 1 ∷ slice_index words 2 ∷ slice_index words 3 ∷ [] ≡ take 4 (words ++ replicate 4 0)
    four [] = refl
    four (x ∷ []) = refl
    four (x ∷ y ∷ []) = refl
    four (x ∷ y ∷ z ∷ []) = refl
    four (x ∷ y ∷ z ∷ w ∷ rest) = refl

-- a piece begins within the words
pub piece-within : (count i : ℕ) → i < div_ceil count 4 → 4 * i < count
piece-within count i within = omega arith

-- as many as are asked for
abbrev pub cut : ℕ → Progress (List (List ℕ)) → Progress (List ℕ)
cut count p = after p (λ fours s. goes_with (take count (concat fours)) s)

cut-flat : (count : ℕ) (p : Progress (List (List ℕ))) → after (flat p) (λ words s. goes_with (take count words) s) ≡ cut count p
cut-flat count (goes_with fours s) = refl
cut-flat count (ends_at run) = refl

pub cut-goes : (count : ℕ) (p : Progress (List (List ℕ))) (words : List ℕ) (s : State) → flat p ≡ goes_with words s → cut count p ≡ goes_with (take count words) s
cut-goes count p words s e = sym (cut-flat count p) ∙ ap (λ q. after q (λ words s. goes_with (take count words) s)) e

pub cut-stops : {A B : Type 0} (view : A → List ℕ) (other : B → List ℕ) (count : ℕ) (p : Progress (List (List ℕ))) (e : Stop) (s : State) → Meets view (Err e) s (flat p) → Meets other (Err e) s (cut count p)
cut-stops view other count p e s h = same other (Err e) s _ _ (cut-flat count p) (stops view other e s (flat p) (λ words t. goes_with (take count words) t) h)

-- the event of a store
pub store-event : (slot : Slot) (index offset : ℕ) (words : List ℕ) (count : ℕ) (four : List ℕ) (s : State) → count ≡ length words → four ≡ take 4 (words ++ replicate 4 0)
    → asks (BufferStore slot index offset (length words) (take 4 (words ++ replicate 4 0))) s ≡ asks (BufferStore slot index offset count four) s
store-event slot index offset words count four s e h =
    ap (λ n. asks (BufferStore slot index offset n (take 4 (words ++ replicate 4 0))) s) (sym e) ∙ ap (λ l. asks (BufferStore slot index offset count l) s) (sym h)
