-- Loops that do one part after another.
use Rattle.std.proofs.Common.{◌≡◌, ◌∙◌, refl, sym, ap, ℕ, zero, suc, ◌+◌, ◌*◌, ◌<◌, ◌≤◌, List, [], ◌∷◌, ◌++◌, drop, get_or, length, map, Err, arith}
use Rattle.std.proofs.lemmas.List.{drop_all, drop-map}
use Rattle.std.specs.Int.{div_ceil}
use Rattle.std.specs.List.{concat, range_with_len, zip}
use Rattle.hl_source.specs.Memory.{pieces, word_offsets}
use Rattle.hl_source.specs.State.{Progress, State, after, each, first_then, goes_with, ends_at, no_value}
use Rattle.lane_core.specs.Words.{wrapping_add}
use Rattle.hl_interpreter.specs.declared.run.Stop.{Stop}
use Rattle.hl_interpreter.specs.declared.run.Stop.TheVariants.{Ends, Memory}
use Rattle.hl_interpreter.specs.Runs.{Meets}
use Rattle.hl_interpreter.proofs.Meeting.{behind, behind-behind, behind-end, behind-first, behind-first-stops, done-first, done-first-stops, same}
use Rattle.hl_interpreter.proofs.Turns.{drop-next, length-range, range-next}

-- ---- parts whose values are gathered

module _ {A B : Type 0} (part : A → State → Progress B) (xs : List A) (whole : Progress (List B)) where
  pub gathered-turn : (i : ℕ) (x : A) (acc : List B) (b : B) (s t : State) → drop i xs ≡ x ∷ drop (i + 1) xs → whole ≡ behind acc (each part (drop i xs) s) → part x s ≡ goes_with b t
      → whole ≡ behind (acc ++ b ∷ []) (each part (drop (i + 1) xs) t)
  gathered-turn i x acc b s t next e h =
      e ∙ (ap (λ l. behind acc (each part l s)) next ∙ behind-first acc b t (part x s) (each part (drop (i + 1) xs)) h)

  pub gathered-stops : {C D : Type 0} (view : C → B) (other : D → List B) (i : ℕ) (x : A) (acc : List B) (e : Stop) (s t : State) → drop i xs ≡ x ∷ drop (i + 1) xs → whole ≡ behind acc (each part (drop i xs) s)
      → Meets view (Err e) t (part x s) → Meets other (Err e) t whole
  gathered-stops view other i x acc e s t next is h =
      same other (Err e) t _ _ (sym (is ∙ ap (λ l. behind acc (each part l s)) next)) (behind-first-stops view acc (part x s) (each part (drop (i + 1) xs)) other e t h)

  pub gathered-end : (i : ℕ) (acc : List B) (s : State) → length xs ≤ i → whole ≡ behind acc (each part (drop i xs) s) → whole ≡ goes_with acc s
  gathered-end i acc s past e = e ∙ (ap (λ l. behind acc (each part l s)) (drop_all i xs past) ∙ behind-end acc s)

-- ---- parts that are done for their effects

module _ {A B : Type 0} (part : A → State → Progress B) (xs : List A) (whole : Progress (List ℕ)) where
  pub done-turn : (i : ℕ) (x : A) (s t : State) → drop i xs ≡ x ∷ drop (i + 1) xs → whole ≡ no_value (each part (drop i xs) s) → no_value (part x s) ≡ goes_with [] t
      → whole ≡ no_value (each part (drop (i + 1) xs) t)
  done-turn i x s t next e h = e ∙ (ap (λ l. no_value (each part l s)) next ∙ done-first t (part x s) (each part (drop (i + 1) xs)) h)

  pub done-stops : {C : Type 0} (other : C → List ℕ) (i : ℕ) (x : A) (e : Stop) (s t : State) → drop i xs ≡ x ∷ drop (i + 1) xs → whole ≡ no_value (each part (drop i xs) s)
      → Meets other (Err e) t (no_value (part x s)) → Meets other (Err e) t whole
  done-stops other i x e s t next is h =
      same other (Err e) t _ _ (sym (is ∙ ap (λ l. no_value (each part l s)) next)) (done-first-stops other e t (part x s) (each part (drop (i + 1) xs)) h)

  pub done-end : (i : ℕ) (s : State) → length xs ≤ i → whole ≡ no_value (each part (drop i xs) s) → whole ≡ goes_with [] s
  done-end i s past e = e ∙ ap (λ l. no_value (each part l s)) (drop_all i xs past)

-- ---- parts whose words are joined at once

abbrev pub flat : Progress (List (List ℕ)) → Progress (List ℕ)
flat p = after p (λ fours s. goes_with (concat fours) s)

flat-more : (w : List ℕ) (p : Progress (List (List ℕ))) → flat (after p (λ more s. goes_with (w ∷ more) s)) ≡ behind w (flat p)
flat-more w (goes_with more s) = refl
flat-more w (ends_at run) = refl

module _ {A : Type 0} (part : A → State → Progress (List ℕ)) (xs : List A) (whole : Progress (List ℕ)) where
  pub flat-turn : (i : ℕ) (x : A) (acc w : List ℕ) (s t : State) → drop i xs ≡ x ∷ drop (i + 1) xs → whole ≡ behind acc (flat (each part (drop i xs) s)) → part x s ≡ goes_with w t
      → whole ≡ behind (acc ++ w) (flat (each part (drop (i + 1) xs) t))
  flat-turn i x acc w s t next e h =
      e ∙ (ap (λ l. behind acc (flat (each part l s))) next ∙ (ap (λ q. behind acc (flat (first_then q (each part (drop (i + 1) xs))))) h ∙
      (ap (behind acc) (flat-more w (each part (drop (i + 1) xs) t)) ∙ behind-behind acc w (flat (each part (drop (i + 1) xs) t)))))

  pub flat-stops : {C D : Type 0} (view : C → List ℕ) (other : D → List ℕ) (i : ℕ) (x : A) (acc : List ℕ) (e : Stop) (s t : State) → drop i xs ≡ x ∷ drop (i + 1) xs
      → whole ≡ behind acc (flat (each part (drop i xs) s)) → Meets view (Err e) t (part x s) → Meets other (Err e) t whole
  flat-stops view other i x acc Memory s t next is h = tt
  flat-stops view other i x acc (Ends outcome) s t next is h =
      is ∙ (ap (λ l. behind acc (flat (each part l s))) next ∙ ap (λ q. behind acc (flat (first_then q (each part (drop (i + 1) xs))))) h)

  pub flat-end : (i : ℕ) (acc : List ℕ) (s : State) → length xs ≤ i → whole ≡ behind acc (flat (each part (drop i xs) s)) → whole ≡ goes_with acc s
  flat-end i acc s past e = e ∙ (ap (λ l. behind acc (flat (each part l s))) (drop_all i xs past) ∙ behind-end acc s)

-- ---- the lists that are gone through

mapped-next : {A B : Type 0} (f : A → B) (xs : List A) (i : ℕ) (x : A) → drop i xs ≡ x ∷ drop (i + 1) xs → drop i (map f xs) ≡ f x ∷ drop (i + 1) (map f xs)
mapped-next f xs i x e = drop-map f i xs ∙ (ap (map f) e ∙ ap (λ l. f x ∷ l) (sym (drop-map f (i + 1) xs)))

pub counted-next : (count i : ℕ) → i < count → drop i (range_with_len 0 count) ≡ i ∷ drop (i + 1) (range_with_len 0 count)
counted-next count i within = range-next 0 i count within ∙ ap (λ k. k ∷ drop (i + 1) (range_with_len 0 count)) (omega arith)

-- the next word of a place
pub offset-next : (offset count i : ℕ) → i < count → drop i (word_offsets offset count) ≡ wrapping_add offset i ∷ drop (i + 1) (word_offsets offset count)
offset-next offset count i within = mapped-next (wrapping_add offset) (range_with_len 0 count) i i (counted-next count i within)

pub length-mapped : {A B : Type 0} (f : A → B) (xs : List A) → length (map f xs) ≡ length xs
length-mapped f [] = refl
length-mapped f (x ∷ xs) = ap suc (length-mapped f xs)

pub length-offsets : (offset count : ℕ) → length (word_offsets offset count) ≡ count
length-offsets offset count = length-mapped (wrapping_add offset) (range_with_len 0 count) ∙ length-range 0 count

-- the next piece
pub piece-next : (count i : ℕ) → i < div_ceil count 4 → drop i (pieces count) ≡ (4 * i) ∷ drop (i + 1) (pieces count)
piece-next count i within = mapped-next (λ piece. 4 * piece) (range_with_len 0 (div_ceil count 4)) i i (counted-next (div_ceil count 4) i within)

pub length-pieces : (count : ℕ) → length (pieces count) ≡ div_ceil count 4
length-pieces count = length-mapped (λ piece. 4 * piece) (range_with_len 0 (div_ceil count 4)) ∙ length-range 0 (div_ceil count 4)

-- the next of two lists together
pub zipped-next : {A B : Type 0} (xs : List A) (ys : List B) (i : ℕ) (x : A) (y : B) → drop i xs ≡ x ∷ drop (i + 1) xs → drop i ys ≡ y ∷ drop (i + 1) ys
    → drop i (zip xs ys) ≡ (x, y) ∷ drop (i + 1) (zip xs ys)
zipped-next xs ys i x y e h = drop-zip xs ys i ∙ (ap (λ l. zip l (drop i ys)) e ∙ (ap (λ l. zip (x ∷ drop (i + 1) xs) l) h ∙ ap (λ l. (x, y) ∷ l) (sym (drop-zip xs ys (i + 1)))))
  where
    zip-none : {A B : Type 0} (xs : List A) → zip {X = B} xs [] ≡ []
    zip-none [] = refl
    zip-none (x ∷ xs) = refl

    drop-none : {A : Type 0} (n : ℕ) → drop {A = A} n [] ≡ []
    drop-none zero = refl
    drop-none (suc n) = refl

    drop-zip : {A B : Type 0} (xs : List A) (ys : List B) (n : ℕ) → drop n (zip xs ys) ≡ zip (drop n xs) (drop n ys)
    drop-zip xs ys zero = refl
    drop-zip [] ys (suc n) = refl
    drop-zip (x ∷ xs) [] (suc n) = sym (zip-none (drop n xs))
    drop-zip (x ∷ xs) (y ∷ ys) (suc n) = drop-zip xs ys n

pub length-zipped : {A B : Type 0} (xs : List A) (ys : List B) → length xs ≡ length ys → length (zip xs ys) ≡ length ys
length-zipped [] [] e = refl
length-zipped [] (y ∷ ys) e = absurd (omega arith)
length-zipped (x ∷ xs) [] e = absurd (omega arith)
length-zipped (x ∷ xs) (y ∷ ys) e = ap suc (length-zipped xs ys (omega arith))

-- the next word that is written, with its offset
pub written-next : (offset : ℕ) (words : List ℕ) (i word : ℕ) → i < length words → word ≡ get_or words i word
    → drop i (zip (word_offsets offset (length words)) words) ≡ (wrapping_add offset i, word) ∷ drop (i + 1) (zip (word_offsets offset (length words)) words)
written-next offset words i word within is =
    zipped-next (word_offsets offset (length words)) words i (wrapping_add offset i) word (offset-next offset (length words) i within) (drop-next words i word within is)

pub length-written : (offset : ℕ) (words : List ℕ) → length (zip (word_offsets offset (length words)) words) ≡ length words
length-written offset words = length-zipped (word_offsets offset (length words)) words (length-offsets offset (length words))
