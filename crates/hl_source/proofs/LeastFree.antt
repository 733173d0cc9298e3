-- The register of a buffer that gives none is the least free one.
use Rattle.std.proofs.Common.{◌≡◌, ◌∙◌, refl, sym, ap, subst, ℕ, zero, suc, ◌+◌, ◌<◌, ◌≤◌, Bool, true, false, List, [], ◌∷◌, Some, length, arith, eqb}
use Rattle.std.specs.Prelude.{find, is_some, not, unwrap_or, cond, ◌||◌}
use Rattle.std.specs.List.{range_with_len, IsDistinct, AllByRecursion}
use Rattle.std.specs.Set.{is_member}
use Rattle.std.specs.Cmp.{IsEquivalence}
use Rattle.std.proofs.lemmas.Bool.{eqb-true, not-true, true≢false}
use Rattle.std.proofs.lemmas.List.FromFn.{length-range_with_len}
use Rattle.std.proofs.lemmas.Map.Made.{length-le_from_is_member}
use Rattle.hl_meaning.specs.Slots.{least_free}
use Rattle.hl_source.specs.Laws.{FreeRegisterIsLeast, is_taken}

-- what a search through numbers finds passes the test
found_passes : (p : ℕ → Bool) (a k : ℕ) → is_some (find p (range_with_len a k)) ≡ true → p (unwrap_or (find p (range_with_len a k)) 0) ≡ true
found_passes p a zero h = absurd (true≢false (sym h))
found_passes p a (suc k) h = go (p a) refl h (found_passes p (a + 1) k)
  where
    go : (b : Bool) → p a ≡ b → is_some (cond b (Some a) (find p (range_with_len (a + 1) k))) ≡ true → (is_some (find p (range_with_len (a + 1) k)) ≡ true → p (unwrap_or (find p (range_with_len (a + 1) k)) 0) ≡ true) → p (unwrap_or (cond b (Some a) (find p (range_with_len (a + 1) k))) 0) ≡ true
    go true e h' rest = e
    go false e h' rest = rest h'

-- the numbers before it don't
fails_at : (p : ℕ → Bool) (a m : ℕ) → p a ≡ false → a ≤ m → (a + 1 ≤ m → p m ≡ false) → p m ≡ false
fails_at p a m e low rest = go (eqb a m) refl
  where
    go : (b : Bool) → eqb a m ≡ b → p m ≡ false
    go true same = subst (λ x. p x ≡ false) (eqb-true a m same) e
    go false other = rest (grind arith)

earlier_fail : (p : ℕ → Bool) (a k m : ℕ) → a ≤ m → m < unwrap_or (find p (range_with_len a k)) 0 → p m ≡ false
earlier_fail p a zero m low high = absurd (omega arith)
earlier_fail p a (suc k) m low high = go (p a) refl high (earlier_fail p (a + 1) k m)
  where
    go : (b : Bool) → p a ≡ b → m < unwrap_or (cond b (Some a) (find p (range_with_len (a + 1) k))) 0 → (a + 1 ≤ m → m < unwrap_or (find p (range_with_len (a + 1) k)) 0 → p m ≡ false) → p m ≡ false
    go true e high' rest = absurd (omega arith)
    go false e high' rest = fails_at p a m e low (λ above. rest above high')

-- where nothing is found, all fail
all_fail : (p : ℕ → Bool) (a k m : ℕ) → is_some (find p (range_with_len a k)) ≡ false → a ≤ m → m < a + k → p m ≡ false
all_fail p a zero m none low high = absurd (omega arith)
all_fail p a (suc k) m none low high = go (p a) refl none (λ none' above. all_fail p (a + 1) k m none' above (omega arith))
  where
    go : (b : Bool) → p a ≡ b → is_some (cond b (Some a) (find p (range_with_len (a + 1) k))) ≡ false → (is_some (find p (range_with_len (a + 1) k)) ≡ false → a + 1 ≤ m → p m ≡ false) → p m ≡ false
    go true e none' rest = absurd (true≢false none')
    go false e none' rest = fails_at p a m e low (rest none')

-- numbers in a row are distinct, and are those from the first up to the last

in_range : (a k q : ℕ) → is_member eqb (range_with_len a k) q ≡ true → (a ≤ q) × (q < a + k)
in_range a zero q h = absurd (true≢false (sym h))
in_range a (suc k) q h = go (eqb q a) refl h (in_range (a + 1) k q)
  where
    go : (b : Bool) → eqb q a ≡ b → b || is_member eqb (range_with_len (a + 1) k) q ≡ true → (is_member eqb (range_with_len (a + 1) k) q ≡ true → (a + 1 ≤ q) × (q < a + 1 + k)) → (a ≤ q) × (q < a + suc k)
    go true same h' rest = let e = eqb-true q a same in (omega arith, omega arith)
    go false other h' rest = let r = rest h' in (omega (arith, r.0), omega (arith, r.1))

apart : (x a k : ℕ) → x < a → AllByRecursion (λ y. eqb x y ≡ false) (range_with_len a k)
apart x a zero h = tt
apart x a (suc k) h = (grind arith, apart x (a + 1) k (omega arith))

distinct : (a k : ℕ) → IsDistinct eqb (range_with_len a k)
unfolding IsDistinct
distinct a zero = tt
distinct a (suc k) = (apart a (a + 1) k (omega arith), distinct (a + 1) k)

eqb_equivalence : IsEquivalence eqb
eqb_equivalence = record {
  refl = λ x. grind arith;
  symm = λ x y. grind arith;
  congr = λ x y z e. ap (λ t. eqb t z) (eqb-true x y e);
}

taken_is_member : (taken : List ℕ) (n : ℕ) → is_taken taken n ≡ is_member eqb taken n
taken_is_member [] n = refl
taken_is_member (t ∷ taken) n = ap (λ b. b || is_taken taken n) (eqb_equivalence.symm t n) ∙ ap (λ b. eqb n t || b) (taken_is_member taken n)

-- one more number than are taken can't all be taken
some_free : (taken : List ℕ) → is_some (find (λ n. not (is_taken taken n)) (range_with_len 0 (suc (length taken)))) ≡ true
some_free taken = go (is_some (find (λ n. not (is_taken taken n)) (range_with_len 0 (suc (length taken))))) refl
  where
    member : is_some (find (λ n. not (is_taken taken n)) (range_with_len 0 (suc (length taken)))) ≡ false → (q : ℕ) → is_member eqb (range_with_len 0 (suc (length taken))) q ≡ true → is_member eqb taken q ≡ true
    member none q h = sym (taken_is_member taken q) ∙ not_false (is_taken taken q) (all_fail (λ n. not (is_taken taken n)) 0 (suc (length taken)) q none (in_range 0 (suc (length taken)) q h).0 (in_range 0 (suc (length taken)) q h).1)
      where
        not_false : (b : Bool) → not b ≡ false → b ≡ true
        not_false true e = refl
        not_false false e = absurd (true≢false e)

    go : (b : Bool) → is_some (find (λ n. not (is_taken taken n)) (range_with_len 0 (suc (length taken)))) ≡ b → is_some (find (λ n. not (is_taken taken n)) (range_with_len 0 (suc (length taken)))) ≡ true
    go true e = e
    go false none = absurd (too_many (length-le_from_is_member eqb_equivalence (range_with_len 0 (suc (length taken))) taken (distinct 0 (suc (length taken))) (member none)) (length-range_with_len 0 (suc (length taken))))
      where
        too_many : length (range_with_len 0 (suc (length taken))) ≤ length taken → length (range_with_len 0 (suc (length taken))) ≡ suc (length taken) → ⊥
        too_many h e = omega (arith, h, e)

pub free_register_is_least : FreeRegisterIsLeast
free_register_is_least taken = (
  not-true (is_taken taken (least_free taken)) (found_passes (λ n. not (is_taken taken n)) 0 (suc (length taken)) (some_free taken)),
  λ m h. below m (earlier_fail (λ n. not (is_taken taken n)) 0 (suc (length taken)) m (omega arith) h),
)
  where
    below : (m : ℕ) → not (is_taken taken m) ≡ false → is_taken taken m ≡ true
    below m e = go (is_taken taken m) e
      where
        go : (b : Bool) → not b ≡ false → b ≡ true
        go true e' = refl
        go false e' = absurd (true≢false e')
