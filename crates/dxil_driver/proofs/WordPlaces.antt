-- How places in a list of words last while the list grows.
use Rattle.std.proofs.Common.{◌≡◌, ℕ, suc, zero, ◌<◌, Bool, true, false, cond, ◌||◌, List, [], ◌∷◌, ◌++◌, length, nat_eq, slice_get, refl, sym, subst, arith, ◌≤◌, ◌^◌, eq-eqb, if◌then◌else◌}
use Rattle.std.proofs.lemmas.Bool.{eqb-true, eqb-false, ne_eqb}
use Rattle.std.proofs.lemmas.List.Elements.{All-nil, All-cons}
use Rattle.std.proofs.lemmas.Option.{slice_get_within}
use Rattle.std.proofs.lemmas.List.Folds.{list_any-append}
use Rattle.std.specs.List.{list_any}
use Rattle.std.specs.HashMap.{HashMap, get}
use Rattle.std.specs.declared.option.Option.{Option}
use Rattle.std.specs.declared.option.Option.TheVariants.{None, Some}
use Rattle.dxil_driver.specs.declared.stores.LiteralStore.{LiteralStore}
use Rattle.dxil_driver.specs.Emitted.{with_word, words_from, PicksStore, Picks}
use Rattle.dxil_driver.specs.Places.{IsPlaceOf, Knows, IsShort, AreShort}
use Rattle.base_core.specs.Limits.{most_parts}

pub slice_get-append : {A : Type 0} (xs ys : List A) (i : ℕ) (x : A) → slice_get xs i ≡ Some x → slice_get (xs ++ ys) i ≡ Some x
slice_get-append [] ys i x h = cc
slice_get-append (y ∷ xs) ys zero x h = h
slice_get-append (y ∷ xs) ys (suc i) x h = slice_get-append xs ys i x h

pub slice_get-pushed : {A : Type 0} (xs : List A) (x : A) → slice_get (xs ++ x ∷ []) (length xs) ≡ Some x
slice_get-pushed [] x = refl
slice_get-pushed (y ∷ xs) x = slice_get-pushed xs x

place-grows : (o : Option ℕ) (words : List ℕ) (word more : ℕ) → nat_eq word more ≡ false → IsPlaceOf o words word → IsPlaceOf o (words ++ more ∷ []) word
place-grows None words word more e h = rw list_any-append (rw h (rw e refl))
place-grows (Some at) words word more e h = (slice_get-append words (more ∷ []) at word h.0, rw list_any-append (rw h.1 refl))

pub place-pushed : (words : List ℕ) (word : ℕ) → IsPlaceOf (Some (length words)) (words ++ word ∷ []) word
place-pushed words word =
    (slice_get-pushed words word, rw list_any-append (let e : nat_eq word word ≡ true = eq-eqb word word refl in rw e (or-true (list_any (nat_eq word) words))))
  where
    or-true : (b : Bool) → (b || (true || false)) ≡ true
    or-true true = refl
    or-true false = refl

knows-at : (o : Option ℕ) (words : List ℕ) (word q : ℕ) (b : Bool) → nat_eq word q ≡ b → IsPlaceOf o words q → IsPlaceOf (cond b (Some (length words)) o) (words ++ word ∷ []) q
knows-at o words word q true e h =
    subst (λ (z : ℕ). IsPlaceOf (Some (length words)) (words ++ word ∷ []) z) (eqb-true word q e) (place-pushed words word)
knows-at o words word q false e h =
    place-grows o words q word (ne_eqb q word (λ f. eqb-false word q e (sym f))) h

-- a map that has its new word at the end of the list knows the longer list
pub knows-push : {S : Type 0} (old new : HashMap ℕ ℕ S) (words : List ℕ) (word at : ℕ) → Knows old words → at ≡ length words → ((q : ℕ) → get nat_eq new q ≡ cond (nat_eq word q) (Some at) (get nat_eq old q)) → Knows new (words ++ word ∷ [])
knows-push old new words word at known last updates =
    record { place = λ q. rw (updates q) (rw last (knows-at (get nat_eq old q) words word q (nat_eq word q) refl (known.place q))) }

pub pushed-at : (words : List ℕ) (word at : ℕ) → at ≡ length words → slice_get (words ++ word ∷ []) at ≡ Some word
pushed-at words word at e = rw e (slice_get-pushed words word)

-- places last

with-keeps : (b : Bool) (words : List ℕ) (word i x : ℕ) → slice_get words i ≡ Some x → slice_get (if b then words else words ++ word ∷ []) i ≡ Some x
with-keeps true words word i x h = h
with-keeps false words word i x h = slice_get-append words (word ∷ []) i x h

pub with_word-keeps : (words : List ℕ) (word i x : ℕ) → slice_get words i ≡ Some x → slice_get (with_word words word) i ≡ Some x
with_word-keeps words word i x h = with-keeps (list_any (nat_eq word) words) words word i x h

pub picks-with_word : (words : List ℕ) (word : ℕ) (pairs : List (ℕ × ℕ)) (stores : List LiteralStore) → Picks words pairs stores → Picks (with_word words word) pairs stores
picks-with_word words word [] [] h = h
picks-with_word words word (p ∷ ps) (s ∷ ss) h =
    ((with_word-keeps words word p.0 s.address h.0.0, with_word-keeps words word p.1 s.word h.0.1), picks-with_word words word ps ss h.1)
picks-with_word words word [] (s ∷ ss) h = h
picks-with_word words word (p ∷ ps) [] h = h

pub picks-push : (words : List ℕ) (p : ℕ × ℕ) (s : LiteralStore) (pairs : List (ℕ × ℕ)) (stores : List LiteralStore) → Picks words pairs stores → PicksStore words p s → Picks words (pairs ++ p ∷ []) (stores ++ s ∷ [])
picks-push words p s [] [] h k = (k, h)
picks-push words p s (q ∷ ps) (t ∷ ss) h k = (h.0, picks-push words p s ps ss h.1 k)
picks-push words p s [] (t ∷ ss) h k = absurd h
picks-push words p s (q ∷ ps) [] h k = absurd h

pub words_from-push : (words : List ℕ) (stores : List LiteralStore) (s : LiteralStore) → words_from words (stores ++ s ∷ []) ≡ with_word (with_word (words_from words stores) s.address) s.word
words_from-push words [] s = refl
words_from-push words (t ∷ stores) s = words_from-push (with_word (with_word words t.address) t.word) stores s

-- one more store: the words with its address and its word, and its pair
pub pool_step : (stores : List LiteralStore) (s : LiteralStore) (words first second : List ℕ) (pairs more : List (ℕ × ℕ)) (p : ℕ × ℕ) → words ≡ words_from [] stores → Picks words pairs stores → first ≡ with_word words s.address → slice_get first p.0 ≡ Some s.address → second ≡ with_word first s.word → slice_get second p.1 ≡ Some s.word → more ≡ pairs ++ p ∷ [] → (second ≡ words_from [] (stores ++ s ∷ [])) × Picks second more (stores ++ s ∷ [])
pool_step stores s words first second pairs more p words_are picks first_is address second_is word more_is =
    let same : second ≡ words_from [] (stores ++ s ∷ []) =
    rw second_is (rw first_is (rw words_are (rw words_from-push refl))) in
    let kept : Picks second pairs stores =
    rw second_is (picks-with_word first s.word pairs stores (rw first_is (picks-with_word words s.address pairs stores picks))) in
    let at : slice_get second p.0 ≡ Some s.address = rw second_is (with_word-keeps first s.word p.0 s.address address) in
    (same, rw more_is (picks-push second p s pairs stores kept (at, word)))

-- places in a list that isn't too long are short
pub picks-short : (words : List ℕ) (pairs : List (ℕ × ℕ)) (stores : List LiteralStore) → length words ≤ most_parts → Picks words pairs stores → AreShort pairs
picks-short words [] stores limit h = All-nil IsShort
picks-short words (p ∷ ps) [] limit h = absurd h
picks-short words (p ∷ ps) (s ∷ ss) limit h =
    All-cons IsShort p ps (short p.0 s.address h.0.0, short p.1 s.word h.0.1) (picks-short words ps ss limit h.1)
  where
    short : (i x : ℕ) → slice_get words i ≡ Some x → i < 2 ^ 31
    short i x e = let within : i < length words = slice_get_within words i x e in omega arith
