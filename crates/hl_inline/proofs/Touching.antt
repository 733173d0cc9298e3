-- Which variables occurrences in a program without calls index by expressions that aren't literals, and the lengths of those
-- among some variables.
use Rattle.std.proofs.Common.{◌≡◌, ◌∙◌, refl, sym, ap, subst, ℕ, suc, ◌+◌, ◌<◌, ◌≤◌, ◌⊎◌, inl, inr, Bool, true, false, List, [], ◌∷◌, ◌++◌, length, append_assoc, length-append, arith}
use Rattle.std.specs.Prelude.{◌||◌, if◌then◌else◌, flat_map}
use Rattle.std.specs.List.{list_any}
use Rattle.std.specs.List.Sorted.{IsPermutation}
use Rattle.std.proofs.lemmas.Bool.{false≢true, true≢false}
use Rattle.std.proofs.lemmas.Grind.{flat_map-append}
use Rattle.std.proofs.lemmas.List.{append-nil}
use Rattle.std.proofs.lemmas.List.Folds.{list_any-append}
use Rattle.std.proofs.lemmas.List.Sorted.{IsPermutation-append, IsPermutation-append_comm, IsPermutation-append_left, IsPermutation-append_right, IsPermutation-refl, IsPermutation-trans}
use Rattle.hl_meaning.specs.Programs.{StructDef, Variable}
use Rattle.hl_meaning.specs.Layout.{words_of}
use Rattle.hl_inline.specs.IndexedVariables.{CallTree, call_tree_of, indexed_from, indexes_constant, indexes_variable, lengths_where}
use Rattle.hl_inline.specs.Occurrences.{Occurrence}

-- whether occurrences index a variable so
abbrev pub touched : List Occurrence → ℕ → Bool
touched occurrences number = list_any (indexes_variable number) occurrences

pub indexed-by : (structs : List StructDef) (occurrences : List Occurrence) (number : ℕ) (variables : List Variable) → indexed_from structs occurrences number variables ≡ lengths_where structs (touched occurrences) number variables
indexed-by structs occurrences number [] = refl
indexed-by structs occurrences number (v ∷ variables) =
    ap (λ l. (if touched occurrences number then words_of structs v.ty ∷ [] else []) ++ l) (indexed-by structs occurrences (suc number) variables)

pub lengths-append : (structs : List StructDef) (h : ℕ → Bool) (number : ℕ) (xs ys : List Variable) →
    lengths_where structs h number (xs ++ ys) ≡ lengths_where structs h number xs ++ lengths_where structs h (number + length xs) ys
lengths-append structs h number [] ys = ap (λ k. lengths_where structs h k ys) (omega arith)
lengths-append structs h number (x ∷ xs) ys =
    let here : List ℕ = if h number then words_of structs x.ty ∷ [] else [] in
    ap (λ l. here ++ l) (lengths-append structs h (suc number) xs ys ∙ ap (λ k. lengths_where structs h (suc number) xs ++ lengths_where structs h k ys) (omega arith)) ∙
    sym (append_assoc here (lengths_where structs h (suc number) xs) (lengths_where structs h (number + suc (length xs)) ys))

pub lengths-same : (structs : List StructDef) (g h : ℕ → Bool) (m n : ℕ) (variables : List Variable) → ((j : ℕ) → j < length variables → g (m + j) ≡ h (n + j)) →
    lengths_where structs g m variables ≡ lengths_where structs h n variables
lengths-same structs g h m n [] same = refl
lengths-same structs g h m n (v ∷ variables) same =
    let here : g m ≡ h n = ap g (omega arith) ∙ (same 0 (omega arith) ∙ ap h (omega arith)) in
    let next : lengths_where structs g (suc m) variables ≡ lengths_where structs h (suc n) variables =
    lengths-same structs g h (suc m) (suc n) variables (λ j low. ap g (omega arith) ∙ (same (suc j) (omega (arith, low)) ∙ ap h (omega arith))) in
    ap (λ b. (if b then words_of structs v.ty ∷ [] else []) ++ lengths_where structs g (suc m) variables) here ∙
    ap (λ l. (if h n then words_of structs v.ty ∷ [] else []) ++ l) next

pub lengths-none : (structs : List StructDef) (h : ℕ → Bool) (n : ℕ) (variables : List Variable) → ((j : ℕ) → j < length variables → h (n + j) ≡ false) → lengths_where structs h n variables ≡ []
lengths-none structs h n [] none = refl
lengths-none structs h n (v ∷ variables) none =
    let here : h n ≡ false = ap h (omega arith) ∙ none 0 (omega arith) in
    let next : lengths_where structs h (suc n) variables ≡ [] = lengths-none structs h (suc n) variables (λ j low. ap h (omega arith) ∙ none (suc j) (omega (arith, low))) in
    ap (λ b. (if b then words_of structs v.ty ∷ [] else []) ++ lengths_where structs h (suc n) variables) here ∙ next

-- what the calls among occurrences reach
abbrev pub reached_occurrences : List CallTree → List Occurrence → List Occurrence
reached_occurrences before occurrences = flat_map (λ m. (call_tree_of before m).occurrences) occurrences

abbrev pub reached_lengths : List CallTree → List Occurrence → List ℕ
reached_lengths before occurrences = flat_map (λ m. (call_tree_of before m).lengths) occurrences

-- Occurrences in a function, and what indexes variables in what becomes of it. The first `constants` variables are the
-- constants, the function has `size` variables from `first` on, and `new` ones, from `from` on, are those of its calls.
pub record Touches (structs : List StructDef) (before : List CallTree) (constants first size from : ℕ) (occurrences : List Occurrence) (h : ℕ → Bool) (new : List Variable) : Type 0 where
  pub own : (v : ℕ) → v < size → h (first + v) ≡ list_any (indexes_variable v) occurrences
  pub constant : (k : ℕ) → k < constants → h k ≡ (list_any (indexes_constant k) occurrences || list_any (indexes_constant k) (reached_occurrences before occurrences))
  pub lengths : IsPermutation (lengths_where structs h from new) (reached_lengths before occurrences)
  pub within : (n : ℕ) → h n ≡ true → (n < constants) ⊎ (((first ≤ n) × (n < first + size)) ⊎ ((from ≤ n) × (n < from + length new)))

pub false_unless : (b : Bool) → (b ≡ true → ⊥) → b ≡ false
false_unless true h = absurd (h refl)
false_unless false h = refl

pub or_true : (a b : Bool) → (a || b) ≡ true → (a ≡ true) ⊎ (b ≡ true)
or_true true b h = inl refl
or_true false b h = inr h

pub or_false : (a b : Bool) → b ≡ false → (a || b) ≡ a
or_false true b h = refl
or_false false b h = h

or_none : (a b : Bool) → a ≡ false → (a || b) ≡ b
or_none true b h = absurd (true≢false h)
or_none false b h = refl

pub or_four : (a b c d : Bool) → ((a || b) || (c || d)) ≡ ((a || c) || (b || d))
or_four true b true d = refl
or_four true b false d = refl
or_four false true true d = refl
or_four false true false d = refl
or_four false false true d = refl
or_four false false false d = refl

pub or_moved : (a b c d : Bool) → (a || (b || (c || d))) ≡ (a || (c || (b || d)))
or_moved true b c d = refl
or_moved false true true d = refl
or_moved false true false d = refl
or_moved false false true d = refl
or_moved false false false d = refl

pub or_both : (a b c d : Bool) → a ≡ c → b ≡ d → (a || b) ≡ (c || d)
or_both a b c d e f = ap (λ x. x || b) e ∙ ap (λ x. c || x) f

any_four : (p : Occurrence → Bool) (us vs ws xs : List Occurrence) → list_any p (us ++ (vs ++ (ws ++ xs))) ≡ (list_any p us || (list_any p vs || (list_any p ws || list_any p xs)))
any_four p us vs ws xs =
    list_any-append p us (vs ++ (ws ++ xs)) ∙ ap (λ x. list_any p us || x) (list_any-append p vs (ws ++ xs) ∙ ap (λ x. list_any p vs || x) (list_any-append p ws xs))

pub any_moved : (p : Occurrence → Bool) (us vs ws xs : List Occurrence) → list_any p (us ++ (vs ++ (ws ++ xs))) ≡ list_any p (us ++ (ws ++ (vs ++ xs)))
any_moved p us vs ws xs = any_four p us vs ws xs ∙ (or_moved (list_any p us) (list_any p vs) (list_any p ws) (list_any p xs) ∙ sym (any_four p us ws vs xs))

module _ (structs : List StructDef) (before : List CallTree) (constants first size : ℕ) where
  -- a variable outside of all these isn't indexed
  pub untouched : (from : ℕ) (occurrences : List Occurrence) (h : ℕ → Bool) (new : List Variable) → Touches structs before constants first size from occurrences h new →
      (n : ℕ) → constants ≤ n → (n < first) ⊎ (first + size ≤ n) → (n < from) ⊎ (from + length new ≤ n) → h n ≡ false
  untouched from occurrences h new t n high apart past = false_unless (h n) (λ is. by_place (t.within n is) apart past)
    where
      by_place : (n < constants) ⊎ (((first ≤ n) × (n < first + size)) ⊎ ((from ≤ n) × (n < from + length new))) → (n < first) ⊎ (first + size ≤ n) → (n < from) ⊎ (from + length new ≤ n) → ⊥
      by_place (inl low) _ _ = omega (arith, high, low)
      by_place (inr (inl own)) (inl a) _ = omega (arith, own.0, a)
      by_place (inr (inl own)) (inr a) _ = omega (arith, own.1, a)
      by_place (inr (inr new)) _ (inl a) = omega (arith, new.0, a)
      by_place (inr (inr new)) _ (inr a) = omega (arith, new.1, a)

  -- nothing is indexed where nothing occurs
  pub touches_none : (from : ℕ) → Touches structs before constants first size from [] (λ n. false) []
  touches_none from = record {
    own = λ v low. refl;
    constant = λ k low. refl;
    lengths = IsPermutation-refl [];
    within = λ n is. absurd (false≢true is);
  }

  -- the same of what is indexed alike
  pub touches_same : (from : ℕ) (occurrences : List Occurrence) (g h : ℕ → Bool) (new : List Variable) → ((n : ℕ) → g n ≡ h n) → Touches structs before constants first size from occurrences g new →
      Touches structs before constants first size from occurrences h new
  touches_same from occurrences g h new same t = record {
    own = λ v low. sym (same (first + v)) ∙ t.own v low;
    constant = λ k low. sym (same k) ∙ t.constant k low;
    lengths = subst (λ l. IsPermutation l (reached_lengths before occurrences)) (lengths-same structs g h from from new (λ j low. same (from + j))) t.lengths;
    within = λ n is. t.within n (same n ∙ is);
  }

  -- occurrences behind others
  pub touches_both : constants ≤ first → (from next : ℕ) → first + size ≤ from → (xs ys : List Occurrence) (g h : ℕ → Bool) (new more : List Variable) → next ≡ from + length new →
      Touches structs before constants first size from xs g new → Touches structs before constants first size next ys h more →
      Touches structs before constants first size from (xs ++ ys) (λ n. g n || h n) (new ++ more)
  touches_both high from next room xs ys g h new more is a b = record {
    own = λ v low. or_both _ _ _ _ (a.own v low) (b.own v low) ∙ sym (list_any-append (indexes_variable v) xs ys);
    constant = λ k low. or_both _ _ _ _ (a.constant k low) (b.constant k low) ∙ constant_both k;
    lengths = subst (λ l. IsPermutation l (reached_lengths before (xs ++ ys))) (sym all_lengths)
        (subst (IsPermutation (lengths_where structs g from new ++ lengths_where structs h next more)) (sym (flat_map-append (λ m. (call_tree_of before m).lengths) xs ys))
        (IsPermutation-append _ _ _ _ a.lengths b.lengths));
    within = λ n true_there. by_case n (or_true (g n) (h n) true_there);
  }
    where
      constant_both : (k : ℕ) →
          ((list_any (indexes_constant k) xs || list_any (indexes_constant k) (reached_occurrences before xs)) || (list_any (indexes_constant k) ys || list_any (indexes_constant k) (reached_occurrences before ys))) ≡
          (list_any (indexes_constant k) (xs ++ ys) || list_any (indexes_constant k) (reached_occurrences before (xs ++ ys)))
      constant_both k =
          or_four (list_any (indexes_constant k) xs) (list_any (indexes_constant k) (reached_occurrences before xs)) (list_any (indexes_constant k) ys) (list_any (indexes_constant k) (reached_occurrences before ys)) ∙
          sym (or_both _ _ _ _ (list_any-append (indexes_constant k) xs ys)
          (ap (list_any (indexes_constant k)) (flat_map-append (λ m. (call_tree_of before m).occurrences) xs ys) ∙ list_any-append (indexes_constant k) (reached_occurrences before xs) (reached_occurrences before ys)))

      first_lengths : lengths_where structs (λ n. g n || h n) from new ≡ lengths_where structs g from new
      first_lengths = lengths-same structs (λ n. g n || h n) g from from new (λ j low. or_false (g (from + j)) (h (from + j))
          (untouched next ys h more b (from + j) (omega (arith, high, room)) (inr (omega (arith, room))) (inl (omega (arith, low, is)))))

      last_lengths : lengths_where structs (λ n. g n || h n) (from + length new) more ≡ lengths_where structs h next more
      last_lengths = lengths-same structs (λ n. g n || h n) h (from + length new) next more (λ j low.
          or_none (g ((from + length new) + j)) (h ((from + length new) + j)) (untouched from xs g new a ((from + length new) + j) (omega (arith, high, room)) (inr (omega (arith, room))) (inr (omega arith))) ∙
          ap (λ k. h (k + j)) (sym is))

      all_lengths : lengths_where structs (λ n. g n || h n) from (new ++ more) ≡ lengths_where structs g from new ++ lengths_where structs h next more
      all_lengths = lengths-append structs (λ n. g n || h n) from new more ∙
          (ap (λ l. l ++ lengths_where structs (λ n. g n || h n) (from + length new) more) first_lengths ∙ ap (λ l. lengths_where structs g from new ++ l) last_lengths)

      by_case : (n : ℕ) → (g n ≡ true) ⊎ (h n ≡ true) → (n < constants) ⊎ (((first ≤ n) × (n < first + size)) ⊎ ((from ≤ n) × (n < from + length (new ++ more))))
      by_case n (inl is_first) = wider (a.within n is_first)
        where
          wider : (n < constants) ⊎ (((first ≤ n) × (n < first + size)) ⊎ ((from ≤ n) × (n < from + length new))) → (n < constants) ⊎ (((first ≤ n) × (n < first + size)) ⊎ ((from ≤ n) × (n < from + length (new ++ more))))
          wider (inl low) = inl low
          wider (inr (inl own)) = inr (inl own)
          wider (inr (inr there)) = inr (inr (there.0, omega (arith, there.1, length-append new more)))
      by_case n (inr is_second) = wider (b.within n is_second)
        where
          wider : (n < constants) ⊎ (((first ≤ n) × (n < first + size)) ⊎ ((next ≤ n) × (n < next + length more))) → (n < constants) ⊎ (((first ≤ n) × (n < first + size)) ⊎ ((from ≤ n) × (n < from + length (new ++ more))))
          wider (inl low) = inl low
          wider (inr (inl own)) = inr (inl own)
          wider (inr (inr there)) = inr (inr (omega (arith, there.0, is), omega (arith, there.1, is, length-append new more)))

  -- two pieces of occurrences in the other order
  pub touches_moved : (from : ℕ) (us vs ws xs : List Occurrence) (h : ℕ → Bool) (new : List Variable) → Touches structs before constants first size from (us ++ (vs ++ (ws ++ xs))) h new →
      Touches structs before constants first size from (us ++ (ws ++ (vs ++ xs))) h new
  touches_moved from us vs ws xs h new t = record {
    own = λ v low. t.own v low ∙ any_moved (indexes_variable v) us vs ws xs;
    constant = λ k low. t.constant k low ∙ or_both _ _ _ _ (any_moved (indexes_constant k) us vs ws xs) (occurrences_moved k);
    lengths = IsPermutation-trans _ _ _ t.lengths lengths_moved;
    within = t.within;
  }
    where
      flat_four : {A : Type 0} (f : Occurrence → List A) (us vs ws xs : List Occurrence) → flat_map f (us ++ (vs ++ (ws ++ xs))) ≡ flat_map f us ++ (flat_map f vs ++ (flat_map f ws ++ flat_map f xs))
      flat_four f us vs ws xs =
          flat_map-append f us (vs ++ (ws ++ xs)) ∙ ap (λ x. flat_map f us ++ x) (flat_map-append f vs (ws ++ xs) ∙ ap (λ x. flat_map f vs ++ x) (flat_map-append f ws xs))

      occurrences_of_call : Occurrence → List Occurrence
      occurrences_of_call m = (call_tree_of before m).occurrences

      lengths_of_call : Occurrence → List ℕ
      lengths_of_call m = (call_tree_of before m).lengths

      occurrences_moved : (k : ℕ) → list_any (indexes_constant k) (reached_occurrences before (us ++ (vs ++ (ws ++ xs)))) ≡ list_any (indexes_constant k) (reached_occurrences before (us ++ (ws ++ (vs ++ xs))))
      occurrences_moved k =
          ap (list_any (indexes_constant k)) (flat_four occurrences_of_call us vs ws xs) ∙
          (any_moved (indexes_constant k) (flat_map occurrences_of_call us) (flat_map occurrences_of_call vs) (flat_map occurrences_of_call ws) (flat_map occurrences_of_call xs) ∙
          sym (ap (list_any (indexes_constant k)) (flat_four occurrences_of_call us ws vs xs)))

      swap_middle : (us vs ws xs : List ℕ) → IsPermutation (us ++ (vs ++ (ws ++ xs))) (us ++ (ws ++ (vs ++ xs)))
      swap_middle us vs ws xs =
          IsPermutation-append_right us (vs ++ (ws ++ xs)) (ws ++ (vs ++ xs))
          (subst (λ l. IsPermutation l (ws ++ (vs ++ xs))) (append_assoc vs ws xs)
          (subst (IsPermutation ((vs ++ ws) ++ xs)) (append_assoc ws vs xs) (IsPermutation-append_left xs (vs ++ ws) (ws ++ vs) (IsPermutation-append_comm vs ws))))

      lengths_moved : IsPermutation (reached_lengths before (us ++ (vs ++ (ws ++ xs)))) (reached_lengths before (us ++ (ws ++ (vs ++ xs))))
      lengths_moved =
          subst (λ l. IsPermutation l (reached_lengths before (us ++ (ws ++ (vs ++ xs))))) (sym (flat_four lengths_of_call us vs ws xs))
          (subst (IsPermutation (flat_map lengths_of_call us ++ (flat_map lengths_of_call vs ++ (flat_map lengths_of_call ws ++ flat_map lengths_of_call xs)))) (sym (flat_four lengths_of_call us ws vs xs))
          (swap_middle (flat_map lengths_of_call us) (flat_map lengths_of_call vs) (flat_map lengths_of_call ws) (flat_map lengths_of_call xs)))

  -- the other order of occurrences
  pub touches_swapped : (from : ℕ) (xs ys : List Occurrence) (h : ℕ → Bool) (new : List Variable) → Touches structs before constants first size from (xs ++ ys) h new →
      Touches structs before constants first size from (ys ++ xs) h new
  touches_swapped from xs ys h new t =
      subst (λ l. Touches structs before constants first size from (ys ++ l) h new) (append-nil xs)
      (touches_moved from [] xs ys [] h new (subst (λ l. Touches structs before constants first size from (xs ++ l) h new) (sym (append-nil ys)) t))

  -- a variable behind all that isn't indexed
  pub touches_unnamed : constants ≤ first → (from : ℕ) → first + size ≤ from → (occurrences : List Occurrence) (h : ℕ → Bool) (new more : List Variable) → Touches structs before constants first size from occurrences h new →
      Touches structs before constants first size from occurrences h (new ++ more)
  touches_unnamed high from room occurrences h new more t = record {
    own = t.own;
    constant = t.constant;
    lengths = subst (λ l. IsPermutation l (reached_lengths before occurrences)) (sym all_lengths) t.lengths;
    within = λ n is. wider n (t.within n is);
  }
    where
      all_lengths : lengths_where structs h from (new ++ more) ≡ lengths_where structs h from new
      all_lengths = lengths-append structs h from new more ∙
          (ap (λ l. lengths_where structs h from new ++ l) (lengths-none structs h (from + length new) more (λ j low.
          untouched from occurrences h new t ((from + length new) + j) (omega (arith, high, room)) (inr (omega (arith, room))) (inr (omega arith)))) ∙
          append-nil (lengths_where structs h from new))

      wider : (n : ℕ) → (n < constants) ⊎ (((first ≤ n) × (n < first + size)) ⊎ ((from ≤ n) × (n < from + length new))) → (n < constants) ⊎ (((first ≤ n) × (n < first + size)) ⊎ ((from ≤ n) × (n < from + length (new ++ more))))
      wider n (inl low) = inl low
      wider n (inr (inl own)) = inr (inl own)
      wider n (inr (inr there)) = inr (inr (there.0, omega (arith, there.1, length-append new more)))
