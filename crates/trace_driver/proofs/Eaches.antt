-- What each of a list gives, read from the front.
use Rattle.std.proofs.Common.{◌≡◌, refl, sym, ap, ◌∙◌, ℕ, ◌+◌, ◌<◌, drop, get_or, length, List, [], ◌∷◌, ◌++◌, map, append_assoc, append-nil}
use Rattle.std.specs.Prelude.{Option, None, Some, option_map, option_and_then}
use Rattle.std.proofs.lemmas.List.{at_drop_more}
use Rattle.trace_driver.specs.Requests.{each_of}

module _ {A B C : Type 0} (f : B → Option C) (view : A → B) where
  -- what was given so far, and then what the rest gives
  abbrev pub with_rest : List C → List A → Option (List C)
  with_rest done rest = option_map (λ more. done ++ more) (each_of f (map view rest))

  pub nothing_done : (rest : List A) → with_rest [] rest ≡ each_of f (map view rest)
  nothing_done rest = by (each_of f (map view rest)) where
    by : (o : Option (List C)) → option_map (λ more. [] ++ more) o ≡ o
    by None = refl
    by (Some more) = refl

  pub one_done : (done : List C) (x : A) (rest : List A) (y : C) → f (view x) ≡ Some y → with_rest done (x ∷ rest) ≡ with_rest (done ++ y ∷ []) rest
  one_done done x rest y e = ap (λ (o : Option C). option_map (λ more. done ++ more) (option_and_then (λ z. option_map (λ zs. z ∷ zs) (each_of f (map view rest))) o)) e ∙ by (each_of f (map view rest)) where
    by : (o : Option (List C)) → option_map (λ more. done ++ more) (option_map (λ zs. y ∷ zs) o) ≡ option_map (λ more. (done ++ y ∷ []) ++ more) o
    by None = refl
    by (Some more) = ap (λ (l : List C). Some l) (sym (append_assoc done (y ∷ []) more))

  pub one_fails : (done : List C) (x : A) (rest : List A) → f (view x) ≡ None → with_rest done (x ∷ rest) ≡ None
  one_fails done x rest e = ap (λ (o : Option C). option_map (λ more. done ++ more) (option_and_then (λ z. option_map (λ zs. z ∷ zs) (each_of f (map view rest))) o)) e

  pub all_done : (done : List C) → with_rest done [] ≡ Some done
  all_done done = ap (λ (l : List C). Some l) (append-nil done)

  -- one more is read, or the first that gives nothing

  rest_next : (done : List C) (xs : List A) (i : ℕ) (x : A) → i < length xs → x ≡ get_or xs i x → with_rest done (drop i xs) ≡ with_rest done (x ∷ drop (i + 1) xs)
  rest_next done xs i x within is = at_drop_more (λ (rest : List A). with_rest done rest) xs i x within ∙ ap (λ (z : A). with_rest done (z ∷ drop (i + 1) xs)) (sym is)

  pub rest_more : (done : List C) (xs : List A) (i : ℕ) (x : A) (y : C) (all : Option (List C)) → i < length xs → x ≡ get_or xs i x → f (view x) ≡ Some y
      → with_rest done (drop i xs) ≡ all → with_rest (done ++ y ∷ []) (drop (i + 1) xs) ≡ all
  rest_more done xs i x y all within is gives whole = sym (one_done done x (drop (i + 1) xs) y gives) ∙ (sym (rest_next done xs i x within is) ∙ whole)

  pub rest_fails : (done : List C) (xs : List A) (i : ℕ) (x : A) (all : Option (List C)) → i < length xs → x ≡ get_or xs i x → f (view x) ≡ None
      → with_rest done (drop i xs) ≡ all → None ≡ all
  rest_fails done xs i x all within is none whole = sym (one_fails done x (drop (i + 1) xs) none) ∙ (sym (rest_next done xs i x within is) ∙ whole)
