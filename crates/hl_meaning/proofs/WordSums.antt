-- Sums of words that stop on the way.
use Rattle.std.proofs.Common.{◌≡◌, ◌∙◌, refl, sym, ap, ℕ, ◌+◌, ◌<◌, List, [], ◌∷◌, ◌++◌, map, take, sum_by, length, get_or}
use Rattle.std.proofs.lemmas.List.{take_more}
use Rattle.std.proofs.lemmas.List.Sums.{sum_by-cons, sum_by_push}
use Rattle.hl_meaning.specs.Stopping.{stopped}
use Rattle.hl_meaning.proofs.SumLemmas.{stopped-add}

pub sum_by-map : {A B : Type 0} (f : B → ℕ) (g : A → B) (xs : List A) → sum_by f (map g xs) ≡ sum_by (λ x. f (g x)) xs
sum_by-map f g [] = refl
sum_by-map f g (x ∷ xs) = sum_by-cons f (g x) (map g xs) ∙ (ap (λ n. f (g x) + n) (sum_by-map f g xs) ∙ sym (sum_by-cons (λ y. f (g y)) x xs))

-- one turn of a loop that adds up
pub stopped_sum_more : {A : Type 0} (f : A → ℕ) (xs : List A) (i : ℕ) (x : A) (old one new : ℕ) → i < length xs → x ≡ get_or xs i x →
    old ≡ stopped (sum_by f (take i xs)) → one ≡ stopped (f x) → new ≡ stopped (old + one) → new ≡ stopped (sum_by f (take (i + 1) xs))
stopped_sum_more f xs i x old one new within read before of_one is =
    is ∙ (ap (λ n. stopped (n + one)) before ∙ (ap (λ n. stopped (stopped (sum_by f (take i xs)) + n)) of_one ∙ (stopped-add (sum_by f (take i xs)) (f x) ∙
    sym (ap (λ ys. stopped (sum_by f ys)) (take_more xs i x within ∙ ap (λ y. take i xs ++ y ∷ []) (sym read)) ∙ ap stopped (sum_by_push f (take i xs) x)))))
