-- A list of sums has at most one answer.
use Rattle.std.proofs.Common.{◌≡◌, ◌∙◌, refl, sym, ap, subst, ℕ, ◌<◌, ◌≤◌, ◌⊎◌, inl, inr, List, Option, arith}
use Rattle.std.specs.declared.result.Result.{Result}
use Rattle.std.specs.declared.result.Result.TheVariants.{Ok, Err}
use Rattle.hl_overload.specs.declared.choice.ChoiceFault.{ChoiceFault}
use Rattle.hl_overload.specs.declared.choice.ChoiceFault.TheVariants.{NoMatch, Ambiguous}
use Rattle.hl_overload.specs.Choice.{Chooses, Fits, IsAmbiguous, IsChosen, IsLeast}

-- two least sums are the same
pub least_once : (sums : List (Option ℕ)) (m n p q : ℕ) → Fits sums p m → IsLeast sums m → Fits sums q n → IsLeast sums n → m ≡ n
least_once sums m n p q first_fits first second_fits second =
    let below : m ≤ n = first q n second_fits in
    let above : n ≤ m = second p m first_fits in
    omega (arith, below, above)

pub chosen_once : (sums : List (Option ℕ)) (p q : ℕ) → IsChosen sums p → IsChosen sums q → p ≡ q
chosen_once sums p q one other =
    let same : one.sum ≡ other.sum = least_once sums one.sum other.sum p q one.fits one.least other.fits other.least in
    other.alone p (subst (λ n. Fits sums p n) same one.fits)

pub chosen_not_ambiguous : (sums : List (Option ℕ)) (p first second : ℕ) → IsChosen sums p → IsAmbiguous sums first second → ⊥
chosen_not_ambiguous sums p first second one two =
    let same : two.sum ≡ one.sum = least_once sums two.sum one.sum first p two.first_fits two.least one.fits one.least in
    let at_first : first ≡ p = one.alone first (subst (λ n. Fits sums first n) same two.first_fits) in
    let at_second : second ≡ p = one.alone second (subst (λ n. Fits sums second n) same two.second_fits) in
    let in_order : first < second = two.in_order in
    omega (arith, at_first, at_second, in_order)

-- the first of two is at or before the first of two others
pub first_below : (sums : List (Option ℕ)) (a b c d : ℕ) (one : IsAmbiguous sums a b) (other : IsAmbiguous sums c d) → a ≤ c
first_below sums a b c d one other = by_place (one.first_two c fits)
  where
    same : other.sum ≡ one.sum
    same = least_once sums other.sum one.sum c a other.first_fits other.least one.first_fits one.least

    fits : Fits sums c one.sum
    fits = subst (λ n. Fits sums c n) same other.first_fits

    by_place : (c ≡ a) ⊎ (b ≤ c) → a ≤ c
    by_place (inl is) = omega (arith, is)
    by_place (inr past) = let in_order : a < b = one.in_order in omega (arith, past, in_order)

-- where the first of each two is the same, the second is at or before the other second
pub second_below : (sums : List (Option ℕ)) (a b c d : ℕ) (one : IsAmbiguous sums a b) (other : IsAmbiguous sums c d) → a ≡ c → b ≤ d
second_below sums a b c d one other firsts = by_place (one.first_two d fits)
  where
    same : other.sum ≡ one.sum
    same = least_once sums other.sum one.sum c a other.first_fits other.least one.first_fits one.least

    fits : Fits sums d one.sum
    fits = subst (λ n. Fits sums d n) same other.second_fits

    by_place : (d ≡ a) ⊎ (b ≤ d) → b ≤ d
    by_place (inl is) = let in_order : c < d = other.in_order in absurd (omega (arith, is, firsts, in_order))
    by_place (inr past) = past

pub ambiguous_once : (sums : List (Option ℕ)) (a b c d : ℕ) → IsAmbiguous sums a b → IsAmbiguous sums c d → Ambiguous a b ≡ Ambiguous c d
ambiguous_once sums a b c d one other =
    let firsts : a ≡ c = let below = first_below sums a b c d one other in let above = first_below sums c d a b other one in omega (arith, below, above) in
    let seconds : b ≡ d = let below = second_below sums a b c d one other firsts in let above = second_below sums c d a b other one (sym firsts) in omega (arith, below, above) in
    ap (λ n. Ambiguous n b) firsts ∙ ap (λ n. Ambiguous c n) seconds

pub one_choice : (sums : List (Option ℕ)) (one other : Result ℕ ChoiceFault) → Chooses sums one → Chooses sums other → one ≡ other
one_choice sums (Ok p) (Ok q) one other = ap (λ n. Ok n) (chosen_once sums p q one other)
one_choice sums (Ok p) (Err NoMatch) one none = absurd (none p one.sum one.fits)
one_choice sums (Ok p) (Err (Ambiguous c d)) one two = absurd (chosen_not_ambiguous sums p c d one two)
one_choice sums (Err NoMatch) (Ok q) none other = absurd (none q other.sum other.fits)
one_choice sums (Err NoMatch) (Err NoMatch) none other = refl
one_choice sums (Err NoMatch) (Err (Ambiguous c d)) none two = absurd (none c two.sum two.first_fits)
one_choice sums (Err (Ambiguous a b)) (Ok q) two other = absurd (chosen_not_ambiguous sums q a b other two)
one_choice sums (Err (Ambiguous a b)) (Err NoMatch) two none = absurd (none a two.sum two.first_fits)
one_choice sums (Err (Ambiguous a b)) (Err (Ambiguous c d)) two other = ap (λ f. Err f) (ambiguous_once sums a b c d two other)
