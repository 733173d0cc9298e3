-- The best of the candidates so far, and one more.
use Rattle.std.proofs.Common.{◌≡◌, ◌∙◌, refl, sym, ap, subst, ℕ, zero, suc, ◌<◌, ◌≤◌, ◌==◌, ◌⊎◌, inl, inr, if◌then◌else◌, List, [], ◌∷◌, ◌++◌, length, unwrap_or, Option, None, Some, eq-eqb, arith}
use Rattle.std.proofs.lemmas.Bool.{cases_lt, le-ltb, lt-ltb, ne_eqb}
use Rattle.std.proofs.lemmas.Option.{none-some, same_Some, slice_get_within}
use Rattle.hl_overload.specs.declared.best.Best.{Best}
use Rattle.hl_overload.specs.Best.{best_answer, joined, next}
use Rattle.hl_overload.specs.Choice.{Chooses, Fits, IsLeast, IsNoMatch}

-- who else has the least sum
abbrev pub IsSecond : List (Option ℕ) → (sum first : ℕ) → (second : Option ℕ) → Type 0
IsSecond sums sum first None = (other : ℕ) → Fits sums other sum → other ≡ first
IsSecond sums sum first (Some second) = Fits sums second sum × (first < second) × ((other : ℕ) → Fits sums other sum → (other ≡ first) ⊎ (second ≤ other))

pub record IsBestOf (sums : List (Option ℕ)) (b : Best) : Type 0 where
  pub fits : Fits sums b.first b.sum
  pub least : IsLeast sums b.sum
  pub second : IsSecond sums b.sum b.first b.second

abbrev pub IsBest : List (Option ℕ) → Option Best → Type 0
IsBest sums None = IsNoMatch sums
IsBest sums (Some b) = IsBestOf sums b

pub Fits-front : (sums : List (Option ℕ)) (c : Option ℕ) (place sum : ℕ) → Fits sums place sum → Fits (sums ++ c ∷ []) place sum
Fits-front [] c place sum fits = absurd (none-some (Some sum) fits)
Fits-front (s ∷ sums) c zero sum fits = fits
Fits-front (s ∷ sums) c (suc place) sum fits = Fits-front sums c place sum fits

pub Fits-here : (sums : List (Option ℕ)) (sum : ℕ) → Fits (sums ++ Some sum ∷ []) (length sums) sum
Fits-here [] sum = refl
Fits-here (s ∷ sums) sum = Fits-here sums sum

pub Fits-cases : (sums : List (Option ℕ)) (c : Option ℕ) (place sum : ℕ) → Fits (sums ++ c ∷ []) place sum → Fits sums place sum ⊎ ((place ≡ length sums) × (c ≡ Some sum))
Fits-cases [] c zero sum fits = inr (refl, same_Some c (Some sum) fits)
Fits-cases [] c (suc place) sum fits = absurd (none-some (Some sum) fits)
Fits-cases (s ∷ sums) c zero sum fits = inl fits
Fits-cases (s ∷ sums) c (suc place) sum fits = one_on (Fits-cases sums c place sum fits)
  where
    one_on : Fits sums place sum ⊎ ((place ≡ length sums) × (c ≡ Some sum)) → Fits sums place sum ⊎ ((suc place ≡ suc (length sums)) × (c ≡ Some sum))
    one_on (inl earlier) = inl earlier
    one_on (inr here) = inr (ap suc here.0, here.1)

-- what fits among the sums and one that doesn't fit, fits among the sums
pub Fits-none : (sums : List (Option ℕ)) (place sum : ℕ) → Fits (sums ++ None ∷ []) place sum → Fits sums place sum
Fits-none sums place sum fits = earlier (Fits-cases sums None place sum fits)
  where
    earlier : Fits sums place sum ⊎ ((place ≡ length sums) × (None ≡ Some sum)) → Fits sums place sum
    earlier (inl f) = f
    earlier (inr here) = absurd (none-some sum here.1)

-- what fits among the sums and one more, fits among the sums, or is that one
pub Fits-some : (sums : List (Option ℕ)) (new place sum : ℕ) → Fits (sums ++ Some new ∷ []) place sum → Fits sums place sum ⊎ ((place ≡ length sums) × (new ≡ sum))
Fits-some sums new place sum fits = number (Fits-cases sums (Some new) place sum fits)
  where
    number : Fits sums place sum ⊎ ((place ≡ length sums) × (Some new ≡ Some sum)) → Fits sums place sum ⊎ ((place ≡ length sums) × (new ≡ sum))
    number (inl f) = inl f
    number (inr here) = inr (here.0, same_Some new sum here.1)

pub Fits-below : (sums : List (Option ℕ)) (place sum : ℕ) → Fits sums place sum → place < length sums
Fits-below sums place sum fits = slice_get_within sums place (Some sum) fits

pub joined-less : (b : Best) (place sum : ℕ) → b.sum < sum → joined (Some b) place sum ≡ b
joined-less b place sum less =
    ap (λ t. if t then b else (if b.sum == sum then record b { second = Some (unwrap_or b.second place) } else record { sum = sum; first = place; second = None })) (lt-ltb b.sum sum less)

pub joined-same : (b : Best) (place sum : ℕ) → b.sum ≡ sum → joined (Some b) place sum ≡ record b { second = Some (unwrap_or b.second place) }
joined-same b place sum same =
    ap (λ t. if t then b else (if b.sum == sum then record b { second = Some (unwrap_or b.second place) } else record { sum = sum; first = place; second = None })) (le-ltb b.sum sum (omega (arith, same))) ∙
    ap (λ t. if t then record b { second = Some (unwrap_or b.second place) } else record { sum = sum; first = place; second = None }) (eq-eqb b.sum sum same)

pub joined-more : (b : Best) (place sum : ℕ) → sum < b.sum → joined (Some b) place sum ≡ record { sum = sum; first = place; second = None }
joined-more b place sum more =
    ap (λ t. if t then b else (if b.sum == sum then record b { second = Some (unwrap_or b.second place) } else record { sum = sum; first = place; second = None })) (le-ltb b.sum sum (omega (arith, more))) ∙
    ap (λ t. if t then record b { second = Some (unwrap_or b.second place) } else record { sum = sum; first = place; second = None }) (ne_eqb b.sum sum (λ e. omega (arith, e, more)))

-- a candidate that doesn't fit changes nothing
pub best_none : (sums : List (Option ℕ)) (best : Option Best) → IsBest sums best → IsBest (sums ++ None ∷ []) best
best_none sums None is = λ place sum fits. is place sum (Fits-none sums place sum fits)
best_none sums (Some b) is = record {
  fits = Fits-front sums None b.first b.sum is.fits;
  least = λ place sum fits. is.least place sum (Fits-none sums place sum fits);
  second = same_second b.second is.second;
}
  where
    same_second : (second : Option ℕ) → IsSecond sums b.sum b.first second → IsSecond (sums ++ None ∷ []) b.sum b.first second
    same_second None alone = λ other fits. alone other (Fits-none sums other b.sum fits)
    same_second (Some second) two = (Fits-front sums None second b.sum two.0, two.1, λ other fits. two.2 other (Fits-none sums other b.sum fits))

-- the first one that fits
pub best_first : (sums : List (Option ℕ)) (sum : ℕ) → IsNoMatch sums → IsBestOf (sums ++ Some sum ∷ []) (record { sum = sum; first = length sums; second = None })
best_first sums sum nothing = record {
  fits = Fits-here sums sum;
  least = λ place other fits. least other (Fits-some sums sum place other fits);
  second = λ other fits. alone other (Fits-some sums sum other sum fits);
}
  where
    least : {place : ℕ} (other : ℕ) → Fits sums place other ⊎ ((place ≡ length sums) × (sum ≡ other)) → sum ≤ other
    least {place} other (inl f) = absurd (nothing place other f)
    least other (inr here) = omega (arith, here.1)

    alone : (other : ℕ) → Fits sums other sum ⊎ ((other ≡ length sums) × (sum ≡ sum)) → other ≡ length sums
    alone other (inl f) = absurd (nothing other sum f)
    alone other (inr here) = here.0

-- one of a greater sum changes nothing
pub best_less : (sums : List (Option ℕ)) (b : Best) (sum : ℕ) → b.sum < sum → IsBestOf sums b → IsBestOf (sums ++ Some sum ∷ []) b
best_less sums b sum less is = record {
  fits = Fits-front sums (Some sum) b.first b.sum is.fits;
  least = λ place other fits. least place other (Fits-some sums sum place other fits);
  second = same_second b.second is.second;
}
  where
    least : (place other : ℕ) → Fits sums place other ⊎ ((place ≡ length sums) × (sum ≡ other)) → b.sum ≤ other
    least place other (inl f) = is.least place other f
    least place other (inr here) = omega (arith, less, here.1)

    earlier : (other : ℕ) → Fits sums other b.sum ⊎ ((other ≡ length sums) × (sum ≡ b.sum)) → Fits sums other b.sum
    earlier other (inl f) = f
    earlier other (inr here) = absurd (omega (arith, less, here.1))

    same_second : (second : Option ℕ) → IsSecond sums b.sum b.first second → IsSecond (sums ++ Some sum ∷ []) b.sum b.first second
    same_second None alone = λ other fits. alone other (earlier other (Fits-some sums sum other b.sum fits))
    same_second (Some second) two =
        (Fits-front sums (Some sum) second b.sum two.0, two.1, λ other fits. two.2 other (earlier other (Fits-some sums sum other b.sum fits)))

-- one of the same sum is the second, where there was none
pub best_same : (sums : List (Option ℕ)) (b : Best) (sum : ℕ) → b.sum ≡ sum → IsBestOf sums b → IsBestOf (sums ++ Some sum ∷ []) (record b { second = Some (unwrap_or b.second (length sums)) })
best_same sums b sum same is = record {
  fits = Fits-front sums (Some sum) b.first b.sum is.fits;
  least = λ place other fits. least place other (Fits-some sums sum place other fits);
  second = a_second b.second is.second;
}
  where
    least : (place other : ℕ) → Fits sums place other ⊎ ((place ≡ length sums) × (sum ≡ other)) → b.sum ≤ other
    least place other (inl f) = is.least place other f
    least place other (inr here) = omega (arith, same, here.1)

    a_second : (second : Option ℕ) → IsSecond sums b.sum b.first second → IsSecond (sums ++ Some sum ∷ []) b.sum b.first (Some (unwrap_or second (length sums)))
    a_second None alone = (
      subst (λ n. Fits (sums ++ Some sum ∷ []) (length sums) n) (sym same) (Fits-here sums sum),
      Fits-below sums b.first b.sum is.fits,
      λ other fits. two other (Fits-some sums sum other b.sum fits),
    )
      where
        two : (other : ℕ) → Fits sums other b.sum ⊎ ((other ≡ length sums) × (sum ≡ b.sum)) → (other ≡ b.first) ⊎ (length sums ≤ other)
        two other (inl f) = inl (alone other f)
        two other (inr here) = inr (omega (arith, here.0))
    a_second (Some second) seconds = (
      Fits-front sums (Some sum) second b.sum seconds.0,
      seconds.1,
      λ other fits. two other (Fits-some sums sum other b.sum fits),
    )
      where
        below : second < length sums
        below = Fits-below sums second b.sum seconds.0

        two : (other : ℕ) → Fits sums other b.sum ⊎ ((other ≡ length sums) × (sum ≡ b.sum)) → (other ≡ b.first) ⊎ (second ≤ other)
        two other (inl f) = seconds.2 other f
        two other (inr here) = inr (omega (arith, here.0, below))

-- one of a smaller sum is the best
pub best_more : (sums : List (Option ℕ)) (b : Best) (sum : ℕ) → sum < b.sum → IsBestOf sums b → IsBestOf (sums ++ Some sum ∷ []) (record { sum = sum; first = length sums; second = None })
best_more sums b sum more is = record {
  fits = Fits-here sums sum;
  least = λ place other fits. least place other (Fits-some sums sum place other fits);
  second = λ other fits. alone other (Fits-some sums sum other sum fits);
}
  where
    least : (place other : ℕ) → Fits sums place other ⊎ ((place ≡ length sums) × (sum ≡ other)) → sum ≤ other
    least place other (inl f) = let bound = is.least place other f in omega (arith, more, bound)
    least place other (inr here) = omega (arith, here.1)

    alone : (other : ℕ) → Fits sums other sum ⊎ ((other ≡ length sums) × (sum ≡ sum)) → other ≡ length sums
    alone other (inl f) = let bound = is.least other sum f in absurd (omega (arith, more, bound))
    alone other (inr here) = here.0

-- one more candidate
pub best_next : (sums : List (Option ℕ)) (best : Option Best) (c : Option ℕ) → IsBest sums best → IsBest (sums ++ c ∷ []) (next best (length sums) c)
best_next sums best None is = best_none sums best is
best_next sums None (Some sum) is = best_first sums sum is
best_next sums (Some b) (Some sum) is = by_sum (cases_lt b.sum sum)
  where
    not_less : (sum < b.sum) ⊎ (b.sum ≤ sum) → sum ≤ b.sum → IsBestOf (sums ++ Some sum ∷ []) (joined (Some b) (length sums) sum)
    not_less (inl more) upper = subst (IsBestOf (sums ++ Some sum ∷ [])) (sym (joined-more b (length sums) sum more)) (best_more sums b sum more is)
    not_less (inr lower) upper =
        let same : b.sum ≡ sum = omega (arith, lower, upper) in
        subst (IsBestOf (sums ++ Some sum ∷ [])) (sym (joined-same b (length sums) sum same)) (best_same sums b sum same is)

    by_sum : (b.sum < sum) ⊎ (sum ≤ b.sum) → IsBestOf (sums ++ Some sum ∷ []) (joined (Some b) (length sums) sum)
    by_sum (inl less) = subst (IsBestOf (sums ++ Some sum ∷ [])) (sym (joined-less b (length sums) sum less)) (best_less sums b sum less is)
    by_sum (inr upper) = not_less (cases_lt sum b.sum) upper

-- the best of all candidates is the answer
pub best_chooses : (sums : List (Option ℕ)) (best : Option Best) → IsBest sums best → Chooses sums (best_answer best)
best_chooses sums None is = is
best_chooses sums (Some b) is = by_second b.second is.second
  where
    by_second : (second : Option ℕ) → IsSecond sums b.sum b.first second → Chooses sums (best_answer (Some (record b { second = second })))
    by_second None alone = record { sum = b.sum; fits = is.fits; least = is.least; alone = alone }
    by_second (Some second) two =
        record { sum = b.sum; first_fits = is.fits; second_fits = two.0; in_order = two.1; least = is.least; first_two = two.2 }
