-- The answer that is computed is the one that the relation says.
use Rattle.std.proofs.Common.{◌≡◌, sym, subst, ℕ, suc, List, [], ◌∷◌, ◌++◌, length, Option, None, Some, append_assoc, arith}
use Rattle.std.proofs.lemmas.List.{append-nil, length_push}
use Rattle.std.proofs.lemmas.Option.{none-some}
use Rattle.hl_meaning.specs.Types.{Ty}
use Rattle.hl_overload.specs.declared.best.Best.{Best}
use Rattle.hl_overload.specs.Best.{best_with, choice_of, next}
use Rattle.hl_overload.specs.Choice.{Chooses, Param, sums_of}
use Rattle.hl_overload.proofs.BestLemmas.{IsBest, best_chooses, best_next}

-- the best of some is the best of these and more
pub best_with-all : (before sums : List (Option ℕ)) (best : Option Best) → IsBest before best → IsBest (before ++ sums) (best_with (length before) best sums)
best_with-all before [] best is = subst (λ ss. IsBest ss best) (sym (append-nil before)) is
best_with-all before (c ∷ sums) best is =
    let longer : length (before ++ c ∷ []) ≡ suc (length before) = omega (arith, length_push before c) in
    let more : IsBest ((before ++ c ∷ []) ++ sums) (best_with (length (before ++ c ∷ [])) (next best (length before) c) sums) = best_with-all (before ++ c ∷ []) sums (next best (length before) c) (best_next before best c is) in
    subst (λ ss. IsBest ss (best_with (suc (length before)) (next best (length before) c) sums)) (append_assoc before (c ∷ []) sums)
    (subst (λ n. IsBest ((before ++ c ∷ []) ++ sums) (best_with n (next best (length before) c) sums)) longer more)

pub choice_of-chooses : (candidates : List (List Param)) (args : List Ty) → Chooses (sums_of candidates args) (choice_of candidates args)
choice_of-chooses candidates args =
    let sums = sums_of candidates args in
    best_chooses sums (best_with 0 None sums) (best_with-all [] sums None (λ place sum fits. none-some (Some sum) fits))
