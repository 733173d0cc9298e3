-- One turn of the loop over the candidates, and its end.
use Rattle.std.proofs.Common.{◌≡◌, ◌∙◌, sym, ap, subst, ℕ, ◌+◌, ◌<◌, ◌≤◌, List, [], ◌∷◌, ◌++◌, map, take, length, get_or, Option, arith}
use Rattle.std.proofs.lemmas.List.{length-map, length-take-le, map_push, take-map, take_all, take_more}
use Rattle.hl_meaning.specs.Types.{Ty}
use Rattle.hl_overload.specs.declared.best.Best.{Best}
use Rattle.hl_overload.specs.declared.choice.Candidate.{Candidate}
use Rattle.hl_overload.specs.Best.{next}
use Rattle.hl_overload.specs.Choice as plain
use Rattle.hl_overload.specs.Choice.{sum_of_costs, sums_of}
use Rattle.hl_overload.specs.Views.{plain_candidates, plain_params}
use Rattle.hl_overload.proofs.BestLemmas.{IsBest, best_next}

abbrev pub params_of : Candidate → List plain.Param
params_of c = plain_params c.params

-- the sums of the first candidates
pub take-sums_of : (n : ℕ) (candidates : List Candidate) (args : List Ty) → take n (sums_of (plain_candidates candidates) args) ≡ sums_of (plain_candidates (take n candidates)) args
take-sums_of n candidates args =
    take-map (λ params. sum_of_costs params args) n (map params_of candidates) ∙ ap (map (λ params. sum_of_costs params args)) (take-map params_of n candidates)

pub length-sums_of : (candidates : List Candidate) (args : List Ty) → length (sums_of (plain_candidates candidates) args) ≡ length candidates
length-sums_of candidates args =
    length-map (map params_of candidates) (λ params. sum_of_costs params args) ∙ length-map candidates params_of

pub best_turn : (candidates : List Candidate) (args : List Ty) (i : ℕ) (x : Candidate) (best new : Option Best) (sum : Option ℕ) → i < length candidates → x ≡ get_or candidates i x →
    IsBest (take i (sums_of (plain_candidates candidates) args)) best → sum ≡ sum_of_costs (plain_params x.params) args → new ≡ next best i sum →
    IsBest (take (i + 1) (sums_of (plain_candidates candidates) args)) new
best_turn candidates args i x best new sum within read before of_sum is =
    let sums = sums_of (plain_candidates candidates) args in
    let front : take (i + 1) sums ≡ take i sums ++ sum_of_costs (plain_params x.params) args ∷ [] =
    take-sums_of (i + 1) candidates args ∙
    (ap (λ cs. sums_of (plain_candidates cs) args) (take_more candidates i x within ∙ ap (λ y. take i candidates ++ y ∷ []) (sym read)) ∙
    (ap (map (λ params. sum_of_costs params args)) (map_push params_of (take i candidates) x) ∙
    (map_push (λ params. sum_of_costs params args) (map params_of (take i candidates)) (params_of x) ∙
    ap (λ ss. ss ++ sum_of_costs (plain_params x.params) args ∷ []) (sym (take-sums_of i candidates args))))) in
    let so_far : length (take i sums) ≡ i = length-take-le i sums (subst (λ n. i ≤ n) (sym (length-sums_of candidates args)) (omega (arith, within))) in
    let joined_here : next best (length (take i sums)) (sum_of_costs (plain_params x.params) args) ≡ new =
    ap (λ n. next best n (sum_of_costs (plain_params x.params) args)) so_far ∙ sym (is ∙ ap (λ s. next best i s) of_sum) in
    subst (λ ss. IsBest ss new) (sym front) (subst (IsBest (take i sums ++ sum_of_costs (plain_params x.params) args ∷ [])) joined_here (best_next (take i sums) best (sum_of_costs (plain_params x.params) args) before))

pub best_end : (candidates : List Candidate) (args : List Ty) (i : ℕ) (best : Option Best) → length candidates ≤ i → IsBest (take i (sums_of (plain_candidates candidates) args)) best →
    IsBest (sums_of (plain_candidates candidates) args) best
best_end candidates args i best past is =
    subst (λ ss. IsBest ss best) (take_all i (sums_of (plain_candidates candidates) args) (subst (λ n. n ≤ i) (sym (length-sums_of candidates args)) past)) is
