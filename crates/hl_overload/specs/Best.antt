-- The best of some candidates, one after another.
use Rattle.std.specs.Prelude.{ℕ, suc, ◌==◌, if◌then◌else◌, nat_lt, List, [], ◌∷◌, Option, Some, None, unwrap_or}
use Rattle.std.specs.declared.result.Result.{Result}
use Rattle.std.specs.declared.result.Result.TheVariants.{Ok, Err}
use Rattle.hl_meaning.specs.Types.{Ty}
use Rattle.hl_overload.specs.declared.best.Best.{Best}
use Rattle.hl_overload.specs.declared.choice.ChoiceFault.{ChoiceFault}
use Rattle.hl_overload.specs.declared.choice.ChoiceFault.TheVariants.{NoMatch, Ambiguous}
use Rattle.hl_overload.specs.Choice.{Param, sums_of}

-- the best with one more candidate behind the others
abbrev pub joined : Option Best → (place sum : ℕ) → Best
joined None place sum = record { sum = sum; first = place; second = None }
joined (Some old) place sum =
    if nat_lt old.sum sum then old else (
    if old.sum == sum then record old { second = Some (unwrap_or old.second place) }
    else record { sum = sum; first = place; second = None })

-- the best with one more candidate, which may not fit
abbrev pub next : Option Best → (place : ℕ) → Option ℕ → Option Best
next best place None = best
next best place (Some sum) = Some (joined best place sum)

abbrev pub answer_of : (first : ℕ) → (second : Option ℕ) → Result ℕ ChoiceFault
answer_of first None = Ok first
answer_of first (Some second) = Err (Ambiguous first second)

-- what the best candidates answer
abbrev pub best_answer : Option Best → Result ℕ ChoiceFault
best_answer None = Err NoMatch
best_answer (Some best) = answer_of best.first best.second

-- the best with candidates of these sums behind others, of which the first has the place
abbrev pub best_with : (place : ℕ) → Option Best → List (Option ℕ) → Option Best
best_with place best [] = best
best_with place best (sum ∷ sums) = best_with (suc place) (next best place sum) sums

-- the answer, computed
abbrev pub choice_of : List (List Param) → (args : List Ty) → Result ℕ ChoiceFault
choice_of candidates args = best_answer (best_with 0 None (sums_of candidates args))
