-- The candidate that a call chooses.
use Rattle.std.proofs.Common.{◌≡◌, ◌∙◌, refl, sym, ap, subst, arith, ℕ, zero, suc, ◌+◌, Bool, true, false, if◌then◌else◌, List, [], ◌∷◌, map, Option, None, Some, Result, Ok, Err, add-zero}
use Rattle.std.specs.Prelude.{bytes_eq, option_and_then, option_map, slice_get}
use Rattle.std.proofs.lemmas.Option.{none-some, option_and_then_some, same_Some}
use Rattle.hl_meaning.specs.Types.{Ty}
use Rattle.hl_overload.specs.declared.choice.ChoiceFault.{ChoiceFault}
use Rattle.hl_overload.specs.declared.choice.ChoiceFault.TheVariants.{Ambiguous, NoMatch}
use Rattle.hl_overload.specs.Best.{choice_of}
use Rattle.hl_overload.specs.Choice.{Chooses, IsChosen, Param, sum_of_costs, sums_of}
use Rattle.hl_overload.proofs.Computed.{choice_of-chooses}
use Rattle.hl_rules.specs.ExpressionRules.{is_ambiguous_choice, is_itself, is_none_fitting}
use Rattle.hl_rules.specs.Scopes.{FunctionInfo, Scope}
use Rattle.hl_rules.specs.Values.{Candidate, Value, argument_types, call_choice, called, candidates, candidates_from, chosen_candidate, params_known}
use Rattle.hl_rules.proofs.CallForms.{IsCandidate}
use Rattle.hl_rules.proofs.Fitting.{IsKnown, is_inside}

-- ---- candidates

abbrev pub candidate_of : ℕ → List Param → Candidate
candidate_of number params = record { number = number; params = params }

-- a candidate is a function of those from a number on
record IsAmong (number : ℕ) (functions : List FunctionInfo) (candidate : Candidate) : Type 0 where
  place : ℕ
  f : FunctionInfo
  there : slice_get functions place ≡ Some f
  params : params_known f.params ≡ Some candidate.params
  is : candidate.number ≡ number + place

among-later : (number : ℕ) (f : FunctionInfo) (functions : List FunctionInfo) (candidate : Candidate) → IsAmong (suc number) functions candidate → IsAmong number (f ∷ functions) candidate
among-later number f functions candidate a = record { place = suc a.place; f = a.f; there = a.there; params = a.params; is = a.is ∙ omega arith }

candidate-among : (number : ℕ) (name : List ℕ) (functions : List FunctionInfo) (found : List Candidate) (place : ℕ) (candidate : Candidate) → candidates_from number name functions ≡ Some found → slice_get found place ≡ Some candidate → IsAmong number functions candidate
candidate-among number name [] found place candidate e h =
    absurd (none-some candidate (subst (λ l. slice_get l place ≡ Some candidate) (sym (same_Some [] found e)) h))
candidate-among number name (f ∷ functions) found place candidate e h =
    on (bytes_eq f.name name) e (λ others n k l. candidate-among (suc number) name functions others n candidate k l)
  where
    first : (params : List Param) (others : List Candidate) (n : ℕ) → params_known f.params ≡ Some params → slice_get (candidate_of number params ∷ others) n ≡ Some candidate → ((m : ℕ) → slice_get others m ≡ Some candidate → IsAmong (suc number) functions candidate) → IsAmong number (f ∷ functions) candidate
    first params others zero p l rest =
        subst (λ c. IsAmong number (f ∷ functions) c) (same_Some (candidate_of number params) candidate l)
        (record { place = 0; f = f; there = refl; params = p; is = sym (add-zero number) })
    first params others (suc n) p l rest = among-later number f functions candidate (rest n l)

    on : (same : Bool) → (if same then option_and_then (λ params. option_map (λ more. candidate_of number params ∷ more) (candidates_from (suc number) name functions)) (params_known f.params) else candidates_from (suc number) name functions) ≡ Some found → ((others : List Candidate) (n : ℕ) → candidates_from (suc number) name functions ≡ Some others → slice_get others n ≡ Some candidate → IsAmong (suc number) functions candidate) → IsAmong number (f ∷ functions) candidate
    on false k rest = among-later number f functions candidate (rest found place k h)
    on true k rest =
        option_and_then_some (λ params. option_map (λ more. candidate_of number params ∷ more) (candidates_from (suc number) name functions)) (params_known f.params) found k
        (λ params p l. option_and_then_some (λ more. Some (candidate_of number params ∷ more)) (candidates_from (suc number) name functions) found l
        (λ others q m. first params others place p (subst (λ x. slice_get x place ≡ Some candidate) (sym (same_Some (candidate_of number params ∷ others) found m)) h) (λ n r. rest others n q r)))

-- the candidates, where all functions have parameters with types
candidates-known : (number : ℕ) (name : List ℕ) (functions : List FunctionInfo) → ((n : ℕ) (f : FunctionInfo) → slice_get functions n ≡ Some f → (known : List Param) × (params_known f.params ≡ Some known)) → (found : List Candidate) × (candidates_from number name functions ≡ Some found)
candidates-known number name [] known = ([], refl)
candidates-known number name (f ∷ functions) known =
    on (bytes_eq f.name name) (known 0 f refl) (candidates-known (suc number) name functions (λ n g e. known (suc n) g e))
  where
    both : (params : List Param) (others : List Candidate) → params_known f.params ≡ Some params → candidates_from (suc number) name functions ≡ Some others → option_and_then (λ params. option_map (λ more. candidate_of number params ∷ more) (candidates_from (suc number) name functions)) (params_known f.params) ≡ Some (candidate_of number params ∷ others)
    both params others e h = rw e (rw h refl)

    on : (same : Bool) → (params : List Param) × (params_known f.params ≡ Some params) → (others : List Candidate) × (candidates_from (suc number) name functions ≡ Some others) → (found : List Candidate) × ((if same then option_and_then (λ params. option_map (λ more. candidate_of number params ∷ more) (candidates_from (suc number) name functions)) (params_known f.params) else candidates_from (suc number) name functions) ≡ Some found)
    on true p o = (candidate_of number p.0 ∷ o.0, both p.0 o.0 p.1 o.1)
    on false p o = o

-- ---- choices

-- which candidate is called, and what it costs
pub record IsCalled (s : Scope) (name : List ℕ) (values : List Value) (types : List Ty) : Type 0 where
  pub candidate : Candidate
  pub is : called s name values ≡ Some candidate
  pub sum : ℕ
  pub costs : sum_of_costs candidate.params types ≡ Some sum
  pub f : FunctionInfo
  pub there : slice_get s.functions candidate.number ≡ Some f
  pub params : params_known f.params ≡ Some candidate.params

summed-at : (types : List Ty) (found : List Candidate) (place sum : ℕ) → slice_get (sums_of (map (λ c. c.params) found) types) place ≡ Some (Some sum) → (c : Candidate) × (slice_get found place ≡ Some c) × (sum_of_costs c.params types ≡ Some sum)
summed-at types [] place sum e = absurd (cc e)
summed-at types (c ∷ found) zero sum e = (c, refl, same_Some (sum_of_costs c.params types) (Some sum) e)
summed-at types (c ∷ found) (suc place) sum e = summed-at types found place sum e

-- an answer that is neither of the faults
chosen-place : (answer : Result ℕ ChoiceFault) → is_none_fitting (Some answer) ≡ false → is_ambiguous_choice (Some answer) ≡ false → (place : ℕ) × (answer ≡ Ok place)
chosen-place (Ok place) e h = (place, refl)
chosen-place (Err NoMatch) e h = absurd (cc e)
chosen-place (Err (Ambiguous first second)) e h = absurd (cc h)

choice-there : (s : Scope) (name : List ℕ) (values : List Value) (types : List Ty) (found : List Candidate) → argument_types values ≡ Some types → candidates s name ≡ Some found → call_choice s name values ≡ Some (choice_of (map (λ c. c.params) found) types)
choice-there s name values types found e h = rw e (rw h refl)

called-there : (s : Scope) (name : List ℕ) (values : List Value) (found : List Candidate) (place : ℕ) → candidates s name ≡ Some found → call_choice s name values ≡ Some (Ok place) → called s name values ≡ slice_get found place
called-there s name values found place e h =
    ap (λ o. option_and_then (chosen_candidate s name) o) h ∙ ap (λ o. option_and_then (λ l. slice_get l place) o) e

pub call-chosen : (s : Scope) → IsKnown s → (name : List ℕ) (values : List Value) (types : List Ty) → argument_types values ≡ Some types → is_none_fitting (call_choice s name values) ≡ false → is_ambiguous_choice (call_choice s name values) ≡ false → IsCalled s name values types
call-chosen s known name values types e fits clear = among (candidates-known 0 name s.functions (λ n f k. (known.functions n f k).params))
  where
    found-at : (found : List Candidate) (place : ℕ) → candidates s name ≡ Some found → call_choice s name values ≡ Some (Ok place) → (sum : ℕ) → (c : Candidate) × (slice_get found place ≡ Some c) × (sum_of_costs c.params types ≡ Some sum) → IsCalled s name values types
    found-at found place k l sum c =
        let a : IsAmong 0 s.functions c.0 = candidate-among 0 name s.functions found place c.0 k c.1 in
        record {
          candidate = c.0;
          is = called-there s name values found place k l ∙ c.1;
          sum = sum;
          costs = c.2;
          f = a.f;
          there = ap (λ n. slice_get s.functions n) (a.is ∙ omega arith) ∙ a.there;
          params = a.params;
        }

    at_place : (found : List Candidate) (place : ℕ) → candidates s name ≡ Some found → choice_of (map (λ c. c.params) found) types ≡ Ok place → IsCalled s name values types
    at_place found place k l =
        let chosen : IsChosen (sums_of (map (λ c. c.params) found) types) place = subst (λ r. Chooses (sums_of (map (λ c. c.params) found) types) r) l (choice_of-chooses (map (λ c. c.params) found) types) in
        found-at found place k (choice-there s name values types found e k ∙ ap Some l) chosen.sum (summed-at types found place chosen.sum chosen.fits)

    among : (found : List Candidate) × (candidates s name ≡ Some found) → IsCalled s name values types
    among r =
        let made : call_choice s name values ≡ Some (choice_of (map (λ c. c.params) r.0) types) = choice-there s name values types r.0 e r.1 in
        let p : (place : ℕ) × (choice_of (map (λ c. c.params) r.0) types ≡ Ok place) = chosen-place (choice_of (map (λ c. c.params) r.0) types) (ap (λ o. is_none_fitting o) (sym made) ∙ fits) (ap (λ o. is_ambiguous_choice o) (sym made) ∙ clear) in
        at_place r.0 p.0 r.1 p.1

-- the one that is called isn't the one whose body stands around
pub called-candidate : (s : Scope) (name : List ℕ) (values : List Value) (types : List Ty) (c : IsCalled s name values types) → is_itself s.inside (Some c.candidate) ≡ false → IsCandidate s c.candidate
called-candidate s name values types c e = record { f = c.f; there = c.there; params = c.params; other = on s.inside e }
  where
    on : (inside : Option ℕ) → is_itself inside (Some c.candidate) ≡ false → is_inside inside c.candidate.number ≡ false
    on None h = refl
    on (Some number) h = h
