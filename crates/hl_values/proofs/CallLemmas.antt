-- Which candidates there are, and which one is called.
use Rattle.std.proofs.Common.{◌≡◌, ◌∙◌, refl, sym, ap, subst, ℕ, zero, suc, Bool, true, false, if◌then◌else◌, List, [], ◌∷◌, ◌++◌, length, map, slice_get, Option, None, Some, Result, Ok, Err, arith}
use Rattle.std.specs.Prelude.{bytes_eq, option_and_then, option_map}
use Rattle.std.proofs.lemmas.List.{append_assoc, length-map, length_push}
use Rattle.std.proofs.lemmas.Option.{slice_get-map}
use Rattle.hl_meaning.specs.declared.expression.Arg.TheVariants as args
use Rattle.hl_meaning.specs.declared.expression.Expr.{Expr}
use Rattle.hl_meaning.specs.declared.expression.Location.{Location}
use Rattle.hl_meaning.specs.declared.program.Copying.{Copying}
use Rattle.hl_meaning.specs.declared.program.Copying.TheVariants.{CopyIn}
use Rattle.hl_meaning.specs.Trees.{place_arg, value_arg}
use Rattle.hl_meaning.specs.Types.{Ty}
use Rattle.hl_meaning.specs.Views.{plain_arg, plain_expr, plain_location}
use Rattle.hl_meaning.proofs.Plain.{plain_arg-Place, plain_arg-Value}
use Rattle.hl_overload.specs.declared.choice.Candidate as held_candidate
use Rattle.hl_overload.specs.declared.choice.ChoiceFault.{ChoiceFault}
use Rattle.hl_overload.specs.Best.{choice_of}
use Rattle.hl_overload.specs.Choice.{Chooses, Param, sums_of}
use Rattle.hl_overload.proofs.Computed.{choice_of-chooses}
use Rattle.hl_overload.specs.Views.{plain_candidates, plain_params}
use Rattle.hl_overload.proofs.OneChoice.{one_choice}
use Rattle.hl_rules.specs.Expressions.{passed_arg}
use Rattle.hl_rules.specs.Nodes as rules
use Rattle.hl_rules.specs.Nodes.{converted_code, place_of_code}
use Rattle.hl_rules.specs.Scopes.{FunctionInfo, ParamInfo, Scope}
use Rattle.hl_rules.specs.Values.{Candidate, Value, argument_types, call_choice, called, candidates, candidates_from, chosen_candidate, function_result, params_known}
use Rattle.hl_values.specs.declared.scope.FunctionInfo as held
use Rattle.hl_values.specs.declared.scope.ParamInfo as held_param
use Rattle.hl_values.specs.declared.scope.Scope as held_scope
use Rattle.hl_values.specs.Calls.{candidate, fault_of, number_of, param_known, params_at, params_of, picked, places_from}
use Rattle.hl_values.specs.Few.{each}
use Rattle.hl_values.specs.NameTables.{positions_from}
use Rattle.hl_values.specs.ScopeViews.{plain_function, plain_param, scope_of}
use Rattle.hl_values.specs.Views.{plain_type_if}
use Rattle.hl_values.proofs.EachLemmas.{each-length, each-map}

-- ---- parameters

known-with : (p : ParamInfo) (params : List ParamInfo) → params_known params ≡ each param_known params → (ty : Option Ty) →
    option_and_then (λ t. option_map (λ more. record { ty = t; copying = p.copying } ∷ more) (params_known params)) ty ≡ option_and_then (λ y. option_map (λ ys. y ∷ ys) (each param_known params)) (option_map (λ t. record { ty = t; copying = p.copying }) ty)
known-with p params rest None = refl
known-with p params rest (Some ty) = ap (option_map (λ more. record { ty = ty; copying = p.copying } ∷ more)) rest

pub params_known-each : (params : List ParamInfo) → params_known params ≡ each param_known params
params_known-each [] = refl
params_known-each (p ∷ params) = known-with p params (params_known-each params) p.ty

-- ---- which there are

slice_get-behind : {A : Type 0} (before : List A) (x : A) (rest : List A) → slice_get (before ++ x ∷ rest) (length before) ≡ Some x
slice_get-behind [] x rest = refl
slice_get-behind (y ∷ before) x rest = slice_get-behind before x rest

-- a candidate before others, by its parameters and by its number
params-with : (place : ℕ) (params : Option (List Param)) (more : Option (List Candidate)) →
    option_map (map params_of) (option_and_then (λ own. option_map (λ rest. candidate place own ∷ rest) more) params) ≡ option_and_then (λ own. option_map (λ rest. own ∷ rest) (option_map (map params_of) more)) params
params-with place None more = refl
params-with place (Some own) None = refl
params-with place (Some own) (Some more) = refl

-- the further ones
params-behind : (before functions : List FunctionInfo) (f : FunctionInfo) (name : List ℕ) →
    option_map (map params_of) (candidates_from (length (before ++ f ∷ [])) name functions) ≡ each (params_at ((before ++ f ∷ []) ++ functions)) (places_from (length (before ++ f ∷ [])) name functions) →
    option_map (map params_of) (candidates_from (suc (length before)) name functions) ≡ each (params_at (before ++ f ∷ functions)) (places_from (suc (length before)) name functions)
params-behind before functions f name rest =
    let longer : length (before ++ f ∷ []) ≡ suc (length before) = omega (arith, length_push before f) in
    subst (λ n. option_map (map params_of) (candidates_from n name functions) ≡ each (params_at (before ++ f ∷ functions)) (places_from n name functions)) longer
    (subst (λ l. option_map (map params_of) (candidates_from (length (before ++ f ∷ [])) name functions) ≡ each (params_at l) (places_from (length (before ++ f ∷ [])) name functions)) (append_assoc before (f ∷ []) functions) rest)

params-step : (before functions : List FunctionInfo) (f : FunctionInfo) (name : List ℕ) →
    option_map (map params_of) (candidates_from (suc (length before)) name functions) ≡ each (params_at (before ++ f ∷ functions)) (places_from (suc (length before)) name functions) → (named : Bool) →
    option_map (map params_of) (if named then option_and_then (λ params. option_map (λ more. candidate (length before) params ∷ more) (candidates_from (suc (length before)) name functions)) (params_known f.params) else candidates_from (suc (length before)) name functions)
    ≡ each (params_at (before ++ f ∷ functions)) (if named then length before ∷ places_from (suc (length before)) name functions else places_from (suc (length before)) name functions)
params-step before functions f name behind true =
    let all = before ++ f ∷ functions in
    let places = places_from (suc (length before)) name functions in
    params-with (length before) (params_known f.params) (candidates_from (suc (length before)) name functions) ∙
    (ap (λ o. option_and_then (λ own. option_map (λ rest. own ∷ rest) o) (params_known f.params)) behind ∙
    ap (λ o. option_and_then (λ own. option_map (λ rest. own ∷ rest) (each (params_at all) places)) (option_and_then (λ g. params_known g.params) o)) (sym (slice_get-behind before f functions)))
params-step before functions f name behind false = behind

pub candidates-params : (before functions : List FunctionInfo) (name : List ℕ) → option_map (map params_of) (candidates_from (length before) name functions) ≡ each (params_at (before ++ functions)) (places_from (length before) name functions)
candidates-params before [] name = refl
candidates-params before (f ∷ functions) name =
    params-step before functions f name (params-behind before functions f name (candidates-params (before ++ f ∷ []) functions name)) (bytes_eq f.name name)

-- ---- their numbers

numbers-with : (place : ℕ) (places : List ℕ) (params : Option (List Param)) (more : Option (List Candidate)) (found : List Candidate) →
    ((rest : List Candidate) → more ≡ Some rest → map number_of rest ≡ places) →
    option_and_then (λ own. option_map (λ rest. candidate place own ∷ rest) more) params ≡ Some found → map number_of found ≡ place ∷ places
numbers-with place places None more found rest e = absurd (cc e)
numbers-with place places (Some own) None found rest e = absurd (cc e)
numbers-with place places (Some own) (Some more) found rest e =
    let same : candidate place own ∷ more ≡ found = cc e in
    ap (map number_of) (sym same) ∙ ap (λ l. place ∷ l) (rest more refl)

numbers-step : (place : ℕ) (f : FunctionInfo) (functions : List FunctionInfo) (name : List ℕ) (found : List Candidate) →
    ((rest : List Candidate) → candidates_from (suc place) name functions ≡ Some rest → map number_of rest ≡ places_from (suc place) name functions) → (named : Bool) →
    (if named then option_and_then (λ params. option_map (λ more. candidate place params ∷ more) (candidates_from (suc place) name functions)) (params_known f.params) else candidates_from (suc place) name functions) ≡ Some found →
    map number_of found ≡ (if named then place ∷ places_from (suc place) name functions else places_from (suc place) name functions)
numbers-step place f functions name found rest true e = numbers-with place (places_from (suc place) name functions) (params_known f.params) (candidates_from (suc place) name functions) found rest e
numbers-step place f functions name found rest false e = rest found e

pub candidate-numbers : (place : ℕ) (functions : List FunctionInfo) (name : List ℕ) (found : List Candidate) → candidates_from place name functions ≡ Some found → map number_of found ≡ places_from place name functions
candidate-numbers place [] name found e = let same : [] ≡ found = cc e in ap (map number_of) (sym same)
candidate-numbers place (f ∷ functions) name found e =
    numbers-step place f functions name found (candidate-numbers (suc place) functions name) (bytes_eq f.name name) e

pub positions-places : (place : ℕ) (name : List ℕ) (table : List (List ℕ × held.FunctionInfo)) → positions_from place name table ≡ places_from place name (map plain_function table)
positions-places place name [] = refl
positions-places place name (f ∷ table) = ap (λ l. if bytes_eq f.0 name then place ∷ l else l) (positions-places (suc place) name table)

-- ---- which one is called

picked-at : (found : List Candidate) (place : ℕ) → slice_get found place ≡ picked (map number_of found) (map params_of found) (Ok place)
picked-at [] place = refl
picked-at (c ∷ found) zero = refl
picked-at (c ∷ found) (suc place) = picked-at found place

pub computed-choice : (candidates : List (List Param)) (types : List Ty) (answer : Result ℕ ChoiceFault) → Chooses (sums_of candidates types) answer → answer ≡ choice_of candidates types
computed-choice candidates types answer chooses =
    one_choice (sums_of candidates types) answer (choice_of candidates types) chooses (choice_of-chooses candidates types)

-- the call of some candidates
abbrev choice-among : Option (List Candidate) → Option (List Ty) → Option (Result ℕ ChoiceFault)
choice-among found types = option_and_then (λ own. option_map (λ l. choice_of (map params_of l) own) found) types

abbrev answer-among : Option (List Candidate) → Result ℕ ChoiceFault → Option Candidate
answer-among found (Ok place) = option_and_then (λ l. slice_get l place) found
answer-among found (Err fault) = None

answer-picked : (found : List Candidate) (answer : Result ℕ ChoiceFault) → answer-among (Some found) answer ≡ picked (map number_of found) (map params_of found) answer
answer-picked found (Ok place) = picked-at found place
answer-picked found (Err fault) = refl

same-answer : (s : Scope) (name : List ℕ) (answer : Result ℕ ChoiceFault) → chosen_candidate s name answer ≡ answer-among (candidates s name) answer
same-answer s name (Ok place) = refl
same-answer s name (Err fault) = refl

-- what a call chooses, where all types are known
pub record IsChoice (s : Scope) (name : List ℕ) (args : List Value) (numbers : List ℕ) (params : List (List Param)) (types : List Ty) : Type 0 where
  pub choice : call_choice s name args ≡ Some (choice_of params types)
  pub callee : called s name args ≡ picked numbers params (choice_of params types)

found-by : (o : Option (List Candidate)) (params : List (List Param)) → option_map (map params_of) o ≡ Some params → (found : List Candidate) × (o ≡ Some found) × (map params_of found ≡ params)
found-by None params e = absurd (cc e)
found-by (Some found) params e = (found, refl, cc e)

pub choice-known : (s : Scope) (name : List ℕ) (args : List Value) (params : List (List Param)) (types : List Ty) → argument_types args ≡ Some types → each (params_at s.functions) (places_from 0 name s.functions) ≡ Some params → IsChoice s name args (places_from 0 name s.functions) params types
choice-known s name args params types typed known = record { choice = chosen; callee = at_place }
  where
    there : (found : List Candidate) × (candidates s name ≡ Some found) × (map params_of found ≡ params)
    there = found-by (candidates s name) params (candidates-params [] s.functions name ∙ known)

    chosen : call_choice s name args ≡ Some (choice_of params types)
    chosen =
        ap (λ o. choice-among (candidates s name) o) typed ∙
        (ap (λ o. choice-among o (Some types)) there.1 ∙ ap (λ l. Some (choice_of l types)) there.2)

    numbers : map number_of there.0 ≡ places_from 0 name s.functions
    numbers = candidate-numbers 0 s.functions name there.0 there.1

    at_place : called s name args ≡ picked (places_from 0 name s.functions) params (choice_of params types)
    at_place =
        ap (option_and_then (chosen_candidate s name)) chosen ∙
        (same-answer s name (choice_of params types) ∙
        (ap (λ o. answer-among o (choice_of params types)) there.1 ∙
        (answer-picked there.0 (choice_of params types) ∙
        (ap (λ l. picked l (map params_of there.0) (choice_of params types)) numbers ∙ ap (λ l. picked (places_from 0 name s.functions) l (choice_of params types)) there.2))))

pub choice-untyped : (s : Scope) (name : List ℕ) (args : List Value) → argument_types args ≡ None → call_choice s name args ≡ None
choice-untyped s name args e = ap (λ o. choice-among (candidates s name) o) e

none-among : (o : Option (List Ty)) → choice-among None o ≡ None
none-among None = refl
none-among (Some types) = refl

no-candidates : (o : Option (List Candidate)) → option_map (map params_of) o ≡ None → o ≡ None
no-candidates None e = refl
no-candidates (Some found) e = absurd (cc e)

pub choice-unknown : (s : Scope) (name : List ℕ) (args : List Value) → each (params_at s.functions) (places_from 0 name s.functions) ≡ None → call_choice s name args ≡ None
choice-unknown s name args e =
    ap (λ o. choice-among o (argument_types args)) (no-candidates (candidates s name) (candidates-params [] s.functions name ∙ e)) ∙ none-among (argument_types args)

-- ---- what is held

pub functions-of : (s : held_scope.Scope) → (scope_of s).functions ≡ map plain_function s.functions
unfolding scope_of
functions-of s = refl

-- the parameters of the function at a place
pub params_at-held : (functions : List (List ℕ × held.FunctionInfo)) (place : ℕ) (f : Option held.FunctionInfo) → f ≡ option_map (λ e. e.1) (slice_get functions place) → params_at (map plain_function functions) place ≡ option_and_then (λ g. params_known (map plain_param g.params)) f
params_at-held functions place f is =
    ap (option_and_then (λ g. params_known g.params)) (slice_get-map plain_function functions place) ∙ (by_place (slice_get functions place) ∙ ap (option_and_then (λ g. params_known (map plain_param g.params))) (sym is))
  where
    by_place : (o : Option (List ℕ × held.FunctionInfo)) → option_and_then (λ g. params_known g.params) (option_map plain_function o) ≡ option_and_then (λ g. params_known (map plain_param g.params)) (option_map (λ e. e.1) o)
    by_place None = refl
    by_place (Some e) = refl

pub same-length : (functions : List FunctionInfo) (places : List ℕ) (candidates : List held_candidate.Candidate) → Some (plain_candidates candidates) ≡ each (params_at functions) places → length places ≡ length candidates
same-length functions places candidates known =
    sym (each-length (params_at functions) places (plain_candidates candidates) (sym known)) ∙ length-map candidates (λ c. plain_params c.params)

-- ---- arguments

pub value-passed : (copying : Copying) (ty : Ty) (code : rules.Code) (value held : Expr) → copying ≡ CopyIn → held ≡ value → Some (plain_expr value) ≡ converted_code ty code → Some (plain_arg (args.Value held)) ≡ passed_arg copying ty code
value-passed copying ty code value held is same conv =
    ap Some (plain_arg-Value held ∙ ap (λ e. value_arg (plain_expr e)) same) ∙
    (ap (option_map value_arg) conv ∙ ap (λ k. passed_arg k ty code) (sym is))

pub place-passed : (code : rules.Code) (place held : Location) → held ≡ place → Some (plain_location place) ≡ place_of_code code → Some (plain_arg (args.Place held)) ≡ option_map place_arg (place_of_code code)
place-passed code place held same is =
    ap Some (plain_arg-Place held ∙ ap (λ l. place_arg (plain_location l)) same) ∙ ap (option_map place_arg) is

-- ---- what is known of a scope that is held

pub none-from : {A : Type 0} (o : Option A) → ((x : A) → o ≡ Some x → ⊥) → o ≡ None
none-from None not = refl
none-from (Some x) not = absurd (not x refl)

pub params_known-held : (params : List held_param.ParamInfo) → params_known (map plain_param params) ≡ each (λ p. param_known (plain_param p)) params
params_known-held params = params_known-each (map plain_param params) ∙ each-map param_known plain_param params

pub result-held : (s : held_scope.Scope) (number : ℕ) (f : Option held.FunctionInfo) → f ≡ option_map (λ e. e.1) (slice_get s.functions number) → function_result (scope_of s) number ≡ option_and_then (λ g. plain_type_if g.result) f
unfolding scope_of
result-held s number f is =
    ap (option_and_then (λ g. g.result)) (slice_get-map plain_function s.functions number) ∙ (by_place (slice_get s.functions number) ∙ ap (option_and_then (λ g. plain_type_if g.result)) (sym is))
  where
    by_place : (o : Option (List ℕ × held.FunctionInfo)) → option_and_then (λ g. g.result) (option_map plain_function o) ≡ option_and_then (λ g. plain_type_if g.result) (option_map (λ e. e.1) o)
    by_place None = refl
    by_place (Some e) = refl

pub chosen-is : (candidates items : List held_candidate.Candidate) (types : List Ty) (answer : Result ℕ ChoiceFault) → items ≡ candidates → Chooses (sums_of (plain_candidates items) types) answer → answer ≡ choice_of (plain_candidates candidates) types
chosen-is candidates items types answer same chooses =
    computed-choice (plain_candidates items) types answer chooses ∙ ap (λ l. choice_of (plain_candidates l) types) same

-- the numbers of the candidates
places-of : (s : held_scope.Scope) (name : List ℕ) (places : List ℕ) → places ≡ positions_from 0 name s.functions → places ≡ places_from 0 name (scope_of s).functions
places-of s name places is = is ∙ (positions-places 0 name s.functions ∙ ap (places_from 0 name) (sym (functions-of s)))

known-of : (s : held_scope.Scope) (name : List ℕ) (places : List ℕ) (params : Option (List (List Param))) → places ≡ positions_from 0 name s.functions → each (params_at (map plain_function s.functions)) places ≡ params → each (params_at (scope_of s).functions) (places_from 0 name (scope_of s).functions) ≡ params
known-of s name places params is known =
    ap (each (params_at (scope_of s).functions)) (sym (places-of s name places is)) ∙ (ap (λ f. each (params_at f) places) (functions-of s) ∙ known)

pub choice-held : (s : held_scope.Scope) (name : List ℕ) (args : List Value) (places : List ℕ) (params : List (List Param)) (types : List Ty) → places ≡ positions_from 0 name s.functions → argument_types args ≡ Some types → each (params_at (map plain_function s.functions)) places ≡ Some params → IsChoice (scope_of s) name args places params types
choice-held s name args places params types is typed known =
    subst (λ l. IsChoice (scope_of s) name args l params types) (sym (places-of s name places is))
    (choice-known (scope_of s) name args params types typed (known-of s name places (Some params) is known))

pub unknown-held : (s : held_scope.Scope) (name : List ℕ) (args : List Value) (places : List ℕ) → places ≡ positions_from 0 name s.functions → each (params_at (map plain_function s.functions)) places ≡ None → call_choice (scope_of s) name args ≡ None
unknown-held s name args places is known = choice-unknown (scope_of s) name args (known-of s name places None is known)
