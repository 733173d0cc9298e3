-- Calls of functions, as the code finds what they choose.
use Rattle.std.specs.Prelude.{ℕ, suc, List, [], ◌∷◌, Option, None, Some, Result, Ok, Err, bytes_eq, if◌then◌else◌, option_and_then, option_map, slice_get}
use Rattle.hl_overload.specs.declared.choice.ChoiceFault.{ChoiceFault}
use Rattle.hl_overload.specs.Choice.{Param}
use Rattle.hl_overload.specs.Views.{plain_params}
use Rattle.hl_rules.specs.Scopes.{FunctionInfo, ParamInfo}
use Rattle.hl_rules.specs.Values.{Candidate, params_known}
use Rattle.hl_values.specs.declared.calls.Callee.{Callee}
use Rattle.hl_values.specs.declared.calls.Choice.{Choice}
use Rattle.hl_values.specs.declared.calls.Choice.TheVariants as choices

abbrev pub plain_callee : Callee → Candidate
plain_callee c = record { number = c.number; params = plain_params c.params }

-- the function that is called, where one is
abbrev pub called_in : Choice → Option Candidate
called_in (choices.Callee c) = Some (plain_callee c)
called_in _ = None

-- why none is
abbrev pub fault_in : Choice → Option ChoiceFault
fault_in (choices.Fault fault) = Some fault
fault_in _ = None

abbrev pub fault_of : Option (Result ℕ ChoiceFault) → Option ChoiceFault
fault_of (Some (Err fault)) = Some fault
fault_of _ = None

-- the places of the functions of a name, counted from a first one
abbrev pub places_from : ℕ → List ℕ → List FunctionInfo → List ℕ
places_from place name [] = []
places_from place name (f ∷ functions) =
    if bytes_eq f.name name then place ∷ places_from (suc place) name functions else places_from (suc place) name functions

abbrev pub candidate : (number : ℕ) → List Param → Candidate
candidate number params = record { number = number; params = params }

-- the parameters of the function at a place, where all have types
abbrev pub params_at : List FunctionInfo → (place : ℕ) → Option (List Param)
params_at functions place = option_and_then (λ f. params_known f.params) (slice_get functions place)

-- a parameter, where it has a type
abbrev pub param_known : ParamInfo → Option Param
param_known p = option_map (λ ty. record { ty = ty; copying = p.copying }) p.ty

abbrev pub params_of : Candidate → List Param
params_of c = c.params

abbrev pub number_of : Candidate → ℕ
number_of c = c.number

-- the candidate that an answer picks, of these numbers and parameters
abbrev pub picked : List ℕ → List (List Param) → Result ℕ ChoiceFault → Option Candidate
picked numbers params (Ok place) =
    option_and_then (λ number. option_map (λ own. candidate number own) (slice_get params place)) (slice_get numbers place)
picked numbers params (Err fault) = None
