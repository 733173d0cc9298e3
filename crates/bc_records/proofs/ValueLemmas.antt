-- The values of a module by their numbers.
use Rattle.std.proofs.Common.{◌≡◌, ℕ, zero, suc, ◌+◌, ◌-◌, ◌<◌, ◌≤◌, List, [], ◌∷◌, ◌++◌, None, map, length, refl, ap, ◌∙◌, arith}
use Rattle.std.specs.Prelude.{slice_get, option_and_then}
use Rattle.std.proofs.lemmas.List.{length-append, length-map}
use Rattle.ir_core.specs.declared.module.Const.{Const}
use Rattle.ir_core.specs.declared.module.Function.{Function}
use Rattle.ir_core.specs.declared.module.GlobalVar.{GlobalVar}
use Rattle.ir_core.specs.declared.module.Module.{Module}
use Rattle.ir_core.specs.Values.{Value, global_value, function_value, constant_value, module_values, function_of, function_at}

-- a number below the globals' is no function's
before_functions : (globals : List GlobalVar) (rest : List Value) (v : ℕ) → v < length globals →
    option_and_then function_of (slice_get (map global_value globals ++ rest) v) ≡ None
before_functions [] rest v below = absurd (omega arith)
before_functions (g ∷ globals) rest zero below = refl
before_functions (g ∷ globals) rest (suc v) below = before_functions globals rest v (omega arith)

past_globals : (globals : List GlobalVar) (rest : List Value) (v : ℕ) → slice_get (map global_value globals ++ rest) (length globals + v) ≡ slice_get rest v
past_globals [] rest v = ap (slice_get rest) (omega arith)
past_globals (g ∷ globals) rest v = ap (slice_get (map global_value (g ∷ globals) ++ rest)) (more (length globals) v) ∙ past_globals globals rest v
  where
    more : (a b : ℕ) → suc a + b ≡ suc (a + b)
    more a b = omega arith

no_constant : (constants : List Const) (v : ℕ) → option_and_then function_of (slice_get (map constant_value constants) v) ≡ None
no_constant [] v = refl
no_constant (c ∷ constants) zero = refl
no_constant (c ∷ constants) (suc v) = no_constant constants v

among_functions : (functions : List Function) (constants : List Const) (v : ℕ) →
    option_and_then function_of (slice_get (map function_value functions ++ map constant_value constants) v) ≡ slice_get functions v
among_functions [] constants v = no_constant constants v
among_functions (f ∷ functions) constants zero = refl
among_functions (f ∷ functions) constants (suc v) = among_functions functions constants v

pub below_globals : (m : Module) (v : ℕ) → v < length m.globals → function_at m v ≡ None
below_globals m v below = before_functions m.globals (map function_value m.functions ++ map constant_value m.consts) v below

pub from_globals : (m : Module) (v : ℕ) → length m.globals ≤ v → function_at m v ≡ slice_get m.functions (v - length m.globals)
from_globals m v past =
    let place : v ≡ length m.globals + (v - length m.globals) = omega arith in
    ap (function_at m) place
    ∙ (ap (option_and_then function_of) (past_globals m.globals (map function_value m.functions ++ map constant_value m.consts) (v - length m.globals))
    ∙ among_functions m.functions m.consts (v - length m.globals))

pub value_count : (m : Module) → length (module_values m) ≡ length m.globals + (length m.functions + length m.consts)
value_count m =
    length-append (map global_value m.globals) (map function_value m.functions ++ map constant_value m.consts)
    ∙ (ap (λ n. n + length (map function_value m.functions ++ map constant_value m.consts)) (length-map m.globals global_value)
    ∙ ap (λ n. length m.globals + n) (length-append (map function_value m.functions) (map constant_value m.consts)
    ∙ (ap (λ n. n + length (map constant_value m.consts)) (length-map m.functions function_value)
    ∙ ap (λ n. length m.functions + n) (length-map m.consts constant_value))))
