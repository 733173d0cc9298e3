-- What becomes of a call: the arguments are put into the variables of the parameters, the body of the function follows,
-- and the variables of `out` and `inout` parameters are written back (HLSL, "Functions", "Parameters"). The order is
-- this project's own.
use Rattle.std.specs.Prelude.{ℕ, suc, ◌+◌, true, false, if◌then◌else◌, List, [], ◌∷◌, ◌++◌, length, Option, None, Some, slice_get, unwrap_or}
use Rattle.hl_meaning.specs.declared.program.Copying.{Copying}
use Rattle.hl_meaning.specs.declared.program.Copying.TheVariants.{CopyOut}
use Rattle.hl_meaning.specs.declared.program.Parameter.{Parameter}
use Rattle.hl_meaning.specs.Types.{Ty, is_void, void_type}
use Rattle.hl_meaning.specs.Trees.{Expr, Location, an_expr, place_type, read_form, write_form}
use Rattle.hl_meaning.specs.Programs.{Variable}
use Rattle.hl_inline.specs.FlatTrees.{FlatStmt, flat_block, flat_local, flat_named, flat_run}
use Rattle.hl_inline.specs.FlatViews.{flat_stmts_of}
use Rattle.hl_inline.specs.Operands.{filled_place}
use Rattle.hl_inline.specs.Fresh.{Fresh, Instance, next_of, unnamed}
use Rattle.hl_inline.specs.EmittedCode.{EmittedCode, nothing_emitted}
use Rattle.hl_inline.specs.Emitting.{Emitter, Valued, emit_all, reading}

-- an argument: a value, or a place with its indexes
pub data Argument : Type 0 where
  value_argument : (value : Emitter) → Argument
  place_argument : (place : Location) (indexes : List Emitter) → Argument

-- a function that may be called
pub record Inlined : Type 0 where
  pub parameters : List Parameter
  pub variables : List Variable
  pub result : Ty
  pub body : Instance → Fresh → EmittedCode

-- the code of arguments, and of what is written back behind the call
pub record Passed : Type 0 where
  pub code : List FlatStmt
  pub copies : List FlatStmt
  pub fresh : Fresh

abbrev pub nothing_passed : Fresh → Passed
nothing_passed fresh = record { code = []; copies = []; fresh = fresh }

abbrev pub passed_with : (code copies : List FlatStmt) → Passed → Passed
passed_with code copies rest = record { code = code ++ rest.code; copies = copies ++ rest.copies; fresh = rest.fresh }

-- what the variable of a parameter starts with whose argument is a place: an `out` parameter with zeros
abbrev pub start_value : Copying → Location → (at : ℕ) → Option Expr
start_value CopyOut place at = None
start_value _ place at = Some (an_expr (place_type place) at (read_form place))

-- the variable of a parameter is written back to a place
abbrev pub copy_back : Location → (at number : ℕ) → FlatStmt
copy_back place at number =
    flat_run (an_expr (place_type place) at
    (write_form place None (place_type place) (reading (place_type place) at number) false))

-- Arguments in order, from the variable of a number on. The indexes of a place stay as they are before the call.
abbrev pub pass_all : Instance → (at number : ℕ) → List Argument → List Parameter → Fresh → Passed
pass_all i at number (value_argument e ∷ args) (p ∷ parameters) fresh =
    let x = e.emit fresh in
    passed_with (x.code ++ flat_local number (Some x.value) ∷ []) [] (pass_all i at (suc number) args parameters x.fresh)
pass_all i at number (place_argument place indexes ∷ args) (p ∷ parameters) fresh =
    let x = emit_all true indexes fresh in
    let to = filled_place i.first place x.values in
    passed_with (x.code ++ flat_local number (start_value p.copying to at) ∷ []) (copy_back to at number ∷ [])
    (pass_all i at (suc number) args parameters x.fresh)
pass_all i at number _ _ fresh = nothing_passed fresh

-- the variable of a result, where there is one
abbrev pub result_variables : Ty → (at : ℕ) → List Variable
result_variables ty at = if is_void ty then [] else unnamed ty at ∷ []

-- where a call of a function stands
abbrev pub instance_of : Inlined → Fresh → Instance
instance_of f fresh = record { first = next_of fresh; result = next_of fresh + length f.variables; exit = fresh.names }

abbrev pub with_instance : Inlined → Ty → (at : ℕ) → Fresh → Fresh
with_instance f ty at fresh = record { variables = fresh.variables ++ (f.variables ++ result_variables ty at); names = suc fresh.names }

-- the arguments, then the body, then what is written back; the value stands in the variable of the result
abbrev pub around_body : Ty → (at : ℕ) → Instance → Passed → EmittedCode → Valued
around_body ty at i passed body = record {
  code = passed.code ++ flat_named i.exit (flat_block (flat_stmts_of body.code)) ∷ passed.copies;
  value = reading ty at i.result;
  fixed = true;
  fresh = body.fresh;
}

abbrev pub with_body : Ty → (at : ℕ) → Inlined → Instance → Passed → Valued
with_body ty at f callee passed = around_body ty at callee passed (f.body callee passed.fresh)

abbrev pub call : Instance → Ty → (at : ℕ) → Inlined → List Argument → Emitter
call i ty at f args = record {
  has_call = true;
  emit = λ fresh. with_body ty at f (instance_of f fresh)
      (pass_all i at (next_of fresh) args f.parameters (with_instance f ty at fresh));
}

-- a function that isn't there
abbrev pub nothing_inlined : Inlined
nothing_inlined = record { parameters = []; variables = []; result = void_type; body = λ i fresh. nothing_emitted fresh }

abbrev pub inlined_at : List Inlined → (function : ℕ) → Inlined
inlined_at functions function = unwrap_or (slice_get functions function) nothing_inlined
