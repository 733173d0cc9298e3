-- What is built so far, as plain data: statements and what is free, behind which more is emitted.
use Rattle.std.specs.Prelude.{ℕ, Bool, true, false, List, [], ◌∷◌, ◌++◌, length, map, Option}
use Rattle.hl_meaning.specs.declared.program.FunctionDef.{FunctionDef}
use Rattle.hl_meaning.specs.Trees.{Expr, MaybeStmt, PathPart, Stmt, index_part}
use Rattle.hl_meaning.specs.Programs.{Constant, Program, Variable}
use Rattle.hl_meaning.specs.Views.{plain_function, plain_variable}
use Rattle.hl_inline.specs.declared.context.Context.{Context}
use Rattle.hl_inline.specs.declared.context.Jumps.{Jumps}
use Rattle.hl_inline.specs.declared.fresh.Fresh.{Fresh}
use Rattle.hl_inline.specs.declared.flat.FlatStmt.{FlatStmt}
use Rattle.hl_inline.specs.FlatTrees as plain
use Rattle.hl_inline.specs.FlatTrees.{flat_block, flat_if, flat_named, flat_run}
use Rattle.hl_inline.specs.FlatViews.{flat_stmts_of, plain_flat_stmt}
use Rattle.hl_inline.specs.EmittedStatements.{Jumps as PlainJumps, emit_body, emit_loop, emit_run_if, emit_stmt, emit_stmt_if, emit_test, emit_test_if, jumps_of, with_jumps}
use Rattle.hl_inline.specs.Fresh.{Fresh as PlainFresh, Instance}
use Rattle.hl_inline.specs.EmittedCode.{EmittedCode, as_alternative, as_one, emitted_stmt, emitted_then, emitted_with}
use Rattle.hl_inline.specs.Emitting.{Valued, Values}
use Rattle.hl_inline.specs.InlinedCalls.{Inlined, Passed}
use Rattle.hl_inline.specs.InlinedFunctions.{inlined_after}
use Rattle.hl_inline.specs.InlinedPrograms.{entry_fresh, entry_instance, inlined_entry, set_constants, set_inputs}
use Rattle.hl_inline.specs.Operands.{first_expr}

-- what is held

abbrev pub plain_code : List FlatStmt → List plain.FlatStmt
plain_code code = map plain_flat_stmt code

abbrev pub plain_fresh : Fresh → PlainFresh
plain_fresh fresh = record { variables = map plain_variable fresh.variables; names = fresh.names }

abbrev pub plain_jumps : Jumps → PlainJumps
plain_jumps j = record { break_name = j.break_name; continue_name = j.continue_name }

-- the variables of constants
abbrev pub constant_variables : List Constant → List Variable
constant_variables constants = map (λ c. c.variable) constants

-- where the function stands
abbrev pub instance_in : Context → Instance
instance_in c = record { first = c.first; result = c.result; exit = c.exit }

-- functions as they are called
abbrev pub inlined_all : List FunctionDef → List Inlined
inlined_all functions = inlined_after [] (map plain_function functions)

-- the functions that it may call
abbrev pub callees_in : Context → List Inlined
callees_in c = inlined_all c.functions.now

-- what is emitted, behind statements

abbrev pub valued : List plain.FlatStmt → Expr → (fixed : Bool) → PlainFresh → Valued
valued code value fixed fresh = record { code = code; value = value; fixed = fixed; fresh = fresh }

abbrev pub behind : List plain.FlatStmt → Valued → Valued
behind code x = valued (code ++ x.code) x.value x.fixed x.fresh

abbrev pub emitted_to : List plain.FlatStmt → PlainFresh → EmittedCode
emitted_to code fresh = record { code = code; fresh = fresh }

abbrev pub passed_to : (code copies : List plain.FlatStmt) → PlainFresh → Passed
passed_to code copies fresh = record { code = code; copies = copies; fresh = fresh }

abbrev pub passed_behind : (code copies : List plain.FlatStmt) → Passed → Passed
passed_behind code copies x = passed_to (code ++ x.code) (copies ++ x.copies) x.fresh

-- statements, and then what is made of expressions
pub record Made (A : Type 0) : Type 0 where
  pub code : List plain.FlatStmt
  pub value : A
  pub fresh : PlainFresh

abbrev pub made : {A : Type 0} → List plain.FlatStmt → A → PlainFresh → Made A
made code value fresh = record { code = code; value = value; fresh = fresh }

-- an operand, whose value stays as it is
abbrev pub operand_behind : List plain.FlatStmt → Valued → Made Expr
operand_behind code x = made (code ++ x.code) x.value x.fresh

-- what is made of the values of operands
abbrev pub made_behind : {A : Type 0} → List plain.FlatStmt → (List Expr → A) → Values → Made A
made_behind code fill x = made (code ++ x.code) (fill x.values) x.fresh

-- one step with another index
abbrev pub filled_part : PathPart → List Expr → PathPart
filled_part (index_part index) es = index_part (first_expr es)
filled_part part es = part

-- the body of a function, inside the name that its `return`s leave
abbrev pub named_body : Inlined → Instance → PlainFresh → EmittedCode
named_body f i fresh = emitted_stmt (flat_named i.exit (flat_block (flat_stmts_of (f.body i fresh).code))) (f.body i fresh).fresh

-- the same in front of other statements
abbrev pub body_before : Inlined → Instance → List plain.FlatStmt → PlainFresh → EmittedCode
body_before f i more fresh =
    emitted_to (flat_named i.exit (flat_block (flat_stmts_of (f.body i fresh).code)) ∷ more) (f.body i fresh).fresh

-- a value that isn't used, behind statements; nothing is left of a call
abbrev pub left_of : (is_call : Bool) → List plain.FlatStmt → Expr → List plain.FlatStmt
left_of true code value = code
left_of false code value = code ++ flat_run value ∷ []

-- the branches of an `if` by the value of its condition
abbrev pub branches_of : List Inlined → Instance → PlainJumps → Expr → Stmt → MaybeStmt → PlainFresh → EmittedCode
branches_of k i j value consequent alternative fresh =
    let a = emit_stmt k i j consequent fresh in
    let b = emit_stmt_if k i j alternative a.fresh in
    emitted_stmt (flat_if value (as_one a.code) (as_alternative b.code)) b.fresh

-- a turn of a `for`, of a `while` and of a `do`
abbrev pub turn_of : List Inlined → Instance → (cond step : Option Expr) → Stmt → PlainJumps → PlainFresh → EmittedCode
turn_of k i cond step body j fresh =
    emitted_then (emit_test_if k i j.break_name cond fresh) (λ fresh'.
    emitted_then (emit_body j.continue_name (emit_stmt k i j body fresh')) (λ fresh''. emit_run_if k i step fresh''))

abbrev pub while_turn : List Inlined → Instance → Expr → Stmt → PlainJumps → PlainFresh → EmittedCode
while_turn k i cond body j fresh =
    emitted_then (emit_test k i j.break_name cond fresh) (λ fresh'. emit_body j.continue_name (emit_stmt k i j body fresh'))

abbrev pub do_turn : List Inlined → Instance → Stmt → Expr → PlainJumps → PlainFresh → EmittedCode
do_turn k i body cond j fresh =
    emitted_then (emit_body j.continue_name (emit_stmt k i j body fresh)) (λ fresh'. emit_test k i j.break_name cond fresh')

-- the turns of a `for`
abbrev pub emit_turns : List Inlined → Instance → (cond step : Option Expr) → Stmt → PlainFresh → EmittedCode
emit_turns k i cond step body fresh = emit_loop fresh.names (turn_of k i cond step body (jumps_of fresh) (with_jumps fresh))
