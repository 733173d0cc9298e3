-- What holds of the values of every well-formed program. A part of a run that ends there gives no value, and nothing is
-- said of it.
use Rattle.std.specs.Prelude.{◌≡◌, ℕ, Bool, IsTrue, List, [], ◌∷◌, map, length, take, slice_get, slice_index_or, Option, Some, false}
use Rattle.lane_core.specs.Lane.{Exchange, Lane}
use Rattle.hl_meaning.specs.Types.{Ty}
use Rattle.hl_meaning.specs.Trees.{Args, Expr, Stmt, type_of}
use Rattle.hl_meaning.specs.Programs.{FunctionDef, Program, StructDef, Variable}
use Rattle.hl_meaning.specs.Layout.{words_of}
use Rattle.hl_meaning.specs.WellFormed.{ArePassed, IsExpr, IsStmt, IsWellFormed, Param, always_returns, callee_params, params_of, scope_of}
use Rattle.hl_source.specs.State.{Callee, Context, State}
use Rattle.hl_source.specs.Expressions.{arguments, evaluates, initial_parameters, no_callee, parameters_of}
use Rattle.hl_source.specs.Statements.{Leaving, at_end, by_break, by_continue, by_return, does}
use Rattle.hl_source.specs.SourceLane.{callees_after, context_of, first_state, inputs}
use Rattle.typed_laws.specs.Fitting.{Fits, LeadsTo, Yields}

-- the functions before a number as they are called, where each loop takes at most n turns
abbrev pub callees_before : Program → Lane → (n number : ℕ) → List Callee
callees_before p lane n number = callees_after p lane n [] (take number p.functions)

-- what is known in the function of a number
abbrev pub context_at : Program → Lane → (n number : ℕ) → FunctionDef → Context
context_at p lane n number f = context_of p lane (callees_before p lane n number) f

-- The value of a well-formed expression has exactly the words of its type, in every state.
abbrev pub ValuesFit : Type 0
ValuesFit =
    (p : Program) → IsWellFormed p → (lane : Lane) (n number : ℕ) (f : FunctionDef) → slice_get p.functions number ≡ Some f → (e : Expr) → IsExpr (scope_of p number f) e → (s : State) → Yields (Fits p.structs (type_of e)) (evaluates (context_at p lane n number f) e s)

-- words of the types of parameters, in order
abbrev pub FitParams : List StructDef → List (Option Param) → (words : List (List ℕ)) → Type 0
FitParams structs [] [] = Unit {0}
FitParams structs (Some param ∷ params) (ws ∷ words) = Fits structs param.ty ws × FitParams structs params words
FitParams structs _ _ = ⊥

-- The parameters of a function start with words of their types in each call: `in` and `inout` ones with those of the
-- argument, and `out` ones with zeros.
abbrev pub ArgumentsFit : Type 0
ArgumentsFit =
    (p : Program) → IsWellFormed p → (lane : Lane) (n number : ℕ) (f : FunctionDef) → slice_get p.functions number ≡ Some f → (function : ℕ) (args : Args) → ArePassed (scope_of p number f) (callee_params (slice_get (take number p.functions) function)) args → (s : State) → Yields (λ operands. FitParams p.structs (callee_params (slice_get (take number p.functions) function)) (initial_parameters operands)) (arguments (context_at p lane n number f) args (parameters_of (context_at p lane n number f) function) s)

-- How a statement may be left: at its end where it doesn't always return, by `break` and `continue` where it stands in a
-- loop, and by `return` with words of the result's type.
abbrev pub LeavesAs : List StructDef → (result : Ty) → (in_loop returns : Bool) → Leaving → Type 0
LeavesAs structs result in_loop returns at_end = returns ≡ false
LeavesAs structs result in_loop returns by_break = IsTrue in_loop
LeavesAs structs result in_loop returns by_continue = IsTrue in_loop
LeavesAs structs result in_loop returns (by_return value) = Fits structs result value

-- A well-formed statement of a function is left so.
abbrev pub StatementsFit : Type 0
StatementsFit =
    (p : Program) → IsWellFormed p → (lane : Lane) (n number : ℕ) (f : FunctionDef) → slice_get p.functions number ≡ Some f → (in_loop : Bool) (stmt : Stmt) → IsStmt (scope_of p number f) in_loop stmt → (s : State) → Yields (LeavesAs p.structs f.result in_loop (always_returns stmt)) (does (context_at p lane n number f) n stmt s)

-- A function that is called gives words of its result's type, and none where it has no result, whatever its parameters
-- start with.
abbrev pub CallsFit : Type 0
CallsFit =
    (p : Program) → IsWellFormed p → (lane : Lane) (n number : ℕ) (f : FunctionDef) → slice_get p.functions number ≡ Some f → (parameters : List (List ℕ)) (exchange : Exchange) → Yields (Fits p.structs f.result) (slice_index_or (callees_after p lane n [] p.functions) number no_callee parameters exchange)

-- The entry of a program starts with words of its parameters' types.
abbrev pub InputsFit : Type 0
InputsFit =
    (p : Program) → IsWellFormed p → (f : FunctionDef) → slice_get p.functions p.entry ≡ Some f → (lane : Lane) → FitParams p.structs (params_of f) (inputs p lane (Some f))

-- Each variable of a function has as many words as its type.
abbrev pub HoldVariables : List StructDef → List Variable → State → Type 0
HoldVariables structs variables s = map length s.variables ≡ map (λ v. words_of structs v.ty) variables

-- A function begins so where its parameters start with words of their types.
abbrev pub VariablesBegin : Type 0
VariablesBegin =
    (p : Program) → IsWellFormed p → (lane : Lane) (n number : ℕ) (f : FunctionDef) → slice_get p.functions number ≡ Some f → (parameters : List (List ℕ)) (exchange : Exchange) → FitParams p.structs (params_of f) parameters → HoldVariables p.structs f.variables (first_state (context_at p lane n number f) f parameters exchange)

-- No expression changes how many words a variable has, in whatever context it stands.
abbrev pub ExpressionsHold : Type 0
ExpressionsHold =
    (c : Context) (variables : List Variable) (e : Expr) (s : State) → HoldVariables c.scope.structs variables s → LeadsTo (HoldVariables c.scope.structs variables) (evaluates c e s)

-- Nor does a statement of a well-formed function.
abbrev pub StatementsHold : Type 0
StatementsHold =
    (p : Program) → IsWellFormed p → (lane : Lane) (n number : ℕ) (f : FunctionDef) → slice_get p.functions number ≡ Some f → (in_loop : Bool) (stmt : Stmt) → IsStmt (scope_of p number f) in_loop stmt → (s : State) → HoldVariables p.structs f.variables s → LeadsTo (HoldVariables p.structs f.variables) (does (context_at p lane n number f) n stmt s)
