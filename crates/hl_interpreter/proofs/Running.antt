-- How functions begin and end, and how the state changes between two parts of a run.
use Rattle.std.proofs.Common.{◌≡◌, ◌∙◌, refl, sym, ap, ℕ, ◌-◌, ◌≤◌, min, List, [], ◌∷◌, ◌++◌, drop, length, length-drop, map, arith}
use Rattle.lane_core.specs.declared.event.Reply.{Reply}
use Rattle.lane_core.specs.Lane.{Exchange}
use Rattle.hl_meaning.specs.declared.expression.Arg.{Arg}
use Rattle.hl_meaning.specs.declared.program.FunctionDef.{FunctionDef as HeldFunction}
use Rattle.hl_meaning.specs.declared.program.Parameter.{Parameter}
use Rattle.hl_meaning.specs.Programs.{FunctionDef}
use Rattle.hl_meaning.specs.Views.{plain_args, plain_function, plain_variable}
use Rattle.hl_source.specs.Expressions.{arguments}
use Rattle.hl_source.specs.Memory.{zeros_of}
use Rattle.hl_source.specs.SourceLane.{callee_of, first_state, returned_value}
use Rattle.hl_source.specs.State.{Callee, Context, State, after, goes_with}
use Rattle.hl_source.specs.Statements.{Doing, does_all, turns}
use Rattle.hl_interpreter.specs.declared.run.Run.{Run}
use Rattle.hl_interpreter.specs.declared.state.State.{State as HeldState}
use Rattle.hl_interpreter.specs.Runs.{context_behind, run_context, state_of}
use Rattle.hl_interpreter.proofs.Asking.{between}

-- ---- states

-- other variables, and the same events
pub state-changed : (replies : List Reply) (before behind : HeldState) (variables : List (List ℕ)) → behind.variables.items ≡ variables → behind.events ≡ before.events
    → record (state_of replies before) { variables = variables } ≡ state_of replies behind
state-changed replies before behind variables is same =
    sym (ap (λ v. between replies v behind.events) is ∙ ap (λ events. between replies variables events) same)

-- ---- functions

-- what a function starts with
pub first-is : (run : Run) (earlier : List HeldFunction) (f : HeldFunction) (before behind : HeldState)
    → behind.variables.items ≡ before.variables.items ++ map (λ v. zeros_of (run_context run) v.ty) (drop (length f.parameters) (map plain_variable f.variables)) → behind.events ≡ before.events
    → first_state (context_behind run earlier (plain_function f)) (plain_function f) before.variables.items (state_of run.replies.now before).exchange ≡ state_of run.replies.now behind
first-is run earlier f before behind is same =
    state-changed run.replies.now before behind (before.variables.items ++ map (λ v. zeros_of (run_context run) v.ty) (drop (length f.parameters) (map plain_variable f.variables))) is same

-- a function as it is called
pub called-as : (c : Context) (n : ℕ) (f : FunctionDef) (callee : Callee) (parameters : List (List ℕ)) (exchange : Exchange) (s : State) → callee ≡ callee_of c n f → first_state c f parameters exchange ≡ s
    → callee parameters exchange ≡ after (does_all c n f.body s) (λ leaving t. goes_with (returned_value leaving) t)
called-as c n f callee parameters exchange s is begins =
    ap (λ g. g parameters exchange) is ∙ ap (λ b. after (does_all c n f.body b) (λ leaving t. goes_with (returned_value leaving) t)) begins

-- ---- loops

-- all turns are left
pub turns-first : (n : ℕ) (turn : Doing) (s : State) → turns n turn s ≡ turns (n - 0) turn s
turns-first n turn s =
    let all : n ≡ n - 0 = omega arith in
    ap (λ k. turns k turn s) all

-- no argument is left, or no parameter
pub arguments-end : (c : Context) (args : List Arg) (parameters : List Parameter) (i : ℕ) (s : State) → min (length args) (length parameters) ≤ i
    → arguments c (plain_args (drop i args)) (drop i parameters) s ≡ goes_with [] s
arguments-end c args parameters i s past = by (drop i args) (drop i parameters) refl refl
  where
    by : (xs : List Arg) (ps : List Parameter) → drop i args ≡ xs → drop i parameters ≡ ps → arguments c (plain_args xs) ps s ≡ goes_with [] s
    by [] ps a b = refl
    by (x ∷ xs) [] a b = refl
    by (x ∷ xs) (p ∷ ps) a b = absurd (omega (arith, length-drop i args, length-drop i parameters, ap length a, ap length b))
