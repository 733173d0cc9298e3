-- What is held while a lane runs, as the meaning of programs speaks of it, and what a call says of a part of a run.
use Rattle.std.specs.Prelude.{◌≡◌, ℕ, List, [], ◌∷◌, ◌++◌, drop, length, map, if◌then◌else◌, Option, Some, None, Result, Ok, Err}
use Rattle.lane_core.specs.declared.event.Reply.{Reply}
use Rattle.lane_core.specs.Lane.{Lane, Run as LaneRunOf, standing}
use Rattle.hl_meaning.specs.declared.program.FunctionDef.{FunctionDef}
use Rattle.hl_meaning.specs.Programs as plain
use Rattle.hl_meaning.specs.Trees.{Expr, Form, Stmt, no_stmts}
use Rattle.hl_meaning.specs.Types.{Ty, void_type}
use Rattle.hl_meaning.specs.Views.{plain_constant, plain_function, plain_resource, plain_structs, plain_variable}
use Rattle.hl_source.specs.Expressions.{acts, operands}
use Rattle.hl_source.specs.SourceLane.{callee_of}
use Rattle.lane_core.specs.Inputs.{coordinates_of}
use Rattle.hl_source.specs.State.{Callee, Context, Progress, State, after, ends_at, goes_with}
use Rattle.hl_source.specs.Statements.{Doing, Leaving, at_end, by_break, by_continue, by_return, condition, does, leaves}
use Rattle.hl_interpreter.specs.declared.statements.Leaving.{Leaving as HeldLeaving}
use Rattle.hl_interpreter.specs.declared.statements.Leaving.TheVariants.{AtEnd, ByBreak, ByContinue, ByReturn}
use Rattle.hl_interpreter.specs.declared.lane.LaneRun.{LaneRun}
use Rattle.hl_interpreter.specs.declared.run.Context.{Context as HeldContext}
use Rattle.hl_interpreter.specs.declared.run.LanePlace.{LanePlace}
use Rattle.hl_interpreter.specs.declared.run.Run.{Run}
use Rattle.hl_interpreter.specs.declared.run.Stop.{Stop}
use Rattle.hl_interpreter.specs.declared.run.Stop.TheVariants.{Ends, Memory}
use Rattle.hl_interpreter.specs.declared.state.State.{State as HeldState}

-- the lane at a place; a program doesn't ask what private allocations start with
abbrev pub lane_of : LanePlace → Lane
lane_of place = record {
  group = coordinates_of place.group;
  thread = coordinates_of place.thread;
  lane_index = place.lane_index;
  wave_size = place.wave_size;
  start = [];
}

-- what is known in a function, with the functions that it can call, as they are called and as they are written
abbrev pub context_in : Run → (callees : List Callee) → (functions : List plain.FunctionDef) → plain.FunctionDef → Context
context_in run callees functions f = record {
  scope = record {
    structs = plain_structs run.program.now.structs;
    resources = map plain_resource run.program.now.resources;
    shared = map plain_variable run.program.now.shared;
    constants = map plain_constant run.program.now.constants;
    functions = functions;
    variables = f.variables;
    result = f.result;
  };
  slots = run.slots.now;
  callees = callees;
  lane = lane_of run.lane.now;
}

-- the functions as they are called, behind those before them
abbrev pub callees_behind : Run → (callees : List Callee) → (functions rest : List plain.FunctionDef) → List Callee
callees_behind run callees functions [] = callees
callees_behind run callees functions (f ∷ rest) =
    callees_behind run (callees ++ callee_of (context_in run callees functions f) run.turns f ∷ []) (functions ++ f ∷ []) rest

-- what is known in a function that stands behind others
abbrev pub context_behind : Run → (earlier : List FunctionDef) → plain.FunctionDef → Context
context_behind run earlier f =
    context_in run (callees_behind run [] [] (map plain_function earlier)) (map plain_function earlier) f

abbrev pub context_of : HeldContext → Context
context_of c = context_behind c.run.now c.callees.now (plain_function c.function.now)

-- what is known outside of functions
abbrev pub run_context : Run → Context
run_context run = context_in run [] [] (record { name = []; result = void_type; parameters = []; variables = []; body = no_stmts })

-- Each event that had a reply took one of them.
abbrev pub state_of : List Reply → HeldState → State
state_of replies s = record {
  variables = s.variables.items;
  exchange = record { asked = s.events; replies = drop (length s.events) replies };
}

-- the state while a function runs
abbrev pub state_in : HeldContext → HeldState → State
state_in c s = state_of c.run.now.replies.now s

-- A part of a run goes on with what a call gives, seen so, in a state; or ends as the call says. A call that lacks memory
-- says nothing.
abbrev pub Meets : {A B : Type 0} → (A → B) → Result A Stop → State → Progress B → Type 0
Meets view (Ok something) s progress = progress ≡ goes_with (view something) s
Meets view (Err (Ends outcome)) s progress = progress ≡ ends_at (standing s.exchange outcome)
Meets view (Err Memory) s progress = Unit {0}

-- it gives words
abbrev pub Gives : Result (List ℕ) Stop → State → Progress (List ℕ) → Type 0
Gives = Meets (λ words. words)

-- it is done for its effect
abbrev pub Does : Result (Unit {0}) Stop → State → Progress (List ℕ) → Type 0
Does = Meets (λ _. [])

-- what a form gives: its operands are evaluated, and then it acts on their words
abbrev pub form_value : Context → Ty → Form → State → Progress (List ℕ)
form_value c ty form s = after (operands c form s) (acts c ty form)

-- how control leaves a statement
abbrev pub plain_leaving : HeldLeaving → Leaving
plain_leaving AtEnd = at_end
plain_leaving ByBreak = by_break
plain_leaving ByContinue = by_continue
plain_leaving (ByReturn value) = by_return value

-- what a statement does in a function
abbrev pub done_in : HeldContext → Stmt → Doing
done_in c stmt = λ s. does (context_of c) c.run.now.turns stmt s

-- how a loop is left, and none where another turn follows
abbrev pub loop_left : Doing → Option HeldLeaving → Doing
loop_left next None s = next s
loop_left next (Some leaving) s = goes_with (plain_leaving leaving) s

-- what follows the body of a `do`: it goes on where its condition is true
abbrev pub tests : Context → Expr → Doing
tests c cond s = after (condition c cond s) (λ goes_on. leaves (if goes_on then at_end else by_break))

-- a run of a lane
abbrev pub run_of : LaneRun → LaneRunOf
run_of r = record { events = r.events; outcome = r.outcome }
