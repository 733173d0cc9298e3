-- What a lane of a program does: the meaning by which everything that is made of the program is judged.
use Rattle.std.specs.Prelude.{ℕ, List, [], ◌∷◌, ◌++◌, map, drop, take, length, slice_get, unwrap_or, Option, Some, None}
use Rattle.lane_core.specs.declared.event.Asked.TheVariants.{Ended}
use Rattle.lane_core.specs.Lane.{Coordinates, Exchange, Lane, LaneMeaning, Run, first_exchange, standing}
use Rattle.hl_meaning.specs.declared.program.Parameter.{Parameter}
use Rattle.hl_meaning.specs.declared.program.Semantic.{Semantic}
use Rattle.hl_meaning.specs.declared.program.Semantic.TheVariants.{DispatchThreadId, GroupId, GroupIndex, GroupThreadId}
use Rattle.hl_meaning.specs.Types.{component_count, void_type}
use Rattle.hl_meaning.specs.Programs.{FunctionDef, Program, Variable}
use Rattle.hl_meaning.specs.Places.{variable_type}
use Rattle.hl_meaning.specs.Slots.{slots_of}
use Rattle.hl_meaning.specs.WellFormed.{scope_of}
use Rattle.lane_core.specs.Words.{wrapped}
use Rattle.lane_core.specs.Inputs.{components, coordinates_of, dispatch_thread, flat_index}
use Rattle.hl_source.specs.Expressions.{no_callee}
use Rattle.hl_source.specs.State.{Callee, Context, Progress, State, after, ends_at, goes_with}
use Rattle.hl_source.specs.Memory.{zeros_of}
use Rattle.hl_source.specs.Statements.{Leaving, by_return, does_all}

-- functions

-- The value that a body is left with, which has no words where it comes to its end. No well-formed body is left by
-- `break` or `continue`.
abbrev pub returned_value : Leaving → List ℕ
returned_value (by_return value) = value
returned_value _ = []

-- A function starts with the words of its parameters, whose variables are its first ones. Its other variables are set
-- where they are declared; until then they are zeros.
abbrev pub first_state : Context → FunctionDef → (parameters : List (List ℕ)) → Exchange → State
first_state c f parameters exchange = record {
  variables = parameters ++ map (λ v. zeros_of c v.ty) (drop (length f.parameters) f.variables);
  exchange = exchange;
}

-- a function as it is called, where each loop takes at most n turns
abbrev pub callee_of : Context → (n : ℕ) → FunctionDef → Callee
callee_of c n f parameters exchange =
    after (does_all c n f.body (first_state c f parameters exchange)) (λ leaving s. goes_with (returned_value leaving) s)

-- what is known in a function that stands behind others
abbrev pub context_of : Program → Lane → (earlier : List Callee) → FunctionDef → Context
context_of p lane earlier f = record {
  scope = scope_of p (length earlier) f;
  slots = slots_of p.resources;
  callees = earlier;
  lane = lane;
}

-- The functions as they are called, behind those before them. A function calls earlier ones alone.
abbrev pub callees_after : Program → Lane → (n : ℕ) → (earlier : List Callee) → List FunctionDef → List Callee
callees_after p lane n earlier [] = earlier
callees_after p lane n earlier (f ∷ functions) =
    callees_after p lane n (earlier ++ callee_of (context_of p lane earlier f) n f ∷ []) functions

-- the inputs of the entry (HLSL, "Semantics")

-- SV_DispatchThreadID, SV_GroupID, SV_GroupThreadID and SV_GroupIndex; each parameter of a well-formed entry has one
abbrev pub semantic_components : (threads : Coordinates) → Lane → Option Semantic → List ℕ
semantic_components threads lane (Some DispatchThreadId) = components (dispatch_thread threads lane.group lane.thread)
semantic_components threads lane (Some GroupId) = components lane.group
semantic_components threads lane (Some GroupThreadId) = components lane.thread
semantic_components threads lane (Some GroupIndex) = flat_index threads lane.thread ∷ []
semantic_components threads lane None = []

-- A parameter with fewer components has the first ones; int and uint have the same bits. In a well-formed program each
-- parameter has a variable.
abbrev pub input_words : Program → Lane → List Variable → Parameter → List ℕ
input_words p lane variables parameter =
    take (component_count (unwrap_or (variable_type variables parameter.variable) void_type))
    (map wrapped (semantic_components (coordinates_of p.threads) lane parameter.semantic))

-- the inputs of the entry, which is there in a well-formed program
abbrev pub inputs : Program → Lane → Option FunctionDef → List (List ℕ)
inputs p lane None = []
inputs p lane (Some f) = map (input_words p lane f.variables) f.parameters

-- the lane

-- the run of the entry: it has ended where the entry returns
abbrev pub entry_run : Progress (List ℕ) → Run
entry_run (goes_with value s) = standing s.exchange Ended
entry_run (ends_at run) = run

-- the entry, as it is called; it is there in a well-formed program
abbrev pub entry_of : Program → Lane → (n : ℕ) → Callee
entry_of p lane n = unwrap_or (slice_get (callees_after p lane n [] p.functions) p.entry) no_callee

-- A lane of a program runs its entry with its inputs. Each `static const` is set before, and no event is asked for it.
-- Where each loop takes at most n turns, and the k-th event takes the k-th reply, the lane ends, has a fault, asks an
-- event, or goes on past the bound.
unfoldable pub source_lane : Program → LaneMeaning
source_lane p n lane replies =
    Some (entry_run (entry_of p lane n (inputs p lane (slice_get p.functions p.entry)) (first_exchange replies)))
