-- What a lane of a program without calls does. Expressions have the meaning that they have in a program.
use Rattle.std.specs.Prelude.{ℕ, zero, suc, ◌==◌, if◌then◌else◌, Bool, List, [], map, take, unwrap_or, Some}
use Rattle.lane_core.specs.Lane.{Exchange, Lane, LaneMeaning, Run, first_exchange, standing}
use Rattle.lane_core.specs.declared.event.Asked.TheVariants.{Ended}
use Rattle.hl_meaning.specs.declared.program.Semantic.{Semantic}
use Rattle.hl_meaning.specs.Types.{component_count, void_type}
use Rattle.hl_meaning.specs.Places.{variable_type}
use Rattle.hl_meaning.specs.Slots.{slots_of}
use Rattle.lane_core.specs.Words.{wrapped}
use Rattle.hl_source.specs.State.{Context, Progress, State, after, ends_at, goes_with, out_of_turns, with_variable}
use Rattle.hl_source.specs.Memory.{zeros_of}
use Rattle.hl_source.specs.Expressions.{evaluates}
use Rattle.hl_source.specs.Statements.{condition, declares}
use Rattle.hl_source.specs.SourceLane.{semantic_components}
use Rattle.lane_core.specs.Inputs.{coordinates_of}
use Rattle.hl_inline.specs.FlatTrees.{Flat, FlatStmt, FlatStmts, MaybeFlatStmt, flat_block, flat_if, flat_input, flat_leave, flat_local, flat_loop, flat_named, flat_run, more_flat_stmts, no_flat_stmt, no_flat_stmts, some_flat_stmt}
use Rattle.hl_inline.specs.FlatWellFormed.{flat_scope}

-- how control leaves a statement: at its end, or for the end of the `Named` of a name
pub data FlatLeaving : Type 0 where
  flat_end : FlatLeaving
  flat_to : (name : ℕ) → FlatLeaving

-- a statement goes on with how it is left
abbrev pub FlatDoing : Type 0
FlatDoing = State → Progress FlatLeaving

-- what follows a statement: it runs where the statement comes to its end
abbrev pub then_flat : FlatDoing → FlatLeaving → FlatDoing
then_flat next flat_end s = next s
then_flat next (flat_to name) s = goes_with (flat_to name) s

-- the end of a `Named`, which is where a `Leave` of its name goes
abbrev pub named_end : (name : ℕ) → FlatLeaving → FlatDoing
named_end name flat_end s = goes_with flat_end s
named_end name (flat_to other) s = goes_with (if name == other then flat_end else flat_to other) s

-- A loop of at most so many turns, which ends where a turn is left for a `Named` around it. With no turns left the run
-- goes on past its bound.
abbrev pub flat_turns : ℕ → (turn : FlatDoing) → FlatDoing
flat_turns zero turn s = out_of_turns s
flat_turns (suc n) turn s = after (turn s) (then_flat (flat_turns n turn))

-- done, without a place to leave for
abbrev pub flat_done : {A : Type 0} → Progress A → Progress FlatLeaving
flat_done part = after part (λ _ s. goes_with flat_end s)

abbrev pub flat_choice : Bool → FlatDoing → FlatDoing → FlatDoing
flat_choice goes_on consequent alternative s = (if goes_on then consequent else alternative) s

-- the words of a semantic in a variable, which has the first ones where it has fewer components
abbrev pub input_value : Flat → Lane → (variable : ℕ) → Semantic → List ℕ
input_value f lane variable semantic =
    take (component_count (unwrap_or (variable_type f.variables variable) void_type))
    (map wrapped (semantic_components (coordinates_of f.threads) lane (Some semantic)))

abbrev pub flat_context : Flat → Lane → Context
flat_context f lane = record { scope = flat_scope f; slots = slots_of f.resources; callees = []; lane = lane }

abbrev mutual
  -- what a statement does, where each loop takes at most n turns
  pub performs : Flat → Lane → (n : ℕ) → FlatStmt → FlatDoing
  performs f lane n (flat_block body) s = performs_all f lane n body s
  performs f lane n (flat_input variable semantic) s =
      goes_with flat_end (with_variable variable (input_value f lane variable semantic) s)
  performs f lane n (flat_local variable init) s = flat_done (declares (flat_context f lane) variable init s)
  performs f lane n (flat_run value) s = flat_done (evaluates (flat_context f lane) value s)
  performs f lane n (flat_if cond consequent alternative) s =
      after (condition (flat_context f lane) cond s)
      (λ is_true. flat_choice is_true (λ s'. performs f lane n consequent s') (λ s'. performs_if f lane n alternative s'))
  performs f lane n (flat_loop body) s = flat_turns n (λ s'. performs f lane n body s') s
  performs f lane n (flat_named name body) s = after (performs f lane n body s) (named_end name)
  performs f lane n (flat_leave name) s = goes_with (flat_to name) s

  -- statements one after another
  pub performs_all : Flat → Lane → ℕ → FlatStmts → FlatDoing
  performs_all f lane n no_flat_stmts s = goes_with flat_end s
  performs_all f lane n (more_flat_stmts first rest) s =
      after (performs f lane n first s) (then_flat (λ s'. performs_all f lane n rest s'))

  pub performs_if : Flat → Lane → ℕ → MaybeFlatStmt → FlatDoing
  performs_if f lane n no_flat_stmt s = goes_with flat_end s
  performs_if f lane n (some_flat_stmt body) s = performs f lane n body s

-- all variables are zeros at first
abbrev pub flat_first_state : Flat → Lane → (exchange : Exchange) → State
flat_first_state f lane exchange = record { variables = map (λ v. zeros_of (flat_context f lane) v.ty) f.variables; exchange = exchange }

-- where the run of the body ends
abbrev pub flat_ended : Progress FlatLeaving → Run
flat_ended (goes_with leaving s) = standing s.exchange Ended
flat_ended (ends_at run) = run

-- A lane of a program without calls runs its body. Where each loop takes at most n turns, and the k-th event takes the
-- k-th reply, the lane ends, has a fault, asks an event, or goes on past the bound.
unfoldable pub flat_lane : Flat → LaneMeaning
flat_lane f n lane replies = Some (flat_ended (performs_all f lane n f.body (flat_first_state f lane (first_exchange replies))))
