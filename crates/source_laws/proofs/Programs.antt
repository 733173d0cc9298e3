-- The lane of a program, with further replies and no fewer turns, and whatever the words are that its private allocations
-- start with.
use Rattle.std.proofs.Common.{◌≡◌, refl, sym, ap, subst, ℕ, suc, ◌≤◌, List, [], ◌∷◌, ◌++◌, Some, arith, get_or, length}
use Rattle.std.specs.Prelude.{slice_get}
use Rattle.std.proofs.lemmas.List.{append-nil}
use Rattle.std.proofs.lemmas.Option.{same_Some, unwrap_or-slice_get}
use Rattle.lane_core.specs.declared.event.Asked.TheVariants.{Ended}
use Rattle.lane_core.specs.declared.event.Reply.{Reply}
use Rattle.lane_core.specs.Lane.{Lane, Run, first_exchange, standing}
use Rattle.lane_core.proofs.Follows.{prefix_refl}
use Rattle.hl_meaning.specs.Programs.{FunctionDef, Program}
use Rattle.hl_meaning.specs.Slots.{slots_of}
use Rattle.hl_meaning.specs.WellFormed.{scope_of}
use Rattle.hl_source.specs.State.{Callee, Progress, after, ends_at, goes_with}
use Rattle.hl_source.specs.Expressions.{no_callee}
use Rattle.hl_source.specs.Statements.{does_all}
use Rattle.hl_source.specs.SourceLane.{callee_of, callees_after, context_of, entry_of, entry_run, first_state, inputs, returned_value, source_lane}
use Rattle.source_laws.specs.Laws.{Extends, RunsExtend, StartIsNotRead}
use Rattle.source_laws.proofs.Extending.{extends_both, extends_on}
use Rattle.source_laws.proofs.Continuing.{Continues, Continuing, continuing_then}
use Rattle.source_laws.proofs.Forms.{ContinuingCallee, ContinuingCallees, beside, continuing_callee_at}
use Rattle.source_laws.proofs.Statements.{continuing_does_all}

-- there are as many functions
same_length : (more : List Reply) (callees others : List Callee) → ContinuingCallees more callees others → length callees ≡ length others
same_length more [] [] h = refl
same_length more (callee ∷ callees) (other ∷ others) h = ap suc (same_length more callees others h.1)
same_length more [] (other ∷ others) h = absurd h
same_length more (callee ∷ callees) [] h = absurd h

one_behind : (more : List Reply) (callees others : List Callee) (callee other : Callee) → ContinuingCallees more callees others → ContinuingCallee more callee other →
    ContinuingCallees more (callees ++ callee ∷ []) (others ++ other ∷ [])
one_behind more [] [] callee other h k = (k, tt)
one_behind more (first ∷ callees) (second ∷ others) callee other h k = (h.0, one_behind more callees others callee other h.1 k)
one_behind more [] (second ∷ others) callee other h k = absurd h
one_behind more (first ∷ callees) [] callee other h k = absurd h

entry_extends : (more : List Reply) (part other : Progress (List ℕ)) → Continues more part other → Extends more (entry_run part) (entry_run other)
entry_extends more (goes_with value s) other e = subst (λ x. Extends more (standing s.exchange Ended) (entry_run x)) (sym e) refl
entry_extends more (ends_at run) (ends_at later) h = h
entry_extends more (ends_at run) (goes_with value s) h = extends_on more run (standing s.exchange Ended) s.exchange.asked h (prefix_refl s.exchange.asked)

-- the run of a lane
abbrev pub run_of : Program → (n : ℕ) → Lane → (replies : List Reply) → Run
run_of p n lane replies = entry_run (entry_of p lane n (inputs p lane (slice_get p.functions p.entry)) (first_exchange replies))

module _ (p : Program) (more : List Reply) (lane : Lane) (start : List ℕ) (n n' : ℕ) (fewer : n ≤ n') where
  abbrev other_lane : Lane
  other_lane = record lane { start = start }

  continuing_callee : (earlier others : List Callee) → ContinuingCallees more earlier others → (f : FunctionDef) →
      ContinuingCallee more (callee_of (context_of p lane earlier f) n f) (callee_of (context_of p other_lane others f) n' f)
  continuing_callee earlier others h f =
      subst (λ count. ContinuingCallee more (callee_of (context_of p lane earlier f) n f) (callee_of (record { scope = scope_of p count f; slots = slots_of p.resources; callees = others; lane = other_lane }) n' f))
      (same_length more earlier others h)
      (record { continues = λ parameters x. body.continues (first_state (context_of p lane earlier f) f parameters x); grows = λ parameters x. body.grows (first_state (context_of p lane earlier f) f parameters x) })
    where
      body : Continuing more (λ s. after (does_all (context_of p lane earlier f) n f.body s) (λ leaving s'. goes_with (returned_value leaving) s'))
          (λ s. after (does_all (beside (context_of p lane earlier f) others start) n' f.body s) (λ leaving s'. goes_with (returned_value leaving) s'))
      body = continuing_then more _ _ returned_value (continuing_does_all more (context_of p lane earlier f) others start h n n' fewer f.body)

  continuing_callees : (earlier others : List Callee) → ContinuingCallees more earlier others → (functions : List FunctionDef) →
      ContinuingCallees more (callees_after p lane n earlier functions) (callees_after p other_lane n' others functions)
  continuing_callees earlier others h [] = h
  continuing_callees earlier others h (f ∷ functions) =
      continuing_callees (earlier ++ callee_of (context_of p lane earlier f) n f ∷ []) (others ++ callee_of (context_of p other_lane others f) n' f ∷ [])
      (one_behind more earlier others _ _ h (continuing_callee earlier others h f)) functions

  continuing_entry : ContinuingCallee more (entry_of p lane n) (entry_of p other_lane n')
  continuing_entry =
      subst (λ f. ContinuingCallee more f (entry_of p other_lane n')) (sym (unwrap_or-slice_get (callees_after p lane n [] p.functions) p.entry no_callee))
      (subst (λ f. ContinuingCallee more (get_or (callees_after p lane n [] p.functions) p.entry no_callee) f) (sym (unwrap_or-slice_get (callees_after p other_lane n' [] p.functions) p.entry no_callee))
      (continuing_callee_at more (callees_after p lane n [] p.functions) (callees_after p other_lane n' [] p.functions) (continuing_callees [] [] tt p.functions) p.entry))

  pub lane_extends : (replies : List Reply) → Extends more (run_of p n lane replies) (run_of p n' other_lane (replies ++ more))
  lane_extends replies = entry_extends more _ _ (continuing_entry.continues (inputs p lane (slice_get p.functions p.entry)) (first_exchange replies))

pub runs_extend : RunsExtend
unfolding source_lane
runs_extend p n n' lane replies more run later fewer is is_later =
    subst (λ r. Extends more r later) (same_Some _ _ is) (subst (λ r. Extends more (run_of p n lane replies) r) (same_Some _ _ is_later) (lane_extends p more lane lane.start n n' fewer replies))

pub start_is_not_read : StartIsNotRead
unfolding source_lane
start_is_not_read p n lane start replies = ap Some (extends_both _ _ (same_turns lane start) (same_turns (record lane { start = start }) lane.start))
  where
    same_turns : (lane : Lane) (start : List ℕ) → Extends [] (run_of p n lane replies) (run_of p n (record lane { start = start }) replies)
    same_turns lane start =
        subst (λ rs. Extends [] (run_of p n lane replies) (run_of p n (record lane { start = start }) rs)) (append-nil replies) (lane_extends p [] lane start n n (omega arith) replies)
