-- The run of a lane, by the run of its entry.
use Rattle.std.proofs.Common.{◌≡◌, ◌∙◌, refl, sym, ap, List, [], drop, length, map, slice_get, slice_index_or, unwrap_or, Some}
use Rattle.std.proofs.lemmas.Option.{unwrap_or-slice_get}
use Rattle.lane_core.specs.declared.event.Asked.{Asked}
use Rattle.lane_core.specs.declared.event.Event.{Event}
use Rattle.lane_core.specs.Lane.{first_exchange, standing}
use Rattle.hl_meaning.specs.Held.{plain_program}
use Rattle.hl_meaning.specs.Slots.{slots_of}
use Rattle.hl_meaning.specs.Views.{plain_function, plain_resource}
use Rattle.hl_source.specs.Expressions.{no_callee}
use Rattle.hl_source.specs.SourceLane.{entry_of, entry_run, inputs, source_lane}
use Rattle.hl_interpreter.specs.declared.run.Run.{Run}
use Rattle.hl_interpreter.specs.declared.state.State.{State as HeldState}
use Rattle.hl_interpreter.specs.Runs.{callees_behind, lane_of, state_of}
use Rattle.hl_interpreter.proofs.Callees.{callees-same}

-- nothing was asked yet
first-asked : (run : Run) (before : HeldState) → before.events ≡ [] → first_exchange run.replies.now ≡ (state_of run.replies.now before).exchange
first-asked run before none = sym (ap (λ (events : List Event). record { asked = events; replies = drop (length events) run.replies.now }) none)

-- the run of the entry is the run of the lane
pub lane-done : (run : Run) (before behind : HeldState) (outcome : Asked) → run.slots.now ≡ slots_of (map plain_resource run.program.now.resources) → before.events ≡ []
    → before.variables.items ≡ inputs (plain_program run.program.now) (lane_of run.lane.now) (slice_get (plain_program run.program.now).functions run.program.now.entry)
    → entry_run (slice_index_or (callees_behind run [] [] (map plain_function run.program.now.functions)) run.program.now.entry no_callee before.variables.items (state_of run.replies.now before).exchange)
    ≡ standing (state_of run.replies.now behind).exchange outcome
    → source_lane (plain_program run.program.now) run.turns (lane_of run.lane.now) run.replies.now ≡ Some (record { events = behind.events; outcome = outcome })
unfolding source_lane
lane-done run before behind outcome slots none is runs =
    let p = plain_program run.program.now in
    let lane = lane_of run.lane.now in
    let functions = map plain_function run.program.now.functions in
    let callees = callees_behind run [] [] functions in
    let vs = before.variables.items in
    ap (λ l. Some (entry_run (entry_of p lane run.turns l (first_exchange run.replies.now)))) (sym is) ∙
    (ap (λ cs. Some (entry_run (unwrap_or (slice_get cs p.entry) no_callee vs (first_exchange run.replies.now)))) (callees-same run [] [] functions slots refl refl) ∙
    (ap (λ f. Some (entry_run (f vs (first_exchange run.replies.now)))) (unwrap_or-slice_get callees p.entry no_callee) ∙
    (ap (λ x. Some (entry_run (slice_index_or callees p.entry no_callee vs x))) (first-asked run before none) ∙ ap Some runs)))
