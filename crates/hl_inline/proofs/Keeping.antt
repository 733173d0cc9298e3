-- What is kept, of a program whose well-formedness is a mere fact.
use Rattle.std.proofs.Common.{◌∙◌, refl, sym, [], Option}
use Rattle.std.proofs.Math.Logic.{∥∥₁_elim, ∥∥₁_map}
use Rattle.std.proofs.Props.{props}
use Rattle.std.proofs.lemmas.List.{append-nil}
use Rattle.lane_core.specs.declared.event.Event.{Event}
use Rattle.lane_core.specs.declared.event.Asked.{Asked}
use Rattle.lane_core.specs.Lane.{Run}
use Rattle.hl_source.specs.SourceLane.{source_lane}
use Rattle.hl_source.proofs.Runs.{never_wrong}
use Rattle.hl_inline.specs.FlatLane.{flat_lane}
use Rattle.hl_inline.specs.InlinedPrograms.{inlined_program}
use Rattle.hl_inline.specs.Keeps.{InlinedIsFlat, InlinedKeeps, KeptIsSameLane}
use Rattle.hl_inline.proofs.Whole.{keeps_meaning}
use Rattle.hl_inline.proofs.TouchedPrograms.{keeps_lengths}
use Rattle.hl_inline.proofs.FlatProgram.{inlined_program_is_flat}
use mathlib.Core.Sum.{⊎_set}

event_set : IsSet Event
event_set = hlevel (props, ⊎_set)

asked_set : IsSet Asked
asked_set = hlevel (props, ⊎_set, event_set)

run_set : IsSet (Option Run)
run_set = hlevel (props, ⊎_set, event_set, asked_set)

-- what a program becomes keeps all that it has to
pub inlined_keeps : InlinedKeeps
unfolding inlined_program
inlined_keeps p well = record {
  structs = refl;
  resources = refl;
  shared = refl;
  threads = refl;
  runs = λ n lane replies. ∥∥₁_elim well (run_set (flat_lane (inlined_program p) n lane replies) (source_lane p n lane replies)) (λ w. keeps_meaning p w n lane replies);
  lengths = ∥∥₁_map well (keeps_lengths p);
}

-- equal runs at each bound are the same lane
pub kept_same_lane : KeptIsSameLane
kept_same_lane p f kept = record {
  outcomes = λ lane replies n run is _. (n, kept.runs n lane replies ∙ is);
  outcomes_back = λ lane replies n run is _. (n, sym (kept.runs n lane replies) ∙ is);
  events = λ lane replies n run is. (n, run, kept.runs n lane replies ∙ is, ([], append-nil run.events));
  events_back = λ lane replies n run is. (n, run, sym (kept.runs n lane replies) ∙ is, ([], append-nil run.events));
  never_wrong = λ n lane replies is. never_wrong p n lane replies (sym (kept.runs n lane replies) ∙ is);
}

-- it is well formed too
pub inlined_program_flat : InlinedIsFlat
inlined_program_flat p well few = ∥∥₁_map well (λ w. inlined_program_is_flat p w few)
