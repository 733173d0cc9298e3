use Rattle.std.proofs.Common.{◌∙◌, [], ap}
use Rattle.hl_meaning.specs.Layout.{struct_kinds_after}
use Rattle.hl_meaning.specs.Views.{plain_structs}
use Rattle.hl_interpreter.proofs.Lanes.{lane-done}
use Rattle.hl_interpreter.proofs.lane.run_in.Goals as goal

pub invariant_of-run : goal.invariant_of-run
invariant_of-run c =
    record { known = c.as_slice-2.ensures.value ∙ (c.in_ok-kinds.ensures ∙ ap (λ l. struct_kinds_after [] (plain_structs l)) c.as_slice.ensures.value) }

pub returns : goal.returns
returns c =
    lane-done
    (record { alloc = c.args.alloc; program = c.args.program; kinds = c.as_slice-2.result; slots = c.args.slots; lane = c.args.lane; replies = c.args.replies; turns = c.args.turns; known = c.as_slice-2.ensures.value ∙ (c.in_ok-kinds.ensures ∙ ap (λ l. struct_kinds_after [] (plain_structs l)) c.as_slice.ensures.value) })
    (record { variables = c.into_vec.result; events = c.new.result }) c.run_entry.new.state c.in_ok-outcome.outcome
    c.requires c.new.ensures (c.into_vec.ensures ∙ c.in_ok-inputs.ensures) c.in_ok-outcome.ensures
