use Rattle.std.proofs.Common.{◌≡◌, drop, length}
use Rattle.std.specs.List.{zip}
use Rattle.lane_core.specs.declared.event.Event.TheVariants.{SharedStore}
use Rattle.hl_source.specs.Memory.{cell, shared_size, within, word_offsets}
use Rattle.hl_source.specs.State.{asks, each, no_value}
use Rattle.hl_interpreter.specs.Runs.{run_context, state_of}
use Rattle.hl_interpreter.proofs.writing.write_shared.Given as goal

abbrev pub invariant-loop-more : goal.invariant-loop-more
invariant-loop-more l =
    no_value (each (λ w. within w.0 (shared_size (run_context l.run) l.number) (asks (SharedStore (cell l.number w.0) w.1))) (zip (word_offsets l.offset (length l.words)) l.words) (state_of l.run.replies.now l.initial.state))
    ≡ no_value (each (λ w. within w.0 (shared_size (run_context l.run) l.number) (asks (SharedStore (cell l.number w.0) w.1))) (drop l.more (zip (word_offsets l.offset (length l.words)) l.words)) (state_of l.run.replies.now l.state))
