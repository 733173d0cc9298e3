use Rattle.std.proofs.Common.{◌≡◌, drop}
use Rattle.lane_core.specs.declared.event.Event.TheVariants.{SharedLoad}
use Rattle.hl_source.specs.Memory.{cell, shared_size, within, word_offsets}
use Rattle.hl_source.specs.State.{asks_word, each}
use Rattle.hl_interpreter.specs.Runs.{run_context, state_of}
use Rattle.hl_interpreter.proofs.Meeting.{behind}
use Rattle.hl_interpreter.proofs.reading.shared_words.Given as goal

abbrev pub invariant-loop-more : goal.invariant-loop-more
invariant-loop-more l =
    each (λ at. within at (shared_size (run_context l.run) l.number) (asks_word (SharedLoad (cell l.number at)))) (word_offsets l.offset l.count) (state_of l.run.replies.now l.initial.state)
    ≡ behind l.found (each (λ at. within at (shared_size (run_context l.run) l.number) (asks_word (SharedLoad (cell l.number at)))) (drop l.more (word_offsets l.offset l.count)) (state_of l.run.replies.now l.state))
