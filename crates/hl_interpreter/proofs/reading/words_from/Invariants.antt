use Rattle.std.proofs.Common.{◌≡◌, drop}
use Rattle.hl_source.specs.Memory.{word_of, word_offsets}
use Rattle.hl_source.specs.State.{State, each}
use Rattle.hl_interpreter.proofs.Meeting.{behind}
use Rattle.hl_interpreter.proofs.reading.words_from.Given as goal

abbrev pub invariant-loop-more : goal.invariant-loop-more
invariant-loop-more l = (s : State) → each (word_of l.words) (word_offsets l.offset l.count) s ≡ behind l.found (each (word_of l.words) (drop l.more (word_offsets l.offset l.count)) s)
