use Rattle.std.proofs.Common.{◌≡◌, ℕ, ◌<◌, drop, length}
use Rattle.std.specs.List.{zip}
use Rattle.hl_source.specs.Memory.{word_offsets, write_variable_word}
use Rattle.hl_source.specs.State.{State, each, no_value, variable_words, with_variable}
use Rattle.hl_interpreter.proofs.writing.set_words.Given as goal

abbrev pub invariant-loop-more : goal.invariant-loop-more
invariant-loop-more l = (number : ℕ) (s : State) → number < length s.variables → variable_words s number ≡ l.initial.variable
    → no_value (each (λ w. write_variable_word number w.0 w.1) (zip (word_offsets l.offset (length l.words)) l.words) s)
    ≡ no_value (each (λ w. write_variable_word number w.0 w.1) (drop l.more (zip (word_offsets l.offset (length l.words)) l.words)) (with_variable number l.variable s))
