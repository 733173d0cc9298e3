use Rattle.std.proofs.Common.{◌≡◌, ◌∷◌, [], drop}
use Rattle.std.specs.List.{zip}
use Rattle.lane_core.specs.Words.{wrapping_add}
use Rattle.hl_source.specs.Memory.{write_words}
use Rattle.hl_source.specs.State.{each, no_value}
use Rattle.hl_interpreter.specs.HeldPlaces.{plain_holder}
use Rattle.hl_interpreter.specs.Runs.{context_of, state_of}
use Rattle.hl_interpreter.proofs.memory.write_each.Given as goal

abbrev pub invariant-loop-number : goal.invariant-loop-number
invariant-loop-number l =
    no_value (each (λ w. write_words (context_of l.context) (plain_holder l.holder) (wrapping_add l.offset w.0) (w.1 ∷ [])) (zip l.letters l.words) (state_of l.context.run.now.replies.now l.initial.state))
    ≡ no_value (each (λ w. write_words (context_of l.context) (plain_holder l.holder) (wrapping_add l.offset w.0) (w.1 ∷ [])) (drop l.number (zip l.letters l.words)) (state_of l.context.run.now.replies.now l.state))
