use Rattle.std.proofs.Common.{◌≡◌, drop, length, take}
use Rattle.hl_source.specs.Memory.{byte_offset, pieces, store_four}
use Rattle.hl_source.specs.State.{each, no_value}
use Rattle.hl_interpreter.specs.Runs.{state_of}
use Rattle.hl_interpreter.proofs.buffers.store_words.Given as goal

abbrev pub invariant-loop-piece : goal.invariant-loop-piece
invariant-loop-piece l =
    no_value (each (λ piece. store_four l.slot l.index (byte_offset l.offset piece) (take 4 (drop piece l.words))) (pieces (length l.words)) (state_of l.run.replies.now l.initial.state))
    ≡ no_value (each (λ piece. store_four l.slot l.index (byte_offset l.offset piece) (take 4 (drop piece l.words))) (drop l.piece (pieces (length l.words))) (state_of l.run.replies.now l.state))
