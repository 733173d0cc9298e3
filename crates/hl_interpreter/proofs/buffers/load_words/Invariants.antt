use Rattle.std.proofs.Common.{◌≡◌, drop}
use Rattle.hl_source.specs.Memory.{byte_offset, load_four, pieces}
use Rattle.hl_source.specs.State.{each}
use Rattle.hl_interpreter.specs.Runs.{state_of}
use Rattle.hl_interpreter.proofs.ListLoops.{flat}
use Rattle.hl_interpreter.proofs.Meeting.{behind}
use Rattle.hl_interpreter.proofs.buffers.load_words.Given as goal

abbrev pub invariant-loop-piece : goal.invariant-loop-piece
invariant-loop-piece l =
    flat (each (λ piece. load_four l.slot l.index (byte_offset l.offset piece)) (pieces l.count) (state_of l.run.replies.now l.initial.state))
    ≡ behind l.words (flat (each (λ piece. load_four l.slot l.index (byte_offset l.offset piece)) (drop l.piece (pieces l.count)) (state_of l.run.replies.now l.state)))
