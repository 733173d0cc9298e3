use Rattle.std.proofs.Common.{◌≡◌, drop}
use Rattle.hl_source.specs.Intrinsics.{wave_word, wave_words}
use Rattle.hl_source.specs.State.{each}
use Rattle.hl_interpreter.specs.Runs.{state_of}
use Rattle.hl_interpreter.proofs.Meeting.{behind}
use Rattle.hl_interpreter.proofs.intrinsics.wave_words.Given as goal

abbrev pub invariant-loop-operand : goal.invariant-loop-operand
invariant-loop-operand l =
    wave_words l.wave l.lane l.kind l.words (state_of l.run.replies.now l.initial.state)
    ≡ behind l.found (each (wave_word l.wave l.lane l.kind) (drop l.operand-index l.words) (state_of l.run.replies.now l.state))
