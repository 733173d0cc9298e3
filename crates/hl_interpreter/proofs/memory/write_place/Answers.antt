use Rattle.std.proofs.Common.{ap}
use Rattle.hl_source.specs.Memory.{write_letters}
use Rattle.hl_source.specs.Offsets.{Place}
use Rattle.hl_interpreter.specs.Runs.{context_of, state_of}
use Rattle.hl_interpreter.proofs.Exits.{effect, memory-exit}
use Rattle.hl_interpreter.proofs.Meeting.{same}
use Rattle.hl_interpreter.proofs.memory.write_place.Goals as goal

pub returns-in_err-place : goal.returns-in_err-place
returns-in_err-place c = memory-exit effect c.from_residual.result _ _ c.from_residual.ensures.1

pub returns : goal.returns
returns c =
    let s = state_of c.args.context.now.run.now.replies.now c.args.state.now in
    same effect c.write_letters.result _ _ _ (ap (λ (p : Place). write_letters (context_of c.args.context.now) p.holder p.reached.offset p.reached.letters c.args.words.now s) c.in_ok-place.ensures) c.write_letters.ensures
