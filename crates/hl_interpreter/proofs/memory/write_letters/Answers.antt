use Rattle.std.proofs.Common.{sym}
use Rattle.hl_interpreter.specs.HeldPlaces.{plain_holder}
use Rattle.hl_interpreter.specs.Runs.{context_of, state_of}
use Rattle.hl_interpreter.proofs.Exits.{effect}
use Rattle.hl_interpreter.proofs.Cells.{letters-none, letters-some}
use Rattle.hl_interpreter.proofs.Meeting.{same}
use Rattle.hl_interpreter.proofs.memory.write_letters.Goals as goal

pub returns-then-is_empty : goal.returns-then-is_empty
returns-then-is_empty c =
    same effect c.write_words.result _ _ _
    (sym (letters-none (context_of c.args.context.now) (plain_holder c.args.holder) c.args.at.offset c.args.at.letters.now c.args.words.now (state_of c.args.context.now.run.now.replies.now c.args.state.now) c.if-is_empty.ensures))
    c.write_words.ensures

pub returns-else-is_empty : goal.returns-else-is_empty
returns-else-is_empty c =
    same effect c.write_each.result _ _ _
    (sym (letters-some (context_of c.args.context.now) (plain_holder c.args.holder) c.args.at.offset c.args.at.letters.now c.args.words.now (state_of c.args.context.now.run.now.replies.now c.args.state.now) c.if-is_empty.ensures))
    c.write_each.ensures
