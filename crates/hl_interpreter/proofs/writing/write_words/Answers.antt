use Rattle.std.proofs.Common.{ap, sym}
use Rattle.hl_source.specs.Memory.{write_words}
use Rattle.hl_interpreter.specs.HeldPlaces.{plain_holder}
use Rattle.hl_interpreter.specs.Runs.{context_of, state_of}
use Rattle.hl_interpreter.proofs.Exits.{effect}
use Rattle.hl_interpreter.proofs.Meeting.{same}
use Rattle.hl_interpreter.proofs.writing.write_words.Goals as goal

pub returns-in-Variable : goal.returns-in-Variable
returns-in-Variable c =
    let context = c.args.context.now in
    let s = state_of context.run.now.replies.now c.args.state.now in
    same effect c.write_variable.result _ _ _ (sym (ap (λ h. write_words (context_of context) (plain_holder h) c.args.offset c.args.words.now s) c.in-Variable.is)) (c.write_variable.ensures context.run.now.replies.now)

pub returns-in-Constant : goal.returns-in-Constant
returns-in-Constant c =
    let context = c.args.context.now in
    ap (λ h. write_words (context_of context) (plain_holder h) c.args.offset c.args.words.now (state_of context.run.now.replies.now c.args.state.now)) c.in-Constant.is

pub returns-in-Shared : goal.returns-in-Shared
returns-in-Shared c =
    let context = c.args.context.now in
    let s = state_of context.run.now.replies.now c.args.state.now in
    same effect c.write_shared.result _ _ _ (sym (ap (λ h. write_words (context_of context) (plain_holder h) c.args.offset c.args.words.now s) c.in-Shared.is)) c.write_shared.ensures

pub returns-in-Element : goal.returns-in-Element
returns-in-Element c =
    let context = c.args.context.now in
    let s = state_of context.run.now.replies.now c.args.state.now in
    same effect c.store_words.result _ _ _ (sym (ap (λ h. write_words (context_of context) (plain_holder h) c.args.offset c.args.words.now s) c.in-Element.is)) c.store_words.ensures
