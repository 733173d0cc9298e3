use Rattle.std.proofs.Common.{◌∙◌, ap, sym}
use Rattle.hl_source.specs.Memory.{atomic_word, buffer_atomic}
use Rattle.hl_source.specs.State.{asks_word}
use Rattle.hl_interpreter.specs.HeldPlaces.{plain_holder}
use Rattle.hl_interpreter.specs.Runs.{run_context, state_of}
use Rattle.hl_interpreter.proofs.Meeting.{same}
use Rattle.hl_interpreter.proofs.atomics.atomic_word.Goals as goal

pub returns-in-Shared : goal.returns-in-Shared
returns-in-Shared c =
    let s = state_of c.args.run.now.replies.now c.args.state.now in
    same (λ w. w) c.atomic_shared.result _ _ _ (sym (ap (λ h. atomic_word (run_context c.args.run.now) (plain_holder h) c.args.offset c.args.kind c.args.compare c.args.word s) c.in-Shared.is)) c.atomic_shared.ensures

pub returns-in-Element : goal.returns-in-Element
returns-in-Element c =
    let s = state_of c.args.run.now.replies.now c.args.state.now in
    same (λ w. w) c.ask_word.result _ _ _
    (ap (λ e. asks_word e s) (c.buffer_atomic.ensures ∙ ap (λ at. buffer_atomic c.in-Element.slot c.in-Element.index at c.args.kind c.args.compare c.args.word) c.byte_offset-at.ensures) ∙
    sym (ap (λ h. atomic_word (run_context c.args.run.now) (plain_holder h) c.args.offset c.args.kind c.args.compare c.args.word s) c.in-Element.is))
    c.ask_word.ensures

pub returns-in-Variable : goal.returns-in-Variable
returns-in-Variable c =
    let s = state_of c.args.run.now.replies.now c.args.state.now in
    ap (λ h. atomic_word (run_context c.args.run.now) (plain_holder h) c.args.offset c.args.kind c.args.compare c.args.word s) c.in-Variable.is

pub returns-in-Constant : goal.returns-in-Constant
returns-in-Constant c =
    let s = state_of c.args.run.now.replies.now c.args.state.now in
    ap (λ h. atomic_word (run_context c.args.run.now) (plain_holder h) c.args.offset c.args.kind c.args.compare c.args.word s) c.in-Constant.is
