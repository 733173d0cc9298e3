use Rattle.std.proofs.Common.{◌∙◌, ap, sym}
use Rattle.hl_source.specs.Memory.{read_words, word_of, word_offsets}
use Rattle.hl_source.specs.State.{each}
use Rattle.hl_interpreter.specs.HeldPlaces.{plain_holder}
use Rattle.hl_interpreter.specs.Runs.{context_of, state_of}
use Rattle.hl_interpreter.proofs.Meeting.{same}
use Rattle.hl_interpreter.proofs.reading.read_words.Goals as goal

pub returns-in-Variable : goal.returns-in-Variable
returns-in-Variable c =
    let context = c.args.context.now in
    let s = state_of context.run.now.replies.now c.args.state.now in
    same (λ w. w) c.words_from.result s _ _
    (ap (λ l. each (word_of l) (word_offsets c.args.offset c.args.count) s) c.variable_words.ensures ∙
    sym (ap (λ h. read_words (context_of context) (plain_holder h) c.args.offset c.args.count s) c.in-Variable.is))
    (c.words_from.ensures s)

pub returns-in-Constant : goal.returns-in-Constant
returns-in-Constant c =
    let context = c.args.context.now in
    let s = state_of context.run.now.replies.now c.args.state.now in
    same (λ w. w) c.words_from-in-Constant.result s _ _
    (ap (λ l. each (word_of l) (word_offsets c.args.offset c.args.count) s) c.constant_words.ensures ∙
    sym (ap (λ h. read_words (context_of context) (plain_holder h) c.args.offset c.args.count s) c.in-Constant.is))
    (c.words_from-in-Constant.ensures s)

pub returns-in-Shared : goal.returns-in-Shared
returns-in-Shared c =
    let context = c.args.context.now in
    let s = state_of context.run.now.replies.now c.args.state.now in
    same (λ w. w) c.shared_words.result _ _ _ (sym (ap (λ h. read_words (context_of context) (plain_holder h) c.args.offset c.args.count s) c.in-Shared.is)) c.shared_words.ensures

pub returns-in-Element : goal.returns-in-Element
returns-in-Element c =
    let context = c.args.context.now in
    let s = state_of context.run.now.replies.now c.args.state.now in
    same (λ w. w) c.load_words.result _ _ _ (sym (ap (λ h. read_words (context_of context) (plain_holder h) c.args.offset c.args.count s) c.in-Element.is)) c.load_words.ensures
