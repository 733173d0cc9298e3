use Rattle.std.proofs.Common.{◌∙◌, [], ap, sym}
use Rattle.hl_meaning.specs.Views.{plain_arg}
use Rattle.hl_meaning.proofs.Plain.{plain_arg-Place, plain_arg-Value}
use Rattle.hl_interpreter.specs.Operands.{copies_if}
use Rattle.hl_interpreter.specs.Runs.{context_of, state_of}
use Rattle.hl_interpreter.proofs.Meeting.{same}
use Rattle.hl_interpreter.proofs.calling.copy_if_place.Goals as goal

pub returns-in-Place : goal.returns-in-Place
returns-in-Place c =
    let context = context_of c.args.context.now in
    let s = state_of c.args.context.now.run.now.replies.now c.args.state.now in
    same {B = Unit {0}} (λ _. []) c.copy_back.result (state_of c.args.context.now.run.now.replies.now c.copy_back.new.state) _ _
    (ap (λ a. copies_if context a c.args.indexes.now c.args.words.now s) (sym (ap plain_arg c.in-Place.is ∙ plain_arg-Place c.in-Place.place)))
    c.copy_back.ensures

pub returns-in-Value : goal.returns-in-Value
returns-in-Value c =
    let context = context_of c.args.context.now in
    let s = state_of c.args.context.now.run.now.replies.now c.args.state.now in
    ap (λ a. copies_if context a c.args.indexes.now c.args.words.now s) (ap plain_arg c.in-Value.is ∙ plain_arg-Value c.in-Value.field-0)
