use Rattle.std.proofs.Common.{◌∙◌, [], ap, sym}
use Rattle.hl_meaning.specs.Layout.{kinds_of}
use Rattle.hl_meaning.specs.Views.{plain_location}
use Rattle.hl_source.specs.Memory.{write_place}
use Rattle.hl_source.specs.Operations.{map_2, word_as}
use Rattle.hl_interpreter.specs.Runs.{context_of, state_of}
use Rattle.hl_interpreter.proofs.Assigning.{place-type}
use Rattle.hl_interpreter.proofs.Meeting.{same}
use Rattle.hl_interpreter.proofs.calling.copy_back.Goals as goal

pub returns : goal.returns
returns c =
    let context = context_of c.args.context.now in
    let s = state_of c.args.context.now.run.now.replies.now c.args.state.now in
    same {B = Unit {0}} (λ _. []) c.write_place.result (state_of c.args.context.now.run.now.replies.now c.write_place.new.state) _ _
    (ap (λ l. write_place context (plain_location c.args.place.now) c.args.indexes.now l s)
    (c.as_slice-2.ensures.value ∙ (c.in_ok-words.ensures ∙
    ap (λ k. map_2 word_as k c.args.words.now) (c.as_slice.ensures.value ∙ (c.in_ok-kinds.ensures ∙ ap (kinds_of context.scope.structs) (sym (place-type c.args.place.now)))))))
    c.write_place.ensures
