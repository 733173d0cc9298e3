use Rattle.std.proofs.Common.{◌∙◌, ap, replicate, sym}
use Rattle.hl_meaning.specs.Layout.{words_of}
use Rattle.hl_meaning.specs.Views.{plain_location}
use Rattle.hl_source.specs.Expressions.{copies_in}
use Rattle.hl_source.specs.State.{goes_with}
use Rattle.hl_interpreter.specs.Runs.{context_of, state_of}
use Rattle.hl_interpreter.proofs.Assigning.{place-type}
use Rattle.hl_interpreter.proofs.calling.copy_in.Goals as goal

pub returns-in_ok-words-in-CopyOut : goal.returns-in_ok-words-in-CopyOut
returns-in_ok-words-in-CopyOut c =
    let context = context_of c.args.context.now in
    let s = state_of c.args.context.now.run.now.replies.now c.args.state.now in
    ap (λ k. copies_in context k (plain_location c.args.place.now) c.args.indexes.now s) c.in-CopyOut.is ∙
    ap (λ w. goes_with w s)
    (ap (λ n. replicate n 0) (ap (words_of context.scope.structs) (place-type c.args.place.now) ∙ sym c.in_ok-count-in-CopyOut.ensures) ∙ sym c.in_ok-words-in-CopyOut.ensures)
