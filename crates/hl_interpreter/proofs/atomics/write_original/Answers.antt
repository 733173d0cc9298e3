use Rattle.std.proofs.Common.{[], ◌∷◌, ap, sym}
use Rattle.hl_meaning.specs.Views.{plain_maybe_location}
use Rattle.hl_source.specs.Expressions.{write_if}
use Rattle.hl_interpreter.specs.Runs.{context_of, state_of}
use Rattle.hl_interpreter.proofs.Exits.{effect}
use Rattle.hl_interpreter.proofs.Meeting.{same}
use Rattle.hl_interpreter.proofs.atomics.write_original.Goals as goal

pub returns-in-Some : goal.returns-in-Some
returns-in-Some c =
    let s = state_of c.args.context.now.run.now.replies.now c.args.state.now in
    same effect c.write_place.result _ _ _ (sym (ap (λ o. write_if (context_of c.args.context.now) (plain_maybe_location o) c.args.indexes.now (c.args.word ∷ []) s) c.in-Some.is)) c.write_place.ensures

pub returns-in-None : goal.returns-in-None
returns-in-None c =
    let s = state_of c.args.context.now.run.now.replies.now c.args.state.now in
    ap (λ o. write_if (context_of c.args.context.now) (plain_maybe_location o) c.args.indexes.now (c.args.word ∷ []) s) c.in-None.is
