use Rattle.std.proofs.Common.{◌∙◌, ◌<◌, ap, arith, length, sym}
use Rattle.hl_meaning.specs.Views.{plain_arg, plain_args}
use Rattle.hl_source.specs.Expressions.{copies_out}
use Rattle.hl_interpreter.specs.Operands.{copies_if, interleaved}
use Rattle.hl_interpreter.specs.Runs.{context_of, state_of}
use Rattle.hl_interpreter.proofs.Assigning.{copies-end, copies-next}
use Rattle.hl_interpreter.proofs.Turns.{drop-next}
use Rattle.hl_interpreter.proofs.calling.copy_out.Goals as goal

pub loop-at-preserved : goal.loop-at-preserved
loop-at-preserved c = λ initial e.
    let context = context_of c.args.context.now in
    let items = c.as_slice-items.result.now in
    let at = c.loop-at.at in
    let a = c.index-items-at.result in
    let i = c.index-indexes-at.result in
    let w = c.index-parameters-at.result in
    let s = state_of c.args.context.now.run.now.replies.now c.loop-at.state in
    let t = state_of c.args.context.now.run.now.replies.now c.copy_if_place.new.state in
    let whole = copies_out context (plain_args c.args.args.now) (interleaved c.args.indexes.now initial) c.args.parameters.now (state_of c.args.context.now.run.now.replies.now c.args.state.now) in
    let some_index : at < length c.args.indexes.now = omega arith in
    copies-next context items c.args.indexes.now initial c.args.parameters.now at a i w s t whole
    (drop-next items at a (omega arith) c.index-items-at.is) (drop-next c.args.indexes.now at i some_index c.index-indexes-at.is) (drop-next c.args.parameters.now at w (omega arith) c.index-parameters-at.is)
    e some_index (c.loop-at.invariant initial e)
    (ap (λ l. copies_if context (plain_arg a) l w s) (sym c.as_slice.ensures.value) ∙ (ap (λ l. copies_if context (plain_arg a) c.as_slice.result.now l s) (sym c.as_slice-words.ensures.value) ∙ c.in_ok-copy_if_place.ensures))

pub returns : goal.returns
returns c = λ initial e.
    let context = context_of c.args.context.now in
    c.loop-at.invariant initial e ∙
    copies-end context c.as_slice-items.result.now c.args.indexes.now initial c.args.parameters.now c.loop-at.at (state_of c.args.context.now.run.now.replies.now c.loop-at.state) (omega arith)
