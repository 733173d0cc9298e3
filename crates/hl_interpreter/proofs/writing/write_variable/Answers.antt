use Rattle.std.proofs.Common.{◌∙◌, ◌<◌, [], ap, arith, length, sym}
use Rattle.std.proofs.lemmas.List.{take_at}
use Rattle.hl_source.specs.State.{goes_with, with_variable}
use Rattle.hl_interpreter.specs.Runs.{state_of}
use Rattle.hl_interpreter.proofs.Cells.{exchange-kept, put-back, same-exchange}
use Rattle.hl_interpreter.proofs.Exits.{effect, memory-exit, stop-exit}
use Rattle.hl_interpreter.proofs.writing.write_variable.Goals as goal

pub returns-then-number-len : goal.returns-then-number-len
returns-then-number-len c = λ replies.
    c.set_nothing.ensures c.args.number c.args.offset (state_of replies c.args.state.now) (omega (arith, c.args.state.now.variables.ok.0))

pub returns-in_err-set_words : goal.returns-in_err-set_words
returns-in_err-set_words c = λ replies.
    let before = c.args.state.now in
    let taken = c.take_variable-variable.new.state in
    let s = state_of replies before in
    let t = state_of replies taken in
    let e = c.in_err-set_words.field-0.0 in
    let there : c.args.number < length before.variables.items = omega (arith, before.variables.ok.0) in
    stop-exit effect c.from_residual.result e t _ c.from_residual.ensures.1
    (same-exchange effect e (with_variable c.args.number c.set_words.new.variable s) t _ (exchange-kept replies [] before.events taken.events c.take_variable-variable.ensures.events)
    (c.in_err-set_words.ensures c.args.number s there (sym (c.as_mut_slice.ensures.value ∙ c.take_variable-variable.ensures.value))))

pub returns-in_err-state : goal.returns-in_err-state
returns-in_err-state c = λ replies. memory-exit effect c.from_residual-in_err-state.result _ _ c.from_residual-in_err-state.ensures.1

pub returns : goal.returns
returns c = λ replies.
    let before = c.args.state.now in
    let taken = c.take_variable-variable.new.state in
    let s = state_of replies before in
    let there : c.args.number < length before.variables.items = omega (arith, before.variables.ok.0) in
    c.in_ok-set_words.ensures c.args.number s there (sym (c.as_mut_slice.ensures.value ∙ c.take_variable-variable.ensures.value)) ∙
    ap (goes_with []) (put-back replies c.args.number before.variables.items taken.variables.items before.events taken.events c.set_words.new.variable _ c.take_variable-variable.ensures.variables c.take_variable-variable.ensures.events
    (c.in_ok-state.ensures ∙ take_at c.set_words.new.variable _ c.take_variable-variable.result.len (omega (arith, c.set_words.auto.variable, c.as_mut_slice.ensures.len))))
