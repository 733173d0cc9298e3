use Rattle.std.proofs.Common.{◌∙◌, ◌<◌, [], ap, arith, length, replicate, slice_set, sym}
use Rattle.std.proofs.lemmas.List.{get_or_default}
use Rattle.std.proofs.lemmas.Option.{unwrap_or-slice_get}
use Rattle.hl_interpreter.proofs.Skipping.{zero-words}
use Rattle.hl_interpreter.proofs.variables.clear_variable.Goals as goal

pub returns-in_ok-state-clause-variables : goal.returns-in_ok-state-clause-variables
returns-in_ok-state-clause-variables c =
    let vs = c.args.state.now.variables.items in
    let n = c.args.variable in
    let within : n < length vs = omega (arith, c.args.state.now.variables.ok.0) in
    ap (λ w. slice_set vs n w)
    (c.in_ok-state.ensures ∙ (ap (λ k. replicate k 0) (c.len-count.ensures.value ∙ ap length (c.index.ensures ∙ (get_or_default vs n c.index.result.now [] within ∙ sym (unwrap_or-slice_get vs n [])))) ∙
    sym (zero-words _)))
