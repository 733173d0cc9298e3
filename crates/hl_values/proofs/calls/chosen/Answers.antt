use Rattle.std.proofs.Common.{◌≡◌, ◌∙◌, sym, ap, Some}
use Rattle.hl_overload.specs.Best.{choice_of}
use Rattle.hl_overload.specs.Views.{plain_candidates, plain_types}
use Rattle.hl_values.specs.Calls.{fault_of, picked}
use Rattle.hl_values.proofs.CallLemmas.{chosen-is}
use Rattle.hl_values.proofs.calls.chosen.Goals as goal

pub returns-in_ok-callee_at-in-Ok-clause-callee : goal.returns-in_ok-callee_at-in-Ok-clause-callee
returns-in_ok-callee_at-in-Ok-clause-callee c =
    c.in_ok-callee_at-in-Ok.ensures ∙
    ap (picked c.args.numbers.now (plain_candidates c.args.candidates.items))
    (sym c.in-Ok.is ∙ chosen-is c.args.candidates.items c.as_slice.result.now (plain_types c.args.types.now) c.choose.result c.as_slice.ensures.value c.choose.ensures)

pub returns-in_ok-callee_at-in-Ok-clause-fault : goal.returns-in_ok-callee_at-in-Ok-clause-fault
returns-in_ok-callee_at-in-Ok-clause-fault c =
    ap (λ r. fault_of (Some r))
    (sym c.in-Ok.is ∙ chosen-is c.args.candidates.items c.as_slice.result.now (plain_types c.args.types.now) c.choose.result c.as_slice.ensures.value c.choose.ensures)

pub returns-in-Err-clause-callee : goal.returns-in-Err-clause-callee
returns-in-Err-clause-callee c =
    ap (picked c.args.numbers.now (plain_candidates c.args.candidates.items))
    (sym c.in-Err.is ∙ chosen-is c.args.candidates.items c.as_slice.result.now (plain_types c.args.types.now) c.choose.result c.as_slice.ensures.value c.choose.ensures)

pub returns-in-Err-clause-fault : goal.returns-in-Err-clause-fault
returns-in-Err-clause-fault c =
    ap (λ r. fault_of (Some r))
    (sym c.in-Err.is ∙ chosen-is c.args.candidates.items c.as_slice.result.now (plain_types c.args.types.now) c.choose.result c.as_slice.ensures.value c.choose.ensures)
