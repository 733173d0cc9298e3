-- What is answered is answered for all that was left.
use mathlib.Core.Logic.{◌⊎◌}
use Rattle.std.proofs.Common.{rules, ◌≡◌, ◌≤◌, List, ℕ, length, subst, IfErr}
use Rattle.dxil_driver.specs.Commands.{Refuses, limit_of}
use Rattle.dxil_driver.specs.Tool.{TakesAll}
use Rattle.dxil_driver.specs.declared.refusal.Refusal.TheVariants.{Memory}
use Rattle.dxil_driver.proofs.Refused.{completes}
use Rattle.dxil_driver.proofs.RefusedText.{cause_stands}
use Rattle.dxil_driver.proofs.commands.run.Goals as goal

pub returns-clause-complete : goal.returns-clause-complete
returns-clause-complete g c = λ calm.
    completes c.args.command.now (g.I.Source.left c.args.input.now) c.in_ok-all.all c.as_slice.result.now c.answer.result c.in_ok-all.ensures.whole c.as_slice.ensures.value
    c.answer.ensures.complete

pub returns-clause-cause : goal.returns-clause-cause
returns-clause-cause g c =
    let takes : TakesAll g.I.Source.left g.I.Source.taken c.args.input.now c.read_whole.new.input c.in_ok-all.all = search rules in
    let within : length c.in_ok-all.all ≤ limit_of c.args.command.now = search rules in
    cause_stands g.I.Source.left g.I.Source.taken g.I.Source.faults c.args.input.now c.read_whole.new.input c.args.command.now c.in_ok-all.all c.answer.result takes within
    (subst (λ (input : List ℕ). IfErr c.answer.result (λ refusal. (refusal ≡ Memory) ⊎ Refuses c.args.command.now input refusal)) c.as_slice.ensures.value c.answer.ensures.cause)
