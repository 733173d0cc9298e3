use Rattle.std.proofs.Common.{rules, arith}
use Rattle.dx_validate.specs.Places.{HasFineWidth}
use Rattle.dx_validate.proofs.Failures.{NoFailureBelow-next, NoFailureBelow-all}
use Rattle.dx_validate.proofs.rules.first_odd_width.Goals as goal

pub loop-number-preserved : goal.loop-number-preserved
loop-number-preserved c =
    let fine : HasFineWidth c.index-types-number.result = search rules in
    NoFailureBelow-next HasFineWidth c.args.types.now c.loop-number.number c.index-types-number.result c.loop-number.invariant c.index-types-number.is fine

pub returns-clause-first : goal.returns-clause-first
returns-clause-first c = NoFailureBelow-all HasFineWidth c.args.types.now c.loop-number.number c.loop-number.invariant (omega arith)
