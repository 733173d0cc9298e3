use Rattle.std.proofs.Common.{rules, arith}
use Rattle.dx_validate.specs.Places.{HasKnownName}
use Rattle.dx_validate.proofs.Failures.{NoFailureBelow-next, NoFailureBelow-all}
use Rattle.dx_validate.proofs.rules.first_unknown_name.Goals as goal

pub loop-place-preserved : goal.loop-place-preserved
loop-place-preserved c =
    let known : HasKnownName c.index-named-place.result = search rules in
    NoFailureBelow-next HasKnownName c.args.named.now c.loop-place.place c.index-named-place.result c.loop-place.invariant c.index-named-place.is known

pub returns-clause-first : goal.returns-clause-first
returns-clause-first c = NoFailureBelow-all HasKnownName c.args.named.now c.loop-place.place c.loop-place.invariant (omega arith)
