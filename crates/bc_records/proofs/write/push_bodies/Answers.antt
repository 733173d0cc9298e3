use Rattle.std.proofs.Common.{◌∙◌, ap}
use Rattle.std.specs.Prelude.{IfSome}
use Rattle.ir_core.specs.declared.module.Function.{Function}
use Rattle.ir_core.specs.Values.{bodies}
use Rattle.bc_stream.specs.Blocks.{append, parts_contents}
use Rattle.bc_records.specs.Ranges.{BodyInRange}
use Rattle.bc_records.specs.Written.{bodies_contents}
use Rattle.bc_records.proofs.Steps.{range_step, range_stop}
use Rattle.bc_records.proofs.ModuleSteps.{body_step, body_stop}
use Rattle.bc_records.proofs.write.push_bodies.Goals as goal

abbrev OwnInRange : Function → Type 0
OwnInRange f = IfSome f.body BodyInRange

pub loop-function-preserved : goal.loop-function-preserved
loop-function-preserved c = record {
  so_far = body_step c.args.module.now c.as_slice-all.result.now c.loop-function.function-index c.function-item.result
      (parts_contents c.loop-function.parts) (parts_contents c.push_body.new.parts)
      (append (parts_contents c.args.parts.now) (bodies_contents c.args.module.now (bodies c.as_slice-all.result.now)))
      c.loop-function-test.true c.function-item.is c.in_ok-push_body.ensures.ok c.loop-function.invariant.so_far;
  range = range_step OwnInRange c.as_slice-all.result.now c.loop-function.function-index c.function-item.result
      c.loop-function-test.true c.function-item.is c.in_ok-push_body.ensures.range c.loop-function.invariant.range;
}

pub returns-clause-ok : goal.returns-clause-ok
returns-clause-ok c =
    body_stop c.args.module.now c.as_slice-all.result.now c.loop-function.function-index (parts_contents c.loop-function.parts)
    (append (parts_contents c.args.parts.now) (bodies_contents c.args.module.now (bodies c.as_slice-all.result.now))) c.loop-function-test.false c.loop-function.invariant.so_far
    ∙ ap (λ fs. append (parts_contents c.args.parts.now) (bodies_contents c.args.module.now (bodies fs))) c.as_slice-all.ensures.value

pub returns-clause-range : goal.returns-clause-range
returns-clause-range c =
    range_stop OwnInRange c.as_slice-all.result.now c.args.module.now.functions c.loop-function.function-index c.loop-function-test.false
    c.as_slice-all.ensures.value c.loop-function.invariant.range
