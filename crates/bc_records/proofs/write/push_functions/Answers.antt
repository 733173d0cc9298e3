use Rattle.std.proofs.Common.{◌∙◌, ap, map}
use Rattle.ir_core.specs.declared.module.Function.{Function}
use Rattle.bc_stream.specs.Blocks.{append, parts_contents}
use Rattle.bc_records.specs.Entries.{IsWord}
use Rattle.bc_records.specs.Written.{function_entry}
use Rattle.bc_records.proofs.Steps.{alone, range_step, range_stop}
use Rattle.bc_records.proofs.ModuleSteps.{function_step, function_stop}
use Rattle.bc_records.proofs.write.push_functions.Goals as goal

abbrev TypeNumberInRange : Function → Type 0
TypeNumberInRange f = IsWord f.ty

pub loop-function-preserved : goal.loop-function-preserved
loop-function-preserved c = record {
  so_far = function_step c.as_slice-all.result.now c.loop-function.function-index c.function-item.result
      (parts_contents c.loop-function.parts) (parts_contents c.push_function.new.parts)
      (append (parts_contents c.args.parts.now) (alone (map function_entry c.as_slice-all.result.now)))
      c.loop-function-test.true c.function-item.is c.in_ok-push_function.ensures.ok c.loop-function.invariant.so_far;
  range = range_step TypeNumberInRange c.as_slice-all.result.now c.loop-function.function-index c.function-item.result
      c.loop-function-test.true c.function-item.is c.in_ok-push_function.ensures.range c.loop-function.invariant.range;
}

pub returns-clause-ok : goal.returns-clause-ok
returns-clause-ok c =
    function_stop c.as_slice-all.result.now c.loop-function.function-index (parts_contents c.loop-function.parts)
    (append (parts_contents c.args.parts.now) (alone (map function_entry c.as_slice-all.result.now))) c.loop-function-test.false c.loop-function.invariant.so_far
    ∙ ap (λ fs. append (parts_contents c.args.parts.now) (alone (map function_entry fs))) c.as_slice-all.ensures.value

pub returns-clause-range : goal.returns-clause-range
returns-clause-range c =
    range_stop TypeNumberInRange c.as_slice-all.result.now c.args.functions.now c.loop-function.function-index c.loop-function-test.false
    c.as_slice-all.ensures.value c.loop-function.invariant.range
