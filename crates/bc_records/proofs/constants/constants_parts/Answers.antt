use Rattle.std.proofs.Common.{◌∙◌, ap}
use Rattle.std.proofs.lemmas.List.Elements.{All-more}
use Rattle.ir_core.specs.declared.module.Const.{Const}
use Rattle.ir_core.specs.declared.module.ConstValue.TheVariants.{Null}
use Rattle.bc_stream.specs.Blocks.{parts_contents}
use Rattle.bc_records.specs.Ranges.{ConstInRange}
use Rattle.bc_records.specs.Written.{constants_contents}
use Rattle.bc_records.proofs.Steps.{range_stop}
use Rattle.bc_records.proofs.ConstantSteps.{constant_step, constant_stop}
use Rattle.bc_records.proofs.constants.constants_parts.Goals as goal

pub loop-constant-preserved : goal.loop-constant-preserved
loop-constant-preserved c =
    let d : Const = record { ty = 0; value = Null } in
    record {
      so_far = constant_step c.as_slice-all.result.now c.loop-constant.constant-index d c.loop-constant.last_type
          (parts_contents c.loop-constant.parts) (parts_contents c.push_constant.new.parts) (constants_contents c.as_slice-all.result.now)
          c.loop-constant-test.true c.in_ok-push_constant.ensures.ok c.loop-constant.invariant.so_far;
      range = All-more ConstInRange c.as_slice-all.result.now c.loop-constant.constant-index d
          c.loop-constant-test.true c.loop-constant.invariant.range c.in_ok-push_constant.ensures.range;
    }

pub returns-clause-value : goal.returns-clause-value
returns-clause-value c =
    constant_stop c.as_slice-all.result.now c.loop-constant.constant-index c.loop-constant.last_type
    (parts_contents c.loop-constant.parts) (constants_contents c.as_slice-all.result.now) c.loop-constant-test.false c.loop-constant.invariant.so_far
    ∙ ap constants_contents c.as_slice-all.ensures.value

pub returns-clause-range : goal.returns-clause-range
returns-clause-range c =
    range_stop ConstInRange c.as_slice-all.result.now c.args.constants.now c.loop-constant.constant-index c.loop-constant-test.false
    c.as_slice-all.ensures.value c.loop-constant.invariant.range
