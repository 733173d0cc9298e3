use Rattle.std.proofs.Common.{◌∙◌, ap, arith}
use Rattle.bc_stream.specs.Blocks.{append, parts_contents}
use Rattle.bc_records.specs.Ranges.{InstInRange}
use Rattle.bc_records.specs.Written.{value_after}
use Rattle.bc_records.proofs.Steps.{range_step, range_stop}
use Rattle.bc_records.proofs.CodeSteps.{left, next_value-limit, inst_step, after_step, inst_stop}
use Rattle.bc_records.proofs.code.push_insts.Goals as goal

pub loop-inst-preserved : goal.loop-inst-preserved
loop-inst-preserved c = record {
  so_far = inst_step c.args.module.now c.as_slice-all.result.now c.loop-inst.inst-index c.inst-item.result c.loop-inst.next c.after_inst-next.result
      (parts_contents c.loop-inst.parts) (parts_contents c.push_inst.new.parts) (append (parts_contents c.args.parts.now) (left c.args.module.now c.args.first c.as_slice-all.result.now))
      c.loop-inst-test.true c.inst-item.is c.after_inst-next.ensures c.in_ok-push_inst.ensures.ok c.loop-inst.invariant.so_far;
  after = after_step c.args.module.now c.as_slice-all.result.now c.loop-inst.inst-index c.inst-item.result c.loop-inst.next c.after_inst-next.result
      (value_after c.args.module.now c.args.first c.as_slice-all.result.now) c.loop-inst-test.true c.inst-item.is c.after_inst-next.ensures c.loop-inst.invariant.after;
  limit = omega (arith, c.after_inst-next.ensures, next_value-limit c.args.module.now c.loop-inst.next c.inst-item.result, c.loop-inst.invariant.limit);
  range = range_step InstInRange c.as_slice-all.result.now c.loop-inst.inst-index c.inst-item.result
      c.loop-inst-test.true c.inst-item.is c.in_ok-push_inst.ensures.range c.loop-inst.invariant.range;
}

pub returns-clause-ok : goal.returns-clause-ok
returns-clause-ok c =
    inst_stop c.args.module.now c.as_slice-all.result.now c.loop-inst.inst-index c.loop-inst.next (parts_contents c.loop-inst.parts)
    (append (parts_contents c.args.parts.now) (left c.args.module.now c.args.first c.as_slice-all.result.now)) c.loop-inst-test.false c.loop-inst.invariant.so_far
    ∙ ap (λ insts. append (parts_contents c.args.parts.now) (left c.args.module.now c.args.first insts)) c.as_slice-all.ensures.value

pub returns-clause-range : goal.returns-clause-range
returns-clause-range c =
    range_stop InstInRange c.as_slice-all.result.now c.args.insts.now c.loop-inst.inst-index c.loop-inst-test.false
    c.as_slice-all.ensures.value c.loop-inst.invariant.range
