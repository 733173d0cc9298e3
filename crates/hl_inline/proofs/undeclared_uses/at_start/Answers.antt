use Rattle.std.proofs.Common.{arith, length}
use Rattle.hl_inline.specs.Marking.{plain_usage}
use Rattle.hl_inline.proofs.NotedUses.{at-start, counts-next, marks-next}
use Rattle.hl_inline.proofs.undeclared_uses.at_start.Goals as goal

pub loop-number-preserved : goal.loop-number-preserved
loop-number-preserved c = record {
  counts = counts-next c.len-parameters.result c.loop-number.number c.count_at_start.result c.loop-number.declared.items c.push.new.self.items c.in_ok-push.ensures.items c.count_at_start.ensures c.loop-number.invariant.counts;
  marks = marks-next c.loop-number.number c.loop-number.used_undeclared.items c.push-in-loop-number.new.self.items c.in_ok-push-2.ensures.items c.loop-number.invariant.marks;
}

pub returns-clause-start : goal.returns-clause-start
returns-clause-start c =
    at-start (plain_usage (record { declared = c.loop-number.declared; used_undeclared = c.loop-number.used_undeclared })) c.len-parameters.result (length c.args.function.now.parameters)
    c.loop-number.number (length c.args.function.now.variables) c.loop-number.invariant.counts c.loop-number.invariant.marks c.len-parameters.ensures.value
    (omega (arith, c.len-number-end.ensures.value, c.loop-number-test.false, c.loop-number.auto.number-end))
