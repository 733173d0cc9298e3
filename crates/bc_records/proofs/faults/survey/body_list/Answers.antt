use Rattle.bc_records.proofs.FaultSurvey.{body-step, body-skip}
use Rattle.bc_records.proofs.faults.survey.body_list.Goals as goal
use Rattle.bc_records.proofs.faults.survey.body_list.Goals.{then-declares_body+in_ok-push, else-declares_body}

pub loop-operands-preserved : goal.loop-operands-preserved
loop-operands-preserved c =
    let functions = c.args.functions.now in
    let i = c.loop-operands.operands-index in
    elim c.if-declares_body.branch [
      | then-declares_body+in_ok-push w ↦
          rw w.bodies-is
          (body-step functions i _ c.loop-operands.bodies.items w.push.new.self.items c.loop-operands-test.true w.in_ok-push.ensures.items w.if-declares_body.ensures c.loop-operands.invariant)
      | else-declares_body w ↦
          rw w.bodies-is
          (body-skip functions i _ c.loop-operands.bodies.items c.loop-operands-test.true w.if-declares_body.ensures c.loop-operands.invariant)
    ]
