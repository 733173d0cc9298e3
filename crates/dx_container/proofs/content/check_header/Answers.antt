use Rattle.std.proofs.Common.{◌≡◌, ◌∙◌, arith}
use Rattle.dx_container.specs.Container.{half_at}
use Rattle.dx_container.proofs.Faults.{below_3, below_4, below_5, fault_1, fault_2, fault_3, fault_4, fault_5, fault_as}
use Rattle.dx_container.proofs.content.check_header.Goals as goal
use Rattle.dx_container.proofs.content.check_header.Goals.{then-half-ne1-via-then-half-ne1, then-half-ne1-via-else-half-ne1+then-half-ne0}

pub returns-then-bytes-lt-HEADER_SIZE-clause-err :
    goal.returns-then-bytes-lt-HEADER_SIZE-clause-err
returns-then-bytes-lt-HEADER_SIZE-clause-err c =
    fault_as (fault_1 c.args.bytes.now c.if-bytes-lt-HEADER_SIZE.true) c.fault.ensures.kind c.fault.ensures.offset

pub returns-then-not-is_name-clause-err : goal.returns-then-not-is_name-clause-err
returns-then-not-is_name-clause-err c =
    fault_as
    (fault_2 c.args.bytes.now c.if-bytes-lt-HEADER_SIZE.false c.if-not-is_name.ensures.no)
    c.fault-then-not-is_name.ensures.kind
    c.fault-then-not-is_name.ensures.offset

pub returns-then-half-ne1-clause-err : goal.returns-then-half-ne1-clause-err
returns-then-half-ne1-clause-err c =
    let below = below_3 c.args.bytes.now c.if-bytes-lt-HEADER_SIZE.false c.if-not-is_name.ensures.yes in
    let other : ¬ ((half_at c.args.bytes.now 20 ≡ 1) × (half_at c.args.bytes.now 22 ≡ 0)) =
    λ e. elim c.then-half-ne1.branch [
      | then-half-ne1-via-then-half-ne1 w ↦ w.if-half-ne1.true (c.half.ensures ∙ e.0)
      | then-half-ne1-via-else-half-ne1+then-half-ne0 w ↦ w.if-half-ne0.true (w.half-else-half-ne1.ensures ∙ e.1)
    ] in
    fault_as
    (fault_3 c.args.bytes.now below other)
    c.fault-then-half-ne1.ensures.kind
    c.fault-then-half-ne1.ensures.offset

pub returns-then-word-bytes-clause-err : goal.returns-then-word-bytes-clause-err
returns-then-word-bytes-clause-err c =
    let below_three = below_3 c.args.bytes.now c.if-bytes-lt-HEADER_SIZE.false c.if-not-is_name.ensures.yes in
    let below = below_4 c.args.bytes.now below_three (omega arith) (omega arith) in
    fault_as
    (fault_4 c.args.bytes.now below (λ e. c.if-word-bytes.true (c.word.ensures.value ∙ e)))
    c.fault-then-word-bytes.ensures.kind
    c.fault-then-word-bytes.ensures.offset

pub returns-then-bytes-word-clause-err : goal.returns-then-bytes-word-clause-err
returns-then-bytes-word-clause-err c =
    let below_three = below_3 c.args.bytes.now c.if-bytes-lt-HEADER_SIZE.false c.if-not-is_name.ensures.yes in
    let below_four = below_4 c.args.bytes.now below_three (omega arith) (omega arith) in
    let below = below_5 c.args.bytes.now below_four (omega arith) in
    fault_as
    (fault_5 c.args.bytes.now below (omega arith))
    c.fault-then-bytes-word.ensures.kind
    c.fault-then-bytes-word.ensures.offset
