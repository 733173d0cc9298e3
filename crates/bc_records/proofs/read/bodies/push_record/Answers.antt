use Rattle.std.proofs.Common.{◌≡◌, ◌≢◌, ◌++◌, ◌∙◌, ap, map, arith}
use Rattle.bc_records.specs.BodyRecords.{next_value}
use Rattle.bc_records.specs.Read.{block_of, read_instructions, word}
use Rattle.bc_records.specs.ReadBodies.{filled_after}
use Rattle.bc_records.proofs.ReadInstructions.{call_first, call_of, on_ok}
use Rattle.bc_records.proofs.read.bodies.push_record.Goals as goal

pub returns-in_ok-call-in_default : goal.returns-in_ok-call-in_default
returns-in_ok-call-in_default c =
    let m = c.args.module.now in
    let next = c.args.next.now in
    let code = c.args.entry.now.code in
    let values = c.args.entry.now.values in
    let call = c.in_ok-call-in_default.call in
    let other : code ≢ 1 = omega arith in
    let other_too : code ≢ 10 = omega arith in
    let call_is : call ≡ call_of next values = c.in_ok-call-in_default.ensures ∙ ap (call_of next) c.as_slice.ensures.value in
    let after_is : c.low_word.result ≡ word (next_value m next call) = c.low_word.ensures ∙ ap word (c.after_inst.ensures ∙ ap (λ n. next_value m n call) c.from.ensures) in
    on_ok c.push_inst-in_default.result c.push_inst-in_default.ensures
    (λ pushed. λ rest.
    pushed (read_instructions m c.low_word.result rest)
    ∙ ap (λ is. c.args.blocks.now ++ map block_of (filled_after c.args.insts.now is))
    (call_first m next c.low_word.result code values call rest other other_too call_is after_is))
