use Rattle.std.proofs.Common.{◌≡◌, ◌<◌, arith}
use Rattle.dx_container.specs.Container.{part_count}
use Rattle.dx_container.proofs.Faults.{fault_7, fault_as, header_stands, part_stands, places_stand}
use Rattle.dx_container.proofs.Programs.{found_again, found_missing}
use Rattle.dx_container.proofs.content.find_program.Goals as goal

pub word-k-end-requires : goal.word-k-end-requires
word-k-end-requires c = let a = header_stands c.args.bytes.now 7 (omega arith) c.requires in omega arith

pub word-part-requires : goal.word-part-requires
word-part-requires c =
    let a = places_stand c.args.bytes.now 7 (omega arith) c.requires in
    let e = c.word-k-end.ensures.value in
    let h = c.loop-k-test.true in
    omega arith

pub is_name-requires : goal.is_name-requires
is_name-requires c =
    let within : c.loop-k.k < part_count c.args.bytes.now = omega (arith, c.word-k-end.ensures.value) in
    let a = part_stands c.args.bytes.now 7 (omega arith) c.requires c.loop-k.k within in
    let e = c.word-part.ensures.value in
    omega arith

pub returns-then-is_some-clause-err : goal.returns-then-is_some-clause-err
returns-then-is_some-clause-err c =
    let within : c.loop-k.k < part_count c.args.bytes.now = omega (arith, c.word-k-end.ensures.value) in
    let named = rw c.word-part.ensures.value at c.if-is_name.ensures.yes in
    fault_as
    (fault_7 c.args.bytes.now c.requires (found_again c.args.bytes.now c.loop-k.k c.loop-k.found within c.loop-k.invariant c.if-is_some.ensures named))
    c.fault.ensures.kind
    c.fault.ensures.offset

pub returns-in-None-clause-err : goal.returns-in-None-clause-err
returns-in-None-clause-err c =
    let end : c.loop-k.k ≡ part_count c.args.bytes.now = omega (arith, c.word-k-end.ensures.value) in
    fault_as
    (fault_7 c.args.bytes.now c.requires (found_missing c.args.bytes.now c.loop-k.k c.loop-k.found end c.in-None.is c.loop-k.invariant))
    c.fault-in-None.ensures.kind
    c.fault-in-None.ensures.offset
