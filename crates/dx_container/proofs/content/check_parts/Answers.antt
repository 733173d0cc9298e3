use Rattle.std.proofs.Common.{◌<◌, arith}
use Rattle.dx_container.specs.Container.{part_count}
use Rattle.dx_container.proofs.Faults.{fault_6, fault_as, header_stands, places_stand}
use Rattle.dx_container.proofs.content.check_parts.Goals as goal

pub word-k-end-requires : goal.word-k-end-requires
word-k-end-requires c = let a = header_stands c.args.bytes.now 6 (omega arith) c.requires in omega arith

pub word-requires : goal.word-requires
word-requires c =
    let a = places_stand c.args.bytes.now 6 (omega arith) c.requires in
    let e = c.word-k-end.ensures.value in
    let h = c.loop-k-test.true in
    omega arith

pub returns-then-passes_end-clause-err : goal.returns-then-passes_end-clause-err
returns-then-passes_end-clause-err c =
    let within : c.loop-k.k < part_count c.args.bytes.now = omega (arith, c.word-k-end.ensures.value) in
    let passes = rw c.word.ensures.value at c.if-passes_end.ensures.yes in
    fault_as
    (fault_6 c.args.bytes.now c.loop-k.k c.requires c.loop-k.invariant within passes)
    c.fault.ensures.kind
    c.fault.ensures.offset
