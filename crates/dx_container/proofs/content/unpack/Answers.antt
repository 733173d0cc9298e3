use Rattle.dx_container.proofs.Contained.{contained, fault_8, only_stands}
use Rattle.dx_container.proofs.Faults.{fault_as}
use Rattle.dx_container.proofs.content.unpack.Goals as goal

pub program_fault-requires : goal.program_fault-requires
program_fault-requires c = only_stands c.args.bytes.now c.in_ok-part.part c.in_ok-check_parts.ensures.ok c.in_ok-part.ensures.ok

pub content-requires-clause-room : goal.content-requires-clause-room
content-requires-clause-room c = only_stands c.args.bytes.now c.in_ok-part.part c.in_ok-check_parts.ensures.ok c.in_ok-part.ensures.ok

pub returns-in-Some : goal.returns-in-Some
returns-in-Some c =
    fault_as
    (fault_8 c.args.bytes.now c.in_ok-part.part c.in-Some.offset c.in_ok-check_parts.ensures.ok c.in_ok-part.ensures.ok c.in-Some.ensures)
    c.fault.ensures.kind
    c.fault.ensures.offset

pub returns-in-None : goal.returns-in-None
returns-in-None c =
    contained c.args.bytes.now c.content.result.bitcode.now c.in_ok-part.part c.content.result.major c.content.result.minor
    c.in_ok-check_parts.ensures.ok
    c.in_ok-part.ensures.ok
    c.in-None.ensures
    c.content.ensures.bitcode
    c.content.ensures.major
    c.content.ensures.minor
