use Rattle.std.proofs.Common.{◌≡◌, map, take}
use Rattle.bc_records.specs.BodyRecords.{absolute}
use Rattle.bc_records.specs.Read.{words}
use Rattle.bc_records.proofs.read.bodies.read_call.Given as goal

abbrev pub invariant-loop-argument : goal.invariant-loop-argument
invariant-loop-argument l = l.args.items ≡ map (absolute l.next) (words (take l.argument-index l.arguments))
