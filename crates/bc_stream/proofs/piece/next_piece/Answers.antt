use Rattle.std.proofs.Common.{arith}
use Rattle.bc_stream.proofs.PieceLemmas.{fault_at, undefined_at}
use Rattle.bc_stream.proofs.piece.next_piece.Goals as goal

pub returns-in_default-id : goal.returns-in_default-id
returns-in_default-id c =
    fault_at c.args.bytes.now c.args.scope c.args.at 3 c.fault-in_default-id.result c.fault-in_default-id.ensures
    (undefined_at c.args.bytes.now c.args.scope c.args.at c.in-Some.id c.in-Some.ensures (let h = c.in_default-id in omega arith))
