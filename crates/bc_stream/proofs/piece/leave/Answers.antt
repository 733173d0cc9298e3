use Rattle.bc_stream.proofs.PieceLemmas.{fault_at, cut_leave}
use Rattle.bc_stream.proofs.piece.leave.Goals as goal

pub returns-in_default : goal.returns-in_default
returns-in_default c =
    fault_at c.args.bytes.now c.args.scope c.args.at 2 c.fault.result c.fault.ensures
    (cut_leave c.args.bytes.now c.args.scope c.args.at c.args.behind c.requires.behind c.requires.id c.in_default.ensures)
