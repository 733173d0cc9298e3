use Rattle.bc_stream.proofs.PieceLemmas.{fault_at, outside_define, inside_define}
use Rattle.bc_stream.proofs.piece.define.Goals as goal

pub returns-then-scope-eq0 : goal.returns-then-scope-eq0
returns-then-scope-eq0 c =
    fault_at c.args.bytes.now c.args.scope c.args.at 7 c.fault.result c.fault.ensures
    (outside_define c.args.bytes.now c.args.scope c.args.at c.requires.id c.if-scope-eq0.true)

pub returns-else-scope-eq0 : goal.returns-else-scope-eq0
returns-else-scope-eq0 c =
    fault_at c.args.bytes.now c.args.scope c.args.at 10 c.fault-else-scope-eq0.result c.fault-else-scope-eq0.ensures
    (inside_define c.args.bytes.now c.args.scope c.args.at c.requires.id c.if-scope-eq0.false)
