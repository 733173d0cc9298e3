use Rattle.std.proofs.Common.{ap, ◌∙◌}
use Rattle.bc_stream.specs.Blocks.{contents_of}
use Rattle.bc_stream.proofs.BlockLemmas.{push-outermost}
use Rattle.bc_stream.proofs.build.push_outermost.Goals as goal

pub returns-clause-ok : goal.returns-clause-ok
returns-clause-ok c =
    ap contents_of c.in_ok-push.ensures.ok
    ∙ push-outermost c.args.blocks.now (record { id = c.args.id; parts = c.args.inner })
