use Rattle.std.proofs.Common.{ap, ◌∙◌}
use Rattle.bc_stream.specs.Blocks.{parts_contents}
use Rattle.bc_stream.proofs.BlockLemmas.{push-block}
use Rattle.bc_stream.proofs.build.push_block.Goals as goal

pub returns-clause-ok : goal.returns-clause-ok
returns-clause-ok c =
    ap parts_contents c.in_ok-push.ensures.ok
    ∙ push-block c.args.parts.now (record { id = c.args.id; parts = c.args.inner })
