use Rattle.std.proofs.Common.{ap, ◌∙◌}
use Rattle.bc_stream.specs.Blocks.{parts_contents}
use Rattle.bc_stream.proofs.BlockLemmas.{push-entry}
use Rattle.bc_stream.proofs.build.push_entry.Goals as goal

pub returns-clause-ok : goal.returns-clause-ok
returns-clause-ok c =
    ap parts_contents c.in_ok-push.ensures.ok
    ∙ push-entry c.args.parts.now (record { code = c.args.code; values = c.args.values })
