use Rattle.std.proofs.Common.{ap, ◌∙◌}
use Rattle.bc_stream.specs.Blocks.{parts_contents}
use Rattle.bc_stream.proofs.BlockLemmas.{parts_contents-none}
use Rattle.bc_stream.proofs.build.no_parts.Goals as goal

pub returns : goal.returns
returns c = ap parts_contents c.new.ensures ∙ parts_contents-none
