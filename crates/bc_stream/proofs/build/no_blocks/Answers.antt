use Rattle.std.proofs.Common.{ap, ◌∙◌}
use Rattle.bc_stream.specs.Blocks.{contents_of}
use Rattle.bc_stream.proofs.BlockLemmas.{contents_of-none}
use Rattle.bc_stream.proofs.build.no_blocks.Goals as goal

pub returns : goal.returns
returns c = ap contents_of c.new.ensures ∙ contents_of-none
