use Rattle.std.proofs.Common.{List, ℕ}
use Rattle.bc_stream.specs.Blocks.{contents_of}
use Rattle.bc_stream.specs.Spelling.{Spelled}
use Rattle.dxil_driver.specs.Kernel.{SpellsKernel}
use Rattle.dxil_driver.proofs.Containers.{IfOk-weaker}
use Rattle.dxil_driver.proofs.container.kernel_bitcode.Goals as goal

pub returns-clause-spells : goal.returns-clause-spells
returns-clause-spells c =
    IfOk-weaker (λ (bitcode : List ℕ). Spelled bitcode (contents_of c.in_ok-blocks.blocks)) (SpellsKernel c.args.form.now)
    c.write_blocks.result (λ bitcode spelled. (contents_of c.in_ok-blocks.blocks, spelled, c.in_ok-blocks.ensures.records)) c.write_blocks.ensures.spells
