use Rattle.bc_stream.specs.declared.block.BlockTree.{BlockTree}
use Rattle.std.proofs.Common.{List}
use Rattle.bc_stream.specs.Blocks.{contents_of}
use Rattle.bc_records.specs.Records.{Recorded}
use Rattle.dxil_driver.specs.Kernel.{IsKernelOf, RecordsKernel}
use Rattle.dxil_driver.proofs.Containers.{IfOk-weaker}
use Rattle.dxil_driver.proofs.container.kernel_blocks.Goals as goal

pub returns-clause-records : goal.returns-clause-records
returns-clause-records c =
    let kernel : IsKernelOf c.args.form.now c.in_ok-module.module = record {
      metadata = c.in_ok-module.ensures.metadata;
      same = c.in_ok-module.ensures.lane c.requires;
      waveless = c.in_ok-module.ensures.waves;
    } in
    IfOk-weaker (λ (blocks : List BlockTree). Recorded (contents_of blocks) c.in_ok-module.module) (λ (blocks : List BlockTree). RecordsKernel c.args.form.now (contents_of blocks))
    c.to_blocks.result (λ blocks recorded. (c.in_ok-module.module, kernel, recorded)) c.to_blocks.ensures.recorded
