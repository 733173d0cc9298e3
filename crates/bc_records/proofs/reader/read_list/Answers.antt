-- A list without a fault records the module that it says.
use Rattle.std.proofs.Common.{◌^◌, ◌<◌, length, ap, sym, subst, arith}
use Rattle.ir_core.specs.declared.module.Module.{Module}
use Rattle.bc_stream.specs.Blocks.{contents_of}
use Rattle.bc_records.specs.Read.{read_module}
use Rattle.bc_records.specs.Records.{Recorded}
use Rattle.bc_records.proofs.Answering.{without}
use Rattle.bc_records.proofs.ReadBlocks.{free_blocks_recorded}
use Rattle.bc_records.proofs.reader.read_list.Goals as goal

pub returns-in_ok-module-in-None : goal.returns-in_ok-module-in-None
returns-in_ok-module-in-None c =
    let blocks = c.args.blocks.now in
    let is = c.in_ok-module-in-None.ensures in
    let few : length (read_module (contents_of blocks)).types < 2 ^ 32 = omega (arith, ap (λ (m : Module). length m.types) is, c.is_limited.ensures) in
    subst (Recorded (contents_of blocks)) (sym is) (free_blocks_recorded blocks few (without _ _ c.in_ok-kind.field-0 c.in-None.is c.in_ok-kind.ensures))
