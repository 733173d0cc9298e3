-- The module of a kernel, and what its bitcode is, before it stands in a container.
use Rattle.std.specs.Prelude.{◌≡◌, false, List, ℕ}
use Rattle.lane_core.specs.SameLane.{SameLane}
use Rattle.ir_core.specs.declared.module.Module.{Module}
use Rattle.ir_core.specs.Metadata.{HasMetadata}
use Rattle.ir_core.specs.ModuleLane.{module_lane}
use Rattle.ir_core.specs.Waves.{uses_waves}
use Rattle.bc_stream.specs.Blocks.{Contents}
use Rattle.bc_stream.specs.Spelling.{Spelled}
use Rattle.bc_records.specs.Records.{Recorded}
use Rattle.dxil_driver.specs.declared.stores.FirstForm.{FirstForm}
use Rattle.dxil_driver.specs.LiteralLane.{literal_stores}
use Rattle.dxil_driver.specs.KernelMetadata.{kernel_resources, kernel_threads}

-- the module has the metadata and the lane of a kernel, and no wave operation
pub record IsKernelOf (form : FirstForm) (m : Module) : Type 0 where
  pub metadata : HasMetadata m (kernel_resources form.buffer) (kernel_threads form.threads) form.entry
  pub same : SameLane (literal_stores form.stores) (module_lane m)
  pub waveless : uses_waves m ≡ false

-- the blocks record the module of a kernel
abbrev pub RecordsKernel : FirstForm → Contents → Type 0
RecordsKernel form blocks = (m : Module) × IsKernelOf form m × Recorded blocks m

-- the bitcode spells blocks that record the module of a kernel
abbrev pub SpellsKernel : FirstForm → List ℕ → Type 0
SpellsKernel form bitcode = (blocks : Contents) × Spelled bitcode blocks × RecordsKernel form blocks
