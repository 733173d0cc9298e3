-- The main theorem: what the bytes of a container are to the text that they are compiled from.
--
-- The bytes are the written form of a container. They spell exactly one module. Its target, its metadata and its
-- entry are those of the kernel that the text is. A lane of it asks the very events that a lane of the text asks,
-- for every list of replies, and ends where that one ends.
use Rattle.std.specs.Prelude.{◌≡◌, ℕ, List}
use Rattle.lane_core.specs.SameLane.{SameLane}
use Rattle.ir_core.specs.declared.module.Module.{Module}
use Rattle.ir_core.specs.Metadata.{HasMetadata}
use Rattle.ir_core.specs.ModuleLane.{module_lane}
use Rattle.ir_core.specs.Waves.{uses_waves}
use Rattle.bc_stream.specs.Blocks.{Contents}
use Rattle.bc_stream.specs.Spelling.{Spelled}
use Rattle.bc_records.specs.Records.{Recorded}
use Rattle.dx_container.specs.Container.{Contained, written_form}
use Rattle.dxil_driver.specs.declared.stores.FirstForm.{FirstForm}
use Rattle.dxil_driver.specs.FirstForm.{IsFirstForm}
use Rattle.dxil_driver.specs.KernelMetadata.{kernel_resources, kernel_threads}
use Rattle.dxil_driver.specs.LiteralLane.{literal_stores}

-- how many bytes a source may have: 2^20
abbrev pub most_source : ℕ
most_source = 1048576

-- the text has a program of the form that is compiled so far, with an entry of this name
unfoldable pub HasFirstForm : (text entry : List ℕ) → Type 0
HasFirstForm text entry = (form : FirstForm) × IsFirstForm text entry form

-- the bytes contain a bitcode that spells blocks that record the module
pub record Spells (bytes : List ℕ) (m : Module) : Type 0 where
  pub bitcode : List ℕ
  pub major : ℕ
  pub minor : ℕ
  pub contained : Contained bytes bitcode major minor
  pub blocks : Contents
  pub spelled : Spelled bitcode blocks
  pub recorded : Recorded blocks m

-- the bytes are a container in the written form, of minor version 0, which says whether waves are used
pub record IsWritten (bytes : List ℕ) (m : Module) : Type 0 where
  pub bitcode : List ℕ
  pub form : bytes ≡ written_form bitcode 0 (uses_waves m)

-- the bytes are a container of the module of a kernel
pub record IsContainerOf (form : FirstForm) (m : Module) (bytes : List ℕ) : Type 0 where
  pub written : IsWritten bytes m
  pub spells : Spells bytes m
  pub only : (other : Module) → Spells bytes other → other ≡ m
  pub metadata : HasMetadata m (kernel_resources form.buffer) (kernel_threads form.threads) form.entry
  pub same : SameLane (literal_stores form.stores) (module_lane m)

-- the text is a kernel with an entry of this name, and the bytes are its container
pub record IsKernelsContainer (text entry bytes : List ℕ) : Type 0 where
  pub form : FirstForm
  pub is_form : IsFirstForm text entry form
  pub kernel : Module
  pub container : IsContainerOf form kernel bytes

-- the bytes are what the text is compiled to, with an entry of this name
unfoldable pub Compiled : (text entry bytes : List ℕ) → Type 0
Compiled text entry bytes = IsKernelsContainer text entry bytes
