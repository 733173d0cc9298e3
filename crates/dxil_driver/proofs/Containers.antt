-- The container of a kernel, from what each layer promises.
use Rattle.std.proofs.Common.{◌≡◌, ℕ, ◌^◌, ◌<◌, List, length, sym, ap, subst, arith, false, Bool}
use Rattle.std.specs.Prelude.{Result, Ok, Err, IfOk}
use Rattle.ir_core.specs.declared.module.Module.{Module}
use Rattle.bc_stream.specs.Blocks.{Contents}
use Rattle.bc_stream.specs.Spelling.{Spelled, OneList}
use Rattle.bc_records.specs.Records.{Recorded, OneModule}
use Rattle.dx_container.specs.Container.{written_form}
use Rattle.dx_container.specs.Laws.{AtMostOneContent, WrittenIsContained}
use Rattle.dxil_driver.specs.declared.stores.FirstForm.{FirstForm}
use Rattle.dxil_driver.specs.Compiled.{Spells, IsContainerOf}
use Rattle.dxil_driver.specs.Kernel.{IsKernelOf, RecordsKernel, SpellsKernel}

-- what holds of the value of Ok leads to what follows from it
pub IfOk-weaker : {T E : Type 0} (P Q : T → Type 0) (r : Result T E) → ((v : T) → P v → Q v) → IfOk r P → IfOk r Q
IfOk-weaker P Q (Ok v) leads h = leads v h
IfOk-weaker P Q (Err e) leads h = tt

-- bytes spell at most one module
pub only_module : AtMostOneContent → OneList → OneModule → (bytes : List ℕ) (one other : Module) → Spells bytes one → Spells bytes other → other ≡ one
only_module contents lists modules bytes one other a b =
    let same_bitcode : b.bitcode ≡ a.bitcode = (contents bytes b.bitcode a.bitcode b.major b.minor a.major a.minor b.contained a.contained).0 in
    let spelled : Spelled a.bitcode b.blocks = subst (λ (bits : List ℕ). Spelled bits b.blocks) same_bitcode b.spelled in
    let same_blocks : b.blocks ≡ a.blocks = lists a.bitcode b.blocks a.blocks spelled a.spelled in
    modules a.blocks other one (subst (λ (blocks : Contents). Recorded blocks other) same_blocks b.recorded) a.recorded

-- the written form of a bitcode that spells a kernel is the kernel's container
pub written_container : (form : FirstForm) (bitcode : List ℕ) → AtMostOneContent → WrittenIsContained → OneList → OneModule →
    length bitcode < 2 ^ 31 → SpellsKernel form bitcode → (m : Module) × IsContainerOf form m (written_form bitcode 0 false)
written_container form bitcode contents written lists modules small (blocks, spelled, (m, kernel, recorded)) =
    let bytes : List ℕ = written_form bitcode 0 false in
    let spells : Spells bytes m = record { bitcode = bitcode; major = 6; minor = 0; contained = written bitcode 0 false small (omega arith); blocks = blocks; spelled = spelled; recorded = recorded } in (
      m,
      record {
        written = record { bitcode = bitcode; form = ap (λ (waves : Bool). written_form bitcode 0 waves) (sym kernel.waveless) };
        spells = spells;
        only = λ other there. only_module contents lists modules bytes m other spells there;
        metadata = kernel.metadata;
        same = kernel.same;
      },
    )

-- blocks that record the module of a kernel
pub RecordsKernel-from : (form : FirstForm) (m : Module) (view : Contents) → IsKernelOf form m → Recorded view m → RecordsKernel form view
RecordsKernel-from form m view kernel recorded = (m, kernel, recorded)
