-- What holds of every module of a kernel of literal stores.
use Rattle.std.proofs.Common.{◌≡◌, ℕ, ◌<◌, ◌^◌, false, List, [], Option, None, sym, subst, ap, ◌∙◌}
use Rattle.std.specs.Prelude.{slice_index}
use Rattle.lane_core.specs.SameLane.{SameLane}
use Rattle.ir_core.specs.declared.module.Module.{Module}
use Rattle.ir_core.specs.Metadata.{HasMetadata}
use Rattle.ir_core.specs.ModuleLane.{module_lane}
use Rattle.ir_core.specs.Soundness.{IsWhole}
use Rattle.ir_core.specs.Waves.{uses_waves}
use Rattle.dxil_driver.specs.declared.stores.LiteralStore.{LiteralStore}
use Rattle.dxil_driver.specs.Emitted.{IsEmitted}
use Rattle.dxil_driver.specs.KernelMetadata.{kernel_resources, kernel_threads}
use Rattle.dxil_driver.specs.LiteralLane.{literal_stores}
use Rattle.bc_records.specs.FirstList.{IsListed}
use Rattle.dxil_driver.proofs.EmittedListed.{emitted_listed}
use Rattle.dxil_driver.proofs.EmittedMetadata.{no_waves, emitted_metadata}
use Rattle.dxil_driver.proofs.EmittedWhole.{emitted_whole, picks_within}
use Rattle.dxil_driver.proofs.StoresLane.{emitted_lane}

module _ (entry : List ℕ) (buffer : Option (List ℕ)) (threads : List ℕ) (stores : List LiteralStore) (m : Module) (e : IsEmitted entry buffer threads stores m) where
  pub is_whole : IsWhole m
  is_whole =
      subst IsWhole (sym e.same) (emitted_whole entry buffer threads e.words e.pairs (picks_within e.words e.pairs stores e.picks))

  pub is_listed : IsListed m
  is_listed = subst IsListed (sym e.same) (emitted_listed entry buffer threads e.words e.pairs)

  pub has_no_waves : uses_waves m ≡ false
  has_no_waves = ap uses_waves e.same ∙ no_waves entry buffer threads e.words e.pairs

  pub has_metadata : ((k : ℕ) → slice_index threads k < 2 ^ 32) → HasMetadata m (kernel_resources buffer) (kernel_threads threads) entry
  has_metadata fit =
      subst (λ (n : Module). HasMetadata n (kernel_resources buffer) (kernel_threads threads) entry) (sym e.same) (emitted_metadata entry buffer threads e.words e.pairs fit)

  pub has_lane : (buffer ≡ None → stores ≡ []) → SameLane (literal_stores stores) (module_lane m)
  has_lane none =
      subst (λ (n : Module). SameLane (literal_stores stores) (module_lane n)) (sym e.same) (emitted_lane entry buffer threads e.words e.pairs stores e.fit e.picks none)
