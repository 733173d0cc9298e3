-- The metadata of an emitted module is that of its kernel.
use Rattle.std.proofs.Common.{◌≡◌, ℕ, ◌+◌, ◌<◌, ◌^◌, false, length, map, List, [], ◌∷◌, ◌++◌, Option, Some, None, refl, subst, lit<}
use Rattle.std.specs.Prelude.{codes, slice_index}
use Rattle.std.specs.List.{All, Contains}
use Rattle.std.proofs.lemmas.List.Elements.{All-from_recursion}
use Rattle.lane_core.specs.Lane.{Coordinates}
use Rattle.ir_core.specs.declared.instruction.Inst.TheVariants.{Ret}
use Rattle.ir_core.specs.declared.module.Module.{Module}
use Rattle.ir_core.specs.Values.{Value, function_at, integer_at, body_values, low_bits}
use Rattle.ir_core.specs.Waves.{any_wave, uses_waves}
use Rattle.ir_core.specs.MetadataTree.{named_trees}
use Rattle.ir_core.specs.Metadata.{HasMetadata, IsEntryPoint, entry_node, resources_part, properties_node, shader_flags, metadata_names}
use Rattle.dxil_driver.specs.Emitted.{signed_word, buffer_store, emitted_body, entry_function, emitted_named, emitted_module}
use Rattle.dxil_driver.specs.KernelMetadata.{kernel_resources, kernel_threads}
use Rattle.dxil_driver.proofs.StoresLane.{word_kept}

-- stores, whose opcode is value 16, are no wave operations
stores_no_waves : (m : Module) (values : List Value) (handle : ℕ) (pairs : List (ℕ × ℕ)) → integer_at m.types values 16 ≡ Some 69 → any_wave m values ((map (buffer_store handle) pairs ++ Ret ∷ []) ++ []) ≡ false
stores_no_waves m values handle [] e = refl
stores_no_waves m values handle (pair ∷ pairs) e = rw e (stores_no_waves m values handle pairs e)

-- an emitted module has no wave operation
pub no_waves : (entry : List ℕ) (buffer : Option (List ℕ)) (threads words : List ℕ) (pairs : List (ℕ × ℕ)) → uses_waves (emitted_module entry buffer threads words pairs) ≡ false
unfolding emitted_module
no_waves entry None threads words pairs = refl
no_waves entry (Some name) threads words pairs =
    let m : Module = emitted_module entry (Some name) threads words pairs in
    let body = emitted_body (Some name) words pairs in
    rw (stores_no_waves m (body_values m (entry_function entry body) body) (18 + length words) pairs refl) refl

-- the threads as the metadata reads them
abbrev read_threads : List ℕ → Coordinates
read_threads threads = record { x = low_bits 32 (signed_word (slice_index threads 0)); y = low_bits 32 (signed_word (slice_index threads 1)); z = low_bits 32 (signed_word (slice_index threads 2)) }

-- numbers of 32 bits, also past the end of the list
abbrev Fit : List ℕ → Type 0
Fit threads = (k : ℕ) → slice_index threads k < 2 ^ 32

threads_kept : (threads : List ℕ) → Fit threads → read_threads threads ≡ kernel_threads threads
threads_kept threads fit =
    rw (word_kept (slice_index threads 0) (fit 0)) (rw (word_kept (slice_index threads 1) (fit 1)) (rw (word_kept (slice_index threads 2) (fit 2)) refl))

-- the entry point's node, before its parts are read
nodes_read : (entry : List ℕ) (buffer : Option (List ℕ)) (threads words : List ℕ) (pairs : List (ℕ × ℕ)) → named_trees (emitted_module entry buffer threads words pairs) (codes "dx.entryPoints") ≡ Some (entry_node 0 entry (resources_part (kernel_resources buffer)) (properties_node (shader_flags (kernel_resources buffer) false) (read_threads threads)) ∷ [])
unfolding emitted_module
nodes_read entry None threads words pairs = refl
nodes_read entry (Some name) threads words pairs = refl

nodes_kept : (entry : List ℕ) (buffer : Option (List ℕ)) (threads words : List ℕ) (pairs : List (ℕ × ℕ)) → Fit threads → named_trees (emitted_module entry buffer threads words pairs) (codes "dx.entryPoints") ≡ Some (entry_node 0 entry (resources_part (kernel_resources buffer)) (properties_node (shader_flags (kernel_resources buffer) false) (kernel_threads threads)) ∷ [])
nodes_kept entry buffer threads words pairs fit =
    subst (λ (read : Coordinates). named_trees (emitted_module entry buffer threads words pairs) (codes "dx.entryPoints") ≡ Some (entry_node 0 entry (resources_part (kernel_resources buffer)) (properties_node (shader_flags (kernel_resources buffer) false) read) ∷ [])) (threads_kept threads fit) (nodes_read entry buffer threads words pairs)

entry_named : (entry : List ℕ) (buffer : Option (List ℕ)) (threads words : List ℕ) (pairs : List (ℕ × ℕ)) → function_at (emitted_module entry buffer threads words pairs) 0 ≡ Some (entry_function entry (emitted_body buffer words pairs))
unfolding emitted_module
entry_named entry None threads words pairs = refl
entry_named entry (Some name) threads words pairs = refl

entry_is : (entry : List ℕ) (buffer : Option (List ℕ)) (threads words : List ℕ) (pairs : List (ℕ × ℕ)) → Fit threads → IsEntryPoint (emitted_module entry buffer threads words pairs) (kernel_resources buffer) (kernel_threads threads) entry 0 (entry_function entry (emitted_body buffer words pairs))
entry_is entry buffer threads words pairs fit = record {
  names = entry_named entry buffer threads words pairs;
  name = refl;
  has_body = refl;
  nodes = rw (no_waves entry buffer threads words pairs) (nodes_kept entry buffer threads words pairs fit);
}

no_other_names : (buffer : Option (List ℕ)) → All (λ named. Contains metadata_names named.name) (emitted_named buffer)
no_other_names None =
    All-from_recursion (λ named. Contains metadata_names named.name) (emitted_named None) ((0, lit< tt, refl), ((1, lit< tt, refl), ((3, lit< tt, refl), tt)))
no_other_names (Some name) =
    All-from_recursion (λ named. Contains metadata_names named.name) (emitted_named (Some name)) ((0, lit< tt, refl), ((1, lit< tt, refl), ((2, lit< tt, refl), ((3, lit< tt, refl), tt))))

-- the module has the metadata of a compute shader with this buffer, these threads and this entry
pub emitted_metadata : (entry : List ℕ) (buffer : Option (List ℕ)) (threads words : List ℕ) (pairs : List (ℕ × ℕ)) → ((k : ℕ) → slice_index threads k < 2 ^ 32) → HasMetadata (emitted_module entry buffer threads words pairs) (kernel_resources buffer) (kernel_threads threads) entry
unfolding emitted_module
emitted_metadata entry None threads words pairs fit = record {
  triple = refl;
  layout = refl;
  version = refl;
  shader_model = refl;
  resources_named = refl;
  entry_point = (0, entry_function entry (emitted_body None words pairs), entry_is entry None threads words pairs fit);
  no_others = no_other_names None;
}
emitted_metadata entry (Some name) threads words pairs fit = record {
  triple = refl;
  layout = refl;
  version = refl;
  shader_model = refl;
  resources_named = refl;
  entry_point = (0, entry_function entry (emitted_body (Some name) words pairs), entry_is entry (Some name) threads words pairs fit);
  no_others = no_other_names (Some name);
}
