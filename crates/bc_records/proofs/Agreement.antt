-- What a module is to the records that are known of it: the numbers of types, functions and values say the same.
use Rattle.std.proofs.Common.{◌≡◌, ℕ, List, length, refl, ap, sym, ◌∙◌}
use Rattle.std.specs.Prelude.{Bool, true, false, not, Option, None, Some, IsSome, is_some, option_map, option_and_then, slice_get, if◌then◌else◌}
use Rattle.std.specs.Option.{option_map_or}
use Rattle.ir_core.specs.declared.module.Ty.{Ty}
use Rattle.ir_core.specs.declared.module.Ty.TheVariants.{Pointer}
use Rattle.ir_core.specs.declared.module.Function.{Function}
use Rattle.ir_core.specs.declared.module.Module.{Module}
use Rattle.ir_core.specs.Values.{signature, callee_signature, function_at, is_void, module_values, number_of}
use Rattle.bc_records.specs.RecordKinds.{Known, signature_at, function_type_at, is_value_type_at, has_pointer_to, module_value_count}

-- whether an entry is there and isn't void
abbrev pub is_value : Option Ty → Bool
is_value found = option_map_or (λ t. not (is_void t)) found false

pub record Agrees (known : Known) (m : Module) : Type 0 where
  pub types : length known.types ≡ length m.types
  pub signatures : (v : ℕ) → signature_at known v ≡ signature m.types v
  pub value_types : (v : ℕ) → is_value_type_at known v ≡ is_value (slice_get m.types v)
  pub pointers : (v : ℕ) → IsSome (number_of m.types (Pointer v 0)) → has_pointer_to known v ≡ true
  pub functions : length known.functions ≡ length m.functions
  pub function_types : (v : ℕ) → function_type_at known v ≡ option_map (λ (f : Function). f.ty) (function_at m v)
  pub values : module_value_count known ≡ length (module_values m)
  pub metas : known.metas ≡ length m.metas

-- the signature of what a value number calls
pub called : (known : Known) (m : Module) (a : Agrees known m) (o : Option Function) →
    option_and_then (signature_at known) (option_map (λ (f : Function). f.ty) o) ≡ option_and_then (λ (f : Function). signature m.types f.ty) o
called known m a None = refl
called known m a (Some f) = a.signatures f.ty

pub callee : (known : Known) (m : Module) → Agrees known m → (v : ℕ) → option_and_then (signature_at known) (function_type_at known v) ≡ callee_signature m v
callee known m a v = ap (option_and_then (signature_at known)) (a.function_types v) ∙ called known m a (function_at m v)

result_some : (k : ℕ) (found : Option Ty) → is_some (option_and_then (λ t. if is_void t then None else Some k) found) ≡ is_value found
result_some k None = refl
result_some k (Some t) = some_if (is_void t)
  where
    some_if : (b : Bool) → is_some (if b then None else Some k) ≡ not b
    some_if true = refl
    some_if false = refl

-- whether a call has a value, by the signature of what is called
pub has_result : (known : Known) (m : Module) → Agrees known m → (s : Option (ℕ × List ℕ)) →
    option_map_or (λ s. is_value_type_at known s.0) s false
    ≡ is_some (option_and_then (λ s. option_and_then (λ t. if is_void t then None else Some s.0) (slice_get m.types s.0)) s)
has_result known m a None = refl
has_result known m a (Some s) = a.value_types s.0 ∙ sym (result_some s.0 (slice_get m.types s.0))
