-- Arguments that were walked, one after another.
use Rattle.std.proofs.Common.{◌≡◌, ◌∙◌, refl, ap, ℕ, true, if◌then◌else◌, List, [], ◌∷◌, map, Option, None, Some}
use Rattle.std.specs.Prelude.{option_and_then, option_map}
use Rattle.hl_meaning.specs.declared.ty.HlType.TheVariants.{Void}
use Rattle.hl_meaning.specs.Types.{Ty, void_type}
use Rattle.hl_meaning.specs.Views.{plain_ty}
use Rattle.hl_meaning.proofs.Plain.{plain_ty-Void}
use Rattle.hl_rules.specs.declared.interlocked.Interlocked.{Interlocked}
use Rattle.hl_rules.specs.Intrinsics.{interlocked_form}
use Rattle.hl_rules.specs.Values.{Value, argument_types, atomic_fits, intrinsic_result, intrinsic_type, result_by_form}
use Rattle.hl_values.specs.declared.typed.Typed.{Typed}
use Rattle.hl_values.specs.Arguments.{typed_as}
use Rattle.hl_values.specs.Few.{each}
use Rattle.hl_values.specs.Views.{plain_value}

pub argument_types-each : (args : List Typed) → argument_types (map plain_value args) ≡ each typed_as args
argument_types-each [] = refl
argument_types-each (t ∷ args) =
    ap (λ o. option_and_then (λ ty. option_map (λ types. ty ∷ types) o) (typed_as t)) (argument_types-each args)

-- what an interlocked function gives
pub interlocked-gives : (number : ℕ) (args : List Value) (types : List Ty) (form : Interlocked) → Some types ≡ argument_types args → Some form ≡ interlocked_form number → true ≡ atomic_fits form args → Some (plain_ty Void) ≡ intrinsic_type number args
interlocked-gives number args types form typed is fits =
    ap Some plain_ty-Void ∙
    (ap (λ b. if b then Some void_type else None) fits ∙
    (ap (λ f. result_by_form f number args types) is ∙ ap (option_and_then (intrinsic_result number args)) typed))
