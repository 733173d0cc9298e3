-- The rules of the validator, each as the ways to break it, with the spot of each.
-- Source: DXIL.rst, "Validator Rules" (META.TARGET, META.KNOWN, TYPES.INTWIDTH), and this project's own rule 9.
use Rattle.std.specs.Prelude.{◌≡◌, ◌≢◌, ℕ, ◌<◌, ◌⊎◌, List, [], ◌++◌, Some, slice_get, codes}
use Rattle.ir_core.specs.declared.module.Module.{Module}
use Rattle.ir_core.specs.declared.module.Function.{Function}
use Rattle.ir_core.specs.declared.module.Named.{Named}
use Rattle.ir_core.specs.declared.module.Ty.{Ty}
use Rattle.ir_core.specs.declared.module.Ty.TheVariants.{Int, Function as FunctionTy, Void}
use Rattle.ir_core.specs.declared.instruction.Body.{Body}
use Rattle.ir_core.specs.declared.spot.Spot.{Spot}
use Rattle.ir_core.specs.Metadata.{dxil_triple}
use Rattle.ir_core.specs.Spots.{module_spot, type_spot, function_spot, named_spot}

-- the text begins with the prefix
abbrev pub BeginsWith : List ℕ → List ℕ → Type 0
BeginsWith prefix text = (rest : List ℕ) × (text ≡ prefix ++ rest)

-- a name of metadata that is known: it begins with `dx.` or `llvm.`
abbrev pub IsKnownName : List ℕ → Type 0
IsKnownName name = BeginsWith (codes "dx.") name ⊎ BeginsWith (codes "llvm.") name

-- a width that an integer may have
abbrev pub IsWidth : ℕ → Type 0
IsWidth width = (width ≡ 1) ⊎ ((width ≡ 8) ⊎ ((width ≡ 16) ⊎ ((width ≡ 32) ⊎ (width ≡ 64))))

-- the function has a body
abbrev pub HasBody : Function → Type 0
HasBody function = (body : Body) × (function.body ≡ Some body)

-- the function at that place has a body
abbrev pub HasBodyAt : List Function → ℕ → Type 0
HasBodyAt functions place = (function : Function) × (slice_get functions place ≡ Some function) × HasBody function

-- a type number of a function without parameters and without a result
abbrev pub IsPlain : List Ty → ℕ → Type 0
IsPlain types number = (result : ℕ) × (slice_get types number ≡ Some (FunctionTy result [])) × (slice_get types result ≡ Some Void)

-- the module breaks the rule at the spot
pub data Breaks (m : Module) : ℕ → Spot → Type 0 where
  -- 1, META.TARGET: the triple is that of a shader; the layout is free
  other_triple : m.triple ≢ dxil_triple → Breaks m 1 module_spot
  -- 3, META.KNOWN: each named metadata begins with `dx.` or `llvm.`
  unknown_name : (place : ℕ) (named : Named) → slice_get m.named place ≡ Some named → ¬ IsKnownName named.name →
      Breaks m 3 (named_spot place)
  -- 8, TYPES.INTWIDTH: an integer has 1, 8, 16, 32 or 64 bits
  odd_width : (number width : ℕ) → slice_get m.types number ≡ Some (Int width) → ¬ IsWidth width →
      Breaks m 8 (type_spot number)
  -- 9, this project's own: exactly one function has a body, without parameters and result
  no_body : ((place : ℕ) → ¬ HasBodyAt m.functions place) → Breaks m 9 module_spot
  second_body : (place earlier : ℕ) → earlier < place → HasBodyAt m.functions earlier → HasBodyAt m.functions place →
      Breaks m 9 (function_spot place)
  body_with_parts : (place : ℕ) (function : Function) → slice_get m.functions place ≡ Some function → HasBody function →
      ¬ IsPlain m.types function.ty → Breaks m 9 (function_spot place)
