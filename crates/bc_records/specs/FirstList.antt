-- Modules whose records are among those that are written so far.
use Rattle.std.specs.Prelude.{◌≡◌, [], All, IsSome}
use Rattle.ir_core.specs.declared.instruction.Inst.{Inst}
use Rattle.ir_core.specs.declared.instruction.Inst.TheVariants.{Call, Ret}
use Rattle.ir_core.specs.declared.module.Ty.{Ty}
use Rattle.ir_core.specs.declared.module.Ty.TheVariants.{Void, Metadata, Int, Pointer, Struct, Function}
use Rattle.ir_core.specs.declared.module.Module.{Module}
use Rattle.ir_core.specs.Values.{instructions, bodies}

-- void, integers, pointers, metadata, structs with a name, functions
abbrev pub IsListedType : Ty → Type 0
IsListedType Void = Unit {0}
IsListedType (Int width) = Unit {0}
IsListedType (Pointer to space) = Unit {0}
IsListedType Metadata = Unit {0}
IsListedType (Struct name parts) = IsSome name
IsListedType (Function result params) = Unit {0}
IsListedType _ = ⊥

-- calls and ends
abbrev pub IsListedInst : Inst → Type 0
IsListedInst (Call function args) = Unit {0}
IsListedInst Ret = Unit {0}
IsListedInst _ = ⊥

-- a module without variables whose types and instructions have records that are written
pub record IsListed (m : Module) : Type 0 where
  pub types : All IsListedType m.types
  pub globals : m.globals ≡ []
  pub code : All (λ b. All IsListedInst (instructions b.1)) (bodies m.functions)
