-- The ranges of a module's numbers: each fits the field that holds it, and each character is a byte.
use Rattle.std.specs.Prelude.{ℕ, Option, List, length, All, IfSome}
use Rattle.ir_core.specs.declared.instruction.Inst.{Inst}
use Rattle.ir_core.specs.declared.instruction.Inst.TheVariants.{Call}
use Rattle.ir_core.specs.declared.instruction.Block.{Block}
use Rattle.ir_core.specs.declared.instruction.Body.{Body}
use Rattle.ir_core.specs.declared.module.Ty.{Ty}
use Rattle.ir_core.specs.declared.module.Ty.TheVariants.{Int, Pointer, Struct, Function as FunctionType}
use Rattle.ir_core.specs.declared.module.Const.{Const}
use Rattle.ir_core.specs.declared.module.Function.{Function}
use Rattle.ir_core.specs.declared.module.Meta.{Meta}
use Rattle.ir_core.specs.declared.module.Meta.TheVariants.{Chars, Value, Node}
use Rattle.ir_core.specs.declared.module.Named.{Named}
use Rattle.ir_core.specs.declared.module.Module.{Module}
use Rattle.bc_records.specs.Entries.{IsWord, IsText}

-- numbers of 32 bits
abbrev pub AreWords : List ℕ → Type 0
AreWords numbers = All IsWord numbers

abbrev pub TypeInRange : Ty → Type 0
TypeInRange (Int width) = IsWord width
TypeInRange (Pointer to space) = IsWord to × IsWord space
TypeInRange (Struct name parts) = IfSome name IsText × AreWords parts
TypeInRange (FunctionType result params) = IsWord result × AreWords params
TypeInRange _ = Unit {0}

abbrev pub ConstInRange : Const → Type 0
ConstInRange c = IsWord c.ty

abbrev pub PartInRange : Option ℕ → Type 0
PartInRange part = IfSome part IsWord

abbrev pub MetaInRange : Meta → Type 0
MetaInRange (Chars text) = IsText text
MetaInRange (Value ty value) = IsWord ty × IsWord value
MetaInRange (Node parts) = All PartInRange parts

abbrev pub NamedInRange : Named → Type 0
NamedInRange named = IsText named.name × AreWords named.ids

abbrev pub InstInRange : Inst → Type 0
InstInRange (Call function args) = IsWord function × AreWords args
InstInRange _ = Unit {0}

abbrev pub BlockInRange : Block → Type 0
BlockInRange block = All InstInRange block.insts

abbrev pub BodyInRange : Body → Type 0
BodyInRange body = All ConstInRange body.consts × IsWord (length body.blocks) × All BlockInRange body.blocks

abbrev pub FunctionInRange : Function → Type 0
FunctionInRange f = IsText f.name × IsWord f.ty × IfSome f.body BodyInRange

pub record IsInRange (m : Module) : Type 0 where
  pub triple : IsText m.triple
  pub layout : IsText m.layout
  pub types : All TypeInRange m.types
  pub functions : All FunctionInRange m.functions
  pub consts : All ConstInRange m.consts
  pub metas : All MetaInRange m.metas
  pub named : All NamedInRange m.named
