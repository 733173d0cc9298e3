-- Sound and whole modules: which modules have a reading in the LLVM Language Reference.
use Rattle.std.specs.Prelude.{◌≡◌, ℕ, ◌^◌, ◌<◌, ◌≤◌, ◌⊎◌, List, [], ◌∷◌, ⊤, Bool, true, false, length, IsSome, IfSome, MatchOption, IsTrue, IsFalse}
use Rattle.std.specs.List.{All}
use Rattle.ir_core.specs.declared.instruction.Inst.{Inst}
use Rattle.ir_core.specs.declared.instruction.Inst.TheVariants.{Bin, Cast, Cmp, Select, Phi, Alloca, Gep, Load, Store, Extract, Call, Rmw, CmpXchg, Jump, Branch, Ret}
use Rattle.ir_core.specs.declared.instruction.Body.{Body}
use Rattle.ir_core.specs.declared.module.Ty.{Ty}
use Rattle.ir_core.specs.declared.module.Ty.TheVariants.{Void, Label, Metadata, Int, Pointer, Array, Vector, Struct, Function as FunctionType}
use Rattle.ir_core.specs.declared.module.Function.{Function}
use Rattle.ir_core.specs.declared.module.Meta.{Meta}
use Rattle.ir_core.specs.declared.module.Meta.TheVariants.{Chars, Value as ValueNode, Node}
use Rattle.ir_core.specs.declared.module.Module.{Module}
use Rattle.ir_core.specs.Values.{Value, signature, callee_signature, instructions, module_values, body_values, bodies, type_among}

-- a number names one of so many things
abbrev pub Names : ℕ → ℕ → Type 0
Names count number = number < count

-- an alignment in bytes: 0, or a power of two up to 2^30
abbrev pub IsAlignment : ℕ → Type 0
IsAlignment align = (align ≡ 0) ⊎ ((k : ℕ) × (k ≤ 30) × (align ≡ 2 ^ k))

-- the numbers in an entry of the type table name entries
abbrev pub IsSoundType : ℕ → Ty → Type 0
IsSoundType types Void = ⊤
IsSoundType types Label = ⊤
IsSoundType types Metadata = ⊤
IsSoundType types (Int width) = ⊤
IsSoundType types (Pointer to space) = Names types to
IsSoundType types (Array len of) = Names types of
IsSoundType types (Vector len of) = Names types of
IsSoundType types (Struct name of) = All (Names types) of
IsSoundType types (FunctionType result params) = Names types result × All (Names types) params

-- metadata holds values of the module alone, and its nodes name metadata or null
abbrev pub IsSoundMeta : (types values metas : ℕ) → Meta → Type 0
IsSoundMeta types values metas (Chars text) = ⊤
IsSoundMeta types values metas (ValueNode ty value) = Names types ty × Names values value
IsSoundMeta types values metas (Node parts) = All (λ part. IfSome part (Names metas)) parts

-- the operations: of Bin add, sub, mul, udiv, sdiv, urem, srem, shl, lshr, ashr, and, or, xor (0 to 12);
-- of Cast trunc, zext, sext (0 to 2); of Cmp eq, ne, ugt, uge, ult, ule, sgt, sge, slt, sle (32 to 41);
-- of Rmw xchg, add, sub, and, nand, or, xor, max, min, umax, umin (0 to 10)
abbrev pub IsBinOp : ℕ → Type 0
IsBinOp op = op ≤ 12

abbrev pub IsCastOp : ℕ → Type 0
IsCastOp op = op ≤ 2

abbrev pub IsCmpOp : ℕ → Type 0
IsCmpOp op = (32 ≤ op) × (op ≤ 41)

abbrev pub IsRmwOp : ℕ → Type 0
IsRmwOp op = op ≤ 10

-- a function has this value number, and it takes so many arguments
abbrev pub Takes : Module → ℕ → ℕ → Type 0
Takes m function args = MatchOption (callee_signature m function) ⊥ (λ s. length s.1 ≡ args)

-- an instruction, in a body with so many values and blocks: its numbers name what is there, its operation
-- is a listed one, and its alignment is one
abbrev pub IsSoundInst : Module → (values blocks : ℕ) → Inst → Type 0
IsSoundInst m values blocks (Bin op left right) = IsBinOp op × Names values left × Names values right
IsSoundInst m values blocks (Cast op value ty) = IsCastOp op × Names values value × Names (length m.types) ty
IsSoundInst m values blocks (Cmp op left right) = IsCmpOp op × Names values left × Names values right
IsSoundInst m values blocks (Select first second cond) = Names values first × Names values second × Names values cond
IsSoundInst m values blocks (Phi ty arms) = Names (length m.types) ty × All (λ arm. Names values arm.value × Names blocks arm.block) arms
IsSoundInst m values blocks (Alloca ty count align) = Names (length m.types) ty × Names values count × IsAlignment align
IsSoundInst m values blocks (Gep ty base indexes) = Names (length m.types) ty × Names values base × All (Names values) indexes
IsSoundInst m values blocks (Load ty from align) = Names (length m.types) ty × Names values from × IsAlignment align
IsSoundInst m values blocks (Store to value align) = Names values to × Names values value × IsAlignment align
IsSoundInst m values blocks (Extract value index) = Names values value
IsSoundInst m values blocks (Call function args) = Takes m function (length args) × All (Names values) args
IsSoundInst m values blocks (Rmw op to value) = IsRmwOp op × Names values to × Names values value
IsSoundInst m values blocks (CmpXchg to compare value) = Names values to × Names values compare × Names values value
IsSoundInst m values blocks (Jump target) = Names blocks target
IsSoundInst m values blocks (Branch cond then_block else_block) = Names values cond × Names blocks then_block × Names blocks else_block
IsSoundInst m values blocks Ret = ⊤

-- each value among values has its type in the type table
abbrev pub EachHasType : Module → List Value → Type 0
EachHasType m values = (v : ℕ) → v < length values → IsSome (type_among m values v)

pub record IsSoundBody (m : Module) (f : Function) (body : Body) : Type 0 where
  pub consts : All (λ c. Names (length m.types) c.ty) body.consts
  pub insts : All (IsSoundInst m (length (body_values m f body)) (length body.blocks)) (instructions body)
  pub typed : EachHasType m (body_values m f body)

-- every number names what is there, and each value has a type
pub record IsSound (m : Module) : Type 0 where
  pub types : All (IsSoundType (length m.types)) m.types
  pub globals : All (λ g. Names (length m.types) g.ty × IsAlignment g.align) m.globals
  pub functions : All (λ f. IsSome (signature m.types f.ty)) m.functions
  pub consts : All (λ c. Names (length m.types) c.ty) m.consts
  pub typed : EachHasType m (module_values m)
  pub metas : All (IsSoundMeta (length m.types) (length (module_values m)) (length m.metas)) m.metas
  pub named : All (λ n. All (Names (length m.metas)) n.ids) m.named
  pub bodies_sound : All (λ b. IsSoundBody m b.0 b.1) (bodies m.functions)

-- whether an instruction ends its block
abbrev pub ends_block : Inst → Bool
ends_block (Jump target) = true
ends_block (Branch cond then_block else_block) = true
ends_block Ret = true
ends_block _ = false

-- the instructions end with their only Jump, Branch or Ret
abbrev pub EndsOnce : List Inst → Type 0
EndsOnce [] = ⊥
EndsOnce (inst ∷ []) = IsTrue (ends_block inst)
EndsOnce (inst ∷ next ∷ rest) = IsFalse (ends_block inst) × EndsOnce (next ∷ rest)

-- a sound module with fewer than 2^30 bodies, whose blocks each end once
pub record IsWhole (m : Module) : Type 0 where
  pub sound : IsSound m
  pub few_bodies : length (bodies m.functions) < 2 ^ 30
  pub ended : All (λ b. All (λ k. EndsOnce k.insts) b.1.blocks) (bodies m.functions)
