-- The blocks FUNCTION, id 12: bodies (LLVM Bitcode File Format, "FUNCTION_BLOCK Contents").
use Rattle.std.specs.Prelude.{◌≡◌, ℕ, suc, ◌+◌, ◌-◌, ◌/◌, ◌%◌, ◌^◌, if◌then◌else◌, List, [], ◌∷◌, ◌++◌, map, length, replicate, slice_get, option_and_then, All, Contains}
use Rattle.ir_core.specs.declared.instruction.Inst.{Inst}
use Rattle.ir_core.specs.declared.instruction.Inst.TheVariants.{Call, Ret}
use Rattle.ir_core.specs.declared.instruction.Body.{Body}
use Rattle.ir_core.specs.declared.module.Function.{Function}
use Rattle.ir_core.specs.declared.module.Module.{Module}
use Rattle.ir_core.specs.Values.{module_values, parameters, instructions, has_value, function_at}
use Rattle.ir_core.specs.Soundness.{ends_block}
use Rattle.bc_stream.specs.Blocks.{Contents}
use Rattle.bc_records.specs.Codes.{constants_block, symbols_block, metadata_block}
use Rattle.bc_records.specs.Entries.{Entry, entry, entries_in, block_ids, blocks_in, IsWord}
use Rattle.bc_records.specs.ConstantRecords.{ConstantsRecorded}

pub data BodyRecord : Type 0 where
  declare_blocks : (n : ℕ) → BodyRecord
  return_record : BodyRecord
  call_record : (attributes convention ty function : ℕ) (args : List ℕ) → BodyRecord

-- DECLAREBLOCKS 1, RET 10, CALL 34
abbrev pub body_entry : BodyRecord → Entry
body_entry (declare_blocks n) = entry 1 (n ∷ [])
body_entry return_record = entry 10 []
body_entry (call_record attributes convention ty function args) = entry 34 (attributes ∷ convention ∷ ty ∷ function ∷ args)

-- the numbers of blocks that are declared
abbrev pub declared_blocks : List BodyRecord → List ℕ
declared_blocks [] = []
declared_blocks (declare_blocks n ∷ rest) = n ∷ declared_blocks rest
declared_blocks (_ ∷ rest) = declared_blocks rest

-- the number of the first value that an instruction of a body defines: before it stand the values of the
-- module, the function's parameters and the body's constants
abbrev pub first_value : Module → Function → Body → ℕ
first_value m f body = length (module_values m) + (length (parameters m f) + length body.consts)

-- the number of the next value after an instruction
abbrev pub next_value : Module → ℕ → Inst → ℕ
next_value m next inst = if has_value m inst then suc next else next

-- the value that an operand of an instruction names, where the next value has the number `next`: the
-- operand is the difference of the two numbers, modulo 2^32
abbrev pub absolute : (next operand : ℕ) → ℕ
absolute next operand = (next + 2 ^ 32 - operand % 2 ^ 32) % 2 ^ 32

-- a type number is that of a function's type
abbrev pub IsTypeOf : Module → (function ty : ℕ) → Type 0
IsTypeOf m function ty = slice_get m.types ty ≡ option_and_then (λ f. slice_get m.types f.ty) (function_at m function)

-- a record and the instruction that it is, where the next value has the number `next`. Of the calling
-- convention of a CALL only bit 15 counts, which says that the function type is given.
abbrev pub InstructionRecorded : Module → (next : ℕ) → BodyRecord → Inst → Type 0
InstructionRecorded m next (declare_blocks n) inst = ⊥
InstructionRecorded m next return_record inst = inst ≡ Ret
InstructionRecorded m next (call_record attributes convention ty function args) inst =
    (inst ≡ Call (absolute next function) (map (absolute next) args))
    × (convention / 2 ^ 15 % 2 ≡ 1)
    × IsTypeOf m (absolute next function) ty
    × All IsWord (function ∷ args)

-- the records of instructions in order
abbrev pub instruction_records : List BodyRecord → List BodyRecord
instruction_records [] = []
instruction_records (declare_blocks n ∷ rest) = instruction_records rest
instruction_records (return_record ∷ rest) = return_record ∷ instruction_records rest
instruction_records (call_record attributes convention ty function args ∷ rest) = call_record attributes convention ty function args ∷ instruction_records rest

abbrev pub InstructionsRecorded : Module → (next : ℕ) → List BodyRecord → List Inst → Type 0
InstructionsRecorded m next [] [] = Unit {0}
InstructionsRecorded m next [] (inst ∷ insts) = ⊥
InstructionsRecorded m next (first ∷ rest) [] = ⊥
InstructionsRecorded m next (first ∷ rest) (inst ∷ insts) =
    InstructionRecorded m next first inst × InstructionsRecorded m (next_value m next inst) rest insts

-- an instruction put before the first of some blocks
abbrev pub before_first : Inst → List (List Inst) → List (List Inst)
before_first inst [] = (inst ∷ []) ∷ []
before_first inst (block ∷ blocks) = (inst ∷ block) ∷ blocks

-- instructions as the blocks that they fill: each block ends after a Jump, Branch or Ret
abbrev pub filled_blocks : List Inst → List (List Inst)
filled_blocks [] = []
filled_blocks (inst ∷ insts) = if ends_block inst then (inst ∷ []) ∷ filled_blocks insts else before_first inst (filled_blocks insts)

-- the block holds the body of a function. Symbol tables and metadata in it are not read.
pub record BodyRecorded (m : Module) (f : Function) (block : Contents) (body : Body) : Type 0 where
  pub records : List BodyRecord
  pub spelled : entries_in block ≡ map body_entry records
  pub known_blocks : All (Contains (constants_block ∷ symbols_block ∷ metadata_block ∷ [])) (block_ids block)
  pub constants : ConstantsRecorded (length m.types) (blocks_in constants_block block) body.consts
  pub number : declared_blocks records ≡ length body.blocks ∷ []
  pub code : InstructionsRecorded m (first_value m f body) (instruction_records records) (instructions body)
  pub empty : ℕ
  pub filled : map (λ k. k.insts) body.blocks ≡ filled_blocks (instructions body) ++ replicate empty []

-- the blocks hold the bodies, one each
abbrev pub BodiesRecorded : Module → List Contents → List (Function × Body) → Type 0
BodiesRecorded m [] [] = Unit {0}
BodiesRecorded m [] (first ∷ rest) = ⊥
BodiesRecorded m (block ∷ blocks) [] = ⊥
BodiesRecorded m (block ∷ blocks) (first ∷ rest) = BodyRecorded m first.0 block first.1 × BodiesRecorded m blocks rest
