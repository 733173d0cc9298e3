-- The module that a block list says, whatever is at fault in it: numbers are taken modulo the size of their fields,
-- what is missing is empty, and what names nothing is passed by. Of a list without a fault it is the module that the
-- list records.
use Rattle.std.specs.Prelude.{ℕ, zero, suc, ◌+◌, ◌-◌, ◌%◌, ◌^◌, ◌==◌, if◌then◌else◌, None, Some, List, [], ◌∷◌, ◌++◌, map, length, drop, replicate, flat_map}
use Rattle.std.specs.Option.{option_map_or}
use Rattle.ir_core.specs.declared.instruction.Inst.{Inst}
use Rattle.ir_core.specs.declared.instruction.Inst.TheVariants.{Call, Ret}
use Rattle.ir_core.specs.declared.instruction.Block.{Block}
use Rattle.ir_core.specs.declared.instruction.Body.{Body}
use Rattle.ir_core.specs.declared.module.Ty.{Ty}
use Rattle.ir_core.specs.declared.module.Const.{Const}
use Rattle.ir_core.specs.declared.module.Meta.{Meta}
use Rattle.ir_core.specs.declared.module.Named.{Named}
use Rattle.ir_core.specs.declared.module.Function.{Function}
use Rattle.ir_core.specs.declared.module.Module.{Module}
use Rattle.ir_core.specs.Values.{module_values, parameters}
use Rattle.bc_stream.specs.Blocks.{Contents, no_more}
use Rattle.bc_records.specs.Codes.{module_block, constants_block, function_block, symbols_block, metadata_block, types_block}
use Rattle.bc_records.specs.Entries.{Entry, entry, entries_in, blocks_in}
use Rattle.bc_records.specs.TypeRecords.{TypeRecord, number_of_entries, void_type, integer_type, pointer_type, metadata_type, struct_name, struct_type, function_type, table_of}
use Rattle.bc_records.specs.ConstantRecords.{ConstantRecord, set_type, null_constant, undef_constant, integer_constant, constants_of}
use Rattle.bc_records.specs.MetadataRecords.{MetadataRecord, string_metadata, value_metadata, node_metadata, named_metadata, metas_of, named_of}
use Rattle.bc_records.specs.SymbolRecords.{SymbolRecord, symbol}
use Rattle.bc_records.specs.BodyRecords.{absolute, next_value, filled_blocks}
use Rattle.bc_records.specs.RecordKinds.{code_of, operands_of, operand, first_operand, first_of, all_of, function_entries, has_body}

-- a number in a field of 32 bits
abbrev pub word : ℕ → ℕ
word n = n % 2 ^ 32

abbrev pub words : List ℕ → List ℕ
words numbers = map word numbers

-- characters in bytes
abbrev pub text : List ℕ → List ℕ
text characters = map (λ c. c % 256) characters

-- types

abbrev pub read_type : Entry → TypeRecord
read_type (entry code operands) =
    if code == 1 then number_of_entries (operand operands 0)
    else if code == 7 then integer_type (word (operand operands 0))
    else if code == 8 then pointer_type (word (operand operands 0)) (word (operand operands 1))
    else if code == 16 then metadata_type
    else if code == 19 then struct_name (text operands)
    else if code == 20 then struct_type (words (drop 1 operands))
    else if code == 21 then function_type (word (operand operands 1)) (words (drop 2 operands))
    else void_type

abbrev pub read_types : Contents → List Ty
read_types inner = table_of [] (map read_type (first_of (blocks_in types_block inner)))

-- constants

abbrev pub read_constant : Entry → ConstantRecord
read_constant (entry code operands) =
    if code == 1 then set_type (word (operand operands 0))
    else if code == 2 then null_constant
    else if code == 3 then undef_constant
    else integer_constant (operand operands 0)

-- the constants of the blocks in a block
abbrev pub read_constants : Contents → List Const
read_constants inner = flat_map (λ block. constants_of 0 (map read_constant (entries_in block))) (blocks_in constants_block inner)

-- metadata, with the name that stands last before a record

abbrev pub read_part : ℕ → ℕ
read_part zero = zero
read_part (suc id) = suc (word id)

abbrev pub read_metadata : (name : List ℕ) → List Entry → List MetadataRecord
read_metadata name [] = []
read_metadata name (entry code operands ∷ rest) =
    if code == 1 then string_metadata (text operands) ∷ read_metadata name rest
    else if code == 2 then value_metadata (word (operand operands 0)) (word (operand operands 1)) ∷ read_metadata name rest
    else if code == 3 then node_metadata (map read_part operands) ∷ read_metadata name rest
    else if code == 4 then read_metadata (text operands) rest
    else named_metadata name (words operands) ∷ read_metadata name rest

abbrev pub read_metas : Contents → List Meta
read_metas inner = flat_map (λ block. metas_of (read_metadata [] (entries_in block))) (blocks_in metadata_block inner)

abbrev pub read_named : Contents → List Named
read_named inner = flat_map (λ block. named_of (read_metadata [] (entries_in block))) (blocks_in metadata_block inner)

-- functions with their types, and then their names

abbrev pub declared : List (List ℕ) → List Function
declared [] = []
declared (operands ∷ rest) = record { name = []; ty = word (operand operands 0); body = None } ∷ declared rest

abbrev pub read_symbol : Entry → SymbolRecord
read_symbol (entry code operands) = symbol (operand operands 0) (text (drop 1 operands))

abbrev pub with_name : List Function → (value : ℕ) → (name : List ℕ) → List Function
with_name [] value name = []
with_name (f ∷ fs) zero name = record { name = name; ty = f.ty; body = f.body } ∷ fs
with_name (f ∷ fs) (suc value) name = f ∷ with_name fs value name

abbrev pub with_names : List Function → List SymbolRecord → List Function
with_names fs [] = fs
with_names fs (symbol value name ∷ rest) = with_names (with_name fs value name) rest

abbrev pub read_functions : Contents → List Function
read_functions inner = with_names (declared (function_entries (entries_in inner))) (map read_symbol (all_of (blocks_in symbols_block inner)))

-- bodies

-- the instructions of records, where the next value has a number: a RET 10, a CALL 34
abbrev pub read_instructions : Module → (next : ℕ) → List Entry → List Inst
read_instructions m next [] = []
read_instructions m next (entry code operands ∷ rest) =
    if code == 1 then read_instructions m next rest
    else if code == 10 then Ret ∷ read_instructions m next rest
    else (
    let call : Inst = Call (absolute next (word (operand operands 3))) (map (absolute next) (words (drop 4 operands))) in
    call ∷ read_instructions m (next_value m next call) rest
    )

-- the number of blocks that is declared first
abbrev pub read_count : List Entry → ℕ
read_count es = option_map_or word (first_operand 1 es) 0

abbrev pub block_of : List Inst → Block
block_of insts = record { insts = insts }

-- the blocks that instructions fill, and empty ones up to a number
abbrev pub up_to : ℕ → List (List Inst) → List Block
up_to count filled = map block_of filled ++ replicate (count - length filled) (block_of [])

abbrev pub read_body : Module → Function → Contents → Body
read_body m f block =
    let consts : List Const = read_constants block in
    let first : ℕ = length (module_values m) + (length (parameters m f) + length consts) in
    record { consts = consts; blocks = up_to (read_count (entries_in block)) (filled_blocks (read_instructions m first (entries_in block))) }

-- a function with the body that the first of some blocks holds
abbrev pub with_first : Module → Function → List Contents → Function
with_first m f [] = f
with_first m f (block ∷ blocks) = record { name = f.name; ty = f.ty; body = Some (read_body m f block) }

-- functions with their bodies, of which each that isn't a declaration has the next block
abbrev pub with_code : Module → (operands : List (List ℕ)) → List Function → List Contents → List Function
with_code m [] fs blocks = fs
with_code m (operands ∷ rest) [] blocks = []
with_code m (operands ∷ rest) (f ∷ fs) blocks =
    if has_body operands then with_first m f blocks ∷ with_code m rest fs (drop 1 blocks)
    else f ∷ with_code m rest fs blocks

-- the module

-- the characters of the first record of a code
abbrev pub read_text : ℕ → List Entry → List ℕ
read_text code [] = []
read_text code (e ∷ es) = if code_of e == code then text (operands_of e) else read_text code es

-- the module without its bodies
abbrev pub read_outline : Contents → Module
read_outline inner = record {
  triple = read_text 2 (entries_in inner);
  layout = read_text 3 (entries_in inner);
  types = read_types inner;
  globals = [];
  functions = read_functions inner;
  consts = read_constants inner;
  metas = read_metas inner;
  named = read_named inner;
}

abbrev pub read_inner : Contents → Module
read_inner inner =
    let outline : Module = read_outline inner in
    record {
      triple = outline.triple;
      layout = outline.layout;
      types = outline.types;
      globals = outline.globals;
      functions = with_code outline (function_entries (entries_in inner)) outline.functions (blocks_in function_block inner);
      consts = outline.consts;
      metas = outline.metas;
      named = outline.named;
    }

abbrev pub inner_of : List Contents → Contents
inner_of [] = no_more
inner_of (block ∷ blocks) = block

-- the module of the first block MODULE
abbrev pub read_module : Contents → Module
read_module blocks = read_inner (inner_of (blocks_in module_block blocks))
