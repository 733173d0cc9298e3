-- The module of a kernel of literal stores, table by table (DXIL.rst, "Metadata", "Resources and bindings"
-- and "Operations"). With a buffer the kernel makes the buffer's handle and then stores the words one by
-- one. Without one it ends at once.
use Rattle.std.specs.Prelude.{◌≡◌, ℕ, ◌+◌, ◌-◌, ◌^◌, ◌<◌, List, [], ◌∷◌, ◌++◌, ⊤, map, length, nat_lt, if◌then◌else◌, nat_eq, codes, slice_get, slice_index, ℤ, pos, negsuc}
use Rattle.std.specs.List.{list_any, All}
use Rattle.std.specs.declared.option.Option.{Option}
use Rattle.std.specs.declared.option.Option.TheVariants.{None, Some}
use Rattle.ir_core.specs.declared.instruction.Inst.{Inst}
use Rattle.ir_core.specs.declared.instruction.Inst.TheVariants.{Call, Ret}
use Rattle.ir_core.specs.declared.instruction.Block.{Block}
use Rattle.ir_core.specs.declared.instruction.Body.{Body}
use Rattle.ir_core.specs.declared.module.Ty.{Ty}
use Rattle.ir_core.specs.declared.module.Ty.TheVariants.{Void, Int as Integer, Pointer, Struct, Function as FunctionType}
use Rattle.ir_core.specs.declared.module.ConstValue.TheVariants.{Undef, Int as Number}
use Rattle.ir_core.specs.declared.module.Const.{Const}
use Rattle.ir_core.specs.declared.module.Function.{Function}
use Rattle.ir_core.specs.declared.module.Meta.{Meta}
use Rattle.ir_core.specs.declared.module.Meta.TheVariants.{Chars, Value, Node}
use Rattle.ir_core.specs.declared.module.Named.{Named}
use Rattle.ir_core.specs.declared.module.Module.{Module}
use Rattle.ir_core.specs.Metadata.{dxil_triple, dxil_layout}
use Rattle.dxil_driver.specs.declared.stores.LiteralStore.{LiteralStore}

-- types: 0 void, 1 i32, 2 i64, 3 void (), 4 a pointer to 3
abbrev pub plain_types : List Ty
plain_types = Void ∷ Integer 32 ∷ Integer 64 ∷ FunctionType 0 [] ∷ Pointer 3 0 ∷ []

abbrev pub handle_struct : Ty
handle_struct = Struct (Some (codes "dx.types.Handle")) (7 ∷ [])

-- the opcode, and the class, the id, the register and the uniformity of the buffer
abbrev pub create_handle_type : Ty
create_handle_type = FunctionType 8 (1 ∷ 5 ∷ 1 ∷ 1 ∷ 6 ∷ [])

-- the opcode, the handle, the index, the offset, four words and their mask
abbrev pub buffer_store_type : Ty
buffer_store_type = FunctionType 0 (1 ∷ 8 ∷ 1 ∷ 1 ∷ 1 ∷ 1 ∷ 1 ∷ 1 ∷ 5 ∷ [])

-- 5 i8, 6 i1, 7 i8 pointer, 8 a handle, 9 what makes a handle, 10 a pointer to 9, 11 what stores to a
-- buffer, 12 a pointer to 11, 13 i32 pointer
abbrev pub buffer_types : List Ty
buffer_types =
    Integer 8 ∷ Integer 1 ∷ Pointer 5 0 ∷ handle_struct ∷ create_handle_type ∷ Pointer 9 0 ∷ buffer_store_type ∷ Pointer 11 0 ∷ Pointer 1 0 ∷ []

abbrev pub emitted_types : Option (List ℕ) → List Ty
emitted_types None = plain_types
emitted_types (Some name) = plain_types ++ buffer_types

-- constants

-- a word read with its sign, in two's complement
abbrev pub signed_word : ℕ → ℤ
signed_word word = if nat_lt word (2 ^ 31) then pos word else negsuc (2 ^ 32 - 1 - word)

abbrev pub integer : (ty : ℕ) → ℤ → Const
integer ty value = record { ty = ty; value = Number value }

abbrev pub undefined : (ty : ℕ) → Const
undefined ty = record { ty = ty; value = Undef }

abbrev pub word_constant : ℕ → Const
word_constant word = integer 1 (signed_word word)

-- i32 1, 0, 6 and 4: the numbers of the version, of the shader model and of the properties
abbrev pub number_constants : List Const
number_constants = integer 1 (pos 1) ∷ integer 1 (pos 0) ∷ integer 1 (pos 6) ∷ integer 1 (pos 4) ∷ []

abbrev pub thread_constants : (threads : List ℕ) → List Const
thread_constants threads = word_constant (slice_index threads 0) ∷ word_constant (slice_index threads 1) ∷ word_constant (slice_index threads 2) ∷ []

-- behind those, the i64 of the flags
abbrev pub plain_constants : (threads : List ℕ) (flags : ℕ) → List Const
plain_constants threads flags = number_constants ++ (thread_constants threads ++ (integer 2 (pos flags) ∷ []))

-- i32 11, i1 0, and an undefined i32 pointer
abbrev pub buffer_constants : List Const
buffer_constants = integer 1 (pos 11) ∷ integer 6 (pos 0) ∷ undefined 13 ∷ []

-- flag 16: raw and structured buffers are used
abbrev pub emitted_constants : Option (List ℕ) → (threads : List ℕ) → List Const
emitted_constants None threads = plain_constants threads 0
emitted_constants (Some name) threads = plain_constants threads 16 ++ buffer_constants

-- values 14 to 17: i8 1, i32 57 and 69 (the opcodes), an undefined i32
abbrev pub opcode_constants : List Const
opcode_constants = integer 5 (pos 1) ∷ integer 1 (pos 57) ∷ integer 1 (pos 69) ∷ undefined 1 ∷ []

-- the body's constants: behind those, from value 18 on, the words
abbrev pub body_constants : (words : List ℕ) → List Const
body_constants words = opcode_constants ++ map word_constant words

-- the body

-- the handle of the buffer of class 1 and id 0 at register 0
abbrev pub create_handle : Inst
create_handle = Call 1 (15 ∷ 14 ∷ 4 ∷ 4 ∷ 12 ∷ [])

-- a store of one word through a handle, by the places of its address and its word
abbrev pub buffer_store : (handle : ℕ) → ℕ × ℕ → Inst
buffer_store handle store = Call 2 (16 ∷ handle ∷ (18 + store.0) ∷ 17 ∷ (18 + store.1) ∷ 17 ∷ 17 ∷ 17 ∷ 14 ∷ [])

-- the handle's value number is the next after the words
abbrev pub emitted_instructions : (words : List ℕ) (pairs : List (ℕ × ℕ)) → List Inst
emitted_instructions words pairs = (create_handle ∷ map (buffer_store (18 + length words)) pairs) ++ (Ret ∷ [])

abbrev pub one_block : List Inst → List Block
one_block insts = record { insts = insts } ∷ []

abbrev pub emitted_body : Option (List ℕ) → (words : List ℕ) (pairs : List (ℕ × ℕ)) → Body
emitted_body None words pairs = record { consts = []; blocks = one_block (Ret ∷ []) }
emitted_body (Some name) words pairs = record { consts = body_constants words; blocks = one_block (emitted_instructions words pairs) }

-- functions

abbrev pub entry_function : (entry : List ℕ) → Body → Function
entry_function entry body = record { name = entry; ty = 3; body = Some body }

abbrev pub declared_functions : List Function
declared_functions =
    record { name = codes "dx.op.createHandle"; ty = 9; body = None } ∷ record { name = codes "dx.op.bufferStore.i32"; ty = 11; body = None } ∷ []

abbrev pub emitted_functions : (entry : List ℕ) → Option (List ℕ) → Body → List Function
emitted_functions entry None body = entry_function entry body ∷ []
emitted_functions entry (Some name) body = entry_function entry body ∷ declared_functions

-- metadata, where the module's constants begin at value `first`

-- 0 to 2 the version, 3 to 5 the shader model
abbrev pub version_metas : (first : ℕ) → List Meta
version_metas first =
    Value 1 first ∷ Value 1 (first + 1) ∷ Node (Some 0 ∷ Some 1 ∷ []) ∷ Chars (codes "cs") ∷ Value 1 (first + 2) ∷ Node (Some 3 ∷ Some 4 ∷ Some 1 ∷ []) ∷ []

-- 6 and 7 the entry's function and name
abbrev pub function_metas : (entry : List ℕ) → List Meta
function_metas entry = Value 4 0 ∷ Chars entry ∷ []

-- 8 to 14 the entry's properties: the flags and the threads
abbrev pub property_metas : (first : ℕ) → List Meta
property_metas first =
    Value 2 (first + 7) ∷ Value 1 (first + 3) ∷ Value 1 (first + 4) ∷ Value 1 (first + 5) ∷ Value 1 (first + 6) ∷ Node (Some 10 ∷ Some 11 ∷ Some 12 ∷ []) ∷ Node (Some 1 ∷ Some 8 ∷ Some 9 ∷ Some 13 ∷ []) ∷ []

abbrev pub plain_metas : (entry : List ℕ) (first : ℕ) → List Meta
plain_metas entry first = version_metas first ++ (function_metas entry ++ property_metas first)

-- 15 to 19 the buffer
abbrev pub buffer_metas : (name : List ℕ) → List Meta
buffer_metas name =
    Value 13 13 ∷ Chars name ∷ Value 1 11 ∷ Value 6 12 ∷ Node (Some 1 ∷ Some 15 ∷ Some 16 ∷ Some 1 ∷ Some 1 ∷ Some 0 ∷ Some 17 ∷ Some 18 ∷ Some 18 ∷ Some 18 ∷ None ∷ []) ∷ []

-- 20 and 21 the resources: the buffer alone, among those that are written
abbrev pub resource_metas : List Meta
resource_metas = Node (Some 19 ∷ []) ∷ Node (None ∷ Some 20 ∷ None ∷ None ∷ []) ∷ []

-- the entry: its function, its name, no signatures, the resources, its properties
abbrev pub entry_meta : (resources : Option ℕ) → Meta
entry_meta resources = Node (Some 6 ∷ Some 7 ∷ None ∷ resources ∷ Some 14 ∷ [])

abbrev pub emitted_metas : (entry : List ℕ) → Option (List ℕ) → List Meta
emitted_metas entry None = plain_metas entry 1 ++ (entry_meta None ∷ [])
emitted_metas entry (Some name) = plain_metas entry 3 ++ (buffer_metas name ++ (resource_metas ++ (entry_meta (Some 21) ∷ [])))

abbrev pub named_node : (name : List ℕ) (node : ℕ) → Named
named_node name node = record { name = name; ids = node ∷ [] }

abbrev pub version_names : List Named
version_names = named_node (codes "dx.version") 2 ∷ named_node (codes "dx.shaderModel") 5 ∷ []

abbrev pub emitted_named : Option (List ℕ) → List Named
emitted_named None = version_names ++ (named_node (codes "dx.entryPoints") 15 ∷ [])
emitted_named (Some name) = version_names ++ (named_node (codes "dx.resources") 21 ∷ named_node (codes "dx.entryPoints") 22 ∷ [])

-- the module of a kernel with this entry, this buffer, these threads, and these stores: each pair has the
-- places in `words` of a store's address and word
unfoldable pub emitted_module : (entry : List ℕ) → Option (List ℕ) → (threads : List ℕ) (words : List ℕ) (pairs : List (ℕ × ℕ)) → Module
emitted_module entry buffer threads words pairs =
    record { triple = dxil_triple; layout = dxil_layout; types = emitted_types buffer; globals = []; functions = emitted_functions entry buffer (emitted_body buffer words pairs); consts = emitted_constants buffer threads; metas = emitted_metas entry buffer; named = emitted_named buffer }

-- a number of 32 bits
abbrev pub IsWord : ℕ → Type 0
IsWord n = n < 2 ^ 32

-- a place in the words for a number: the words with it, which stay as they are where it is among them
abbrev pub with_word : List ℕ → ℕ → List ℕ
with_word words word = if list_any (nat_eq word) words then words else words ++ word ∷ []

-- the distinct numbers of the stores in order of first use, each store's address before its word, behind
-- those that stand there already
abbrev pub words_from : List ℕ → List LiteralStore → List ℕ
words_from words [] = words
words_from words (store ∷ stores) = words_from (with_word (with_word words store.address) store.word) stores

-- the pair has the places of the store's address and word
abbrev pub PicksStore : (words : List ℕ) → ℕ × ℕ → LiteralStore → Type 0
PicksStore words pair store = (slice_get words pair.0 ≡ Some store.address) × (slice_get words pair.1 ≡ Some store.word)

-- the pairs stand for the stores, one for one in order
abbrev pub Picks : (words : List ℕ) → List (ℕ × ℕ) → List LiteralStore → Type 0
Picks words [] [] = ⊤
Picks words (pair ∷ pairs) (store ∷ stores) = PicksStore words pair store × Picks words pairs stores
Picks words _ _ = ⊥

-- m is the module of a kernel with this entry, this buffer, these threads and these stores
pub record IsEmitted (entry : List ℕ) (buffer : Option (List ℕ)) (threads : List ℕ) (stores : List LiteralStore) (m : Module) : Type 0 where
  pub words : List ℕ
  pub pairs : List (ℕ × ℕ)
  pub distinct : words ≡ words_from [] stores
  pub fit : All IsWord words
  pub picks : Picks words pairs stores
  pub same : m ≡ emitted_module entry buffer threads words pairs
