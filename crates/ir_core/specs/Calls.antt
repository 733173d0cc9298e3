-- What the calls of DXIL's operations do (DXIL.rst, "Resources and bindings" and "Operations").
use Rattle.std.specs.Prelude.{ℕ, zero, suc, ◌+◌, List, [], ◌∷◌, map, find, ◌==◌, ◌&&◌, nat_le, nat_lt, if◌then◌else◌, Option, Some, None, option_map}
use Rattle.lane_core.specs.declared.event.Event.{Event}
use Rattle.lane_core.specs.declared.event.Event.TheVariants.{BufferStore}
use Rattle.ir_core.specs.declared.module.Function.{Function}
use Rattle.ir_core.specs.declared.instruction.Body.{Body}
use Rattle.ir_core.specs.Metadata.{Resource, raw_kind}
use Rattle.ir_core.specs.Operations.{Operation, create_handle, buffer_store, operation_of}
use Rattle.ir_core.specs.Machine.{BufferHandle, a_handle, Setting, State, Turn, is_wrong, Content, need, given, number_in, buffer_in, gives, asks}
use Rattle.ir_core.specs.Values.{function_at}

-- the first resource with a class and a number whose range holds a register
abbrev pub resource_at : List Resource → (class id register : ℕ) → Option Resource
resource_at resources class id register =
    find (λ r. r.class == class && (r.id == id && (nat_le r.register register && nat_lt register (r.register + r.size)))) resources

-- a handle has its resource's class, space and kind, and its own register
abbrev pub handle_at : ℕ → Resource → BufferHandle
handle_at register r = record {
  slot = record { class = r.class; space = r.space; register = register };
  kind = r.kind;
}

-- CreateHandle: i8 class, i32 number in the class, i32 register, i1 whether the register isn't uniform
abbrev pub create_handle_content : Setting → State → List ℕ → Option Content
create_handle_content s state (class ∷ id ∷ register ∷ is_varying ∷ []) =
    need (number_in state 8 class) (λ class_number.
    need (number_in state 32 id) (λ id_number.
    need (number_in state 32 register) (λ register_number.
    need (number_in state 1 is_varying) (λ _.
    Some (a_handle (option_map (handle_at register_number) (resource_at s.resources class_number id_number register_number)))))))
create_handle_content s state _ = None

-- the offset of an access: 0 in a raw buffer, whose index is the byte address and whose offset operand
-- is undef
abbrev pub offset_in : State → (kind operand : ℕ) → Option ℕ
offset_in state kind operand = if kind == raw_kind then Some 0 else number_in state 32 operand

-- how many words a mask takes, from the first on
abbrev pub mask_count : ℕ → Option ℕ
mask_count mask =
    if mask == 1 then Some 1 else (if mask == 3 then Some 2 else (if mask == 7 then Some 3 else (if mask == 15 then Some 4 else None)))

-- the words of so many operands, and 0 for each operand after them, which is undef
abbrev pub words_in : State → ℕ → List ℕ → Option (List ℕ)
words_in state zero operands = Some (map (λ _. 0) operands)
words_in state (suc count) [] = None
words_in state (suc count) (operand ∷ operands) =
    first_word (number_in state 32 operand) (words_in state count operands)
  where
    first_word : Option ℕ → Option (List ℕ) → Option (List ℕ)
    first_word (Some word) (Some words) = Some (word ∷ words)
    first_word _ _ = None

-- BufferStore: a handle, i32 index, i32 offset, four i32 words, i8 mask
abbrev pub buffer_store_event : State → List ℕ → Option Event
buffer_store_event state (handle ∷ index ∷ offset ∷ word_0 ∷ word_1 ∷ word_2 ∷ word_3 ∷ mask ∷ []) =
    need (buffer_in state handle) (λ buffer.
    need (number_in state 32 index) (λ index_number.
    need (offset_in state buffer.kind offset) (λ offset_number.
    need (number_in state 8 mask) (λ mask_number.
    need (mask_count mask_number) (λ count.
    need (words_in state count (word_0 ∷ word_1 ∷ word_2 ∷ word_3 ∷ [])) (λ words.
    Some (BufferStore buffer.slot index_number offset_number count words)))))))
buffer_store_event state _ = None

-- one case for each operation: it has a value, or asks an event
abbrev pub operation_turn : Operation → Setting → State → List ℕ → Turn
operation_turn create_handle s state args = given (create_handle_content s state args) (gives state)
operation_turn buffer_store s state args = given (buffer_store_event state args) (asks state)

-- a function with a body isn't an operation, so no call of it has a meaning
abbrev pub declared_name : Option Function → Option (List ℕ)
declared_name None = None
declared_name (Some f) = name_without_body f.name f.body
  where
    name_without_body : List ℕ → Option Body → Option (List ℕ)
    name_without_body name None = Some name
    name_without_body name (Some body) = None

-- the function's name and the opcode say which operation is called
abbrev pub operation_called : Setting → State → (function opcode : ℕ) → Option Operation
operation_called s state function opcode =
    need (declared_name (function_at s.m function)) (λ name.
    need (number_in state 32 opcode) (λ number. operation_of number name))

-- Call: the opcode is the first argument
abbrev pub call_turn : Setting → State → (function : ℕ) → List ℕ → Turn
call_turn s state function [] = is_wrong
call_turn s state function (opcode ∷ args) =
    given (operation_called s state function opcode) (λ operation. operation_turn operation s state args)
