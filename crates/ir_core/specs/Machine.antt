-- The machine that runs a body: its registers, where it stands, and what an instruction makes of it.
use Rattle.std.specs.Prelude.{ℕ, ◌+◌, List, filter, flat_map, take, length, ◌==◌, if◌then◌else◌, Option, Some, None, option_map, option_and_then, slice_get}
use Rattle.lane_core.specs.declared.event.Event.{Event}
use Rattle.lane_core.specs.declared.event.Reply.{Reply}
use Rattle.lane_core.specs.declared.event.Slot.{Slot}
use Rattle.lane_core.specs.declared.event.Asked.TheVariants.{Ended}
use Rattle.lane_core.specs.Lane.{Coordinates, Lane, Run, Exchange, first_exchange, standing, ask}
use Rattle.ir_core.specs.declared.module.Ty.{Ty}
use Rattle.ir_core.specs.declared.module.Ty.TheVariants.{Int}
use Rattle.ir_core.specs.declared.module.Const.{Const}
use Rattle.ir_core.specs.declared.module.Function.{Function}
use Rattle.ir_core.specs.declared.module.Module.{Module}
use Rattle.ir_core.specs.declared.instruction.Body.{Body}
use Rattle.ir_core.specs.Metadata.{Resource}
use Rattle.ir_core.specs.Values.{Value, constant_value, module_values, body_values, parameters, has_value, integer_of}

-- what a handle stands for: a buffer's slot, and the kind of its resource
pub record BufferHandle : Type 0 where
  pub slot : Slot
  pub kind : ℕ

-- what a register holds: an integer of a width, or a handle, which may be without a resource
pub data Content : Type 0 where
  a_number : (width number : ℕ) → Content
  a_handle : Option BufferHandle → Content

-- registers by value number; none where the value isn't defined, or is undef
abbrev pub Registers : Type 0
Registers = ℕ → Option Content

-- what a body runs in: its module, the resources and the threads of its metadata, and the lane
pub record Setting : Type 0 where
  pub m : Module
  pub function : Function
  pub body : Body
  pub resources : List Resource
  pub threads : Coordinates
  pub lane : Lane

-- where the machine stands: the block and the place of the next instruction in it, the number of the
-- next value, the block that control came from, the registers, and what was asked
pub record State : Type 0 where
  pub block : ℕ
  pub place : ℕ
  pub next : ℕ
  pub came_from : Option ℕ
  pub registers : Registers
  pub exchange : Exchange

-- what the next instruction does: it has no meaning, the run stands at it, or the machine goes on
pub data Turn : Type 0 where
  is_wrong : Turn
  stands : Run → Turn
  goes_on : State → Turn

-- registers with one value set
abbrev pub with_register : Registers → ℕ → Content → Registers
with_register registers number content = λ n. if n == number then Some content else registers n

-- the content of a constant: the number of an integer; undef and constants of other types have none
abbrev pub constant_content : Option Ty → Const → Option Content
constant_content (Some (Int width)) c = option_map (a_number width) (integer_of (Int width) c.value)
constant_content _ c = None

-- what a value holds before the body runs
abbrev pub content_before : List Ty → Value → Option Content
content_before types (constant_value c) = constant_content (slice_get types c.ty) c
content_before types _ = None

abbrev pub first_registers : List Ty → List Value → Registers
first_registers types values = λ n. option_and_then (content_before types) (slice_get values n)

-- the number of the first value of a block
abbrev pub first_value : Module → Function → Body → ℕ → ℕ
first_value m f body block =
    length (module_values m) + (length (parameters m f) + (length body.consts + length (filter (has_value m) (flat_map (λ b. b.insts) (take block body.blocks)))))

-- the machine at the start of block 0
abbrev pub first_state : Setting → List Reply → State
first_state s replies = record {
  block = 0;
  place = 0;
  next = first_value s.m s.function s.body 0;
  came_from = None;
  registers = first_registers s.m.types (body_values s.m s.function s.body);
  exchange = first_exchange replies;
}

-- goes on with what was read, if it is there
abbrev pub need : {A B : Type 0} → Option A → (A → Option B) → Option B
need None go = None
need (Some a) go = go a

-- what an instruction does with what it read; without it the instruction has no meaning
abbrev pub given : {A : Type 0} → Option A → (A → Turn) → Turn
given None go = is_wrong
given (Some a) go = go a

abbrev pub number_of_width : ℕ → Content → Option ℕ
number_of_width width (a_number w number) = if w == width then Some number else None
number_of_width width (a_handle handle) = None

-- the number that an operand holds, which must be of a width
abbrev pub number_in : State → (width operand : ℕ) → Option ℕ
number_in state width operand = option_and_then (number_of_width width) (state.registers operand)

abbrev pub buffer_of : Content → Option BufferHandle
buffer_of (a_number width number) = None
buffer_of (a_handle handle) = handle

-- the buffer of the handle that an operand holds, which must have a resource
abbrev pub buffer_in : State → ℕ → Option BufferHandle
buffer_in state operand = option_and_then buffer_of (state.registers operand)

-- past an instruction with a value
abbrev pub gives : State → Content → Turn
gives state content = goes_on record state {
  place = state.place + 1;
  next = state.next + 1;
  registers = with_register state.registers state.next content;
}

-- past an instruction without a value that asks an event, once its reply is there
abbrev pub asks : State → Event → Turn
asks state event =
    ask stands event state.exchange (λ reply exchange. goes_on record state { place = state.place + 1; exchange = exchange })

-- the run ends
abbrev pub ends : State → Turn
ends state = stands (standing state.exchange Ended)
