-- What a lane of a module does: a machine runs the first body, instruction by instruction (LLVM Language
-- Reference, "Instruction Reference").
use Rattle.std.specs.Prelude.{ℕ, zero, suc, List, [], ◌∷◌, Option, Some, None, option_and_then, slice_get}
use Rattle.lane_core.specs.declared.event.Asked.TheVariants.{Goes}
use Rattle.lane_core.specs.Lane.{Coordinates, LaneMeaning, Run, standing}
use Rattle.ir_core.specs.declared.module.Function.{Function}
use Rattle.ir_core.specs.declared.module.Module.{Module}
use Rattle.ir_core.specs.declared.instruction.Body.{Body}
use Rattle.ir_core.specs.declared.instruction.Inst.{Inst}
use Rattle.ir_core.specs.declared.instruction.Inst.TheVariants.{Bin, Cast, Cmp, Select, Phi, Alloca, Gep, Load, Store, Extract, Call, Rmw, CmpXchg, Jump, Branch, Ret}
use Rattle.ir_core.specs.Metadata.{Resource, resources_of, threads_of}
use Rattle.ir_core.specs.Machine.{Setting, State, Turn, is_wrong, stands, goes_on, first_state, ends}
use Rattle.ir_core.specs.Calls.{call_turn}
use Rattle.ir_core.specs.Values.{bodies}

-- The instructions that no accepted kernel has yet are without a meaning: each of these definitions
-- gets its own.

abbrev pub bin_turn : Setting → State → (op left right : ℕ) → Turn
bin_turn s state op left right = is_wrong

abbrev pub cast_turn : Setting → State → (op value ty : ℕ) → Turn
cast_turn s state op value ty = is_wrong

abbrev pub cmp_turn : Setting → State → (op left right : ℕ) → Turn
cmp_turn s state op left right = is_wrong

abbrev pub select_turn : Setting → State → (first second cond : ℕ) → Turn
select_turn s state first second cond = is_wrong

-- all phis at the head of the block read together, and count as one instruction
abbrev pub phis_turn : Setting → State → Turn
phis_turn s state = is_wrong

abbrev pub alloca_turn : Setting → State → (ty count align : ℕ) → Turn
alloca_turn s state ty count align = is_wrong

abbrev pub gep_turn : Setting → State → (ty base : ℕ) → List ℕ → Turn
gep_turn s state ty base indexes = is_wrong

abbrev pub load_turn : Setting → State → (ty from align : ℕ) → Turn
load_turn s state ty from align = is_wrong

abbrev pub store_turn : Setting → State → (to value align : ℕ) → Turn
store_turn s state to value align = is_wrong

abbrev pub extract_turn : Setting → State → (value index : ℕ) → Turn
extract_turn s state value index = is_wrong

abbrev pub rmw_turn : Setting → State → (op to value : ℕ) → Turn
rmw_turn s state op to value = is_wrong

abbrev pub compare_exchange_turn : Setting → State → (to compare value : ℕ) → Turn
compare_exchange_turn s state to compare value = is_wrong

abbrev pub jump_turn : Setting → State → (target : ℕ) → Turn
jump_turn s state target = is_wrong

abbrev pub branch_turn : Setting → State → (cond first second : ℕ) → Turn
branch_turn s state cond first second = is_wrong

-- one case for each instruction; where none stands there is no meaning
abbrev pub instruction_turn : Setting → State → Option Inst → Turn
instruction_turn s state None = is_wrong
instruction_turn s state (Some (Bin op left right)) = bin_turn s state op left right
instruction_turn s state (Some (Cast op value ty)) = cast_turn s state op value ty
instruction_turn s state (Some (Cmp op left right)) = cmp_turn s state op left right
instruction_turn s state (Some (Select first second cond)) = select_turn s state first second cond
instruction_turn s state (Some (Phi ty arms)) = phis_turn s state
instruction_turn s state (Some (Alloca ty count align)) = alloca_turn s state ty count align
instruction_turn s state (Some (Gep ty base indexes)) = gep_turn s state ty base indexes
instruction_turn s state (Some (Load ty from align)) = load_turn s state ty from align
instruction_turn s state (Some (Store to value align)) = store_turn s state to value align
instruction_turn s state (Some (Extract value index)) = extract_turn s state value index
instruction_turn s state (Some (Call function args)) = call_turn s state function args
instruction_turn s state (Some (Rmw op to value)) = rmw_turn s state op to value
instruction_turn s state (Some (CmpXchg to compare value)) = compare_exchange_turn s state to compare value
instruction_turn s state (Some (Jump target)) = jump_turn s state target
instruction_turn s state (Some (Branch cond first second)) = branch_turn s state cond first second
instruction_turn s state (Some Ret) = ends state

-- the instruction that the machine stands at
abbrev pub instruction_at : Body → (block place : ℕ) → Option Inst
instruction_at body block place = option_and_then (λ b. slice_get b.insts place) (slice_get body.blocks block)

abbrev pub next_turn : Setting → State → Turn
next_turn s state = instruction_turn s state (instruction_at s.body state.block state.place)

abbrev pub after : Turn → (State → Option Run) → Option Run
after is_wrong go = None
after (stands run) go = Some run
after (goes_on state) go = go state

-- the run of at most so many instructions. One that the run stands at isn't counted: a Ret, a fault, an
-- event without a reply
abbrev pub run : Setting → ℕ → State → Option Run
run s zero state = after (next_turn s state) (λ _. Some (standing state.exchange Goes))
run s (suc n) state = after (next_turn s state) (run s n)

-- the lane of the first function that has a body
abbrev pub body_lane : Module → List Resource → Coordinates → List (Function × Body) → LaneMeaning
body_lane m resources threads [] n lane replies = None
body_lane m resources threads (first ∷ rest) n lane replies =
    let s : Setting = record { m = m; function = first.0; body = first.1; resources = resources; threads = threads; lane = lane } in
    run s n (first_state s replies)

-- the lane of a module whose resources and threads are given, as before its metadata is there
abbrev pub lane_with : List Resource → Coordinates → Module → LaneMeaning
lane_with resources threads m = body_lane m resources threads (bodies m.functions)

-- the lane of a module, with the resources and the threads of its metadata
abbrev pub module_lane : Module → LaneMeaning
module_lane m = lane_with (resources_of m) (threads_of m) m
