-- A run of a module that is over stays over, and its events only grow.
use Rattle.std.proofs.Common.{◌≡◌, ℕ, zero, suc, ◌+◌, List, [], ◌∷◌, Option, Some, None, refl, subst}
use Rattle.lane_core.specs.declared.event.Event.{Event}
use Rattle.lane_core.specs.declared.event.Reply.{Reply}
use Rattle.lane_core.specs.declared.event.Asked.TheVariants.{Goes}
use Rattle.lane_core.specs.Lane.{Coordinates, Lane, Run, standing, ask_with}
use Rattle.lane_core.specs.SameLane.{IsPrefix}
use Rattle.lane_core.proofs.Follows.{GrowsTo, Steady, grows_refl, prefix_refl, prefix_trans}
use Rattle.ir_core.specs.declared.module.Function.{Function}
use Rattle.ir_core.specs.declared.module.Module.{Module}
use Rattle.ir_core.specs.declared.instruction.Body.{Body}
use Rattle.ir_core.specs.declared.instruction.Inst.{Inst}
use Rattle.ir_core.specs.declared.instruction.Inst.TheVariants.{Bin, Cast, Cmp, Select, Phi, Alloca, Gep, Load, Store, Extract, Call, Rmw, CmpXchg, Jump, Branch, Ret}
use Rattle.ir_core.specs.Metadata.{Resource, resources_of, threads_of}
use Rattle.ir_core.specs.Operations.{Operation, create_handle, buffer_store}
use Rattle.ir_core.specs.Machine.{Setting, State, Turn, is_wrong, stands, goes_on, first_state, given, gives, asks}
use Rattle.ir_core.specs.Calls.{create_handle_content, buffer_store_event, operation_turn, operation_called, call_turn}
use Rattle.ir_core.specs.ModuleLane.{instruction_turn, instruction_at, next_turn, after, run, body_lane, lane_with, module_lane}
use Rattle.ir_core.specs.Values.{bodies}

-- what an instruction leaves goes on from the events that were asked
abbrev TurnGrows : State → Turn → Type 0
TurnGrows state is_wrong = Unit {0}
TurnGrows state (stands r) = IsPrefix state.exchange.asked r.events
TurnGrows state (goes_on further) = IsPrefix state.exchange.asked further.exchange.asked

given_grows : {A : Type 0} (state : State) (o : Option A) (go : A → Turn) → ((a : A) → TurnGrows state (go a)) → TurnGrows state (given o go)
given_grows state None go each = tt
given_grows state (Some a) go each = each a

ask_grows : (state : State) (event : Event) (replies : List Reply) → TurnGrows state (ask_with stands event state.exchange.asked replies (λ reply exchange. goes_on record state { place = state.place + 1; exchange = exchange }))
ask_grows state event [] = prefix_refl state.exchange.asked
ask_grows state event (reply ∷ replies) = (event ∷ [], refl)

asks_grows : (state : State) (event : Event) → TurnGrows state (asks state event)
asks_grows state event = ask_grows state event state.exchange.replies

operation_grows : (operation : Operation) (s : Setting) (state : State) (args : List ℕ) → TurnGrows state (operation_turn operation s state args)
operation_grows create_handle s state args =
    given_grows state (create_handle_content s state args) (gives state) (λ _. prefix_refl state.exchange.asked)
operation_grows buffer_store s state args =
    given_grows state (buffer_store_event state args) (asks state) (asks_grows state)

call_grows : (s : Setting) (state : State) (function : ℕ) (args : List ℕ) → TurnGrows state (call_turn s state function args)
call_grows s state function [] = tt
call_grows s state function (opcode ∷ args) =
    given_grows state (operation_called s state function opcode) (λ operation. operation_turn operation s state args) (λ operation. operation_grows operation s state args)

instruction_grows : (s : Setting) (state : State) (inst : Option Inst) → TurnGrows state (instruction_turn s state inst)
instruction_grows s state None = tt
instruction_grows s state (Some (Bin op left right)) = tt
instruction_grows s state (Some (Cast op value ty)) = tt
instruction_grows s state (Some (Cmp op left right)) = tt
instruction_grows s state (Some (Select first second cond)) = tt
instruction_grows s state (Some (Phi ty arms)) = tt
instruction_grows s state (Some (Alloca ty count align)) = tt
instruction_grows s state (Some (Gep ty base indexes)) = tt
instruction_grows s state (Some (Load ty from align)) = tt
instruction_grows s state (Some (Store to value align)) = tt
instruction_grows s state (Some (Extract value index)) = tt
instruction_grows s state (Some (Call function args)) = call_grows s state function args
instruction_grows s state (Some (Rmw op to value)) = tt
instruction_grows s state (Some (CmpXchg to compare value)) = tt
instruction_grows s state (Some (Jump target)) = tt
instruction_grows s state (Some (Branch cond first second)) = tt
instruction_grows s state (Some Ret) = prefix_refl state.exchange.asked

turn_grows : (s : Setting) (state : State) → TurnGrows state (next_turn s state)
turn_grows s state = instruction_grows s state (instruction_at s.body state.block state.place)

not_some : (r : Run) (o : Option Run) → o ≡ None → o ≡ Some r → ⊥
not_some r o e h = cc

begins : (asked : List Event) (a b : Run) → Some a ≡ Some b → IsPrefix asked a.events → IsPrefix asked b.events
begins asked a b e p = subst (λ r. IsPrefix asked r.events) (let h : a ≡ b = cc in h) p

-- a run from here begins with what was asked, if it does so from the next state
after_begins : (state : State) (t : Turn) (go : State → Option Run) → TurnGrows state t → ((further : State) (r : Run) → IsPrefix state.exchange.asked further.exchange.asked → go further ≡ Some r → IsPrefix state.exchange.asked r.events) → (r : Run) → after t go ≡ Some r → IsPrefix state.exchange.asked r.events
after_begins state is_wrong go grows each r e = absurd (not_some r None refl e)
after_begins state (stands run) go grows each r e = begins state.exchange.asked run r e grows
after_begins state (goes_on further) go grows each r e = each further r grows e

run_begins : (s : Setting) (n : ℕ) (state : State) (r : Run) → run s n state ≡ Some r → IsPrefix state.exchange.asked r.events
run_begins s zero state r e =
    after_begins state (next_turn s state) (λ _. Some (standing state.exchange Goes)) (turn_grows s state) (λ further x p h. begins state.exchange.asked (standing state.exchange Goes) x h (prefix_refl state.exchange.asked)) r e
run_begins s (suc n) state r e =
    after_begins state (next_turn s state) (run s n) (turn_grows s state) (λ further x p h. prefix_trans state.exchange.asked further.exchange.asked x.events p (run_begins s n further x h)) r e

first_grows : (s : Setting) (state : State) (t : Turn) → TurnGrows state t → GrowsTo (after t (λ _. Some (standing state.exchange Goes))) (after t (run s zero))
first_grows s state is_wrong grows = refl
first_grows s state (stands r) grows = grows_refl (Some r)
first_grows s state (goes_on further) grows =
    (λ over. absurd (over refl), λ r e. prefix_trans state.exchange.asked further.exchange.asked r.events grows (run_begins s zero further r e))

next_grows : (t : Turn) (a b : State → Option Run) → ((state : State) → GrowsTo (a state) (b state)) → GrowsTo (after t a) (after t b)
next_grows is_wrong a b each = refl
next_grows (stands r) a b each = grows_refl (Some r)
next_grows (goes_on state) a b each = each state

run_grows : (s : Setting) (n : ℕ) (state : State) → GrowsTo (run s n state) (run s (suc n) state)
run_grows s zero state = first_grows s state (next_turn s state) (turn_grows s state)
run_grows s (suc n) state = next_grows (next_turn s state) (run s n) (run s (suc n)) (λ further. run_grows s n further)

body_grows : (m : Module) (resources : List Resource) (threads : Coordinates) (bs : List (Function × Body)) (n : ℕ) (lane : Lane) (replies : List Reply) → GrowsTo (body_lane m resources threads bs n lane replies) (body_lane m resources threads bs (suc n) lane replies)
body_grows m resources threads [] n lane replies = refl
body_grows m resources threads (b ∷ bs) n lane replies =
    let s : Setting = record { m = m; function = b.0; body = b.1; resources = resources; threads = threads; lane = lane } in
    run_grows s n (first_state s replies)

pub steady_lane : (resources : List Resource) (threads : Coordinates) (m : Module) → Steady (lane_with resources threads m)
steady_lane resources threads m =
    record { by = λ n lane replies. body_grows m resources threads (bodies m.functions) n lane replies }

pub steady_module : (m : Module) → Steady (module_lane m)
steady_module m = steady_lane (resources_of m) (threads_of m) m
