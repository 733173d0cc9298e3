-- Runs of the module's machine, step by step.
use Rattle.std.proofs.Common.{◌≡◌, ℕ, zero, suc, ◌+◌, List, [], ◌∷◌, ◌++◌, drop, Some, refl, ap, ◌∙◌, arith}
use Rattle.std.specs.Prelude.{slice_get}
use Rattle.lane_core.specs.declared.event.Event.{Event}
use Rattle.lane_core.specs.declared.event.Reply.{Reply}
use Rattle.lane_core.specs.declared.event.Asked.TheVariants.{Goes}
use Rattle.lane_core.specs.Lane.{Run, Exchange, standing, ask_with, asking_after}
use Rattle.ir_core.specs.declared.instruction.Body.{Body}
use Rattle.ir_core.specs.declared.instruction.Inst.{Inst}
use Rattle.ir_core.specs.Machine.{Content, Setting, State, stands, goes_on, asks, Registers, with_register}
use Rattle.ir_core.specs.ModuleLane.{instruction_turn, instruction_at, next_turn, after, run}
use Rattle.std.proofs.lemmas.Bool.{ne_eqb, eq-eqb}

-- the instructions stand in a block from a place on
abbrev pub StandsAt : Body → (block place : ℕ) → List Inst → Type 0
StandsAt body block place [] = Unit {0}
StandsAt body block place (inst ∷ insts) =
    (instruction_at body block place ≡ Some inst) × StandsAt body block (place + 1) insts

-- an instruction that the run stands at ends it at every bound
pub run_stands : (s : Setting) (state : State) (r : Run) → next_turn s state ≡ stands r → (n : ℕ) → run s n state ≡ Some r
run_stands s state r e zero = ap (λ t. after t (λ _. Some (standing state.exchange Goes))) e
run_stands s state r e (suc n) = ap (λ t. after t (run s n)) e

-- an instruction that goes on takes one of the bound
pub run_goes : (s : Setting) (state further : State) → next_turn s state ≡ goes_on further → (n : ℕ) → run s (suc n) state ≡ run s n further
run_goes s state further e n = ap (λ t. after t (run s n)) e

-- past an event: the state with the exchange that follows
abbrev pub past_event : State → Exchange → State
past_event state exchange = record state { place = state.place + 1; exchange = exchange }

asks_run : (s : Setting) (state : State) (n : ℕ) (event : Event) (events : List Event) (asked : List Event) (replies : List Reply) → ((exchange : Exchange) → run s n (past_event state exchange) ≡ Some (asking_after events exchange)) → after (ask_with stands event asked replies (λ _ exchange. goes_on (past_event state exchange))) (run s n) ≡ Some (ask_with (λ r. r) event asked replies (λ _ exchange. asking_after events exchange))
asks_run s state n event events asked [] rest = refl
asks_run s state n event events asked (reply ∷ replies) rest = rest _

-- an instruction that asks an event, followed by a run that asks further ones
pub run_asks : (s : Setting) (state : State) (event : Event) (events : List Event) → next_turn s state ≡ asks state event → (n : ℕ) → ((exchange : Exchange) → run s n (past_event state exchange) ≡ Some (asking_after events exchange)) → run s (suc n) state ≡ Some (asking_after (event ∷ events) state.exchange)
run_asks s state event events e n rest =
    ap (λ t. after t (run s n)) e ∙ asks_run s state n event events state.exchange.asked state.exchange.replies rest

-- the turn of an instruction that stands there
pub turn_at : (s : Setting) (state : State) (inst : Inst) → instruction_at s.body state.block state.place ≡ Some inst → next_turn s state ≡ instruction_turn s state (Some inst)
turn_at s state inst e = ap (instruction_turn s state) e

-- a register that isn't the one set
pub other_register : (registers : Registers) (number n : ℕ) (content : Content) → (n ≡ number → ⊥) → with_register registers number content n ≡ registers n
other_register registers number n content differs = rw (ne_eqb n number differs) refl

pub same_register : (registers : Registers) (number : ℕ) (content : Content) → with_register registers number content number ≡ Some content
same_register registers number content = rw (eq-eqb number number refl) refl

-- a list from a place on
pub slice_get_drop : {A : Type 0} (xs : List A) (k j : ℕ) → slice_get xs (k + j) ≡ slice_get (drop k xs) j
slice_get_drop xs zero j = let e : zero + j ≡ j = omega arith in ap (slice_get xs) e
slice_get_drop [] (suc k) j = refl
slice_get_drop (x ∷ xs) (suc k) j =
    let e : suc k + j ≡ suc (k + j) = omega arith in
    ap (slice_get (x ∷ xs)) e ∙ slice_get_drop xs k j

-- an element of the front of a list
pub slice_get_front : {A : Type 0} (xs ys : List A) (j : ℕ) (x : A) → slice_get xs j ≡ Some x → slice_get (xs ++ ys) j ≡ Some x
slice_get_front [] ys j x e = absurd (cc)
slice_get_front (y ∷ xs) ys zero x e = e
slice_get_front (y ∷ xs) ys (suc j) x e = slice_get_front xs ys j x e
