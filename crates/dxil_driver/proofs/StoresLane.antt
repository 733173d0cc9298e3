-- The lane of an emitted module is that of its stores.
use Rattle.std.proofs.Common.{◌≡◌, ℕ, zero, suc, ◌+◌, ◌-◌, ◌^◌, ◌<◌, ◌≤◌, List, [], ◌∷◌, ◌++◌, length, map, Option, Some, None, refl, sym, ap, ◌∙◌, subst, arith}
use Rattle.std.proofs.lemmas.List.{length-map}
use Rattle.std.specs.Prelude.{pos, negsuc, slice_get, option_map, option_and_then, codes, All, nat_lt, cond, Bool, true, false}
use Rattle.std.proofs.lemmas.Option.{slice_get_within, slice_get-map, get_or_from_slice_get}
use Rattle.lane_core.specs.declared.event.Reply.{Reply}
use Rattle.lane_core.specs.Lane.{Lane, asking, asking_after}
use Rattle.lane_core.specs.SameLane.{SameLane}
use Rattle.lane_core.proofs.Follows.{Follows, same_by_following}
use Rattle.ir_core.specs.declared.module.Module.{Module}
use Rattle.ir_core.specs.declared.instruction.Body.{Body}
use Rattle.ir_core.specs.declared.instruction.Inst.{Inst}
use Rattle.ir_core.specs.declared.instruction.Inst.TheVariants.{Ret}
use Rattle.ir_core.specs.Operations.{buffer_store as buffer_store_operation}
use Rattle.ir_core.specs.Machine.{BufferHandle, a_number, a_handle, Registers, Setting, State, first_state, first_registers, first_value, with_register, given, gives, asks, content_before}
use Rattle.ir_core.specs.Calls.{declared_name, operation_called, buffer_store_event, operation_turn}
use Rattle.ir_core.specs.ModuleLane.{instruction_turn, instruction_at, next_turn, run, module_lane}
use Rattle.ir_core.specs.Metadata.{resources_of, threads_of}
use Rattle.ir_core.specs.Values.{constant_value, body_values, function_at, low_bits}
use Rattle.ir_core.proofs.Runs.{StandsAt, run_stands, run_goes, run_asks, past_event, turn_at, other_register, same_register, slice_get_drop, slice_get_front}
use Rattle.ir_core.proofs.SteadyMachine.{steady_module}
use Rattle.dxil_driver.specs.declared.stores.LiteralStore.{LiteralStore}
use Rattle.dxil_driver.specs.LiteralLane.{output_slot, store_event, literal_stores}
use Rattle.dxil_driver.specs.Emitted.{emitted_module, signed_word, word_constant, buffer_store, emitted_body, entry_function, PicksStore, Picks}

-- the handle of the buffer
abbrev output_buffer : BufferHandle
output_buffer = record { slot = output_slot; kind = 11 }

-- a word read back from the signed number that holds it
kept_by : (w : ℕ) (small : Bool) → nat_lt w (2 ^ 31) ≡ small → w < 2 ^ 32 → low_bits 32 (cond small (pos w) (negsuc (2 ^ 32 - 1 - w))) ≡ w
kept_by w true e h = omega arith
kept_by w false e h = omega arith

pub word_kept : (w : ℕ) → w < 2 ^ 32 → low_bits 32 (signed_word w) ≡ w
word_kept w h = kept_by w (nat_lt w (2 ^ 31)) refl h

-- what the stores read: the opcode, the mask, the handle and the words
record Ready (words : List ℕ) (handle : ℕ) (registers : Registers) : Type 0 where
  opcode : registers 16 ≡ Some (a_number 32 69)
  mask : registers 14 ≡ Some (a_number 8 1)
  buffer : registers handle ≡ Some (a_handle (Some output_buffer))
  word : (j w : ℕ) → slice_get words j ≡ Some w → registers (18 + j) ≡ Some (a_number 32 w)

-- the module's value 2 is the function that stores to a buffer
abbrev Stores : Setting → Type 0
Stores s = declared_name (function_at s.m 2) ≡ Some (codes "dx.op.bufferStore.i32")

called_store : (s : Setting) (state : State) → Stores s → state.registers 16 ≡ Some (a_number 32 69) → operation_called s state 2 16 ≡ Some buffer_store_operation
called_store s state f r = rw (f, r) refl

event_of : (state : State) (words : List ℕ) (handle : ℕ) (pair : ℕ × ℕ) (store : LiteralStore) → Ready words handle state.registers → PicksStore words pair store → buffer_store_event state (handle ∷ (18 + pair.0) ∷ 17 ∷ (18 + pair.1) ∷ 17 ∷ 17 ∷ 17 ∷ 14 ∷ []) ≡ Some (store_event store)
event_of state words handle pair store ready picks =
    rw (ready.buffer, ready.word pair.0 store.address picks.0, ready.mask, ready.word pair.1 store.word picks.1) refl

store_turn : (s : Setting) (state : State) (words : List ℕ) (handle : ℕ) (pair : ℕ × ℕ) (store : LiteralStore) → Stores s → Ready words handle state.registers → PicksStore words pair store → instruction_turn s state (Some (buffer_store handle pair)) ≡ asks state (store_event store)
store_turn s state words handle pair store f ready picks =
    let args : List ℕ = handle ∷ (18 + pair.0) ∷ 17 ∷ (18 + pair.1) ∷ 17 ∷ 17 ∷ 17 ∷ 14 ∷ [] in
    ap (λ o. given o (λ operation. operation_turn operation s state args)) (called_store s state f ready.opcode) ∙ ap (λ o. given o (asks state)) (event_of state words handle pair store ready picks)

-- the stores from here on, and the end
stores_run : (s : Setting) (words : List ℕ) (handle : ℕ) → Stores s → (pairs : List (ℕ × ℕ)) (stores : List LiteralStore) → Picks words pairs stores → (state : State) → StandsAt s.body state.block state.place (map (buffer_store handle) pairs ++ Ret ∷ []) → Ready words handle state.registers → (n : ℕ) → length pairs ≤ n → run s n state ≡ Some (asking_after (map store_event stores) state.exchange)
stores_run s words handle f [] [] picks state at ready n le = run_stands s state _ (turn_at s state Ret at.0) n
stores_run s words handle f [] (store ∷ stores) picks state at ready n le = absurd picks
stores_run s words handle f (pair ∷ pairs) [] picks state at ready n le = absurd picks
stores_run s words handle f (pair ∷ pairs) (store ∷ stores) picks state at ready zero le = absurd (omega arith)
stores_run s words handle f (pair ∷ pairs) (store ∷ stores) picks state at ready (suc n) le =
    run_asks s state (store_event store) (map store_event stores) (turn_at s state (buffer_store handle pair) at.0 ∙ store_turn s state words handle pair store f ready picks.0) n (λ exchange. stores_run s words handle f pairs stores picks.1 (past_event state exchange) at.1 ready n (omega arith))

-- the instructions of a body's block stand in it
stands_by : (body : Body) (block place : ℕ) (insts : List Inst) → ((k : ℕ) → instruction_at body block (place + k) ≡ slice_get insts k) → StandsAt body block place insts
stands_by body block place [] gets = tt
stands_by body block place (inst ∷ insts) gets =
    let here : place ≡ place + 0 = omega arith in
    (ap (instruction_at body block) here ∙ gets 0, stands_by body block (place + 1) insts (λ k. let e : place + 1 + k ≡ place + suc k = omega arith in ap (instruction_at body block) e ∙ gets (suc k)))

module _ (entry name threads words : List ℕ) (pairs : List (ℕ × ℕ)) (lane : Lane) where
  abbrev the_module : Module
  unfolding emitted_module
  the_module = emitted_module entry (Some name) threads words pairs

  abbrev the_body : Body
  the_body = emitted_body (Some name) words pairs

  abbrev the_setting : Setting
  the_setting = record {
    m = the_module;
    function = entry_function entry the_body;
    body = the_body;
    resources = resources_of the_module;
    threads = threads_of the_module;
    lane = lane;
  }

  stores_name : Stores the_setting
  unfolding emitted_module
  stores_name = refl

  handle_resource : resources_of the_module ≡ record { class = 1; id = 0; space = 0; register = 0; size = 1; kind = 11; stride = 1 } ∷ []
  unfolding emitted_module
  handle_resource = refl

  abbrev before : Registers
  unfolding emitted_module
  before = first_registers the_module.types (body_values the_module (entry_function entry the_body) the_body)

  before_opcode : before 16 ≡ Some (a_number 32 69)
  unfolding emitted_module
  before_opcode = refl

  before_mask : before 14 ≡ Some (a_number 8 1)
  unfolding emitted_module
  before_mask = refl

  next_is : first_value the_module (entry_function entry the_body) the_body 0 ≡ 18 + length words
  unfolding emitted_module
  next_is = omega (arith, length-map words word_constant)

  before_word : All (λ w. w < 2 ^ 32) words → (j w : ℕ) → slice_get words j ≡ Some w → before (18 + j) ≡ Some (a_number 32 w)
  unfolding emitted_module
  before_word fit j w e =
      let values = body_values the_module (entry_function entry the_body) the_body in
      let mapped : slice_get (map word_constant words) j ≡ Some (word_constant w) = slice_get-map word_constant words j ∙ ap (option_map word_constant) e in
      let held : slice_get (map constant_value (map word_constant words)) j ≡ Some (constant_value (word_constant w)) = slice_get-map constant_value (map word_constant words) j ∙ ap (option_map constant_value) mapped in
      let at : slice_get values (18 + j) ≡ Some (constant_value (word_constant w)) = slice_get_drop values 18 j ∙ slice_get_front (map constant_value (map word_constant words)) _ j _ held in
      ap (option_and_then (content_before the_module.types)) at ∙ ap (λ n. Some (a_number 32 n)) (word_kept w (subst (λ x. x < 2 ^ 32) (get_or_from_slice_get words j w w e) (fit j w (slice_get_within words j w e))))

  abbrev after_handle : Registers
  unfolding emitted_module
  after_handle = with_register before (first_value the_module (entry_function entry the_body) the_body 0) (a_handle (Some output_buffer))

  ready_after : All (λ w. w < 2 ^ 32) words → Ready words (18 + length words) after_handle
  unfolding emitted_module
  ready_after fit = record {
    opcode = other_register before _ 16 _ (λ e. omega (arith, next_is, e)) ∙ before_opcode;
    mask = other_register before _ 14 _ (λ e. omega (arith, next_is, e)) ∙ before_mask;
    buffer = subst (λ k. after_handle k ≡ Some (a_handle (Some output_buffer))) next_is (same_register before (first_value the_module (entry_function entry the_body) the_body 0) (a_handle (Some output_buffer)));
    word = λ j w e. other_register before _ (18 + j) _ (λ h. omega (arith, next_is, h, slice_get_within words j w e)) ∙ before_word fit j w e;
  }

  handle_turn : (replies : List Reply) → next_turn the_setting (first_state the_setting replies) ≡ gives (first_state the_setting replies) (a_handle (Some output_buffer))
  unfolding emitted_module
  handle_turn replies = refl

  stores_stand : StandsAt the_body 0 1 (map (buffer_store (18 + length words)) pairs ++ Ret ∷ [])
  stores_stand = stands_by the_body 0 1 _ (λ k. let e : 1 + k ≡ suc k = omega arith in ap (instruction_at the_body 0) e)

  module_run : All (λ w. w < 2 ^ 32) words → (stores : List LiteralStore) → Picks words pairs stores → (replies : List Reply) (n : ℕ) → length pairs ≤ n → run the_setting (suc n) (first_state the_setting replies) ≡ Some (asking (map store_event stores) replies)
  unfolding emitted_module
  module_run fit stores picks replies n le =
      run_goes the_setting (first_state the_setting replies) _ (handle_turn replies) n ∙ stores_run the_setting words (18 + length words) stores_name pairs stores picks _ stores_stand (ready_after fit) n le

buffer_follows : (entry name threads words : List ℕ) (pairs : List (ℕ × ℕ)) (stores : List LiteralStore) → All (λ w. w < 2 ^ 32) words → Picks words pairs stores → Follows (literal_stores stores) (module_lane (emitted_module entry (Some name) threads words pairs))
unfolding emitted_module
buffer_follows entry name threads words pairs stores fit picks =
    record { by = λ n lane replies. (asking (map store_event stores) replies, suc (n + length pairs), omega arith, refl, module_run entry name threads words pairs lane fit stores picks replies (n + length pairs) (omega arith)) }

plain_run : (entry threads words : List ℕ) (pairs : List (ℕ × ℕ)) (n : ℕ) (lane : Lane) (replies : List Reply) → module_lane (emitted_module entry None threads words pairs) n lane replies ≡ Some (asking [] replies)
unfolding emitted_module
plain_run entry threads words pairs zero lane replies = refl
plain_run entry threads words pairs (suc n) lane replies = refl

plain_follows : (entry threads words : List ℕ) (pairs : List (ℕ × ℕ)) → Follows (literal_stores []) (module_lane (emitted_module entry None threads words pairs))
plain_follows entry threads words pairs =
    record { by = λ n lane replies. (asking [] replies, n, omega arith, refl, plain_run entry threads words pairs n lane replies) }

-- with a buffer the module's lane is that of the stores that the pairs stand for
pub buffer_lane : (entry name threads words : List ℕ) (pairs : List (ℕ × ℕ)) (stores : List LiteralStore) → All (λ w. w < 2 ^ 32) words → Picks words pairs stores → SameLane (literal_stores stores) (module_lane (emitted_module entry (Some name) threads words pairs))
buffer_lane entry name threads words pairs stores fit picks =
    same_by_following (literal_stores stores) (module_lane (emitted_module entry (Some name) threads words pairs)) (buffer_follows entry name threads words pairs stores fit picks) (steady_module (emitted_module entry (Some name) threads words pairs))

-- without a buffer it asks nothing
pub plain_lane : (entry threads words : List ℕ) (pairs : List (ℕ × ℕ)) → SameLane (literal_stores []) (module_lane (emitted_module entry None threads words pairs))
plain_lane entry threads words pairs =
    same_by_following (literal_stores []) (module_lane (emitted_module entry None threads words pairs)) (plain_follows entry threads words pairs) (steady_module (emitted_module entry None threads words pairs))

-- the module of stores, of which there are none without a buffer, has their lane
pub emitted_lane : (entry : List ℕ) (buffer : Option (List ℕ)) (threads words : List ℕ) (pairs : List (ℕ × ℕ)) (stores : List LiteralStore) → All (λ w. w < 2 ^ 32) words → Picks words pairs stores → (buffer ≡ None → stores ≡ []) → SameLane (literal_stores stores) (module_lane (emitted_module entry buffer threads words pairs))
emitted_lane entry None threads words pairs stores fit picks none =
    subst (λ l. SameLane (literal_stores l) (module_lane (emitted_module entry None threads words pairs))) (sym (none refl)) (plain_lane entry threads words pairs)
emitted_lane entry (Some name) threads words pairs stores fit picks none =
    buffer_lane entry name threads words pairs stores fit picks
