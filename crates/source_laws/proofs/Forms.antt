-- What a form does with the words of its operands, with further replies and no fewer turns of what it calls, and whatever
-- the words are that the private allocations of the lane start with.
use Rattle.std.proofs.Common.{◌≡◌, refl, subst, ℕ, suc, zero, Bool, List, [], ◌∷◌, Option, None, Some, take}
use Rattle.std.specs.Prelude.{if◌then◌else◌, slice_get, slice_index, slice_index_or, unwrap_or}
use Rattle.lane_core.specs.declared.event.AtomicKind.{AtomicKind}
use Rattle.lane_core.specs.declared.event.Event.TheVariants.{Barrier, Wave}
use Rattle.lane_core.specs.declared.event.Reply.{Reply}
use Rattle.lane_core.specs.declared.event.WaveKind.{WaveKind}
use Rattle.lane_core.specs.Lane.{Exchange, Lane}
use Rattle.lane_core.specs.SameLane.{IsPrefix}
use Rattle.lane_core.specs.Words.{wrapped}
use Rattle.lane_core.proofs.Follows.{prefix_refl}
use Rattle.hl_meaning.specs.declared.program.Copying.{Copying}
use Rattle.hl_meaning.specs.declared.program.Copying.TheVariants.{CopyOut}
use Rattle.hl_meaning.specs.declared.ty.Kind.{Kind}
use Rattle.hl_meaning.specs.Types.{Ty}
use Rattle.hl_meaning.specs.Trees.{Args, Form, Location, MaybeLocation, Target, atomic_form, binary_form, build_form, bytes_target, call_form, choose_form, convert_form, intrinsic_form, literal_form, method_form, more_args, no_expr, no_location, pick_form, place_arg, place_target, place_type, read_form, some_expr, some_location, type_of, unary_form, value_arg, write_form}
use Rattle.hl_source.specs.Operations.{binary_words, component_kind, converted}
use Rattle.hl_source.specs.State.{Callee, Context, Progress, State, after, goes_with}
use Rattle.hl_source.specs.Offsets.{place_of}
use Rattle.hl_source.specs.Intrinsics.{Work, barrier, from_all, from_one, from_three, from_two, of_lane, own_form, wave, wave_alone, wave_at, wave_four, wave_words, work_of, worked, works}
use Rattle.hl_source.specs.Expressions.{acts, assigned, assigns, atomic_original, calls, copies_in, copies_out, initial_parameters, no_callee, read_if, value_of_words, write_if}
use Rattle.source_laws.proofs.Continuing.{Continues, Continuing, continuing_after, continuing_asks, continuing_asks_word, continuing_each, continuing_gives, continuing_goes, continuing_of_variables, continuing_then, exchange_with, run_so_far}
use Rattle.source_laws.proofs.Places.{continuing_atomic_word, continuing_load_four, continuing_read_place, continuing_store_four, continuing_write_place}

-- functions

-- a function, and what it becomes
pub record ContinuingCallee (more : List Reply) (callee other : Callee) : Type 0 where
  pub continues : (parameters : List (List ℕ)) (x : Exchange) → Continues more (callee parameters x) (other parameters (exchange_with more x))
  pub grows : (parameters : List (List ℕ)) (x : Exchange) → IsPrefix x.asked (run_so_far (other parameters x)).events

-- functions, and what they become
abbrev pub ContinuingCallees : (more : List Reply) → (callees others : List Callee) → Type 0
ContinuingCallees more [] [] = Unit {0}
ContinuingCallees more (callee ∷ callees) (other ∷ others) = ContinuingCallee more callee other × ContinuingCallees more callees others
ContinuingCallees more _ _ = ⊥

continuing_no_callee : (more : List Reply) → ContinuingCallee more no_callee no_callee
continuing_no_callee more = record { continues = λ parameters x. refl; grows = λ parameters x. prefix_refl x.asked }

pub continuing_callee_at : (more : List Reply) (callees others : List Callee) → ContinuingCallees more callees others → (number : ℕ) →
    ContinuingCallee more (slice_index_or callees number no_callee) (slice_index_or others number no_callee)
continuing_callee_at more [] [] h number = continuing_no_callee more
continuing_callee_at more (callee ∷ callees) (other ∷ others) h zero = h.0
continuing_callee_at more (callee ∷ callees) (other ∷ others) h (suc number) = continuing_callee_at more callees others h.1 number
continuing_callee_at more [] (other ∷ others) h number = absurd h
continuing_callee_at more (callee ∷ callees) [] h number = absurd h

-- the same, with other functions and a lane that differs in what its private allocations start with
abbrev pub beside : Context → (others : List Callee) → (start : List ℕ) → Context
beside c others start = record c { callees = others; lane = record c.lane { start = start } }

-- intrinsic functions

-- what an intrinsic function tells of two lanes is the same
abbrev pub TellsAlike : (lane other : Lane) → Work → Type 0
TellsAlike lane other (of_lane tell) = tell lane ≡ tell other
TellsAlike lane other _ = Unit {0}

abbrev pub AllTellAlike : (lane other : Lane) → List Work → Type 0
AllTellAlike lane other [] = Unit {0}
AllTellAlike lane other (work ∷ rest) = TellsAlike lane other work × AllTellAlike lane other rest

tells_alike_at : (lane other : Lane) (list : List Work) → AllTellAlike lane other list → (number : ℕ) → TellsAlike lane other (unwrap_or (slice_get list number) own_form)
tells_alike_at lane other [] h number = tt
tells_alike_at lane other (work ∷ rest) h zero = h.0
tells_alike_at lane other (work ∷ rest) h (suc number) = tells_alike_at lane other rest h.1 number

all_tell_alike : (lane : Lane) (start : List ℕ) → AllTellAlike lane (record lane { start = start }) works
all_tell_alike lane start = assumption

-- calls

-- what a call does behind the body, in a function with these variables, where those of the parameters are left
abbrev pub behind_body : Context → Args → (operands variables : List (List ℕ)) → (result : List ℕ) → (parameters : List (List ℕ)) → State → Progress (List ℕ)
behind_body c args operands variables result parameters s =
    after (copies_out c args operands parameters (record { variables = variables; exchange = s.exchange })) (λ _ s'. goes_with result s')

-- a call in a function with these variables
abbrev pub call_with : Context → Args → Callee → (operands variables : List (List ℕ)) → State → Progress (List ℕ)
call_with c args callee operands variables s =
    after (callee (initial_parameters operands) s.exchange) (λ result s'. behind_body c args operands variables result s'.variables s')

module _ (more : List Reply) where
  continuing_wave_words : (kind : WaveKind) (lane : ℕ) (result : Kind) (words : List ℕ) → Continuing more (wave_words kind lane result words) (wave_words kind lane result words)
  continuing_wave_words kind lane result words =
      continuing_each more _ _ (λ word. continuing_then more _ _ _ (continuing_asks_word more (Wave kind word lane))) words

  continuing_worked : (c : Context) (others : List Callee) (start : List ℕ) (work : Work) → TellsAlike c.lane (record c.lane { start = start }) work → (ty : Ty) (args : List (List ℕ)) →
      Continuing more (worked c work ty args) (worked (beside c others start) work ty args)
  continuing_worked c others start (of_lane tell) e ty [] =
      subst (λ told. Continuing more (worked c (of_lane tell) ty []) (λ s. goes_with (wrapped told ∷ []) s)) e (continuing_goes more _)
  continuing_worked c others start (barrier mode) e ty [] = continuing_then more _ _ _ (continuing_asks more (Barrier mode))
  continuing_worked c others start (wave kind) e ty (xs ∷ []) = continuing_wave_words _ _ _ xs
  continuing_worked c others start (wave_at kind) e ty (xs ∷ lane ∷ []) = continuing_wave_words _ _ _ xs
  continuing_worked c others start (wave_alone kind) e ty [] = continuing_wave_words _ _ _ (0 ∷ [])
  continuing_worked c others start (wave_four kind) e ty (xs ∷ []) = continuing_then more _ _ _ (continuing_asks more (Wave kind (slice_index xs 0) 0))
  continuing_worked c others start (from_one f) e ty (xs ∷ []) = continuing_goes more _
  continuing_worked c others start (from_two f) e ty (xs ∷ ys ∷ []) = continuing_goes more _
  continuing_worked c others start (from_three f) e ty (xs ∷ ys ∷ zs ∷ []) = continuing_goes more _
  continuing_worked c others start (from_all judge) e ty (xs ∷ []) = continuing_goes more _
  continuing_worked c others start work e ty args = continuing_goes more []

  -- calls

  pub continuing_copies_in : (c : Context) (passing : Copying) (place : Location) (indexes : List ℕ) → Continuing more (copies_in c passing place indexes) (copies_in c passing place indexes)
  continuing_copies_in c CopyOut place indexes = continuing_goes more _
  continuing_copies_in c passing place indexes = continuing_read_place more c place indexes

  continuing_copies_out : (c : Context) (args : Args) (operands parameters : List (List ℕ)) → Continuing more (copies_out c args operands parameters) (copies_out c args operands parameters)
  continuing_copies_out c (more_args (place_arg place) rest) (indexes ∷ initial ∷ operands) (words ∷ parameters) =
      continuing_after more _ _ _ _ (continuing_write_place more c place indexes (value_of_words c (place_type place) words)) (λ _. continuing_copies_out c rest operands parameters)
  continuing_copies_out c (more_args (value_arg value) rest) (indexes ∷ initial ∷ operands) (words ∷ parameters) = continuing_copies_out c rest operands parameters
  continuing_copies_out c args operands parameters = continuing_goes more []

  -- a part that runs with other variables
  continuing_with_variables : {A : Type 0} (variables : List (List ℕ)) (part other : State → Progress A) → Continuing more part other →
      Continuing more (λ s. part (record { variables = variables; exchange = s.exchange })) (λ s. other (record { variables = variables; exchange = s.exchange }))
  continuing_with_variables variables part other h = record {
    continues = λ s. h.continues (record { variables = variables; exchange = s.exchange });
    grows = λ s. h.grows (record { variables = variables; exchange = s.exchange });
  }

  continuing_calls : (c : Context) (args : Args) (callee other : Callee) → ContinuingCallee more callee other → (operands : List (List ℕ)) →
      Continuing more (calls c callee args operands) (calls c other args operands)
  continuing_calls c args callee other h operands =
      continuing_of_variables more (call_with c args callee operands) (call_with c args other operands) (λ variables.
      continuing_after more _ _ _ _ the_body (λ result. continuing_of_variables more (behind_body c args operands variables result) (behind_body c args operands variables result) (λ parameters.
      continuing_then more _ _ (λ _. result) (continuing_with_variables variables (copies_out c args operands parameters) (copies_out c args operands parameters) (continuing_copies_out c args operands parameters)))))
    where
      the_body : Continuing more (λ s. callee (initial_parameters operands) s.exchange) (λ s. other (initial_parameters operands) s.exchange)
      the_body = record { continues = λ s. h.continues (initial_parameters operands) s.exchange; grows = λ s. h.grows (initial_parameters operands) s.exchange }

  -- assignments

  continuing_read_if : (c : Context) (op : Option ℕ) (place : Location) (indexes : List ℕ) → Continuing more (read_if c op place indexes) (read_if c op place indexes)
  continuing_read_if c None place indexes = continuing_goes more []
  continuing_read_if c (Some op) place indexes = continuing_read_place more c place indexes

  continuing_assigned : (op : Option ℕ) (common to : Ty) (before words : List ℕ) → Continuing more (assigned op common to before words) (assigned op common to before words)
  continuing_assigned None common to before words = continuing_goes more words
  continuing_assigned (Some op) common to before words =
      continuing_then more _ _ (converted common to) (continuing_gives more (binary_words op (component_kind common) (converted to common before) words))

  continuing_assigns : (c : Context) (to : Location) (op : Option ℕ) (common : Ty) (old : Bool) (indexes words : List ℕ) →
      Continuing more (assigns c to op common old indexes words) (assigns c to op common old indexes words)
  continuing_assigns c to op common old indexes words =
      continuing_after more _ _ _ _ (continuing_read_if c op to indexes) (λ before.
      continuing_after more _ _ _ _ (continuing_assigned op common (place_type to) before words) (λ written.
      continuing_then more _ _ (λ _. if old then before else written) (continuing_write_place more c to indexes written)))

  -- atomic operations

  continuing_atomic_original : (c : Context) (target : Target) (kind : Option AtomicKind) (indexes : List ℕ) (compare word : ℕ) →
      Continuing more (atomic_original c target kind indexes compare word) (atomic_original c target kind indexes compare word)
  continuing_atomic_original c (place_target place) kind indexes compare word =
      continuing_atomic_word more c (place_of c place indexes).holder (place_of c place indexes).reached.offset kind compare word
  continuing_atomic_original c (bytes_target resource address) kind indexes compare word = continuing_asks_word more _

  continuing_write_if : (c : Context) (place : MaybeLocation) (indexes words : List ℕ) → Continuing more (write_if c place indexes words) (write_if c place indexes words)
  continuing_write_if c no_location indexes words = continuing_goes more []
  continuing_write_if c (some_location place) indexes words = continuing_write_place more c place indexes words

  -- forms

  pub continuing_acts : (c : Context) (others : List Callee) (start : List ℕ) → ContinuingCallees more c.callees others → (ty : Ty) (form : Form) (operands : List (List ℕ)) →
      Continuing more (acts c ty form operands) (acts (beside c others start) ty form operands)
  continuing_acts c others start h ty (literal_form word) [] = continuing_goes more _
  continuing_acts c others start h ty (read_form place) (indexes ∷ []) = continuing_read_place more c place indexes
  continuing_acts c others start h ty (write_form to op common value old) (indexes ∷ words ∷ []) = continuing_assigns c to op common old indexes words
  continuing_acts c others start h ty (convert_form value) (words ∷ []) = continuing_goes more _
  continuing_acts c others start h ty (unary_form op value) (words ∷ []) = continuing_goes more _
  continuing_acts c others start h ty (binary_form op left right) (words ∷ further ∷ []) = continuing_gives more (binary_words op (component_kind (type_of left)) words further)
  continuing_acts c others start h ty (choose_form cond consequent alternative) (truths ∷ words ∷ further ∷ []) = continuing_goes more _
  continuing_acts c others start h ty (build_form parts) operands = continuing_goes more _
  continuing_acts c others start h ty (pick_form value parts) (words ∷ []) = continuing_goes more _
  continuing_acts c others start h ty (call_form function args) operands = continuing_calls c args _ _ (continuing_callee_at more c.callees others h function) operands
  continuing_acts c others start h ty (intrinsic_form number args) operands =
      continuing_worked c others start (work_of number) (tells_alike_at c.lane (record c.lane { start = start }) works (all_tell_alike c.lane start) number) ty operands
  continuing_acts c others start h ty (method_form resource count address no_expr) (at ∷ []) = continuing_then more _ _ (take count) (continuing_load_four more _ _ 0)
  continuing_acts c others start h ty (method_form resource count address (some_expr value)) (at ∷ words ∷ []) = continuing_store_four more _ _ 0 words
  continuing_acts c others start h ty (atomic_form target kind compare value original) (indexes ∷ compared ∷ words ∷ original_indexes ∷ []) =
      continuing_after more _ _ _ _ (continuing_atomic_original c target kind indexes (slice_index compared 0) (slice_index words 0)) (λ before.
      continuing_then more _ _ (λ _. []) (continuing_write_if c original original_indexes (before ∷ [])))
  continuing_acts c others start h ty form operands = continuing_goes more []
