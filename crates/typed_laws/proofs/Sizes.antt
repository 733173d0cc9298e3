-- Each variable keeps the number of its words, whatever an expression does.
use Rattle.std.proofs.Common.{◌≡◌, ◌∙◌, ℕ, Bool, true, false, List, [], ◌∷◌, ◌++◌, map, length, Option, None, Some, slice_get, Result, Ok, Err}
use Rattle.std.specs.Prelude.{if◌then◌else◌, nat_lt, slice_index, slice_index_or, slice_set, take, drop, zip}
use Rattle.std.specs.Option.{ok_or}
use Rattle.std.proofs.lemmas.List.{length-set}
use Rattle.lane_core.specs.declared.event.AtomicKind.{AtomicKind}
use Rattle.lane_core.specs.declared.event.Event.{Event}
use Rattle.lane_core.specs.declared.event.Event.TheVariants.{Barrier, BufferLoad, Wave}
use Rattle.lane_core.specs.declared.event.LaneFault.{LaneFault}
use Rattle.lane_core.specs.declared.event.LaneFault.TheVariants.{OutOfBounds}
use Rattle.lane_core.specs.declared.event.Reply.{Reply}
use Rattle.lane_core.specs.declared.event.Slot.{Slot}
use Rattle.lane_core.specs.declared.event.WaveKind.{WaveKind}
use Rattle.lane_core.specs.Words.{wrapping_add}
use Rattle.hl_meaning.specs.declared.program.Copying.{Copying}
use Rattle.hl_meaning.specs.declared.program.Copying.TheVariants.{CopyOut}
use Rattle.hl_meaning.specs.declared.program.Parameter.{Parameter}
use Rattle.hl_meaning.specs.declared.ty.Kind.{Kind}
use Rattle.hl_meaning.specs.Types.{Ty}
use Rattle.hl_meaning.specs.Trees.{Arg, Args, Expr, Exprs, Form, Location, MaybeExpr, MaybeLocation, PathPart, PathParts, Root, Target, a_location, an_expr, atomic_form, binary_form, build_form, bytes_target, call_form, choose_form, constant_root, convert_form, element_root, index_part, intrinsic_form, literal_form, member_part, method_form, more_args, more_exprs, more_parts, no_args, no_expr, no_exprs, no_location, no_parts, pick_form, place_arg, place_target, place_type, read_form, shared_root, some_expr, some_location, swizzle_part, type_of, unary_form, value_arg, variable_root, write_form}
use Rattle.hl_meaning.specs.Layout.{kinds_of, words_of}
use Rattle.hl_source.specs.Intrinsics.{Work, barrier, from_all, from_one, from_three, from_two, of_lane, wave, wave_alone, wave_at, wave_four, wave_word, wave_words, work_of, worked}
use Rattle.hl_source.specs.Operations.{binary_words, component_kind, map_2, picked, word_as}
use Rattle.hl_source.specs.State.{Callee, Context, Progress, State, after, alone, asks, asks_word, each, ends_at, faults, first_then, gives, goes_with, joined, variable_words, with_variable}
use Rattle.hl_source.specs.Offsets.{Holder, in_constant, in_element, in_shared, in_variable, place_of}
use Rattle.hl_source.specs.Memory.{atomic_word, byte_offset, constant_words, load_four, pieces, read_place, read_words, shared_size, store_four, within, word_of, word_offsets, write_letters, write_place, write_variable_word, write_words}
use Rattle.hl_source.specs.Expressions.{acts, argument_of, argument_operands, arguments, assigned, assigns, atomic_original, calls, copies_in, copies_out, evaluates, indexes, indexes_if, initial_parameters, no_callee, operands, parameters_of, read_if, root_index, step_index, step_indexes, target_indexes, value_if, value_of_words, values, values_if, write_if}
use Rattle.typed_laws.specs.Fitting.{LeadsTo}
use Rattle.typed_laws.proofs.Variables.{sizes_at, sizes_set}

-- the states in which the variables have so many words
abbrev pub Sized : List ℕ → State → Type 0
Sized sizes s = sizes_at s ≡ sizes

-- a part of a run that keeps them
abbrev pub Keeping : {A : Type 0} → List ℕ → (State → Progress A) → Type 0
Keeping sizes part = (s : State) → Sized sizes s → LeadsTo (Sized sizes) (part s)

-- parts of runs

pub leads_after : {A B : Type 0} (P : State → Type 0) (p : Progress A) (g : A → State → Progress B) → LeadsTo P p → ((a : A) (s : State) → P s → LeadsTo P (g a s)) → LeadsTo P (after p g)
leads_after P (goes_with a s) g h next = next a s h
leads_after P (ends_at run) g h next = tt

-- whatever state the first part leads to
leads_behind : {A B : Type 0} (P : State → Type 0) (p : Progress A) (g : A → State → Progress B) → ((a : A) (s : State) → LeadsTo P (g a s)) → LeadsTo P (after p g)
leads_behind P (goes_with a s) g next = next a s
leads_behind P (ends_at run) g next = tt

pub leads_giving : {A B : Type 0} (P : State → Type 0) (p : Progress A) (f : A → B) → LeadsTo P p → LeadsTo P (after p (λ a s. goes_with (f a) s))
leads_giving P (goes_with a s) f h = h
leads_giving P (ends_at run) f h = tt

module _ (sizes : List ℕ) where
  keeps_first : {A : Type 0} (p : Progress A) (rest : State → Progress (List A)) → LeadsTo (Sized sizes) p → Keeping sizes rest → LeadsTo (Sized sizes) (first_then p rest)
  keeps_first p rest h next = leads_after (Sized sizes) p _ h (λ a s1 h1. leads_giving (Sized sizes) (rest s1) (λ more. a ∷ more) (next s1 h1))

  keeps_joined : {A : Type 0} (p : Progress (List A)) (rest : State → Progress (List A)) → LeadsTo (Sized sizes) p → Keeping sizes rest → LeadsTo (Sized sizes) (joined p rest)
  keeps_joined p rest h next = leads_after (Sized sizes) p _ h (λ some s1 h1. leads_giving (Sized sizes) (rest s1) (λ more. some ++ more) (next s1 h1))

  keeps_alone : {A : Type 0} (p : Progress A) → LeadsTo (Sized sizes) p → LeadsTo (Sized sizes) (alone p)
  keeps_alone p h = leads_giving (Sized sizes) p (λ a. a ∷ []) h

  keeps_each : {A B : Type 0} (part : A → State → Progress B) → ((x : A) → Keeping sizes (part x)) → (xs : List A) → Keeping sizes (each part xs)
  keeps_each part h [] s sized = sized
  keeps_each part h (x ∷ xs) s sized = keeps_first (part x s) (each part xs) (h x s sized) (λ s1 h1. keeps_each part h xs s1 h1)

  keeps_gives : {A : Type 0} (r : Result A LaneFault) → Keeping sizes (gives r)
  keeps_gives (Ok a) s sized = sized
  keeps_gives (Err fault) s sized = tt

  -- events

  keeps_asks : (event : Event) → Keeping sizes (asks event)
  keeps_asks event s sized = by_replies s.variables s.exchange.asked s.exchange.replies sized
    where
      by_replies : (variables : List (List ℕ)) (asked : List Event) (replies : List Reply) → map length variables ≡ sizes →
          LeadsTo (Sized sizes) (asks event (record { variables = variables; exchange = record { asked = asked; replies = replies } }))
      by_replies variables asked [] h = tt
      by_replies variables asked (reply ∷ replies) h = h

  keeps_asks_word : (event : Event) → Keeping sizes (asks_word event)
  keeps_asks_word event s sized = leads_giving (Sized sizes) (asks event s) _ (keeps_asks event s sized)

  keeps_within : {A : Type 0} (offset words : ℕ) (go : State → Progress A) → Keeping sizes go → Keeping sizes (within offset words go)
  keeps_within offset words go h s sized = by_test (nat_lt offset words)
    where
      by_test : (b : Bool) → LeadsTo (Sized sizes) ((if b then go else faults OutOfBounds) s)
      by_test true = h s sized
      by_test false = tt

  -- words

  keeps_load_four : (slot : Slot) (index at : ℕ) → Keeping sizes (load_four slot index at)
  keeps_load_four slot index at s sized = leads_giving (Sized sizes) (asks (BufferLoad slot index at) s) _ (keeps_asks (BufferLoad slot index at) s sized)

  keeps_store_four : (slot : Slot) (index at : ℕ) (ws : List ℕ) → Keeping sizes (store_four slot index at ws)
  keeps_store_four slot index at ws s sized = leads_giving (Sized sizes) (asks _ s) (λ _. []) (keeps_asks _ s sized)

  keeps_word_of : (ws : List ℕ) (offset : ℕ) → Keeping sizes (word_of ws offset)
  keeps_word_of ws offset s sized = keeps_gives (ok_or (slice_get ws offset) OutOfBounds) s sized

  keeps_read_words : (c : Context) (holder : Holder) (offset count : ℕ) → Keeping sizes (read_words c holder offset count)
  keeps_read_words c (in_variable number) offset count s sized = keeps_each (word_of (variable_words s number)) (keeps_word_of (variable_words s number)) (word_offsets offset count) s sized
  keeps_read_words c (in_constant number) offset count s sized = keeps_each (word_of (constant_words c number)) (keeps_word_of (constant_words c number)) (word_offsets offset count) s sized
  keeps_read_words c (in_shared number) offset count s sized =
      keeps_each _ (λ word. keeps_within word (shared_size c number) _ (keeps_asks_word _)) (word_offsets offset count) s sized
  keeps_read_words c (in_element slot index) offset count s sized =
      leads_giving (Sized sizes) (each _ (pieces count) s) _ (keeps_each _ (λ piece. keeps_load_four slot index (byte_offset offset piece)) (pieces count) s sized)

  keeps_write_word : (number offset word : ℕ) → Keeping sizes (write_variable_word number offset word)
  keeps_write_word number offset word s sized = by_test (nat_lt offset (length (variable_words s number)))
    where
      writes : State → Progress (List ℕ)
      writes s' = goes_with [] (with_variable number (slice_set (variable_words s' number) offset word) s')

      by_test : (b : Bool) → LeadsTo (Sized sizes) ((if b then writes else faults OutOfBounds) s)
      by_test true = sizes_set number (slice_set (variable_words s number) offset word) s (length-set (variable_words s number) offset word) ∙ sized
      by_test false = tt

  keeps_write_words : (c : Context) (holder : Holder) (offset : ℕ) (ws : List ℕ) → Keeping sizes (write_words c holder offset ws)
  keeps_write_words c (in_variable number) offset ws s sized =
      leads_giving (Sized sizes) (each _ (zip (word_offsets offset (length ws)) ws) s) (λ _. []) (keeps_each _ (λ w. keeps_write_word number w.0 w.1) (zip (word_offsets offset (length ws)) ws) s sized)
  keeps_write_words c (in_constant number) offset ws s sized = sized
  keeps_write_words c (in_shared number) offset ws s sized =
      leads_giving (Sized sizes) (each _ (zip (word_offsets offset (length ws)) ws) s) (λ _. [])
      (keeps_each _ (λ w. keeps_within w.0 (shared_size c number) _ (keeps_asks _)) (zip (word_offsets offset (length ws)) ws) s sized)
  keeps_write_words c (in_element slot index) offset ws s sized =
      leads_giving (Sized sizes) (each _ (pieces (length ws)) s) (λ _. []) (keeps_each _ (λ piece. keeps_store_four slot index (byte_offset offset piece) (take 4 (drop piece ws))) (pieces (length ws)) s sized)

  -- places

  keeps_read_place : (c : Context) (place : Location) (ixs : List ℕ) → Keeping sizes (read_place c place ixs)
  keeps_read_place c place ixs s sized =
      let at = place_of c place ixs in
      leads_giving (Sized sizes) (read_words c at.holder at.reached.offset (words_of c.scope.structs at.reached.ty) s) (λ words. picked at.reached.letters (map_2 word_as (kinds_of c.scope.structs at.reached.ty) words))
      (keeps_read_words c at.holder at.reached.offset (words_of c.scope.structs at.reached.ty) s sized)

  keeps_write_letters : (c : Context) (holder : Holder) (offset : ℕ) (letters ws : List ℕ) → Keeping sizes (write_letters c holder offset letters ws)
  keeps_write_letters c holder offset [] ws s sized = keeps_write_words c holder offset ws s sized
  keeps_write_letters c holder offset (letter ∷ letters) ws s sized =
      leads_giving (Sized sizes) (each _ (zip (letter ∷ letters) ws) s) (λ _. []) (keeps_each _ (λ w. keeps_write_words c holder (wrapping_add offset w.0) (w.1 ∷ [])) (zip (letter ∷ letters) ws) s sized)

  keeps_write_place : (c : Context) (place : Location) (ixs ws : List ℕ) → Keeping sizes (write_place c place ixs ws)
  keeps_write_place c place ixs ws s sized = keeps_write_letters c (place_of c place ixs).holder (place_of c place ixs).reached.offset (place_of c place ixs).reached.letters ws s sized

  keeps_atomic_word : (c : Context) (holder : Holder) (offset : ℕ) (kind : Option AtomicKind) (compare word : ℕ) → Keeping sizes (atomic_word c holder offset kind compare word)
  keeps_atomic_word c (in_shared number) offset kind compare word s sized = keeps_within offset (shared_size c number) _ (keeps_asks_word _) s sized
  keeps_atomic_word c (in_element slot index) offset kind compare word s sized = keeps_asks_word _ s sized
  keeps_atomic_word c (in_variable number) offset kind compare word s sized = sized
  keeps_atomic_word c (in_constant number) offset kind compare word s sized = sized

  -- forms

  keeps_wave_words : (kind : WaveKind) (lane : ℕ) (result : Kind) (ws : List ℕ) → Keeping sizes (wave_words kind lane result ws)
  keeps_wave_words kind lane result ws s sized =
      keeps_each (wave_word kind lane result) (λ word s1 h1. leads_giving (Sized sizes) (asks_word (Wave kind word lane) s1) _ (keeps_asks_word (Wave kind word lane) s1 h1)) ws s sized

  keeps_worked : (c : Context) (work : Work) (ty : Ty) (args : List (List ℕ)) → Keeping sizes (worked c work ty args)
  keeps_worked c (barrier mode) ty [] s sized = leads_giving (Sized sizes) (asks (Barrier mode) s) (λ _. []) (keeps_asks (Barrier mode) s sized)
  keeps_worked c (wave kind) ty (xs ∷ []) s sized = keeps_wave_words _ _ _ xs s sized
  keeps_worked c (wave_at kind) ty (xs ∷ lane ∷ []) s sized = keeps_wave_words _ _ _ xs s sized
  keeps_worked c (wave_alone kind) ty [] s sized = keeps_wave_words _ _ _ (0 ∷ []) s sized
  keeps_worked c (wave_four kind) ty (xs ∷ []) s sized = leads_giving (Sized sizes) (asks (Wave kind (slice_index xs 0) 0) s) _ (keeps_asks (Wave kind (slice_index xs 0) 0) s sized)
  keeps_worked c (from_one f) ty (xs ∷ []) s sized = sized
  keeps_worked c (from_two f) ty (xs ∷ ys ∷ []) s sized = sized
  keeps_worked c (from_three f) ty (xs ∷ ys ∷ zs ∷ []) s sized = sized
  keeps_worked c (from_all judge) ty (xs ∷ []) s sized = sized
  keeps_worked c (of_lane tell) ty [] s sized = sized
  keeps_worked c work ty args s sized = sized

  keeps_copies_in : (c : Context) (copying : Copying) (place : Location) (ixs : List ℕ) → Keeping sizes (copies_in c copying place ixs)
  keeps_copies_in c CopyOut place ixs s sized = sized
  keeps_copies_in c _ place ixs s sized = keeps_read_place c place ixs s sized

  keeps_copies_out : (c : Context) (args : Args) (operands parameters : List (List ℕ)) → Keeping sizes (copies_out c args operands parameters)
  keeps_copies_out c (more_args (place_arg place) rest) (ixs ∷ initial ∷ operands) (words ∷ parameters) s sized =
      leads_after (Sized sizes) (write_place c place ixs (value_of_words c (place_type place) words) s) _ (keeps_write_place c place ixs (value_of_words c (place_type place) words) s sized)
      (λ _ s1 h1. keeps_copies_out c rest operands parameters s1 h1)
  keeps_copies_out c (more_args (value_arg value) rest) (ixs ∷ initial ∷ operands) (words ∷ parameters) s sized = keeps_copies_out c rest operands parameters s sized
  keeps_copies_out c args operands parameters s sized = sized

  keeps_calls : (c : Context) (callee : Callee) (args : Args) (operands : List (List ℕ)) → Keeping sizes (calls c callee args operands)
  keeps_calls c callee args operands s sized =
      leads_behind (Sized sizes) (callee (initial_parameters operands) s.exchange) _ (λ result ended.
      leads_giving (Sized sizes) (copies_out c args operands ended.variables (record s { exchange = ended.exchange })) (λ _. result)
      (keeps_copies_out c args operands ended.variables (record s { exchange = ended.exchange }) sized))

  keeps_read_if : (c : Context) (op : Option ℕ) (place : Location) (ixs : List ℕ) → Keeping sizes (read_if c op place ixs)
  keeps_read_if c None place ixs s sized = sized
  keeps_read_if c (Some op) place ixs s sized = keeps_read_place c place ixs s sized

  keeps_assigned : (op : Option ℕ) (common to : Ty) (before ws : List ℕ) → Keeping sizes (assigned op common to before ws)
  keeps_assigned None common to before ws s sized = sized
  keeps_assigned (Some op) common to before ws s sized = leads_giving (Sized sizes) (gives _ s) _ (keeps_gives _ s sized)

  keeps_assigns : (c : Context) (to : Location) (op : Option ℕ) (common : Ty) (old : Bool) (ixs ws : List ℕ) → Keeping sizes (assigns c to op common old ixs ws)
  keeps_assigns c to op common old ixs ws s sized =
      leads_after (Sized sizes) (read_if c op to ixs s) _ (keeps_read_if c op to ixs s sized) (λ before s1 h1.
      leads_after (Sized sizes) (assigned op common (place_type to) before ws s1) _ (keeps_assigned op common (place_type to) before ws s1 h1) (λ written s2 h2.
      leads_giving (Sized sizes) (write_place c to ixs written s2) _ (keeps_write_place c to ixs written s2 h2)))

  keeps_atomic_original : (c : Context) (target : Target) (kind : Option AtomicKind) (ixs : List ℕ) (compare word : ℕ) → Keeping sizes (atomic_original c target kind ixs compare word)
  keeps_atomic_original c (place_target place) kind ixs compare word s sized = keeps_atomic_word c (place_of c place ixs).holder (place_of c place ixs).reached.offset kind compare word s sized
  keeps_atomic_original c (bytes_target resource address) kind ixs compare word s sized = keeps_asks_word _ s sized

  keeps_write_if : (c : Context) (place : MaybeLocation) (ixs ws : List ℕ) → Keeping sizes (write_if c place ixs ws)
  keeps_write_if c no_location ixs ws s sized = sized
  keeps_write_if c (some_location place) ixs ws s sized = keeps_write_place c place ixs ws s sized

  keeps_acts : (c : Context) (ty : Ty) (form : Form) (operands : List (List ℕ)) → Keeping sizes (acts c ty form operands)
  keeps_acts c ty (literal_form word) [] s sized = sized
  keeps_acts c ty (read_form place) (ixs ∷ []) s sized = keeps_read_place c place ixs s sized
  keeps_acts c ty (write_form to op common value old) (ixs ∷ ws ∷ []) s sized = keeps_assigns c to op common old ixs ws s sized
  keeps_acts c ty (convert_form value) (ws ∷ []) s sized = sized
  keeps_acts c ty (unary_form op value) (ws ∷ []) s sized = sized
  keeps_acts c ty (binary_form op left right) (ws ∷ others ∷ []) s sized = keeps_gives (binary_words op (component_kind (type_of left)) ws others) s sized
  keeps_acts c ty (choose_form cond consequent alternative) (truths ∷ ws ∷ others ∷ []) s sized = sized
  keeps_acts c ty (build_form parts) operands s sized = sized
  keeps_acts c ty (pick_form value parts) (ws ∷ []) s sized = sized
  keeps_acts c ty (call_form function args) operands s sized = keeps_calls c (slice_index_or c.callees function no_callee) args operands s sized
  keeps_acts c ty (intrinsic_form number args) operands s sized = keeps_worked c (work_of number) ty operands s sized
  keeps_acts c ty (method_form resource count address no_expr) (at ∷ []) s sized = leads_giving (Sized sizes) (load_four _ _ 0 s) _ (keeps_load_four _ _ 0 s sized)
  keeps_acts c ty (method_form resource count address (some_expr value)) (at ∷ ws ∷ []) s sized = keeps_store_four _ _ 0 ws s sized
  keeps_acts c ty (atomic_form target kind compare value original) (ixs ∷ compared ∷ ws ∷ original_ixs ∷ []) s sized =
      leads_after (Sized sizes) (atomic_original c target kind ixs (slice_index compared 0) (slice_index ws 0) s) _ (keeps_atomic_original c target kind ixs (slice_index compared 0) (slice_index ws 0) s sized) (λ before s1 h1.
      leads_giving (Sized sizes) (write_if c original original_ixs (before ∷ []) s1) (λ _. []) (keeps_write_if c original original_ixs (before ∷ []) s1 h1))
  keeps_acts c ty form operands s sized = sized

  -- expressions, and their operands in order

  module _ (c : Context) where
    mutual
      pub keeps_expr : (e : Expr) → Keeping sizes (evaluates c e)
      keeps_expr (an_expr ty at form) s sized = leads_after (Sized sizes) (operands c form s) _ (keeps_operands form s sized) (λ ws s1 h1. keeps_acts c ty form ws s1 h1)

      keeps_operands : (form : Form) → Keeping sizes (operands c form)
      keeps_operands (literal_form word) s sized = sized
      keeps_operands (read_form place) s sized = keeps_alone (indexes c place s) (keeps_indexes place s sized)
      keeps_operands (write_form to op common value old) s sized = keeps_first (indexes c to s) _ (keeps_indexes to s sized) (λ s1 h1. keeps_alone (evaluates c value s1) (keeps_expr value s1 h1))
      keeps_operands (convert_form value) s sized = keeps_alone (evaluates c value s) (keeps_expr value s sized)
      keeps_operands (unary_form op value) s sized = keeps_alone (evaluates c value s) (keeps_expr value s sized)
      keeps_operands (binary_form op left right) s sized = keeps_first (evaluates c left s) _ (keeps_expr left s sized) (λ s1 h1. keeps_alone (evaluates c right s1) (keeps_expr right s1 h1))
      keeps_operands (choose_form cond consequent alternative) s sized =
          keeps_first (evaluates c cond s) _ (keeps_expr cond s sized) (λ s1 h1. keeps_first (evaluates c consequent s1) _ (keeps_expr consequent s1 h1) (λ s2 h2. keeps_alone (evaluates c alternative s2) (keeps_expr alternative s2 h2)))
      keeps_operands (build_form parts) s sized = keeps_values parts s sized
      keeps_operands (pick_form value parts) s sized = keeps_alone (evaluates c value s) (keeps_expr value s sized)
      keeps_operands (call_form function args) s sized = keeps_arguments args (parameters_of c function) s sized
      keeps_operands (intrinsic_form number args) s sized = keeps_values args s sized
      keeps_operands (method_form resource count address value) s sized = keeps_first (evaluates c address s) _ (keeps_expr address s sized) (λ s1 h1. keeps_values_if value s1 h1)
      keeps_operands (atomic_form target kind compare value original) s sized =
          keeps_first (target_indexes c target s) _ (keeps_target target s sized) (λ s1 h1.
          keeps_first (value_if c compare s1) _ (keeps_value_if compare s1 h1) (λ s2 h2.
          keeps_first (evaluates c value s2) _ (keeps_expr value s2 h2) (λ s3 h3. keeps_alone (indexes_if c original s3) (keeps_indexes_if original s3 h3))))

      keeps_indexes : (place : Location) → Keeping sizes (indexes c place)
      keeps_indexes (a_location ty root parts) s sized = keeps_joined (root_index c root s) _ (keeps_root root s sized) (λ s1 h1. keeps_steps parts s1 h1)

      keeps_root : (root : Root) → Keeping sizes (root_index c root)
      keeps_root (variable_root number) s sized = sized
      keeps_root (constant_root number) s sized = sized
      keeps_root (shared_root number) s sized = sized
      keeps_root (element_root resource index) s sized = keeps_expr index s sized

      keeps_steps : (parts : PathParts) → Keeping sizes (step_indexes c parts)
      keeps_steps no_parts s sized = sized
      keeps_steps (more_parts first rest) s sized = keeps_joined (step_index c first s) _ (keeps_step first s sized) (λ s1 h1. keeps_steps rest s1 h1)

      keeps_step : (part : PathPart) → Keeping sizes (step_index c part)
      keeps_step (index_part index) s sized = keeps_expr index s sized
      keeps_step (member_part number) s sized = sized
      keeps_step (swizzle_part letters) s sized = sized

      keeps_target : (target : Target) → Keeping sizes (target_indexes c target)
      keeps_target (place_target place) s sized = keeps_indexes place s sized
      keeps_target (bytes_target resource address) s sized = keeps_expr address s sized

      keeps_values : (es : Exprs) → Keeping sizes (values c es)
      keeps_values no_exprs s sized = sized
      keeps_values (more_exprs first rest) s sized = keeps_first (evaluates c first s) _ (keeps_expr first s sized) (λ s1 h1. keeps_values rest s1 h1)

      keeps_values_if : (value : MaybeExpr) → Keeping sizes (values_if c value)
      keeps_values_if no_expr s sized = sized
      keeps_values_if (some_expr value) s sized = keeps_alone (evaluates c value s) (keeps_expr value s sized)

      keeps_value_if : (value : MaybeExpr) → Keeping sizes (value_if c value)
      keeps_value_if no_expr s sized = sized
      keeps_value_if (some_expr value) s sized = keeps_expr value s sized

      keeps_indexes_if : (place : MaybeLocation) → Keeping sizes (indexes_if c place)
      keeps_indexes_if no_location s sized = sized
      keeps_indexes_if (some_location place) s sized = keeps_indexes place s sized

      keeps_arguments : (args : Args) (parameters : List Parameter) → Keeping sizes (arguments c args parameters)
      keeps_arguments no_args parameters s sized = sized
      keeps_arguments (more_args first rest) [] s sized = sized
      keeps_arguments (more_args first rest) (p ∷ parameters) s sized = keeps_joined (argument_of c first p.copying s) _ (keeps_argument first p.copying s sized) (λ s1 h1. keeps_arguments rest parameters s1 h1)

      keeps_argument : (arg : Arg) (copying : Copying) → Keeping sizes (argument_of c arg copying)
      keeps_argument (value_arg value) _ s sized = leads_giving (Sized sizes) (evaluates c value s) (λ words. argument_operands [] words) (keeps_expr value s sized)
      keeps_argument (place_arg place) copying s sized =
          leads_after (Sized sizes) (indexes c place s) _ (keeps_indexes place s sized) (λ ixs s1 h1.
          leads_giving (Sized sizes) (copies_in c copying place ixs s1) (λ initial. argument_operands ixs initial) (keeps_copies_in c copying place ixs s1 h1))
