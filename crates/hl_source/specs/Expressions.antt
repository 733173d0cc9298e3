-- What an expression does (HLSL, "Expressions", "Operators"). That operands are evaluated from left to right is this
-- project's own. `&&`, `||` and `?:` evaluate all their operands and work by component, as in HLSL before 2021.
--
-- An expression evaluates its operands in order, and then acts on their words. The first table alone says which operands
-- a form has and in which order, and the second alone says what is done with them.
use Rattle.std.specs.Prelude.{ℕ, Bool, if◌then◌else◌, List, [], ◌∷◌, map, take, slice_get, slice_index, slice_index_or, Option, Some, None}
use Rattle.std.specs.Option.{option_map_or}
use Rattle.std.specs.List.{concat}
use Rattle.lane_core.specs.declared.event.AtomicKind.{AtomicKind}
use Rattle.hl_meaning.specs.declared.program.Copying.{Copying}
use Rattle.hl_meaning.specs.declared.program.Copying.TheVariants.{CopyOut}
use Rattle.hl_meaning.specs.declared.program.Parameter.{Parameter}
use Rattle.hl_meaning.specs.Types.{Ty}
use Rattle.hl_meaning.specs.Trees.{Arg, Args, Expr, Exprs, Form, Location, MaybeExpr, MaybeLocation, PathPart, PathParts, Root, Target, a_location, an_expr, atomic_form, binary_form, build_form, bytes_target, call_form, choose_form, convert_form, element_root, index_part, intrinsic_form, literal_form, method_form, more_args, more_exprs, more_parts, no_expr, no_exprs, no_location, no_parts, pick_form, place_arg, place_target, place_type, read_form, some_expr, some_location, type_of, unary_form, value_arg, write_form}
use Rattle.hl_meaning.specs.Layout.{kinds_of}
use Rattle.hl_source.specs.Operations.{binary_words, chosen_word, component_kind, converted, map_2, map_3, unary_word, word_as}
use Rattle.hl_source.specs.State.{Callee, Context, Progress, State, after, alone, first_then, gives, goes_with, joined, no_value}
use Rattle.hl_source.specs.Offsets.{picked_words, place_of, slot_of}
use Rattle.hl_source.specs.Memory.{atomic_address, atomic_word, load_four, read_place, store_four, write_place, zeros_of}
use Rattle.hl_source.specs.Intrinsics.{work_of, worked}

-- calls (HLSL, "Expressions"; the order in which values are copied is this project's own)

-- the parameters of the function of a number; no well-formed program calls one that isn't there
abbrev pub parameters_of : Context → (function : ℕ) → List Parameter
parameters_of c function = option_map_or (λ f. f.parameters) (slice_get c.scope.functions function) []

-- Copy-in: the words that a parameter has at first whose argument is a place. An `out` parameter has zeros, and an
-- `inout` parameter the value of the place.
abbrev pub copies_in : Context → Copying → Location → (indexes : List ℕ) → State → Progress (List ℕ)
copies_in c CopyOut place indexes s = goes_with (zeros_of c (place_type place)) s
copies_in c _ place indexes s = read_place c place indexes s

-- the two operands of an argument: the indexes of its place, none where it is a value, and the words that its parameter
-- has at first
abbrev pub argument_operands : (indexes initial : List ℕ) → List (List ℕ)
argument_operands indexes initial = indexes ∷ initial ∷ []

-- the words that the parameters have at first, of the operands of a call, two for each argument
abbrev pub initial_parameters : List (List ℕ) → List (List ℕ)
initial_parameters (indexes ∷ initial ∷ operands) = initial ∷ initial_parameters operands
initial_parameters _ = []

-- the value of something of a type with these words, which are read as values of their kinds
abbrev pub value_of_words : Context → Ty → List ℕ → List ℕ
value_of_words c ty words = map_2 word_as (kinds_of c.scope.structs ty) words

-- Copy-out: behind the body the values of `out` and `inout` parameters are read and written back, in order of the
-- parameters. That ends with the arguments: in a well-formed program each has its two operands and a variable.
abbrev pub copies_out : Context → Args → (operands parameters : List (List ℕ)) → State → Progress (List ℕ)
copies_out c (more_args (place_arg place) rest) (indexes ∷ initial ∷ operands) (words ∷ parameters) s =
    after (write_place c place indexes (value_of_words c (place_type place) words) s) (λ _ s'. copies_out c rest operands parameters s')
copies_out c (more_args (value_arg value) rest) (indexes ∷ initial ∷ operands) (words ∷ parameters) s =
    copies_out c rest operands parameters s
copies_out c _ _ _ s = goes_with [] s

-- A call runs the function with variables of its own. Its result is computed before the values are written back.
abbrev pub calls : Context → Callee → Args → (operands : List (List ℕ)) → State → Progress (List ℕ)
calls c callee args operands s =
    after (callee (initial_parameters operands) s.exchange) (λ result callee_state.
    after (copies_out c args operands callee_state.variables (record s { exchange = callee_state.exchange })) (λ _ s'. goes_with result s'))

-- a function that isn't there does nothing; no well-formed program calls one
abbrev pub no_callee : Callee
no_callee parameters exchange = goes_with [] (record { variables = parameters; exchange = exchange })

-- assignments (HLSL, "Expressions"; the order is this project's own)

-- what is written: the value; or, with an operator, what it computes in a type from the value that the place has and the
-- new one, converted to the type of the place
abbrev pub assigned : Option ℕ → (common to : Ty) → (before words : List ℕ) → State → Progress (List ℕ)
assigned None common to before words s = goes_with words s
assigned (Some op) common to before words s =
    after (gives (binary_words op (component_kind common) (converted to common before) words) s)
    (λ computed s'. goes_with (converted common to computed) s')

-- a place is read for an operator alone
abbrev pub read_if : Context → Option ℕ → Location → (indexes : List ℕ) → State → Progress (List ℕ)
read_if c None place indexes s = goes_with [] s
read_if c (Some op) place indexes s = read_place c place indexes s

-- An assignment with an operator reads its place, then computes, then writes. Its value is what is written, and that of
-- a postfix `++` or `--` is the old one.
abbrev pub assigns : Context → Location → Option ℕ → (common : Ty) → (old : Bool) → (indexes words : List ℕ) → State → Progress (List ℕ)
assigns c to op common old indexes words s =
    after (read_if c op to indexes s) (λ before s1.
    after (assigned op common (place_type to) before words s1) (λ written s2.
    after (write_place c to indexes written s2) (λ _ s3. goes_with (if old then before else written) s3)))

-- atomic operations (HLSL, "Intrinsic Functions")

-- the word that the target had: of the place with these indexes, or at this byte address
abbrev pub atomic_original : Context → Target → Option AtomicKind → (indexes : List ℕ) → (compare word : ℕ) → State → Progress ℕ
atomic_original c (place_target place) kind indexes compare word s =
    atomic_word c (place_of c place indexes).holder (place_of c place indexes).reached.offset kind compare word s
atomic_original c (bytes_target resource address) kind indexes compare word s =
    atomic_address (slot_of c resource) (slice_index indexes 0) kind compare word s

-- the original value is written where a place for it is given
abbrev pub write_if : Context → MaybeLocation → (indexes words : List ℕ) → State → Progress (List ℕ)
write_if c no_location indexes words s = goes_with [] s
write_if c (some_location place) indexes words s = write_place c place indexes words s

-- The second table: what each form does with the words of its operands.
abbrev pub acts : Context → Ty → Form → (operands : List (List ℕ)) → State → Progress (List ℕ)
-- a literal is its word
acts c ty (literal_form word) [] s = goes_with (word ∷ []) s
-- a place is read
acts c ty (read_form place) (indexes ∷ []) s = read_place c place indexes s
-- an assignment reads for its operator alone, and then writes
acts c ty (write_form to op common value old) (indexes ∷ words ∷ []) s = assigns c to op common old indexes words s
-- kind and size change in one conversion
acts c ty (convert_form value) (words ∷ []) s = goes_with (converted (type_of value) ty words) s
-- operators work by component, in order
acts c ty (unary_form op value) (words ∷ []) s = goes_with (map (unary_word op) words) s
acts c ty (binary_form op left right) (words ∷ others ∷ []) s =
    gives (binary_words op (component_kind (type_of left)) words others) s
acts c ty (choose_form cond consequent alternative) (truths ∷ words ∷ others ∷ []) s =
    goes_with (map_3 chosen_word truths words others) s
-- a constructor or an initialiser in braces has the words of its parts, one after another
acts c ty (build_form parts) operands s = goes_with (concat operands) s
-- steps into a value pick among its words
acts c ty (pick_form value parts) (words ∷ []) s =
    goes_with (picked_words c.scope.structs (type_of value) parts words) s
acts c ty (call_form function args) operands s =
    calls c (slice_index_or c.callees function no_callee) args operands s
acts c ty (intrinsic_form number args) operands s = worked c (work_of number) ty operands s
-- a load or a store of a byte-address buffer is one event: the byte address is its index, and the offset is 0
acts c ty (method_form resource count _ no_expr) (address ∷ []) s =
    after (load_four (slot_of c resource) (slice_index address 0) 0 s) (λ words s'. goes_with (take count words) s')
acts c ty (method_form resource count _ (some_expr value)) (address ∷ words ∷ []) s =
    store_four (slot_of c resource) (slice_index address 0) 0 words s
-- an atomic operation is one event, and then the original value is written where a place for it is given
acts c ty (atomic_form target kind compare value original) (indexes ∷ compared ∷ words ∷ original_indexes ∷ []) s =
    after (atomic_original c target kind indexes (slice_index compared 0) (slice_index words 0) s)
    (λ before s'. no_value (write_if c original original_indexes (before ∷ []) s'))
-- no well-formed program reaches this: its forms have no other operands
acts c ty _ _ s = goes_with [] s

abbrev mutual
  -- the value of an expression
  pub evaluates : Context → Expr → State → Progress (List ℕ)
  evaluates c (an_expr ty _ form) s = after (operands c form s) (acts c ty form)

  -- The first table: the operands of each form, in order. An operand is a value, or the indexes of a place. What may be
  -- left out has no words.
  pub operands : Context → Form → State → Progress (List (List ℕ))
  operands c (literal_form word) s = goes_with [] s
  operands c (read_form place) s = alone (indexes c place s)
  operands c (write_form to op common value old) s = first_then (indexes c to s) (λ s'. alone (evaluates c value s'))
  operands c (convert_form value) s = alone (evaluates c value s)
  operands c (unary_form op value) s = alone (evaluates c value s)
  operands c (binary_form op left right) s = first_then (evaluates c left s) (λ s'. alone (evaluates c right s'))
  operands c (choose_form cond consequent alternative) s =
      first_then (evaluates c cond s) (λ s1. first_then (evaluates c consequent s1) (λ s2. alone (evaluates c alternative s2)))
  operands c (build_form parts) s = values c parts s
  operands c (pick_form value parts) s = alone (evaluates c value s)
  operands c (call_form function args) s = arguments c args (parameters_of c function) s
  operands c (intrinsic_form number args) s = values c args s
  operands c (method_form resource count address value) s =
      first_then (evaluates c address s) (λ s'. values_if c value s')
  operands c (atomic_form target kind compare value original) s =
      first_then (target_indexes c target s) (λ s1.
      first_then (value_if c compare s1) (λ s2.
      first_then (evaluates c value s2) (λ s3. alone (indexes_if c original s3))))

  -- the indexes of a place, in order, the one of an element of a buffer first; each is one word
  pub indexes : Context → Location → State → Progress (List ℕ)
  indexes c (a_location ty root parts) s = joined (root_index c root s) (λ s'. step_indexes c parts s')

  -- the index of an element of a buffer; no other root has one
  pub root_index : Context → Root → State → Progress (List ℕ)
  root_index c (element_root resource index) s = evaluates c index s
  root_index c _ s = goes_with [] s

  -- the indexes of steps, in order
  pub step_indexes : Context → PathParts → State → Progress (List ℕ)
  step_indexes c no_parts s = goes_with [] s
  step_indexes c (more_parts first rest) s = joined (step_index c first s) (λ s'. step_indexes c rest s')

  -- the index of a step; a member or a swizzle has none
  pub step_index : Context → PathPart → State → Progress (List ℕ)
  step_index c (index_part index) s = evaluates c index s
  step_index c _ s = goes_with [] s

  -- the place's indexes, or the address
  pub target_indexes : Context → Target → State → Progress (List ℕ)
  target_indexes c (place_target place) s = indexes c place s
  target_indexes c (bytes_target resource address) s = evaluates c address s

  -- values in order, an operand each
  pub values : Context → Exprs → State → Progress (List (List ℕ))
  values c no_exprs s = goes_with [] s
  values c (more_exprs first rest) s = first_then (evaluates c first s) (λ s'. values c rest s')

  -- a value that may be left out: no operand then
  pub values_if : Context → MaybeExpr → State → Progress (List (List ℕ))
  values_if c no_expr s = goes_with [] s
  values_if c (some_expr value) s = alone (evaluates c value s)

  -- a value that may be left out: no words then
  pub value_if : Context → MaybeExpr → State → Progress (List ℕ)
  value_if c no_expr s = goes_with [] s
  value_if c (some_expr value) s = evaluates c value s

  -- the indexes of a place that may be left out: no words then
  pub indexes_if : Context → MaybeLocation → State → Progress (List ℕ)
  indexes_if c no_location s = goes_with [] s
  indexes_if c (some_location place) s = indexes c place s

  -- the arguments of a call in order, two operands each; a well-formed program has one for each parameter
  pub arguments : Context → Args → List Parameter → State → Progress (List (List ℕ))
  arguments c (more_args first rest) (p ∷ parameters) s =
      joined (argument_of c first p.copying s) (λ s'. arguments c rest parameters s')
  arguments c _ _ s = goes_with [] s

  -- An `in` argument is evaluated. An `inout` argument evaluates its indexes and is then read. An `out` argument
  -- evaluates its indexes.
  pub argument_of : Context → Arg → Copying → State → Progress (List (List ℕ))
  argument_of c (value_arg value) _ s = after (evaluates c value s) (λ words s'. goes_with (argument_operands [] words) s')
  argument_of c (place_arg place) passing s =
      after (indexes c place s) (λ index_words s1.
      after (copies_in c passing place index_words s1) (λ initial s2. goes_with (argument_operands index_words initial) s2))
