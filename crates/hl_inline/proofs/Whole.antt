-- A program without calls means what the program means that it was made of.
use Rattle.std.proofs.Common.{◌≡◌, ◌∙◌, refl, sym, ap, subst, ℕ, zero, suc, ◌+◌, ◌<◌, false, List, [], ◌∷◌, ◌++◌, map, length, Option, None, Some, slice_get, unwrap_or, get_or, arith}
use Rattle.std.specs.Prelude.{option_map, slice_index_or}
use Rattle.std.proofs.lemmas.List.{append_assoc, length-append, length-map}
use Rattle.std.proofs.lemmas.Bool.{true≢false}
use Rattle.std.proofs.lemmas.Option.{unwrap_or-slice_get}
use Rattle.lane_core.specs.declared.event.Asked.TheVariants.{Ended}
use Rattle.lane_core.specs.declared.event.Reply.{Reply}
use Rattle.lane_core.specs.Lane.{Lane, first_exchange, standing}
use Rattle.hl_meaning.specs.Types.{Ty, is_void}
use Rattle.hl_meaning.specs.Places.{variable_type}
use Rattle.hl_meaning.specs.Programs.{Constant, FunctionDef, Program, Variable}
use Rattle.hl_meaning.specs.WellFormed.{IsConstant, IsEntry, IsEntryIf, IsInput, IsWellFormed}
use Rattle.hl_source.specs.State.{Callee, Context, Progress, State, ends_at, goes_with, variable_words}
use Rattle.hl_source.specs.Memory.{constant_words}
use Rattle.hl_source.specs.Expressions.{no_callee}
use Rattle.hl_source.specs.SourceLane.{callees_after, context_of, entry_of, entry_run, input_words, inputs, source_lane}
use Rattle.hl_inline.specs.FlatTrees.{Flat, FlatStmt}
use Rattle.hl_inline.specs.FlatLane.{FlatLeaving, flat_context, flat_end, flat_ended, flat_first_state, flat_lane}
use Rattle.hl_inline.specs.InlinedCalls.{Inlined}
use Rattle.hl_inline.specs.InlinedFunctions.{inlined_after}
use Rattle.hl_inline.specs.InlinedPrograms.{entry_body, entry_fresh, entry_instance, flat_around, inlined_entry, inlined_program, set_constants, set_inputs}
use Rattle.typed_laws.proofs.Induction.{Every, every_from_all}
use Rattle.typed_laws.proofs.Variables.{sizes_at, sizes_in}
use Rattle.hl_inline.proofs.Performing.{Runs, perform, perform_next}
use Rattle.hl_inline.proofs.Passing.{HeldAs}
use Rattle.hl_inline.proofs.Calls.{BeginsAs, EndsAs, InstanceIn, body_code}
use Rattle.hl_inline.proofs.FirstStates.{held_from, nothing_more, zero_plus}
use Rattle.typed_laws.proofs.StatementSizes.{zeros_sizes}
use Rattle.hl_inline.proofs.Beginnings.{AreWords, constants_are, constants_get, constants_run, constants_words, inputs_are, inputs_run, inputs_words, written, written_at, written_below, written_exchange, written_sizes}
use Rattle.hl_inline.proofs.Functions.{FunctionAs, functions_as, functions_at}
use Rattle.hl_inline.proofs.Fronts.{IsFront, front_refl, nameless_type, type_behind, type_front}

-- the type of a constant's variable
constant_variable : (constants : List Constant) (k : ℕ) (ty : Ty) → option_map (λ d. d.variable.ty) (slice_get constants k) ≡ Some ty → variable_type (map (λ c. c.variable) constants) k ≡ Some ty
constant_variable [] k ty e = e
constant_variable (c ∷ constants) zero ty e = e
constant_variable (c ∷ constants) (suc k) ty e = constant_variable constants k ty e

-- the entry of a program in place, where the program's functions are shown
module _ (p : Program) (well : IsWellFormed p) (lane : Lane) (n : ℕ) (replies : List Reply) (d : FunctionDef) (there : slice_get p.functions p.entry ≡ Some d) (is_entry : IsEntry d) where
  abbrev g : Inlined
  g = inlined_entry p

  abbrev made : Flat
  made = flat_around p (inlined_entry p) (entry_body p (inlined_entry p))

  abbrev all_variables : List Variable
  all_variables = (entry_body p (inlined_entry p)).fresh.variables

  -- what is known in the entry
  abbrev known : Context
  known = context_of p lane [] d

  abbrev callee : Callee
  callee = entry_of p lane n

  as_callee : unwrap_or (slice_get (callees_after p lane n [] p.functions) p.entry) no_callee ≡ slice_index_or (callees_after p lane n [] p.functions) p.entry no_callee
  as_callee = unwrap_or-slice_get (callees_after p lane n [] p.functions) p.entry no_callee

  shown : FunctionAs p all_variables made lane n (entry_of p lane n) g p.entry d
  shown =
      subst (λ x. FunctionAs p all_variables made lane n x g p.entry d) (sym as_callee)
      (subst (λ m. FunctionAs p all_variables made lane n (slice_index_or (callees_after p lane n [] p.functions) p.entry no_callee) g m d) (zero_plus p.entry)
      (functions_at p all_variables made lane n 0 (callees_after p lane n [] p.functions) (inlined_after [] p.functions) p.functions
      (functions_as p well all_variables made lane n (λ e. refl) [] [] [] p.functions tt refl) p.entry d there))

  -- where the entry stands

  front : IsFront (map (λ c. c.variable) p.constants ++ g.variables) all_variables
  front = (shown.grows (entry_instance p g) (entry_fresh p g)).front

  constant_typed : (k : ℕ) (ty : Ty) → option_map (λ c. c.variable.ty) (slice_get p.constants k) ≡ Some ty → variable_type all_variables k ≡ Some ty
  constant_typed k ty e =
      ap (λ l. variable_type l k) front.1 ∙
      type_front (map (λ c. c.variable) p.constants ++ g.variables) front.0 k ty (type_front (map (λ c. c.variable) p.constants) g.variables k ty (constant_variable p.constants k ty e))

  own_typed : (v : ℕ) (ty : Ty) → variable_type g.variables v ≡ Some ty → variable_type all_variables (length p.constants + v) ≡ Some ty
  own_typed v ty typed =
      subst (λ m. variable_type all_variables (m + v) ≡ Some ty) (length-map p.constants (λ c. c.variable))
      (ap (λ l. variable_type l (length (map (λ c. c.variable) p.constants) + v)) (front.1 ∙ append_assoc (map (λ c. c.variable) p.constants) g.variables front.0) ∙
      (type_behind (map (λ c. c.variable) p.constants) (g.variables ++ front.0) v ∙ type_front g.variables front.0 v ty typed))

  void_result : is_void g.result ≡ false → ⊥
  void_result some = true≢false (sym (ap is_void (shown.result ∙ is_entry.result)) ∙ some)

  place : InstanceIn (context_of p lane [] d) all_variables (entry_instance p g) g (length g.variables) (entry_fresh p g)
  place = record {
    below = omega arith;
    constant = constant_typed;
    own_type = own_typed;
    large = omega arith;
    room = omega (arith, length-append (map (λ c. c.variable) p.constants) g.variables, length-map p.constants (λ c. c.variable));
    result_type = λ some. absurd (void_result some);
    result_place = λ some. absurd (void_result some);
    front = front_refl all_variables;
    exit = omega arith;
  }

  -- what stands in the variables where the entry begins

  abbrev first : State
  first = flat_first_state made lane (first_exchange replies)

  abbrev with_constants : State
  with_constants = written 0 (constants_words p.constants) first

  abbrev with_inputs : State
  with_inputs = written (length p.constants + 0) (inputs_words p lane d.variables d.parameters) with_constants

  first_sizes : sizes_at first ≡ sizes_in known all_variables
  first_sizes = zeros_sizes (flat_context made lane) all_variables

  constants_hold : Every (IsConstant p.structs) p.constants
  constants_hold = every_from_all (IsConstant p.structs) p.constants well.constants

  inputs_hold : Every (IsInput d.variables) d.parameters
  inputs_hold = every_from_all (IsInput d.variables) d.parameters is_entry.inputs

  are_constants : AreWords known all_variables 0 (constants_words p.constants)
  are_constants = constants_are known all_variables 0 p.constants constants_hold (λ k ty e. subst (λ m. variable_type all_variables m ≡ Some ty) (sym (zero_plus k)) (constant_typed k ty e))

  typed_inputs : (v : ℕ) (ty : Ty) → variable_type d.variables v ≡ Some ty → variable_type all_variables (length p.constants + v) ≡ Some ty
  typed_inputs v ty e = own_typed v ty (ap (λ l. variable_type l v) shown.variables ∙ (nameless_type d.variables v ∙ e))

  are_inputs : AreWords known all_variables (length p.constants + 0) (inputs_words p lane d.variables d.parameters)
  are_inputs = inputs_are p lane d.variables all_variables (length p.constants) typed_inputs known 0 d.parameters shown.is.numbered inputs_hold

  constants_sizes : sizes_at with_constants ≡ sizes_in known all_variables
  constants_sizes = written_sizes known all_variables 0 (constants_words p.constants) first are_constants first_sizes

  constant_held : (k : ℕ) → k < length p.constants → variable_words with_inputs k ≡ constant_words known k
  constant_held k low =
      written_below (length p.constants + 0) (inputs_words p lane d.variables d.parameters) with_constants k (omega (arith, low)) ∙
      (subst (λ m. variable_words with_constants m ≡ get_or (constants_words p.constants) k []) (zero_plus k)
      (written_at known all_variables 0 (constants_words p.constants) first are_constants first_sizes k (omega (arith, low, length-map p.constants (λ c. c.words)))) ∙
      constants_get p.constants k)

  input_held : HeldAs with_inputs (length p.constants) d.parameters (inputs_words p lane d.variables d.parameters)
  input_held =
      held_from with_inputs (length p.constants) d.parameters (inputs_words p lane d.variables d.parameters) (omega (arith, length-map d.parameters (λ q. input_words p lane d.variables q)))
      (λ v low. subst (λ m. variable_words with_inputs (m + v) ≡ get_or (inputs_words p lane d.variables d.parameters) v []) (nothing_more (length p.constants))
      (written_at known all_variables (length p.constants + 0) (inputs_words p lane d.variables d.parameters) with_constants are_inputs constants_sizes v (omega (arith, low, length-map d.parameters (λ q. input_words p lane d.variables q)))))

  begins : BeginsAs (context_of p lane [] d) all_variables (entry_instance p g) g (inputs_words p lane d.variables d.parameters) (first_exchange replies) with_inputs
  begins = record {
    exchange = sym (written_exchange (length p.constants + 0) (inputs_words p lane d.variables d.parameters) with_constants ∙ written_exchange 0 (constants_words p.constants) first);
    flat_sizes = written_sizes known all_variables (length p.constants + 0) (inputs_words p lane d.variables d.parameters) with_constants are_inputs constants_sizes;
    constants = constant_held;
    held = subst (λ l. HeldAs with_inputs (length p.constants) l (inputs_words p lane d.variables d.parameters)) (sym shown.parameters) input_held;
    exact = length-map d.parameters (λ q. input_words p lane d.variables q) ∙ ap length (sym shown.parameters);
  }

  abbrev body : List FlatStmt
  body = body_code g (entry_instance p g) (entry_fresh p g)

  runs : Runs (EndsAs (context_of p lane [] d) all_variables (entry_instance p g) g (length g.variables) (length (map (λ c. c.variable) p.constants ++ g.variables)) with_inputs)
      (entry_of p lane n (inputs_words p lane d.variables d.parameters) (first_exchange replies)) (perform made lane n body with_inputs)
  runs = shown.inlines.runs (entry_instance p g) (length g.variables) (entry_fresh p g) place (inputs_words p lane d.variables d.parameters) (first_exchange replies) with_inputs begins

  -- the whole body

  inputs_done : perform made lane n (set_inputs (length p.constants) g.parameters) with_constants ≡ goes_with flat_end with_inputs
  inputs_done =
      ap (λ l. perform made lane n (set_inputs (length p.constants) l) with_constants) shown.parameters ∙
      inputs_run p lane d.variables all_variables (length p.constants) typed_inputs made n refl refl 0 d.parameters with_constants shown.is.numbered inputs_hold

  whole : perform made lane n (set_constants p.structs 0 p.constants ++ (set_inputs (length p.constants) g.parameters ++ body)) first ≡ perform made lane n body with_inputs
  whole =
      perform_next made lane n (set_constants p.structs 0 p.constants) (set_inputs (length p.constants) g.parameters ++ body) first with_constants (constants_run made lane n p.structs 0 p.constants first constants_hold) ∙
      perform_next made lane n (set_inputs (length p.constants) g.parameters) body with_constants with_inputs inputs_done

  same_run : (q : Progress (List ℕ)) (r : Progress FlatLeaving) → Runs (EndsAs (context_of p lane [] d) all_variables (entry_instance p g) g (length g.variables) (length (map (λ c. c.variable) p.constants ++ g.variables)) with_inputs) q r → flat_ended r ≡ entry_run q
  same_run (goes_with value s) r (u, e, ends) = ap flat_ended e ∙ ap (λ x. standing x Ended) (sym ends.exchange)
  same_run (ends_at run) r e = ap flat_ended e

  pub entry_same : flat_ended (perform made lane n (set_constants p.structs 0 p.constants ++ (set_inputs (length p.constants) g.parameters ++ body)) first) ≡
      entry_run (entry_of p lane n (inputs_words p lane d.variables d.parameters) (first_exchange replies))
  entry_same = ap flat_ended whole ∙ same_run (entry_of p lane n (inputs_words p lane d.variables d.parameters) (first_exchange replies)) (perform made lane n body with_inputs) runs

pub keeps_meaning : (p : Program) → IsWellFormed p → (n : ℕ) (lane : Lane) (replies : List Reply) → flat_lane (inlined_program p) n lane replies ≡ source_lane p n lane replies
unfolding inlined_program flat_lane source_lane
keeps_meaning p well n lane replies = by_entry (slice_get p.functions p.entry) refl well.entry
  where
    by_entry : (o : Option FunctionDef) → slice_get p.functions p.entry ≡ o → IsEntryIf o → flat_lane (inlined_program p) n lane replies ≡ source_lane p n lane replies
    by_entry None there h = absurd h
    by_entry (Some d) there h =
        ap Some (entry_same p well lane n replies d there h) ∙
        ap (λ o. Some (entry_run (entry_of p lane n (inputs p lane o) (first_exchange replies)))) (sym there)
