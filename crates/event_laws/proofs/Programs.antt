-- The lane of a well-formed program keeps to words.
use Rattle.std.proofs.Common.{◌≡◌, ◌∙◌, refl, sym, ap, subst, ℕ, suc, zero, false, List, [], ◌∷◌, ◌++◌, drop, map, Option, None, Some, arith, length}
use Rattle.std.specs.Prelude.{slice_get, slice_index_or, unwrap_or}
use Rattle.std.specs.Option.{option_map_or}
use Rattle.std.proofs.lemmas.List.{append-nil, append_assoc}
use Rattle.std.proofs.lemmas.Option.{none-some, same_Some, unwrap_or-slice_get}
use Rattle.lane_core.specs.declared.event.Asked.{Asked}
use Rattle.lane_core.specs.declared.event.Asked.TheVariants.{Asks, Ended, Fault, Goes}
use Rattle.lane_core.specs.declared.event.Event.{Event}
use Rattle.lane_core.specs.declared.event.Slot.{Slot}
use Rattle.lane_core.specs.declared.event.Reply.{Reply}
use Rattle.lane_core.specs.Inputs.{coordinates_of}
use Rattle.lane_core.specs.Lane.{Lane, Run, first_exchange}
use Rattle.lane_core.specs.Words.{wrapped}
use Rattle.hl_meaning.specs.declared.ty.Kind.{Kind}
use Rattle.hl_meaning.specs.Types.{component_count, scalar_type, void_type}
use Rattle.hl_meaning.specs.Programs.{Constant, FunctionDef, Program, Resource, Variable}
use Rattle.hl_meaning.specs.Slots.{slot_after, slots_after, slots_of}
use Rattle.hl_meaning.specs.Layout.{kinds_of, words_of}
use Rattle.hl_meaning.specs.Places.{variable_type}
use Rattle.hl_meaning.specs.WellFormed.{HoldWords, IsConstant, IsWellFormed}
use Rattle.hl_source.specs.State.{Callee, Context, Progress, after, ends_at, goes_with}
use Rattle.hl_source.specs.Memory.{zeros_of}
use Rattle.hl_source.specs.Expressions.{no_callee}
use Rattle.hl_source.specs.SourceLane.{callee_of, callees_after, context_of, entry_of, entry_run, first_state, input_words, inputs, returned_value, semantic_components, source_lane}
use Rattle.hl_source.specs.Statements.{Leaving, at_end, by_break, by_continue, by_return, does_all}
use Rattle.typed_laws.proofs.Functions.{AllGiving, all_giving, callees_giving, giving_length, sound_in}
use Rattle.typed_laws.proofs.Sound.{CalleesFit}
use Rattle.event_laws.specs.Laws.{EventsHaveWords, EventsNameWhatIsThere, Every, HasWords, HoldsAsked, HoldsOfRun, Is32Bits, IsSlot, Names}
use Rattle.event_laws.proofs.Lists.{AllWords, AreWords, every_append, every_at, every_from_all, every_made, every_replicate, every_take, zero_is}
use Rattle.event_laws.proofs.WordLemmas.{wrapped_is}
use Rattle.event_laws.proofs.Keeping.{Keeps, Keeping, keeping_then}
use Rattle.event_laws.proofs.Forms.{KeepsCallee, keeps_no_callee, literal_is}
use Rattle.event_laws.proofs.Statements.{LeavesWords, keeping_does_all}

-- constants

held_words : (kinds : List Kind) (words : List ℕ) → HoldWords kinds words → AreWords words
held_words [] [] h = tt
held_words [] (word ∷ words) h = absurd h
held_words (kind ∷ kinds) [] h = absurd h
held_words (kind ∷ kinds) (word ∷ words) h = (literal_is (scalar_type kind) word h.0, held_words kinds words h.1)

constant_at : (constants : List Constant) → Every (λ k. AreWords k.words) constants → (number : ℕ) → AreWords (option_map_or (λ k. k.words) (slice_get constants number) [])
constant_at [] h number = tt
constant_at (k ∷ constants) h zero = h.0
constant_at (k ∷ constants) h (suc number) = constant_at constants h.1 number

every_map : {A : Type 0} (P Q : A → Type 0) → ((x : A) → P x → Q x) → (xs : List A) → Every P xs → Every Q xs
every_map P Q f [] p = tt
every_map P Q f (x ∷ xs) p = (f x p.0, every_map P Q f xs p.1)

returned_words : (leaving : Leaving) → LeavesWords leaving → AreWords (returned_value leaving)
returned_words at_end h = tt
returned_words by_break h = tt
returned_words by_continue h = tt
returned_words (by_return value) h = h

-- a function that stands behind others
got_behind : (front : List FunctionDef) (f : FunctionDef) (rest : List FunctionDef) → slice_get (front ++ f ∷ rest) (length front) ≡ Some f
got_behind [] f rest = refl
got_behind (x ∷ front) f rest = got_behind front f rest

one_longer : {A B : Type 0} (earlier : List A) (callee : A) (front : List B) (f : B) → length earlier ≡ length front → length (earlier ++ callee ∷ []) ≡ length (front ++ f ∷ [])
one_longer [] callee [] f e = refl
one_longer (x ∷ earlier) callee (y ∷ front) f e = ap suc (one_longer earlier callee front f (omega (arith, e)))
one_longer [] callee (y ∷ front) f e = absurd (omega (arith, e))
one_longer (x ∷ earlier) callee [] f e = absurd (omega (arith, e))

-- there is a slot for each buffer
slot_there : (all : List Resource) (earlier : List Slot) (before resources : List Resource) → length earlier ≡ length before → (resource : ℕ) (r : Resource) → slice_get (before ++ resources) resource ≡ Some r → (d : Slot) →
    IsSlot (slots_after all earlier resources) (slice_index_or (slots_after all earlier resources) resource d)
slot_there all earlier before [] long resource r is d = found earlier before resource long (subst (λ rs. slice_get rs resource ≡ Some r) (append-nil before) is)
  where
    found : (earlier : List Slot) (before : List Resource) (resource : ℕ) → length earlier ≡ length before → slice_get before resource ≡ Some r → IsSlot earlier (slice_index_or earlier resource d)
    found earlier [] resource long is = absurd (none-some r is)
    found [] (x ∷ before) resource long is = absurd (omega (arith, long))
    found (slot ∷ earlier) (x ∷ before) zero long is = (0, refl)
    found (slot ∷ earlier) (x ∷ before) (suc resource) long is = let next : IsSlot earlier (slice_index_or earlier resource d) = found earlier before resource (omega (arith, long)) is in (suc next.0, next.1)
slot_there all earlier before (x ∷ resources) long resource r is d =
    slot_there all (earlier ++ slot_after all earlier x.class x.space x.register ∷ []) (before ++ x ∷ []) resources (one_longer earlier (slot_after all earlier x.class x.space x.register) before x long) resource r
    (subst (λ rs. slice_get rs resource ≡ Some r) (sym (append_assoc before (x ∷ []) resources)) is) d

module _ (p : Program) (well : IsWellFormed p) (lane : Lane) (n : ℕ) where
  abbrev here : Event → Type 0
  here event = HasWords event × Names p.structs p.shared (slots_of p.resources) event

  all_constants : Every (λ k. AreWords k.words) p.constants
  all_constants = every_map (IsConstant p.structs) (λ k. AreWords k.words) (λ k h. held_words (kinds_of p.structs k.variable.ty) k.words h.words) p.constants (every_from_all (IsConstant p.structs) p.constants well.constants)

  zeros_are : (c : Context) (variables : List Variable) → AllWords (map (λ v. zeros_of c v.ty) variables)
  zeros_are c variables = every_made AreWords (λ v. zeros_of c v.ty) (λ v. every_replicate Is32Bits (words_of c.scope.structs v.ty) 0 zero_is) variables

  callee_keeps : (earlier : List Callee) → Every (KeepsCallee here) earlier → (f : FunctionDef) → slice_get p.functions (length earlier) ≡ Some f → CalleesFit (context_of p lane earlier f) → (KeepsCallee here) (callee_of (context_of p lane earlier f) n f)
  callee_keeps earlier h f is fit parameters x words events =
      body.keeps (first_state c f parameters x) (every_append AreWords parameters (map (λ v. zeros_of c v.ty) (drop (length f.parameters) f.variables)) words (zeros_are c (drop (length f.parameters) f.variables)), events)
    where
      c : Context
      c = context_of p lane earlier f

      body : Keeping here AreWords (λ s. after (does_all c n f.body s) (λ leaving s'. goes_with (returned_value leaving) s'))
      body = keeping_then LeavesWords AreWords (does_all c n f.body) returned_value
          (keeping_does_all c (constant_at p.constants all_constants) (λ resource r got. slot_there p.resources [] [] p.resources refl resource r got (record { class = 0; space = 0; register = 0 })) (λ number. every_at (KeepsCallee here) earlier number no_callee h (keeps_no_callee here)) (λ e well_formed s. (sound_in p well lane n earlier f fit e well_formed).fits s) n false f.body (well.functions (length earlier) f is).body) returned_words

  callees_keep : (earlier : List Callee) → Every (KeepsCallee here) earlier → (front functions : List FunctionDef) → AllGiving p.structs front earlier → front ++ functions ≡ p.functions →
      Every (KeepsCallee here) (callees_after p lane n earlier functions)
  callees_keep earlier h front [] all are = h
  callees_keep earlier h front (f ∷ functions) all are =
      callees_keep (earlier ++ callee_of (context_of p lane earlier f) n f ∷ [])
      (every_append (KeepsCallee here) earlier (callee_of (context_of p lane earlier f) n f ∷ []) h (callee_keeps earlier h f f_is (callees_giving p lane front (f ∷ functions) earlier f all (sym are)), tt))
      (front ++ f ∷ []) functions (all_giving p well lane n front earlier (f ∷ []) functions all (sym are)) (append_assoc front (f ∷ []) functions ∙ are)
    where
      f_is : slice_get p.functions (length earlier) ≡ Some f
      f_is = subst (λ fs. slice_get fs (length earlier) ≡ Some f) are (subst (λ number. slice_get (front ++ f ∷ functions) number ≡ Some f) (sym (giving_length p.structs front earlier all)) (got_behind front f functions))

  entry_keeps : (KeepsCallee here) (entry_of p lane n)
  entry_keeps = subst (KeepsCallee here) (sym (unwrap_or-slice_get (callees_after p lane n [] p.functions) p.entry no_callee))
      (every_at (KeepsCallee here) (callees_after p lane n [] p.functions) p.entry no_callee (callees_keep [] tt [] p.functions tt refl) (keeps_no_callee here))

  inputs_are : (entry : Option FunctionDef) → AllWords (inputs p lane entry)
  inputs_are None = tt
  inputs_are (Some f) = every_made AreWords (input_words p lane f.variables) (λ parameter.
      every_take Is32Bits (component_count (unwrap_or (variable_type f.variables parameter.variable) void_type)) (map wrapped (semantic_components (coordinates_of p.threads) lane parameter.semantic))
      (every_made Is32Bits wrapped wrapped_is (semantic_components (coordinates_of p.threads) lane parameter.semantic))) f.parameters

  entry_holds : (part : Progress (List ℕ)) → Keeps here AreWords part → HoldsOfRun here (entry_run part)
  entry_holds (goes_with value s) h = (h.1.1, tt)
  entry_holds (ends_at run) h = h

  pub lane_keeps : (replies : List Reply) → HoldsOfRun here (entry_run (entry_of p lane n (inputs p lane (slice_get p.functions p.entry)) (first_exchange replies)))
  lane_keeps replies =
      entry_holds (entry_of p lane n (inputs p lane (slice_get p.functions p.entry)) (first_exchange replies))
      (entry_keeps (inputs p lane (slice_get p.functions p.entry)) (first_exchange replies) (inputs_are (slice_get p.functions p.entry)) tt)

-- what holds of each event holds of a run
run_of : (P Q : Event → Type 0) → ((event : Event) → P event → Q event) → (run : Run) → HoldsOfRun P run → HoldsOfRun Q run
run_of P Q f run h = (every_map P Q f run.events h.0, asked run.outcome h.1)
  where
    asked : (outcome : Asked) → HoldsAsked P outcome → HoldsAsked Q outcome
    asked (Asks event) h = f event h
    asked Ended h = tt
    asked (Fault fault) h = tt
    asked Goes h = tt

pub events_have_words : EventsHaveWords
unfolding source_lane
events_have_words p well n lane replies run is =
    subst (HoldsOfRun HasWords) (same_Some _ _ is) (run_of (here p well lane n) HasWords (λ event h. h.0) _ (lane_keeps p well lane n replies))

pub events_name_what_is_there : EventsNameWhatIsThere
unfolding source_lane
events_name_what_is_there p well n lane replies run is =
    subst (HoldsOfRun (Names p.structs p.shared (slots_of p.resources))) (same_Some _ _ is) (run_of (here p well lane n) (Names p.structs p.shared (slots_of p.resources)) (λ event h. h.1) _ (lane_keeps p well lane n replies))
