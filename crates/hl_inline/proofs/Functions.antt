-- A function that is called and the function in place do the same.
use Rattle.std.proofs.Common.{◌≡◌, ◌∙◌, refl, sym, ap, subst, ℕ, zero, suc, ◌+◌, ◌<◌, ◌≤◌, ◌⊎◌, inl, inr, false, List, [], ◌∷◌, ◌++◌, map, length, Some, slice_get, get_or, arith}
use Rattle.std.specs.Prelude.{drop, replicate, slice_index_or, take}
use Rattle.std.proofs.lemmas.List.{append_assoc, append-nil}
use Rattle.std.proofs.lemmas.Bool.{true≢false}
use Rattle.std.proofs.lemmas.Option.{none-some, same_Some, unwrap_or-slice_get}
use Rattle.std.proofs.Math.Seq.{take-append_seam}
use Rattle.lane_core.specs.Lane.{Exchange, Lane}
use Rattle.hl_meaning.specs.Types.{Ty, is_void}
use Rattle.hl_meaning.specs.Trees.{Expr}
use Rattle.hl_meaning.specs.Places.{variable_type}
use Rattle.hl_meaning.specs.Programs.{FunctionDef, Program, Variable}
use Rattle.hl_meaning.specs.WellFormed.{IsExpr, IsFunction, IsWellFormed, callee_params, one_returns}
use Rattle.hl_meaning.proofs.LayoutForms.{get-next}
use Rattle.hl_source.specs.State.{Callee, Progress, State, after, ends_at, goes_with, variable_words}
use Rattle.hl_source.specs.Memory.{zeros_of}
use Rattle.hl_source.specs.Statements.{Leaving, at_end, by_break, by_continue, by_return, does_all}
use Rattle.hl_source.specs.Expressions.{no_callee}
use Rattle.hl_source.specs.SourceLane.{callee_of, callees_after, context_of, first_state, returned_value}
use Rattle.hl_inline.specs.FlatTrees.{Flat, flat_block, flat_named}
use Rattle.hl_inline.specs.FlatViews.{flat_stmts_of}
use Rattle.hl_inline.specs.FlatLane.{FlatLeaving, flat_context, flat_end, flat_to, named_end}
use Rattle.hl_inline.specs.UsedUndeclared.{declared_in, parameter_numbers, variables_used_undeclared}
use Rattle.hl_inline.specs.EmittedStatements.{emit_stmts}
use Rattle.hl_inline.specs.Fresh.{Fresh, Instance, nameless, next_of}
use Rattle.hl_inline.specs.InlinedCalls.{Inlined, inlined_at}
use Rattle.hl_inline.specs.InlinedFunctions.{inlined, inlined_after, outside_loops, zeros_first}
use Rattle.hl_inline.proofs.Relation.{IsOutside, Keeps, Related, Stands, flat_of_context}
use Rattle.typed_laws.proofs.Variables.{count_by_sizes, variable_size}
use Rattle.typed_laws.specs.Fitting.{Fits, Yields}
use Rattle.hl_inline.proofs.Performing.{Runs, perform, perform_next, perform_one, runs_map}
use Rattle.typed_laws.proofs.Sound.{HasValue, CalleesFit, place_value}
use Rattle.hl_inline.proofs.Passing.{zeros_are}
use Rattle.hl_inline.proofs.Calls.{BeginsAs, EndsAs, InstanceIn, Inlines, body_code}
use Rattle.hl_inline.proofs.Growth.{BodyGrows, grows_refl, inlined_grows}
use Rattle.typed_laws.proofs.Typed.{ParamsSome, never}
use Rattle.hl_inline.proofs.Expressions.{CalleeIn}
use Rattle.typed_laws.specs.Laws.{LeavesAs}
use Rattle.hl_inline.proofs.UsedUndeclaredLemmas.{In, InOr, all_known_more, function_covered, in_append_cases, in_front, in_range, known_at_start, range_bounds, used_undeclared_behind}
use Rattle.hl_inline.proofs.FirstStates.{first_sizes, held_from, nothing_more, one_more, other_words, parameter_words, zeroed, zeroed_at, zeroed_exchange, zeroed_other, zeroed_runs, zeroed_sizes, zero_plus}
use Rattle.hl_inline.proofs.Statements.{DoesAs, same_name}
use Rattle.hl_inline.proofs.StatementRuns.{all_emitted}
use Rattle.typed_laws.proofs.Functions.{end_void, giving_here, leaves_in, params_there, sound_in, variables_some}
use Rattle.hl_inline.proofs.Fronts.{front_length, front_trans, nameless_length, nameless_type, type_at}

-- what is known of an instance is of the program alone, whichever function of it has it in place
module _ (p : Program) (lane : Lane) (a b : List Callee) (d e : FunctionDef) (V : List Variable) where
  instance_again : (own : Instance) (g : Inlined) (count : ℕ) (fresh : Fresh) → InstanceIn (context_of p lane a d) V own g count fresh → InstanceIn (context_of p lane b e) V own g count fresh
  instance_again own g count fresh x = record {
    below = x.below;
    constant = x.constant;
    own_type = x.own_type;
    large = x.large;
    room = x.room;
    result_type = x.result_type;
    result_place = x.result_place;
    front = x.front;
    exit = x.exit;
  }

  begins_again : (own : Instance) (g : Inlined) (parameters : List (List ℕ)) (x : Exchange) (t : State) → BeginsAs (context_of p lane a d) V own g parameters x t → BeginsAs (context_of p lane b e) V own g parameters x t
  begins_again own g parameters x t h = record { exchange = h.exchange; flat_sizes = h.flat_sizes; constants = h.constants; held = h.held; exact = h.exact }

  ends_again : (own : Instance) (g : Inlined) (count below : ℕ) (t : State) (result : List ℕ) (ended u : State) → EndsAs (context_of p lane a d) V own g count below t result ended u → EndsAs (context_of p lane b e) V own g count below t result ended u
  ends_again own g count below t result ended u h = record { exchange = h.exchange; flat_sizes = h.flat_sizes; held = h.held; keeps = h.keeps; result_held = h.result_held }

inlines_again : (p : Program) (lane : Lane) (a b : List Callee) (d e : FunctionDef) (V : List Variable) (f : Flat) (n : ℕ) (callee : Callee) (g : Inlined) → Inlines (context_of p lane a d) V f lane n callee g → Inlines (context_of p lane b e) V f lane n callee g
inlines_again p lane a b d e V f n callee g x = record {
  grows = x.grows;
  names = x.names;
  runs = λ own count fresh place parameters ex t begins.
      runs_map (EndsAs (context_of p lane a d) V own g count (next_of fresh) t) (EndsAs (context_of p lane b e) V own g count (next_of fresh) t)
      (λ result ended u h. ends_again p lane a b d e V own g count (next_of fresh) t result ended u h) (callee parameters ex) (perform f lane n (body_code g own fresh) t)
      (x.runs own count fresh (instance_again p lane b a e d V own g count fresh place) parameters ex t (begins_again p lane b a e d V own g parameters ex t begins));
}

-- what is shown of each function that may be called: as it is called, as it is inlined, and as it is defined
pub record FunctionAs (p : Program) (V : List Variable) (f : Flat) (lane : Lane) (n : ℕ) (callee : Callee) (g : Inlined) (number : ℕ) (d : FunctionDef) : Type 0 where
  pub inlines : Inlines (context_of p lane [] d) V f lane n callee g
  pub fits : (parameters : List (List ℕ)) (x : Exchange) → Yields (Fits p.structs d.result) (callee parameters x)
  pub is : IsFunction p number d
  pub grows : BodyGrows g
  pub parameters : g.parameters ≡ d.parameters
  pub variables : g.variables ≡ map nameless d.variables
  pub result : g.result ≡ d.result

-- of all functions from a number on
abbrev pub FunctionsAs : Program → List Variable → Flat → Lane → (n number : ℕ) → List Callee → List Inlined → List FunctionDef → Type 0
FunctionsAs p V f lane n number [] [] [] = Unit {0}
FunctionsAs p V f lane n number (x ∷ callees) (g ∷ inlined) (d ∷ functions) = FunctionAs p V f lane n x g number d × FunctionsAs p V f lane n (suc number) callees inlined functions
FunctionsAs p V f lane n number _ _ _ = ⊥

module _ (p : Program) (V : List Variable) (f : Flat) (lane : Lane) (n : ℕ) where
  pub functions_at : (number : ℕ) (callees : List Callee) (gs : List Inlined) (ds : List FunctionDef) → FunctionsAs p V f lane n number callees gs ds → (function : ℕ) (d : FunctionDef) → slice_get ds function ≡ Some d →
      FunctionAs p V f lane n (slice_index_or callees function no_callee) (inlined_at gs function) (number + function) d
  functions_at number [] [] [] all function d e = absurd (none-some d e)
  functions_at number [] [] (d' ∷ ds) all function d e = absurd all
  functions_at number [] (g ∷ gs) [] all function d e = absurd all
  functions_at number [] (g ∷ gs) (d' ∷ ds) all function d e = absurd all
  functions_at number (x ∷ callees) [] [] all function d e = absurd all
  functions_at number (x ∷ callees) [] (d' ∷ ds) all function d e = absurd all
  functions_at number (x ∷ callees) (g ∷ gs) [] all function d e = absurd all
  functions_at number (x ∷ callees) (g ∷ gs) (d' ∷ ds) all zero d e =
      subst (λ m. FunctionAs p V f lane n x g m d) (sym (nothing_more number)) (subst (FunctionAs p V f lane n x g number) (same_Some d' d e) all.0)
  functions_at number (x ∷ callees) (g ∷ gs) (d' ∷ ds) all (suc function) d e =
      subst (λ m. FunctionAs p V f lane n (slice_index_or callees function no_callee) (inlined_at gs function) m d) (sym (one_more number function)) (functions_at (suc number) callees gs ds all.1 function d e)

  functions_more : (number : ℕ) (callees : List Callee) (gs : List Inlined) (ds : List FunctionDef) (x : Callee) (g : Inlined) (d : FunctionDef) → FunctionsAs p V f lane n number callees gs ds →
      FunctionAs p V f lane n x g (number + length ds) d → FunctionsAs p V f lane n number (callees ++ x ∷ []) (gs ++ g ∷ []) (ds ++ d ∷ [])
  functions_more number [] [] [] x g d all one = (subst (λ m. FunctionAs p V f lane n x g m d) (nothing_more number) one, tt)
  functions_more number [] [] (d' ∷ ds) x g d all one = absurd all
  functions_more number [] (g' ∷ gs) [] x g d all one = absurd all
  functions_more number [] (g' ∷ gs) (d' ∷ ds) x g d all one = absurd all
  functions_more number (x' ∷ callees) [] [] x g d all one = absurd all
  functions_more number (x' ∷ callees) [] (d' ∷ ds) x g d all one = absurd all
  functions_more number (x' ∷ callees) (g' ∷ gs) [] x g d all one = absurd all
  functions_more number (x' ∷ callees) (g' ∷ gs) (d' ∷ ds) x g d all one =
      (all.0, functions_more (suc number) callees gs ds x g d all.1 (subst (λ m. FunctionAs p V f lane n x g m d) (one_more number (length ds)) one))

  functions_length : (number : ℕ) (callees : List Callee) (gs : List Inlined) (ds : List FunctionDef) → FunctionsAs p V f lane n number callees gs ds → length callees ≡ length ds
  functions_length number [] [] [] all = refl
  functions_length number [] [] (d ∷ ds) all = absurd all
  functions_length number [] (g ∷ gs) [] all = absurd all
  functions_length number [] (g ∷ gs) (d ∷ ds) all = absurd all
  functions_length number (x ∷ callees) [] [] all = absurd all
  functions_length number (x ∷ callees) [] (d ∷ ds) all = absurd all
  functions_length number (x ∷ callees) (g ∷ gs) [] all = absurd all
  functions_length number (x ∷ callees) (g ∷ gs) (d ∷ ds) all = ap suc (functions_length (suc number) callees gs ds all.1)

  functions_grow : (number : ℕ) (callees : List Callee) (gs : List Inlined) (ds : List FunctionDef) → FunctionsAs p V f lane n number callees gs ds → (function : ℕ) → BodyGrows (inlined_at gs function)
  functions_grow number [] [] [] all function = λ own fresh. grows_refl fresh
  functions_grow number [] [] (d ∷ ds) all function = absurd all
  functions_grow number [] (g ∷ gs) [] all function = absurd all
  functions_grow number [] (g ∷ gs) (d ∷ ds) all function = absurd all
  functions_grow number (x ∷ callees) [] [] all function = absurd all
  functions_grow number (x ∷ callees) [] (d ∷ ds) all function = absurd all
  functions_grow number (x ∷ callees) (g ∷ gs) [] all function = absurd all
  functions_grow number (x ∷ callees) (g ∷ gs) (d ∷ ds) all zero = all.0.grows
  functions_grow number (x ∷ callees) (g ∷ gs) (d ∷ ds) all (suc function) = functions_grow (suc number) callees gs ds all.1 function

-- what a program without calls knows of a program: the same structs, buffers, groupshared variables and lane
abbrev pub KnowsAs : Program → List Variable → Flat → Lane → Type 0
KnowsAs p V f lane = (d : FunctionDef) → flat_context f lane ≡ flat_of_context (context_of p lane [] d) V

-- a function behind those before it
module _ (p : Program) (well : IsWellFormed p) (V : List Variable) (f : Flat) (lane : Lane) (n : ℕ) (knows : KnowsAs p V f lane) (earlier : List Callee) (before : List Inlined) (ds : List FunctionDef) (more : List FunctionDef) (d : FunctionDef)
    (all : FunctionsAs p V f lane n 0 earlier before ds) (whole : p.functions ≡ ds ++ d ∷ more) (is : IsFunction p (length earlier) d) where
  -- the functions that may be called are those before
  before_is : take (length earlier) p.functions ≡ ds
  before_is = ap (take (length earlier)) whole ∙ (ap (λ m. take m (ds ++ d ∷ more)) (functions_length p V f lane n 0 earlier before ds all) ∙ take-append_seam ds (d ∷ more))

  function_there : (function : ℕ) (e : FunctionDef) → slice_get (take (length earlier) p.functions) function ≡ Some e → FunctionAs p V f lane n (slice_index_or earlier function no_callee) (inlined_at before function) function e
  function_there function e there =
      subst (λ m. FunctionAs p V f lane n (slice_index_or earlier function no_callee) (inlined_at before function) m e) (zero_plus function)
      (functions_at p V f lane n 0 earlier before ds all function e (ap (λ l. slice_get l function) (sym before_is) ∙ there))

  bodies : (function : ℕ) → BodyGrows (inlined_at before function)
  bodies = functions_grow p V f lane n 0 earlier before ds all

  callees_in : (function : ℕ) (e : FunctionDef) → slice_get (take (length earlier) p.functions) function ≡ Some e → CalleeIn (context_of p lane earlier d) V f lane n function e (inlined_at before function)
  callees_in function e there =
      let x = function_there function e there in
      record {
        inlines = inlines_again p lane [] earlier e d V f n (slice_index_or earlier function no_callee) (inlined_at before function) x.inlines;
        parameters = x.parameters;
        variables = x.variables;
        result = x.result;
        numbered = x.is.numbered;
        fewer = x.is.there;
      }

  callees_fit : CalleesFit (context_of p lane earlier d)
  callees_fit function e there parameters ex = (function_there function e there).fits parameters ex

  some_params : (function : ℕ) → ParamsSome (callee_params (slice_get (take (length earlier) p.functions) function))
  some_params = params_there p well lane n earlier d callees_fit

  sound_here : (e : Expr) → IsExpr (context_of p lane earlier d).scope e → HasValue (context_of p lane earlier d) e
  sound_here = sound_in p well lane n earlier d callees_fit

  leaves_here : (s : State) → Yields (LeavesAs p.structs d.result false (one_returns d.body)) (does_all (context_of p lane earlier d) n d.body s)
  leaves_here = leaves_in p well lane n earlier d callees_fit is

  grows_here : BodyGrows (inlined before d)
  grows_here = inlined_grows before d bodies

  module _ (own : Instance) (count : ℕ) (fresh : Fresh) (place : InstanceIn (context_of p lane earlier d) V own (inlined before d) count fresh) where
    own_typed : (v : ℕ) (ty : Ty) → variable_type d.variables v ≡ Some ty → variable_type V (own.first + v) ≡ Some ty
    own_typed v ty typed = place.own_type v ty (nameless_type d.variables v ∙ typed)

    large_here : length d.variables ≤ count
    large_here = subst (λ m. m ≤ count) (nameless_length d.variables) place.large

    result_there : is_void d.result ≡ false → (own.first + length d.variables ≤ own.result) × (own.result < own.first + count)
    result_there some = subst (λ m. (own.first + m ≤ own.result) × (own.result < own.first + count)) (nameless_length d.variables) (place.result_place some)

    stands_here : Stands (context_of p lane earlier d) V own.first
    stands_here = record {
      own = own_typed;
      constant = place.constant;
      below = place.below;
      room = omega (arith, large_here, place.room, front_length fresh.variables V (front_trans fresh.variables (emit_stmts before own outside_loops d.body fresh).fresh.variables V (grows_here own fresh).front place.front));
    }

    module _ (parameters : List (List ℕ)) (x : Exchange) (t : State) (begins : BeginsAs (context_of p lane earlier d) V own (inlined before d) parameters x t) where
      parameter_apart : (v : ℕ) → v < length d.parameters → (u : ℕ) → In (variables_used_undeclared d) u → own.first + v ≡ own.first + u → ⊥
      parameter_apart v low u there e = omega (arith, low, e, (used_undeclared_behind d u there).0)

      parameter_same : (v : ℕ) → v < length d.parameters → variable_words (zeroed own.first (variables_used_undeclared d) t) (own.first + v) ≡ variable_words (first_state (context_of p lane earlier d) d parameters x) v
      parameter_same v low =
          zeroed_other own.first (variables_used_undeclared d) t (own.first + v) (parameter_apart v low) ∙
          (parameter_words t own.first d.parameters parameters (map (λ y. zeros_of (context_of p lane earlier d) y.ty) (drop (length d.parameters) d.variables)) v begins.exact begins.held low ∙
          sym (unwrap_or-slice_get (first_state (context_of p lane earlier d) d parameters x).variables v []))

      used_undeclared_same : (v : ℕ) → In (variables_used_undeclared d) v → variable_words (zeroed own.first (variables_used_undeclared d) t) (own.first + v) ≡ variable_words (first_state (context_of p lane earlier d) d parameters x) v
      used_undeclared_same v there = by_type (type_at d.variables v (used_undeclared_behind d v there).1)
        where
          there_too : own.first + v < length t.variables
          there_too = omega (arith, (used_undeclared_behind d v there).1, stands_here.room, count_by_sizes (context_of p lane earlier d) V t begins.flat_sizes)

          by_type : (ty : Ty) × (variable_type d.variables v ≡ Some ty) → variable_words (zeroed own.first (variables_used_undeclared d) t) (own.first + v) ≡ variable_words (first_state (context_of p lane earlier d) d parameters x) v
          by_type (ty, typed) =
              zeroed_at own.first (variables_used_undeclared d) t v there there_too ∙
              (zeros_are (variable_words t (own.first + v)) ∙
              (ap (λ k. replicate k 0) (variable_size (context_of p lane earlier d) V t (own.first + v) ty begins.flat_sizes (own_typed v ty typed)) ∙
              (sym (subst (λ k. get_or (parameters ++ map (λ y. zeros_of (context_of p lane earlier d) y.ty) (drop k d.variables)) v [] ≡ zeros_of (context_of p lane earlier d) ty) begins.exact
              (other_words (context_of p lane earlier d) d.variables parameters v ty (omega (arith, begins.exact, (used_undeclared_behind d v there).0)) typed)) ∙
              sym (unwrap_or-slice_get (first_state (context_of p lane earlier d) d parameters x).variables v []))))

      related_start : Related (context_of p lane earlier d) V own.first (InOr (length d.variables) (known_at_start d)) (first_state (context_of p lane earlier d) d parameters x) (zeroed own.first (variables_used_undeclared d) t)
      related_start = record {
        exchange = begins.exchange ∙ sym (zeroed_exchange own.first (variables_used_undeclared d) t);
        sizes = first_sizes (context_of p lane earlier d) V t own.first d.variables d.parameters parameters begins.flat_sizes is.there begins.exact begins.held own_typed;
        flat_sizes = zeroed_sizes own.first (variables_used_undeclared d) t ∙ begins.flat_sizes;
        same = λ v low known. by_known v low known;
        constants = λ k lower. zeroed_other own.first (variables_used_undeclared d) t k (λ v there e. omega (arith, e, lower, place.below)) ∙ begins.constants k lower;
      }
        where
          by_side : (v : ℕ) → In (parameter_numbers d) v ⊎ In (variables_used_undeclared d) v → variable_words (zeroed own.first (variables_used_undeclared d) t) (own.first + v) ≡ variable_words (first_state (context_of p lane earlier d) d parameters x) v
          by_side v (inl there) = parameter_same v (omega (arith, (range_bounds 0 (length d.parameters) v there).1))
          by_side v (inr there) = used_undeclared_same v there

          by_known : (v : ℕ) → v < length d.variables → InOr (length d.variables) (known_at_start d) v → variable_words (zeroed own.first (variables_used_undeclared d) t) (own.first + v) ≡ variable_words (first_state (context_of p lane earlier d) d parameters x) v
          by_known v low (inl there) = by_side v (in_append_cases (parameter_numbers d) (variables_used_undeclared d) v there)
          by_known v low (inr past) = absurd (omega (arith, low, past))

      -- behind the body
      ends_here : (numbers : List ℕ) → ((v : ℕ) → InOr (length d.variables) (known_at_start d) v → InOr (length d.variables) numbers v) → (result : List ℕ) (s u : State) →
          Related (context_of p lane earlier d) V own.first (InOr (length d.variables) numbers) s u → Keeps own.first count (next_of fresh) (zeroed own.first (variables_used_undeclared d) t) u → (is_void d.result ≡ false → variable_words u own.result ≡ result) →
          EndsAs (context_of p lane earlier d) V own (inlined before d) count (next_of fresh) t result s u
      ends_here numbers known result s u related keep held = record {
        exchange = related.exchange;
        flat_sizes = related.flat_sizes;
        held = held_from u own.first d.parameters s.variables (omega (arith, is.there, count_by_sizes (context_of p lane earlier d) d.variables s related.sizes))
            (λ v low. related.same v (omega (arith, low, is.there)) (known v (inl (in_front (parameter_numbers d) (variables_used_undeclared d) v (in_range 0 (length d.parameters) v (omega arith) (omega (arith, low)))))) ∙ unwrap_or-slice_get s.variables v []);
        keeps = λ w lower outside. keep w lower outside ∙ zeroed_other own.first (variables_used_undeclared d) t w (λ v there e. apart w v outside there e);
        result_held = held;
      }
        where
          apart : (w v : ℕ) → IsOutside own.first count w → In (variables_used_undeclared d) v → w ≡ own.first + v → ⊥
          apart w v (inl below) there e = omega (arith, below, e)
          apart w v (inr above) there e = omega (arith, above, e, (used_undeclared_behind d v there).1, large_here)

      abbrev Behind : List ℕ → State → State → Type 0
      Behind numbers s u = Related (context_of p lane earlier d) V own.first (InOr (length d.variables) numbers) s u × Keeps own.first count (next_of fresh) (zeroed own.first (variables_used_undeclared d) t) u

      abbrev Returned : List ℕ → State → Type 0
      Returned value u = is_void d.result ≡ false → variable_words u own.result ≡ value

      emitted_code : DoesAs own.exit 0 0 (Behind (declared_in (known_at_start d) d.body)) (Behind (known_at_start d)) (Behind (known_at_start d)) Returned
          (does_all (context_of p lane earlier d) n d.body (first_state (context_of p lane earlier d) d parameters x)) (perform f lane n (emit_stmts before own outside_loops d.body fresh).code (zeroed own.first (variables_used_undeclared d) t))
      emitted_code =
          all_emitted (context_of p lane earlier d) V own.first stands_here f lane n (knows d) before own refl bodies callees_in some_params sound_here (place_value (context_of p lane earlier d)) (variables_some p (length earlier) d is)
          count large_here result_there place.result_type d.body false is.body (known_at_start d) (function_covered d) outside_loops fresh (place.room, place.front, place.exit)
          (first_state (context_of p lane earlier d) d parameters x) (zeroed own.first (variables_used_undeclared d) t) related_start

      -- the body in its name, which a `return` leaves
      named_body : (r : Progress FlatLeaving) → perform f lane n (emit_stmts before own outside_loops d.body fresh).code (zeroed own.first (variables_used_undeclared d) t) ≡ r →
          perform f lane n (body_code (inlined before d) own fresh) t ≡ after r (named_end own.exit)
      named_body r e =
          perform_one f lane n (flat_named own.exit (flat_block (flat_stmts_of (zeros_first own d ++ (emit_stmts before own outside_loops d.body fresh).code)))) t ∙
          ap (λ q. after q (named_end own.exit))
          (perform_next f lane n (zeros_first own d) (emit_stmts before own outside_loops d.body fresh).code t (zeroed own.first (variables_used_undeclared d) t) (zeroed_runs f lane n own.first (variables_used_undeclared d) t) ∙ e)

      runs_here : Runs (EndsAs (context_of p lane earlier d) V own (inlined before d) count (next_of fresh) t) (callee_of (context_of p lane earlier d) n d parameters x) (perform f lane n (body_code (inlined before d) own fresh) t)
      runs_here =
          by_leaving (does_all (context_of p lane earlier d) n d.body (first_state (context_of p lane earlier d) d parameters x)) (leaves_here (first_state (context_of p lane earlier d) d parameters x)) emitted_code
        where
          by_leaving : (q : Progress Leaving) → Yields (LeavesAs p.structs d.result false (one_returns d.body)) q →
              DoesAs own.exit 0 0 (Behind (declared_in (known_at_start d) d.body)) (Behind (known_at_start d)) (Behind (known_at_start d)) Returned q (perform f lane n (emit_stmts before own outside_loops d.body fresh).code (zeroed own.first (variables_used_undeclared d) t)) →
              Runs (EndsAs (context_of p lane earlier d) V own (inlined before d) count (next_of fresh) t) (after q (λ leaving s. goes_with (returned_value leaving) s)) (perform f lane n (body_code (inlined before d) own fresh) t)
          by_leaving (ends_at run) l e = named_body (ends_at run) e
          by_leaving (goes_with at_end s) l (u, e, b) = (
            u,
            named_body (goes_with flat_end u) e,
            ends_here (declared_in (known_at_start d) d.body) (all_known_more (length d.variables) (known_at_start d) d.body) [] s u b.0 b.1 (λ some. absurd (true≢false (sym (end_void d is.returns l) ∙ some))),
          )
          by_leaving (goes_with by_break s) l e = never l
          by_leaving (goes_with by_continue s) l e = never l
          by_leaving (goes_with (by_return value) s) l (u, e, b, held) =
              (u, named_body (goes_with (flat_to own.exit) u) e ∙ same_name own.exit u, ends_here (known_at_start d) (λ v known. known) value s u b.0 b.1 held)

  -- what is shown of each function holds of the next one
  pub function_as : FunctionAs p V f lane n (callee_of (context_of p lane earlier d) n d) (inlined before d) (length earlier) d
  function_as = record {
    inlines = inlines_again p lane earlier [] d d V f n (callee_of (context_of p lane earlier d) n d) (inlined before d) (record {
      grows = λ own fresh. (grows_here own fresh).front;
      names = λ own fresh. (grows_here own fresh).names;
      runs = λ own count fresh place parameters x t begins. runs_here own count fresh place parameters x t begins;
    });
    fits = giving_here p well lane n earlier d callees_fit is;
    is = is;
    grows = grows_here;
    parameters = refl;
    variables = refl;
    result = refl;
  }

-- all functions of a program, behind those that are shown
pub functions_as : (p : Program) → IsWellFormed p → (V : List Variable) (f : Flat) (lane : Lane) (n : ℕ) → KnowsAs p V f lane → (earlier : List Callee) (before : List Inlined) (ds more : List FunctionDef) →
    FunctionsAs p V f lane n 0 earlier before ds → p.functions ≡ ds ++ more → FunctionsAs p V f lane n 0 (callees_after p lane n earlier more) (inlined_after before more) (ds ++ more)
functions_as p well V f lane n knows earlier before ds [] all whole = subst (FunctionsAs p V f lane n 0 earlier before) (sym (append-nil ds)) all
functions_as p well V f lane n knows earlier before ds (d ∷ more) all whole =
    subst (FunctionsAs p V f lane n 0 (callees_after p lane n earlier (d ∷ more)) (inlined_after before (d ∷ more))) (append_assoc ds (d ∷ []) more)
    (functions_as p well V f lane n knows (earlier ++ callee_of (context_of p lane earlier d) n d ∷ []) (before ++ inlined before d ∷ []) (ds ++ d ∷ []) more
    (functions_more p V f lane n 0 earlier before ds (callee_of (context_of p lane earlier d) n d) (inlined before d) d all
    (subst (λ m. FunctionAs p V f lane n (callee_of (context_of p lane earlier d) n d) (inlined before d) m d) (many (length earlier) (length ds) (functions_length p V f lane n 0 earlier before ds all))
    (function_as p well V f lane n knows earlier before ds more d all whole is)))
    (whole ∙ sym (append_assoc ds (d ∷ []) more)))
  where
    many : (a b : ℕ) → a ≡ b → a ≡ 0 + b
    many a b e = omega (arith, e)

    is : IsFunction p (length earlier) d
    is = well.functions (length earlier) d
        (ap (λ l. slice_get l (length earlier)) whole ∙ (ap (slice_get (ds ++ d ∷ more)) (functions_length p V f lane n 0 earlier before ds all) ∙ get-next ds d more))
