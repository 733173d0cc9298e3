-- What becomes of each statement of a function does what the statement does.
use Rattle.std.proofs.Common.{◌≡◌, ◌∙◌, refl, sym, ap, subst, ℕ, suc, ◌+◌, ◌<◌, ◌≤◌, ◌⊎◌, inl, inr, Bool, true, false, List, [], ◌∷◌, ◌++◌, map, length, Option, None, Some, slice_get, arith}
use Rattle.std.specs.Prelude.{if◌then◌else◌, IsTrue, not, slice_index}
use Rattle.std.proofs.lemmas.List.{append_assoc, length-map}
use Rattle.std.proofs.lemmas.Bool.{true≢false}
use Rattle.lane_core.specs.Lane.{Lane}
use Rattle.hl_meaning.specs.Types.{Ty, is_void}
use Rattle.hl_meaning.specs.Trees.{Args, Expr, Form, Location, MaybeStmt, Stmt, Stmts, an_expr, atomic_form, binary_form, block_stmt, break_stmt, build_form, call_form, choose_form, continue_stmt, convert_form, do_stmt, for_stmt, if_stmt, intrinsic_form, literal_form, local_stmt, method_form, more_stmts, no_stmt, no_stmts, pick_form, read_form, return_stmt, run_stmt, some_stmt, type_of, unary_form, while_stmt, write_form}
use Rattle.hl_meaning.specs.Places.{variable_type}
use Rattle.hl_meaning.specs.Programs.{FunctionDef, Variable}
use Rattle.hl_meaning.specs.Layout.{words_of}
use Rattle.hl_meaning.specs.WellFormed.{AreStmts, IsCondition, IsConditionIf, IsExpr, IsExprIf, IsLocal, IsPlace, IsReturn, IsStmt, IsStmtIf, callee_params}
use Rattle.lane_core.specs.Words.{holds}
use Rattle.hl_source.specs.State.{Context, Progress, State, after, ends_at, goes_with, variable_words, with_variable}
use Rattle.hl_source.specs.Statements.{Doing, after_body, after_statement, at_end, by_break, by_return, choice, computes, computes_if, condition, condition_if, declares, do_turn, does, does_all, does_if, for_turn, leaves, returns, turns}
use Rattle.hl_source.specs.Expressions.{evaluates}
use Rattle.hl_inline.specs.FlatTrees.{Flat, FlatStmt, MaybeFlatStmt, flat_block, flat_if, flat_leave, flat_local, flat_loop, flat_named, flat_run, no_flat_stmts, some_flat_stmt}
use Rattle.hl_inline.specs.FlatViews.{flat_stmts_of}
use Rattle.hl_inline.specs.FlatLane.{FlatDoing, FlatLeaving, flat_choice, flat_context, flat_done, flat_end, flat_to, performs, performs_if, then_flat}
use Rattle.hl_inline.specs.Occurrences.{expr_option_occurrences}
use Rattle.hl_inline.specs.UsedUndeclared.{declared_by, declared_in}
use Rattle.hl_inline.specs.EmittedCode.{EmittedCode, as_alternative, as_one, emitted_stmt, emitted_then}
use Rattle.hl_inline.specs.EmittedExpressions.{emitted, emitter}
use Rattle.hl_inline.specs.EmittedStatements.{Jumps, block_of, choice_of, emit_body, emit_local, emit_loop, emit_return, emit_run, emit_run_if, emit_stmt, emit_stmt_if, emit_stmts, emit_test, emit_test_if, is_call, jumps_of, run_of, set_to, with_jumps}
use Rattle.hl_inline.specs.Fresh.{Fresh, Instance, next_of}
use Rattle.hl_inline.specs.InlinedCalls.{Inlined, call, inlined_at}
use Rattle.typed_laws.proofs.ProgressLemmas.{after_assoc, after_cong}
use Rattle.typed_laws.proofs.OperandValues.{is_call_form}
use Rattle.hl_inline.proofs.OperandLemmas.{args_by, args_emitters_all}
use Rattle.hl_inline.proofs.Relation.{IsOutside, Keeps, Related, Stands, flat_of_context, outside_set, related_set}
use Rattle.typed_laws.proofs.Variables.{count_by_sizes, sizes_at, sizes_in, variable_size, words_set_other, words_set_same}
use Rattle.typed_laws.specs.Fitting.{Fits}
use Rattle.typed_laws.proofs.Fitting.{fits_length}
use Rattle.hl_inline.proofs.Performing.{Runs, perform, perform_one}
use Rattle.hl_inline.proofs.Emission.{Emits, HasRoom, Later, related_set_other}
use Rattle.typed_laws.proofs.Sound.{HasValue, HasPlaceValue}
use Rattle.hl_inline.proofs.Calls.{CallReady, call_called}
use Rattle.hl_inline.proofs.Growth.{BodyGrows, Grows, grows_trans, loop_grows, maybe_grows, run_if_grows, stmt_grows, stmts_grow, test_if_grows, value_grows}
use Rattle.typed_laws.proofs.ValueFits.{yields_any}
use Rattle.typed_laws.proofs.Typed.{IsSome, ParamsSome}
use Rattle.hl_inline.proofs.Covered.{Covers, CoversExpr}
use Rattle.hl_inline.proofs.Expressions.{CalleeIn, call_ready, emits, emits_plain, operands_emitted}
use Rattle.hl_inline.proofs.UsedUndeclaredLemmas.{CoveredAll, CoveredIf, CoveredStmt, In, InOr, all_known_more, in_cases, known_more}
use Rattle.hl_inline.proofs.Statements.{DoesAs, TurnAs, body_turn, does_map, does_next, opens_does, performs_alternative, performs_as_one, turns_alike}
use Rattle.hl_inline.proofs.Fronts.{IsFront, front_length, front_trans, type_at, type_there}

-- another set of variables in the relation: one that holds less
pub related_less : (c : Context) (V : List Variable) (first : ℕ) (D E : ℕ → Type 0) (s t : State) → ((v : ℕ) → E v → D v) → Related c V first D s t → Related c V first E s t
related_less c V first D E s t less r = record { exchange = r.exchange; sizes = r.sizes; flat_sizes = r.flat_sizes; same = λ v low e. r.same v low (less v e); constants = r.constants }

runs_does : (exit break_to continue_to : ℕ) (R : List ℕ → State → State → Type 0) (A J C : State → State → Type 0) (W : List ℕ → State → Type 0) (p : Progress (List ℕ)) (q : Progress FlatLeaving) → ((a : List ℕ) (s t : State) → R a s t → A s t) →
    Runs R p q → DoesAs exit break_to continue_to A J C W (after p (λ _ s. goes_with at_end s)) q
runs_does exit break_to continue_to R A J C W (goes_with a s) q h (t, e, r) = (t, e, h a s t r)
runs_does exit break_to continue_to R A J C W (ends_at run) q h e = e

-- zeros are as many as the words before
zeros_alike : (xs ys : List ℕ) → length xs ≡ length ys → map {B = ℕ} (λ _. 0) xs ≡ map (λ _. 0) ys
zeros_alike [] [] e = refl
zeros_alike [] (y ∷ ys) e = absurd (omega (arith, e))
zeros_alike (x ∷ xs) [] e = absurd (omega (arith, e))
zeros_alike (x ∷ xs) (y ∷ ys) e = ap (λ l. 0 ∷ l) (zeros_alike xs ys (omega (arith, e)))

-- a variable of the function has the words of its type
source_size : (c : Context) (s : State) (v : ℕ) (ty : Ty) → sizes_at s ≡ sizes_in c c.scope.variables → variable_type c.scope.variables v ≡ Some ty → length (variable_words s v) ≡ words_of c.scope.structs ty
source_size c s v ty sizes typed = variable_size c c.scope.variables s v ty sizes typed

module _ (c : Context) (V : List Variable) (first : ℕ) (stands : Stands c V first) (f : Flat) (lane : Lane) (n : ℕ) (known : flat_context f lane ≡ flat_of_context c V) (k : List Inlined) (i : Instance) (is : i.first ≡ first)
    (bodies : (function : ℕ) → BodyGrows (inlined_at k function)) (callees : (function : ℕ) (d : FunctionDef) → slice_get c.scope.functions function ≡ Some d → CalleeIn c V f lane n function d (inlined_at k function)) (some_params : (function : ℕ) → ParamsSome (callee_params (slice_get c.scope.functions function)))
    (sound : (e : Expr) → IsExpr c.scope e → HasValue c e) (place_sound : (place : Location) → IsPlace c.scope place → HasPlaceValue c place)
    (local_type : (v : ℕ) (ty : Ty) → variable_type c.scope.variables v ≡ Some ty → IsSome ty)
    (count : ℕ) (large : length c.scope.variables ≤ count) (result_place : is_void c.scope.result ≡ false → (first + length c.scope.variables ≤ i.result) × (i.result < first + count)) (result_type : is_void c.scope.result ≡ false → variable_type V i.result ≡ Some c.scope.result) where
  -- what is declared, or may be used before
  abbrev pub Known : List ℕ → ℕ → Type 0
  Known numbers = InOr (length c.scope.variables) numbers

  -- what holds behind a statement
  abbrev pub AfterAs : List ℕ → (below : ℕ) → State → State → State → Type 0
  AfterAs numbers below t s u = Related c V first (Known numbers) s u × Keeps first count below t u

  -- a value that is returned stands in the variable of the result
  abbrev pub ReturnedAs : List ℕ → State → Type 0
  ReturnedAs value t = is_void c.scope.result ≡ false → variable_words t i.result ≡ value

  -- there is room for the function and its result below what is free, and its exit isn't free
  abbrev pub HasPlace : (fresh after : Fresh) → Type 0
  HasPlace fresh after = (first + count ≤ next_of fresh) × IsFront after.variables V × (i.exit < fresh.names)

  keeps_wide : (below : ℕ) (t u : State) → Keeps first (length c.scope.variables) below t u → Keeps first count below t u
  keeps_wide below t u keep w lower outside = keep w lower (by_side outside)
    where
      by_side : IsOutside first count w → IsOutside first (length c.scope.variables) w
      by_side (inl low) = inl low
      by_side (inr high) = inr (omega (arith, high, large))

  keep_on : (below more : ℕ) (t u v : State) → below ≤ more → Keeps first count below t u → Keeps first count more u v → Keeps first count below t v
  keep_on below more t u v low l m w lower outside = m w (omega (arith, low, lower)) outside ∙ l w lower outside

  -- what holds behind an expression
  later_after : (numbers : List ℕ) (below : ℕ) (t s u : State) → Later c V first (Known numbers) below t s u → AfterAs numbers below t s u
  later_after numbers below t s u later = (later.0, keeps_wide below t u later.1)

  room_of : (fresh after : Fresh) → HasPlace fresh after → HasRoom c V first stands f lane n known fresh after
  room_of fresh after room = (omega (arith, room.0, large), room.1)

  -- a variable is set to a value
  declares_after : (w : ℕ) (e : Expr) (u : State) → perform f lane n (flat_local w (Some e) ∷ []) u ≡ after (evaluates (flat_of_context c V) e u) (λ words s1. goes_with flat_end (with_variable w words s1))
  declares_after w e u =
      perform_one f lane n (flat_local w (Some e)) u ∙ (ap (λ d. flat_done (declares d w (Some e) u)) known ∙
      after_assoc (evaluates (flat_of_context c V) e u) (λ words s1. goes_with at_end (with_variable w words s1)) (λ _ s1. goes_with flat_end s1))

  -- expressions

  value_emits : (numbers : List ℕ) (value : Expr) → IsExpr c.scope value → IsSome (type_of value) → CoversExpr (Known numbers) value → Emits c V first stands f lane n known (Known numbers) value (emitter k i value)
  value_emits numbers value h some covers = emits c V first stands f lane n known k i is callees some_params sound place_sound (Known numbers) value (h, some) covers

  -- a value that isn't used, of an expression that isn't a call
  plain_run : (exit break_to continue_to : ℕ) (numbers : List ℕ) (value : Expr) → Emits c V first stands f lane n known (Known numbers) value (emitter k i value) → (C : State → State → Type 0) (fresh : Fresh) → HasPlace fresh (run_of false (emitted k i value fresh)).fresh → (s t : State) → Related c V first (Known numbers) s t →
      DoesAs exit break_to continue_to (AfterAs numbers (next_of fresh) t) (AfterAs numbers (next_of fresh) t) C ReturnedAs (computes c value s) (perform f lane n (run_of false (emitted k i value fresh)).code t)
  plain_run exit break_to continue_to numbers value em C fresh room s t r =
      opens_does exit break_to continue_to f lane n (AfterAs numbers (next_of fresh) t) (AfterAs numbers (next_of fresh) t) C ReturnedAs (Keeps first (length c.scope.variables) (next_of fresh) t) (Later c V first (Known numbers) (next_of fresh) t) (λ x. Unit {0})
      (emitted k i value fresh).code (flat_run (emitted k i value fresh).value ∷ []) t (evaluates c value s) (evaluates (flat_of_context c V) (emitted k i value fresh).value) (λ _ s1. goes_with at_end s1) (λ _ u. goes_with flat_end u)
      (em.opens fresh (room_of fresh (emitted k i value fresh).fresh room) s t r) (yields_any (λ x. Unit {0}) (λ x. tt) (evaluates c value s))
      (λ u. perform_one f lane n (flat_run (emitted k i value fresh).value) u ∙ ap (λ d. flat_done (evaluates d (emitted k i value fresh).value u)) known)
      (λ x s1 u _ later. (u, refl, later_after numbers (next_of fresh) t s1 u later))

  -- what is left of a call that isn't used is its code
  call_run : (exit break_to continue_to : ℕ) (numbers : List ℕ) (ty : Ty) (at function : ℕ) (args : Args) → IsExpr c.scope (an_expr ty at (call_form function args)) → CoversExpr (Known numbers) (an_expr ty at (call_form function args)) → (C : State → State → Type 0) (fresh : Fresh) →
      HasPlace fresh (run_of true (emitted k i (an_expr ty at (call_form function args)) fresh)).fresh → (s t : State) → Related c V first (Known numbers) s t →
      DoesAs exit break_to continue_to (AfterAs numbers (next_of fresh) t) (AfterAs numbers (next_of fresh) t) C ReturnedAs (computes c (an_expr ty at (call_form function args)) s)
      (perform f lane n (run_of true (emitted k i (an_expr ty at (call_form function args)) fresh)).code t)
  call_run exit break_to continue_to numbers ty at function args h covers C fresh =
      subst (λ l. HasPlace fresh ((call i ty at (inlined_at k function) l).emit fresh).fresh → (s t : State) → Related c V first (Known numbers) s t →
      DoesAs exit break_to continue_to (AfterAs numbers (next_of fresh) t) (AfterAs numbers (next_of fresh) t) C ReturnedAs (computes c (an_expr ty at (call_form function args)) s)
      (perform f lane n ((call i ty at (inlined_at k function) l).emit fresh).code t)) (sym (args_emitters_all k i args))
      (λ room s t r.
      runs_does exit break_to continue_to _ (AfterAs numbers (next_of fresh) t) (AfterAs numbers (next_of fresh) t) C ReturnedAs (evaluates c (an_expr ty at (call_form function args)) s) _ (λ a s1 u called. later_after numbers (next_of fresh) t s1 u called.0)
      (call_called c V first stands f lane n known (Known numbers) (emitter k i) i is ty at function args (inlined_at k function) (ready numbers covers) fresh (room_of fresh ((call i ty at (inlined_at k function) (args_by (emitter k i) args)).emit fresh).fresh room) s t r))
    where
      ready : (numbers : List ℕ) → CoversExpr (Known numbers) (an_expr ty at (call_form function args)) → CallReady c V first stands f lane n known (Known numbers) (emitter k i) function ty args (inlined_at k function)
      ready numbers covers =
          call_ready c V first stands f lane n known k i is callees some_params sound place_sound (Known numbers) ty function args h.1
          (operands_emitted c V first stands f lane n known k i is callees some_params sound place_sound (Known numbers) (call_form function args)) covers

  call_form_is : (ty : Ty) (at : ℕ) (form : Form) → is_call (an_expr ty at form) ≡ is_call_form form
  call_form_is ty at (literal_form word) = refl
  call_form_is ty at (read_form place) = refl
  call_form_is ty at (write_form to op common value old) = refl
  call_form_is ty at (convert_form value) = refl
  call_form_is ty at (unary_form op value) = refl
  call_form_is ty at (binary_form op left right) = refl
  call_form_is ty at (choose_form cond consequent alternative) = refl
  call_form_is ty at (build_form parts) = refl
  call_form_is ty at (pick_form value parts) = refl
  call_form_is ty at (call_form function args) = refl
  call_form_is ty at (intrinsic_form number args) = refl
  call_form_is ty at (method_form resource count address value) = refl
  call_form_is ty at (atomic_form target kind compare value original) = refl

  -- what is shown of code in place of a statement whose code is emitted from a state on
  abbrev pub EmittedCodeAs : (exit break_to continue_to : ℕ) → (before behind : List ℕ) → Doing → EmittedCode → Fresh → Type 0
  EmittedCodeAs exit break_to continue_to before behind doing emitted_stmt fresh =
      HasPlace fresh emitted_stmt.fresh → (s t : State) → Related c V first (Known before) s t →
      DoesAs exit break_to continue_to (AfterAs behind (next_of fresh) t) (AfterAs before (next_of fresh) t) (AfterAs before (next_of fresh) t) ReturnedAs (doing s) (perform f lane n emitted_stmt.code t)

  -- expressions as statements

  emits_form : (numbers : List ℕ) (ty : Ty) (at : ℕ) (form : Form) → is_call_form form ≡ false → IsExpr c.scope (an_expr ty at form) → CoversExpr (Known numbers) (an_expr ty at form) →
      Emits c V first stands f lane n known (Known numbers) (an_expr ty at form) (emitter k i (an_expr ty at form))
  emits_form numbers ty at form plain h covers = emits_plain c V first stands f lane n known k i is callees some_params sound place_sound (Known numbers) ty at form plain h covers

  plain_emitted : (exit break_to continue_to : ℕ) (numbers : List ℕ) (ty : Ty) (at : ℕ) (form : Form) → is_call_form form ≡ false → IsExpr c.scope (an_expr ty at form) → CoversExpr (Known numbers) (an_expr ty at form) → (fresh : Fresh) →
      EmittedCodeAs exit break_to continue_to numbers numbers (computes c (an_expr ty at form)) (emit_run k i (an_expr ty at form) fresh) fresh
  plain_emitted exit break_to continue_to numbers ty at form plain h covers fresh =
      subst (λ b. EmittedCodeAs exit break_to continue_to numbers numbers (computes c (an_expr ty at form)) (run_of b (emitted k i (an_expr ty at form) fresh)) fresh) (sym (call_form_is ty at form ∙ plain))
      (λ room s t r. plain_run exit break_to continue_to numbers (an_expr ty at form) (emits_form numbers ty at form plain h covers) (AfterAs numbers (next_of fresh) t) fresh room s t r)

  run_emitted : (exit break_to continue_to : ℕ) (numbers : List ℕ) (value : Expr) → IsExpr c.scope value → CoversExpr (Known numbers) value → (fresh : Fresh) → EmittedCodeAs exit break_to continue_to numbers numbers (computes c value) (emit_run k i value fresh) fresh
  run_emitted exit break_to continue_to numbers (an_expr ty at (literal_form word)) h covers fresh = plain_emitted exit break_to continue_to numbers ty at (literal_form word) refl h covers fresh
  run_emitted exit break_to continue_to numbers (an_expr ty at (read_form place)) h covers fresh = plain_emitted exit break_to continue_to numbers ty at (read_form place) refl h covers fresh
  run_emitted exit break_to continue_to numbers (an_expr ty at (write_form to op common value old)) h covers fresh = plain_emitted exit break_to continue_to numbers ty at (write_form to op common value old) refl h covers fresh
  run_emitted exit break_to continue_to numbers (an_expr ty at (convert_form value)) h covers fresh = plain_emitted exit break_to continue_to numbers ty at (convert_form value) refl h covers fresh
  run_emitted exit break_to continue_to numbers (an_expr ty at (unary_form op value)) h covers fresh = plain_emitted exit break_to continue_to numbers ty at (unary_form op value) refl h covers fresh
  run_emitted exit break_to continue_to numbers (an_expr ty at (binary_form op left right)) h covers fresh = plain_emitted exit break_to continue_to numbers ty at (binary_form op left right) refl h covers fresh
  run_emitted exit break_to continue_to numbers (an_expr ty at (choose_form cond consequent alternative)) h covers fresh = plain_emitted exit break_to continue_to numbers ty at (choose_form cond consequent alternative) refl h covers fresh
  run_emitted exit break_to continue_to numbers (an_expr ty at (build_form parts)) h covers fresh = plain_emitted exit break_to continue_to numbers ty at (build_form parts) refl h covers fresh
  run_emitted exit break_to continue_to numbers (an_expr ty at (pick_form value parts)) h covers fresh = plain_emitted exit break_to continue_to numbers ty at (pick_form value parts) refl h covers fresh
  run_emitted exit break_to continue_to numbers (an_expr ty at (call_form function args)) h covers fresh = λ room s t r. call_run exit break_to continue_to numbers ty at function args h covers (AfterAs numbers (next_of fresh) t) fresh room s t r
  run_emitted exit break_to continue_to numbers (an_expr ty at (intrinsic_form number args)) h covers fresh = plain_emitted exit break_to continue_to numbers ty at (intrinsic_form number args) refl h covers fresh
  run_emitted exit break_to continue_to numbers (an_expr ty at (method_form resource count address value)) h covers fresh = plain_emitted exit break_to continue_to numbers ty at (method_form resource count address value) refl h covers fresh
  run_emitted exit break_to continue_to numbers (an_expr ty at (atomic_form target kind compare value original)) h covers fresh = plain_emitted exit break_to continue_to numbers ty at (atomic_form target kind compare value original) refl h covers fresh

  -- declarations

  local_none : (exit break_to continue_to : ℕ) (numbers : List ℕ) (variable : ℕ) → variable < length c.scope.variables → (fresh : Fresh) →
      EmittedCodeAs exit break_to continue_to numbers (variable ∷ numbers) (declares c variable None) (emitted_stmt (flat_local (i.first + variable) None) fresh) fresh
  local_none exit break_to continue_to numbers variable low fresh room s t r =
      subst (λ m. DoesAs exit break_to continue_to (AfterAs (variable ∷ numbers) (next_of fresh) t) (AfterAs numbers (next_of fresh) t) (AfterAs numbers (next_of fresh) t) ReturnedAs (declares c variable None s) (perform f lane n (flat_local (m + variable) None ∷ []) t)) (sym is) (
        with_variable (first + variable) (map (λ _. 0) (variable_words t (first + variable))) t,
        refl,
        (
          subst (λ l. Related c V first (Known (variable ∷ numbers)) (with_variable variable (map (λ _. 0) (variable_words s variable)) s) (with_variable (first + variable) l t)) same
              (related_set c V first (Known numbers) (Known (variable ∷ numbers)) variable (map (λ _. 0) (variable_words s variable)) s t stands r low among (length-map (variable_words s variable) (λ _. 0)) (length-map (variable_words s variable) (λ _. 0) ∙ long)),
          keeps_wide (next_of fresh) t (with_variable (first + variable) (map (λ _. 0) (variable_words t (first + variable))) t) (λ w lower outside. outside_set first (length c.scope.variables) variable (map (λ _. 0) (variable_words t (first + variable))) t low w outside),
        ),
      )
    where
      typed : (ty : Ty) × (variable_type c.scope.variables variable ≡ Some ty)
      typed = type_at c.scope.variables variable low

      long : length (variable_words s variable) ≡ length (variable_words t (first + variable))
      long = source_size c s variable (type_at c.scope.variables variable low).0 r.sizes (type_at c.scope.variables variable low).1 ∙
          sym (variable_size c V t (first + variable) (type_at c.scope.variables variable low).0 r.flat_sizes (stands.own variable (type_at c.scope.variables variable low).0 (type_at c.scope.variables variable low).1))

      same : map {B = ℕ} (λ _. 0) (variable_words s variable) ≡ map (λ _. 0) (variable_words t (first + variable))
      same = zeros_alike (variable_words s variable) (variable_words t (first + variable)) long

      among : (u : ℕ) → Known (variable ∷ numbers) u → Known numbers u ⊎ (u ≡ variable)
      among u (inl h) = by_case (in_cases variable u numbers h)
        where
          by_case : (u ≡ variable) ⊎ In numbers u → Known numbers u ⊎ (u ≡ variable)
          by_case (inl e) = inr e
          by_case (inr h) = inl (inl h)
      among u (inr past) = inl (inr past)

  local_some : (exit break_to continue_to : ℕ) (numbers : List ℕ) (variable : ℕ) (init : Expr) → IsExpr c.scope init → variable_type c.scope.variables variable ≡ Some (type_of init) → IsSome (type_of init) → CoversExpr (Known numbers) init → (fresh : Fresh) →
      EmittedCodeAs exit break_to continue_to numbers (variable ∷ numbers) (declares c variable (Some init)) (set_to (i.first + variable) (emitted k i init fresh)) fresh
  local_some exit break_to continue_to numbers variable init h typed some covers fresh room s t r =
      subst (λ m. DoesAs exit break_to continue_to (AfterAs (variable ∷ numbers) (next_of fresh) t) (AfterAs numbers (next_of fresh) t) (AfterAs numbers (next_of fresh) t) ReturnedAs (declares c variable (Some init) s)
      (perform f lane n ((emitted k i init fresh).code ++ flat_local (m + variable) (Some (emitted k i init fresh).value) ∷ []) t)) (sym is)
      (opens_does exit break_to continue_to f lane n (AfterAs (variable ∷ numbers) (next_of fresh) t) (AfterAs numbers (next_of fresh) t) (AfterAs numbers (next_of fresh) t) ReturnedAs (Keeps first (length c.scope.variables) (next_of fresh) t) (Later c V first (Known numbers) (next_of fresh) t)
      (Fits c.scope.structs (type_of init)) (emitted k i init fresh).code (flat_local (first + variable) (Some (emitted k i init fresh).value) ∷ []) t (evaluates c init s) (evaluates (flat_of_context c V) (emitted k i init fresh).value)
      (λ words s1. goes_with at_end (with_variable variable words s1)) (λ words u. goes_with flat_end (with_variable (first + variable) words u))
      ((value_emits numbers init h some covers).opens fresh (room_of fresh (emitted k i init fresh).fresh room) s t r) ((sound init h).fits s)
      (λ u. declares_after (first + variable) (emitted k i init fresh).value u)
      (λ words s1 u fits later. (
        with_variable (first + variable) words u,
        refl,
        (
          related_set c V first (Known numbers) (Known (variable ∷ numbers)) variable words s1 u stands later.0 low among
              (fits_length c.scope.structs (type_of init) words fits ∙ sym (source_size c s1 variable (type_of init) later.0.sizes typed))
              (fits_length c.scope.structs (type_of init) words fits ∙ sym (variable_size c V u (first + variable) (type_of init) later.0.flat_sizes (stands.own variable (type_of init) typed))),
          keeps_wide (next_of fresh) t (with_variable (first + variable) words u)
              (λ w lower outside. outside_set first (length c.scope.variables) variable words u low w outside ∙ later.1 w lower outside),
        ),
      )))
    where
      low : variable < length c.scope.variables
      low = type_there c.scope.variables variable (type_of init) typed

      among : (u : ℕ) → Known (variable ∷ numbers) u → Known numbers u ⊎ (u ≡ variable)
      among u (inl h) = by_case (in_cases variable u numbers h)
        where
          by_case : (u ≡ variable) ⊎ In numbers u → Known numbers u ⊎ (u ≡ variable)
          by_case (inl e) = inr e
          by_case (inr h) = inl (inl h)
      among u (inr past) = inl (inr past)

  -- returns

  return_some : (break_to continue_to : ℕ) (numbers : List ℕ) (value : Expr) → IsExpr c.scope value → type_of value ≡ c.scope.result → IsSome c.scope.result → CoversExpr (Known numbers) value → (fresh : Fresh) →
      EmittedCodeAs i.exit break_to continue_to numbers numbers (returns c (Some value)) (emit_return k i (Some value) fresh) fresh
  return_some break_to continue_to numbers value h typed some covers fresh room s t r =
      subst (λ code. DoesAs i.exit break_to continue_to (AfterAs numbers (next_of fresh) t) (AfterAs numbers (next_of fresh) t) (AfterAs numbers (next_of fresh) t) ReturnedAs (returns c (Some value) s) (perform f lane n code t))
      (sym (append_assoc (emitted k i value fresh).code (flat_local i.result (Some (emitted k i value fresh).value) ∷ []) (flat_leave i.exit ∷ [])))
      (opens_does i.exit break_to continue_to f lane n (AfterAs numbers (next_of fresh) t) (AfterAs numbers (next_of fresh) t) (AfterAs numbers (next_of fresh) t) ReturnedAs (Keeps first (length c.scope.variables) (next_of fresh) t) (Later c V first (Known numbers) (next_of fresh) t)
      (Fits c.scope.structs (type_of value)) (emitted k i value fresh).code (flat_local i.result (Some (emitted k i value fresh).value) ∷ flat_leave i.exit ∷ []) t (evaluates c value s) (evaluates (flat_of_context c V) (emitted k i value fresh).value)
      (λ words s1. goes_with (by_return words) s1) (λ words u. goes_with (flat_to i.exit) (with_variable i.result words u))
      ((value_emits numbers value h (ap is_void typed ∙ some) covers).opens fresh (room_of fresh (emitted k i value fresh).fresh room) s t r) ((sound value h).fits s)
      (λ u. leaves_after (emitted k i value fresh).value u)
      (λ words s1 u fits later. (
        with_variable i.result words u,
        refl,
        (
          related_set_other c V first (Known numbers) i.result words s1 u stands.below later.0 (result_place some).0 (long words u fits later.0.flat_sizes),
          λ w lower outside. words_set_other i.result w words u (apart w outside) ∙ keeps_wide (next_of fresh) t u later.1 w lower outside,
        ),
        λ _. words_set_same i.result words u (subst (λ m. i.result < m) (sym (count_by_sizes c V u later.0.flat_sizes)) (type_there V i.result c.scope.result (result_type some))),
      )))
    where
      long : (words : List ℕ) (u : State) → Fits c.scope.structs (type_of value) words → sizes_at u ≡ sizes_in c V → length words ≡ length (variable_words u i.result)
      long words u fits sizes =
          fits_length c.scope.structs (type_of value) words fits ∙ (ap (words_of c.scope.structs) typed ∙ sym (variable_size c V u i.result c.scope.result sizes (result_type some)))

      apart : (w : ℕ) → IsOutside first count w → w ≡ i.result → ⊥
      apart w (inl below) e = omega (arith, below, e, (result_place some).0)
      apart w (inr above) e = omega (arith, above, e, (result_place some).1)

      -- the value is put into the variable of the result, and the function is left
      leaves_after : (e : Expr) (u : State) → perform f lane n (flat_local i.result (Some e) ∷ flat_leave i.exit ∷ []) u ≡ after (evaluates (flat_of_context c V) e u) (λ words s1. goes_with (flat_to i.exit) (with_variable i.result words s1))
      leaves_after e u = ap (λ p. after p (then_flat (perform f lane n (flat_leave i.exit ∷ [])))) (sym (perform_one f lane n (flat_local i.result (Some e)) u) ∙ declares_after i.result e u) ∙
          after_assoc (evaluates (flat_of_context c V) e u) (λ words s1. goes_with flat_end (with_variable i.result words s1)) (then_flat (perform f lane n (flat_leave i.exit ∷ [])))

  -- weaker places and relations

  place_before : (fresh middle after : Fresh) → Grows middle after → HasPlace fresh after → HasPlace fresh middle
  place_before fresh middle after g room = (room.0, front_trans middle.variables after.variables V g.front room.1, room.2)

  place_behind : (fresh middle after : Fresh) → Grows fresh middle → HasPlace fresh after → HasPlace middle after
  place_behind fresh middle after g room = (omega (arith, room.0, front_length fresh.variables middle.variables g.front), room.1, omega (arith, room.2, g.names))

  -- what holds behind a later part holds behind an earlier one
  after_on : (numbers : List ℕ) (below more : ℕ) (t u : State) → below ≤ more → Keeps first count below t u → (s v : State) → AfterAs numbers more u s v → AfterAs numbers below t s v
  after_on numbers below more t u low keep s v x = (x.0, keep_on below more t u v low keep x.1)

  after_less : (numbers others : List ℕ) (below : ℕ) (t : State) → ((v : ℕ) → Known numbers v → Known others v) → (s u : State) → AfterAs others below t s u → AfterAs numbers below t s u
  after_less numbers others below t less s u x = (related_less c V first (Known others) (Known numbers) s u less x.0, x.1)

  -- one statement behind another
  emitted_next : (exit break_to continue_to : ℕ) (numbers middle behind : List ℕ) (first_doing second : Doing) (fresh : Fresh) (a b : EmittedCode) → Grows fresh a.fresh → Grows a.fresh b.fresh → ((v : ℕ) → Known numbers v → Known middle v) →
      EmittedCodeAs exit break_to continue_to numbers middle first_doing a fresh → EmittedCodeAs exit break_to continue_to middle behind second b a.fresh →
      HasPlace fresh b.fresh → (s t : State) → Related c V first (Known numbers) s t →
      DoesAs exit break_to continue_to (AfterAs behind (next_of fresh) t) (AfterAs numbers (next_of fresh) t) (AfterAs numbers (next_of fresh) t) ReturnedAs (after (first_doing s) (after_statement second)) (perform f lane n (a.code ++ b.code) t)
  emitted_next exit break_to continue_to numbers middle behind first_doing second fresh a b g h more alike alike' room s t r =
      does_next exit break_to continue_to f lane n (AfterAs middle (next_of fresh) t) (AfterAs behind (next_of fresh) t) (AfterAs numbers (next_of fresh) t) (AfterAs numbers (next_of fresh) t) ReturnedAs a.code b.code t (first_doing s) second
      (alike (place_before fresh a.fresh b.fresh h room) s t r)
      (λ s1 u x.
      does_map exit break_to continue_to (AfterAs behind (next_of a.fresh) u) (AfterAs behind (next_of fresh) t) (AfterAs middle (next_of a.fresh) u) (AfterAs numbers (next_of fresh) t) (AfterAs middle (next_of a.fresh) u) (AfterAs numbers (next_of fresh) t) ReturnedAs
      (after_on behind (next_of fresh) (next_of a.fresh) t u low x.1) (onward u x.1) (onward u x.1) (second s1) (perform f lane n b.code u)
      (alike' (place_behind fresh a.fresh b.fresh g room) s1 u x.0))
    where
      low : next_of fresh ≤ next_of a.fresh
      low = front_length fresh.variables a.fresh.variables g.front

      onward : (u : State) → Keeps first count (next_of fresh) t u → (s2 v : State) → AfterAs middle (next_of a.fresh) u s2 v → AfterAs numbers (next_of fresh) t s2 v
      onward u keep s2 v y = after_less numbers middle (next_of fresh) t more s2 v (after_on middle (next_of fresh) (next_of a.fresh) t u low keep s2 v y)

  -- conditions

  -- a condition, and one of two
  chosen_after : (value : Expr) (a b : FlatStmt) (alternative : MaybeFlatStmt) (x y : FlatDoing) → ((s1 : State) → performs f lane n a s1 ≡ x s1) → ((s1 : State) → performs_if f lane n alternative s1 ≡ y s1) → (u : State) →
      performs f lane n (flat_if value a alternative) u ≡ after (evaluates (flat_of_context c V) value u) (λ words s1. flat_choice (holds (slice_index words 0)) x y s1)
  chosen_after value a b alternative x y is_x is_y u =
      ap (λ d. after (condition d value u) (λ is_true. flat_choice is_true (λ s1. performs f lane n a s1) (λ s1. performs_if f lane n alternative s1))) known ∙
      (after_assoc (evaluates (flat_of_context c V) value u) _ _ ∙
      after_cong (evaluates (flat_of_context c V) value u) _ _ (λ words s1. by_truth (holds (slice_index words 0)) s1))
    where
      by_truth : (t : Bool) (s1 : State) → flat_choice t (λ s2. performs f lane n a s2) (λ s2. performs_if f lane n alternative s2) s1 ≡ flat_choice t x y s1
      by_truth true s1 = is_x s1
      by_truth false s1 = is_y s1

  condition_some : (cond : Expr) → IsCondition c.scope cond → IsSome (type_of cond)
  condition_some cond h = ap is_void h.1

  if_emitted : (exit break_to continue_to : ℕ) (numbers left right : List ℕ) (cond : Expr) → IsCondition c.scope cond → CoversExpr (Known numbers) cond → (a b : Doing) (fresh : Fresh) (A B : EmittedCode) → Grows (emitted k i cond fresh).fresh A.fresh → Grows A.fresh B.fresh →
      ((v : ℕ) → Known numbers v → Known left v) → ((v : ℕ) → Known numbers v → Known right v) →
      EmittedCodeAs exit break_to continue_to numbers left a A (emitted k i cond fresh).fresh → EmittedCodeAs exit break_to continue_to numbers right b B A.fresh →
      EmittedCodeAs exit break_to continue_to numbers numbers (λ s. after (condition c cond s) (λ is_true. choice is_true a b)) (choice_of (emitted k i cond fresh) A.code B.code B.fresh) fresh
  if_emitted exit break_to continue_to numbers left right cond h covers a b fresh A B grow_a grow_b more_left more_right alike_a alike_b room s t r =
      subst (λ p. DoesAs exit break_to continue_to (AfterAs numbers (next_of fresh) t) (AfterAs numbers (next_of fresh) t) (AfterAs numbers (next_of fresh) t) ReturnedAs p
      (perform f lane n ((emitted k i cond fresh).code ++ flat_if (emitted k i cond fresh).value (as_one A.code) (as_alternative B.code) ∷ []) t)) (sym (after_assoc (evaluates c cond s) _ _))
      (opens_does exit break_to continue_to f lane n (AfterAs numbers (next_of fresh) t) (AfterAs numbers (next_of fresh) t) (AfterAs numbers (next_of fresh) t) ReturnedAs (Keeps first (length c.scope.variables) (next_of fresh) t) (Later c V first (Known numbers) (next_of fresh) t)
      (λ words. Unit {0}) (emitted k i cond fresh).code (flat_if (emitted k i cond fresh).value (as_one A.code) (as_alternative B.code) ∷ []) t (evaluates c cond s) (evaluates (flat_of_context c V) (emitted k i cond fresh).value)
      (λ words s1. choice (holds (slice_index words 0)) a b s1) (λ words u. flat_choice (holds (slice_index words 0)) (perform f lane n A.code) (perform f lane n B.code) u)
      (em.opens fresh (room_of fresh (emitted k i cond fresh).fresh (place_before fresh (emitted k i cond fresh).fresh B.fresh (grows_trans (emitted k i cond fresh).fresh A.fresh B.fresh grow_a grow_b) room)) s t r)
      (yields_any (λ words. Unit {0}) (λ words. tt) (evaluates c cond s))
      (λ u. perform_one f lane n (flat_if (emitted k i cond fresh).value (as_one A.code) (as_alternative B.code)) u ∙
      chosen_after (emitted k i cond fresh).value (as_one A.code) (as_one B.code) (as_alternative B.code) (perform f lane n A.code) (perform f lane n B.code) (performs_as_one f lane n A.code) (performs_alternative f lane n B.code) u)
      (λ words s1 u _ later. by_truth (holds (slice_index words 0)) s1 u later))
    where
      em : Emits c V first stands f lane n known (Known numbers) cond (emitter k i cond)
      em = value_emits numbers cond h.0 (condition_some cond h) covers

      grow : Grows fresh (emitted k i cond fresh).fresh
      grow = record { front = em.grows fresh; names = em.names fresh }

      low : next_of fresh ≤ next_of (emitted k i cond fresh).fresh
      low = front_length fresh.variables (emitted k i cond fresh).fresh.variables (em.grows fresh)

      lower : next_of fresh ≤ next_of A.fresh
      lower = omega (arith, low, front_length (emitted k i cond fresh).fresh.variables A.fresh.variables grow_a.front)

      by_truth : (b' : Bool) (s1 u : State) → Later c V first (Known numbers) (next_of fresh) t s1 u →
          DoesAs exit break_to continue_to (AfterAs numbers (next_of fresh) t) (AfterAs numbers (next_of fresh) t) (AfterAs numbers (next_of fresh) t) ReturnedAs (choice b' a b s1) (flat_choice b' (perform f lane n A.code) (perform f lane n B.code) u)
      by_truth true s1 u later =
          let keep = keeps_wide (next_of fresh) t u later.1 in
          does_map exit break_to continue_to (AfterAs left (next_of (emitted k i cond fresh).fresh) u) (AfterAs numbers (next_of fresh) t) (AfterAs numbers (next_of (emitted k i cond fresh).fresh) u) (AfterAs numbers (next_of fresh) t)
          (AfterAs numbers (next_of (emitted k i cond fresh).fresh) u) (AfterAs numbers (next_of fresh) t) ReturnedAs
          (λ s2 v x. after_less numbers left (next_of fresh) t more_left s2 v (after_on left (next_of fresh) (next_of (emitted k i cond fresh).fresh) t u low keep s2 v x))
          (after_on numbers (next_of fresh) (next_of (emitted k i cond fresh).fresh) t u low keep) (after_on numbers (next_of fresh) (next_of (emitted k i cond fresh).fresh) t u low keep) (a s1) (perform f lane n A.code u)
          (alike_a (place_behind fresh (emitted k i cond fresh).fresh A.fresh grow (place_before fresh A.fresh B.fresh grow_b room)) s1 u later.0)
      by_truth false s1 u later =
          let keep = keeps_wide (next_of fresh) t u later.1 in
          does_map exit break_to continue_to (AfterAs right (next_of A.fresh) u) (AfterAs numbers (next_of fresh) t) (AfterAs numbers (next_of A.fresh) u) (AfterAs numbers (next_of fresh) t) (AfterAs numbers (next_of A.fresh) u) (AfterAs numbers (next_of fresh) t) ReturnedAs
          (λ s2 v x. after_less numbers right (next_of fresh) t more_right s2 v (after_on right (next_of fresh) (next_of A.fresh) t u lower keep s2 v x))
          (after_on numbers (next_of fresh) (next_of A.fresh) t u lower keep) (after_on numbers (next_of fresh) (next_of A.fresh) t u lower keep) (b s1) (perform f lane n B.code u)
          (alike_b (place_behind fresh A.fresh B.fresh (grows_trans fresh (emitted k i cond fresh).fresh A.fresh grow grow_a) room) s1 u later.0)

  -- loops

  -- a test, and then the rest of a turn
  tested_alike : (break_to : ℕ) (numbers : List ℕ) (cond : Expr) → IsCondition c.scope cond → CoversExpr (Known numbers) cond → (fresh : Fresh) (rest : List FlatStmt) (body : Doing) (below : ℕ) (t0 : State) → below ≤ next_of fresh →
      HasPlace fresh (emitted k i cond fresh).fresh → ((s u : State) → AfterAs numbers below t0 s u → TurnAs i.exit break_to (AfterAs numbers below t0) ReturnedAs (body s) (perform f lane n rest u)) →
      (s u : State) → AfterAs numbers below t0 s u →
      TurnAs i.exit break_to (AfterAs numbers below t0) ReturnedAs (after (condition c cond s) (λ goes_on. choice goes_on body (leaves by_break))) (perform f lane n ((emit_test k i break_to cond fresh).code ++ rest) u)
  tested_alike break_to numbers cond h covers fresh rest body below t0 low room alike s u x =
      subst (λ p. TurnAs i.exit break_to (AfterAs numbers below t0) ReturnedAs p (perform f lane n ((emit_test k i break_to cond fresh).code ++ rest) u)) (sym (after_assoc (evaluates c cond s) _ _))
      (subst (λ code. TurnAs i.exit break_to (AfterAs numbers below t0) ReturnedAs (after (evaluates c cond s) (λ words s1. choice (holds (slice_index words 0)) body (leaves by_break) s1)) (perform f lane n code u))
      (sym (append_assoc (emitted k i cond fresh).code (test ∷ []) rest))
      (opens_does i.exit break_to 0 f lane n (AfterAs numbers below t0) (AfterAs numbers below t0) (λ s1 v. ⊥) ReturnedAs (Keeps first (length c.scope.variables) (next_of fresh) u) (Later c V first (Known numbers) (next_of fresh) u)
      (λ words. Unit {0}) (emitted k i cond fresh).code (test ∷ rest) u (evaluates c cond s) (evaluates (flat_of_context c V) (emitted k i cond fresh).value)
      (λ words s1. choice (holds (slice_index words 0)) body (leaves by_break) s1) (λ words v. flat_choice (holds (slice_index words 0)) (perform f lane n rest) (λ w. goes_with (flat_to break_to) w) v)
      ((value_emits numbers cond h.0 (condition_some cond h) covers).opens fresh (room_of fresh (emitted k i cond fresh).fresh room) s u x.0) (yields_any (λ words. Unit {0}) (λ words. tt) (evaluates c cond s))
      (λ v. ap (λ p. after p (then_flat (perform f lane n rest)))
      (chosen_after (emitted k i cond fresh).value (flat_block no_flat_stmts) (flat_leave break_to) (some_flat_stmt (flat_leave break_to)) (λ w. goes_with flat_end w) (λ w. goes_with (flat_to break_to) w) (λ w. refl) (λ w. refl) v) ∙
      (after_assoc (evaluates (flat_of_context c V) (emitted k i cond fresh).value v) _ _ ∙
      after_cong (evaluates (flat_of_context c V) (emitted k i cond fresh).value v) _ _ (λ words w. by_choice (holds (slice_index words 0)) w)))
      (λ words s1 v _ later. by_truth (holds (slice_index words 0)) s1 v (after_on numbers below (next_of fresh) t0 u low x.1 s1 v (later_after numbers (next_of fresh) u s1 v later)))))
    where
      test : FlatStmt
      test = flat_if (emitted k i cond fresh).value (flat_block no_flat_stmts) (some_flat_stmt (flat_leave break_to))

      by_choice : (b : Bool) (w : State) → after (flat_choice b (λ w. goes_with flat_end w) (λ w. goes_with (flat_to break_to) w) w) (then_flat (perform f lane n rest)) ≡ flat_choice b (perform f lane n rest) (λ w. goes_with (flat_to break_to) w) w
      by_choice true w = refl
      by_choice false w = refl

      by_truth : (b : Bool) (s1 v : State) → AfterAs numbers below t0 s1 v →
          TurnAs i.exit break_to (AfterAs numbers below t0) ReturnedAs (choice b body (leaves by_break) s1) (flat_choice b (perform f lane n rest) (λ w. goes_with (flat_to break_to) w) v)
      by_truth true s1 v y = alike s1 v y
      by_truth false s1 v y = (v, refl, y)

  -- the condition of a `do`
  testing_alike : (break_to : ℕ) (numbers : List ℕ) (cond : Expr) → IsCondition c.scope cond → CoversExpr (Known numbers) cond → (fresh : Fresh) (below : ℕ) (t0 : State) → below ≤ next_of fresh → HasPlace fresh (emitted k i cond fresh).fresh →
      (s u : State) → AfterAs numbers below t0 s u →
      TurnAs i.exit break_to (AfterAs numbers below t0) ReturnedAs (after (condition c cond s) (λ goes_on. leaves (if goes_on then at_end else by_break))) (perform f lane n (emit_test k i break_to cond fresh).code u)
  testing_alike break_to numbers cond h covers fresh below t0 low room s u x =
      subst (λ p. TurnAs i.exit break_to (AfterAs numbers below t0) ReturnedAs p (perform f lane n (emit_test k i break_to cond fresh).code u)) (sym (after_assoc (evaluates c cond s) _ _))
      (opens_does i.exit break_to 0 f lane n (AfterAs numbers below t0) (AfterAs numbers below t0) (λ s1 v. ⊥) ReturnedAs (Keeps first (length c.scope.variables) (next_of fresh) u) (Later c V first (Known numbers) (next_of fresh) u)
      (λ words. Unit {0}) (emitted k i cond fresh).code (test ∷ []) u (evaluates c cond s) (evaluates (flat_of_context c V) (emitted k i cond fresh).value)
      (λ words s1. leaves (if holds (slice_index words 0) then at_end else by_break) s1) (λ words v. flat_choice (holds (slice_index words 0)) (λ w. goes_with flat_end w) (λ w. goes_with (flat_to break_to) w) v)
      ((value_emits numbers cond h.0 (condition_some cond h) covers).opens fresh (room_of fresh (emitted k i cond fresh).fresh room) s u x.0) (yields_any (λ words. Unit {0}) (λ words. tt) (evaluates c cond s))
      (λ v. perform_one f lane n test v ∙
      chosen_after (emitted k i cond fresh).value (flat_block no_flat_stmts) (flat_leave break_to) (some_flat_stmt (flat_leave break_to)) (λ w. goes_with flat_end w) (λ w. goes_with (flat_to break_to) w) (λ w. refl) (λ w. refl) v)
      (λ words s1 v _ later. by_truth (holds (slice_index words 0)) s1 v (after_on numbers below (next_of fresh) t0 u low x.1 s1 v (later_after numbers (next_of fresh) u s1 v later))))
    where
      test : FlatStmt
      test = flat_if (emitted k i cond fresh).value (flat_block no_flat_stmts) (some_flat_stmt (flat_leave break_to))

      by_truth : (b : Bool) (s1 v : State) → AfterAs numbers below t0 s1 v →
          TurnAs i.exit break_to (AfterAs numbers below t0) ReturnedAs (leaves (if b then at_end else by_break) s1) (flat_choice b (λ w. goes_with flat_end w) (λ w. goes_with (flat_to break_to) w) v)
      by_truth true s1 v y = (v, refl, y)
      by_truth false s1 v y = (v, refl, y)

  -- a body and what follows it in a turn
  body_alike : (break_to continue_to : ℕ) → (continue_to ≡ break_to → ⊥) → (continue_to ≡ i.exit → ⊥) → (numbers behind : List ℕ) (body : Doing) (emitted_stmt : EmittedCode) (fresh : Fresh) (next : Doing) (rest : List FlatStmt) (below : ℕ) (t0 : State) → below ≤ next_of fresh →
      ((v : ℕ) → Known numbers v → Known behind v) → EmittedCodeAs i.exit break_to continue_to numbers behind body emitted_stmt fresh → HasPlace fresh emitted_stmt.fresh →
      ((s u : State) → AfterAs numbers below t0 s u → TurnAs i.exit break_to (AfterAs numbers below t0) ReturnedAs (next s) (perform f lane n rest u)) → (s u : State) → AfterAs numbers below t0 s u →
      TurnAs i.exit break_to (AfterAs numbers below t0) ReturnedAs (after (body s) (after_body next)) (perform f lane n (flat_named continue_to (as_one emitted_stmt.code) ∷ rest) u)
  body_alike break_to continue_to apart apart' numbers behind body emitted_stmt fresh next rest below t0 low more alike room step s u x =
      body_turn f lane n i.exit break_to continue_to apart apart' (AfterAs behind (next_of fresh) u) (AfterAs numbers (next_of fresh) u) (AfterAs numbers below t0) ReturnedAs
      (λ s1 v y. after_less numbers behind (next_of fresh) u more s1 v y) (after_on numbers below (next_of fresh) t0 u low x.1) emitted_stmt.code rest u (body s) next (alike room s u x.0)
      (λ s1 v y. step s1 v (after_on numbers below (next_of fresh) t0 u low x.1 s1 v y))

  -- a loop of turns
  loop_emitted : (break_to continue_to outer_break outer_continue : ℕ) → (break_to ≡ i.exit → ⊥) → (numbers : List ℕ) (turn : Doing) (turn_code : List FlatStmt) (fresh : Fresh) →
      ((t0 s u : State) → AfterAs numbers (next_of fresh) t0 s u → TurnAs i.exit break_to (AfterAs numbers (next_of fresh) t0) ReturnedAs (turn s) (perform f lane n turn_code u)) → (s t : State) → Related c V first (Known numbers) s t →
      DoesAs i.exit outer_break outer_continue (AfterAs numbers (next_of fresh) t) (AfterAs numbers (next_of fresh) t) (AfterAs numbers (next_of fresh) t) ReturnedAs (turns n turn s) (perform f lane n (flat_named break_to (flat_loop (as_one turn_code)) ∷ []) t)
  loop_emitted break_to continue_to outer_break outer_continue apart numbers turn turn_code fresh alike s t r =
      subst (DoesAs i.exit outer_break outer_continue (AfterAs numbers (next_of fresh) t) (AfterAs numbers (next_of fresh) t) (AfterAs numbers (next_of fresh) t) ReturnedAs (turns n turn s)) (sym (perform_one f lane n (flat_named break_to (flat_loop (as_one turn_code))) t))
      (turns_alike i.exit break_to outer_break outer_continue apart (AfterAs numbers (next_of fresh) t) (AfterAs numbers (next_of fresh) t) ReturnedAs (λ s1 u x. x.0.exchange) turn (λ s1. performs f lane n (as_one turn_code) s1)
      (λ s1 u x. subst (TurnAs i.exit break_to (AfterAs numbers (next_of fresh) t) ReturnedAs (turn s1)) (sym (performs_as_one f lane n turn_code u)) (alike t s1 u x)) n s t (r, λ w lower outside. refl))

  -- what only comes to its end doesn't continue
  only_ends : {X : Type 0} (exit break_to continue_to other : ℕ) (A J C E : State → State → Type 0) (W : List ℕ → State → Type 0) (q : Progress X) (r : Progress FlatLeaving) → DoesAs exit break_to continue_to A J C W (after q (λ _ s. goes_with at_end s)) r →
      DoesAs exit break_to other A J E W (after q (λ _ s. goes_with at_end s)) r
  only_ends exit break_to continue_to other A J C E W (goes_with x s) r h = h
  only_ends exit break_to continue_to other A J C E W (ends_at run) r h = h

  -- the step of a loop
  step_alike : (break_to : ℕ) (numbers : List ℕ) (step : Option Expr) → IsExprIf c.scope step → Covers (Known numbers) (expr_option_occurrences step) → (fresh : Fresh) (below : ℕ) (t0 : State) → below ≤ next_of fresh → HasPlace fresh (emit_run_if k i step fresh).fresh →
      (s u : State) → AfterAs numbers below t0 s u → TurnAs i.exit break_to (AfterAs numbers below t0) ReturnedAs (computes_if c step s) (perform f lane n (emit_run_if k i step fresh).code u)
  step_alike break_to numbers None h covers fresh below t0 low room s u x = (u, refl, x)
  step_alike break_to numbers (Some value) h covers fresh below t0 low room s u x =
      only_ends i.exit break_to 0 0 (AfterAs numbers below t0) (AfterAs numbers below t0) (AfterAs numbers below t0) (λ s1 v. ⊥) ReturnedAs (evaluates c value s) (perform f lane n (emit_run k i value fresh).code u)
      (does_map i.exit break_to 0 (AfterAs numbers (next_of fresh) u) (AfterAs numbers below t0) (AfterAs numbers (next_of fresh) u) (AfterAs numbers below t0) (AfterAs numbers (next_of fresh) u) (AfterAs numbers below t0) ReturnedAs
      (after_on numbers below (next_of fresh) t0 u low x.1) (after_on numbers below (next_of fresh) t0 u low x.1) (after_on numbers below (next_of fresh) t0 u low x.1) (computes c value s) (perform f lane n (emit_run k i value fresh).code u)
      (run_emitted i.exit break_to 0 numbers value h covers fresh room s u x.0))

  -- a test where there is one, and then the rest of a turn
  tested_if_alike : (break_to : ℕ) (numbers : List ℕ) (cond : Option Expr) → IsConditionIf c.scope cond → Covers (Known numbers) (expr_option_occurrences cond) → (fresh : Fresh) (rest : List FlatStmt) (body : Doing) (below : ℕ) (t0 : State) → below ≤ next_of fresh →
      HasPlace fresh (emit_test_if k i break_to cond fresh).fresh → ((s u : State) → AfterAs numbers below t0 s u → TurnAs i.exit break_to (AfterAs numbers below t0) ReturnedAs (body s) (perform f lane n rest u)) →
      (s u : State) → AfterAs numbers below t0 s u →
      TurnAs i.exit break_to (AfterAs numbers below t0) ReturnedAs (after (condition_if c cond s) (λ goes_on. choice goes_on body (leaves by_break))) (perform f lane n ((emit_test_if k i break_to cond fresh).code ++ rest) u)
  tested_if_alike break_to numbers None h covers fresh rest body below t0 low room alike s u x = alike s u x
  tested_if_alike break_to numbers (Some cond) h covers fresh rest body below t0 low room alike s u x = tested_alike break_to numbers cond h covers fresh rest body below t0 low room alike s u x

  -- a `for` or a `while`, behind what it declares
  tested_loop : (outer_break outer_continue : ℕ) (numbers behind : List ℕ) (cond step : Option Expr) → IsConditionIf c.scope cond → IsExprIf c.scope step → Covers (Known numbers) (expr_option_occurrences cond) → Covers (Known numbers) (expr_option_occurrences step) →
      (body : Doing) (fresh : Fresh) (body_emitted : Fresh → EmittedCode) → ((v : ℕ) → Known numbers v → Known behind v) → ((fresh' : Fresh) → Grows fresh' (body_emitted fresh').fresh) →
      ((fresh' : Fresh) → EmittedCodeAs i.exit fresh.names (suc fresh.names) numbers behind body (body_emitted fresh') fresh') →
      EmittedCodeAs i.exit outer_break outer_continue numbers numbers (λ s. turns n (for_turn c cond body step) s)
      (emit_loop fresh.names (emitted_then (emit_test_if k i fresh.names cond (with_jumps fresh)) (λ fresh'. emitted_then (emit_body (suc fresh.names) (body_emitted fresh')) (λ fresh''. emit_run_if k i step fresh'')))) fresh
  tested_loop outer_break outer_continue numbers behind cond step h h' covers covers' body fresh body_emitted more grows alike room s t r =
      loop_emitted fresh.names (suc fresh.names) outer_break outer_continue (λ e. omega (arith, e, room.2)) numbers (for_turn c cond body step)
      (tested.code ++ (flat_named (suc fresh.names) (as_one bodied.code) ∷ stepped.code)) fresh
      (λ t0 s1 u x.
      tested_if_alike fresh.names numbers cond h covers (with_jumps fresh) (flat_named (suc fresh.names) (as_one bodied.code) ∷ stepped.code) (λ s2. after (body s2) (after_body (computes_if c step))) (next_of fresh) t0 (omega arith)
      (place_before (with_jumps fresh) tested.fresh stepped.fresh (grows_trans tested.fresh bodied.fresh stepped.fresh (grows tested.fresh) grow_step) jumped)
      (λ s2 v y.
      body_alike fresh.names (suc fresh.names) (λ e. omega (arith, e)) (λ e. omega (arith, e, room.2)) numbers behind body bodied tested.fresh (computes_if c step) stepped.code (next_of fresh) t0 low more (alike tested.fresh)
      (place_behind (with_jumps fresh) tested.fresh bodied.fresh grow_test (place_before (with_jumps fresh) bodied.fresh stepped.fresh grow_step jumped))
      (λ s3 w z. step_alike fresh.names numbers step h' covers' bodied.fresh (next_of fresh) t0 lower (place_behind (with_jumps fresh) bodied.fresh stepped.fresh (grows_trans (with_jumps fresh) tested.fresh bodied.fresh grow_test (grows tested.fresh)) jumped) s3 w z)
      s2 v y)
      s1 u x) s t r
    where
      tested : EmittedCode
      tested = emit_test_if k i fresh.names cond (with_jumps fresh)

      bodied : EmittedCode
      bodied = body_emitted (emit_test_if k i fresh.names cond (with_jumps fresh)).fresh

      stepped : EmittedCode
      stepped = emit_run_if k i step (body_emitted (emit_test_if k i fresh.names cond (with_jumps fresh)).fresh).fresh

      grow_test : Grows (with_jumps fresh) (emit_test_if k i fresh.names cond (with_jumps fresh)).fresh
      grow_test = test_if_grows k i bodies fresh.names cond (with_jumps fresh)

      grow_step : Grows (body_emitted (emit_test_if k i fresh.names cond (with_jumps fresh)).fresh).fresh (emit_run_if k i step (body_emitted (emit_test_if k i fresh.names cond (with_jumps fresh)).fresh).fresh).fresh
      grow_step = run_if_grows k i bodies step (body_emitted (emit_test_if k i fresh.names cond (with_jumps fresh)).fresh).fresh

      jumped : HasPlace (with_jumps fresh) (emit_run_if k i step (body_emitted (emit_test_if k i fresh.names cond (with_jumps fresh)).fresh).fresh).fresh
      jumped = (room.0, room.1, omega (arith, room.2))

      low : next_of fresh ≤ next_of (emit_test_if k i fresh.names cond (with_jumps fresh)).fresh
      low = front_length fresh.variables (emit_test_if k i fresh.names cond (with_jumps fresh)).fresh.variables grow_test.front

      lower : next_of fresh ≤ next_of (body_emitted (emit_test_if k i fresh.names cond (with_jumps fresh)).fresh).fresh
      lower = omega (arith, low, front_length (emit_test_if k i fresh.names cond (with_jumps fresh)).fresh.variables (body_emitted (emit_test_if k i fresh.names cond (with_jumps fresh)).fresh).fresh.variables (grows (emit_test_if k i fresh.names cond (with_jumps fresh)).fresh).front)

  -- a `do`
  testing_loop : (outer_break outer_continue : ℕ) (numbers behind : List ℕ) (cond : Expr) → IsCondition c.scope cond → CoversExpr (Known numbers) cond → (body : Doing) (fresh : Fresh) (body_emitted : Fresh → EmittedCode) → ((v : ℕ) → Known numbers v → Known behind v) →
      ((fresh' : Fresh) → Grows fresh' (body_emitted fresh').fresh) → ((fresh' : Fresh) → EmittedCodeAs i.exit fresh.names (suc fresh.names) numbers behind body (body_emitted fresh') fresh') →
      EmittedCodeAs i.exit outer_break outer_continue numbers numbers (λ s. turns n (do_turn c body cond) s)
      (emit_loop fresh.names (emitted_then (emit_body (suc fresh.names) (body_emitted (with_jumps fresh))) (λ fresh'. emit_test k i fresh.names cond fresh'))) fresh
  testing_loop outer_break outer_continue numbers behind cond h covers body fresh body_emitted more grows alike room s t r =
      loop_emitted fresh.names (suc fresh.names) outer_break outer_continue (λ e. omega (arith, e, room.2)) numbers (do_turn c body cond)
      (flat_named (suc fresh.names) (as_one (body_emitted (with_jumps fresh)).code) ∷ (emit_test k i fresh.names cond (body_emitted (with_jumps fresh)).fresh).code) fresh
      (λ t0 s1 u x.
      body_alike fresh.names (suc fresh.names) (λ e. omega (arith, e)) (λ e. omega (arith, e, room.2)) numbers behind body (body_emitted (with_jumps fresh)) (with_jumps fresh) (λ s2. after (condition c cond s2) (λ goes_on. leaves (if goes_on then at_end else by_break)))
      (emit_test k i fresh.names cond (body_emitted (with_jumps fresh)).fresh).code (next_of fresh) t0 (omega arith) more (alike (with_jumps fresh))
      (place_before (with_jumps fresh) (body_emitted (with_jumps fresh)).fresh (emit_test k i fresh.names cond (body_emitted (with_jumps fresh)).fresh).fresh grow_test jumped)
      (λ s2 v y. testing_alike fresh.names numbers cond h covers (body_emitted (with_jumps fresh)).fresh (next_of fresh) t0 (front_length fresh.variables (body_emitted (with_jumps fresh)).fresh.variables (grows (with_jumps fresh)).front)
      (place_behind (with_jumps fresh) (body_emitted (with_jumps fresh)).fresh (emit_test k i fresh.names cond (body_emitted (with_jumps fresh)).fresh).fresh (grows (with_jumps fresh)) jumped) s2 v y)
      s1 u x) s t r
    where
      grow_test : Grows (body_emitted (with_jumps fresh)).fresh (emit_test k i fresh.names cond (body_emitted (with_jumps fresh)).fresh).fresh
      grow_test = value_grows k i bodies cond (body_emitted (with_jumps fresh)).fresh

      jumped : HasPlace (with_jumps fresh) (emit_test k i fresh.names cond (body_emitted (with_jumps fresh)).fresh).fresh
      jumped = (room.0, room.1, omega (arith, room.2))

  -- a block: what it declares ends with it
  block_emitted : (exit break_to continue_to : ℕ) (numbers behind : List ℕ) (doing : Doing) (fresh : Fresh) (body : EmittedCode) → ((v : ℕ) → Known numbers v → Known behind v) → EmittedCodeAs exit break_to continue_to numbers behind doing body fresh →
      EmittedCodeAs exit break_to continue_to numbers numbers doing (block_of body) fresh
  block_emitted exit break_to continue_to numbers behind doing fresh body more alike room s t r =
      subst (DoesAs exit break_to continue_to (AfterAs numbers (next_of fresh) t) (AfterAs numbers (next_of fresh) t) (AfterAs numbers (next_of fresh) t) ReturnedAs (doing s)) (sym (perform_one f lane n (flat_block (flat_stmts_of body.code)) t))
      (does_map exit break_to continue_to (AfterAs behind (next_of fresh) t) (AfterAs numbers (next_of fresh) t) (AfterAs numbers (next_of fresh) t) (AfterAs numbers (next_of fresh) t) (AfterAs numbers (next_of fresh) t) (AfterAs numbers (next_of fresh) t) ReturnedAs
      (after_less numbers behind (next_of fresh) t more) (λ s1 u x. x) (λ s1 u x. x) (doing s) (perform f lane n body.code t) (alike room s t r))

  -- a `while` is a `for` that declares nothing and has no step
  while_emitted : (outer_break outer_continue : ℕ) (numbers behind : List ℕ) (cond : Expr) → IsCondition c.scope cond → CoversExpr (Known numbers) cond → (body : Doing) (fresh : Fresh) (body_emitted : Fresh → EmittedCode) → ((v : ℕ) → Known numbers v → Known behind v) →
      ((fresh' : Fresh) → Grows fresh' (body_emitted fresh').fresh) → ((fresh' : Fresh) → EmittedCodeAs i.exit fresh.names (suc fresh.names) numbers behind body (body_emitted fresh') fresh') →
      EmittedCodeAs i.exit outer_break outer_continue numbers numbers (λ s. turns n (for_turn c (Some cond) body None) s)
      (emit_loop fresh.names (emitted_then (emit_test k i fresh.names cond (with_jumps fresh)) (λ fresh'. emit_body (suc fresh.names) (body_emitted fresh')))) fresh
  while_emitted outer_break outer_continue numbers behind cond h covers body fresh body_emitted more grows alike =
      tested_loop outer_break outer_continue numbers behind (Some cond) None h tt covers tt body fresh body_emitted more grows alike

  -- all statements

  -- what is declared behind an alternative
  abbrev pub declared_if : List ℕ → MaybeStmt → List ℕ
  declared_if numbers no_stmt = numbers
  declared_if numbers (some_stmt body) = declared_by numbers body

  known_more_if : (numbers : List ℕ) (stmt : MaybeStmt) (v : ℕ) → Known numbers v → Known (declared_if numbers stmt) v
  known_more_if numbers no_stmt v h = h
  known_more_if numbers (some_stmt body) v h = known_more (length c.scope.variables) numbers body v h

  return_emitted : (break_to continue_to : ℕ) (numbers : List ℕ) (value : Option Expr) → IsReturn c.scope value → Covers (Known numbers) (expr_option_occurrences value) → (fresh : Fresh) →
      EmittedCodeAs i.exit break_to continue_to numbers numbers (returns c value) (emit_return k i value fresh) fresh
  return_emitted break_to continue_to numbers None h covers fresh = λ room s t r.
      (t, refl, (r, λ w lower outside. refl), λ some. absurd (true≢false (sym (ap is_void h) ∙ some)))
  return_emitted break_to continue_to numbers (Some value) h covers fresh = return_some break_to continue_to numbers value h.0 h.1 (not_true (is_void c.scope.result) h.2) covers fresh
    where
      not_true : (b : Bool) → IsTrue (not b) → b ≡ false
      not_true true e = absurd (true≢false (sym e))
      not_true false e = refl

  local_emitted : (exit break_to continue_to : ℕ) (numbers : List ℕ) (variable : ℕ) (init : Option Expr) → IsLocal c.scope variable init → Covers (Known numbers) (expr_option_occurrences init) → (fresh : Fresh) →
      EmittedCodeAs exit break_to continue_to numbers (variable ∷ numbers) (declares c variable init) (emit_local k i variable init fresh) fresh
  local_emitted exit break_to continue_to numbers variable None h covers fresh = local_none exit break_to continue_to numbers variable h fresh
  local_emitted exit break_to continue_to numbers variable (Some init) h covers fresh = local_some exit break_to continue_to numbers variable init h.0 h.1 (local_type variable (type_of init) h.1) covers fresh

  mutual
    pub stmt_emitted : (stmt : Stmt) (in_loop : Bool) → IsStmt c.scope in_loop stmt → (numbers : List ℕ) → CoveredStmt (length c.scope.variables) numbers stmt → (j : Jumps) (fresh : Fresh) →
        EmittedCodeAs i.exit j.break_name j.continue_name numbers (declared_by numbers stmt) (λ s. does c n stmt s) (emit_stmt k i j stmt fresh) fresh
    stmt_emitted (block_stmt body) in_loop h numbers covers j fresh =
        block_emitted i.exit j.break_name j.continue_name numbers (declared_in numbers body) (λ s. does_all c n body s) fresh (emit_stmts k i j body fresh) (all_known_more (length c.scope.variables) numbers body) (all_emitted body in_loop h numbers covers j fresh)
    stmt_emitted (local_stmt variable init) in_loop h numbers covers j fresh = local_emitted i.exit j.break_name j.continue_name numbers variable init h covers fresh
    stmt_emitted (run_stmt value) in_loop h numbers covers j fresh = run_emitted i.exit j.break_name j.continue_name numbers value h covers fresh
    stmt_emitted (if_stmt cond consequent alternative) in_loop h numbers covers j fresh =
        if_emitted i.exit j.break_name j.continue_name numbers (declared_by numbers consequent) (declared_if numbers alternative) cond h.0 covers.0 (λ s. does c n consequent s) (λ s. does_if c n alternative s) fresh
        (emit_stmt k i j consequent (emitted k i cond fresh).fresh) (emit_stmt_if k i j alternative (emit_stmt k i j consequent (emitted k i cond fresh).fresh).fresh)
        (stmt_grows k i bodies consequent j (emitted k i cond fresh).fresh) (maybe_grows k i bodies alternative j (emit_stmt k i j consequent (emitted k i cond fresh).fresh).fresh)
        (known_more (length c.scope.variables) numbers consequent) (known_more_if numbers alternative)
        (stmt_emitted consequent in_loop h.1 numbers covers.1 j (emitted k i cond fresh).fresh) (maybe_emitted alternative in_loop h.2 numbers covers.2 j (emit_stmt k i j consequent (emitted k i cond fresh).fresh).fresh)
    stmt_emitted (for_stmt init cond step body) in_loop h numbers covers j fresh =
        block_emitted i.exit j.break_name j.continue_name numbers (declared_in numbers init) (λ s. does c n (for_stmt init cond step body) s) fresh
        (emitted_then (emit_stmts k i j init fresh) (λ fresh1. emit_loop fresh1.names (emitted_then (emit_test_if k i fresh1.names cond (with_jumps fresh1)) (λ fresh'.
        emitted_then (emit_body (suc fresh1.names) (emit_stmt k i (jumps_of fresh1) body fresh')) (λ fresh''. emit_run_if k i step fresh'')))))
        (all_known_more (length c.scope.variables) numbers init)
        (emitted_next i.exit j.break_name j.continue_name numbers (declared_in numbers init) (declared_in numbers init) (λ s. does_all c n init s) (λ s. turns n (for_turn c cond (λ s'. does c n body s') step) s) fresh (emit_stmts k i j init fresh)
        (emit_loop (emit_stmts k i j init fresh).fresh.names (emitted_then (emit_test_if k i (emit_stmts k i j init fresh).fresh.names cond (with_jumps (emit_stmts k i j init fresh).fresh)) (λ fresh'.
        emitted_then (emit_body (suc (emit_stmts k i j init fresh).fresh.names) (emit_stmt k i (jumps_of (emit_stmts k i j init fresh).fresh) body fresh')) (λ fresh''. emit_run_if k i step fresh''))))
        (stmts_grow k i bodies init j fresh)
        (loop_grows k i bodies cond step body (emit_stmts k i j init fresh).fresh (λ j' fresh'. stmt_grows k i bodies body j' fresh'))
        (all_known_more (length c.scope.variables) numbers init) (all_emitted init in_loop h.0 numbers covers.0 j fresh)
        (tested_loop j.break_name j.continue_name (declared_in numbers init) (declared_by (declared_in numbers init) body) cond step h.1 h.2 covers.1 covers.2 (λ s'. does c n body s') (emit_stmts k i j init fresh).fresh
        (λ fresh'. emit_stmt k i (jumps_of (emit_stmts k i j init fresh).fresh) body fresh') (known_more (length c.scope.variables) (declared_in numbers init) body)
        (λ fresh'. stmt_grows k i bodies body (jumps_of (emit_stmts k i j init fresh).fresh) fresh')
        (λ fresh'. stmt_emitted body true h.3 (declared_in numbers init) covers.3 (jumps_of (emit_stmts k i j init fresh).fresh) fresh')))
    stmt_emitted (while_stmt cond body) in_loop h numbers covers j fresh =
        while_emitted j.break_name j.continue_name numbers (declared_by numbers body) cond h.0 covers.0 (λ s'. does c n body s') fresh (λ fresh'. emit_stmt k i (jumps_of fresh) body fresh') (known_more (length c.scope.variables) numbers body)
        (λ fresh'. stmt_grows k i bodies body (jumps_of fresh) fresh') (λ fresh'. stmt_emitted body true h.1 numbers covers.1 (jumps_of fresh) fresh')
    stmt_emitted (do_stmt body cond) in_loop h numbers covers j fresh =
        testing_loop j.break_name j.continue_name numbers (declared_by numbers body) cond h.1 covers.1 (λ s'. does c n body s') fresh (λ fresh'. emit_stmt k i (jumps_of fresh) body fresh') (known_more (length c.scope.variables) numbers body)
        (λ fresh'. stmt_grows k i bodies body (jumps_of fresh) fresh') (λ fresh'. stmt_emitted body true h.0 numbers covers.0 (jumps_of fresh) fresh')
    stmt_emitted break_stmt in_loop h numbers covers j fresh = λ room s t r. (t, refl, (r, λ w lower outside. refl))
    stmt_emitted continue_stmt in_loop h numbers covers j fresh = λ room s t r. (t, refl, (r, λ w lower outside. refl))
    stmt_emitted (return_stmt value) in_loop h numbers covers j fresh = return_emitted j.break_name j.continue_name numbers value h covers fresh

    pub all_emitted : (stmts : Stmts) (in_loop : Bool) → AreStmts c.scope in_loop stmts → (numbers : List ℕ) → CoveredAll (length c.scope.variables) numbers stmts → (j : Jumps) (fresh : Fresh) →
        EmittedCodeAs i.exit j.break_name j.continue_name numbers (declared_in numbers stmts) (λ s. does_all c n stmts s) (emit_stmts k i j stmts fresh) fresh
    all_emitted no_stmts in_loop h numbers covers j fresh = λ room s t r. (t, refl, (r, λ w lower outside. refl))
    all_emitted (more_stmts first_stmt rest) in_loop h numbers covers j fresh =
        emitted_next i.exit j.break_name j.continue_name numbers (declared_by numbers first_stmt) (declared_in (declared_by numbers first_stmt) rest) (λ s. does c n first_stmt s) (λ s. does_all c n rest s) fresh (emit_stmt k i j first_stmt fresh)
        (emit_stmts k i j rest (emit_stmt k i j first_stmt fresh).fresh) (stmt_grows k i bodies first_stmt j fresh) (stmts_grow k i bodies rest j (emit_stmt k i j first_stmt fresh).fresh)
        (known_more (length c.scope.variables) numbers first_stmt) (stmt_emitted first_stmt in_loop h.0 numbers covers.0 j fresh) (all_emitted rest in_loop h.1 (declared_by numbers first_stmt) covers.1 j (emit_stmt k i j first_stmt fresh).fresh)

    pub maybe_emitted : (stmt : MaybeStmt) (in_loop : Bool) → IsStmtIf c.scope in_loop stmt → (numbers : List ℕ) → CoveredIf (length c.scope.variables) numbers stmt → (j : Jumps) (fresh : Fresh) →
        EmittedCodeAs i.exit j.break_name j.continue_name numbers (declared_if numbers stmt) (λ s. does_if c n stmt s) (emit_stmt_if k i j stmt fresh) fresh
    maybe_emitted no_stmt in_loop h numbers covers j fresh = λ room s t r. (t, refl, (r, λ w lower outside. refl))
    maybe_emitted (some_stmt body) in_loop h numbers covers j fresh = stmt_emitted body in_loop h numbers covers j fresh
