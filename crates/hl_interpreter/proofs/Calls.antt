-- What calls meet, by what their parts give.
use Rattle.std.proofs.Common.{◌≡◌, ◌∙◌, refl, sym, ap, ℕ, List, [], ◌∷◌, ◌++◌, length, slice_index_or, Ok, Err, arith}
use Rattle.lane_core.specs.declared.event.Reply.{Reply}
use Rattle.hl_meaning.specs.Trees.{Arg, Args, call_form, more_args}
use Rattle.hl_meaning.specs.Types.{Ty}
use Rattle.hl_meaning.specs.declared.program.Parameter.{Parameter}
use Rattle.hl_source.specs.Expressions.{acts, argument_of, argument_operands, arguments, copies_out, initial_parameters, no_callee, parameters_of}
use Rattle.hl_source.specs.State.{Callee, Context, Progress, State, after, goes_with}
use Rattle.hl_interpreter.specs.declared.run.Stop.{Stop}
use Rattle.hl_interpreter.specs.Operands.{interleaved}
use Rattle.hl_interpreter.specs.declared.state.State.{State as HeldState}
use Rattle.hl_interpreter.specs.Runs.{Does, Gives, Meets, form_value, state_of}
use Rattle.hl_interpreter.proofs.Asking.{between}
use Rattle.hl_interpreter.proofs.Meeting.{behind, behind-joined, behind-joined-stops, goes, same, stops}

-- ---- the operands of arguments

-- the words that the parameters have at first
pub initial-of : (indexes initial : List (List ℕ)) → length indexes ≡ length initial → initial_parameters (interleaved indexes initial) ≡ initial
initial-of [] [] e = refl
initial-of [] (x ∷ initial) e = absurd (omega arith)
initial-of (a ∷ indexes) [] e = absurd (omega arith)
initial-of (a ∷ indexes) (x ∷ initial) e = ap (λ l. x ∷ l) (initial-of indexes initial (omega arith))

-- one more argument
pub interleaved-more : (indexes initial : List (List ℕ)) (a x : List ℕ) → length indexes ≡ length initial → interleaved indexes initial ++ argument_operands a x ≡ interleaved (indexes ++ a ∷ []) (initial ++ x ∷ [])
interleaved-more [] [] a x e = refl
interleaved-more [] (y ∷ initial) a x e = absurd (omega arith)
interleaved-more (b ∷ indexes) [] a x e = absurd (omega arith)
interleaved-more (b ∷ indexes) (y ∷ initial) a x e = ap (λ l. b ∷ y ∷ l) (interleaved-more indexes initial a x (omega arith))

-- ---- a call

module _ (c : Context) (ty : Ty) (s : State) (function : ℕ) (args : Args) where
  abbrev parts : Progress (List (List ℕ))
  parts = arguments c args (parameters_of c function) s

  abbrev called : Callee
  called = slice_index_or c.callees function no_callee

  abbrev copied : List (List ℕ) → State → State → Progress (List ℕ)
  copied operands t u = copies_out c args operands u.variables (record t { exchange = u.exchange })

  pub call-first : {A : Type 0} (view : A → List (List ℕ)) (e : Stop) (t : State) → Meets view (Err e) t (arguments c args (parameters_of c function) s) → Gives (Err e) t (form_value c ty (call_form function args) s)
  call-first view e t h = stops view (λ w. w) e t parts (acts c ty (call_form function args)) h

  module _ (operands : List (List ℕ)) (t : State) (variables : List (List ℕ)) (h : arguments c args (parameters_of c function) s ≡ goes_with operands t) (is : initial_parameters operands ≡ variables) where
    run-same : called variables t.exchange ≡ called (initial_parameters operands) t.exchange
    run-same = ap (λ v. called v t.exchange) (sym is)

    pub call-second : (e : Stop) (u : State) → Gives (Err e) u (slice_index_or c.callees function no_callee variables t.exchange) → Gives (Err e) u (form_value c ty (call_form function args) s)
    call-second e u k =
        goes (λ w. w) operands (Err e) t u parts (acts c ty (call_form function args)) h
        (stops (λ w. w) (λ w. w) e u (called (initial_parameters operands) t.exchange) (λ result ended. after (copied operands t ended) (λ _ s'. goes_with result s'))
        (same (λ w. w) (Err e) u _ _ run-same k))

    module _ (w : List ℕ) (u : State) (k : slice_index_or c.callees function no_callee variables t.exchange ≡ goes_with w u) where
      pub call-third : (e : Stop) (v : State) → Does (Err e) v (copies_out c args operands u.variables (record t { exchange = u.exchange })) → Gives (Err e) v (form_value c ty (call_form function args) s)
      call-third e v l =
          goes (λ x. x) operands (Err e) t v parts (acts c ty (call_form function args)) h
          (goes (λ x. x) w (Err e) u v (called (initial_parameters operands) t.exchange) (λ result ended. after (copied operands t ended) (λ _ s'. goes_with result s')) (sym run-same ∙ k)
          (stops {A = Unit {0}} (λ _. []) (λ x. x) e v (copied operands t u) (λ _ s'. goes_with w s') l))

      pub call-goes : (v : State) → copies_out c args operands u.variables (record t { exchange = u.exchange }) ≡ goes_with [] v → Gives (Ok w) v (form_value c ty (call_form function args) s)
      call-goes v l =
          goes (λ x. x) operands (Ok w) t v parts (acts c ty (call_form function args)) h
          (goes (λ x. x) w (Ok w) u v (called (initial_parameters operands) t.exchange) (λ result ended. after (copied operands t ended) (λ _ s'. goes_with result s')) (sym run-same ∙ k)
          (goes (λ x. x) [] (Ok w) v v (copied operands t u) (λ _ s'. goes_with w s') l refl))

-- ---- arguments, one after another

module _ (c : Context) (first : Arg) (rest : Args) (p : Parameter) (parameters : List Parameter) (indexes initial : List (List ℕ)) (s : State) (whole : Progress (List (List ℕ)))
    (is : whole ≡ behind (interleaved indexes initial) (arguments c (more_args first rest) (p ∷ parameters) s)) where
  pub argument-stops : {A B : Type 0} (view : A → List (List ℕ)) (other : B → List (List ℕ)) (e : Stop) (t : State) → Meets view (Err e) t (argument_of c first p.copying s) → Meets other (Err e) t whole
  argument-stops view other e t h =
      same other (Err e) t _ _ (sym is) (behind-joined-stops view (interleaved indexes initial) (argument_of c first p.copying s) (λ s'. arguments c rest parameters s') other e t h)

  pub argument-next : (t : State) (a x : List ℕ) → length indexes ≡ length initial → argument_of c first p.copying s ≡ goes_with (argument_operands a x) t
      → whole ≡ behind (interleaved (indexes ++ a ∷ []) (initial ++ x ∷ [])) (arguments c rest parameters t)
  argument-next t a x e h =
      is ∙ (behind-joined (interleaved indexes initial) (argument_operands a x) t (argument_of c first p.copying s) (λ s'. arguments c rest parameters s') h ∙
      ap (λ l. behind l (arguments c rest parameters t)) (interleaved-more indexes initial a x e))

-- ---- behind a call

-- the arguments' values are written back with the caller's variables
pub copied-same : (c : Context) (args : Args) (replies : List Reply) (held indexes initial : List (List ℕ)) (parameters : List (List ℕ)) (before ended : HeldState) (own : List (List ℕ))
    → held ≡ indexes → parameters ≡ ended.variables.items → own ≡ before.variables.items
    → copies_out c args (interleaved held initial) parameters (between replies own ended.events)
    ≡ copies_out c args (interleaved indexes initial) (state_of replies ended).variables (record (state_of replies before) { exchange = (state_of replies ended).exchange })
copied-same c args replies held indexes initial parameters before ended own a b d =
    ap (λ l. copies_out c args (interleaved l initial) parameters (between replies own ended.events)) a ∙
    (ap (λ l. copies_out c args (interleaved indexes initial) l (between replies own ended.events)) b ∙
    ap (λ l. copies_out c args (interleaved indexes initial) ended.variables.items (between replies l ended.events)) d)
