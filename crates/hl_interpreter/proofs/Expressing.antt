-- What each form of expression meets, by what its operands give.
use Rattle.std.proofs.Common.{◌≡◌, refl, sym, ap, ℕ, Bool, List, [], ◌∷◌, Option, Result, Err}
use Rattle.lane_core.specs.declared.event.AtomicKind.{AtomicKind}
use Rattle.hl_meaning.specs.declared.expression.Expr.{Expr as HeldExpr}
use Rattle.hl_meaning.specs.Trees.{Expr, Form, Location, MaybeExpr, MaybeLocation, Target, an_expr, atomic_form, binary_form, choose_form, method_form, no_expr, read_form, some_expr, write_form}
use Rattle.hl_meaning.specs.Types.{Ty}
use Rattle.hl_meaning.specs.Views.{plain_expr}
use Rattle.hl_source.specs.Expressions.{acts, evaluates, indexes, indexes_if, operands, target_indexes, value_if}
use Rattle.hl_source.specs.State.{Context, Progress, State, after, alone, first_then, goes_with}
use Rattle.hl_interpreter.specs.declared.run.Stop.{Stop}
use Rattle.hl_interpreter.specs.Runs.{Gives, Meets, form_value}
use Rattle.hl_interpreter.proofs.Meeting.{first-goes, first-stops, goes, one-goes, one-stops, same, stops}

module _ (c : Context) (ty : Ty) (s : State) where
  -- an expression has the value of its form
  pub by-form : (e : HeldExpr) (at : ℕ) (form : Form) (r : Result (List ℕ) Stop) (t : State) → plain_expr e ≡ an_expr ty at form → Gives r t (form_value c ty form s) → Gives r t (evaluates c (plain_expr e) s)
  by-form e at form r t is h = same (λ w. w) r t _ _ (ap (λ x. evaluates c x s) (sym is)) h

  -- ---- forms of one value

  pub one-value-stops : {A : Type 0} (view : A → List ℕ) (e : Stop) (t : State) (form : Form) (value : Expr) → operands c form s ≡ alone (evaluates c value s)
      → Meets view (Err e) t (evaluates c value s) → Gives (Err e) t (form_value c ty form s)
  one-value-stops view e t form value is h =
      same (λ w. w) (Err e) t _ _ (ap (λ o. after o (acts c ty form)) (sym is)) (one-stops (λ w. w) (evaluates c value s) (acts c ty form) view e t h)

  pub one-value-goes : (r : Result (List ℕ) Stop) (t u : State) (form : Form) (value : Expr) (w : List ℕ) → operands c form s ≡ alone (evaluates c value s)
      → evaluates c value s ≡ goes_with w t → Gives r u (acts c ty form (w ∷ []) t) → Gives r u (form_value c ty form s)
  one-value-goes r t u form value w is h k =
      same (λ v. v) r u _ _ (ap (λ o. after o (acts c ty form)) (sym is)) (one-goes (λ v. v) (evaluates c value s) (acts c ty form) w t r u h k)

  -- ---- a place

  pub read-stops : {A : Type 0} (view : A → List ℕ) (e : Stop) (t : State) (place : Location) → Meets view (Err e) t (indexes c place s) → Gives (Err e) t (form_value c ty (read_form place) s)
  read-stops view e t place h = one-stops (λ w. w) (indexes c place s) (acts c ty (read_form place)) view e t h

  pub read-goes : (r : Result (List ℕ) Stop) (t u : State) (place : Location) (at : List ℕ) → indexes c place s ≡ goes_with at t → Gives r u (acts c ty (read_form place) (at ∷ []) t)
      → Gives r u (form_value c ty (read_form place) s)
  read-goes r t u place at h k = one-goes (λ v. v) (indexes c place s) (acts c ty (read_form place)) at t r u h k

  -- ---- two operands

  two-goes : (r : Result (List ℕ) Stop) (t u v : State) (form : Form) (p : Progress (List ℕ)) (q : State → Progress (List ℕ)) (a b : List ℕ) → operands c form s ≡ first_then p (λ s'. alone (q s'))
      → p ≡ goes_with a t → q t ≡ goes_with b u → Gives r v (acts c ty form (a ∷ b ∷ []) u) → Gives r v (form_value c ty form s)
  two-goes r t u v form p q a b is h k l =
      same (λ w. w) r v _ _ (ap (λ o. after o (acts c ty form)) (sym is))
      (first-goes (λ w. w) p (acts c ty form) (λ s'. alone (q s')) a t r v h
      (one-goes (λ w. w) (q t) (λ ws u'. acts c ty form (a ∷ ws) u') b u r v k l))

  two-first : {A : Type 0} (view : A → List ℕ) (e : Stop) (t : State) (form : Form) (p : Progress (List ℕ)) (q : State → Progress (List ℕ)) → operands c form s ≡ first_then p (λ s'. alone (q s'))
      → Meets view (Err e) t p → Gives (Err e) t (form_value c ty form s)
  two-first view e t form p q is h =
      same (λ w. w) (Err e) t _ _ (ap (λ o. after o (acts c ty form)) (sym is)) (first-stops (λ w. w) p (acts c ty form) view (λ s'. alone (q s')) e t h)

  two-second : {A : Type 0} (view : A → List ℕ) (e : Stop) (t u : State) (form : Form) (p : Progress (List ℕ)) (q : State → Progress (List ℕ)) (a : List ℕ) → operands c form s ≡ first_then p (λ s'. alone (q s'))
      → p ≡ goes_with a t → Meets view (Err e) u (q t) → Gives (Err e) u (form_value c ty form s)
  two-second view e t u form p q a is h k =
      same (λ w. w) (Err e) u _ _ (ap (λ o. after o (acts c ty form)) (sym is))
      (first-goes (λ w. w) p (acts c ty form) (λ s'. alone (q s')) a t (Err e) u h
      (one-stops (λ w. w) (q t) (λ ws u'. acts c ty form (a ∷ ws) u') view e u k))

  -- a binary operator

  module _ (op : ℕ) (left right : Expr) where
    pub binary-left : {A : Type 0} (view : A → List ℕ) (e : Stop) (t : State) → Meets view (Err e) t (evaluates c left s) → Gives (Err e) t (form_value c ty (binary_form op left right) s)
    binary-left view e t h = two-first view e t (binary_form op left right) (evaluates c left s) (evaluates c right) refl h

    pub binary-right : {A : Type 0} (view : A → List ℕ) (e : Stop) (t u : State) (a : List ℕ) → evaluates c left s ≡ goes_with a t → Meets view (Err e) u (evaluates c right t)
        → Gives (Err e) u (form_value c ty (binary_form op left right) s)
    binary-right view e t u a h k = two-second view e t u (binary_form op left right) (evaluates c left s) (evaluates c right) a refl h k

    pub binary-goes : (r : Result (List ℕ) Stop) (t u v : State) (a b : List ℕ) → evaluates c left s ≡ goes_with a t → evaluates c right t ≡ goes_with b u
        → Gives r v (acts c ty (binary_form op left right) (a ∷ b ∷ []) u) → Gives r v (form_value c ty (binary_form op left right) s)
    binary-goes r t u v a b h k l = two-goes r t u v (binary_form op left right) (evaluates c left s) (evaluates c right) a b refl h k l

  -- an assignment

  module _ (to : Location) (op : Option ℕ) (common : Ty) (value : Expr) (old : Bool) where
    pub write-first : {A : Type 0} (view : A → List ℕ) (e : Stop) (t : State) → Meets view (Err e) t (indexes c to s) → Gives (Err e) t (form_value c ty (write_form to op common value old) s)
    write-first view e t h = two-first view e t (write_form to op common value old) (indexes c to s) (evaluates c value) refl h

    pub write-second : {A : Type 0} (view : A → List ℕ) (e : Stop) (t u : State) (a : List ℕ) → indexes c to s ≡ goes_with a t → Meets view (Err e) u (evaluates c value t)
        → Gives (Err e) u (form_value c ty (write_form to op common value old) s)
    write-second view e t u a h k = two-second view e t u (write_form to op common value old) (indexes c to s) (evaluates c value) a refl h k

    pub write-goes : (r : Result (List ℕ) Stop) (t u v : State) (a b : List ℕ) → indexes c to s ≡ goes_with a t → evaluates c value t ≡ goes_with b u
        → Gives r v (acts c ty (write_form to op common value old) (a ∷ b ∷ []) u) → Gives r v (form_value c ty (write_form to op common value old) s)
    write-goes r t u v a b h k l = two-goes r t u v (write_form to op common value old) (indexes c to s) (evaluates c value) a b refl h k l

  -- a byte-address buffer's load and its store

  module _ (resource count : ℕ) (address : Expr) where
    pub load-first : {A : Type 0} (view : A → List ℕ) (e : Stop) (t : State) → Meets view (Err e) t (evaluates c address s) → (value : MaybeExpr) → Gives (Err e) t (form_value c ty (method_form resource count address value) s)
    load-first view e t h no_expr = first-stops (λ w. w) (evaluates c address s) (acts c ty (method_form resource count address no_expr)) view (λ s'. goes_with [] s') e t h
    load-first view e t h (some_expr value) = two-first view e t (method_form resource count address (some_expr value)) (evaluates c address s) (evaluates c value) refl h

    pub load-goes : (r : Result (List ℕ) Stop) (t v : State) (a : List ℕ) → evaluates c address s ≡ goes_with a t
        → Gives r v (acts c ty (method_form resource count address no_expr) (a ∷ []) t) → Gives r v (form_value c ty (method_form resource count address no_expr) s)
    load-goes r t v a h k = first-goes (λ w. w) (evaluates c address s) (acts c ty (method_form resource count address no_expr)) (λ s'. goes_with [] s') a t r v h k

    pub store-second : {A : Type 0} (view : A → List ℕ) (e : Stop) (t u : State) (value : Expr) (a : List ℕ) → evaluates c address s ≡ goes_with a t → Meets view (Err e) u (evaluates c value t)
        → Gives (Err e) u (form_value c ty (method_form resource count address (some_expr value)) s)
    store-second view e t u value a h k = two-second view e t u (method_form resource count address (some_expr value)) (evaluates c address s) (evaluates c value) a refl h k

    pub store-goes : (r : Result (List ℕ) Stop) (t u v : State) (value : Expr) (a b : List ℕ) → evaluates c address s ≡ goes_with a t → evaluates c value t ≡ goes_with b u
        → Gives r v (acts c ty (method_form resource count address (some_expr value)) (a ∷ b ∷ []) u) → Gives r v (form_value c ty (method_form resource count address (some_expr value)) s)
    store-goes r t u v value a b h k l = two-goes r t u v (method_form resource count address (some_expr value)) (evaluates c address s) (evaluates c value) a b refl h k l

  -- ---- `?:`

  module _ (cond consequent alternative : Expr) where
    abbrev chosen_form : Form
    chosen_form = choose_form cond consequent alternative

    abbrev rest : State → Progress (List (List ℕ))
    rest s1 = first_then (evaluates c consequent s1) (λ s2. alone (evaluates c alternative s2))

    pub choose-first : {A : Type 0} (view : A → List ℕ) (e : Stop) (t : State) → Meets view (Err e) t (evaluates c cond s) → Gives (Err e) t (form_value c ty (choose_form cond consequent alternative) s)
    choose-first view e t h = first-stops (λ w. w) (evaluates c cond s) (acts c ty chosen_form) view rest e t h

    pub choose-second : {A : Type 0} (view : A → List ℕ) (e : Stop) (t u : State) (a : List ℕ) → evaluates c cond s ≡ goes_with a t → Meets view (Err e) u (evaluates c consequent t)
        → Gives (Err e) u (form_value c ty (choose_form cond consequent alternative) s)
    choose-second view e t u a h k =
        first-goes (λ w. w) (evaluates c cond s) (acts c ty chosen_form) rest a t (Err e) u h
        (first-stops (λ w. w) (evaluates c consequent t) (λ ws u'. acts c ty chosen_form (a ∷ ws) u') view (λ s2. alone (evaluates c alternative s2)) e u k)

    pub choose-third : {A : Type 0} (view : A → List ℕ) (e : Stop) (t u v : State) (a b : List ℕ) → evaluates c cond s ≡ goes_with a t → evaluates c consequent t ≡ goes_with b u → Meets view (Err e) v (evaluates c alternative u)
        → Gives (Err e) v (form_value c ty (choose_form cond consequent alternative) s)
    choose-third view e t u v a b h k l =
        first-goes (λ w. w) (evaluates c cond s) (acts c ty chosen_form) rest a t (Err e) v h
        (first-goes (λ w. w) (evaluates c consequent t) (λ ws u'. acts c ty chosen_form (a ∷ ws) u') (λ s2. alone (evaluates c alternative s2)) b u (Err e) v k
        (one-stops (λ w. w) (evaluates c alternative u) (λ ws v'. acts c ty chosen_form (a ∷ b ∷ ws) v') view e v l))

    pub choose-goes : (r : Result (List ℕ) Stop) (t u v x : State) (a b d : List ℕ) → evaluates c cond s ≡ goes_with a t → evaluates c consequent t ≡ goes_with b u → evaluates c alternative u ≡ goes_with d v
        → Gives r x (acts c ty (choose_form cond consequent alternative) (a ∷ b ∷ d ∷ []) v) → Gives r x (form_value c ty (choose_form cond consequent alternative) s)
    choose-goes r t u v x a b d h k l m =
        first-goes (λ w. w) (evaluates c cond s) (acts c ty chosen_form) rest a t r x h
        (first-goes (λ w. w) (evaluates c consequent t) (λ ws u'. acts c ty chosen_form (a ∷ ws) u') (λ s2. alone (evaluates c alternative s2)) b u r x k
        (one-goes (λ w. w) (evaluates c alternative u) (λ ws v'. acts c ty chosen_form (a ∷ b ∷ ws) v') d v r x l m))

  -- ---- an atomic operation

  module _ (target : Target) (kind : Option AtomicKind) (compare : MaybeExpr) (value : Expr) (original : MaybeLocation) where
    abbrev operation : Form
    operation = atomic_form target kind compare value original

    abbrev third : State → Progress (List (List ℕ))
    third s2 = first_then (evaluates c value s2) (λ s3. alone (indexes_if c original s3))

    abbrev second : State → Progress (List (List ℕ))
    second s1 = first_then (value_if c compare s1) third

    pub atomic-first : {A : Type 0} (view : A → List ℕ) (e : Stop) (t : State) → Meets view (Err e) t (target_indexes c target s) → Gives (Err e) t (form_value c ty (atomic_form target kind compare value original) s)
    atomic-first view e t h = first-stops (λ w. w) (target_indexes c target s) (acts c ty operation) view second e t h

    module _ (a : List ℕ) (t : State) (h : target_indexes c target s ≡ goes_with a t) where
      pub atomic-second : {A : Type 0} (view : A → List ℕ) (e : Stop) (u : State) → Meets view (Err e) u (value_if c compare t) → Gives (Err e) u (form_value c ty (atomic_form target kind compare value original) s)
      atomic-second view e u k =
          first-goes (λ w. w) (target_indexes c target s) (acts c ty operation) second a t (Err e) u h
          (first-stops (λ w. w) (value_if c compare t) (λ ws u'. acts c ty operation (a ∷ ws) u') view third e u k)

      module _ (b : List ℕ) (u : State) (k : value_if c compare t ≡ goes_with b u) where
        pub atomic-third : {A : Type 0} (view : A → List ℕ) (e : Stop) (v : State) → Meets view (Err e) v (evaluates c value u) → Gives (Err e) v (form_value c ty (atomic_form target kind compare value original) s)
        atomic-third view e v l =
            first-goes (λ w. w) (target_indexes c target s) (acts c ty operation) second a t (Err e) v h
            (first-goes (λ w. w) (value_if c compare t) (λ ws u'. acts c ty operation (a ∷ ws) u') third b u (Err e) v k
            (first-stops (λ w. w) (evaluates c value u) (λ ws v'. acts c ty operation (a ∷ b ∷ ws) v') view (λ s3. alone (indexes_if c original s3)) e v l))

        module _ (d : List ℕ) (v : State) (l : evaluates c value u ≡ goes_with d v) where
          pub atomic-fourth : {A : Type 0} (view : A → List ℕ) (e : Stop) (x : State) → Meets view (Err e) x (indexes_if c original v) → Gives (Err e) x (form_value c ty (atomic_form target kind compare value original) s)
          atomic-fourth view e x m =
              first-goes (λ w. w) (target_indexes c target s) (acts c ty operation) second a t (Err e) x h
              (first-goes (λ w. w) (value_if c compare t) (λ ws u'. acts c ty operation (a ∷ ws) u') third b u (Err e) x k
              (first-goes (λ w. w) (evaluates c value u) (λ ws v'. acts c ty operation (a ∷ b ∷ ws) v') (λ s3. alone (indexes_if c original s3)) d v (Err e) x l
              (one-stops (λ w. w) (indexes_if c original v) (λ ws x'. acts c ty operation (a ∷ b ∷ d ∷ ws) x') view e x m)))

          pub atomic-goes : (r : Result (List ℕ) Stop) (g : List ℕ) (x y : State) → indexes_if c original v ≡ goes_with g x
              → Gives r y (acts c ty (atomic_form target kind compare value original) (a ∷ b ∷ d ∷ g ∷ []) x) → Gives r y (form_value c ty (atomic_form target kind compare value original) s)
          atomic-goes r g x y m n =
              first-goes (λ w. w) (target_indexes c target s) (acts c ty operation) second a t r y h
              (first-goes (λ w. w) (value_if c compare t) (λ ws u'. acts c ty operation (a ∷ ws) u') third b u r y k
              (first-goes (λ w. w) (evaluates c value u) (λ ws v'. acts c ty operation (a ∷ b ∷ ws) v') (λ s3. alone (indexes_if c original s3)) d v r y l
              (one-goes (λ w. w) (indexes_if c original v) (λ ws x'. acts c ty operation (a ∷ b ∷ d ∷ ws) x') g x r y m n)))

  -- ---- forms of several values

  pub several-stops : {A : Type 0} (view : A → List (List ℕ)) (e : Stop) (t : State) (form : Form) (p : Progress (List (List ℕ))) → operands c form s ≡ p → Meets view (Err e) t p → Gives (Err e) t (form_value c ty form s)
  several-stops view e t form p is h = same (λ w. w) (Err e) t _ _ (ap (λ o. after o (acts c ty form)) (sym is)) (stops view (λ w. w) e t p (acts c ty form) h)

  pub several-goes : (r : Result (List ℕ) Stop) (t u : State) (form : Form) (p : Progress (List (List ℕ))) (ws : List (List ℕ)) → operands c form s ≡ p → p ≡ goes_with ws t → Gives r u (acts c ty form ws t)
      → Gives r u (form_value c ty form s)
  several-goes r t u form p ws is h k = same (λ w. w) r u _ _ (ap (λ o. after o (acts c ty form)) (sym is)) (goes (λ w. w) ws r t u p (acts c ty form) h k)
