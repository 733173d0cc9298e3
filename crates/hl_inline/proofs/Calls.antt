-- A call does what its function's body does in place.
use Rattle.std.proofs.Common.{◌≡◌, ◌∙◌, refl, sym, ap, subst, ℕ, suc, ◌+◌, ◌<◌, ◌≤◌, inl, inr, false, List, [], ◌∷◌, ◌++◌, length, Some, slice_get, arith}
use Rattle.std.specs.Prelude.{if◌then◌else◌, option_map, slice_index_or}
use Rattle.std.proofs.lemmas.List.{length-append}
use Rattle.std.proofs.lemmas.Bool.{true≢false}
use Rattle.lane_core.specs.Lane.{Exchange, Lane}
use Rattle.hl_meaning.specs.Types.{Ty, is_void}
use Rattle.hl_meaning.specs.Trees.{Args, Expr, an_expr, call_form, more_args, no_args}
use Rattle.hl_meaning.specs.Places.{variable_type}
use Rattle.hl_meaning.specs.Programs.{Variable}
use Rattle.hl_source.specs.State.{Callee, Context, Progress, State, after, ends_at, goes_with, variable_words}
use Rattle.hl_source.specs.Memory.{constant_words}
use Rattle.hl_source.specs.Expressions.{arguments, calls, copies_out, evaluates, initial_parameters, no_callee, parameters_of}
use Rattle.hl_inline.specs.FlatTrees.{Flat, FlatStmt, flat_block, flat_named}
use Rattle.hl_inline.specs.FlatViews.{flat_stmts_of}
use Rattle.hl_inline.specs.FlatLane.{flat_context}
use Rattle.hl_inline.specs.Emitting.{Emitter, Valued, reading}
use Rattle.hl_inline.specs.Fresh.{Fresh, Instance, next_of, unnamed}
use Rattle.hl_inline.specs.InlinedCalls.{Inlined, Passed, call, instance_of, pass_all, result_variables, with_body, with_instance}
use Rattle.hl_inline.proofs.Relation.{Keeps, Related, Stands, flat_of_context}
use Rattle.typed_laws.proofs.Variables.{sizes_at, sizes_in}
use Rattle.typed_laws.specs.Fitting.{Fits}
use Rattle.hl_inline.proofs.FittingWords.{reading_gives}
use Rattle.hl_inline.proofs.Performing.{Opens, Runs, perform, runs_map, runs_then, runs_with}
use Rattle.hl_inline.proofs.Emission.{ClosesAs, Emits, HasRoom, Later, Stays}
use Rattle.typed_laws.proofs.Sound.{HasValue}
use Rattle.hl_inline.proofs.Passing.{ArgsReady, ArgsTyped, HeldAs, arg_type, pass_grows, pass_names, passing, runs_giving}
use Rattle.hl_inline.proofs.Fronts.{IsFront, front_length, front_more, front_trans, instance_type, result_type_at}
use Rattle.hl_inline.proofs.OperandLemmas.{args_by}

-- Where an instance of a function stands among the variables of a program without calls: its variables, and that of its
-- result where it has one, are `count` from its first one on.
pub record InstanceIn (c : Context) (V : List Variable) (own : Instance) (g : Inlined) (count : ℕ) (fresh : Fresh) : Type 0 where
  pub below : length c.scope.constants ≤ own.first
  pub constant : (k : ℕ) (t : Ty) → option_map (λ d. d.variable.ty) (slice_get c.scope.constants k) ≡ Some t → variable_type V k ≡ Some t
  pub own_type : (v : ℕ) (t : Ty) → variable_type g.variables v ≡ Some t → variable_type V (own.first + v) ≡ Some t
  pub large : length g.variables ≤ count
  pub room : own.first + count ≤ next_of fresh
  pub result_type : is_void g.result ≡ false → variable_type V own.result ≡ Some g.result
  pub result_place : is_void g.result ≡ false → (own.first + length g.variables ≤ own.result) × (own.result < own.first + count)
  pub front : IsFront (g.body own fresh).fresh.variables V
  pub exit : own.exit < fresh.names

-- what holds where a call begins: the parameters stand in their variables
pub record BeginsAs (c : Context) (V : List Variable) (own : Instance) (g : Inlined) (parameters : List (List ℕ)) (x : Exchange) (t : State) : Type 0 where
  pub exchange : x ≡ t.exchange
  pub flat_sizes : sizes_at t ≡ sizes_in c V
  pub constants : (k : ℕ) → k < length c.scope.constants → variable_words t k ≡ constant_words c k
  pub held : HeldAs t own.first g.parameters parameters
  pub exact : length parameters ≡ length g.parameters

-- what holds where it ends: the parameters are as the function leaves them, and the result stands in its variable
pub record EndsAs (c : Context) (V : List Variable) (own : Instance) (g : Inlined) (count below : ℕ) (t : State) (result : List ℕ) (ended u : State) : Type 0 where
  pub exchange : ended.exchange ≡ u.exchange
  pub flat_sizes : sizes_at u ≡ sizes_in c V
  pub held : HeldAs u own.first g.parameters ended.variables
  pub keeps : Keeps own.first count below t u
  pub result_held : is_void g.result ≡ false → variable_words u own.result ≡ result

abbrev pub body_code : Inlined → Instance → Fresh → List FlatStmt
body_code g own fresh = flat_named own.exit (flat_block (flat_stmts_of (g.body own fresh).code)) ∷ []

-- a function as it is called, and as it is inlined, do the same
pub record Inlines (c : Context) (V : List Variable) (f : Flat) (lane : Lane) (n : ℕ) (callee : Callee) (g : Inlined) : Type 0 where
  pub grows : (own : Instance) (fresh : Fresh) → IsFront fresh.variables (g.body own fresh).fresh.variables
  pub names : (own : Instance) (fresh : Fresh) → fresh.names ≤ (g.body own fresh).fresh.names
  pub runs : (own : Instance) (count : ℕ) (fresh : Fresh) → InstanceIn c V own g count fresh → (parameters : List (List ℕ)) (x : Exchange) (t : State) → BeginsAs c V own g parameters x t →
      Runs (EndsAs c V own g count (next_of fresh) t) (callee parameters x) (perform f lane n (body_code g own fresh) t)

-- a value that stays is given behind its code
pub closes_opens : {A : Type 0} (c : Context) (V : List Variable) (first : ℕ) (D : ℕ → Type 0) (below more : ℕ) (t : State) (k : State → Progress A) (p : Progress A) (q : Progress _) →
    Runs (Stays c V first D below more t k) p q → Opens (Keeps first (length c.scope.variables) below t) (Later c V first D below t) p q k
closes_opens c V first D below more t k (goes_with a s) q (u, e, stays) = (u, e, stays.0.1, (u, stays.1 u (λ w above lower. refl), stays.0))
closes_opens c V first D below more t k (ends_at run) q e = inl e

-- the variables of parameters

pub args_typed_at : (before own more V : List Variable) (number : ℕ) (args : Args) → IsFront (before ++ (own ++ more)) V → ArgsTyped own number args → ArgsTyped V (length before + number) args
args_typed_at before own more V number no_args front typed = tt
args_typed_at before own more V number (more_args arg rest) front typed = (
  instance_type before own more V number (arg_type arg) front typed.0,
  subst (λ k. ArgsTyped V k rest) (next (length before) number) (args_typed_at before own more V (suc number) rest front typed.1),
)
  where
    next : (m k : ℕ) → m + suc k ≡ suc (m + k)
    next m k = omega arith

pub result_count : (own : List Variable) (ty : Ty) (at : ℕ) → is_void ty ≡ false → length (own ++ result_variables ty at) ≡ length own + 1
result_count own ty at some = length-append own (result_variables ty at) ∙ ap (λ b. length own + length (if b then [] else unnamed ty at ∷ [])) some

module _ (c : Context) (V : List Variable) (first : ℕ) (stands : Stands c V first) (f : Flat) (lane : Lane) (n : ℕ) (known : flat_context f lane ≡ flat_of_context c V) (D : ℕ → Type 0) (em : Expr → Emitter) where
  -- where a call ends, its value stands in the variable of the result
  abbrev pub CalledAs : Ty → (below result : ℕ) → State → List ℕ → State → State → Type 0
  CalledAs ty below result t a s u = Later c V first D below t s u × (is_void ty ≡ false → variable_words u result ≡ a)

  -- what is needed of a call: the function and its arguments
  pub record CallReady (function : ℕ) (ty : Ty) (args : Args) (g : Inlined) : Type 0 where
    pub inlines : Inlines c V f lane n (slice_index_or c.callees function no_callee) g
    pub parameters : parameters_of c function ≡ g.parameters
    pub result : g.result ≡ ty
    pub fewer : length g.parameters ≤ length g.variables
    pub args_ready : ArgsReady c V first stands f lane n known D em args g.parameters
    pub args_typed : ArgsTyped g.variables 0 args

  module _ (i : Instance) (is : i.first ≡ first) (ty : Ty) (at function : ℕ) (args : Args) (g : Inlined) (ready : CallReady function ty args g) (fresh : Fresh) where
    abbrev passed : Passed
    passed = pass_all i at (next_of fresh) (args_by em args) g.parameters (with_instance g ty at fresh)

    abbrev count : ℕ
    count = length (g.variables ++ result_variables ty at)

    abbrev whole : Valued
    whole = with_body ty at g (instance_of g fresh) (pass_all i at (next_of fresh) (args_by em args) g.parameters (with_instance g ty at fresh))

    behind_instance : next_of (with_instance g ty at fresh) ≡ next_of fresh + length (g.variables ++ result_variables ty at)
    behind_instance = length-append fresh.variables (g.variables ++ result_variables ty at)

    pub call_runs : ArgsReady c V first stands f lane n known D em args g.parameters → ArgsTyped V (next_of fresh) args → first + length c.scope.variables ≤ next_of fresh →
        InstanceIn c V (instance_of g fresh) g (length (g.variables ++ result_variables ty at)) (pass_all i at (next_of fresh) (args_by em args) g.parameters (with_instance g ty at fresh)).fresh →
        (s t : State) → Related c V first D s t →
        Runs (CalledAs ty (next_of fresh) (instance_of g fresh).result t) (evaluates c (an_expr ty at (call_form function args)) s)
        (perform f lane n (with_body ty at g (instance_of g fresh) (pass_all i at (next_of fresh) (args_by em args) g.parameters (with_instance g ty at fresh))).code t)
    call_runs args_ready typed room place s t r =
        subst (λ ps. Runs (CalledAs ty (next_of fresh) (instance_of g fresh).result t) (after (arguments c args ps s) (λ operands s1. calls c (slice_index_or c.callees function no_callee) args operands s1)) (perform f lane n whole.code t)) (sym ready.parameters)
        (runs_then f lane n _ _ passed.code _ t (arguments c args g.parameters s) (λ operands s1. calls c (slice_index_or c.callees function no_callee) args operands s1)
        (passing c V first stands f lane n known D em i is at (next_of fresh) args g.parameters args_ready typed (with_instance g ty at fresh) room
        (omega (arith, behind_instance, length-append g.variables (result_variables ty at), ready.fewer)) front s t r)
        (λ operands s1 t1 passed_as.
        runs_then f lane n _ _ (body_code g (instance_of g fresh) passed.fresh) passed.copies t1 (slice_index_or c.callees function no_callee (initial_parameters operands) s1.exchange)
        (λ result ended. after (copies_out c args operands ended.variables (record s1 { exchange = ended.exchange })) (λ _ s2. goes_with result s2))
        (ready.inlines.runs (instance_of g fresh) count passed.fresh place (initial_parameters operands) s1.exchange t1
        (record { exchange = passed_as.related.exchange; flat_sizes = passed_as.related.flat_sizes; constants = passed_as.related.constants; held = passed_as.held; exact = passed_as.exact }))
        (λ result ended t2 ends.
        runs_giving _ _ (λ _. result) (copies_out c args operands ended.variables (record s1 { exchange = ended.exchange })) _
        (passed_as.copy ended.variables (record s1 { exchange = ended.exchange }) t2 (related_behind s1 t1 passed_as.related result ended t2 ends)
        (λ w above lower. ends.keeps w lower (inr (omega (arith, above, behind_instance)))) ends.held)
        (λ _ s3 u written. (
          (
            written.0,
            λ w lower outside.
                written.1 w outside ∙ (ends.keeps w (omega (arith, lower, behind_instance, low)) (inl (omega (arith, lower))) ∙ passed_as.keeps w (omega (arith, lower, behind_instance)) outside (inl (omega (arith, lower)))),
          ),
          λ some. written.1 (next_of fresh + length g.variables) (inr (omega (arith, room))) ∙ ends.result_held (subst (λ x. is_void x ≡ false) (sym ready.result) some),
        )))))
      where
        front : IsFront (pass_all i at (next_of fresh) (args_by em args) g.parameters (with_instance g ty at fresh)).fresh.variables V
        front = front_trans (pass_all i at (next_of fresh) (args_by em args) g.parameters (with_instance g ty at fresh)).fresh.variables _ V (ready.inlines.grows (instance_of g fresh) _) place.front

        low : next_of (with_instance g ty at fresh) ≤ next_of (pass_all i at (next_of fresh) (args_by em args) g.parameters (with_instance g ty at fresh)).fresh
        low = front_length (with_instance g ty at fresh).variables _ (pass_grows c V first stands f lane n known D em i at (next_of fresh) args g.parameters args_ready (with_instance g ty at fresh))

        related_behind : (s1 t1 : State) → Related c V first D s1 t1 → (result : List ℕ) (ended t2 : State) →
            EndsAs c V (instance_of g fresh) g (length (g.variables ++ result_variables ty at)) (next_of (pass_all i at (next_of fresh) (args_by em args) g.parameters (with_instance g ty at fresh)).fresh) t1 result ended t2 →
            Related c V first D (record s1 { exchange = ended.exchange }) t2
        related_behind s1 t1 r1 result ended t2 ends = record {
          exchange = ends.exchange;
          sizes = r1.sizes;
          flat_sizes = ends.flat_sizes;
          same = λ v lower d. ends.keeps (first + v) (omega (arith, lower, room, behind_instance, low)) (inl (omega (arith, lower, room))) ∙ r1.same v lower d;
          constants = λ k lower. ends.keeps k (omega (arith, lower, place.below, behind_instance, low)) (inl (omega (arith, lower, place.below))) ∙ r1.constants k lower;
        }

    pub call_grows : ArgsReady c V first stands f lane n known D em args g.parameters →
        IsFront fresh.variables (with_body ty at g (instance_of g fresh) (pass_all i at (next_of fresh) (args_by em args) g.parameters (with_instance g ty at fresh))).fresh.variables
    call_grows args_ready =
        front_trans fresh.variables (with_instance g ty at fresh).variables _ (front_more fresh.variables (g.variables ++ result_variables ty at))
        (front_trans (with_instance g ty at fresh).variables passed.fresh.variables _
        (pass_grows c V first stands f lane n known D em i at (next_of fresh) args g.parameters args_ready (with_instance g ty at fresh)) (ready.inlines.grows (instance_of g fresh) passed.fresh))

    pub call_names : fresh.names ≤ (with_body ty at g (instance_of g fresh) (pass_all i at (next_of fresh) (args_by em args) g.parameters (with_instance g ty at fresh))).fresh.names
    call_names = omega (arith, pass_names c V first stands f lane n known D em i at (next_of fresh) args g.parameters ready.args_ready (with_instance g ty at fresh), ready.inlines.names (instance_of g fresh) passed.fresh)

    instance_front : HasRoom c V first stands f lane n known fresh (with_body ty at g (instance_of g fresh) (pass_all i at (next_of fresh) (args_by em args) g.parameters (with_instance g ty at fresh))).fresh →
        IsFront (fresh.variables ++ (g.variables ++ result_variables ty at)) V
    instance_front room =
        front_trans (with_instance g ty at fresh).variables passed.fresh.variables V (pass_grows c V first stands f lane n known D em i at (next_of fresh) args g.parameters ready.args_ready (with_instance g ty at fresh))
        (front_trans passed.fresh.variables _ V (ready.inlines.grows (instance_of g fresh) passed.fresh) room.1)

    -- the call stands among all variables
    pub call_stands : HasRoom c V first stands f lane n known fresh (with_body ty at g (instance_of g fresh) (pass_all i at (next_of fresh) (args_by em args) g.parameters (with_instance g ty at fresh))).fresh →
        InstanceIn c V (instance_of g fresh) g (length (g.variables ++ result_variables ty at)) (pass_all i at (next_of fresh) (args_by em args) g.parameters (with_instance g ty at fresh)).fresh
    call_stands room = record {
      below = omega (arith, stands.below, room.0);
      constant = stands.constant;
      own_type = λ v t typed. instance_type fresh.variables g.variables (result_variables ty at) V v t (instance_front room) typed;
      large = omega (arith, length-append g.variables (result_variables ty at));
      room = omega (
        arith,
        behind_instance,
        front_length (with_instance g ty at fresh).variables _
            (pass_grows c V first stands f lane n known D em i at (next_of fresh) args g.parameters ready.args_ready (with_instance g ty at fresh)),
      );
      result_type = λ some. result_type_at fresh.variables g.variables V ty at (instance_front room) (subst (λ x. is_void x ≡ false) ready.result some) ∙ ap Some (sym ready.result);
      result_place = λ some. (omega arith, omega (arith, result_count g.variables ty at (subst (λ x. is_void x ≡ false) ready.result some)));
      front = room.1;
      exit = omega (arith, pass_names c V first stands f lane n known D em i at (next_of fresh) args g.parameters ready.args_ready (with_instance g ty at fresh));
    }

    pub call_called : HasRoom c V first stands f lane n known fresh (with_body ty at g (instance_of g fresh) (pass_all i at (next_of fresh) (args_by em args) g.parameters (with_instance g ty at fresh))).fresh →
        (s t : State) → Related c V first D s t →
        Runs (CalledAs ty (next_of fresh) (instance_of g fresh).result t) (evaluates c (an_expr ty at (call_form function args)) s)
        (perform f lane n (with_body ty at g (instance_of g fresh) (pass_all i at (next_of fresh) (args_by em args) g.parameters (with_instance g ty at fresh))).code t)
    call_called room =
        call_runs ready.args_ready
        (subst (λ k. ArgsTyped V k args) (add_nothing (next_of fresh)) (args_typed_at fresh.variables g.variables (result_variables ty at) V 0 args (instance_front room) ready.args_typed))
        room.0 (call_stands room)
      where
        add_nothing : (m : ℕ) → m + 0 ≡ m
        add_nothing m = omega arith

    -- the value of a call stays
    pub call_closes : HasValue c (an_expr ty at (call_form function args)) → is_void ty ≡ false →
        HasRoom c V first stands f lane n known fresh (with_body ty at g (instance_of g fresh) (pass_all i at (next_of fresh) (args_by em args) g.parameters (with_instance g ty at fresh))).fresh →
        ClosesAs c V first stands f lane n known D (an_expr ty at (call_form function args)) fresh
        (with_body ty at g (instance_of g fresh) (pass_all i at (next_of fresh) (args_by em args) g.parameters (with_instance g ty at fresh)))
    call_closes value some room s t r =
        runs_map (λ a s1 u. CalledAs ty (next_of fresh) (next_of fresh + length g.variables) t a s1 u × Fits c.scope.structs ty a) _ stays (evaluates c (an_expr ty at (call_form function args)) s) _
        (runs_with (CalledAs ty (next_of fresh) (instance_of g fresh).result t) (Fits c.scope.structs ty) (evaluates c (an_expr ty at (call_form function args)) s) _ (call_called room s t r) (value.fits s))
      where
        result_there : next_of fresh + length g.variables < next_of (with_body ty at g (instance_of g fresh) (pass_all i at (next_of fresh) (args_by em args) g.parameters (with_instance g ty at fresh))).fresh
        result_there = omega (
          arith,
          result_count g.variables ty at some,
          behind_instance,
          front_length (with_instance g ty at fresh).variables _ (pass_grows c V first stands f lane n known D em i at (next_of fresh) args g.parameters ready.args_ready (with_instance g ty at fresh)),
          front_length (pass_all i at (next_of fresh) (args_by em args) g.parameters (with_instance g ty at fresh)).fresh.variables _
              (ready.inlines.grows (instance_of g fresh) (pass_all i at (next_of fresh) (args_by em args) g.parameters (with_instance g ty at fresh)).fresh),
        )

        stays : (a : List ℕ) (s1 u : State) → CalledAs ty (next_of fresh) (next_of fresh + length g.variables) t a s1 u × Fits c.scope.structs ty a →
            Stays c V first D (next_of fresh) (next_of (with_body ty at g (instance_of g fresh) (pass_all i at (next_of fresh) (args_by em args) g.parameters (with_instance g ty at fresh))).fresh) t
            (evaluates (flat_of_context c V) (reading ty at (next_of fresh + length g.variables))) a s1 u
        stays a s1 u x = (
          x.0.0,
          λ v keep.
              reading_gives c V ty at (next_of fresh + length g.variables) a v (result_type_at fresh.variables g.variables V ty at (instance_front room) some) x.1 value.small
              (keep (next_of fresh + length g.variables) (omega arith) result_there ∙ x.0.1 some),
        )

  pub call_emits : (i : Instance) → i.first ≡ first → (ty : Ty) (at function : ℕ) (args : Args) (g : Inlined) → CallReady function ty args g → HasValue c (an_expr ty at (call_form function args)) → is_void ty ≡ false →
      Emits c V first stands f lane n known D (an_expr ty at (call_form function args)) (call i ty at g (args_by em args))
  call_emits i is ty at function args g ready value some = record {
    grows = λ fresh. call_grows i is ty at function args g ready fresh ready.args_ready;
    names = λ fresh. call_names i is ty at function args g ready fresh;
    typed = λ fresh. refl;
    quiet = λ none fresh. absurd (true≢false none);
    opens = λ fresh room s t r. closes_opens c V first D (next_of fresh) _ t _ _ _ (call_closes i is ty at function args g ready fresh value some room s t r);
    closes = λ fresh fixed room. call_closes i is ty at function args g ready fresh value some room;
  }
