-- What becomes of operands in order does what the operands do.
use Rattle.std.proofs.Common.{◌≡◌, ◌∙◌, refl, sym, ap, subst, ℕ, ◌+◌, ◌<◌, ◌≤◌, inl, inr, Bool, true, false, List, [], ◌∷◌, ◌++◌, map, length, Some, arith}
use Rattle.std.specs.Prelude.{if◌then◌else◌, ◌||◌, ◌&&◌, not}
use Rattle.std.proofs.lemmas.List.{append-nil, length-append}
use Rattle.std.proofs.lemmas.Bool.{true≢false}
use Rattle.lane_core.specs.Lane.{Lane, Run}
use Rattle.hl_meaning.specs.Types.{Ty}
use Rattle.hl_meaning.specs.Trees.{Expr, type_of}
use Rattle.hl_meaning.specs.Places.{variable_type}
use Rattle.hl_meaning.specs.Programs.{Variable}
use Rattle.hl_meaning.specs.Layout.{words_of}
use Rattle.hl_meaning.specs.WellFormed.{most_words}
use Rattle.hl_source.specs.State.{Context, Progress, State, after, ends_at, first_then, goes_with, variable_words, with_variable}
use Rattle.hl_source.specs.Statements.{at_end}
use Rattle.hl_source.specs.Expressions.{evaluates}
use Rattle.hl_inline.specs.FlatTrees.{Flat, FlatStmt, flat_local}
use Rattle.hl_inline.specs.FlatLane.{FlatLeaving, flat_context, flat_done, flat_end, then_flat}
use Rattle.hl_inline.specs.Emitting.{Emitter, Valued, Values, any_call, emit_all, saved, settled, token_of, values_with}
use Rattle.hl_inline.specs.Fresh.{Fresh, next_of, unnamed}
use Rattle.typed_laws.proofs.Induction.{Every}
use Rattle.typed_laws.proofs.ProgressLemmas.{giving}
use Rattle.typed_laws.proofs.OperandValues.{evaluate_all}
use Rattle.hl_inline.proofs.Relation.{IsOutside, Keeps, Related, Stands, flat_of_context}
use Rattle.typed_laws.proofs.Variables.{count_by_sizes, sizes_set, variable_size, words_set_other, words_set_same}
use Rattle.typed_laws.specs.Fitting.{Fits, Yields}
use Rattle.typed_laws.proofs.Sound.{HasValue}
use Rattle.typed_laws.proofs.Fitting.{fits_length}
use Rattle.hl_inline.proofs.FittingWords.{reading_gives}
use Rattle.hl_inline.proofs.Performing.{Opens, Runs, perform, perform_ends, perform_next}
use Rattle.hl_inline.proofs.Fronts.{IsFront, front_length, front_more, front_refl, front_trans, next_variable, type_there}

-- variables

pub keeps_trans : (first size below more : ℕ) (t u v : State) → below ≤ more → Keeps first size below t u → Keeps first size more u v → Keeps first size below t v
keeps_trans first size below more t u v low k l w lower outside = l w (omega (arith, low, lower)) outside ∙ k w lower outside

pub keeps_refl : (first size below : ℕ) (t : State) → Keeps first size below t t
keeps_refl first size below t w lower outside = refl

-- a variable behind those of the function is set
pub related_set_other : (c : Context) (V : List Variable) (first : ℕ) (D : ℕ → Type 0) (w : ℕ) (ws : List ℕ) (s t : State) → length c.scope.constants ≤ first →
    Related c V first D s t → first + length c.scope.variables ≤ w → length ws ≡ length (variable_words t w) → Related c V first D s (with_variable w ws t)
related_set_other c V first D w ws s t below r high e = record {
  exchange = r.exchange;
  sizes = r.sizes;
  flat_sizes = sizes_set w ws t e ∙ r.flat_sizes;
  same = λ v low d. words_set_other w (first + v) ws t (λ is. omega (arith, is, high, low)) ∙ r.same v low d;
  constants = λ k is_k. words_set_other w k ws t (λ is. omega (arith, is, is_k, below, high)) ∙ r.constants k is_k;
}

-- states that are related, where the second keeps what an earlier one had
abbrev pub Later : Context → List Variable → (first : ℕ) → (D : ℕ → Type 0) → (below : ℕ) → State → State → State → Type 0
Later c V first D below t s u = Related c V first D s u × Keeps first (length c.scope.variables) below t u

-- the variables from a number on, below another, are as they were
abbrev pub KeepsFrom : (from below : ℕ) → State → State → Type 0
KeepsFrom from below t u = (w : ℕ) → from ≤ w → w < below → variable_words u w ≡ variable_words t w

pub keeps_from : (first size from below : ℕ) (t u : State) → first + size ≤ from → Keeps first size below t u → KeepsFrom from below t u
keeps_from first size from below t u room keep w above lower = keep w lower (inr (omega (arith, room, above)))

pub keeps_from_trans : (from middle below : ℕ) (t u v : State) → middle ≤ below → KeepsFrom from middle t u → KeepsFrom from below u v → KeepsFrom from middle t v
keeps_from_trans from middle below t u v low k l w above lower = l w above (omega (arith, low, lower)) ∙ k w above lower

pub keeps_from_more : (from middle below : ℕ) (t u : State) → from ≤ middle → KeepsFrom from below t u → KeepsFrom middle below t u
keeps_from_more from middle below t u low k w above lower = k w (omega (arith, low, above)) lower

-- The same, and an evaluation gives the same value as long as the variables are kept that are new since then: those from
-- a number on, below another.
abbrev pub Stays : {A : Type 0} → Context → List Variable → (first : ℕ) → (D : ℕ → Type 0) → (below more : ℕ) → State → (State → Progress A) → A → State → State → Type 0
Stays c V first D below more t value a s u =
    Later c V first D below t s u × ((v : State) → KeepsFrom below more u v → value v ≡ goes_with a v)

module _ (c : Context) (V : List Variable) (first : ℕ) (stands : Stands c V first) (f : Flat) (lane : Lane) (n : ℕ) (known : flat_context f lane ≡ flat_of_context c V) where
  -- statements before a value, which together do what an expression does
  abbrev pub OpensAs : (D : ℕ → Type 0) → Expr → Fresh → Valued → Type 0
  OpensAs D e fresh x = (s t : State) → Related c V first D s t →
      Opens (Keeps first (length c.scope.variables) (next_of fresh) t) (Later c V first D (next_of fresh) t) (evaluates c e s) (perform f lane n x.code t) (evaluates (flat_of_context c V) x.value)

  -- the same, where the value stays
  abbrev pub ClosesAs : (D : ℕ → Type 0) → Expr → Fresh → Valued → Type 0
  ClosesAs D e fresh x = (s t : State) → Related c V first D s t →
      Runs (Stays c V first D (next_of fresh) (next_of x.fresh) t (evaluates (flat_of_context c V) x.value)) (evaluates c e s) (perform f lane n x.code t)

  -- there is room for the function below what is free, and what is free in the end is a front of all
  abbrev pub HasRoom : (fresh after : Fresh) → Type 0
  HasRoom fresh after = (first + length c.scope.variables ≤ next_of fresh) × IsFront after.variables V

  -- what becomes of an expression
  pub record Emits (D : ℕ → Type 0) (e : Expr) (em : Emitter) : Type 0 where
    pub grows : (fresh : Fresh) → IsFront fresh.variables (em.emit fresh).fresh.variables
    pub names : (fresh : Fresh) → fresh.names ≤ (em.emit fresh).fresh.names
    pub typed : (fresh : Fresh) → type_of (em.emit fresh).value ≡ type_of e
    pub quiet : em.has_call ≡ false → (fresh : Fresh) → (em.emit fresh).code ≡ []
    pub opens : (fresh : Fresh) → HasRoom fresh (em.emit fresh).fresh → OpensAs D e fresh (em.emit fresh)
    pub closes : (fresh : Fresh) → (em.emit fresh).fixed ≡ true → HasRoom fresh (em.emit fresh).fresh → ClosesAs D e fresh (em.emit fresh)

  -- a variable is set to a value
  declaring : ℕ → Progress (List ℕ) → Progress FlatLeaving
  declaring w p = after (flat_done (after p (λ words s. goes_with at_end (with_variable w words s)))) (then_flat (λ s. goes_with flat_end s))

  pub declares_goes : (w : ℕ) (init : Expr) (a : List ℕ) (t u : State) → evaluates (flat_of_context c V) init t ≡ goes_with a u →
      perform f lane n (flat_local w (Some init) ∷ []) t ≡ goes_with flat_end (with_variable w a u)
  unfolding declaring
  declares_goes w init a t u e = ap (λ d. declaring w (evaluates d init t)) known ∙ ap (declaring w) e

  pub declares_ends : (w : ℕ) (init : Expr) (t : State) (run : Run) → evaluates (flat_of_context c V) init t ≡ ends_at run →
      perform f lane n (flat_local w (Some init) ∷ []) t ≡ ends_at run
  unfolding declaring
  declares_ends w init t run e = ap (λ d. declaring w (evaluates d init t)) known ∙ ap (declaring w) e

  -- the value is put into a variable
  pub saving : (D : ℕ → Type 0) (e : Expr) (x : Valued) (below : ℕ) → type_of x.value ≡ type_of e → HasValue c e → first + length c.scope.variables ≤ next_of x.fresh → below ≤ next_of x.fresh →
      IsFront (saved x).fresh.variables V → (t : State) (p : Progress (List ℕ)) →
      Opens (Keeps first (length c.scope.variables) below t) (Later c V first D below t) p (perform f lane n x.code t) (evaluates (flat_of_context c V) x.value) → Yields (Fits c.scope.structs (type_of e)) p →
      Runs (Stays c V first D below (next_of (saved x).fresh) t (evaluates (flat_of_context c V) (saved x).value)) p (perform f lane n (saved x).code t)
  saving D e x below typed value room low front t (goes_with a s) (t1, code, m, (u, is, later)) fits =
      (with_variable (next_of x.fresh) a u, perform_next f lane n x.code _ t t1 code ∙ declares_goes (next_of x.fresh) x.value a t1 u is, ((related, keeps), stays))
    where
      there : variable_type V (next_of x.fresh) ≡ Some (type_of x.value)
      there = next_variable x.fresh.variables V (unnamed (type_of x.value) (token_of x.value)) front

      fitting : Fits c.scope.structs (type_of x.value) a
      fitting = subst (λ ty. Fits c.scope.structs ty a) (sym typed) fits

      related : Related c V first D s (with_variable (next_of x.fresh) a u)
      related = related_set_other c V first D (next_of x.fresh) a s u stands.below later.0 room
          (fits_length c.scope.structs (type_of x.value) a fitting ∙ sym (variable_size c V u (next_of x.fresh) (type_of x.value) later.0.flat_sizes there))

      keeps : Keeps first (length c.scope.variables) below t (with_variable (next_of x.fresh) a u)
      keeps w lower outside = words_set_other (next_of x.fresh) w a u (λ is. omega (arith, is, lower, low)) ∙ later.1 w lower outside

      has : variable_words (with_variable (next_of x.fresh) a u) (next_of x.fresh) ≡ a
      has = words_set_same (next_of x.fresh) a u (subst (λ k. next_of x.fresh < k) (sym (count_by_sizes c V u later.0.flat_sizes)) (type_there V (next_of x.fresh) (type_of x.value) there))

      stays : (v : State) → KeepsFrom below (next_of (saved x).fresh) (with_variable (next_of x.fresh) a u) v →
          evaluates (flat_of_context c V) (saved x).value v ≡ goes_with a v
      stays v keep =
          reading_gives c V (type_of x.value) (token_of x.value) (next_of x.fresh) a v there fitting (subst (λ ty. words_of c.scope.structs ty ≤ most_words) (sym typed) value.small)
          (keep (next_of x.fresh) low (omega (arith, length-append x.fresh.variables (unnamed (type_of x.value) (token_of x.value) ∷ []))) ∙ has)
  saving D e x below typed value room low front t (ends_at run) (inl code) fits = perform_ends f lane n x.code _ t run code
  saving D e x below typed value room low front t (ends_at run) (inr (t1, code, m, is)) fits =
      perform_next f lane n x.code _ t t1 code ∙ declares_ends (next_of x.fresh) x.value t1 run is

  settled_grows : (further : Bool) (x : Valued) → IsFront x.fresh.variables (settled further x).fresh.variables
  settled_grows further x = by_test (further && not x.fixed)
    where
      by_test : (b : Bool) → IsFront x.fresh.variables (if b then saved x else x).fresh.variables
      by_test true = front_more x.fresh.variables (unnamed (type_of x.value) (token_of x.value) ∷ [])
      by_test false = front_refl x.fresh.variables

  settled_names : (further : Bool) (x : Valued) → (settled further x).fresh.names ≡ x.fresh.names
  settled_names further x = by_test (further && not x.fixed)
    where
      by_test : (b : Bool) → (if b then saved x else x).fresh.names ≡ x.fresh.names
      by_test true = refl
      by_test false = refl

  settled_typed : (further : Bool) (x : Valued) → type_of (settled further x).value ≡ type_of x.value
  settled_typed further x = by_test (further && not x.fixed)
    where
      by_test : (b : Bool) → type_of (if b then saved x else x).value ≡ type_of x.value
      by_test true = refl
      by_test false = refl

  -- a value that has to stay does
  settling : (D : ℕ → Type 0) (e : Expr) (em : Emitter) → Emits D e em → HasValue c e → (fresh : Fresh) → HasRoom fresh (settled true (em.emit fresh)).fresh → ClosesAs D e fresh (settled true (em.emit fresh))
  settling D e em emits value fresh room = by_fixed (em.emit fresh).fixed refl room
    where
      low : next_of fresh ≤ next_of (em.emit fresh).fresh
      low = front_length fresh.variables (em.emit fresh).fresh.variables (emits.grows fresh)

      by_fixed : (b : Bool) → (em.emit fresh).fixed ≡ b → HasRoom fresh (if not b then saved (em.emit fresh) else em.emit fresh).fresh →
          ClosesAs D e fresh (if not b then saved (em.emit fresh) else em.emit fresh)
      by_fixed true is room = emits.closes fresh is room
      by_fixed false is room = λ s t r.
          saving D e (em.emit fresh) (next_of fresh) (emits.typed fresh) value (omega (arith, room.0, low)) low room.1 t (evaluates c e s)
          (emits.opens fresh (room.0, front_trans (em.emit fresh).fresh.variables (saved (em.emit fresh)).fresh.variables V (front_more (em.emit fresh).fresh.variables _) room.1) s t r) (value.fits s)

  -- a value is put into a variable behind those of the function
  pub storing : (D : ℕ → Type 0) (w : ℕ) (ty : Ty) (code : List FlatStmt) (value : Expr) (below : ℕ) → first + length c.scope.variables ≤ w → variable_type V w ≡ Some ty → (t : State) (p : Progress (List ℕ)) →
      Opens (Keeps first (length c.scope.variables) below t) (Later c V first D below t) p (perform f lane n code t) (evaluates (flat_of_context c V) value) → Yields (λ a. length a ≡ words_of c.scope.structs ty) p →
      Runs (λ a s u. Related c V first D s u × (variable_words u w ≡ a) × ((v : ℕ) → v < below → IsOutside first (length c.scope.variables) v → (v ≡ w → ⊥) → variable_words u v ≡ variable_words t v)) p
      (perform f lane n (code ++ flat_local w (Some value) ∷ []) t)
  storing D w ty code value below high typed t (goes_with a s) (t1, coded, m, (u, is, later)) long = (
    with_variable w a u,
    perform_next f lane n code _ t t1 coded ∙ declares_goes w value a t1 u is,
    (
      related_set_other c V first D w a s u stands.below later.0 high (long ∙ sym (variable_size c V u w ty later.0.flat_sizes typed)),
      words_set_same w a u (subst (λ k. w < k) (sym (count_by_sizes c V u later.0.flat_sizes)) (type_there V w ty typed)),
      λ v lower outside apart. words_set_other w v a u apart ∙ later.1 v lower outside,
    ),
  )
  storing D w ty code value below high typed t (ends_at run) (inl coded) long = perform_ends f lane n code _ t run coded
  storing D w ty code value below high typed t (ends_at run) (inr (t1, coded, m, is)) long = perform_next f lane n code _ t t1 coded ∙ declares_ends w value t1 run is

  -- operands in order

  pub all_grow : (D : ℕ → Type 0) (em : Expr → Emitter) (es : List Expr) → Every (λ e. Emits D e (em e)) es → (further : Bool) (fresh : Fresh) →
      IsFront fresh.variables (emit_all further (map em es) fresh).fresh.variables
  all_grow D em [] emits further fresh = front_refl fresh.variables
  all_grow D em (e ∷ es) emits further fresh =
      front_trans fresh.variables ((em e).emit fresh).fresh.variables _ (emits.0.grows fresh)
      (front_trans ((em e).emit fresh).fresh.variables (settled (further || any_call (map em es)) ((em e).emit fresh)).fresh.variables _
      (settled_grows (further || any_call (map em es)) ((em e).emit fresh))
      (all_grow D em es emits.1 further (settled (further || any_call (map em es)) ((em e).emit fresh)).fresh))

  pub all_names : (D : ℕ → Type 0) (em : Expr → Emitter) (es : List Expr) → Every (λ e. Emits D e (em e)) es → (further : Bool) (fresh : Fresh) →
      fresh.names ≤ (emit_all further (map em es) fresh).fresh.names
  all_names D em [] emits further fresh = omega arith
  all_names D em (e ∷ es) emits further fresh =
      omega (arith, emits.0.names fresh, settled_names (further || any_call (map em es)) ((em e).emit fresh), all_names D em es emits.1 further (settled (further || any_call (map em es)) ((em e).emit fresh)).fresh)

  pub all_typed : (D : ℕ → Type 0) (em : Expr → Emitter) (es : List Expr) → Every (λ e. Emits D e (em e)) es → (further : Bool) (fresh : Fresh) →
      map type_of (emit_all further (map em es) fresh).values ≡ map type_of es
  all_typed D em [] emits further fresh = refl
  all_typed D em (e ∷ es) emits further fresh =
      ap (λ ty. ty ∷ map type_of (emit_all further (map em es) (settled (further || any_call (map em es)) ((em e).emit fresh)).fresh).values)
      (settled_typed (further || any_call (map em es)) ((em e).emit fresh) ∙ emits.0.typed fresh) ∙
      ap (λ tys. type_of e ∷ tys) (all_typed D em es emits.1 further (settled (further || any_call (map em es)) ((em e).emit fresh)).fresh)

  or_false : (a b : Bool) → (a || b) ≡ false → (a ≡ false) × (b ≡ false)
  or_false true b e = absurd (true≢false e)
  or_false false b e = (refl, e)

  pub all_quiet : (D : ℕ → Type 0) (em : Expr → Emitter) (es : List Expr) → Every (λ e. Emits D e (em e)) es → any_call (map em es) ≡ false → (fresh : Fresh) →
      (emit_all false (map em es) fresh).code ≡ []
  all_quiet D em [] emits none fresh = refl
  all_quiet D em (e ∷ es) emits none fresh =
      let both = or_false (em e).has_call (any_call (map em es)) none in
      ap (λ b. (settled b ((em e).emit fresh)).code ++ (emit_all false (map em es) (settled b ((em e).emit fresh)).fresh).code) both.1 ∙
      (ap (λ code. code ++ (emit_all false (map em es) ((em e).emit fresh).fresh).code) (emits.0.quiet both.0 fresh) ∙
      all_quiet D em es emits.1 both.1 ((em e).emit fresh).fresh)

  -- operands behind which calls stand
  pub all_close : (D : ℕ → Type 0) (em : Expr → Emitter) (es : List Expr) → Every (λ e. Emits D e (em e)) es → Every (HasValue c) es → (fresh : Fresh) →
      HasRoom fresh (emit_all true (map em es) fresh).fresh → (s t : State) → Related c V first D s t →
      Runs (Stays c V first D (next_of fresh) (next_of (emit_all true (map em es) fresh).fresh) t (evaluate_all (flat_of_context c V) (emit_all true (map em es) fresh).values))
      (evaluate_all c es s) (perform f lane n (emit_all true (map em es) fresh).code t)
  all_close D em [] emits value fresh room s t r = (t, refl, ((r, keeps_refl first (length c.scope.variables) (next_of fresh) t), λ v keep. refl))
  all_close D em (e ∷ es) emits value fresh room s t r = by_first (λ s1 t1 r1. all_close D em es emits.1 value.1 x.fresh (omega (arith, room.0, low), room.1) s1 t1 r1) (evaluates c e s)
      (settling D e (em e) emits.0 value.0 fresh (room.0, front_trans x.fresh.variables y.fresh.variables V rest_grows room.1) s t r)
    where
      x : Valued
      x = settled true ((em e).emit fresh)

      y : Values
      y = emit_all true (map em es) (settled true ((em e).emit fresh)).fresh

      rest_grows : IsFront (settled true ((em e).emit fresh)).fresh.variables (emit_all true (map em es) (settled true ((em e).emit fresh)).fresh).fresh.variables
      rest_grows = all_grow D em es emits.1 true (settled true ((em e).emit fresh)).fresh

      low : next_of fresh ≤ next_of (settled true ((em e).emit fresh)).fresh
      low = front_length fresh.variables (settled true ((em e).emit fresh)).fresh.variables
          (front_trans fresh.variables ((em e).emit fresh).fresh.variables (settled true ((em e).emit fresh)).fresh.variables (emits.0.grows fresh) (settled_grows true ((em e).emit fresh)))

      lower : next_of (settled true ((em e).emit fresh)).fresh ≤ next_of (emit_all true (map em es) (settled true ((em e).emit fresh)).fresh).fresh
      lower = front_length (settled true ((em e).emit fresh)).fresh.variables _ rest_grows

      by_rest : (a : List ℕ) (s1 t1 : State) → perform f lane n (settled true ((em e).emit fresh)).code t ≡ goes_with flat_end t1 →
          Stays c V first D (next_of fresh) (next_of (settled true ((em e).emit fresh)).fresh) t (evaluates (flat_of_context c V) (settled true ((em e).emit fresh)).value) a s1 t1 →
          (p : Progress (List (List ℕ))) →
          Runs (Stays c V first D (next_of (settled true ((em e).emit fresh)).fresh) (next_of (emit_all true (map em es) (settled true ((em e).emit fresh)).fresh).fresh) t1
          (evaluate_all (flat_of_context c V) (emit_all true (map em es) (settled true ((em e).emit fresh)).fresh).values)) p
          (perform f lane n (emit_all true (map em es) (settled true ((em e).emit fresh)).fresh).code t1) →
          Runs (Stays c V first D (next_of fresh) (next_of (emit_all true (map em (e ∷ es)) fresh).fresh) t (evaluate_all (flat_of_context c V) (emit_all true (map em (e ∷ es)) fresh).values))
          (giving (λ as_rest. a ∷ as_rest) p) (perform f lane n (emit_all true (map em (e ∷ es)) fresh).code t)
      by_rest a s1 t1 code stay (goes_with as_rest s2) (t2, code2, (later2, stay2)) = (
        t2,
        perform_next f lane n x.code y.code t t1 code ∙ code2,
        (
          (later2.0, keeps_trans first (length c.scope.variables) (next_of fresh) (next_of x.fresh) t t1 t2 low stay.0.1 later2.1),
          λ v keep.
              ap (λ p. first_then p (evaluate_all (flat_of_context c V) y.values)) (stay.1 v (keeps_from_trans (next_of fresh) (next_of x.fresh) (next_of y.fresh) t1 t2 v lower
              (keeps_from first (length c.scope.variables) (next_of fresh) (next_of x.fresh) t1 t2 room.0 later2.1) keep)) ∙
              ap (giving (λ r. a ∷ r)) (stay2 v (keeps_from_more (next_of fresh) (next_of x.fresh) (next_of y.fresh) t2 v low keep)),
        ),
      )
      by_rest a s1 t1 code stay (ends_at run) code2 = perform_next f lane n x.code y.code t t1 code ∙ code2

      by_first : ((s1 t1 : State) → Related c V first D s1 t1 →
          Runs (Stays c V first D (next_of (settled true ((em e).emit fresh)).fresh) (next_of (emit_all true (map em es) (settled true ((em e).emit fresh)).fresh).fresh) t1
          (evaluate_all (flat_of_context c V) (emit_all true (map em es) (settled true ((em e).emit fresh)).fresh).values)) (evaluate_all c es s1)
          (perform f lane n (emit_all true (map em es) (settled true ((em e).emit fresh)).fresh).code t1)) →
          (p : Progress (List ℕ)) →
          Runs (Stays c V first D (next_of fresh) (next_of (settled true ((em e).emit fresh)).fresh) t (evaluates (flat_of_context c V) (settled true ((em e).emit fresh)).value)) p
          (perform f lane n (settled true ((em e).emit fresh)).code t) →
          Runs (Stays c V first D (next_of fresh) (next_of (emit_all true (map em (e ∷ es)) fresh).fresh) t (evaluate_all (flat_of_context c V) (emit_all true (map em (e ∷ es)) fresh).values))
          (first_then p (evaluate_all c es)) (perform f lane n (emit_all true (map em (e ∷ es)) fresh).code t)
      by_first next (goes_with a s1) (t1, code, stay) = by_rest a s1 t1 code stay (evaluate_all c es s1) (next s1 t1 stay.0.0)
      by_first next (ends_at run) code = perform_ends f lane n x.code y.code t run code

  -- a later operand that stays, or no code behind an operand

  -- what the operands from one on become, where the first is settled or not
  abbrev pub from_one_on : (further : Bool) → Valued → List Emitter → Values
  from_one_on further x es = values_with (settled further x) (emit_all false es (settled further x).fresh)

  same_end : (t u : State) → goes_with flat_end t ≡ goes_with flat_end u → t ≡ u
  same_end t u e = cc

  no_end : (t : State) (run : Run) → goes_with flat_end t ≡ ends_at run → ⊥
  no_end t run e = cc

  module _ (D : ℕ → Type 0) (x : Valued) (y : Values) (below : ℕ) (room : first + length c.scope.variables ≤ below) (low : below ≤ next_of x.fresh) (t : State) (rest : State → Progress (List (List ℕ))) where
    -- the first stays while the code of the others runs
    opens_stayed : (a : List ℕ) (t1 : State) → perform f lane n x.code t ≡ goes_with flat_end t1 → Keeps first (length c.scope.variables) below t t1 →
        ((v : State) → KeepsFrom below (next_of x.fresh) t1 v → evaluates (flat_of_context c V) x.value v ≡ goes_with a v) → (p : Progress (List (List ℕ))) →
        Opens (Keeps first (length c.scope.variables) (next_of x.fresh) t1) (Later c V first D (next_of x.fresh) t1) p (perform f lane n y.code t1) (evaluate_all (flat_of_context c V) y.values) →
        Opens (Keeps first (length c.scope.variables) below t) (Later c V first D below t) (giving (λ r. a ∷ r) p) (perform f lane n (x.code ++ y.code) t) (evaluate_all (flat_of_context c V) (x.value ∷ y.values))
    opens_stayed a t1 code keep stay (goes_with as_rest s2) (t2, code2, m2, (u, is, later)) = (
      t2,
      perform_next f lane n x.code y.code t t1 code ∙ code2,
      keeps_trans first (length c.scope.variables) below (next_of x.fresh) t t1 t2 low keep m2,
      (
        u,
        ap (λ p. first_then p (evaluate_all (flat_of_context c V) y.values)) (stay t2 (keeps_from first (length c.scope.variables) below (next_of x.fresh) t1 t2 room m2)) ∙ ap (giving (λ r. a ∷ r)) is,
        (later.0, keeps_trans first (length c.scope.variables) below (next_of x.fresh) t t1 u low keep later.1),
      ),
    )
    opens_stayed a t1 code keep stay (ends_at run) (inl code2) = inl (perform_next f lane n x.code y.code t t1 code ∙ code2)
    opens_stayed a t1 code keep stay (ends_at run) (inr (t2, code2, m2, is)) =
        inr (
          t2,
          perform_next f lane n x.code y.code t t1 code ∙ code2,
          keeps_trans first (length c.scope.variables) below (next_of x.fresh) t t1 t2 low keep m2,
          ap (λ p. first_then p (evaluate_all (flat_of_context c V) y.values)) (stay t2 (keeps_from first (length c.scope.variables) below (next_of x.fresh) t1 t2 room m2)) ∙ ap (giving (λ r. a ∷ r)) is,
        )

    -- the others have no code
    opens_quiet : y.code ≡ [] → (a : List ℕ) (t1 u : State) → perform f lane n x.code t ≡ goes_with flat_end t1 → Keeps first (length c.scope.variables) below t t1 →
        evaluates (flat_of_context c V) x.value t1 ≡ goes_with a u → Keeps first (length c.scope.variables) below t u → (p : Progress (List (List ℕ))) →
        Opens (Keeps first (length c.scope.variables) (next_of x.fresh) u) (Later c V first D (next_of x.fresh) u) p (perform f lane n y.code u) (evaluate_all (flat_of_context c V) y.values) →
        Opens (Keeps first (length c.scope.variables) below t) (Later c V first D below t) (giving (λ r. a ∷ r) p) (perform f lane n (x.code ++ y.code) t) (evaluate_all (flat_of_context c V) (x.value ∷ y.values))
    opens_quiet quiet a t1 u code keep is keep_u p opens =
        by_part p (subst (λ l. Opens (Keeps first (length c.scope.variables) (next_of x.fresh) u) (Later c V first D (next_of x.fresh) u) p (perform f lane n l u) (evaluate_all (flat_of_context c V) y.values)) quiet opens)
      where
        whole : perform f lane n (x.code ++ y.code) t ≡ goes_with flat_end t1
        whole = ap (λ l. perform f lane n (x.code ++ l) t) quiet ∙ (ap (λ l. perform f lane n l t) (append-nil x.code) ∙ code)

        by_part : (p : Progress (List (List ℕ))) → Opens (Keeps first (length c.scope.variables) (next_of x.fresh) u) (Later c V first D (next_of x.fresh) u) p (goes_with flat_end u) (evaluate_all (flat_of_context c V) y.values) →
            Opens (Keeps first (length c.scope.variables) below t) (Later c V first D below t) (giving (λ r. a ∷ r) p) (perform f lane n (x.code ++ y.code) t) (evaluate_all (flat_of_context c V) (x.value ∷ y.values))
        by_part (goes_with as_rest s2) (t2, e2, m2, (u2, is2, later2)) = (
          t1,
          whole,
          keep,
          (
            u2,
            ap (λ p. first_then p (evaluate_all (flat_of_context c V) y.values)) is ∙ ap (giving (λ r. a ∷ r)) (ap (evaluate_all (flat_of_context c V) y.values) (same_end u t2 e2) ∙ is2),
            (later2.0, keeps_trans first (length c.scope.variables) below (next_of x.fresh) t u u2 low keep_u later2.1),
          ),
        )
        by_part (ends_at run) (inl e) = absurd (no_end u run e)
        by_part (ends_at run) (inr (t2, e2, m2, is2)) =
            inr (t1, whole, keep, ap (λ p. first_then p (evaluate_all (flat_of_context c V) y.values)) is ∙ ap (giving (λ r. a ∷ r)) (ap (evaluate_all (flat_of_context c V) y.values) (same_end u t2 e2) ∙ is2))

    -- after the first operand, which stays or not
    stayed_first : (p : Progress (List ℕ)) → Runs (Stays c V first D below (next_of x.fresh) t (evaluates (flat_of_context c V) x.value)) p (perform f lane n x.code t) →
        ((s1 t1 : State) → Related c V first D s1 t1 →
        Opens (Keeps first (length c.scope.variables) (next_of x.fresh) t1) (Later c V first D (next_of x.fresh) t1) (rest s1) (perform f lane n y.code t1) (evaluate_all (flat_of_context c V) y.values)) →
        Opens (Keeps first (length c.scope.variables) below t) (Later c V first D below t) (first_then p rest) (perform f lane n (x.code ++ y.code) t) (evaluate_all (flat_of_context c V) (x.value ∷ y.values))
    stayed_first (goes_with a s1) (t1, code, stay) next = opens_stayed a t1 code stay.0.1 stay.1 (rest s1) (next s1 t1 stay.0.0)
    stayed_first (ends_at run) code next = inl (perform_ends f lane n x.code y.code t run code)

    quiet_first : y.code ≡ [] → (p : Progress (List ℕ)) → Opens (Keeps first (length c.scope.variables) below t) (Later c V first D below t) p (perform f lane n x.code t) (evaluates (flat_of_context c V) x.value) →
        ((s1 t1 : State) → Related c V first D s1 t1 →
        Opens (Keeps first (length c.scope.variables) (next_of x.fresh) t1) (Later c V first D (next_of x.fresh) t1) (rest s1) (perform f lane n y.code t1) (evaluate_all (flat_of_context c V) y.values)) →
        Opens (Keeps first (length c.scope.variables) below t) (Later c V first D below t) (first_then p rest) (perform f lane n (x.code ++ y.code) t) (evaluate_all (flat_of_context c V) (x.value ∷ y.values))
    quiet_first quiet (goes_with a s1) (t1, code, m, (u, is, later)) next = opens_quiet quiet a t1 u code m is later.1 (rest s1) (next s1 u later.0)
    quiet_first quiet (ends_at run) (inl code) next = inl (perform_ends f lane n x.code y.code t run code)
    quiet_first quiet (ends_at run) (inr (t1, code, m, is)) next =
        inr (t1, ap (λ l. perform f lane n (x.code ++ l) t) quiet ∙ (ap (λ l. perform f lane n l t) (append-nil x.code) ∙ code), m, ap (λ p. first_then p (evaluate_all (flat_of_context c V) y.values)) is)

  pub all_open : (D : ℕ → Type 0) (em : Expr → Emitter) (es : List Expr) → Every (λ e. Emits D e (em e)) es → Every (HasValue c) es → (fresh : Fresh) →
      HasRoom fresh (emit_all false (map em es) fresh).fresh → (s t : State) → Related c V first D s t →
      Opens (Keeps first (length c.scope.variables) (next_of fresh) t) (Later c V first D (next_of fresh) t) (evaluate_all c es s) (perform f lane n (emit_all false (map em es) fresh).code t)
      (evaluate_all (flat_of_context c V) (emit_all false (map em es) fresh).values)
  all_open D em [] emits value fresh room s t r =
      (t, refl, keeps_refl first (length c.scope.variables) (next_of fresh) t, (t, refl, (r, keeps_refl first (length c.scope.variables) (next_of fresh) t)))
  all_open D em (e ∷ es) emits value fresh room s t r =
      by_calls (any_call (map em es)) refl room (λ fresh' room' s1 t1 r1. all_open D em es emits.1 value.1 fresh' room' s1 t1 r1)
    where
      by_calls : (b : Bool) → any_call (map em es) ≡ b → HasRoom fresh (from_one_on b ((em e).emit fresh) (map em es)).fresh →
          ((fresh' : Fresh) → HasRoom fresh' (emit_all false (map em es) fresh').fresh → (s1 t1 : State) → Related c V first D s1 t1 →
          Opens (Keeps first (length c.scope.variables) (next_of fresh') t1) (Later c V first D (next_of fresh') t1) (evaluate_all c es s1) (perform f lane n (emit_all false (map em es) fresh').code t1)
          (evaluate_all (flat_of_context c V) (emit_all false (map em es) fresh').values)) →
          Opens (Keeps first (length c.scope.variables) (next_of fresh) t) (Later c V first D (next_of fresh) t) (evaluate_all c (e ∷ es) s) (perform f lane n (from_one_on b ((em e).emit fresh) (map em es)).code t)
          (evaluate_all (flat_of_context c V) (from_one_on b ((em e).emit fresh) (map em es)).values)
      by_calls true calls room next =
          let x : Valued = settled true ((em e).emit fresh) in
          let y : Values = emit_all false (map em es) x.fresh in
          let grown : IsFront x.fresh.variables y.fresh.variables = all_grow D em es emits.1 false x.fresh in
          let low : next_of fresh ≤ next_of x.fresh =
          front_length fresh.variables x.fresh.variables (front_trans fresh.variables ((em e).emit fresh).fresh.variables x.fresh.variables (emits.0.grows fresh) (settled_grows true ((em e).emit fresh))) in
          stayed_first D x y (next_of fresh) room.0 low t (evaluate_all c es) (evaluates c e s)
          (settling D e (em e) emits.0 value.0 fresh (room.0, front_trans x.fresh.variables y.fresh.variables V grown room.1) s t r)
          (next x.fresh (omega (arith, room.0, low), room.1))
      by_calls false calls room next =
          let x : Valued = (em e).emit fresh in
          let y : Values = emit_all false (map em es) x.fresh in
          let grown : IsFront x.fresh.variables y.fresh.variables = all_grow D em es emits.1 false x.fresh in
          let low : next_of fresh ≤ next_of x.fresh = front_length fresh.variables x.fresh.variables (emits.0.grows fresh) in
          quiet_first D x y (next_of fresh) room.0 low t (evaluate_all c es) (all_quiet D em es emits.1 calls x.fresh) (evaluates c e s)
          (emits.0.opens fresh (room.0, front_trans x.fresh.variables y.fresh.variables V grown room.1) s t r)
          (next x.fresh (omega (arith, room.0, low), room.1))
