-- A form acts alike in a program and in one without calls, on the same words of its operands.
use Rattle.std.proofs.Common.{◌≡◌, refl, sym, subst, ℕ, Bool, false, List, [], ◌∷◌, map, Option, None, Some, Result, Ok, Err}
use Rattle.std.specs.Prelude.{if◌then◌else◌, slice_index, take}
use Rattle.std.proofs.lemmas.Bool.{true≢false}
use Rattle.lane_core.specs.declared.event.AtomicKind.{AtomicKind}
use Rattle.lane_core.specs.declared.event.LaneFault.{LaneFault}
use Rattle.lane_core.specs.declared.event.WaveKind.{WaveKind}
use Rattle.hl_meaning.specs.declared.ty.Kind.{Kind}
use Rattle.hl_meaning.specs.Types.{Ty}
use Rattle.hl_meaning.specs.Trees.{Expr, Form, Location, MaybeLocation, Target, atomic_form, binary_form, build_form, bytes_target, call_form, choose_form, convert_form, intrinsic_form, literal_form, method_form, no_expr, no_location, pick_form, place_target, place_type, read_form, some_expr, some_location, type_of, unary_form, write_form}
use Rattle.hl_meaning.specs.Programs.{Variable}
use Rattle.lane_core.specs.Words.{wrapped}
use Rattle.hl_source.specs.Operations.{binary_words, component_kind, converted}
use Rattle.hl_source.specs.State.{Context, State, gives, goes_with}
use Rattle.lane_core.specs.Replies.{reply_words}
use Rattle.hl_source.specs.Offsets.{picked_words}
use Rattle.hl_source.specs.Intrinsics.{Work, barrier, from_all, from_one, from_three, from_two, of_lane, own_form, wave, wave_alone, wave_at, wave_four, wave_words, work_of, worked}
use Rattle.hl_source.specs.Expressions.{acts, assigned, assigns, atomic_original, read_if, write_if}
use Rattle.typed_laws.proofs.OperandExpressions.{operand_exprs}
use Rattle.hl_inline.specs.Operands.{filled, filled_place, filled_place_if, filled_target, first_expr}
use Rattle.typed_laws.proofs.OperandValues.{is_call_form}
use Rattle.hl_inline.proofs.Relation.{Alike, Stands, alike_after, alike_each, alike_goes, flat_of_context}
use Rattle.hl_inline.proofs.Reading.{Acting, Follow, IsChangedPlace, PlaceIn, acting_follows, alike_asks, alike_asks_word, alike_atomic_place, alike_faults, alike_load_four, alike_read_place, alike_store_four, alike_then, alike_write_place}
use Rattle.hl_inline.proofs.FilledLemmas.{place_type_filled}

abbrev pub TargetIn : Context → (D : ℕ → Type 0) → Target → Type 0
TargetIn c D (place_target place) = PlaceIn c D place
TargetIn c D (bytes_target resource address) = Unit {0}

abbrev pub ChangedIn : Context → (D : ℕ → Type 0) → MaybeLocation → Type 0
ChangedIn c D no_location = Unit {0}
ChangedIn c D (some_location place) = PlaceIn c D place × IsChangedPlace place

-- the places of a form itself have types, and their variables are among D
abbrev pub FormIn : Context → (D : ℕ → Type 0) → Form → Type 0
FormIn c D (read_form place) = PlaceIn c D place
FormIn c D (write_form to op common value old) = PlaceIn c D to × IsChangedPlace to
FormIn c D (atomic_form target kind compare value original) = TargetIn c D target × ChangedIn c D original
FormIn c D _ = Unit {0}

-- the expressions have the types of the operands
abbrev pub SameTypes : List Expr → List Expr → Type 0
SameTypes es operands = map type_of es ≡ map type_of operands

first_type : (es : List Expr) (value : Expr) (rest : List Expr) → SameTypes es (value ∷ rest) → type_of (first_expr es) ≡ type_of value
first_type [] value rest e = absurd (nothing_is e)
  where
    nothing_is : [] ≡ type_of value ∷ map type_of rest → ⊥
    nothing_is e = cc
first_type (x ∷ es) value rest e = head_is e
  where
    head_is : type_of x ∷ map type_of es ≡ type_of value ∷ map type_of rest → type_of x ≡ type_of value
    head_is e = cc

module _ (R : State → State → Type 0) (follow : Follow R) where
  alike_gives : {A : Type 0} (r : Result A LaneFault) (s t : State) → R s t → Alike R (gives r s) (gives r t)
  alike_gives (Ok a) s t r = alike_goes R a s t r
  alike_gives (Err fault) s t r = alike_faults R follow fault s t r

  alike_wave_words : (kind : WaveKind) (lane : ℕ) (result : Kind) (ws : List ℕ) (s t : State) → R s t → Alike R (wave_words kind lane result ws s) (wave_words kind lane result ws t)
  alike_wave_words kind lane result ws s t r =
      alike_each R _ _ (λ w s1 t1 r1. alike_then R follow _ _ _ (alike_asks_word R follow _ s1 t1 r1)) ws s t r

  alike_worked : (c d : Context) → c.lane ≡ d.lane → (work : Work) (ty : Ty) (ws : List (List ℕ)) (s t : State) → R s t → Alike R (worked c work ty ws s) (worked d work ty ws t)
  alike_worked c d e (from_one f) ty [] s t r = alike_goes R _ s t r
  alike_worked c d e (from_one f) ty (xs ∷ []) s t r = alike_goes R _ s t r
  alike_worked c d e (from_one f) ty (xs ∷ ys ∷ ws) s t r = alike_goes R _ s t r
  alike_worked c d e (from_two f) ty [] s t r = alike_goes R _ s t r
  alike_worked c d e (from_two f) ty (xs ∷ []) s t r = alike_goes R _ s t r
  alike_worked c d e (from_two f) ty (xs ∷ ys ∷ []) s t r = alike_goes R _ s t r
  alike_worked c d e (from_two f) ty (xs ∷ ys ∷ zs ∷ ws) s t r = alike_goes R _ s t r
  alike_worked c d e (from_three f) ty [] s t r = alike_goes R _ s t r
  alike_worked c d e (from_three f) ty (xs ∷ []) s t r = alike_goes R _ s t r
  alike_worked c d e (from_three f) ty (xs ∷ ys ∷ []) s t r = alike_goes R _ s t r
  alike_worked c d e (from_three f) ty (xs ∷ ys ∷ zs ∷ []) s t r = alike_goes R _ s t r
  alike_worked c d e (from_three f) ty (xs ∷ ys ∷ zs ∷ us ∷ ws) s t r = alike_goes R _ s t r
  alike_worked c d e (from_all judge) ty [] s t r = alike_goes R _ s t r
  alike_worked c d e (from_all judge) ty (xs ∷ []) s t r = alike_goes R _ s t r
  alike_worked c d e (from_all judge) ty (xs ∷ ys ∷ ws) s t r = alike_goes R _ s t r
  alike_worked c d e (of_lane tell) ty [] s t r =
      subst (λ lane. Alike R (worked c (of_lane tell) ty [] s) (goes_with (wrapped (tell lane) ∷ []) t)) e (alike_goes R _ s t r)
  alike_worked c d e (of_lane tell) ty (xs ∷ ws) s t r = alike_goes R _ s t r
  alike_worked c d e (barrier mode) ty [] s t r = alike_then R follow _ _ (λ _. []) (alike_asks R follow _ s t r)
  alike_worked c d e (barrier mode) ty (xs ∷ ws) s t r = alike_goes R _ s t r
  alike_worked c d e (wave kind) ty [] s t r = alike_goes R _ s t r
  alike_worked c d e (wave kind) ty (xs ∷ []) s t r = alike_wave_words _ _ _ xs s t r
  alike_worked c d e (wave kind) ty (xs ∷ ys ∷ ws) s t r = alike_goes R _ s t r
  alike_worked c d e (wave_at kind) ty [] s t r = alike_goes R _ s t r
  alike_worked c d e (wave_at kind) ty (xs ∷ []) s t r = alike_goes R _ s t r
  alike_worked c d e (wave_at kind) ty (xs ∷ ys ∷ []) s t r = alike_wave_words _ _ _ xs s t r
  alike_worked c d e (wave_at kind) ty (xs ∷ ys ∷ zs ∷ ws) s t r = alike_goes R _ s t r
  alike_worked c d e (wave_alone kind) ty [] s t r = alike_wave_words _ _ _ (0 ∷ []) s t r
  alike_worked c d e (wave_alone kind) ty (xs ∷ ws) s t r = alike_goes R _ s t r
  alike_worked c d e (wave_four kind) ty [] s t r = alike_goes R _ s t r
  alike_worked c d e (wave_four kind) ty (xs ∷ []) s t r = alike_then R follow _ _ (reply_words 4) (alike_asks R follow _ s t r)
  alike_worked c d e (wave_four kind) ty (xs ∷ ys ∷ ws) s t r = alike_goes R _ s t r
  alike_worked c d e own_form ty ws s t r = alike_goes R _ s t r

module _ (c : Context) (V : List Variable) (first : ℕ) (D : ℕ → Type 0) (u : State) (stands : Stands c V first) where
  alike_read_if : (op : Option ℕ) (to : Location) (es : List Expr) (ixs : List ℕ) → PlaceIn c D to → (s t : State) → Acting c V first D u s t →
      Alike (Acting c V first D u) (read_if c op to ixs s) (read_if (flat_of_context c V) op (filled_place first to es) ixs t)
  alike_read_if None to es ixs there s t r = alike_goes (Acting c V first D u) [] s t r
  alike_read_if (Some op) to es ixs there s t r = alike_read_place c V first D u stands to es ixs there s t r

  alike_assigned : (op : Option ℕ) (common to : Ty) (before ws : List ℕ) (s t : State) → Acting c V first D u s t →
      Alike (Acting c V first D u) (assigned op common to before ws s) (assigned op common to before ws t)
  alike_assigned None common to before ws s t r = alike_goes (Acting c V first D u) ws s t r
  alike_assigned (Some op) common to before ws s t r =
      alike_then (Acting c V first D u) (acting_follows c V first D u) _ _ (converted common to) (alike_gives (Acting c V first D u) (acting_follows c V first D u) _ s t r)

  alike_assigns : (to : Location) (es : List Expr) (op : Option ℕ) (common : Ty) (old : Bool) (ixs ws : List ℕ) → PlaceIn c D to → IsChangedPlace to → (s t : State) → Acting c V first D u s t →
      Alike (Acting c V first D u) (assigns c to op common old ixs ws s) (assigns (flat_of_context c V) (filled_place first to es) op common old ixs ws t)
  alike_assigns to es op common old ixs ws there changed s t r =
      alike_after (Acting c V first D u) (Acting c V first D u) _ _ _ _ (alike_read_if op to es ixs there s t r) (λ before s1 t1 r1.
      alike_after (Acting c V first D u) (Acting c V first D u) _ _ _ _
      (subst (λ ty. Alike (Acting c V first D u) (assigned op common (place_type to) before ws s1) (assigned op common ty before ws t1)) (sym (place_type_filled first to es)) (alike_assigned op common (place_type to) before ws s1 t1 r1))
      (λ written s2 t2 r2.
      alike_then (Acting c V first D u) (acting_follows c V first D u) _ _ (λ _. if old then before else written) (alike_write_place c V first D u stands to es ixs written there changed s2 t2 r2)))

  alike_original : (target : Target) (es : List Expr) (kind : Option AtomicKind) (ixs : List ℕ) (compare word : ℕ) → TargetIn c D target → (s t : State) → Acting c V first D u s t →
      Alike (Acting c V first D u) (atomic_original c target kind ixs compare word s) (atomic_original (flat_of_context c V) (filled_target first target es) kind ixs compare word t)
  alike_original (place_target place) es kind ixs compare word there s t r = alike_atomic_place c V first D u stands place es ixs kind compare word there s t r
  alike_original (bytes_target resource address) es kind ixs compare word there s t r =
      alike_asks_word (Acting c V first D u) (acting_follows c V first D u) _ s t r

  alike_write_if : (place : MaybeLocation) (es : List Expr) (ixs ws : List ℕ) → ChangedIn c D place → (s t : State) → Acting c V first D u s t →
      Alike (Acting c V first D u) (write_if c place ixs ws s) (write_if (flat_of_context c V) (filled_place_if first place es) ixs ws t)
  alike_write_if no_location es ixs ws there s t r = alike_goes (Acting c V first D u) [] s t r
  alike_write_if (some_location place) es ixs ws there s t r = alike_write_place c V first D u stands place es ixs ws there.0 there.1 s t r

  -- a form acts alike over expressions of the same types
  pub alike_acts : (ty : Ty) (form : Form) (es : List Expr) → is_call_form form ≡ false → FormIn c D form → SameTypes es (operand_exprs form) →
      (ws : List (List ℕ)) (s t : State) → Acting c V first D u s t →
      Alike (Acting c V first D u) (acts c ty form ws s) (acts (flat_of_context c V) ty (filled first form es) ws t)
  alike_acts ty (literal_form word) es _ there types [] s t r = alike_goes (Acting c V first D u) _ s t r
  alike_acts ty (literal_form word) es _ there types (x ∷ ws) s t r = alike_goes (Acting c V first D u) _ s t r
  alike_acts ty (read_form place) es _ there types [] s t r = alike_goes (Acting c V first D u) _ s t r
  alike_acts ty (read_form place) es _ there types (x ∷ []) s t r = alike_read_place c V first D u stands place es x there s t r
  alike_acts ty (read_form place) es _ there types (x ∷ y ∷ ws) s t r = alike_goes (Acting c V first D u) _ s t r
  alike_acts ty (write_form to op common value old) es _ there types [] s t r = alike_goes (Acting c V first D u) _ s t r
  alike_acts ty (write_form to op common value old) es _ there types (x ∷ []) s t r = alike_goes (Acting c V first D u) _ s t r
  alike_acts ty (write_form to op common value old) es _ there types (x ∷ y ∷ []) s t r = alike_assigns to es op common old x y there.0 there.1 s t r
  alike_acts ty (write_form to op common value old) es _ there types (x ∷ y ∷ z ∷ ws) s t r = alike_goes (Acting c V first D u) _ s t r
  alike_acts ty (convert_form value) es _ there types [] s t r = alike_goes (Acting c V first D u) _ s t r
  alike_acts ty (convert_form value) es _ there types (x ∷ []) s t r =
      subst (λ from. Alike (Acting c V first D u) (acts c ty (convert_form value) (x ∷ []) s) (goes_with (converted from ty x) t)) (sym (first_type es value [] types)) (alike_goes (Acting c V first D u) _ s t r)
  alike_acts ty (convert_form value) es _ there types (x ∷ y ∷ ws) s t r = alike_goes (Acting c V first D u) _ s t r
  alike_acts ty (unary_form op value) es _ there types [] s t r = alike_goes (Acting c V first D u) _ s t r
  alike_acts ty (unary_form op value) es _ there types (x ∷ []) s t r = alike_goes (Acting c V first D u) _ s t r
  alike_acts ty (unary_form op value) es _ there types (x ∷ y ∷ ws) s t r = alike_goes (Acting c V first D u) _ s t r
  alike_acts ty (binary_form op left right) es _ there types [] s t r = alike_goes (Acting c V first D u) _ s t r
  alike_acts ty (binary_form op left right) es _ there types (x ∷ []) s t r = alike_goes (Acting c V first D u) _ s t r
  alike_acts ty (binary_form op left right) es _ there types (x ∷ y ∷ []) s t r =
      subst (λ from. Alike (Acting c V first D u) (acts c ty (binary_form op left right) (x ∷ y ∷ []) s) (gives (binary_words op (component_kind from) x y) t)) (sym (first_type es left (right ∷ []) types)) (alike_gives (Acting c V first D u) (acting_follows c V first D u) _ s t r)
  alike_acts ty (binary_form op left right) es _ there types (x ∷ y ∷ z ∷ ws) s t r = alike_goes (Acting c V first D u) _ s t r
  alike_acts ty (choose_form cond consequent alternative) es _ there types [] s t r = alike_goes (Acting c V first D u) _ s t r
  alike_acts ty (choose_form cond consequent alternative) es _ there types (x ∷ []) s t r = alike_goes (Acting c V first D u) _ s t r
  alike_acts ty (choose_form cond consequent alternative) es _ there types (x ∷ y ∷ []) s t r = alike_goes (Acting c V first D u) _ s t r
  alike_acts ty (choose_form cond consequent alternative) es _ there types (x ∷ y ∷ z ∷ []) s t r = alike_goes (Acting c V first D u) _ s t r
  alike_acts ty (choose_form cond consequent alternative) es _ there types (x ∷ y ∷ z ∷ q ∷ ws) s t r = alike_goes (Acting c V first D u) _ s t r
  alike_acts ty (build_form parts) es _ there types ws s t r = alike_goes (Acting c V first D u) _ s t r
  alike_acts ty (pick_form value parts) es _ there types [] s t r = alike_goes (Acting c V first D u) _ s t r
  alike_acts ty (pick_form value parts) es _ there types (x ∷ []) s t r =
      subst (λ from. Alike (Acting c V first D u) (acts c ty (pick_form value parts) (x ∷ []) s) (goes_with (picked_words c.scope.structs from parts x) t)) (sym (first_type es value [] types)) (alike_goes (Acting c V first D u) _ s t r)
  alike_acts ty (pick_form value parts) es _ there types (x ∷ y ∷ ws) s t r = alike_goes (Acting c V first D u) _ s t r
  alike_acts ty (call_form function args) es e there types ws s t r = absurd (true≢false e)
  alike_acts ty (intrinsic_form number args) es _ there types ws s t r =
      alike_worked (Acting c V first D u) (acting_follows c V first D u) c (flat_of_context c V) refl (work_of number) ty ws s t r
  alike_acts ty (method_form resource count address no_expr) es _ there types [] s t r = alike_goes (Acting c V first D u) _ s t r
  alike_acts ty (method_form resource count address no_expr) es _ there types (x ∷ []) s t r =
      alike_then (Acting c V first D u) (acting_follows c V first D u) _ _ (take count) (alike_load_four (Acting c V first D u) (acting_follows c V first D u) _ _ 0 s t r)
  alike_acts ty (method_form resource count address no_expr) es _ there types (x ∷ y ∷ ws) s t r = alike_goes (Acting c V first D u) _ s t r
  alike_acts ty (method_form resource count address (some_expr value)) es _ there types [] s t r = alike_goes (Acting c V first D u) _ s t r
  alike_acts ty (method_form resource count address (some_expr value)) es _ there types (x ∷ []) s t r = alike_goes (Acting c V first D u) _ s t r
  alike_acts ty (method_form resource count address (some_expr value)) es _ there types (x ∷ y ∷ []) s t r =
      alike_store_four (Acting c V first D u) (acting_follows c V first D u) _ _ 0 y s t r
  alike_acts ty (method_form resource count address (some_expr value)) es _ there types (x ∷ y ∷ z ∷ ws) s t r = alike_goes (Acting c V first D u) _ s t r
  alike_acts ty (atomic_form target kind compare value original) es _ there types [] s t r = alike_goes (Acting c V first D u) _ s t r
  alike_acts ty (atomic_form target kind compare value original) es _ there types (x ∷ []) s t r = alike_goes (Acting c V first D u) _ s t r
  alike_acts ty (atomic_form target kind compare value original) es _ there types (x ∷ y ∷ []) s t r = alike_goes (Acting c V first D u) _ s t r
  alike_acts ty (atomic_form target kind compare value original) es _ there types (x ∷ y ∷ z ∷ []) s t r = alike_goes (Acting c V first D u) _ s t r
  alike_acts ty (atomic_form target kind compare value original) es _ there types (x ∷ y ∷ z ∷ q ∷ []) s t r =
      alike_after (Acting c V first D u) (Acting c V first D u) _ _ _ _ (alike_original target es kind x (slice_index y 0) (slice_index z 0) there.0 s t r) (λ before s1 t1 r1.
      alike_then (Acting c V first D u) (acting_follows c V first D u) _ _ (λ _. []) (alike_write_if original _ q (before ∷ []) there.1 s1 t1 r1))
  alike_acts ty (atomic_form target kind compare value original) es _ there types (x ∷ y ∷ z ∷ q ∷ more ∷ ws) s t r = alike_goes (Acting c V first D u) _ s t r
