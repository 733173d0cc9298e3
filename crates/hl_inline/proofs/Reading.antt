-- Places are read and written alike in a program and in one without calls.
use Rattle.std.proofs.Common.{◌≡◌, ◌∙◌, refl, sym, ap, subst, ℕ, ◌+◌, ◌<◌, inl, Bool, true, false, List, [], ◌∷◌, length, drop, Option, None, Some, slice_get, unwrap_or}
use Rattle.std.specs.Option.{ok_or}
use Rattle.std.specs.Prelude.{if◌then◌else◌, nat_lt, zip, take, slice_index, slice_set, option_map}
use Rattle.std.proofs.lemmas.List.{length-set}
use Rattle.std.proofs.lemmas.Option.{none-some, slice_get_within}
use Rattle.lane_core.specs.declared.event.Event.{Event}
use Rattle.lane_core.specs.declared.event.LaneFault.{LaneFault}
use Rattle.lane_core.specs.declared.event.Reply.{Reply}
use Rattle.lane_core.specs.declared.event.LaneFault.TheVariants.{OutOfBounds}
use Rattle.lane_core.specs.declared.event.Asked.TheVariants.{Fault}
use Rattle.lane_core.specs.declared.event.AtomicKind.{AtomicKind}
use Rattle.lane_core.specs.declared.event.Slot.{Slot}
use Rattle.lane_core.specs.Lane.{Exchange, standing}
use Rattle.hl_meaning.specs.Types.{Ty, void_type}
use Rattle.hl_meaning.specs.Trees.{Expr, Location, PathParts, Root, a_location, constant_root, element_root, index_part, member_part, more_parts, no_parts, shared_root, swizzle_part, variable_root}
use Rattle.hl_meaning.specs.Places.{root_type}
use Rattle.hl_meaning.specs.Programs.{StructDef, Variable}
use Rattle.hl_meaning.specs.Layout.{words_of}
use Rattle.lane_core.specs.Words.{wrapping_add}
use Rattle.hl_source.specs.State.{Context, Progress, State, after, asks, asks_word, each, ends_at, faults, gives, goes_with, variable_words, with_variable}
use Rattle.lane_core.specs.Replies.{reply_word, reply_words}
use Rattle.hl_source.specs.Offsets.{Holder, Place, Reached, step_to_element, step_to_member, step_to_letters, holder_of, in_constant, in_element, in_shared, in_variable, member_of, place_of, reached, start_of, indexes_of_steps, type_of_root}
use Rattle.hl_source.specs.Memory.{atomic_word, byte_offset, constant_words, load_four, load_words, pieces, read_place, read_reached, read_words, shared_size, store_four, store_words, within, word_of, word_offsets, write_letters, write_place, write_variable_word, write_words}
use Rattle.hl_inline.specs.Operands.{filled_parts, filled_place, filled_root, behind_root}
use Rattle.hl_inline.proofs.Relation.{Alike, KeepsAll, Related, Stands, alike_after, alike_each, alike_goes, flat_of_context, keeps_all_trans, outside_set, related_set}

-- states that have had the same exchange, and still have it after any other exchange
pub record Follow (R : State → State → Type 0) : Type 0 where
  pub same : (s t : State) → R s t → s.exchange ≡ t.exchange
  pub on : (s t : State) → R s t → (x : Exchange) → R (record s { exchange = x }) (record t { exchange = x })

module _ (R : State → State → Type 0) (follow : Follow R) where
  pub alike_faults : {A : Type 0} (fault : LaneFault) (s t : State) → R s t → Alike {A = A} R (faults fault s) (faults fault t)
  alike_faults fault s t r = ap (λ x. ends_at (standing x (Fault fault))) (sym (follow.same s t r))

  asks_at : (event : Event) (vs us : List (List ℕ)) (asked : List Event) (replies : List Reply) →
      ((x : Exchange) → R (record { variables = vs; exchange = x }) (record { variables = us; exchange = x })) →
      Alike R (asks event (record { variables = vs; exchange = record { asked = asked; replies = replies } })) (asks event (record { variables = us; exchange = record { asked = asked; replies = replies } }))
  asks_at event vs us asked [] h = refl
  asks_at event vs us asked (reply ∷ replies) h = (_, refl, h _)

  pub alike_asks : (event : Event) (s t : State) → R s t → Alike R (asks event s) (asks event t)
  alike_asks event s t r =
      subst (λ y. Alike R (asks event s) (asks event (record t { exchange = y }))) (follow.same s t r)
      (asks_at event s.variables t.variables s.exchange.asked s.exchange.replies (λ x. follow.on s t r x))

  -- what is given is alike
  pub alike_then : {A B : Type 0} (p q : Progress A) (f : A → B) → Alike R p q → Alike R (after p (λ a s. goes_with (f a) s)) (after q (λ a s. goes_with (f a) s))
  alike_then p q f h = alike_after R R p q _ _ h (λ a s t r. alike_goes R (f a) s t r)

  pub alike_asks_word : (event : Event) (s t : State) → R s t → Alike R (asks_word event s) (asks_word event t)
  alike_asks_word event s t r = alike_then (asks event s) (asks event t) (λ reply. reply_word reply 0) (alike_asks event s t r)

  pub alike_within : {A : Type 0} (offset words : ℕ) (go other : State → Progress A) → ((s t : State) → R s t → Alike R (go s) (other t)) → (s t : State) → R s t →
      Alike R (within offset words go s) (within offset words other t)
  alike_within offset words go other h s t r = by_test (nat_lt offset words)
    where
      by_test : (b : Bool) → Alike R ((if b then go else faults OutOfBounds) s) ((if b then other else faults OutOfBounds) t)
      by_test true = h s t r
      by_test false = alike_faults OutOfBounds s t r

  pub alike_word_of : (ws : List ℕ) (offset : ℕ) (s t : State) → R s t → Alike R (word_of ws offset s) (word_of ws offset t)
  alike_word_of ws offset s t r = by_word (slice_get ws offset)
    where
      by_word : (w : Option ℕ) → Alike R (gives (ok_or w OutOfBounds) s) (gives (ok_or w OutOfBounds) t)
      by_word None = alike_faults OutOfBounds s t r
      by_word (Some word) = alike_goes R word s t r

  pub alike_words_of : (ws : List ℕ) (offsets : List ℕ) (s t : State) → R s t → Alike R (each (word_of ws) offsets s) (each (word_of ws) offsets t)
  alike_words_of ws offsets s t r = alike_each R (word_of ws) (word_of ws) (λ offset s1 t1 r1. alike_word_of ws offset s1 t1 r1) offsets s t r

  -- buffers

  pub alike_load_four : (slot : Slot) (index at : ℕ) (s t : State) → R s t → Alike R (load_four slot index at s) (load_four slot index at t)
  alike_load_four slot index at s t r = alike_then (asks _ s) (asks _ t) (reply_words 4) (alike_asks _ s t r)

  pub alike_store_four : (slot : Slot) (index at : ℕ) (ws : List ℕ) (s t : State) → R s t → Alike R (store_four slot index at ws s) (store_four slot index at ws t)
  alike_store_four slot index at ws s t r = alike_then (asks _ s) (asks _ t) (λ _. []) (alike_asks _ s t r)

  alike_load_words : (slot : Slot) (index offset count : ℕ) (s t : State) → R s t → Alike R (load_words slot index offset count s) (load_words slot index offset count t)
  alike_load_words slot index offset count s t r =
      alike_then (each _ (pieces count) s) (each _ (pieces count) t) _ (alike_each R _ _ (λ piece s1 t1 r1. alike_load_four slot index (byte_offset offset piece) s1 t1 r1) (pieces count) s t r)

  alike_store_words : (slot : Slot) (index offset : ℕ) (ws : List ℕ) (s t : State) → R s t → Alike R (store_words slot index offset ws s) (store_words slot index offset ws t)
  alike_store_words slot index offset ws s t r =
      alike_then (each _ (pieces (length ws)) s) (each _ (pieces (length ws)) t) (λ _. [])
      (alike_each R _ _ (λ piece s1 t1 r1. alike_store_four slot index (byte_offset offset piece) (take 4 (drop piece ws)) s1 t1 r1) (pieces (length ws)) s t r)

-- what a place stands in, in a program without calls
abbrev pub moved : (first : ℕ) → Holder → Holder
moved first (in_variable number) = in_variable (first + number)
moved first (in_constant number) = in_variable number
moved first (in_shared number) = in_shared number
moved first (in_element slot index) = in_element slot index

-- the variable is there, and it is one of D; a constant is there
abbrev pub HolderIn : Context → (D : ℕ → Type 0) → Holder → Type 0
HolderIn c D (in_variable number) = D number × (number < length c.scope.variables)
HolderIn c D (in_constant number) = number < length c.scope.constants
HolderIn c D (in_shared number) = Unit {0}
HolderIn c D (in_element slot index) = Unit {0}

-- no constant is written
abbrev pub IsChanged : Holder → Type 0
IsChanged (in_constant number) = ⊥
IsChanged _ = Unit {0}

-- what is kept while a part of an expression acts: the relation, and the variables of other functions as they were in a
-- state
abbrev pub Acting : Context → List Variable → (first : ℕ) → (D : ℕ → Type 0) → State → State → State → Type 0
Acting c V first D u s t = Related c V first D s t × KeepsAll first (length c.scope.variables) u t

related_on : (c : Context) (V : List Variable) (first : ℕ) (D : ℕ → Type 0) (s t : State) → Related c V first D s t → (x : Exchange) →
    Related c V first D (record s { exchange = x }) (record t { exchange = x })
related_on c V first D s t r x = record { exchange = refl; sizes = r.sizes; flat_sizes = r.flat_sizes; same = r.same; constants = r.constants }

pub acting_follows : (c : Context) (V : List Variable) (first : ℕ) (D : ℕ → Type 0) (u : State) → Follow (Acting c V first D u)
acting_follows c V first D u = record { same = λ s t r. r.0.exchange; on = λ s t r x. (related_on c V first D s t r.0 x, r.1) }

module _ (c : Context) (V : List Variable) (first : ℕ) (D : ℕ → Type 0) (u : State) (stands : Stands c V first) where
  follows : Follow (Acting c V first D u)
  follows = acting_follows c V first D u

  pub alike_read_words : (holder : Holder) → HolderIn c D holder → (offset count : ℕ) (s t : State) → Acting c V first D u s t →
      Alike (Acting c V first D u) (read_words c holder offset count s) (read_words (flat_of_context c V) (moved first holder) offset count t)
  alike_read_words (in_variable number) there offset count s t r =
      subst (λ ws. Alike (Acting c V first D u) (each (word_of (variable_words s number)) (word_offsets offset count) s) (each (word_of ws) (word_offsets offset count) t)) (sym (r.0.same number there.1 there.0))
      (alike_words_of (Acting c V first D u) follows (variable_words s number) (word_offsets offset count) s t r)
  alike_read_words (in_constant number) there offset count s t r =
      subst (λ ws. Alike (Acting c V first D u) (each (word_of (constant_words c number)) (word_offsets offset count) s) (each (word_of ws) (word_offsets offset count) t)) (sym (r.0.constants number there))
      (alike_words_of (Acting c V first D u) follows (constant_words c number) (word_offsets offset count) s t r)
  alike_read_words (in_shared number) there offset count s t r =
      alike_each (Acting c V first D u) _ _ (λ at s1 t1 r1. alike_within (Acting c V first D u) follows at (shared_size c number) _ _ (λ s2 t2 r2. alike_asks_word (Acting c V first D u) follows _ s2 t2 r2) s1 t1 r1) (word_offsets offset count) s t r
  alike_read_words (in_element slot index) there offset count s t r = alike_load_words (Acting c V first D u) follows slot index offset count s t r

  alike_write_word : (v : ℕ) → D v → v < length c.scope.variables → (offset word : ℕ) (s t : State) → Acting c V first D u s t →
      Alike (Acting c V first D u) (write_variable_word v offset word s) (write_variable_word (first + v) offset word t)
  alike_write_word v d low offset word s t r =
      subst (λ n. Alike (Acting c V first D u) (write_variable_word v offset word s) ((if nat_lt offset n then go_flat else faults OutOfBounds) t)) (sym (ap length same)) (by_test (nat_lt offset (length (variable_words s v))))
    where
      same : variable_words t (first + v) ≡ variable_words s v
      same = r.0.same v low d

      go_flat : State → Progress (List ℕ)
      go_flat s' = goes_with [] (with_variable (first + v) (slice_set (variable_words s' (first + v)) offset word) s')

      after_source : State
      after_source = with_variable v (slice_set (variable_words s v) offset word) s

      related : Acting c V first D u after_source (with_variable (first + v) (slice_set (variable_words s v) offset word) t)
      related = (
        related_set c V first D D v (slice_set (variable_words s v) offset word) s t stands r.0 low (λ w d. inl d) (length-set (variable_words s v) offset word) (length-set (variable_words s v) offset word ∙ ap length (sym same)),
        keeps_all_trans first (length c.scope.variables) u t (with_variable (first + v) (slice_set (variable_words s v) offset word) t) r.1 (outside_set first (length c.scope.variables) v (slice_set (variable_words s v) offset word) t low),
      )

      by_test : (b : Bool) → Alike (Acting c V first D u) ((if b then (λ s'. goes_with [] (with_variable v (slice_set (variable_words s' v) offset word) s')) else faults OutOfBounds) s) ((if b then go_flat else faults OutOfBounds) t)
      by_test true = (
        with_variable (first + v) (slice_set (variable_words t (first + v)) offset word) t,
        refl,
        subst (λ ws. Acting c V first D u after_source (with_variable (first + v) (slice_set ws offset word) t)) (sym same) related,
      )
      by_test false = alike_faults (Acting c V first D u) follows OutOfBounds s t r

  pub alike_write_words : (holder : Holder) → HolderIn c D holder → (offset : ℕ) (ws : List ℕ) (s t : State) → IsChanged holder → Acting c V first D u s t →
      Alike (Acting c V first D u) (write_words c holder offset ws s) (write_words (flat_of_context c V) (moved first holder) offset ws t)
  alike_write_words (in_variable number) there offset ws s t _ r =
      alike_then (Acting c V first D u) follows _ _ (λ _. []) (alike_each (Acting c V first D u) _ _ (λ w s1 t1 r1. alike_write_word number there.0 there.1 w.0 w.1 s1 t1 r1) (zip (word_offsets offset (length ws)) ws) s t r)
  alike_write_words (in_constant number) there offset ws s t changed r = absurd changed
  alike_write_words (in_shared number) there offset ws s t _ r =
      alike_then (Acting c V first D u) follows _ _ (λ _. []) (alike_each (Acting c V first D u) _ _ (λ w s1 t1 r1. alike_within (Acting c V first D u) follows w.0 (shared_size c number) _ _
      (λ s2 t2 r2. alike_asks (Acting c V first D u) follows _ s2 t2 r2) s1 t1 r1) (zip (word_offsets offset (length ws)) ws) s t r)
  alike_write_words (in_element slot index) there offset ws s t _ r = alike_store_words (Acting c V first D u) follows slot index offset ws s t r

-- places

-- a variable is one of D
abbrev pub IsInD : (D : ℕ → Type 0) → Root → Type 0
IsInD D (variable_root number) = D number
IsInD D _ = Unit {0}

-- the root of a place has a type, and a variable is one of D
abbrev pub RootIn : Context → (D : ℕ → Type 0) → Root → Type 0
RootIn c D root = (t : Ty) × (root_type c.scope root ≡ Some t) × IsInD D root

abbrev pub PlaceIn : Context → (D : ℕ → Type 0) → Location → Type 0
PlaceIn c D (a_location ty root parts) = RootIn c D root

-- the root of what is written
abbrev pub IsChangedRoot : Root → Type 0
IsChangedRoot (constant_root number) = ⊥
IsChangedRoot _ = Unit {0}

abbrev pub IsChangedPlace : Location → Type 0
IsChangedPlace (a_location ty root parts) = IsChangedRoot root

pub there_by_map : {A B : Type 0} (f : A → B) (xs : List A) (k : ℕ) (b : B) → option_map f (slice_get xs k) ≡ Some b → k < length xs
there_by_map f xs k b e = by_option (slice_get xs k) refl e
  where
    by_option : (o : Option _) → slice_get xs k ≡ o → option_map f o ≡ Some b → k < length xs
    by_option None is e = absurd (none-some b e)
    by_option (Some x) is e = slice_get_within xs k x is

pub holder_in : (c : Context) (D : ℕ → Type 0) (root : Root) (ixs : List ℕ) → RootIn c D root → HolderIn c D (holder_of c root ixs)
holder_in c D (variable_root number) ixs (t, e, d) = (d, there_by_map (λ v. v.ty) c.scope.variables number t e)
holder_in c D (constant_root number) ixs (t, e, d) = there_by_map (λ k. k.variable.ty) c.scope.constants number t e
holder_in c D (shared_root number) ixs r = tt
holder_in c D (element_root resource index) ixs r = tt

changed_in : (c : Context) (root : Root) (ixs : List ℕ) → IsChangedRoot root → IsChanged (holder_of c root ixs)
changed_in c (variable_root number) ixs _ = tt
changed_in c (constant_root number) ixs h = h
changed_in c (shared_root number) ixs _ = tt
changed_in c (element_root resource index) ixs _ = tt

reached_filled : (structs : List StructDef) (from : Reached) (parts : PathParts) (es : List Expr) (ixs : List ℕ) → reached structs from (filled_parts parts es) ixs ≡ reached structs from parts ixs
reached_filled structs from no_parts es ixs = refl
reached_filled structs from (more_parts (member_part number) rest) es ixs = reached_filled structs (step_to_member from (member_of structs from.ty number)) rest es ixs
reached_filled structs from (more_parts (index_part index) rest) es ixs = reached_filled structs (step_to_element structs from (slice_index ixs 0)) rest (drop 1 es) (drop 1 ixs)
reached_filled structs from (more_parts (swizzle_part letters) rest) es ixs = reached_filled structs (step_to_letters from letters) rest es ixs

root_typed : (c : Context) (V : List Variable) (first : ℕ) → Stands c V first → (root : Root) (es : List Expr) (t : Ty) → root_type c.scope root ≡ Some t →
    root_type (flat_of_context c V).scope (filled_root first root es) ≡ Some t
root_typed c V first stands (variable_root number) es t e = stands.own number t e
root_typed c V first stands (constant_root number) es t e = stands.constant number t e
root_typed c V first stands (shared_root number) es t e = e
root_typed c V first stands (element_root resource index) es t e = e

-- where a place stands in a program without calls
abbrev pub moved_place : (first : ℕ) → Place → Place
moved_place first place = record { holder = moved first place.holder; reached = place.reached }

place_moved : (c : Context) (V : List Variable) (first : ℕ) (D : ℕ → Type 0) → Stands c V first → (place : Location) (es : List Expr) (ixs : List ℕ) → PlaceIn c D place →
    place_of (flat_of_context c V) (filled_place first place es) ixs ≡ moved_place first (place_of c place ixs)
place_moved c V first D stands (a_location ty root parts) es ixs r =
    ap (λ h. record { holder = h; reached = reached c.scope.structs (start_of (type_of_root (flat_of_context c V) (filled_root first root es))) (filled_parts parts (behind_root root es)) (indexes_of_steps (filled_root first root es) ixs) }) (holder_is root) ∙
    (ap (λ at. record { holder = moved first (holder_of c root ixs); reached = at }) (ap (λ o. reached c.scope.structs (start_of (unwrap_or o void_type)) (filled_parts parts (behind_root root es)) (indexes_of_steps (filled_root first root es) ixs)) (root_typed c V first stands root es r.0 r.1 ∙ sym r.1) ∙
    (ap (λ x. reached c.scope.structs (start_of (type_of_root c root)) (filled_parts parts (behind_root root es)) x) (steps_are root) ∙
    reached_filled c.scope.structs (start_of (type_of_root c root)) parts (behind_root root es) (indexes_of_steps root ixs))))
  where
    holder_is : (root : Root) → holder_of (flat_of_context c V) (filled_root first root es) ixs ≡ moved first (holder_of c root ixs)
    holder_is (variable_root number) = refl
    holder_is (constant_root number) = refl
    holder_is (shared_root number) = refl
    holder_is (element_root resource index) = refl

    steps_are : (root : Root) → indexes_of_steps (filled_root first root es) ixs ≡ indexes_of_steps root ixs
    steps_are (variable_root number) = refl
    steps_are (constant_root number) = refl
    steps_are (shared_root number) = refl
    steps_are (element_root resource index) = refl

module _ (c : Context) (V : List Variable) (first : ℕ) (D : ℕ → Type 0) (u : State) (stands : Stands c V first) where
  pub alike_read_place : (place : Location) (es : List Expr) (ixs : List ℕ) → PlaceIn c D place → (s t : State) → Acting c V first D u s t →
      Alike (Acting c V first D u) (read_place c place ixs s) (read_place (flat_of_context c V) (filled_place first place es) ixs t)
  alike_read_place (a_location ty root parts) es ixs there s t r =
      subst (λ p. Alike (Acting c V first D u) (read_place c (a_location ty root parts) ixs s) (read_reached (flat_of_context c V) p.holder p.reached t)) (sym (place_moved c V first D stands (a_location ty root parts) es ixs there))
      (alike_then (Acting c V first D u) (acting_follows c V first D u) _ _ _
      (alike_read_words c V first D u stands (holder_of c root ixs) (holder_in c D root ixs there) (place_of c (a_location ty root parts) ixs).reached.offset
      (words_of c.scope.structs (place_of c (a_location ty root parts) ixs).reached.ty) s t r))

  alike_write_letters : (holder : Holder) → HolderIn c D holder → IsChanged holder → (offset : ℕ) (letters ws : List ℕ) (s t : State) → Acting c V first D u s t →
      Alike (Acting c V first D u) (write_letters c holder offset letters ws s) (write_letters (flat_of_context c V) (moved first holder) offset letters ws t)
  alike_write_letters holder there changed offset [] ws s t r = alike_write_words c V first D u stands holder there offset ws s t changed r
  alike_write_letters holder there changed offset (letter ∷ letters) ws s t r =
      alike_then (Acting c V first D u) (acting_follows c V first D u) _ _ (λ _. []) (alike_each (Acting c V first D u) _ _ (λ w s1 t1 r1.
      alike_write_words c V first D u stands holder there (wrapping_add offset w.0) (w.1 ∷ []) s1 t1 changed r1) (zip (letter ∷ letters) ws) s t r)

  pub alike_write_place : (place : Location) (es : List Expr) (ixs ws : List ℕ) → PlaceIn c D place → IsChangedPlace place → (s t : State) → Acting c V first D u s t →
      Alike (Acting c V first D u) (write_place c place ixs ws s) (write_place (flat_of_context c V) (filled_place first place es) ixs ws t)
  alike_write_place (a_location ty root parts) es ixs ws there changed s t r =
      subst (λ p. Alike (Acting c V first D u) (write_place c (a_location ty root parts) ixs ws s) (write_letters (flat_of_context c V) p.holder p.reached.offset p.reached.letters ws t)) (sym (place_moved c V first D stands (a_location ty root parts) es ixs there))
      (alike_write_letters (holder_of c root ixs) (holder_in c D root ixs there) (changed_in c root ixs changed) (place_of c (a_location ty root parts) ixs).reached.offset
      (place_of c (a_location ty root parts) ixs).reached.letters ws s t r)

  alike_atomic_word : (holder : Holder) (offset : ℕ) (kind : Option AtomicKind) (compare word : ℕ) (s t : State) → Acting c V first D u s t →
      Alike (Acting c V first D u) (atomic_word c holder offset kind compare word s) (atomic_word (flat_of_context c V) (moved first holder) offset kind compare word t)
  alike_atomic_word (in_variable number) offset kind compare word s t r = alike_goes (Acting c V first D u) 0 s t r
  alike_atomic_word (in_constant number) offset kind compare word s t r = alike_goes (Acting c V first D u) 0 s t r
  alike_atomic_word (in_shared number) offset kind compare word s t r =
      alike_within (Acting c V first D u) (acting_follows c V first D u) offset (shared_size c number) _ _ (λ s1 t1 r1. alike_asks_word (Acting c V first D u) (acting_follows c V first D u) _ s1 t1 r1) s t r
  alike_atomic_word (in_element slot index) offset kind compare word s t r = alike_asks_word (Acting c V first D u) (acting_follows c V first D u) _ s t r

  pub alike_atomic_place : (place : Location) (es : List Expr) (ixs : List ℕ) (kind : Option AtomicKind) (compare word : ℕ) → PlaceIn c D place → (s t : State) → Acting c V first D u s t →
      Alike (Acting c V first D u) (atomic_word c (place_of c place ixs).holder (place_of c place ixs).reached.offset kind compare word s)
      (atomic_word (flat_of_context c V) (place_of (flat_of_context c V) (filled_place first place es) ixs).holder (place_of (flat_of_context c V) (filled_place first place es) ixs).reached.offset kind compare word t)
  alike_atomic_place place es ixs kind compare word there s t r =
      subst (λ p. Alike (Acting c V first D u) (atomic_word c (place_of c place ixs).holder (place_of c place ixs).reached.offset kind compare word s) (atomic_word (flat_of_context c V) p.holder p.reached.offset kind compare word t))
      (sym (place_moved c V first D stands place es ixs there))
      (alike_atomic_word (place_of c place ixs).holder (place_of c place ixs).reached.offset kind compare word s t r)
