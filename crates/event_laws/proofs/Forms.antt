-- What a form does with operands of words keeps to words.
use Rattle.std.proofs.Common.{◌≡◌, ◌≤◌, length, refl, ℕ, Bool, true, false, List, [], ◌∷◌, Option, None, Some, take, drop, arith}
use Rattle.std.specs.Prelude.{◌&&◌, IsTrue, if◌then◌else◌, slice_get, slice_index, slice_index_or}
use Rattle.lane_core.specs.declared.event.AtomicKind.{AtomicKind}
use Rattle.lane_core.specs.declared.event.AtomicKind.TheVariants.{Add, And, Or, Xor, IMin, IMax, UMin, UMax, Exchange}
use Rattle.lane_core.specs.declared.event.Event.{Event}
use Rattle.lane_core.specs.declared.event.Event.TheVariants.{Barrier, Wave}
use Rattle.lane_core.specs.declared.event.WaveKind.{WaveKind}
use Rattle.lane_core.specs.declared.event.WaveKind.TheVariants.{AllEqual, AllTrue, AnyTrue, Ballot, BitAnd, BitOr, BitXor, IsFirst, PrefixProduct, PrefixSum, Product, ReadLaneAt, ReadLaneFirst, SignedMax, SignedMin, Sum, UnsignedMax, UnsignedMin}
use Rattle.lane_core.specs.Lane.{Exchange as LaneExchange}
use Rattle.lane_core.specs.Replies.{reply_words}
use Rattle.hl_meaning.specs.declared.program.Copying.{Copying}
use Rattle.hl_meaning.specs.declared.program.Copying.TheVariants.{CopyBoth, CopyIn, CopyOut}
use Rattle.hl_meaning.specs.declared.ty.Kind.{Kind}
use Rattle.hl_meaning.specs.declared.ty.Kind.TheVariants.{Bool as BoolKind, Int as IntKind, Uint as UintKind}
use Rattle.hl_meaning.specs.Types.{Ty, array_type, scalar_type, struct_type, vector_type, void_type}
use Rattle.hl_meaning.specs.Trees.{Args, Expr, Form, Location, MaybeExpr, MaybeLocation, PathParts, Target, a_location, atomic_form, binary_form, build_form, bytes_target, call_form, choose_form, convert_form, index_part, intrinsic_form, literal_form, member_part, method_form, more_args, more_parts, no_expr, no_location, no_parts, pick_form, place_arg, place_target, place_type, read_form, some_expr, some_location, swizzle_part, type_of, unary_form, value_arg, write_form}
use Rattle.hl_meaning.specs.Programs.{Member, Resource, StructDef}
use Rattle.hl_meaning.specs.Layout.{kinds_of, words_of}
use Rattle.hl_meaning.specs.WellFormed.{ArePassed, IsExpr, IsForm, IsLiteralOf, IsOriginal, IsPassed, IsPlace, IsTarget, Param, callee_params}
use Rattle.hl_meaning.specs.Operators.{is_among}
use Rattle.hl_meaning.specs.Places.{Scope, is_raw}
use Rattle.std.proofs.lemmas.Bool.{false≢true}
use Rattle.hl_source.specs.Operations.{binary_words, chosen_word, component_kind, converted, less, map_2, unary_word, word_as}
use Rattle.hl_source.specs.State.{Callee, Context, Progress, State, after, asks, asks_word, ends_at, goes_with}
use Rattle.hl_source.specs.Offsets.{Reached, holder_of, indexes_of_steps, literal_indexes, member_of, picked_reached, place_of, reached, slot_of, start_of, step_to_element, step_to_letters, step_to_member, type_of_root}
use Rattle.hl_source.specs.Memory.{load_four, write_place}
use Rattle.hl_source.specs.Intrinsics.{Work, absolute, barrier, clamped, from_all, from_one, from_three, from_two, greater, lesser, of_lane, own_form, wave, wave_alone, wave_at, wave_four, wave_word, wave_words, work_of, worked, works}
use Rattle.hl_source.specs.Expressions.{acts, assigned, assigns, atomic_original, calls, copies_in, copies_out, initial_parameters, no_callee, read_if, value_of_words, write_if}
use Rattle.event_laws.specs.Laws.{Every, Is32Bits, IsSlot, NamesLane, barrier_modes}
use Rattle.event_laws.proofs.Lists.{AllWords, AreWords, every_concat, every_drop, every_get, every_map_3, every_replicate, every_take, every_to, word_at, zero_is}
use Rattle.event_laws.proofs.WordLemmas.{first_low_is, ones_is, reversed_is, truth_is, wrapped_is}
use Rattle.event_laws.proofs.Operators.{all_read_as, binary_all, chosen_is, converted_words, picked_words_are, read_as, unary_is}
use Rattle.event_laws.proofs.Keeping.{Any, Keeping, Keeps, Sound, keeping_after, keeping_asks, keeping_asks_word, keeping_each, keeping_gives, keeping_goes, keeping_no_value, keeping_then, keeps_after}
use Rattle.event_laws.proofs.Places.{HasConstants, HasSlots, Proper, is_holder, keeping_atomic_address, keeping_atomic_word, keeping_load_four, keeping_read_place, keeping_store_four, keeping_write_place, reply_words_are}

-- functions

-- a function that keeps to words
abbrev pub KeepsCallee : (Event → Type 0) → Callee → Type 0
KeepsCallee E callee = (parameters : List (List ℕ)) (x : LaneExchange) → AllWords parameters → Every E x.asked → Keeps E AreWords (callee parameters x)

pub keeps_no_callee : (E : Event → Type 0) → KeepsCallee E no_callee
keeps_no_callee E parameters x p h = (tt, (p, h))

-- intrinsic functions

lesser_is : (kind : Kind) (a b : ℕ) → Is32Bits a → Is32Bits b → Is32Bits (lesser kind a b)
lesser_is kind a b h k = by_test (less kind b a)
  where
    by_test : (t : Bool) → Is32Bits (if t then b else a)
    by_test true = k
    by_test false = h

greater_is : (kind : Kind) (a b : ℕ) → Is32Bits a → Is32Bits b → Is32Bits (greater kind a b)
greater_is kind a b h k = by_test (less kind a b)
  where
    by_test : (t : Bool) → Is32Bits (if t then b else a)
    by_test true = k
    by_test false = h

absolute_is : (kind : Kind) (word : ℕ) → Is32Bits word → Is32Bits (absolute kind word)
absolute_is IntKind word h = greater_is IntKind word _ h (wrapped_is _)
absolute_is UintKind word h = h
absolute_is BoolKind word h = h

clamped_is : (kind : Kind) (word low high : ℕ) → Is32Bits word → Is32Bits low → Is32Bits high → Is32Bits (clamped kind word low high)
clamped_is kind word low high h k l = lesser_is kind (greater kind word low) high (greater_is kind word low h k) l

-- the work of an intrinsic function makes words of words
abbrev pub WorksOnWords : Work → Type 0
WorksOnWords (from_one f) = (kind : Kind) (a : ℕ) → Is32Bits a → Is32Bits (f kind a)
WorksOnWords (from_two f) = (kind : Kind) (a b : ℕ) → Is32Bits a → Is32Bits b → Is32Bits (f kind a b)
WorksOnWords (from_three f) = (kind : Kind) (a b d : ℕ) → Is32Bits a → Is32Bits b → Is32Bits d → Is32Bits (f kind a b d)
WorksOnWords (barrier mode) = Is32Bits mode × IsTrue (is_among barrier_modes mode)
WorksOnWords (wave_at kind) = (lane : ℕ) → NamesLane kind lane
WorksOnWords _ = Unit {0}

all_work : Every WorksOnWords works
all_work = (
  absolute_is,
  (
    lesser_is,
    (
      greater_is,
      (
        clamped_is,
        (
          (λ kind a h. ones_is a h),
          (
            (λ kind a h. reversed_is a),
            (
              (λ kind a h. first_low_is a),
              (
                tt,
                (
                  tt,
                  (
                    (λ kind a h. h),
                    (
                      (λ kind a h. h),
                      (
                        tt,
                        (
                          tt,
                          (
                            tt,
                            (
                              tt,
                              (
                                tt,
                                (
                                  tt,
                                  (
                                    tt,
                                    (
                                      tt,
                                      (
                                        tt,
                                        (
                                          (omega arith, refl),
                                          (
                                            (omega arith, refl),
                                            (
                                              (omega arith, refl),
                                              (
                                                (omega arith, refl),
                                                (
                                                  (omega arith, refl),
                                                  (
                                                    (omega arith, refl),
                                                    (
                                                      tt,
                                                      (
                                                        tt,
                                                        (
                                                          tt,
                                                          (
                                                            tt,
                                                            (
                                                              tt,
                                                              (
                                                                tt,
                                                                (
                                                                  tt,
                                                                  (
                                                                    (λ lane. tt),
                                                                    (
                                                                      tt,
                                                                      (
                                                                        tt,
                                                                        (tt, (tt, (tt, (tt, (tt, (tt, (tt, (tt, (tt, (tt, tt)))))))))),
                                                                      ),
                                                                    ),
                                                                  ),
                                                                ),
                                                              ),
                                                            ),
                                                          ),
                                                        ),
                                                      ),
                                                    ),
                                                  ),
                                                ),
                                              ),
                                            ),
                                          ),
                                        ),
                                      ),
                                    ),
                                  ),
                                ),
                              ),
                            ),
                          ),
                        ),
                      ),
                    ),
                  ),
                ),
              ),
            ),
          ),
        ),
      ),
    ),
  ),
)

works_on_words : (number : ℕ) → WorksOnWords (work_of number)
works_on_words number = every_get WorksOnWords works number own_form all_work tt

names_none : (kind : WaveKind) → NamesLane kind 0
names_none ReadLaneAt = tt
names_none AnyTrue = refl
names_none AllTrue = refl
names_none AllEqual = refl
names_none Ballot = refl
names_none ReadLaneFirst = refl
names_none IsFirst = refl
names_none Sum = refl
names_none Product = refl
names_none SignedMin = refl
names_none SignedMax = refl
names_none UnsignedMin = refl
names_none UnsignedMax = refl
names_none BitAnd = refl
names_none BitOr = refl
names_none BitXor = refl
names_none PrefixSum = refl
names_none PrefixProduct = refl

keeping_wave_words : (c : Context) (kind : WaveKind) (lane : ℕ) (result : Kind) (words : List ℕ) → Is32Bits lane → NamesLane kind lane → AreWords words → Keeping (Proper c) AreWords (wave_words kind lane result words)
keeping_wave_words c kind lane result words l named h =
    keeping_each Is32Bits Is32Bits (wave_word kind lane result)
    (λ word w. keeping_then Is32Bits Is32Bits (asks_word (Wave kind word lane)) (word_as result) (keeping_asks_word (Wave kind word lane) ((w, (l, tt)), named)) (read_as result)) words h

keeping_worked : (c : Context) (work : Work) → WorksOnWords work → (ty : Ty) (args : List (List ℕ)) → AllWords args → Keeping (Proper c) AreWords (worked c work ty args)
keeping_worked c (of_lane tell) e ty [] h = keeping_goes AreWords _ (wrapped_is _, tt)
keeping_worked c (barrier mode) e ty [] h = keeping_no_value Any (asks (Barrier mode)) (keeping_asks (Barrier mode) ((e.0, tt), e.1))
keeping_worked c (wave kind) e ty (xs ∷ []) h = keeping_wave_words c (kind (component_kind ty)) 0 (component_kind ty) xs zero_is (names_none (kind (component_kind ty))) h.0
keeping_worked c (wave_at kind) e ty (xs ∷ lane ∷ []) h = keeping_wave_words c kind (slice_index lane 0) (component_kind ty) xs (word_at lane 0 h.1.0) (e (slice_index lane 0)) h.0
keeping_worked c (wave_alone kind) e ty [] h = keeping_wave_words c kind 0 (component_kind ty) (0 ∷ []) zero_is (names_none kind) (zero_is, tt)
keeping_worked c (wave_four kind) e ty (xs ∷ []) h =
    keeping_then Any AreWords (asks (Wave kind (slice_index xs 0) 0)) (reply_words 4) (keeping_asks (Wave kind (slice_index xs 0) 0) ((word_at xs 0 h.0, (zero_is, tt)), names_none kind)) (λ reply _. reply_words_are 4 reply)
keeping_worked c (from_one f) e ty (xs ∷ []) h = keeping_goes AreWords _ (every_to Is32Bits Is32Bits (f (component_kind ty)) (e (component_kind ty)) xs h.0)
keeping_worked c (from_two f) e ty (xs ∷ ys ∷ []) h = keeping_goes AreWords _ (two_words (f (component_kind ty)) (e (component_kind ty)) xs ys h.0 h.1.0)
  where
    two_words : (f : ℕ → ℕ → ℕ) → ((a b : ℕ) → Is32Bits a → Is32Bits b → Is32Bits (f a b)) → (xs ys : List ℕ) → AreWords xs → AreWords ys → AreWords (map_2 f xs ys)
    two_words f h [] ys p q = tt
    two_words f h (x ∷ xs) [] p q = tt
    two_words f h (x ∷ xs) (y ∷ ys) p q = (h x y p.0 q.0, two_words f h xs ys p.1 q.1)
keeping_worked c (from_three f) e ty (xs ∷ ys ∷ zs ∷ []) h =
    keeping_goes AreWords _ (every_map_3 Is32Bits Is32Bits Is32Bits Is32Bits (f (component_kind ty)) (e (component_kind ty)) xs ys zs h.0 h.1.0 h.1.1.0)
keeping_worked c (from_all judge) e ty (xs ∷ []) h = keeping_goes AreWords _ (truth_is _, tt)
keeping_worked c work e ty args h = keeping_goes AreWords [] tt

-- literals

pub literal_is : (ty : Ty) (word : ℕ) → IsLiteralOf ty word → Is32Bits word
literal_is (scalar_type BoolKind) word h = omega (arith, h)
literal_is (scalar_type IntKind) word h = h
literal_is (scalar_type UintKind) word h = h
literal_is (vector_type kind size) word h = absurd h
literal_is (array_type element count) word h = absurd h
literal_is (struct_type number) word h = absurd h
literal_is void_type word h = absurd h

initial_words : (operands : List (List ℕ)) → AllWords operands → AllWords (initial_parameters operands)
initial_words [] h = tt
initial_words (indexes ∷ []) h = tt
initial_words (indexes ∷ initial ∷ operands) h = (h.1.0, initial_words operands h.1.1)

-- offsets of places

member_is : (from : Reached) (member : Option Member) → Is32Bits from.offset → Is32Bits (step_to_member from member).offset
member_is from None h = h
member_is from (Some m) h = wrapped_is _

letters_are : (from : Reached) (letters : List ℕ) → Is32Bits from.offset → Is32Bits (step_to_letters from letters).offset
letters_are from [] h = h
letters_are from (letter ∷ []) h = wrapped_is _
letters_are from (letter ∷ next ∷ letters) h = h

offset_is : (structs : List StructDef) (from : Reached) (parts : PathParts) (indexes : List ℕ) → Is32Bits from.offset → Is32Bits (reached structs from parts indexes).offset
offset_is structs from no_parts indexes h = h
offset_is structs from (more_parts (member_part number) rest) indexes h =
    offset_is structs (step_to_member from (member_of structs from.ty number)) rest indexes (member_is from (member_of structs from.ty number) h)
offset_is structs from (more_parts (index_part index) rest) indexes h =
    offset_is structs (step_to_element structs from (slice_index indexes 0)) rest (drop 1 indexes) (wrapped_is _)
offset_is structs from (more_parts (swizzle_part letters) rest) indexes h = offset_is structs (step_to_letters from letters) rest indexes (letters_are from letters h)

-- what the parts of a form that is well formed are

-- a byte-address buffer that is named is there
raw_slot : (c : Context) → HasSlots c → (resource : ℕ) → IsTrue (is_raw (slice_get c.scope.resources resource)) → IsSlot c.slots (slot_of c resource)
raw_slot c slots resource raw = by_resource (slice_get c.scope.resources resource) refl raw
  where
    by_resource : (o : Option Resource) → slice_get c.scope.resources resource ≡ o → IsTrue (is_raw o) → IsSlot c.slots (slot_of c resource)
    by_resource None e raw = absurd (false≢true raw)
    by_resource (Some r) e raw = slots resource r e

and_first : (a b : Bool) → IsTrue (a && b) → IsTrue a
and_first true b h = refl
and_first false b h = h

pub value_passed : (s : Scope) (ty : Ty) (copying : Copying) (value : Expr) → IsPassed s ty copying (value_arg value) → IsExpr s value
value_passed s ty CopyIn value h = h.0
value_passed s ty CopyOut value h = absurd h
value_passed s ty CopyBoth value h = absurd h

pub place_passed : (s : Scope) (ty : Ty) (copying : Copying) (place : Location) → IsPassed s ty copying (place_arg place) → IsPlace s place
place_passed s ty CopyIn place h = absurd h
place_passed s ty CopyOut place h = h.0
place_passed s ty CopyBoth place h = h.0

pub original_place : (s : Scope) (target : Target) (kind : Option AtomicKind) (place : Location) → IsOriginal s target kind (some_location place) → IsPlace s place
original_place s (place_target to) None place h = h.0
original_place s (place_target to) (Some Add) place h = h.0
original_place s (place_target to) (Some And) place h = h.0
original_place s (place_target to) (Some Or) place h = h.0
original_place s (place_target to) (Some Xor) place h = h.0
original_place s (place_target to) (Some IMin) place h = h.0
original_place s (place_target to) (Some IMax) place h = h.0
original_place s (place_target to) (Some UMin) place h = h.0
original_place s (place_target to) (Some UMax) place h = h.0
original_place s (place_target to) (Some Exchange) place h = h.0
original_place s (bytes_target resource address) None place h = h.0
original_place s (bytes_target resource address) (Some Add) place h = h.0
original_place s (bytes_target resource address) (Some And) place h = h.0
original_place s (bytes_target resource address) (Some Or) place h = h.0
original_place s (bytes_target resource address) (Some Xor) place h = h.0
original_place s (bytes_target resource address) (Some IMin) place h = h.0
original_place s (bytes_target resource address) (Some IMax) place h = h.0
original_place s (bytes_target resource address) (Some UMin) place h = h.0
original_place s (bytes_target resource address) (Some UMax) place h = h.0
original_place s (bytes_target resource address) (Some Exchange) place h = h.0

-- a method stores as many words as its name says
abbrev pub HasCount : Form → List (List ℕ) → Type 0
HasCount (method_form resource count address (some_expr value)) (at ∷ words ∷ []) = length words ≡ count
HasCount _ _ = Unit {0}

module _ (c : Context) (constants : HasConstants c) (slots : HasSlots c) where
  -- calls

  pub keeping_copies_in : (passing : Copying) (place : Location) → IsPlace c.scope place → (indexes : List ℕ) → AreWords indexes → Keeping (Proper c) AreWords (copies_in c passing place indexes)
  keeping_copies_in CopyOut place is indexes h = keeping_goes AreWords _ (every_replicate Is32Bits (words_of c.scope.structs (place_type place)) 0 zero_is)
  keeping_copies_in CopyIn place is indexes h = keeping_read_place c constants slots place is indexes h
  keeping_copies_in CopyBoth place is indexes h = keeping_read_place c constants slots place is indexes h

  keeping_copies_out : (params : List (Option Param)) (args : Args) → ArePassed c.scope params args → (operands parameters : List (List ℕ)) → AllWords operands → AllWords parameters →
      Keeping (Proper c) AreWords (copies_out c args operands parameters)
  keeping_copies_out (Some param ∷ params) (more_args (place_arg place) rest) is (indexes ∷ initial ∷ operands) (words ∷ parameters) h k =
      keeping_after AreWords AreWords (write_place c place indexes (value_of_words c (place_type place) words)) (λ _. copies_out c rest operands parameters)
      (keeping_write_place c constants slots place (place_passed c.scope param.ty param.copying place is.0) indexes (value_of_words c (place_type place) words) h.0 (all_read_as (kinds_of c.scope.structs (place_type place)) words k.0))
      (λ _ _. keeping_copies_out params rest is.1 operands parameters h.1.1 k.1)
  keeping_copies_out (Some param ∷ params) (more_args (value_arg value) rest) is (indexes ∷ initial ∷ operands) (words ∷ parameters) h k = keeping_copies_out params rest is.1 operands parameters h.1.1 k.1
  keeping_copies_out [] (more_args first rest) is operands parameters h k = absurd is
  keeping_copies_out (None ∷ params) (more_args first rest) is operands parameters h k = absurd is
  keeping_copies_out params args is operands parameters h k = keeping_goes AreWords [] tt

  -- what a call does behind the body
  behind_body : (params : List (Option Param)) (args : Args) → ArePassed c.scope params args → (operands : List (List ℕ)) → AllWords operands → (s : State) → Sound (Proper c) s → (body : Progress (List ℕ)) → Keeps (Proper c) AreWords body →
      Keeps (Proper c) AreWords (after body (λ result callee_state. after (copies_out c args operands callee_state.variables (record s { exchange = callee_state.exchange })) (λ _ s'. goes_with result s')))
  behind_body params args is operands h s sound (ends_at run) k = k
  behind_body params args is operands h s sound (goes_with result ended) k =
      keeps_after AreWords AreWords (copies_out c args operands ended.variables (record s { exchange = ended.exchange })) (λ _ s'. goes_with result s')
      ((keeping_copies_out params args is operands ended.variables h k.1.0).keeps (record s { exchange = ended.exchange }) (sound.0, k.1.1)) (λ _ _. keeping_goes AreWords result k.0)

  keeping_calls : (params : List (Option Param)) (args : Args) → ArePassed c.scope params args → (callee : Callee) → KeepsCallee (Proper c) callee → (operands : List (List ℕ)) → AllWords operands → Keeping (Proper c) AreWords (calls c callee args operands)
  keeping_calls params args is callee k operands h = record {
    keeps = λ s sound. behind_body params args is operands h s sound (callee (initial_parameters operands) s.exchange) (k (initial_parameters operands) s.exchange (initial_words operands h) sound.1);
  }

  -- assignments

  keeping_read_if : (op : Option ℕ) (place : Location) → IsPlace c.scope place → (indexes : List ℕ) → AreWords indexes → Keeping (Proper c) AreWords (read_if c op place indexes)
  keeping_read_if None place is indexes h = keeping_goes AreWords [] tt
  keeping_read_if (Some op) place is indexes h = keeping_read_place c constants slots place is indexes h

  keeping_assigned : (op : Option ℕ) (common to : Ty) (before words : List ℕ) → AreWords before → AreWords words → Keeping (Proper c) AreWords (assigned op common to before words)
  keeping_assigned None common to before words h k = keeping_goes AreWords words k
  keeping_assigned (Some op) common to before words h k =
      keeping_then AreWords AreWords _ (converted common to)
      (keeping_gives AreWords (binary_words op (component_kind common) (converted to common before) words) (binary_all op (component_kind common) (converted to common before) words (converted_words to common before h) k))
      (λ computed l. converted_words common to computed l)

  keeping_assigns : (to : Location) → IsPlace c.scope to → (op : Option ℕ) (common : Ty) (old : Bool) (indexes words : List ℕ) → AreWords indexes → AreWords words → Keeping (Proper c) AreWords (assigns c to op common old indexes words)
  keeping_assigns to is op common old indexes words h k =
      keeping_after AreWords AreWords _ _ (keeping_read_if op to is indexes h) (λ before b.
      keeping_after AreWords AreWords _ _ (keeping_assigned op common (place_type to) before words b k) (λ written w.
      keeping_then AreWords AreWords _ (λ _. if old then before else written) (keeping_write_place c constants slots to is indexes written h w) (λ _ _. by_test old before written b w)))
    where
      by_test : (old : Bool) (before written : List ℕ) → AreWords before → AreWords written → AreWords (if old then before else written)
      by_test true before written b w = b
      by_test false before written b w = w

  -- atomic operations

  keeping_atomic_original : (ty : Ty) (target : Target) → IsTarget c.scope ty target → (kind : Option AtomicKind) (indexes : List ℕ) (compare word : ℕ) → AreWords indexes → Is32Bits compare → Is32Bits word →
      Keeping (Proper c) Is32Bits (atomic_original c target kind indexes compare word)
  keeping_atomic_original taken (place_target (a_location ty root parts)) is kind indexes compare word h k w =
      keeping_atomic_word c constants slots (holder_of c root indexes) (place_of c (a_location ty root parts) indexes).reached.offset kind compare word (is_holder c slots ty root parts indexes h is.0)
      (offset_is c.scope.structs (start_of (type_of_root c root)) parts (indexes_of_steps root indexes) zero_is) k w
  keeping_atomic_original taken (bytes_target resource address) is kind indexes compare word h k w = keeping_atomic_address c constants slots (slot_of c resource) (slice_index indexes 0) kind compare word (word_at indexes 0 h) k w (raw_slot c slots resource (and_first (is_raw (slice_get c.scope.resources resource)) _ is.0))

  keeping_write_if : (target : Target) (kind : Option AtomicKind) (place : MaybeLocation) → IsOriginal c.scope target kind place → (indexes words : List ℕ) → AreWords indexes → AreWords words → Keeping (Proper c) AreWords (write_if c place indexes words)
  keeping_write_if target kind no_location is indexes words h k = keeping_goes AreWords [] tt
  keeping_write_if target kind (some_location place) is indexes words h k = keeping_write_place c constants slots place (original_place c.scope target kind place is) indexes words h k

  -- forms

  picked_are : (structs : List StructDef) (from : Reached) (words : List ℕ) → AreWords words → AreWords (picked_reached structs from words)
  picked_are structs from words h =
      picked_words_are from.letters (take (words_of structs from.ty) (drop from.offset words)) (every_take Is32Bits (words_of structs from.ty) (drop from.offset words) (every_drop Is32Bits from.offset words h))

  keeping_method : (ty : Ty) (resource count : ℕ) (address : Expr) (value : MaybeExpr) → IsTrue (is_raw (slice_get c.scope.resources resource)) → 1 ≤ count → count ≤ 4 → (operands : List (List ℕ)) → AllWords operands → HasCount (method_form resource count address value) operands → Keeping (Proper c) AreWords (acts c ty (method_form resource count address value) operands)
  keeping_method ty resource count address no_expr raw some most (at ∷ []) k counted =
      keeping_then AreWords AreWords (load_four (slot_of c resource) (slice_index at 0) 0) (take count) (keeping_load_four c (slot_of c resource) (raw_slot c slots resource raw) (slice_index at 0) 0 (word_at at 0 k.0) zero_is) (λ words l. every_take Is32Bits count words l)
  keeping_method ty resource count address (some_expr value) raw some most (at ∷ words ∷ []) k counted = keeping_store_four c (slot_of c resource) (raw_slot c slots resource raw) (slice_index at 0) 0 words (word_at at 0 k.0) zero_is k.1.0 (omega (arith, counted, some)) (omega (arith, counted, most))
  keeping_method ty resource count address no_expr raw some most [] k counted = keeping_goes AreWords [] tt
  keeping_method ty resource count address no_expr raw some most (at ∷ words ∷ operands) k counted = keeping_goes AreWords [] tt
  keeping_method ty resource count address (some_expr value) raw some most [] k counted = keeping_goes AreWords [] tt
  keeping_method ty resource count address (some_expr value) raw some most (at ∷ []) k counted = keeping_goes AreWords [] tt
  keeping_method ty resource count address (some_expr value) raw some most (at ∷ words ∷ others ∷ operands) k counted = keeping_goes AreWords [] tt

  module _ (callees : (number : ℕ) → KeepsCallee (Proper c) (slice_index_or c.callees number no_callee)) where
    pub keeping_acts : (ty : Ty) (form : Form) (operands : List (List ℕ)) → IsForm c.scope ty form → AllWords operands → HasCount form operands → Keeping (Proper c) AreWords (acts c ty form operands)
    keeping_acts ty (literal_form word) [] h k counted = keeping_goes AreWords _ (literal_is ty word h, tt)
    keeping_acts ty (read_form place) (indexes ∷ []) h k counted = keeping_read_place c constants slots place h.0 indexes k.0
    keeping_acts ty (write_form to op common value old) (indexes ∷ words ∷ []) h k counted = keeping_assigns to h.0 op common old indexes words k.0 k.1.0
    keeping_acts ty (convert_form value) (words ∷ []) h k counted = keeping_goes AreWords _ (converted_words (type_of value) ty words k.0)
    keeping_acts ty (unary_form op value) (words ∷ []) h k counted = keeping_goes AreWords _ (every_to Is32Bits Is32Bits (unary_word op) (unary_is op) words k.0)
    keeping_acts ty (binary_form op left right) (words ∷ others ∷ []) h k counted =
        keeping_gives AreWords (binary_words op (component_kind (type_of left)) words others) (binary_all op (component_kind (type_of left)) words others k.0 k.1.0)
    keeping_acts ty (choose_form cond consequent alternative) (truths ∷ words ∷ others ∷ []) h k counted =
        keeping_goes AreWords _ (every_map_3 Is32Bits Is32Bits Is32Bits Is32Bits chosen_word chosen_is truths words others k.0 k.1.0 k.1.1.0)
    keeping_acts ty (build_form parts) operands h k counted = keeping_goes AreWords _ (every_concat Is32Bits operands k)
    keeping_acts ty (pick_form value parts) (words ∷ []) h k counted =
        keeping_goes AreWords _ (picked_are c.scope.structs (reached c.scope.structs (start_of (type_of value)) parts (literal_indexes parts)) words k.0)
    keeping_acts ty (call_form function args) operands h k counted = keeping_calls (callee_params (slice_get c.scope.functions function)) args h.1 (slice_index_or c.callees function no_callee) (callees function) operands k
    keeping_acts ty (intrinsic_form number args) operands h k counted = keeping_worked c (work_of number) (works_on_words number) ty operands k
    keeping_acts ty (method_form resource count address value) operands h k counted = keeping_method ty resource count address value h.0 h.1 h.2 operands k counted
    keeping_acts ty (atomic_form target kind compare value original) (indexes ∷ compared ∷ words ∷ original_indexes ∷ []) h k counted =
        keeping_after Is32Bits AreWords _ _ (keeping_atomic_original (type_of value) target h.1 kind indexes (slice_index compared 0) (slice_index words 0) k.0 (word_at compared 0 k.1.0) (word_at words 0 k.1.1.0)) (λ before b.
        keeping_no_value AreWords _ (keeping_write_if target kind original h.5 original_indexes (before ∷ []) k.1.1.1.0 (b, tt)))
    keeping_acts ty form operands h k counted = keeping_goes AreWords [] tt
