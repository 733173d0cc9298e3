-- Places are read and written with words.
use Rattle.std.proofs.Common.{◌≡◌, refl, ◌<◌, ◌≤◌, ◌+◌, ◌*◌, zero, suc, div-add-mod', arith, ℕ, List, [], ◌∷◌, ◌++◌, drop, length, take, Option, None, Some}
use Rattle.std.specs.Prelude.{replicate, slice_get, slice_set, unwrap_or, zip}
use Rattle.std.specs.Int.{div_ceil}
use Rattle.std.proofs.lemmas.List.{length-drop, length-take}
use Rattle.std.specs.Option.{option_map, option_and_then}
use Rattle.std.proofs.lemmas.Option.{none-some}
use Rattle.std.specs.List.{concat, range_with_len}
use Rattle.lane_core.specs.declared.event.AtomicKind.{AtomicKind}
use Rattle.lane_core.specs.declared.event.Event.{Event}
use Rattle.lane_core.specs.declared.event.Event.TheVariants.{BufferLoad, BufferStore, SharedLoad, SharedStore}
use Rattle.lane_core.specs.declared.event.Reply.{Reply}
use Rattle.lane_core.specs.declared.event.Slot.{Slot}
use Rattle.lane_core.specs.Replies.{reply_word, reply_words}
use Rattle.lane_core.specs.Words.{wrapping_add}
use Rattle.hl_meaning.specs.Trees.{Location, PathParts, Root, a_location, constant_root, element_root, shared_root, variable_root}
use Rattle.hl_meaning.specs.Types.{Ty, void_type}
use Rattle.hl_meaning.specs.Programs.{Resource, Variable}
use Rattle.hl_meaning.specs.Places.{element_type, path_type}
use Rattle.hl_meaning.specs.WellFormed.{IsPlace}
use Rattle.hl_meaning.proofs.LayoutLemmas.{words-void}
use Rattle.hl_meaning.specs.Layout.{kinds_of, words_of}
use Rattle.hl_source.specs.Operations.{map_2, picked, word_as}
use Rattle.hl_source.specs.State.{Context, Progress, State, asks, asks_word, each, goes_with}
use Rattle.hl_source.specs.Offsets.{Holder, Reached, holder_of, in_constant, in_element, in_shared, in_variable, place_of, slot_of}
use Rattle.hl_source.specs.Memory.{atomic_address, atomic_word, buffer_atomic, byte_offset, cell, constant_words, load_four, load_words, pieces, read_place, read_reached, read_words, shared_atomic, shared_size, store_four, store_words, within, word_of, word_offsets, write_letters, write_place, write_variable_word, write_words}
use Rattle.event_laws.specs.Laws.{Every, HasWords, Is32Bits, IsCell, IsSlot, Names, Stores}
use Rattle.event_laws.proofs.Lists.{AllWords, AreWords, every_append, every_concat, every_drop, every_get, every_made, every_replicate, every_set, every_take, every_to, every_zip, word_at, zero_is}
use Rattle.event_laws.proofs.WordLemmas.{wrapped_is}
use Rattle.event_laws.proofs.Operators.{all_read_as, picked_words_are}
use Rattle.event_laws.proofs.Keeping.{Any, Keeping, keeping_asks, keeping_asks_word, keeping_each, keeping_each_any, keeping_goes, keeping_no_value, keeping_of_variables, keeping_sets, keeping_then, keeping_within_low, keeping_within, keeping_words_of}

-- an event of words that names what is there
abbrev pub Proper : Context → Event → Type 0
Proper c event = HasWords event × Names c.scope.structs c.scope.shared c.slots event

-- buffers

stored : (words : List ℕ) → 1 ≤ length words → length words ≤ 4 → Stores (length words) (take 4 (words ++ replicate 4 0))
stored [] some most = absurd (omega (arith, some))
stored (a ∷ []) some most = record { some = some; most = most; places = refl; zeros = (refl, (refl, (refl, tt))) }
stored (a ∷ b ∷ []) some most = record { some = some; most = most; places = refl; zeros = (refl, (refl, tt)) }
stored (a ∷ b ∷ d ∷ []) some most = record { some = some; most = most; places = refl; zeros = (refl, tt) }
stored (a ∷ b ∷ d ∷ e ∷ []) some most = record { some = some; most = most; places = refl; zeros = tt }
stored (a ∷ b ∷ d ∷ e ∷ f ∷ words) some most = absurd (omega (arith, most))

-- a piece begins at a word that is there
ranged : (top a n : ℕ) → a + n ≤ top → Every (λ k. k < top) (range_with_len a n)
ranged top a zero h = tt
ranged top a (suc n) h = (omega (arith, h), ranged top (a + 1) n (omega (arith, h)))

piece_below : (count k : ℕ) → k < div_ceil count 4 → 4 * k < count
piece_below count k low = omega (arith, low, div-add-mod' count 4)

pieces_below : (count : ℕ) → Every (λ piece. piece < count) (pieces count)
pieces_below count = every_to (λ k. k < div_ceil count 4) (λ piece. piece < count) (λ piece. 4 * piece) (piece_below count) (range_with_len 0 (div_ceil count 4)) (ranged (div_ceil count 4) 0 (div_ceil count 4) (omega arith))

some_piece : (words : List ℕ) (piece : ℕ) → piece < length words → 1 ≤ length (take 4 (drop piece words))
some_piece words piece low = omega (arith, length-take 4 (drop piece words), length-drop piece words, low)

most_piece : (words : List ℕ) (piece : ℕ) → length (take 4 (drop piece words)) ≤ 4
most_piece words piece = omega (arith, length-take 4 (drop piece words))

pub reply_words_are : (count : ℕ) (reply : Reply) → AreWords (reply_words count reply)
reply_words_are count reply = every_made Is32Bits (reply_word reply) (λ number. wrapped_is _) (range_with_len 0 count)

pub keeping_load_four : (c : Context) (slot : Slot) → IsSlot c.slots slot → (index at : ℕ) → Is32Bits index → Is32Bits at → Keeping (Proper c) AreWords (load_four slot index at)
keeping_load_four c slot there index at i a = keeping_then Any AreWords (asks (BufferLoad slot index at)) (reply_words 4) (keeping_asks (BufferLoad slot index at) ((i, (a, tt)), there)) (λ reply _. reply_words_are 4 reply)

pub keeping_store_four : (c : Context) (slot : Slot) → IsSlot c.slots slot → (index at : ℕ) (words : List ℕ) → Is32Bits index → Is32Bits at → AreWords words → 1 ≤ length words → length words ≤ 4 → Keeping (Proper c) AreWords (store_four slot index at words)
keeping_store_four c slot there index at words i a h some most =
    keeping_no_value Any (asks (BufferStore slot index at (length words) (take 4 (words ++ replicate 4 0))))
    (keeping_asks (BufferStore slot index at (length words) (take 4 (words ++ replicate 4 0)))
    ((i, (a, every_take Is32Bits 4 (words ++ replicate 4 0) (every_append Is32Bits words (replicate 4 0) h (every_replicate Is32Bits 4 0 zero_is)))), (there, stored words some most)))

keeping_load_words : (c : Context) (slot : Slot) → IsSlot c.slots slot → (index offset count : ℕ) → Is32Bits index → Keeping (Proper c) AreWords (load_words slot index offset count)
keeping_load_words c slot there index offset count i =
    keeping_then AllWords AreWords (each (λ piece. load_four slot index (byte_offset offset piece)) (pieces count)) (λ fours. take count (concat fours))
    (keeping_each_any AreWords (λ piece. load_four slot index (byte_offset offset piece)) (λ piece. keeping_load_four c slot there index (byte_offset offset piece) i (wrapped_is _)) (pieces count))
    (λ fours h. every_take Is32Bits count (concat fours) (every_concat Is32Bits fours h))

keeping_store_words : (c : Context) (slot : Slot) → IsSlot c.slots slot → (index offset : ℕ) (words : List ℕ) → Is32Bits index → AreWords words → Keeping (Proper c) AreWords (store_words slot index offset words)
keeping_store_words c slot there index offset words i h =
    keeping_no_value AllWords (each (λ piece. store_four slot index (byte_offset offset piece) (take 4 (drop piece words))) (pieces (length words)))
    (keeping_each (λ piece. piece < length words) AreWords (λ piece. store_four slot index (byte_offset offset piece) (take 4 (drop piece words)))
    (λ piece low. keeping_store_four c slot there index (byte_offset offset piece) (take 4 (drop piece words)) i (wrapped_is _) (every_take Is32Bits 4 (drop piece words) (every_drop Is32Bits piece words h)) (some_piece words piece low) (most_piece words piece))
    (pieces (length words)) (pieces_below (length words)))

-- words

offsets_are : (offset count : ℕ) → AreWords (word_offsets offset count)
offsets_are offset count = every_made Is32Bits (wrapping_add offset) (λ number. wrapped_is _) (range_with_len 0 count)

-- the index of an element is a word, and its buffer is there
abbrev pub IsHolder : Context → Holder → Type 0
IsHolder c (in_element slot index) = Is32Bits index × IsSlot c.slots slot
IsHolder c _ = Unit {0}

-- a word of a groupshared variable that is reached is there
cell_there : (c : Context) (number word : ℕ) → word < shared_size c number → IsCell c.scope.structs c.scope.shared (cell number word)
cell_there c number word low = by_variable (slice_get c.scope.shared number) refl low
  where
    by_variable : (o : Option Variable) → slice_get c.scope.shared number ≡ o → word < words_of c.scope.structs (unwrap_or (option_map (λ v. v.ty) o) void_type) → IsCell c.scope.structs c.scope.shared (cell number word)
    by_variable None is low = absurd (omega (arith, low, words-void c.scope.structs))
    by_variable (Some v) is low = (v, is, low)

-- the buffers that can be named have slots
abbrev pub HasSlots : Context → Type 0
HasSlots c = (resource : ℕ) (r : Resource) → slice_get c.scope.resources resource ≡ Some r → IsSlot c.slots (slot_of c resource)

pub is_holder : (c : Context) → HasSlots c → (ty : Ty) (root : Root) (parts : PathParts) (indexes : List ℕ) → AreWords indexes → IsPlace c.scope (a_location ty root parts) → IsHolder c (holder_of c root indexes)
is_holder c slots ty (variable_root number) parts indexes h is = tt
is_holder c slots ty (constant_root number) parts indexes h is = tt
is_holder c slots ty (shared_root number) parts indexes h is = tt
is_holder c slots ty (element_root resource index) parts indexes h is = (word_at indexes 0 h, by_resource (slice_get c.scope.resources resource) refl is.3)
  where
    by_resource : (o : Option Resource) → slice_get c.scope.resources resource ≡ o → option_and_then (λ t. path_type c.scope.structs t parts) (option_and_then element_type o) ≡ Some ty → IsSlot c.slots (slot_of c resource)
    by_resource None e typed = absurd (none-some ty typed)
    by_resource (Some r) e typed = slots resource r e

-- the constants of a program have words
abbrev pub HasConstants : Context → Type 0
HasConstants c = (number : ℕ) → AreWords (constant_words c number)

module _ (c : Context) (constants : HasConstants c) (slots : HasSlots c) where
  keeping_read_words : (holder : Holder) (offset count : ℕ) → IsHolder c holder → Keeping (Proper c) AreWords (read_words c holder offset count)
  keeping_read_words (in_variable number) offset count h =
      let part : List (List ℕ) → State → Progress (List ℕ) = λ variables. each (word_of (unwrap_or (slice_get variables number) [])) (word_offsets offset count) in
      keeping_of_variables AreWords part (λ variables all. keeping_words_of (unwrap_or (slice_get variables number) []) (word_offsets offset count) (every_get AreWords variables number [] all tt))
  keeping_read_words (in_constant number) offset count h = keeping_words_of (constant_words c number) (word_offsets offset count) (constants number)
  keeping_read_words (in_shared number) offset count h =
      keeping_each Is32Bits Is32Bits (λ word. within word (shared_size c number) (asks_word (SharedLoad (cell number word))))
      (λ word is. keeping_within_low Is32Bits word (shared_size c number) (asks_word (SharedLoad (cell number word))) (λ low. keeping_asks_word (SharedLoad (cell number word)) ((is, tt), cell_there c number word low))) (word_offsets offset count) (offsets_are offset count)
  keeping_read_words (in_element slot index) offset count h = keeping_load_words c slot h.1 index offset count h.0

  keeping_write_variable_word : (number offset word : ℕ) → Is32Bits word → Keeping (Proper c) AreWords (write_variable_word number offset word)
  keeping_write_variable_word number offset word h =
      let set : List (List ℕ) → List (List ℕ) = λ variables. slice_set variables number (slice_set (unwrap_or (slice_get variables number) []) offset word) in
      let part : List (List ℕ) → State → Progress (List ℕ) = λ variables. within offset (length (unwrap_or (slice_get variables number) [])) (λ s. goes_with [] (record s { variables = set s.variables })) in
      keeping_of_variables AreWords part (λ variables all. keeping_within AreWords offset (length (unwrap_or (slice_get variables number) [])) (λ s. goes_with [] (record s { variables = set s.variables })) (keeping_sets AreWords [] tt set (λ variables all.
      every_set AreWords variables number (slice_set (unwrap_or (slice_get variables number) []) offset word) all
      (every_set Is32Bits (unwrap_or (slice_get variables number) []) offset word (every_get AreWords variables number [] all tt) h))))

  keeping_write_words : (holder : Holder) (offset : ℕ) (words : List ℕ) → IsHolder c holder → AreWords words → Keeping (Proper c) AreWords (write_words c holder offset words)
  keeping_write_words (in_variable number) offset words h k =
      keeping_no_value AllWords (each (λ w. write_variable_word number w.0 w.1) (zip (word_offsets offset (length words)) words))
      (keeping_each (λ w. Is32Bits w.0 × Is32Bits w.1) AreWords (λ w. write_variable_word number w.0 w.1) (λ w are. keeping_write_variable_word number w.0 w.1 are.1) (zip (word_offsets offset (length words)) words)
      (every_zip Is32Bits Is32Bits (word_offsets offset (length words)) words (offsets_are offset (length words)) k))
  keeping_write_words (in_constant number) offset words h k = keeping_goes AreWords [] tt
  keeping_write_words (in_shared number) offset words h k =
      keeping_no_value (Every Any) (each (λ w. within w.0 (shared_size c number) (asks (SharedStore (cell number w.0) w.1))) (zip (word_offsets offset (length words)) words))
      (keeping_each (λ w. Is32Bits w.0 × Is32Bits w.1) Any (λ w. within w.0 (shared_size c number) (asks (SharedStore (cell number w.0) w.1)))
      (λ w are. keeping_within_low Any w.0 (shared_size c number) (asks (SharedStore (cell number w.0) w.1)) (λ low. keeping_asks (SharedStore (cell number w.0) w.1) ((are.0, (are.1, tt)), cell_there c number w.0 low))) (zip (word_offsets offset (length words)) words)
      (every_zip Is32Bits Is32Bits (word_offsets offset (length words)) words (offsets_are offset (length words)) k))
  keeping_write_words (in_element slot index) offset words h k = keeping_store_words c slot h.1 index offset words h.0 k

  -- places

  keeping_read_reached : (holder : Holder) (from : Reached) → IsHolder c holder → Keeping (Proper c) AreWords (read_reached c holder from)
  keeping_read_reached holder from h =
      keeping_then AreWords AreWords (read_words c holder from.offset (words_of c.scope.structs from.ty)) (λ words. picked from.letters (map_2 word_as (kinds_of c.scope.structs from.ty) words))
      (keeping_read_words holder from.offset (words_of c.scope.structs from.ty) h)
      (λ words k. picked_words_are from.letters (map_2 word_as (kinds_of c.scope.structs from.ty) words) (all_read_as (kinds_of c.scope.structs from.ty) words k))

  pub keeping_read_place : (place : Location) → IsPlace c.scope place → (indexes : List ℕ) → AreWords indexes → Keeping (Proper c) AreWords (read_place c place indexes)
  keeping_read_place (a_location ty root parts) is indexes h = keeping_read_reached (holder_of c root indexes) (place_of c (a_location ty root parts) indexes).reached (is_holder c slots ty root parts indexes h is)

  keeping_write_letters : (holder : Holder) (offset : ℕ) (letters words : List ℕ) → IsHolder c holder → AreWords words → Keeping (Proper c) AreWords (write_letters c holder offset letters words)
  keeping_write_letters holder offset [] words h k = keeping_write_words holder offset words h k
  keeping_write_letters holder offset (letter ∷ letters) words h k =
      keeping_no_value AllWords (each (λ w. write_words c holder (wrapping_add offset w.0) (w.1 ∷ [])) (zip (letter ∷ letters) words))
      (keeping_each (λ w. Any w.0 × Is32Bits w.1) AreWords (λ w. write_words c holder (wrapping_add offset w.0) (w.1 ∷ [])) (λ w are. keeping_write_words holder (wrapping_add offset w.0) (w.1 ∷ []) h (are.1, tt)) (zip (letter ∷ letters) words)
      (every_zip Any Is32Bits (letter ∷ letters) words (any (letter ∷ letters)) k))
    where
      any : (letters : List ℕ) → Every Any letters
      any [] = tt
      any (letter ∷ letters) = (tt, any letters)

  pub keeping_write_place : (place : Location) → IsPlace c.scope place → (indexes words : List ℕ) → AreWords indexes → AreWords words → Keeping (Proper c) AreWords (write_place c place indexes words)
  keeping_write_place (a_location ty root parts) is indexes words h k =
      let place = place_of c (a_location ty root parts) indexes in
      keeping_write_letters (holder_of c root indexes) place.reached.offset place.reached.letters words (is_holder c slots ty root parts indexes h is) k

  -- atomic operations

  shared_atomic_proper : (number offset : ℕ) (kind : Option AtomicKind) (compare word : ℕ) → Is32Bits offset → Is32Bits compare → Is32Bits word → offset < shared_size c number →
      Proper c (shared_atomic (cell number offset) kind compare word)
  shared_atomic_proper number offset None compare word o k w low = ((o, (k, (w, tt))), cell_there c number offset low)
  shared_atomic_proper number offset (Some kind) compare word o k w low = ((o, (w, tt)), cell_there c number offset low)

  buffer_atomic_proper : (slot : Slot) (index at : ℕ) (kind : Option AtomicKind) (compare word : ℕ) → Is32Bits index → Is32Bits at → Is32Bits compare → Is32Bits word → IsSlot c.slots slot →
      Proper c (buffer_atomic slot index at kind compare word)
  buffer_atomic_proper slot index at None compare word i a k w there = ((i, (a, (k, (w, tt)))), there)
  buffer_atomic_proper slot index at (Some kind) compare word i a k w there = ((i, (a, (w, tt))), there)

  pub keeping_atomic_word : (holder : Holder) (offset : ℕ) (kind : Option AtomicKind) (compare word : ℕ) → IsHolder c holder → Is32Bits offset → Is32Bits compare → Is32Bits word →
      Keeping (Proper c) Is32Bits (atomic_word c holder offset kind compare word)
  keeping_atomic_word (in_shared number) offset kind compare word h o k w =
      keeping_within_low Is32Bits offset (shared_size c number) (asks_word (shared_atomic (cell number offset) kind compare word))
      (λ low. keeping_asks_word (shared_atomic (cell number offset) kind compare word) (shared_atomic_proper number offset kind compare word o k w low))
  keeping_atomic_word (in_element slot index) offset kind compare word h o k w =
      keeping_asks_word (buffer_atomic slot index (byte_offset offset 0) kind compare word) (buffer_atomic_proper slot index (byte_offset offset 0) kind compare word h.0 (wrapped_is _) k w h.1)
  keeping_atomic_word (in_variable number) offset kind compare word h o k w = keeping_goes Is32Bits 0 zero_is
  keeping_atomic_word (in_constant number) offset kind compare word h o k w = keeping_goes Is32Bits 0 zero_is

  pub keeping_atomic_address : (slot : Slot) (address : ℕ) (kind : Option AtomicKind) (compare word : ℕ) → Is32Bits address → Is32Bits compare → Is32Bits word → IsSlot c.slots slot →
      Keeping (Proper c) Is32Bits (atomic_address slot address kind compare word)
  keeping_atomic_address slot address kind compare word i k w there = keeping_asks_word (buffer_atomic slot address 0 kind compare word) (buffer_atomic_proper slot address 0 kind compare word i zero_is k w there)
