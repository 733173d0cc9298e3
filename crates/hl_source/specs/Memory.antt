-- How places are read and written, and which events that makes. Events of places, and that an access past the whole
-- variable is a fault, are this project's own.
use Rattle.std.specs.Prelude.{ℕ, ◌*◌, ◌++◌, nat_lt, if◌then◌else◌, List, [], ◌∷◌, map, length, take, drop, replicate, slice_get, slice_set, unwrap_or, ok_or, zip, Option, Some, None}
use Rattle.std.specs.Option.{option_map_or}
use Rattle.std.specs.Int.{div_ceil}
use Rattle.std.specs.List.{concat, range_with_len}
use Rattle.lane_core.specs.declared.event.AtomicKind.{AtomicKind}
use Rattle.lane_core.specs.declared.event.Cell.{Cell}
use Rattle.lane_core.specs.declared.event.Event.{Event}
use Rattle.lane_core.specs.declared.event.Event.TheVariants.{BufferAtomic, BufferCompareExchange, BufferLoad, BufferStore, SharedAtomic, SharedCompareExchange, SharedLoad, SharedStore}
use Rattle.lane_core.specs.declared.event.LaneFault.TheVariants.{OutOfBounds}
use Rattle.lane_core.specs.declared.event.Slot.{Slot}
use Rattle.hl_meaning.specs.Types.{Ty, void_type}
use Rattle.hl_meaning.specs.Trees.{Location}
use Rattle.hl_meaning.specs.Layout.{kinds_of, words_of}
use Rattle.hl_meaning.specs.Places.{variable_type}
use Rattle.lane_core.specs.Words.{wrapping_add, wrapping_mul}
use Rattle.hl_source.specs.Operations.{map_2, picked, word_as}
use Rattle.hl_source.specs.State.{Context, Progress, State, after, asks, asks_word, each, faults, gives, goes_with, no_value, variable_words, with_variable}
use Rattle.lane_core.specs.Replies.{reply_words}
use Rattle.hl_source.specs.Offsets.{Holder, Reached, in_constant, in_element, in_shared, in_variable, place_of}

-- the words of a constant, and how many a groupshared variable has; no well-formed program names one that isn't there

abbrev pub constant_words : Context → (number : ℕ) → List ℕ
constant_words c number = option_map_or (λ k. k.words) (slice_get c.scope.constants number) []

abbrev pub shared_size : Context → (number : ℕ) → ℕ
shared_size c number = words_of c.scope.structs (unwrap_or (variable_type c.scope.shared number) void_type)

-- zeros for all words of a type
abbrev pub zeros_of : Context → Ty → List ℕ
zeros_of c ty = replicate (words_of c.scope.structs ty) 0

-- The words of a place are those of its offset + 0, its offset + 1 and so on, each sum wrapped, in that order.
abbrev pub word_offsets : (offset count : ℕ) → List ℕ
word_offsets offset count = map (wrapping_add offset) (range_with_len 0 count)

-- A word of a variable or a constant is out of bounds exactly where its offset isn't below the words of the whole
-- variable, when it is reached. So an index past its own bound may lead to a neighbour.
abbrev pub within : {A : Type 0} → (offset words : ℕ) → (State → Progress A) → State → Progress A
within offset words go s = (if nat_lt offset words then go else faults OutOfBounds) s

-- the word of a variable or a constant at an offset
abbrev pub word_of : List ℕ → (offset : ℕ) → State → Progress ℕ
word_of words offset s = gives (ok_or (slice_get words offset) OutOfBounds) s

-- buffers

-- one load of four words at a byte offset of an element
abbrev pub load_four : Slot → (index byte_offset : ℕ) → State → Progress (List ℕ)
load_four slot index byte_offset s =
    after (asks (BufferLoad slot index byte_offset) s) (λ reply s'. goes_with (reply_words 4 reply) s')

-- one store of up to four words at a byte offset of an element; the places behind them are 0
abbrev pub store_four : Slot → (index byte_offset : ℕ) → List ℕ → State → Progress (List ℕ)
store_four slot index byte_offset words s =
    no_value (asks (BufferStore slot index byte_offset (length words) (take 4 (words ++ replicate 4 0))) s)

-- The pieces of so many words: one for every four words or part of four, with ascending offsets.
abbrev pub pieces : (count : ℕ) → List ℕ
pieces count = map (λ piece. 4 * piece) (range_with_len 0 (div_ceil count 4))

-- the byte offset of the word that stands so many words behind an offset
abbrev pub byte_offset : (offset words : ℕ) → ℕ
byte_offset offset words = wrapping_mul 4 (wrapping_add offset words)

-- Reading words of an element is one load a piece. Words past the place aren't used.
abbrev pub load_words : Slot → (index offset count : ℕ) → State → Progress (List ℕ)
load_words slot index offset count s =
    after (each (λ piece. load_four slot index (byte_offset offset piece)) (pieces count) s)
    (λ fours s'. goes_with (take count (concat fours)) s')

-- Writing words of an element is one store a piece.
abbrev pub store_words : Slot → (index offset : ℕ) → List ℕ → State → Progress (List ℕ)
store_words slot index offset words s =
    no_value (each (λ piece. store_four slot index (byte_offset offset piece) (take 4 (drop piece words))) (pieces (length words)) s)

-- words

-- a word of a groupshared variable, as events name it
abbrev pub cell : (variable word : ℕ) → Cell
cell variable word = record { variable = variable; word = word }

-- Reading a word of a groupshared variable is one event; reading one of another variable makes none.
abbrev pub read_words : Context → Holder → (offset count : ℕ) → State → Progress (List ℕ)
read_words c (in_variable number) offset count s = each (word_of (variable_words s number)) (word_offsets offset count) s
read_words c (in_constant number) offset count s = each (word_of (constant_words c number)) (word_offsets offset count) s
read_words c (in_shared number) offset count s =
    each (λ word. within word (shared_size c number) (asks_word (SharedLoad (cell number word)))) (word_offsets offset count) s
read_words c (in_element slot index) offset count s = load_words slot index offset count s

-- a word of a variable that isn't groupshared is written
abbrev pub write_variable_word : (number offset word : ℕ) → State → Progress (List ℕ)
write_variable_word number offset word s =
    within offset (length (variable_words s number)) (λ s'. goes_with [] (with_variable number (slice_set (variable_words s' number) offset word) s')) s

-- Writing a word of a groupshared variable is one event; writing one of another variable makes none. Nothing is written
-- to a constant: no well-formed program does it.
abbrev pub write_words : Context → Holder → (offset : ℕ) → List ℕ → State → Progress (List ℕ)
write_words c (in_variable number) offset words s =
    no_value (each (λ w. write_variable_word number w.0 w.1) (zip (word_offsets offset (length words)) words) s)
write_words c (in_constant number) offset words s = goes_with [] s
write_words c (in_shared number) offset words s =
    no_value (each (λ w. within w.0 (shared_size c number) (asks (SharedStore (cell number w.0) w.1))) (zip (word_offsets offset (length words)) words) s)
write_words c (in_element slot index) offset words s = store_words slot index offset words s

-- places

-- Words are read as values of their kinds. A swizzle of more than one letter reads the whole vector and then picks.
abbrev pub read_reached : Context → Holder → Reached → State → Progress (List ℕ)
read_reached c holder from s =
    after (read_words c holder from.offset (words_of c.scope.structs from.ty) s)
    (λ words s'. goes_with (picked from.letters (map_2 word_as (kinds_of c.scope.structs from.ty) words)) s')

-- A swizzle of more than one letter writes its components one by one, in the order of the letters.
abbrev pub write_letters : Context → Holder → (offset : ℕ) → (letters : List ℕ) → List ℕ → State → Progress (List ℕ)
write_letters c holder offset [] words s = write_words c holder offset words s
write_letters c holder offset letters words s =
    no_value (each (λ w. write_words c holder (wrapping_add offset w.0) (w.1 ∷ [])) (zip letters words) s)

-- the value of a place, with the words of its indexes
abbrev pub read_place : Context → Location → (indexes : List ℕ) → State → Progress (List ℕ)
read_place c location indexes s =
    let place = place_of c location indexes in read_reached c place.holder place.reached s

-- a value written to a place
abbrev pub write_place : Context → Location → (indexes : List ℕ) → List ℕ → State → Progress (List ℕ)
write_place c location indexes words s =
    let place = place_of c location indexes in write_letters c place.holder place.reached.offset place.reached.letters words s

-- atomic operations (HLSL, "Intrinsic Functions"), each one event, whose reply is the word that was there before

-- on a word of a groupshared variable: an operation of a kind, or else a compare exchange
abbrev pub shared_atomic : Cell → Option AtomicKind → (compare word : ℕ) → Event
shared_atomic target (Some kind) compare word = SharedAtomic target kind word
shared_atomic target None compare word = SharedCompareExchange target compare word

-- the same on a word of a buffer
abbrev pub buffer_atomic : Slot → (index byte_offset : ℕ) → Option AtomicKind → (compare word : ℕ) → Event
buffer_atomic slot index offset (Some kind) compare word = BufferAtomic slot index offset kind word
buffer_atomic slot index offset None compare word = BufferCompareExchange slot index offset compare word

-- An atomic operation works on groupshared variables and elements of buffers. No well-formed program has another
-- target.
abbrev pub atomic_word : Context → Holder → (offset : ℕ) → Option AtomicKind → (compare word : ℕ) → State → Progress ℕ
atomic_word c (in_shared number) offset kind compare word s =
    within offset (shared_size c number) (asks_word (shared_atomic (cell number offset) kind compare word)) s
atomic_word c (in_element slot index) offset kind compare word s =
    asks_word (buffer_atomic slot index (byte_offset offset 0) kind compare word) s
atomic_word c _ offset kind compare word s = goes_with 0 s

-- an atomic operation on the word at a byte address, which is an index with the offset 0
abbrev pub atomic_address : Slot → (address : ℕ) → Option AtomicKind → (compare word : ℕ) → State → Progress ℕ
atomic_address slot address kind compare word s = asks_word (buffer_atomic slot address 0 kind compare word) s
