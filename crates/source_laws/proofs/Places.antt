-- Places are read and written alike with further replies.
use Rattle.std.proofs.Common.{ℕ, List, [], ◌∷◌, length, Option}
use Rattle.std.specs.Prelude.{slice_get, slice_set, unwrap_or, zip}
use Rattle.lane_core.specs.declared.event.AtomicKind.{AtomicKind}
use Rattle.lane_core.specs.declared.event.Event.TheVariants.{SharedLoad, SharedStore}
use Rattle.lane_core.specs.declared.event.Reply.{Reply}
use Rattle.lane_core.specs.declared.event.Slot.{Slot}
use Rattle.lane_core.specs.Words.{wrapping_add}
use Rattle.hl_meaning.specs.Trees.{Location}
use Rattle.hl_source.specs.State.{Context, Progress, State, each, goes_with}
use Rattle.hl_source.specs.Offsets.{Holder, in_constant, in_element, in_shared, in_variable, place_of}
use Rattle.hl_source.specs.Memory.{atomic_word, byte_offset, cell, constant_words, load_four, load_words, pieces, read_place, read_words, shared_size, store_four, store_words, within, word_of, word_offsets, write_letters, write_place, write_variable_word, write_words}
use Rattle.source_laws.proofs.Continuing.{Continuing, continuing_asks, continuing_asks_word, continuing_each, continuing_goes, continuing_of_variables, continuing_sets, continuing_then, continuing_within, continuing_words_of}

module _ (more : List Reply) where
  -- buffers

  pub continuing_load_four : (slot : Slot) (index at : ℕ) → Continuing more (load_four slot index at) (load_four slot index at)
  continuing_load_four slot index at = continuing_then more _ _ _ (continuing_asks more _)

  pub continuing_store_four : (slot : Slot) (index at : ℕ) (words : List ℕ) → Continuing more (store_four slot index at words) (store_four slot index at words)
  continuing_store_four slot index at words = continuing_then more _ _ _ (continuing_asks more _)

  continuing_load_words : (slot : Slot) (index offset count : ℕ) → Continuing more (load_words slot index offset count) (load_words slot index offset count)
  continuing_load_words slot index offset count =
      continuing_then more _ _ _ (continuing_each more _ _ (λ piece. continuing_load_four slot index (byte_offset offset piece)) (pieces count))

  continuing_store_words : (slot : Slot) (index offset : ℕ) (words : List ℕ) → Continuing more (store_words slot index offset words) (store_words slot index offset words)
  continuing_store_words slot index offset words =
      continuing_then more _ _ _ (continuing_each more _ _ (λ piece. continuing_store_four slot index (byte_offset offset piece) _) (pieces (length words)))

  -- words

  continuing_read_words : (c : Context) (holder : Holder) (offset count : ℕ) → Continuing more (read_words c holder offset count) (read_words c holder offset count)
  continuing_read_words c (in_variable number) offset count =
      let part : List (List ℕ) → State → Progress (List ℕ) = λ variables. each (word_of (unwrap_or (slice_get variables number) [])) (word_offsets offset count) in
      continuing_of_variables more part part (λ variables. continuing_words_of more _ (word_offsets offset count))
  continuing_read_words c (in_constant number) offset count = continuing_words_of more (constant_words c number) (word_offsets offset count)
  continuing_read_words c (in_shared number) offset count =
      continuing_each more _ _ (λ word. continuing_within more word (shared_size c number) _ _ (continuing_asks_word more (SharedLoad (cell number word)))) (word_offsets offset count)
  continuing_read_words c (in_element slot index) offset count = continuing_load_words slot index offset count

  continuing_write_variable_word : (number offset word : ℕ) → Continuing more (write_variable_word number offset word) (write_variable_word number offset word)
  continuing_write_variable_word number offset word =
      let set : List (List ℕ) → List (List ℕ) = λ variables. slice_set variables number (slice_set (unwrap_or (slice_get variables number) []) offset word) in
      let part : List (List ℕ) → State → Progress (List ℕ) = λ variables. within offset (length (unwrap_or (slice_get variables number) [])) (λ s. goes_with [] (record s { variables = set s.variables })) in
      continuing_of_variables more part part (λ variables. continuing_within more offset _ _ _ (continuing_sets more [] set))

  continuing_write_words : (c : Context) (holder : Holder) (offset : ℕ) (words : List ℕ) → Continuing more (write_words c holder offset words) (write_words c holder offset words)
  continuing_write_words c (in_variable number) offset words =
      continuing_then more _ _ _ (continuing_each more _ _ (λ w. continuing_write_variable_word number w.0 w.1) (zip (word_offsets offset (length words)) words))
  continuing_write_words c (in_constant number) offset words = continuing_goes more []
  continuing_write_words c (in_shared number) offset words =
      continuing_then more _ _ _ (continuing_each more _ _ (λ w. continuing_within more w.0 (shared_size c number) _ _ (continuing_asks more (SharedStore (cell number w.0) w.1))) (zip (word_offsets offset (length words)) words))
  continuing_write_words c (in_element slot index) offset words = continuing_store_words slot index offset words

  -- places

  pub continuing_read_place : (c : Context) (place : Location) (indexes : List ℕ) → Continuing more (read_place c place indexes) (read_place c place indexes)
  continuing_read_place c place indexes =
      continuing_then more _ _ _ (continuing_read_words c (place_of c place indexes).holder (place_of c place indexes).reached.offset _)

  continuing_write_letters : (c : Context) (holder : Holder) (offset : ℕ) (letters words : List ℕ) → Continuing more (write_letters c holder offset letters words) (write_letters c holder offset letters words)
  continuing_write_letters c holder offset [] words = continuing_write_words c holder offset words
  continuing_write_letters c holder offset (letter ∷ letters) words =
      continuing_then more _ _ _ (continuing_each more _ _ (λ w. continuing_write_words c holder (wrapping_add offset w.0) (w.1 ∷ [])) (zip (letter ∷ letters) words))

  pub continuing_write_place : (c : Context) (place : Location) (indexes words : List ℕ) → Continuing more (write_place c place indexes words) (write_place c place indexes words)
  continuing_write_place c place indexes words =
      continuing_write_letters c (place_of c place indexes).holder (place_of c place indexes).reached.offset (place_of c place indexes).reached.letters words

  pub continuing_atomic_word : (c : Context) (holder : Holder) (offset : ℕ) (kind : Option AtomicKind) (compare word : ℕ) →
      Continuing more (atomic_word c holder offset kind compare word) (atomic_word c holder offset kind compare word)
  continuing_atomic_word c (in_shared number) offset kind compare word = continuing_within more offset (shared_size c number) _ _ (continuing_asks_word more _)
  continuing_atomic_word c (in_element slot index) offset kind compare word = continuing_asks_word more _
  continuing_atomic_word c holder offset kind compare word = continuing_goes more 0
