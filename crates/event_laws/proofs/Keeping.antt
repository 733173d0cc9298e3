-- Parts of a run that keep to words: from variables and events of words of 32 bits they come to such ones.
use Rattle.std.proofs.Common.{◌≡◌, refl, ◌<◌, ℕ, zero, suc, Bool, true, false, List, [], ◌∷◌, ◌++◌, Result, Ok, Err}
use Rattle.std.specs.Option.{ok_or}
use Rattle.std.specs.Prelude.{if◌then◌else◌, nat_lt, slice_get}
use Rattle.std.proofs.lemmas.Bool.{ltb-true}
use Rattle.lane_core.specs.declared.event.Event.{Event}
use Rattle.lane_core.specs.declared.event.LaneFault.{LaneFault}
use Rattle.lane_core.specs.declared.event.LaneFault.TheVariants.{OutOfBounds}
use Rattle.lane_core.specs.declared.event.Reply.{Reply}
use Rattle.lane_core.specs.Replies.{reply_word}
use Rattle.hl_source.specs.State.{Progress, State, after, alone, asks, asks_word, each, ends_at, faults, first_then, gives, goes_with, joined, no_value, out_of_turns}
use Rattle.hl_source.specs.Memory.{within, word_of}
use Rattle.typed_laws.specs.Fitting.{Yields}
use Rattle.event_laws.specs.Laws.{Every, HoldsOfRun, Is32Bits}
use Rattle.event_laws.proofs.Lists.{AllWords, AreWords, every_append}
use Rattle.event_laws.proofs.WordLemmas.{wrapped_is}
use Rattle.event_laws.proofs.Operators.{OkHolds}

-- a state of words: those of the variables, and those in the events so far
abbrev pub Sound : (Event → Type 0) → State → Type 0
Sound E s = AllWords s.variables × Every E s.exchange.asked

abbrev pub Keeps : {A : Type 0} → (Event → Type 0) → (A → Type 0) → Progress A → Type 0
Keeps E P (goes_with a s) = P a × Sound E s
Keeps E P (ends_at run) = HoldsOfRun E run

-- a part that comes from such a state to such a one, and to something of which P holds
pub record Keeping {A : Type 0} (E : Event → Type 0) (P : A → Type 0) (part : State → Progress A) : Type 0 where
  pub keeps : (s : State) → Sound E s → Keeps E P (part s)

-- something of which nothing is said
abbrev pub Any : {A : Type 0} → A → Type 0
Any a = Unit {0}

pub keeps_after : {E : Event → Type 0} {A B : Type 0} (P : A → Type 0) (Q : B → Type 0) (part : Progress A) (next : A → State → Progress B) → Keeps E P part → ((a : A) → P a → Keeping E Q (next a)) → Keeps E Q (after part next)
keeps_after P Q (goes_with a s) next h k = (k a h.0).keeps s h.1
keeps_after P Q (ends_at run) next h k = h

pub keeping_after : {E : Event → Type 0} {A B : Type 0} (P : A → Type 0) (Q : B → Type 0) (part : State → Progress A) (next : A → State → Progress B) → Keeping E P part → ((a : A) → P a → Keeping E Q (next a)) →
    Keeping E Q (λ s. after (part s) next)
keeping_after P Q part next h k = record { keeps = λ s sound. keeps_after P Q (part s) next (h.keeps s sound) k }

pub keeping_goes : {E : Event → Type 0} {A : Type 0} (P : A → Type 0) (a : A) → P a → Keeping E P (λ s. goes_with a s)
keeping_goes P a h = record { keeps = λ s sound. (h, sound) }

pub keeping_sets : {E : Event → Type 0} {A : Type 0} (P : A → Type 0) (a : A) → P a → (set : List (List ℕ) → List (List ℕ)) → ((variables : List (List ℕ)) → AllWords variables → AllWords (set variables)) →
    Keeping E P (λ s. goes_with a (record s { variables = set s.variables }))
keeping_sets P a h set k = record { keeps = λ s sound. (h, (k s.variables sound.0, sound.1)) }

-- what a part gives is changed
pub keeping_then : {E : Event → Type 0} {A B : Type 0} (P : A → Type 0) (Q : B → Type 0) (part : State → Progress A) (f : A → B) → Keeping E P part → ((a : A) → P a → Q (f a)) → Keeping E Q (λ s. after (part s) (λ a s'. goes_with (f a) s'))
keeping_then P Q part f h k = keeping_after P Q part _ h (λ a p. keeping_goes Q (f a) (k a p))

pub keeping_no_value : {E : Event → Type 0} {A : Type 0} (P : A → Type 0) (part : State → Progress A) → Keeping E P part → Keeping E AreWords (λ s. no_value (part s))
keeping_no_value P part h = keeping_then P AreWords part (λ _. []) h (λ a p. tt)

pub keeping_alone : {E : Event → Type 0} {A : Type 0} (P : A → Type 0) (part : State → Progress A) → Keeping E P part → Keeping E (Every P) (λ s. alone (part s))
keeping_alone P part h = keeping_then P (Every P) part (λ a. a ∷ []) h (λ a p. (p, tt))

pub keeping_first_then : {E : Event → Type 0} {A : Type 0} (P : A → Type 0) (part : State → Progress A) (rest : State → Progress (List A)) → Keeping E P part → Keeping E (Every P) rest → Keeping E (Every P) (λ s. first_then (part s) rest)
keeping_first_then P part rest h k = keeping_after P (Every P) part _ h (λ a p. keeping_then (Every P) (Every P) rest (λ more. a ∷ more) k (λ more q. (p, q)))

pub keeping_joined : {E : Event → Type 0} {A : Type 0} (P : A → Type 0) (part rest : State → Progress (List A)) → Keeping E (Every P) part → Keeping E (Every P) rest → Keeping E (Every P) (λ s. joined (part s) rest)
keeping_joined P part rest h k =
    keeping_after (Every P) (Every P) part _ h (λ some p. keeping_then (Every P) (Every P) rest (λ more. some ++ more) k (λ more q. every_append P some more p q))

pub keeping_each : {E : Event → Type 0} {A B : Type 0} (P : A → Type 0) (Q : B → Type 0) (part : A → State → Progress B) → ((a : A) → P a → Keeping E Q (part a)) → (xs : List A) → Every P xs → Keeping E (Every Q) (each part xs)
keeping_each P Q part h [] p = keeping_goes (Every Q) [] tt
keeping_each P Q part h (x ∷ xs) p = keeping_first_then Q (part x) (each part xs) (h x p.0) (keeping_each P Q part h xs p.1)

pub keeping_each_any : {E : Event → Type 0} {A B : Type 0} (Q : B → Type 0) (part : A → State → Progress B) → ((a : A) → Keeping E Q (part a)) → (xs : List A) → Keeping E (Every Q) (each part xs)
keeping_each_any Q part h [] = keeping_goes (Every Q) [] tt
keeping_each_any Q part h (x ∷ xs) = keeping_first_then Q (part x) (each part xs) (h x) (keeping_each_any Q part h xs)

-- a part that looks at the variables
pub keeping_of_variables : {E : Event → Type 0} {A : Type 0} (P : A → Type 0) (part : List (List ℕ) → State → Progress A) → ((variables : List (List ℕ)) → AllWords variables → Keeping E P (part variables)) → Keeping E P (λ s. part s.variables s)
keeping_of_variables P part h = record { keeps = λ s sound. (h s.variables sound.0).keeps s sound }

pub keeping_faults : {E : Event → Type 0} {A : Type 0} (P : A → Type 0) (fault : LaneFault) → Keeping E P (faults fault)
keeping_faults P fault = record { keeps = λ s sound. (sound.1, tt) }

pub keeping_out_of_turns : {E : Event → Type 0} {A : Type 0} (P : A → Type 0) → Keeping E P out_of_turns
keeping_out_of_turns P = record { keeps = λ s sound. (sound.1, tt) }

pub keeping_gives : {E : Event → Type 0} {A : Type 0} (P : A → Type 0) (r : Result A LaneFault) → OkHolds P r → Keeping E P (gives r)
keeping_gives P (Ok a) h = keeping_goes P a h
keeping_gives P (Err fault) h = keeping_faults P fault

asks_keeps : (E : Event → Type 0) (event : Event) → E event → (variables : List (List ℕ)) (asked : List Event) (replies : List Reply) → AllWords variables → Every E asked →
    Keeps E Any (asks event (record { variables = variables; exchange = record { asked = asked; replies = replies } }))
asks_keeps E event h variables asked [] words events = (events, h)
asks_keeps E event h variables asked (reply ∷ replies) words events = (tt, (words, every_append E asked (event ∷ []) events (h, tt)))

pub keeping_asks : {E : Event → Type 0} (event : Event) → E event → Keeping E Any (asks event)
keeping_asks event h = record { keeps = λ s sound. asks_keeps _ event h s.variables s.exchange.asked s.exchange.replies sound.0 sound.1 }

pub keeping_asks_word : {E : Event → Type 0} (event : Event) → E event → Keeping E Is32Bits (asks_word event)
keeping_asks_word event h = keeping_then Any Is32Bits (asks event) (λ reply. reply_word reply 0) (keeping_asks event h) (λ reply _. wrapped_is _)

pub keeping_within : {E : Event → Type 0} {A : Type 0} (P : A → Type 0) (offset words : ℕ) (part : State → Progress A) → Keeping E P part → Keeping E P (within offset words part)
keeping_within {E} P offset words part h = by_test (nat_lt offset words)
  where
    by_test : (b : Bool) → Keeping E P (if b then part else faults OutOfBounds)
    by_test true = h
    by_test false = keeping_faults P OutOfBounds

-- the part runs only where the offset is low
pub keeping_within_low : {E : Event → Type 0} {A : Type 0} (P : A → Type 0) (offset words : ℕ) (part : State → Progress A) → (offset < words → Keeping E P part) → Keeping E P (within offset words part)
keeping_within_low {E} P offset words part h = by_test (nat_lt offset words) refl
  where
    by_test : (b : Bool) → nat_lt offset words ≡ b → Keeping E P (if b then part else faults OutOfBounds)
    by_test true e = h (ltb-true offset words e)
    by_test false e = keeping_faults P OutOfBounds

pub keeping_words_of : {E : Event → Type 0} (words offsets : List ℕ) → AreWords words → Keeping E AreWords (each (word_of words) offsets)
keeping_words_of words offsets h = keeping_each_any Is32Bits (word_of words) (λ offset. keeping_gives Is32Bits (ok_or (slice_get words offset) OutOfBounds) (got words offset h)) offsets
  where
    got : (words : List ℕ) (offset : ℕ) → AreWords words → OkHolds Is32Bits (ok_or (slice_get words offset) OutOfBounds)
    got [] offset h = tt
    got (word ∷ words) zero h = h.0
    got (word ∷ words) (suc offset) h = got words offset h.1

-- what is known of what a part gives
keeps_with : (E : Event → Type 0) {A : Type 0} (P Q : A → Type 0) (part : Progress A) → Keeps E P part → Yields Q part → Keeps E (λ a. P a × Q a) part
keeps_with E P Q (goes_with a s) h y = ((h.0, y), h.1)
keeps_with E P Q (ends_at run) h y = h

pub keeping_with : {E : Event → Type 0} {A : Type 0} (P Q : A → Type 0) (part : State → Progress A) → Keeping E P part → ((s : State) → Yields Q (part s)) → Keeping E (λ a. P a × Q a) part
keeping_with P Q part h y = record { keeps = λ s sound. keeps_with _ P Q (part s) (h.keeps s sound) (y s) }
