-- Parts of a run, and what they become with further replies and no fewer turns.
use Rattle.std.proofs.Common.{◌≡◌, refl, sym, subst, ℕ, Bool, true, false, List, [], ◌∷◌, ◌++◌, Result, Ok, Err}
use Rattle.std.specs.Option.{ok_or}
use Rattle.std.specs.Prelude.{if◌then◌else◌, nat_lt, slice_get}
use Rattle.lane_core.specs.declared.event.Asked.TheVariants.{Goes}
use Rattle.lane_core.specs.declared.event.Event.{Event}
use Rattle.lane_core.specs.declared.event.LaneFault.{LaneFault}
use Rattle.lane_core.specs.declared.event.LaneFault.TheVariants.{OutOfBounds}
use Rattle.lane_core.specs.declared.event.Reply.{Reply}
use Rattle.lane_core.specs.Lane.{Exchange, Run, standing}
use Rattle.lane_core.specs.SameLane.{IsPrefix}
use Rattle.lane_core.proofs.Follows.{prefix_refl, prefix_trans}
use Rattle.hl_source.specs.State.{Progress, State, after, alone, asks, asks_word, each, ends_at, faults, first_then, gives, goes_with, joined, out_of_turns}
use Rattle.lane_core.specs.Replies.{reply_word}
use Rattle.hl_source.specs.Memory.{within, word_of}
use Rattle.source_laws.specs.Laws.{Extends}
use Rattle.source_laws.proofs.Extending.{extends_on}

-- the same with further replies behind those that are left
abbrev pub exchange_with : (more : List Reply) → Exchange → Exchange
exchange_with more x = record x { replies = x.replies ++ more }

abbrev pub state_with : (more : List Reply) → State → State
state_with more s = record s { exchange = exchange_with more s.exchange }

-- the run so far, which goes on where the part does
abbrev pub run_so_far : {A : Type 0} → Progress A → Run
run_so_far (goes_with a s) = standing s.exchange Goes
run_so_far (ends_at run) = run

-- a part that goes on goes on with the same, and a run that ends in it is extended
abbrev pub Continues : {A : Type 0} → (more : List Reply) → (part other : Progress A) → Type 0
Continues more (goes_with a s) other = other ≡ goes_with a (state_with more s)
Continues more (ends_at run) other = Extends more run (run_so_far other)

-- what was asked stays asked
abbrev pub Grows : {A : Type 0} → (State → Progress A) → Type 0
Grows part = (s : State) → IsPrefix s.exchange.asked (run_so_far (part s)).events

-- a part, and what it becomes with further replies and no fewer turns
pub record Continuing {A : Type 0} (more : List Reply) (part other : State → Progress A) : Type 0 where
  pub continues : (s : State) → Continues more (part s) (other (state_with more s))
  pub grows : Grows other

pub grows_on : {A B : Type 0} (part : Progress A) (next : A → State → Progress B) (events : List Event) → IsPrefix events (run_so_far part).events → ((a : A) → Grows (next a)) →
    IsPrefix events (run_so_far (after part next)).events
grows_on (goes_with a s) next events front grows = prefix_trans events s.exchange.asked (run_so_far (next a s)).events front (grows a s)
grows_on (ends_at run) next events front grows = front

-- An event without a reply takes the first further one.
asks_continues : (more : List Reply) (event : Event) (variables : List (List ℕ)) (asked : List Event) (replies : List Reply) →
    Continues more (asks event (record { variables = variables; exchange = record { asked = asked; replies = replies } }))
    (asks event (record { variables = variables; exchange = record { asked = asked; replies = replies ++ more } }))
asks_continues more event variables asked (reply ∷ replies) = refl
asks_continues [] event variables asked [] = refl
asks_continues (further ∷ more) event variables asked [] = prefix_refl (asked ++ event ∷ [])

asks_grows : (event : Event) (variables : List (List ℕ)) (asked : List Event) (replies : List Reply) →
    IsPrefix asked (run_so_far (asks event (record { variables = variables; exchange = record { asked = asked; replies = replies } }))).events
asks_grows event variables asked [] = prefix_refl asked
asks_grows event variables asked (reply ∷ replies) = (event ∷ [], refl)

module _ (more : List Reply) where
  continues_on : {A B : Type 0} (part other : Progress A) (next later : A → State → Progress B) → Continues more part other → ((a : A) → Continuing more (next a) (later a)) →
      Continues more (after part next) (after other later)
  continues_on (goes_with a s) other next later e h = subst (λ x. Continues more (next a s) (after x later)) (sym e) ((h a).continues s)
  continues_on (ends_at run) (ends_at further) next later e h = e
  continues_on (ends_at run) (goes_with a s) next later e h = extends_on more run (run_so_far (later a s)) s.exchange.asked e ((h a).grows s)

  pub continuing_after : {A B : Type 0} (part other : State → Progress A) (next later : A → State → Progress B) → Continuing more part other →
      ((a : A) → Continuing more (next a) (later a)) → Continuing more (λ s. after (part s) next) (λ s. after (other s) later)
  continuing_after part other next later h k = record {
    continues = λ s. continues_on (part s) (other (state_with more s)) next later (h.continues s) k;
    grows = λ s. grows_on (other s) later s.exchange.asked (h.grows s) (λ a. (k a).grows);
  }

  pub continuing_goes : {A : Type 0} (a : A) → Continuing more (λ s. goes_with a s) (λ s. goes_with a s)
  continuing_goes a = record { continues = λ s. refl; grows = λ s. prefix_refl s.exchange.asked }

  pub continuing_sets : {A : Type 0} (a : A) (set : List (List ℕ) → List (List ℕ)) →
      Continuing more (λ s. goes_with a (record s { variables = set s.variables })) (λ s. goes_with a (record s { variables = set s.variables }))
  continuing_sets a set = record { continues = λ s. refl; grows = λ s. prefix_refl s.exchange.asked }

  -- what a part gives is changed
  pub continuing_then : {A B : Type 0} (part other : State → Progress A) (f : A → B) → Continuing more part other →
      Continuing more (λ s. after (part s) (λ a s'. goes_with (f a) s')) (λ s. after (other s) (λ a s'. goes_with (f a) s'))
  continuing_then part other f h = continuing_after part other _ _ h (λ a. continuing_goes (f a))

  pub continuing_alone : {A : Type 0} (part other : State → Progress A) → Continuing more part other → Continuing more (λ s. alone (part s)) (λ s. alone (other s))
  continuing_alone part other h = continuing_then part other (λ a. a ∷ []) h

  pub continuing_first_then : {A : Type 0} (part other : State → Progress A) (rest later : State → Progress (List A)) → Continuing more part other → Continuing more rest later →
      Continuing more (λ s. first_then (part s) rest) (λ s. first_then (other s) later)
  continuing_first_then part other rest later h k = continuing_after part other _ _ h (λ a. continuing_then rest later _ k)

  pub continuing_joined : {A : Type 0} (part other rest later : State → Progress (List A)) → Continuing more part other → Continuing more rest later →
      Continuing more (λ s. joined (part s) rest) (λ s. joined (other s) later)
  continuing_joined part other rest later h k = continuing_after part other _ _ h (λ some. continuing_then rest later _ k)

  pub continuing_each : {A B : Type 0} (part other : A → State → Progress B) → ((a : A) → Continuing more (part a) (other a)) → (xs : List A) → Continuing more (each part xs) (each other xs)
  continuing_each part other h [] = continuing_goes []
  continuing_each part other h (x ∷ xs) = continuing_first_then (part x) (other x) (each part xs) (each other xs) (h x) (continuing_each part other h xs)

  -- a part that looks at the variables
  pub continuing_of_variables : {A : Type 0} (part other : List (List ℕ) → State → Progress A) → ((variables : List (List ℕ)) → Continuing more (part variables) (other variables)) →
      Continuing more (λ s. part s.variables s) (λ s. other s.variables s)
  continuing_of_variables part other h = record { continues = λ s. (h s.variables).continues s; grows = λ s. (h s.variables).grows s }

  pub continuing_faults : {A : Type 0} (fault : LaneFault) → Continuing {A = A} more (faults fault) (faults fault)
  continuing_faults fault = record { continues = λ s. refl; grows = λ s. prefix_refl s.exchange.asked }

  pub continuing_gives : {A : Type 0} (r : Result A LaneFault) → Continuing more (gives r) (gives r)
  continuing_gives (Ok a) = continuing_goes a
  continuing_gives (Err fault) = continuing_faults fault

  -- without turns a run goes on with whatever is asked with more of them
  pub continuing_out_of_turns : {A : Type 0} (other : State → Progress A) → Grows other → Continuing more out_of_turns other
  continuing_out_of_turns other grows = record { continues = λ s. grows (state_with more s); grows = grows }

  pub continuing_asks : (event : Event) → Continuing more (asks event) (asks event)
  continuing_asks event = record {
    continues = λ s. asks_continues more event s.variables s.exchange.asked s.exchange.replies;
    grows = λ s. asks_grows event s.variables s.exchange.asked s.exchange.replies;
  }

  pub continuing_asks_word : (event : Event) → Continuing more (asks_word event) (asks_word event)
  continuing_asks_word event = continuing_then (asks event) (asks event) (λ reply. reply_word reply 0) (continuing_asks event)

  pub continuing_within : {A : Type 0} (offset words : ℕ) (part other : State → Progress A) → Continuing more part other → Continuing more (within offset words part) (within offset words other)
  continuing_within offset words part other h = by_test (nat_lt offset words)
    where
      by_test : (b : Bool) → Continuing more (if b then part else faults OutOfBounds) (if b then other else faults OutOfBounds)
      by_test true = h
      by_test false = continuing_faults OutOfBounds

  pub continuing_words_of : (words offsets : List ℕ) → Continuing more (each (word_of words) offsets) (each (word_of words) offsets)
  continuing_words_of words offsets = continuing_each (word_of words) (word_of words) (λ offset. continuing_gives (ok_or (slice_get words offset) OutOfBounds)) offsets
