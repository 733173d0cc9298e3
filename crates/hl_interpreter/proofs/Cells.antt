-- Words that are there or not, and words of variables that are written.
use Rattle.std.proofs.Common.{◌≡◌, ◌∙◌, refl, sym, ap, subst, ℕ, zero, suc, ◌<◌, ◌≤◌, ◌==◌, true, false, if◌then◌else◌, List, [], ◌∷◌, get_or, length, slice_set, Err, arith}
use Rattle.std.proofs.lemmas.Bool.{eqb-true, false≢true, le-ltb, lt-ltb}
use Rattle.std.specs.List.{zip}
use Rattle.lane_core.specs.Words.{wrapping_add}
use Rattle.hl_source.specs.Offsets.{Holder}
use Rattle.std.proofs.lemmas.List.{get_or-set_same, length-set, set-get_or, set-set}
use Rattle.std.proofs.lemmas.Option.{unwrap_or-slice_get}
use Rattle.lane_core.specs.declared.event.LaneFault.TheVariants.{OutOfBounds}
use Rattle.hl_source.specs.Memory.{within, word_offsets, write_letters, write_variable_word, write_words}
use Rattle.hl_source.specs.State.{Context, Progress, State, each, ends_at, faults, first_then, goes_with, no_value, variable_words, with_variable}
use Rattle.lane_core.specs.declared.event.Event.{Event}
use Rattle.lane_core.specs.declared.event.Reply.{Reply}
use Rattle.lane_core.specs.Lane.{standing}
use Rattle.hl_interpreter.specs.declared.run.Stop.{Stop}
use Rattle.hl_interpreter.specs.declared.run.Stop.TheVariants.{Ends, Memory}
use Rattle.hl_interpreter.specs.Runs.{Meets}
use Rattle.hl_interpreter.proofs.Asking.{between}

pub within-in : {A : Type 0} (offset words : ℕ) (go : State → Progress A) (s : State) → offset < words → within offset words go s ≡ go s
within-in offset words go s there = ap (λ b. (if b then go else faults OutOfBounds) s) (lt-ltb offset words there)

pub within-out : {A : Type 0} (offset words : ℕ) (go : State → Progress A) (s : State) → words ≤ offset → within offset words go s ≡ faults OutOfBounds s
within-out offset words go s past = ap (λ b. (if b then go else faults OutOfBounds) s) (le-ltb offset words past)

-- ---- variables

-- what is written is there
pub variable-written : (number : ℕ) (words : List ℕ) (s : State) → number < length s.variables → variable_words (with_variable number words s) number ≡ words
variable-written number words s there =
    unwrap_or-slice_get (slice_set s.variables number words) number [] ∙ get_or-set_same s.variables number words [] there

-- and alone counts
pub variable-twice : (number : ℕ) (first second : List ℕ) (s : State) → with_variable number second (with_variable number first s) ≡ with_variable number second s
variable-twice number first second s = ap (λ l. record s { variables = l }) (set-set s.variables number first second)

-- what is there is written
pub variable-same : (number : ℕ) (words : List ℕ) (s : State) → variable_words s number ≡ words → with_variable number words s ≡ s
variable-same number words s is =
    ap (λ l. record s { variables = l }) (ap (slice_set s.variables number) (sym is ∙ unwrap_or-slice_get s.variables number []) ∙ set-get_or s.variables number [])

pub variables-kept : (number other : ℕ) (words : List ℕ) (s : State) → other < length s.variables → other < length (with_variable number words s).variables
variables-kept number other words s there = omega (arith, length-set s.variables number words)

-- a word of a variable
pub word-written : (number at word : ℕ) (words more : List ℕ) (s : State) → variable_words s number ≡ words → at < length words → more ≡ slice_set words at word
    → no_value (write_variable_word number at word s) ≡ goes_with [] (with_variable number more s)
word-written number at word words more s is there written =
    ap no_value (within-in at (length (variable_words s number)) (λ s'. goes_with [] (with_variable number (slice_set (variable_words s' number) at word) s')) s (subst (λ l. at < length l) (sym is) there)) ∙
    ap (λ l. goes_with [] (with_variable number l s)) (ap (λ l. slice_set l at word) is ∙ sym written)

pub word-past : (number at word : ℕ) (words : List ℕ) (s : State) → variable_words s number ≡ words → length words ≤ at → no_value (write_variable_word number at word s) ≡ faults OutOfBounds s
word-past number at word words s is past =
    ap no_value (within-out at (length (variable_words s number)) (λ s'. goes_with [] (with_variable number (slice_set (variable_words s' number) at word) s')) s (subst (λ l. length l ≤ at) (sym is) past))

-- a variable that isn't there has none
pub variable-absent : (number : ℕ) (s : State) → length s.variables ≤ number → variable_words s number ≡ []
variable-absent number s past = unwrap_or-slice_get s.variables number [] ∙ past-end s.variables number past
  where
    past-end : (l : List (List ℕ)) (n : ℕ) → length l ≤ n → get_or l n [] ≡ []
    past-end [] n h = refl
    past-end (x ∷ l) zero h = absurd (omega arith)
    past-end (x ∷ l) (suc n) h = past-end l n (omega arith)

-- ---- letters

pub letters-none : (c : Context) (holder : Holder) (offset : ℕ) (letters words : List ℕ) (s : State) → true ≡ (length letters == 0) → write_letters c holder offset letters words s ≡ write_words c holder offset words s
letters-none c holder offset [] words s none = refl
letters-none c holder offset (letter ∷ letters) words s none =
    let no : length (letter ∷ letters) ≡ 0 = eqb-true (length (letter ∷ letters)) 0 (sym none) in
    absurd (omega arith)

pub letters-some : (c : Context) (holder : Holder) (offset : ℕ) (letters words : List ℕ) (s : State) → false ≡ (length letters == 0)
    → write_letters c holder offset letters words s ≡ no_value (each (λ w. write_words c holder (wrapping_add offset w.0) (w.1 ∷ [])) (zip letters words) s)
letters-some c holder offset [] words s some = absurd (false≢true some)
letters-some c holder offset (letter ∷ letters) words s some = refl

-- ---- a variable that isn't there

pub none-written : (number offset : ℕ) (words : List ℕ) (s : State) → true ≡ (length words == 0)
    → no_value (each (λ w. write_variable_word number w.0 w.1) (zip (word_offsets offset (length words)) words) s) ≡ goes_with [] s
none-written number offset [] s none = refl
none-written number offset (word ∷ words) s none =
    let no : length (word ∷ words) ≡ 0 = eqb-true (length (word ∷ words)) 0 (sym none) in
    absurd (omega arith)

pub nothing-written : (number offset : ℕ) (words : List ℕ) (s : State) → false ≡ (length words == 0) → length s.variables ≤ number
    → no_value (each (λ w. write_variable_word number w.0 w.1) (zip (word_offsets offset (length words)) words) s) ≡ faults OutOfBounds s
nothing-written number offset [] s some past = absurd (false≢true some)
nothing-written number offset (word ∷ words) s some past =
    first-faults (write_variable_word number (wrapping_add offset 0) word s) _ s
    (within-out (wrapping_add offset 0) (length (variable_words s number)) (λ s'. goes_with [] (with_variable number (slice_set (variable_words s' number) (wrapping_add offset 0) word) s')) s
    (subst (λ l. length l ≤ wrapping_add offset 0) (sym (variable-absent number s past)) (omega arith)))
  where
    first-faults : (p : Progress (List ℕ)) (rest : State → Progress (List (List ℕ))) (s : State) → p ≡ faults OutOfBounds s → no_value (first_then p rest) ≡ faults OutOfBounds s
    first-faults p rest s is = ap (λ q. no_value (first_then q rest)) is

-- what a call says that ends the run hangs on the exchange alone
pub same-exchange : {A C : Type 0} (view : A → C) (e : Stop) (s t : State) (p : Progress C) → s.exchange ≡ t.exchange → Meets view (Err e) s p → Meets view (Err e) t p
same-exchange view Memory s t p is h = tt
same-exchange view (Ends outcome) s t p is h = h ∙ ap (λ x. ends_at (standing x outcome)) is

-- ---- a variable whose words were taken out

pub exchange-kept : (replies : List Reply) (variables : List (List ℕ)) (events more : List Event) → more ≡ events → (between replies variables events).exchange ≡ (between replies variables more).exchange
exchange-kept replies variables events more is = ap (λ l. (between replies variables l).exchange) (sym is)

pub put-back : (replies : List Reply) (number : ℕ) (before taken : List (List ℕ)) (events more : List Event) (words put : List ℕ) → taken ≡ slice_set before number [] → more ≡ events → put ≡ words
    → with_variable number words (between replies before events) ≡ between replies (slice_set taken number put) more
put-back replies number before taken events more words put out is same =
    ap (λ l. between replies l events) (sym (ap (λ l. slice_set l number put) out ∙ (set-set before number [] put ∙ ap (slice_set before number) same))) ∙
    ap (λ l. between replies (slice_set taken number put) l) (sym is)
