-- Lines of lists, one part on.
use Rattle.std.proofs.Common.{◌≡◌, ◌∙◌, sym, ap, ℕ, ◌+◌, ◌<◌, List, ◌++◌, drop, length, get_or, append_assoc, flat_map}
use Rattle.std.specs.Prelude.{codes, decimal}
use Rattle.std.proofs.lemmas.List.{at_drop_more}
use Rattle.lane_core.specs.declared.event.Event.{Event}
use Rattle.trace_driver.specs.Lines.{event_line, numbers}

-- the next of the numbers
pub numbers_more : (text new : List ℕ) (words : List ℕ) (i word : ℕ) (all : List ℕ) → i < length words → word ≡ get_or words i word → new ≡ text ++ (codes " " ++ decimal word)
    → text ++ numbers (drop i words) ≡ all → new ++ numbers (drop (i + 1) words) ≡ all
numbers_more text new words i word all within is more whole =
    ap (λ (t : List ℕ). t ++ numbers (drop (i + 1) words)) more
    ∙ (append_assoc text (codes " " ++ decimal word) (numbers (drop (i + 1) words))
    ∙ (ap (λ (t : List ℕ). text ++ t) (sym (at_drop_more (λ (rest : List ℕ). numbers rest) words i word within
    ∙ ap (λ (w : ℕ). codes " " ++ (decimal w ++ numbers (drop (i + 1) words))) (sym is)))
    ∙ whole))

-- the next of the events
pub events_more : (lines new line : List ℕ) (events : List Event) (i : ℕ) (event : Event) (all : List ℕ) → i < length events → event ≡ get_or events i event
    → line ≡ event_line event → new ≡ lines ++ line → lines ++ flat_map event_line (drop i events) ≡ all → new ++ flat_map event_line (drop (i + 1) events) ≡ all
events_more lines new line events i event all within is line-is more whole =
    ap (λ (t : List ℕ). t ++ flat_map event_line (drop (i + 1) events)) more
    ∙ (append_assoc lines line (flat_map event_line (drop (i + 1) events))
    ∙ (ap (λ (t : List ℕ). lines ++ t) (ap (λ (l : List ℕ). l ++ flat_map event_line (drop (i + 1) events)) line-is
    ∙ sym (at_drop_more (λ (rest : List Event). flat_map event_line rest) events i event within
    ∙ ap (λ (e : Event). event_line e ++ flat_map event_line (drop (i + 1) events)) (sym is)))
    ∙ whole))
