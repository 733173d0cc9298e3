-- Facts on runs that extend others.
use Rattle.std.proofs.Common.{◌≡◌, ◌∙◌, refl, sym, ap, List, [], ◌∷◌, ◌++◌}
use Rattle.std.proofs.lemmas.List.{append_assoc, append-nil, append_cancel_left}
use Rattle.lane_core.specs.declared.event.Asked.{Asked}
use Rattle.lane_core.specs.declared.event.Asked.TheVariants.{Asks, Ended, Fault, Goes}
use Rattle.lane_core.specs.declared.event.Event.{Event}
use Rattle.lane_core.specs.declared.event.Reply.{Reply}
use Rattle.lane_core.specs.Lane.{Run}
use Rattle.lane_core.specs.SameLane.{IsPrefix}
use Rattle.lane_core.proofs.Follows.{prefix_trans}
use Rattle.source_laws.specs.Laws.{Extends, ExtendsBy}

abbrev run_with : List Event → Asked → Run
run_with events outcome = record { events = events; outcome = outcome }

-- a run that goes on
abbrev pub going : List Event → Run
going events = record { events = events; outcome = Goes }

extends_by_outcome : (outcome : Asked) (more : List Reply) (run later : Run) (events : List Event) → run.outcome ≡ outcome → ExtendsBy outcome more run (going events) →
    IsPrefix events later.events → ExtendsBy outcome more run later
extends_by_outcome Goes more run later events e h front = prefix_trans run.events events later.events h front
extends_by_outcome Ended more run later events e h front = let wrong : Goes ≡ Ended = ap (λ r. r.outcome) h ∙ e in cc
extends_by_outcome (Fault fault) more run later events e h front = let wrong : Goes ≡ Fault fault = ap (λ r. r.outcome) h ∙ e in cc
extends_by_outcome (Asks event) [] run later events e h front = let wrong : Goes ≡ Asks event = ap (λ r. r.outcome) h ∙ e in cc
extends_by_outcome (Asks event) (reply ∷ more) run later events e h front = prefix_trans (run.events ++ event ∷ []) events later.events h front

-- A run is extended by what is extended by a run that goes on and extends it.
pub extends_on : (more : List Reply) (run later : Run) (events : List Event) → Extends more run (going events) → IsPrefix events later.events → Extends more run later
extends_on more run later events h front = extends_by_outcome run.outcome more run later events refl h front

-- two lists, each of which is a front of the other, are the same
fronts_same : (a b : List Event) → IsPrefix a b → IsPrefix b a → a ≡ b
fronts_same a b front back =
    let none : front.0 ++ back.0 ≡ [] = append_cancel_left a (front.0 ++ back.0) [] (sym (append_assoc a front.0 back.0) ∙ (ap (λ l. l ++ back.0) front.1 ∙ (back.1 ∙ sym (append-nil a)))) in
    sym (append-nil a) ∙ (ap (λ l. a ++ l) (sym (first_empty front.0 back.0 none)) ∙ front.1)
  where
    first_empty : (xs ys : List Event) → xs ++ ys ≡ [] → xs ≡ []
    first_empty [] ys e = refl
    first_empty (x ∷ xs) ys e = cc

both_by_outcomes : (outcome other : Asked) (a b : Run) → a.outcome ≡ outcome → b.outcome ≡ other → ExtendsBy outcome [] a b → ExtendsBy other [] b a → a ≡ b
both_by_outcomes Ended other a b ea eb h k = sym h
both_by_outcomes (Fault fault) other a b ea eb h k = sym h
both_by_outcomes (Asks event) other a b ea eb h k = sym h
both_by_outcomes Goes Ended a b ea eb h k = k
both_by_outcomes Goes (Fault fault) a b ea eb h k = k
both_by_outcomes Goes (Asks event) a b ea eb h k = k
both_by_outcomes Goes Goes a b ea eb h k = ap (λ l. run_with l a.outcome) (fronts_same a.events b.events h k) ∙ ap (run_with b.events) (ea ∙ sym eb)

-- two runs that extend one another without further replies are the same
pub extends_both : (a b : Run) → Extends [] a b → Extends [] b a → a ≡ b
extends_both a b h k = both_by_outcomes a.outcome b.outcome a b refl refl h k
