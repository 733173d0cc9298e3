-- What extends a run, and what doesn't.
use Rattle.std.specs.Prelude.{◌≡◌, [], ◌∷◌, refl}
use Rattle.std.proofs.Common.{ap}
use Rattle.lane_core.specs.declared.event.Asked.TheVariants.{Asks, Ended}
use Rattle.lane_core.specs.Lane.{Run}
use Rattle.hl_source.proofs.SmallPrograms.{stored, word_reply}
use Rattle.source_laws.specs.Laws.{Extends}

abbrev asks_to_store : Run
asks_to_store = record { events = []; outcome = Asks (stored 4 7) }

abbrev has_stored : Run
has_stored = record { events = stored 4 7 ∷ []; outcome = Ended }

-- with a reply more the store is behind it
goes_on_with_a_reply : Extends (word_reply 0 ∷ []) asks_to_store has_stored
goes_on_with_a_reply = ([], refl)

-- without one it isn't
stays_without_one : Extends [] asks_to_store has_stored → ⊥
stays_without_one e = let wrong : Ended ≡ Asks (stored 4 7) = ap (λ r. r.outcome) e in cc

-- and no run that has ended goes on
stays_ended : Extends (word_reply 0 ∷ []) has_stored asks_to_store → ⊥
stays_ended e = let wrong : Asks (stored 4 7) ≡ Ended = ap (λ r. r.outcome) e in cc
