-- Events that are asked, and their replies.
use Rattle.std.proofs.Common.{◌≡◌, ◌∙◌, sym, ap, ℕ, ◌+◌, ◌^◌, ◌<◌, ◌≤◌, List, [], ◌∷◌, ◌++◌, drop, get_or, length, map, slice_index, arith}
use Rattle.std.proofs.lemmas.List.{drop_all, drop_more, length_push}
use Rattle.std.specs.List.{range_with_len}
use Rattle.lane_core.specs.declared.event.Asked.TheVariants.{Asks}
use Rattle.lane_core.specs.declared.event.Event.{Event}
use Rattle.lane_core.specs.declared.event.Reply.{Reply}
use Rattle.lane_core.specs.Lane.{ask_with}
use Rattle.hl_source.specs.State.{State, asks, ends_at, goes_with}
use Rattle.lane_core.specs.Words.{wrapped}

-- what is held between two events
abbrev pub between : List Reply → (variables : List (List ℕ)) → (events : List Event) → State
between replies variables events = record { variables = variables; exchange = record { asked = events; replies = drop (length events) replies } }

pub asks-none : (replies : List Reply) (variables : List (List ℕ)) (events : List Event) (event : Event) → length replies ≤ length events
    → asks event (between replies variables events) ≡ ends_at (record { events = events; outcome = Asks event })
asks-none replies variables events event past =
    ap (λ l. ask_with ends_at event events l (λ reply exchange. goes_with reply (record (between replies variables events) { exchange = exchange }))) (drop_all (length events) replies past)

pub asks-some : (replies : List Reply) (variables : List (List ℕ)) (events more : List Event) (event : Event) (reply : Reply) → length events < length replies → reply ≡ get_or replies (length events) reply
    → more ≡ events ++ event ∷ [] → asks event (between replies variables events) ≡ goes_with reply (between replies variables more)
asks-some replies variables events more event reply within is pushed =
    ap (λ l. ask_with ends_at event events l (λ r exchange. goes_with r (record (between replies variables events) { exchange = exchange })))
    (drop_more replies (length events) reply within ∙ ap (λ r. r ∷ drop (length events + 1) replies) (sym is)) ∙
    (ap (λ k. goes_with reply (record { variables = variables; exchange = record { asked = events ++ event ∷ []; replies = drop k replies } })) (sym (length_push events event)) ∙
    ap (λ l. goes_with reply (between replies variables l)) (sym pushed))

-- a word of 32 bits is what is left of it in 32 bits
pub wrapped-word : (n : ℕ) → n < 2 ^ 32 → wrapped n ≡ n
wrapped-word n small = omega arith

-- the four words of a reply
pub four-words : (words : List ℕ) → length words ≡ 4 → ((k : ℕ) → k < 4 → slice_index words k < 2 ^ 32) → map (λ k. wrapped (slice_index words k)) (range_with_len 0 4) ≡ words
four-words [] h small = absurd (omega arith)
four-words (a ∷ []) h small = absurd (omega arith)
four-words (a ∷ b ∷ []) h small = absurd (omega arith)
four-words (a ∷ b ∷ d ∷ []) h small = absurd (omega arith)
four-words (a ∷ b ∷ d ∷ e ∷ []) h small =
    ap (λ w. w ∷ wrapped b ∷ wrapped d ∷ wrapped e ∷ []) (wrapped-word a (small 0 (omega arith))) ∙
    (ap (λ w. a ∷ w ∷ wrapped d ∷ wrapped e ∷ []) (wrapped-word b (small 1 (omega arith))) ∙
    (ap (λ w. a ∷ b ∷ w ∷ wrapped e ∷ []) (wrapped-word d (small 2 (omega arith))) ∙
    ap (λ w. a ∷ b ∷ d ∷ w ∷ []) (wrapped-word e (small 3 (omega arith)))))
four-words (a ∷ b ∷ d ∷ e ∷ f ∷ rest) h small = absurd (omega arith)
