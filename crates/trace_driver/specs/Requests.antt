-- Which words ask for which lane.
use Rattle.std.specs.Prelude.{◌≡◌, ℕ, ◌^◌, ◌==◌, ◌&&◌, Bool, if◌then◌else◌, List, [], ◌∷◌, length, drop, nat_lt, slice_get, slice_index, slice_range, Option, Some, None, option_map, option_and_then}
use Rattle.std.specs.List.{after_first, before_first}
use Rattle.std.specs.Str.{all_ascii_digits}
use Rattle.std.specs.Str.Parse.{digits_value}
use Rattle.lane_core.specs.declared.event.Reply.{Reply}
use Rattle.hl_lexer.specs.Tokens.{IsName}
use Rattle.hl_interpreter.specs.declared.run.LanePlace.{LanePlace}
use Rattle.trace_driver.specs.declared.request.Request.{Request}

-- one digit or more, and nothing else
abbrev pub is_decimal : List ℕ → Bool
is_decimal text = nat_lt 0 (length text) && all_ascii_digits text

-- the number that a text writes in decimal digits, where it has so many bits at most
abbrev pub number_of : (bits : ℕ) → List ℕ → Option ℕ
number_of bits text = if is_decimal text && nat_lt (digits_value 10 text) (2 ^ bits) then Some (digits_value 10 text) else None

-- what each of a list gives, where each of them gives something
abbrev pub each_of : {A B : Type 0} → (A → Option B) → List A → Option (List B)
each_of f [] = Some []
each_of f (x ∷ xs) = option_and_then (λ y. option_map (λ ys. y ∷ ys) (each_of f xs)) (f x)

abbrev pub is_comma : ℕ → Bool
is_comma byte = byte == 44

-- a text up to its first comma, and behind it; without a comma the whole text, and nothing
abbrev pub before_comma : List ℕ → List ℕ
before_comma text = before_first is_comma text

abbrev pub behind_comma : List ℕ → List ℕ
behind_comma text = after_first is_comma text

-- the parts of a text with three commas between; where one is missing, one of them is empty
abbrev pub four_parts : List ℕ → List (List ℕ)
four_parts text =
    before_comma text ∷ before_comma (behind_comma text) ∷ before_comma (behind_comma (behind_comma text))
    ∷ behind_comma (behind_comma (behind_comma text)) ∷ []

-- a reply of its parts, each of which writes a word
abbrev pub reply_with : List (List ℕ) → Option Reply
reply_with parts = option_map (λ words. record { words = words }) (each_of (number_of 32) parts)

-- a reply: its four words, in order, with commas between
abbrev pub reply_of : List ℕ → Option Reply
reply_of text = reply_with (four_parts text)

-- a lane by eight numbers: the group, the thread in the group, the index in the wave, and the size of the wave
abbrev pub lane_of : List ℕ → LanePlace
lane_of numbers = record {
  group = slice_index numbers 0 ∷ slice_index numbers 1 ∷ slice_index numbers 2 ∷ [];
  thread = slice_index numbers 3 ∷ slice_index numbers 4 ∷ slice_index numbers 5 ∷ [];
  lane_index = slice_index numbers 6;
  wave_size = slice_index numbers 7;
}

-- the words ask for this: the name of the entry, the eight numbers of the lane, the turns that each loop may take, and a
-- word for each reply
pub record Asks (words : List (List ℕ)) (request : Request) : Type 0 where
  pub entry : slice_get words 0 ≡ Some request.entry
  pub named : IsName request.entry
  pub lane : option_map lane_of (each_of (number_of 32) (slice_range words 1 9)) ≡ Some request.lane
  pub turns : option_and_then (number_of 64) (slice_get words 9) ≡ Some request.turns
  pub replies : each_of reply_of (drop 10 words) ≡ Some request.replies

-- the words ask for no lane
abbrev pub IsUsage : List (List ℕ) → Type 0
IsUsage words = (request : Request) → ¬ Asks words request
