-- What a lane takes of a reply: words of 32 bits, whatever was replied.
use Rattle.std.specs.Prelude.{ℕ, List, map, slice_index}
use Rattle.std.specs.List.{range_with_len}
use Rattle.lane_core.specs.declared.event.Reply.{Reply}
use Rattle.lane_core.specs.Words.{wrapped}

-- the low 32 bits of a word of a reply, and 0 where the reply has none
abbrev pub reply_word : Reply → ℕ → ℕ
reply_word reply number = wrapped (slice_index reply.words number)

-- the first words of a reply
abbrev pub reply_words : (count : ℕ) → Reply → List ℕ
reply_words count reply = map (reply_word reply) (range_with_len 0 count)
