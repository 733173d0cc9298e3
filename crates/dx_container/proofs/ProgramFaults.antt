-- The first field of the part `DXIL` with a fault.
use Rattle.std.proofs.Common.{◌≡◌, ◌≢◌, ℕ, ◌+◌, ◌*◌, ◌<◌, ◌≤◌, List, arith}
use Rattle.dx_container.specs.Container.{body_size, shader_kind, major_version, words_size, name_at, program_name, bitcode_place, bitcode_size, ProgramFault, short_body, other_shader, many_words, other_name, bitcode_elsewhere, long_bitcode, FirstProgramFault}

-- the fields in front of the bitcode have room
pub after_8 : (bytes : List ℕ) (part : ℕ) → 24 ≤ body_size bytes part → (o : ℕ) → ProgramFault bytes part o → part + 8 ≤ o
after_8 bytes part room o (short_body h) = omega arith
after_8 bytes part room o _ = omega arith

-- and it is a compute shader of model 6
pub after_12 : (bytes : List ℕ) (part : ℕ) → 24 ≤ body_size bytes part → shader_kind bytes part ≡ 5 → major_version bytes part ≡ 6
    → (o : ℕ) → ProgramFault bytes part o → part + 12 ≤ o
after_12 bytes part room kind major o (short_body h) = omega arith
after_12 bytes part room kind major o (other_shader h) = absurd (h (kind, major))
after_12 bytes part room kind major o _ = omega arith

-- and it counts no more words than there are
pub after_16 : (bytes : List ℕ) (part : ℕ) → ((o : ℕ) → ProgramFault bytes part o → part + 12 ≤ o)
    → 4 * words_size bytes part ≤ body_size bytes part
    → (o : ℕ) → ProgramFault bytes part o → part + 16 ≤ o
after_16 bytes part after words o (short_body h) = let a = after part (short_body h) in omega arith
after_16 bytes part after words o (other_shader h) = let a = after (part + 8) (other_shader h) in omega arith
after_16 bytes part after words o (many_words h) = omega arith
after_16 bytes part after words o _ = omega arith

-- and the second name is right
pub after_24 : (bytes : List ℕ) (part : ℕ) → ((o : ℕ) → ProgramFault bytes part o → part + 16 ≤ o)
    → name_at bytes (part + 16) ≡ program_name
    → (o : ℕ) → ProgramFault bytes part o → part + 24 ≤ o
after_24 bytes part after name o (short_body h) = let a = after part (short_body h) in omega arith
after_24 bytes part after name o (other_shader h) = let a = after (part + 8) (other_shader h) in omega arith
after_24 bytes part after name o (many_words h) = let a = after (part + 12) (many_words h) in omega arith
after_24 bytes part after name o (other_name h) = absurd (h name)
after_24 bytes part after name o _ = omega arith

-- and the bitcode follows the fields
pub after_28 : (bytes : List ℕ) (part : ℕ) → ((o : ℕ) → ProgramFault bytes part o → part + 24 ≤ o)
    → bitcode_place bytes part ≡ 16
    → (o : ℕ) → ProgramFault bytes part o → part + 28 ≤ o
after_28 bytes part after place o (short_body h) = let a = after part (short_body h) in omega arith
after_28 bytes part after place o (other_shader h) = let a = after (part + 8) (other_shader h) in omega arith
after_28 bytes part after place o (many_words h) = let a = after (part + 12) (many_words h) in omega arith
after_28 bytes part after place o (other_name h) = let a = after (part + 16) (other_name h) in omega arith
after_28 bytes part after place o (bitcode_elsewhere h) = absurd (h place)
after_28 bytes part after place o _ = omega arith

-- every fault stands in or after the part
after_part : (bytes : List ℕ) (part : ℕ) → (o : ℕ) → ProgramFault bytes part o → part ≤ o
after_part bytes part o (short_body h) = omega arith
after_part bytes part o _ = omega arith

-- the first fault, field by field
pub first_short_body : (bytes : List ℕ) (part : ℕ) → body_size bytes part < 24 → FirstProgramFault bytes part part
first_short_body bytes part h = record { holds = short_body h; nearest = after_part bytes part }

pub first_other_shader : (bytes : List ℕ) (part : ℕ) → 24 ≤ body_size bytes part
    → ¬ ((shader_kind bytes part ≡ 5) × (major_version bytes part ≡ 6))
    → FirstProgramFault bytes part (part + 8)
first_other_shader bytes part room h = record { holds = other_shader h; nearest = after_8 bytes part room }

pub first_many_words : (bytes : List ℕ) (part : ℕ) → ((o : ℕ) → ProgramFault bytes part o → part + 12 ≤ o)
    → body_size bytes part < 4 * words_size bytes part
    → FirstProgramFault bytes part (part + 12)
first_many_words bytes part after h = record { holds = many_words h; nearest = after }

pub first_other_name : (bytes : List ℕ) (part : ℕ) → ((o : ℕ) → ProgramFault bytes part o → part + 16 ≤ o)
    → name_at bytes (part + 16) ≢ program_name
    → FirstProgramFault bytes part (part + 16)
first_other_name bytes part after h = record { holds = other_name h; nearest = after }

pub first_elsewhere : (bytes : List ℕ) (part : ℕ) → ((o : ℕ) → ProgramFault bytes part o → part + 24 ≤ o)
    → bitcode_place bytes part ≢ 16
    → FirstProgramFault bytes part (part + 24)
first_elsewhere bytes part after h = record { holds = bitcode_elsewhere h; nearest = after }

pub first_long_bitcode : (bytes : List ℕ) (part : ℕ) → ((o : ℕ) → ProgramFault bytes part o → part + 28 ≤ o)
    → body_size bytes part < 24 + bitcode_size bytes part
    → FirstProgramFault bytes part (part + 28)
first_long_bitcode bytes part after h = record { holds = long_bitcode h; nearest = after }
