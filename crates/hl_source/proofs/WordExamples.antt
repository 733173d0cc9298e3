-- Some words that operators and functions give.
use Rattle.std.specs.Prelude.{◌≡◌, ℕ, [], ◌∷◌, true, Ok, Err, refl, Option, None, Some}
use Rattle.std.specs.Int.Count.{count_trailing_zeros}
use Rattle.std.specs.Int.RustNames.{count_ones}
use Rattle.std.specs.Int.{reverse_bits, reverse_bits_onto, w32}
use Rattle.lane_core.specs.declared.event.LaneFault.TheVariants.{DivideByZero, DivideOverflow}
use Rattle.hl_meaning.specs.declared.ty.Kind.TheVariants.{Bool as BoolKind, Int as IntKind, Uint as UintKind}
use Rattle.hl_meaning.specs.Types.{scalar_type, vector_type, void_type}
use Rattle.hl_meaning.specs.Programs.{Resource}
use Rattle.hl_meaning.specs.Slots.{slots_of}
use Rattle.hl_source.specs.Words.{first_bit_low, shift_left, signed_quotient, signed_remainder, signed_shift_right, unsigned_shift_right, wrapping_add, wrapping_mul, wrapping_sub}
use Rattle.hl_source.specs.Operations.{binary_words, converted, unary_word}
use Rattle.hl_source.specs.Intrinsics.{absolute, clamped}

wraps_sums : wrapping_add 4294967295 2 ≡ 1
wraps_sums = refl

wraps_differences : wrapping_sub 1 2 ≡ 4294967295
wraps_differences = refl

wraps_products : wrapping_mul 65536 65537 ≡ 65536
wraps_products = refl

-- -7 / 2 is -3, and -7 % 2 is -1; 7 % -2 is 1
rounds_toward_zero : signed_quotient 4294967289 2 ≡ Ok 4294967293
rounds_toward_zero = refl

has_the_dividend's_sign : signed_remainder 4294967289 2 ≡ Ok 4294967295
has_the_dividend's_sign = refl

has_the_dividend's_sign' : signed_remainder 7 4294967294 ≡ Ok 1
has_the_dividend's_sign' = refl

no_remainder_of_zero : signed_remainder 2147483648 0 ≡ Err DivideByZero
no_remainder_of_zero = refl

no_remainder_of_the_least : signed_remainder 2147483648 4294967295 ≡ Err DivideOverflow
no_remainder_of_the_least = refl

-- -1 is below 0 as an int and above it as a uint
compares_ints : binary_words 17 IntKind (4294967295 ∷ 0 ∷ []) (0 ∷ 0 ∷ []) ≡ Ok (1 ∷ 0 ∷ [])
compares_ints = refl

compares_uints : binary_words 17 UintKind (4294967295 ∷ 0 ∷ []) (0 ∷ 0 ∷ []) ≡ Ok (0 ∷ 0 ∷ [])
compares_uints = refl

-- the first component that has a fault decides
first_fault : binary_words 15 IntKind (2147483648 ∷ 1 ∷ []) (4294967295 ∷ 0 ∷ []) ≡ Err DivideOverflow
first_fault = refl

-- a count of 33 is 1; -8 >> 1 is -4
shifts_by_five_bits : shift_left 3 33 ≡ 6
shifts_by_five_bits = refl

keeps_the_sign : signed_shift_right 4294967288 1 ≡ 4294967292
keeps_the_sign = refl

keeps_no_sign : unsigned_shift_right 4294967288 1 ≡ 2147483644
keeps_no_sign = refl

negates : unary_word 13 1 ≡ 4294967295
negates = refl

negates_zero : unary_word 13 0 ≡ 0
negates_zero = refl

turns_bits : unary_word 20 1 ≡ 4294967294
turns_bits = refl

turns_a_truth_value : unary_word 19 0 ≡ 1
turns_a_truth_value = refl

absolute_of_the_least : absolute IntKind 2147483648 ≡ 2147483648
absolute_of_the_least = refl

absolute_of_minus_five : absolute IntKind 4294967291 ≡ 5
absolute_of_minus_five = refl

clamps_ints : clamped IntKind 4294967291 4294967294 7 ≡ 4294967294
clamps_ints = refl

no_bit_is_set : first_bit_low 0 ≡ 4294967295
no_bit_is_set = refl

the_third_bit_is_set : first_bit_low 40 ≡ 3
unfolding count_trailing_zeros
the_third_bit_is_set = refl

three_bits_are_set : count_ones 41 ≡ 3
unfolding count_ones
three_bits_are_set = refl

the_lowest_bit_becomes_the_highest : reverse_bits w32 1 ≡ 2147483648
unfolding reverse_bits_onto
the_lowest_bit_becomes_the_highest = refl

repeats_a_scalar : converted (scalar_type UintKind) (vector_type BoolKind 3) (7 ∷ []) ≡ 1 ∷ 1 ∷ 1 ∷ []
repeats_a_scalar = refl

cuts_a_vector : converted (vector_type IntKind 3) (scalar_type UintKind) (4294967295 ∷ 1 ∷ 2 ∷ []) ≡ 4294967295 ∷ []
cuts_a_vector = refl

-- slots: of a writable buffer in space 0 without a register, one with register 0, one more without, and one in space 1
abbrev buffer : (class : ℕ) → Option ℕ → (space : ℕ) → Resource
buffer class register space = record { name = []; class = class; raw = true; element = void_type; words = 0; register = register; space = space; at = 0 }

takes_the_least_free_register :
    slots_of (buffer 1 None 0 ∷ buffer 1 (Some 0) 0 ∷ buffer 1 None 0 ∷ buffer 1 (Some 3) 1 ∷ buffer 0 None 0 ∷ buffer 1 None 0 ∷ [])
    ≡ record { class = 1; space = 0; register = 1 } ∷ record { class = 1; space = 0; register = 0 } ∷ record { class = 1; space = 0; register = 2 } ∷ record { class = 1; space = 1; register = 3 } ∷ record { class = 0; space = 0; register = 0 } ∷ record { class = 1; space = 0; register = 3 } ∷ []
takes_the_least_free_register = refl
