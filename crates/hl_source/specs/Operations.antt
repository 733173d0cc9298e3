-- What operators and conversions make of values. A value is the list of its words, and scalars and vectors are worked on
-- by component, in order.
use Rattle.std.specs.Prelude.{ℕ, ◌==◌, ◌&&◌, ◌||◌, not, Bool, if◌then◌else◌, List, [], ◌∷◌, map, take, replicate, find, slice_index, bit_and, bit_or, bit_xor, Result, Ok, Err}
use Rattle.std.specs.Option.{option_map_or}
use Rattle.lane_core.specs.declared.event.LaneFault.{LaneFault}
use Rattle.hl_meaning.specs.declared.ty.Kind.{Kind}
use Rattle.hl_meaning.specs.declared.ty.Kind.TheVariants.{Bool as BoolKind, Int as IntKind, Uint as UintKind}
use Rattle.hl_meaning.specs.Types.{Ty, component_count, is_scalar, scalar_type, vector_type}
use Rattle.lane_core.specs.Words.{complement, holds, shift_left, signed_less, signed_quotient, signed_remainder, signed_shift_right, truth, unsigned_less, unsigned_quotient, unsigned_remainder, unsigned_shift_right, wrapping_add, wrapping_mul, wrapping_sub}

-- components of several lists in order; those of a well-formed program have one length

abbrev pub map_2 : {A B C : Type 0} → (A → B → C) → List A → List B → List C
map_2 f (x ∷ xs) (y ∷ ys) = f x y ∷ map_2 f xs ys
map_2 f _ _ = []

abbrev pub map_3 : {A B C D : Type 0} → (A → B → C → D) → List A → List B → List C → List D
map_3 f (x ∷ xs) (y ∷ ys) (z ∷ zs) = f x y z ∷ map_3 f xs ys zs
map_3 f _ _ _ = []

-- all words, or the first fault
abbrev pub all_ok : List (Result ℕ LaneFault) → Result (List ℕ) LaneFault
all_ok [] = Ok []
all_ok (first ∷ rest) = with_first first (all_ok rest)
  where
    with_first : Result ℕ LaneFault → Result (List ℕ) LaneFault → Result (List ℕ) LaneFault
    with_first (Ok word) (Ok words) = Ok (word ∷ words)
    with_first (Ok word) (Err fault) = Err fault
    with_first (Err fault) _ = Err fault

-- conversions (HLSL, "Standard Conversions")

-- the kind of the components of a scalar or a vector; no well-formed program asks for that of another type
abbrev pub component_kind : Ty → Kind
component_kind (scalar_type kind) = kind
component_kind (vector_type kind size) = kind
component_kind _ = UintKind

-- A word as a value of a kind. A bool is 0 or 1, by whether the word differs from 0 (`holds`); int and uint have the
-- same bits. So a number converts to bool, a bool to a number, and so a word in memory is read.
abbrev pub word_as : Kind → ℕ → ℕ
word_as BoolKind word = truth (holds word)
word_as _ word = word

-- A scalar converts to a vector by repeating it, and a vector to a shorter vector or a scalar by its first components.
abbrev pub resized : (from to : Ty) → List ℕ → List ℕ
resized from to words =
    if is_scalar from then replicate (component_count to) (slice_index words 0) else take (component_count to) words

-- a value of a scalar or a vector type as one of another: kind and size change in one conversion
abbrev pub converted : (from to : Ty) → List ℕ → List ℕ
converted from to words = map (word_as (component_kind to)) (resized from to words)

-- operators (HLSL, "Operators"); `&&`, `||` and `?:` work by component, as in HLSL before 2021

-- for int the signed reading, and else the unsigned one
abbrev pub by_sign : {A : Type 0} → A → A → Kind → A
by_sign when_signed when_unsigned IntKind = when_signed
by_sign when_signed when_unsigned _ = when_unsigned

-- whether a word is less than another, both read as words of a kind
abbrev pub less : Kind → ℕ → ℕ → Bool
less kind = by_sign signed_less unsigned_less kind

-- an operator of two operands of one kind, by the number of its mark
pub record BinaryOperator : Type 0 where
  pub mark : ℕ
  pub compute : Kind → ℕ → ℕ → Result ℕ LaneFault

-- an operator, from its mark and what it computes of two words
abbrev pub operator : ℕ → (Kind → ℕ → ℕ → Result ℕ LaneFault) → BinaryOperator
operator mark compute = record { mark = mark; compute = compute }

-- `+ - * / % & | ^ << >>` on numbers, the comparisons `< > == != <= >=`, which give a bool, and `&& ||` on bools
abbrev pub binary_operators : List BinaryOperator
binary_operators =
    operator 12 (λ kind a b. Ok (wrapping_add a b)) ∷
    operator 13 (λ kind a b. Ok (wrapping_sub a b)) ∷
    operator 14 (λ kind a b. Ok (wrapping_mul a b)) ∷
    operator 15 (λ kind. by_sign signed_quotient unsigned_quotient kind) ∷
    operator 16 (λ kind. by_sign signed_remainder unsigned_remainder kind) ∷
    operator 21 (λ kind a b. Ok (bit_and a b)) ∷
    operator 22 (λ kind a b. Ok (bit_or a b)) ∷
    operator 23 (λ kind a b. Ok (bit_xor a b)) ∷
    operator 30 (λ kind a b. Ok (shift_left a b)) ∷
    operator 31 (λ kind a b. Ok (by_sign signed_shift_right unsigned_shift_right kind a b)) ∷
    operator 17 (λ kind a b. Ok (truth (less kind a b))) ∷
    operator 18 (λ kind a b. Ok (truth (less kind b a))) ∷
    operator 26 (λ kind a b. Ok (truth (a == b))) ∷
    operator 27 (λ kind a b. Ok (truth (not (a == b)))) ∷
    operator 28 (λ kind a b. Ok (truth (not (less kind b a)))) ∷
    operator 29 (λ kind a b. Ok (truth (not (less kind a b)))) ∷
    operator 24 (λ kind a b. Ok (truth (holds a && holds b))) ∷
    operator 25 (λ kind a b. Ok (truth (holds a || holds b))) ∷ []

-- what the operator of a mark computes; no well-formed program has another mark
abbrev pub binary_word : (op : ℕ) → Kind → ℕ → ℕ → Result ℕ LaneFault
binary_word op =
    option_map_or (λ o. o.compute) (find (λ o. o.mark == op) binary_operators) (λ kind a b. Ok 0)

-- what an operator computes of two values, component by component, or its first fault
abbrev pub binary_words : (op : ℕ) → Kind → List ℕ → List ℕ → Result (List ℕ) LaneFault
binary_words op kind left right = all_ok (map_2 (binary_word op kind) left right)

-- `-`, `~` and `!`; `+` leaves its operand as it is, and no well-formed program has another mark
abbrev pub unary_word : (op : ℕ) → ℕ → ℕ
unary_word op word =
    if op == 13 then wrapping_sub 0 word else (
    if op == 20 then complement word else (
    if op == 19 then truth (not (holds word)) else word))

-- `?:` takes each component by whether that of its condition differs from 0
abbrev pub chosen_word : (cond consequent alternative : ℕ) → ℕ
chosen_word condition consequent alternative = if holds condition then consequent else alternative

-- the words of a value that a swizzle of more than one letter picks, in the order of the letters; without one, all
abbrev pub picked : (letters : List ℕ) → List ℕ → List ℕ
picked [] words = words
picked letters words = map (slice_index words) letters
