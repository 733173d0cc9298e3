-- What operators make of words are words.
use Rattle.std.proofs.Common.{◌≡◌, refl, sym, subst, ℕ, Bool, true, false, List, [], ◌∷◌, arith, div-le_self, Option, Some, Result, Ok, Err, ◌^◌, ◌/◌, ◌%◌}
use Rattle.std.specs.Prelude.{◌==◌, ◌&&◌, not, if◌then◌else◌, find, slice_index, take, replicate, bit_and}
use Rattle.std.specs.Option.{option_map_or}
use Rattle.std.proofs.lemmas.Nat.{and_le_l, or_lt, xor_lt}
use Rattle.lane_core.specs.declared.event.LaneFault.{LaneFault}
use Rattle.lane_core.specs.declared.event.LaneFault.TheVariants.{DivideByZero, DivideOverflow}
use Rattle.lane_core.specs.Words.{complement, holds, signed_divided, signed_quotient, signed_remainder, signed_shift_right, truth, unsigned_divided, unsigned_quotient, unsigned_remainder, unsigned_shift_right, wrapping_sub}
use Rattle.hl_meaning.specs.declared.ty.Kind.{Kind}
use Rattle.hl_meaning.specs.declared.ty.Kind.TheVariants.{Bool as BoolKind, Int as IntKind, Uint as UintKind}
use Rattle.hl_meaning.specs.Types.{Ty, component_count, is_scalar}
use Rattle.hl_source.specs.Operations.{BinaryOperator, all_ok, binary_operators, binary_word, binary_words, by_sign, chosen_word, component_kind, converted, map_2, picked, resized, unary_word, word_as}
use Rattle.event_laws.specs.Laws.{Every, Is32Bits}
use Rattle.event_laws.proofs.Lists.{AreWords, every_made, every_map_2, every_replicate, every_take, every_to, word_at}
use Rattle.event_laws.proofs.WordLemmas.{complement_is, no_greater, rem_no_greater, signed_quotient_is, signed_remainder_is, signed_shift_is, truth_is, wrapped_is}

-- what was computed, if it is no fault
abbrev pub OkHolds : {A : Type 0} → (A → Type 0) → Result A LaneFault → Type 0
OkHolds P (Ok a) = P a
OkHolds P (Err fault) = Unit {0}

pub read_as : (kind : Kind) (word : ℕ) → Is32Bits word → Is32Bits (word_as kind word)
read_as BoolKind word h = truth_is (holds word)
read_as IntKind word h = h
read_as UintKind word h = h

pub all_read_as : (kinds : List Kind) (words : List ℕ) → AreWords words → AreWords (map_2 word_as kinds words)
all_read_as kinds words h = every_map_2 (λ kind. Unit {0}) Is32Bits Is32Bits word_as (λ kind word _ k. read_as kind word k) kinds words (any kinds) h
  where
    any : (kinds : List Kind) → Every (λ kind. Unit {0}) kinds
    any [] = tt
    any (kind ∷ kinds) = (tt, any kinds)

-- conversions

resized_words : (from to : Ty) (words : List ℕ) → AreWords words → AreWords (resized from to words)
resized_words from to words h = by_test (is_scalar from)
  where
    by_test : (b : Bool) → AreWords (if b then replicate (component_count to) (slice_index words 0) else take (component_count to) words)
    by_test true = every_replicate Is32Bits (component_count to) (slice_index words 0) (word_at words 0 h)
    by_test false = every_take Is32Bits (component_count to) words h

pub converted_words : (from to : Ty) (words : List ℕ) → AreWords words → AreWords (converted from to words)
converted_words from to words h = every_to Is32Bits Is32Bits (word_as (component_kind to)) (read_as (component_kind to)) (resized from to words) (resized_words from to words h)

-- operators of two operands

abbrev Computes : (Kind → ℕ → ℕ → Result ℕ LaneFault) → Type 0
Computes f = (kind : Kind) (a b : ℕ) → Is32Bits a → Is32Bits b → OkHolds Is32Bits (f kind a b)

divided_is : (divisor result : ℕ) → Is32Bits result → OkHolds Is32Bits (unsigned_divided divisor result)
divided_is divisor result h = by_test (divisor == 0)
  where
    by_test : (b : Bool) → OkHolds Is32Bits (if b then Err DivideByZero else Ok result)
    by_test true = tt
    by_test false = h

signed_divided_is : (dividend divisor result : ℕ) → Is32Bits result → OkHolds Is32Bits (signed_divided dividend divisor result)
signed_divided_is dividend divisor result h = by_test (dividend == 2147483648 && divisor == 4294967295)
  where
    by_test : (b : Bool) → OkHolds Is32Bits (if b then Err DivideOverflow else unsigned_divided divisor result)
    by_test true = tt
    by_test false = divided_is divisor result h

quotient_is : Computes (λ kind. by_sign signed_quotient unsigned_quotient kind)
quotient_is IntKind a b h k = signed_divided_is a b _ (signed_quotient_is a b h)
quotient_is UintKind a b h k = divided_is b _ (no_greater (a / b) a (div-le_self a b) h)
quotient_is BoolKind a b h k = divided_is b _ (no_greater (a / b) a (div-le_self a b) h)

remainder_is : Computes (λ kind. by_sign signed_remainder unsigned_remainder kind)
remainder_is IntKind a b h k = signed_divided_is a b _ (signed_remainder_is a b h)
remainder_is UintKind a b h k = divided_is b _ (no_greater (a % b) a (rem_no_greater a b) h)
remainder_is BoolKind a b h k = divided_is b _ (no_greater (a % b) a (rem_no_greater a b) h)

shift_right_is : Computes (λ kind a b. Ok (by_sign signed_shift_right unsigned_shift_right kind a b))
shift_right_is IntKind a b h k = signed_shift_is a (b % 32) h
shift_right_is UintKind a b h k = no_greater (a / 2 ^ (b % 32)) a (div-le_self a (2 ^ (b % 32))) h
shift_right_is BoolKind a b h k = no_greater (a / 2 ^ (b % 32)) a (div-le_self a (2 ^ (b % 32))) h

all_compute : Every (λ o. Computes o.compute) binary_operators
all_compute = (
  λ kind a b h k. wrapped_is _,
  (
    λ kind a b h k. wrapped_is _,
    (
      λ kind a b h k. wrapped_is _,
      (
        quotient_is,
        (
          remainder_is,
          (
            λ kind a b h k. no_greater (bit_and a b) a (and_le_l a b) h,
            (
              λ kind a b h k. or_lt 32 a b h k,
              (
                λ kind a b h k. xor_lt 32 a b h k,
                (
                  λ kind a b h k. wrapped_is _,
                  (
                    shift_right_is,
                    (
                      λ kind a b h k. truth_is _,
                      (
                        λ kind a b h k. truth_is _,
                        (
                          λ kind a b h k. truth_is _,
                          (
                            λ kind a b h k. truth_is _,
                            (
                              λ kind a b h k. truth_is _,
                              (
                                λ kind a b h k. truth_is _,
                                (λ kind a b h k. truth_is _, (λ kind a b h k. truth_is _, tt)),
                              ),
                            ),
                          ),
                        ),
                      ),
                    ),
                  ),
                ),
              ),
            ),
          ),
        ),
      ),
    ),
  ),
)

found_here : (test : BinaryOperator → Bool) (o : BinaryOperator) (operators : List BinaryOperator) → test o ≡ true → find test (o ∷ operators) ≡ Some o
found_here test o operators e = rw e

found_behind : (test : BinaryOperator → Bool) (o : BinaryOperator) (operators : List BinaryOperator) → test o ≡ false → find test (o ∷ operators) ≡ find test operators
found_behind test o operators e = rw e

-- what an operator that was found computes
abbrev computed : Option BinaryOperator → Kind → ℕ → ℕ → Result ℕ LaneFault
computed found = option_map_or (λ o. o.compute) found (λ kind a b. Ok 0)

found_computes : (test : BinaryOperator → Bool) (operators : List BinaryOperator) → Every (λ o. Computes o.compute) operators → Computes (computed (find test operators))
found_computes test [] all kind a b h k = omega arith
found_computes test (o ∷ operators) all kind a b h k = by_test (test o) refl (found_computes test operators all.1 kind a b h k)
  where
    by_test : (is : Bool) → test o ≡ is → OkHolds Is32Bits (computed (find test operators) kind a b) → OkHolds Is32Bits (computed (find test (o ∷ operators)) kind a b)
    by_test true e rest = subst (λ found. OkHolds Is32Bits (computed found kind a b)) (sym (found_here test o operators e)) (all.0 kind a b h k)
    by_test false e rest = subst (λ found. OkHolds Is32Bits (computed found kind a b)) (sym (found_behind test o operators e)) rest

binary_is : (op : ℕ) → Computes (binary_word op)
binary_is op = found_computes (λ o. o.mark == op) binary_operators all_compute

all_ok_next : (w : ℕ) (rs : List (Result ℕ LaneFault)) (ws : List ℕ) → all_ok rs ≡ Ok ws → all_ok (Ok w ∷ rs) ≡ Ok (w ∷ ws)
all_ok_next w rs ws e = rw e

all_ok_fault : (w : ℕ) (rs : List (Result ℕ LaneFault)) (fault : LaneFault) → all_ok rs ≡ Err fault → all_ok (Ok w ∷ rs) ≡ Err fault
all_ok_fault w rs fault e = rw e

all_ok_words : (rs : List (Result ℕ LaneFault)) → Every (OkHolds Is32Bits) rs → OkHolds AreWords (all_ok rs)
all_ok_words [] h = tt
all_ok_words (Err fault ∷ rs) h = tt
all_ok_words (Ok w ∷ rs) h = by_rest (all_ok rs) refl (all_ok_words rs h.1)
  where
    by_rest : (r : Result (List ℕ) LaneFault) → all_ok rs ≡ r → OkHolds AreWords r → OkHolds AreWords (all_ok (Ok w ∷ rs))
    by_rest (Ok ws) is x = subst (OkHolds AreWords) (sym (all_ok_next w rs ws is)) (h.0, x)
    by_rest (Err fault) is x = subst (OkHolds AreWords) (sym (all_ok_fault w rs fault is)) tt

pub binary_all : (op : ℕ) (kind : Kind) (left right : List ℕ) → AreWords left → AreWords right → OkHolds AreWords (binary_words op kind left right)
binary_all op kind left right h k =
    all_ok_words (map_2 (binary_word op kind) left right) (every_map_2 Is32Bits Is32Bits (OkHolds Is32Bits) (binary_word op kind) (binary_is op kind) left right h k)

-- other operators

pub unary_is : (op word : ℕ) → Is32Bits word → Is32Bits (unary_word op word)
unary_is op word h = by_tests (op == 13) (op == 20) (op == 19)
  where
    by_tests : (a b d : Bool) → Is32Bits (if a then wrapping_sub 0 word else (if b then complement word else (if d then truth (not (holds word)) else word)))
    by_tests true b d = wrapped_is _
    by_tests false true d = complement_is word
    by_tests false false true = truth_is _
    by_tests false false false = h

pub chosen_is : (condition consequent alternative : ℕ) → Is32Bits condition → Is32Bits consequent → Is32Bits alternative → Is32Bits (chosen_word condition consequent alternative)
chosen_is condition consequent alternative _ h k = by_test (holds condition)
  where
    by_test : (b : Bool) → Is32Bits (if b then consequent else alternative)
    by_test true = h
    by_test false = k

pub picked_words_are : (letters words : List ℕ) → AreWords words → AreWords (picked letters words)
picked_words_are [] words h = h
picked_words_are (letter ∷ letters) words h = every_made Is32Bits (slice_index words) (λ number. word_at words number h) (letter ∷ letters)
