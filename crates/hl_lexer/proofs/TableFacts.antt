-- The tables of words and marks.
use Rattle.std.proofs.Common.{◌≡◌, ◌∙◌, refl, ap, subst, ℕ, ◌+◌, ◌<◌, ◌≤◌, Bool, true, false, ◌&&◌, ◌==◌, List, [], ◌∷◌, Option, None, Some, length, slice_get, slice_index, slice_index_or, take, drop, ◌-◌, arith, nat_le}
use Rattle.std.specs.List.{AllPass, list_all}
use Rattle.std.specs.Str.{bytes_eq}
use Rattle.std.proofs.lemmas.Bool.{agree_below_at, and_parts, eqb-true, leb-true, ltb-true}
use Rattle.std.proofs.lemmas.Option.{get_or_from_slice_get, slice_get-get_or}
use Rattle.std.proofs.lemmas.Slice.Eq.{bytes_eq-Decides}
use Rattle.std.proofs.lemmas.List.Sums.{AllPass-from_list_all}
use Rattle.std.specs.Prelude.{nat_lt}
use Rattle.hl_lexer.specs.declared.word.TheConstants.{LETTERS, SLOTS, STARTS}
use Rattle.hl_lexer.specs.Bytes.{is_letter, is_word_byte, is_no_line_feed}
use Rattle.hl_lexer.specs.Scanning.{class_of, number_in, word_slot}
use Rattle.hl_lexer.specs.Spellings.{words, marks}
use Rattle.hl_lexer.specs.Tokens.{IsMark, IsWord}
use Rattle.hl_lexer.proofs.ByteFacts.{class_sort}
use Rattle.hl_lexer.proofs.Lists.{each_at, each_passes, passes_at}

abbrev is_number : Option ℕ → ℕ → Bool
is_number None n = false
is_number (Some m) n = m == n

number_from_test : (found : Option ℕ) (n : ℕ) → is_number found n ≡ true → found ≡ Some n
number_from_test None n e = cc
number_from_test (Some m) n e = ap Some (eqb-true m n e)

-- each spelling of a table is found at its number
numbered : (spellings : List (List ℕ)) (n : ℕ) (bytes : List ℕ) → each_passes (λ k spelling. is_number (number_in spellings spelling) k) 0 spellings ≡ true → slice_get spellings n ≡ Some bytes → number_in spellings bytes ≡ Some n
numbered spellings n bytes all e =
    let at = each_at (λ k spelling. is_number (number_in spellings spelling) k) 0 spellings n bytes all e in
    let same : n + 0 ≡ n = omega arith in
    number_from_test (number_in spellings bytes) n (subst (λ m. is_number (number_in spellings bytes) m ≡ true) same at)

pub word_number_is : (n : ℕ) (bytes : List ℕ) → IsWord n bytes → number_in words bytes ≡ Some n
word_number_is n bytes e = numbered words n bytes refl e

pub mark_number_is : (n : ℕ) (bytes : List ℕ) → IsMark n bytes → number_in marks bytes ≡ Some n
mark_number_is n bytes e = numbered marks n bytes refl e

-- words begin with letters, and go on with letters, digits and `_`
abbrev begins_with_letter : List ℕ → Bool
begins_with_letter [] = false
begins_with_letter (b ∷ bs) = is_letter b

pub word_some : (n : ℕ) → IsWord n [] → ⊥
word_some n e = let p = passes_at begins_with_letter words n [] refl e in cc

pub word_begins : (n b : ℕ) (bs : List ℕ) → IsWord n (b ∷ bs) → is_letter b ≡ true
word_begins n b bs e = passes_at begins_with_letter words n (b ∷ bs) refl e

pub word_run : (n : ℕ) (bytes : List ℕ) → IsWord n bytes → AllPass is_word_byte bytes
word_run n bytes e = AllPass-from_list_all is_word_byte bytes (passes_at (list_all is_word_byte) words n bytes refl e)

pub word_short : (n : ℕ) (bytes : List ℕ) → IsWord n bytes → length bytes ≤ 19
word_short n bytes e = leb-true (length bytes) 19 (passes_at (λ w. nat_le (length w) 19) words n bytes refl e)

pub word_within : (n : ℕ) (bytes : List ℕ) → IsWord n bytes → n < 35
word_within n bytes e = ltb-true n 35 (subst (λ m. nat_lt m 35 ≡ true) same at)
  where
    at : nat_lt (n + 0) 35 ≡ true
    at = each_at (λ k w. nat_lt k 35) 0 words n bytes refl e

    same : n + 0 ≡ n
    same = omega arith

-- the slot of a word has its number
pub word_stands : (n : ℕ) (bytes : List ℕ) → IsWord n bytes → slice_index SLOTS (word_slot bytes) ≡ n
word_stands n bytes e = let at = eqb-true (slice_index SLOTS (word_slot bytes)) (n + 0) (each_at (λ k w. slice_index SLOTS (word_slot w) == k) 0 words n bytes refl e) in omega arith

-- marks are made of bytes of their own class
abbrev begins_with_mark : List ℕ → Bool
begins_with_mark [] = false
begins_with_mark (b ∷ bs) = class_sort (class_of b) == 2

pub mark_some : (n : ℕ) → IsMark n [] → ⊥
mark_some n e = let p = passes_at begins_with_mark marks n [] refl e in cc

pub mark_begins : (n b : ℕ) (bs : List ℕ) → IsMark n (b ∷ bs) → class_sort (class_of b) ≡ 2
mark_begins n b bs e = eqb-true (class_sort (class_of b)) 2 (passes_at begins_with_mark marks n (b ∷ bs) refl e)

pub mark_line : (n : ℕ) (bytes : List ℕ) → IsMark n bytes → AllPass is_no_line_feed bytes
mark_line n bytes e = AllPass-from_list_all is_no_line_feed bytes (passes_at (list_all is_no_line_feed) marks n bytes refl e)

-- where the letters of a word stand
abbrev start : ℕ → ℕ
start n = slice_index STARTS n

abbrev letters_stand : ℕ → Bool
letters_stand n = nat_le (start n) (start (n + 1)) && (nat_le (start (n + 1)) 217 && bytes_eq (take (start (n + 1) - start n) (drop (start n) LETTERS)) (slice_index_or words n []))

stand : (n : ℕ) → n < 35 → letters_stand n ≡ true
stand n within = agree_below_at letters_stand (λ m. true) 35 n refl within

pub starts_rise : (n : ℕ) → n < 35 → slice_index STARTS n ≤ slice_index STARTS (n + 1)
starts_rise n within = leb-true (start n) (start (n + 1)) (and_parts _ _ (stand n within)).0

pub starts_within : (n : ℕ) → n < 35 → slice_index STARTS (n + 1) ≤ 217
starts_within n within = leb-true (start (n + 1)) 217 (and_parts _ _ (and_parts _ _ (stand n within)).1).0

pub letters_are : (n : ℕ) → n < 35 → take (slice_index STARTS (n + 1) - slice_index STARTS n) (drop (slice_index STARTS n) LETTERS) ≡ slice_index_or words n []
letters_are n within = (bytes_eq-Decides _ _).0 (and_parts _ _ (and_parts _ _ (stand n within)).1).1

-- a word stands at its number
pub word_at : (n : ℕ) (bytes : List ℕ) → n < 35 → slice_index_or words n [] ≡ bytes → IsWord n bytes
word_at n bytes within e = slice_get-get_or words n [] within ∙ ap Some e

pub word_is : (n : ℕ) (bytes : List ℕ) → IsWord n bytes → slice_index_or words n [] ≡ bytes
word_is n bytes e = get_or_from_slice_get words n bytes [] e

pub word_long : (n : ℕ) (bytes : List ℕ) → length bytes ≡ 0 → IsWord n bytes → ⊥
word_long n [] e word = word_some n word
word_long n (b ∷ bs) e word = omega arith

-- the number in the slot of a word is the word's
pub word_in_slot : (n number slot : ℕ) (bytes : List ℕ) → number ≡ slice_index SLOTS slot → slot ≡ word_slot bytes → IsWord n bytes → number ≡ n
word_in_slot n number slot bytes e f word = e ∙ (ap (slice_index SLOTS) f ∙ word_stands n bytes word)
