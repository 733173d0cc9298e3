-- The table of the names of intrinsic functions.
use Rattle.std.proofs.Common.{◌≡◌, ◌∙◌, refl, sym, ap, subst, ℕ, ◌+◌, ◌-◌, ◌<◌, ◌≤◌, Bool, true, false, ◌&&◌, ◌==◌, List, [], ◌∷◌, Option, None, Some, length, map, slice_get, slice_index, slice_index_or, get_or, take, drop, arith, nat_le, if◌then◌else◌}
use Rattle.std.specs.Prelude.{option_map}
use Rattle.std.specs.Str.{bytes_eq}
use Rattle.std.proofs.lemmas.Bool.{agree_below_at, and_parts, eqb-true, le-leb, leb-true}
use Rattle.std.proofs.lemmas.List.Quantifiers.{position-Some}
use Rattle.std.proofs.lemmas.Option.{get_or_from_slice_get, slice_get-get_or, slice_get-map, slice_get_within}
use Rattle.std.proofs.lemmas.Slice.Eq.{bytes_eq-Decides}
use Rattle.hl_meaning.specs.declared.intrinsic.Signature.TheVariants.{Atomic}
use Rattle.hl_meaning.specs.Intrinsics.{Intrinsic, intrinsics, signature_of}
use Rattle.hl_lexer.proofs.Lists.{each_at, each_passes, passes_at}
use Rattle.hl_rules.specs.Intrinsics.{interlocked_form, interlocked_forms, intrinsic_named}
use Rattle.hl_values.specs.declared.intrinsics.TheConstants.{INTERLOCKED, LETTERS, SIGNATURES, SLOTS, STARTS}
use Rattle.hl_values.specs.Intrinsics.{intrinsic_names, name_slot}

abbrev is_number : Option ℕ → ℕ → Bool
is_number None n = false
is_number (Some m) n = m == n

number_from_test : (found : Option ℕ) (n : ℕ) → is_number found n ≡ true → found ≡ Some n
number_from_test None n e = cc
number_from_test (Some m) n e = ap Some (eqb-true m n e)

-- each name is found at its number
pub name_found : (n : ℕ) (name : List ℕ) → slice_get intrinsic_names n ≡ Some name → intrinsic_named name ≡ Some n
name_found n name e =
    let at = each_at (λ k own. is_number (intrinsic_named own) k) 0 intrinsic_names n name refl e in
    let same : n + 0 ≡ n = omega arith in
    number_from_test (intrinsic_named name) n (subst (λ m. is_number (intrinsic_named name) m ≡ true) same at)

-- a name that is found stands at its number
pub name_stands : (n : ℕ) (name : List ℕ) → intrinsic_named name ≡ Some n → slice_get intrinsic_names n ≡ Some name
name_stands n name e =
    let found = position-Some (λ r. bytes_eq r.name name) intrinsics n none e in
    let same = (bytes_eq-Decides (get_or intrinsics n none).name name).0 found.1 in
    slice_get-map (λ r. r.name) intrinsics n ∙ (ap (option_map (λ r. r.name)) (slice_get-get_or intrinsics n none found.0) ∙ ap Some same)
  where
    none : Intrinsic
    none = record { name = []; signature = Atomic }

pub name_some : (n : ℕ) (name : List ℕ) → intrinsic_named name ≡ Some n → 3 ≤ length name
name_some n name e = leb-true 3 (length name) (passes_at (λ own. nat_le 3 (length own)) intrinsic_names n name refl (name_stands n name e))

pub name_short : (n : ℕ) (name : List ℕ) → intrinsic_named name ≡ Some n → length name ≤ 32
name_short n name e = leb-true (length name) 32 (passes_at (λ own. nat_le (length own) 32) intrinsic_names n name refl (name_stands n name e))

pub name_within : (n : ℕ) (name : List ℕ) → intrinsic_named name ≡ Some n → n < 46
name_within n name e = slice_get_within intrinsic_names n name (name_stands n name e)

-- the name of a number that is found
pub name_is : (n : ℕ) (name : List ℕ) → intrinsic_named name ≡ Some n → slice_index_or intrinsic_names n [] ≡ name
name_is n name e = get_or_from_slice_get intrinsic_names n name [] (name_stands n name e)

-- the name at a number is found there
pub name_at : (n : ℕ) (name : List ℕ) → n < 46 → slice_index_or intrinsic_names n [] ≡ name → intrinsic_named name ≡ Some n
name_at n name within e = name_found n name (slice_get-get_or intrinsic_names n [] within ∙ ap Some e)

-- the slot of a name has its number
pub name_in_slot : (n number slot : ℕ) (name : List ℕ) → number ≡ slice_index SLOTS slot → slot ≡ name_slot name → intrinsic_named name ≡ Some n → number ≡ n
name_in_slot n number slot name e f found =
    let at = eqb-true (slice_index SLOTS (name_slot name)) (n + 0) (each_at (λ k own. slice_index SLOTS (name_slot own) == k) 0 intrinsic_names n name refl (name_stands n name found)) in
    let same : slice_index SLOTS (name_slot name) ≡ n = omega (arith, at) in
    e ∙ (ap (slice_index SLOTS) f ∙ same)

-- where the letters of a name stand
abbrev start : ℕ → ℕ
start n = slice_index STARTS n

abbrev letters_stand : ℕ → Bool
letters_stand n = nat_le (start n) (start (n + 1)) && (nat_le (start (n + 1)) 675 && bytes_eq (take (start (n + 1) - start n) (drop (start n) LETTERS)) (slice_index_or intrinsic_names n []))

stand : (n : ℕ) → n < 46 → letters_stand n ≡ true
stand n within = agree_below_at letters_stand (λ m. true) 46 n refl within

pub starts_rise : (n : ℕ) → n < 46 → slice_index STARTS n ≤ slice_index STARTS (n + 1)
starts_rise n within = leb-true (start n) (start (n + 1)) (and_parts _ _ (stand n within)).0

pub starts_within : (n : ℕ) → n < 46 → slice_index STARTS (n + 1) ≤ 675
starts_within n within = leb-true (start (n + 1)) 675 (and_parts _ _ (and_parts _ _ (stand n within)).1).0

pub letters_are : (n : ℕ) → n < 46 → take (slice_index STARTS (n + 1) - slice_index STARTS n) (drop (slice_index STARTS n) LETTERS) ≡ slice_index_or intrinsic_names n []
letters_are n within = (bytes_eq-Decides _ _).0 (and_parts _ _ (and_parts _ _ (stand n within)).1).1

-- the other tables
pub signatures_are : map (λ r. r.signature) intrinsics ≡ SIGNATURES
signatures_are = refl

pub signature_at : (n : ℕ) → signature_of n ≡ slice_get SIGNATURES n
signature_at n = sym (slice_get-map (λ r. r.signature) intrinsics n) ∙ ap (λ l. slice_get l n) signatures_are

pub interlocked_are : interlocked_forms ≡ INTERLOCKED
interlocked_are = refl

pub interlocked_at : (n : ℕ) → slice_get interlocked_forms n ≡ slice_get INTERLOCKED n
interlocked_at n = ap (λ l. slice_get l n) interlocked_are

pub interlocked_from : (n : ℕ) → 11 ≤ n → interlocked_form n ≡ slice_get INTERLOCKED (n - 11)
interlocked_from n from =
    ap (λ b. if b then slice_get interlocked_forms (n - 11) else None) (le-leb 11 n from) ∙ interlocked_at (n - 11)

-- none is found
pub none_found : (o : Option ℕ) → ((n : ℕ) → o ≡ Some n → ⊥) → o ≡ None
none_found None not = refl
none_found (Some n) not = absurd (not n refl)
