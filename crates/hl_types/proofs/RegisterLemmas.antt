-- Decimal numbers, and what stands behind a front.
use Rattle.std.proofs.Common.{◌≡◌, refl, sym, ℕ, ◌-◌, ◌<◌, Bool, true, false, if◌then◌else◌, ◌&&◌, ◌==◌, List, [], ◌∷◌, length, take, drop, get_or, nat_eq, None, arith}
use Rattle.std.specs.Char.{digit_value, is_ascii_digit}
use Rattle.std.specs.List.{list_all}
use Rattle.std.proofs.lemmas.Bool.{agree_below_at, eqb-true}
use Rattle.std.proofs.lemmas.List.Folds.{list_all_at}
use Rattle.std.specs.Cmp.Lexicographic.{pointwise}
use Rattle.hl_lexer.proofs.ByteFacts.{digit_small}
use Rattle.hl_rules.specs.DeclarationRules.{decimal_number, number_behind}

digit-at : (digits : List ℕ) (i : ℕ) → list_all is_ascii_digit digits ≡ true → i < length digits → is_ascii_digit (get_or digits i 0) ≡ true
digit-at digits i all within = by (is_ascii_digit (get_or digits i 0)) refl
  where
    by : (b : Bool) → is_ascii_digit (get_or digits i 0) ≡ b → is_ascii_digit (get_or digits i 0) ≡ true
    by true e = e
    by false e = absurd (cc (all, list_all_at is_ascii_digit digits i 0 within e))

-- whether a digit is worth what its byte says
abbrev is_worth : ℕ → Bool
is_worth b = if is_ascii_digit b then digit_value b == b - 48 else true

worth-of : (b : ℕ) (digit : Bool) → (if digit then digit_value b == b - 48 else true) ≡ true → digit ≡ true → (digit_value b == b - 48) ≡ true
worth-of b true e h = e
worth-of b false e h = absurd (cc h)

pub digit-worth : (digits : List ℕ) (i : ℕ) → list_all is_ascii_digit digits ≡ true → i < length digits → get_or digits i 0 - 48 ≡ digit_value (get_or digits i 0)
digit-worth digits i all within =
    let b = get_or digits i 0 in
    let e = digit-at digits i all within in
    sym (eqb-true (digit_value b) (b - 48) (worth-of b (is_ascii_digit b) (agree_below_at is_worth (λ n. true) 256 b refl (digit_small b e)) e))

eq-swapped : (a b : ℕ) → nat_eq a b ≡ nat_eq b a
eq-swapped a b = grind arith

pub behind-front : (front text : List ℕ) → pointwise nat_eq (take (length front) text) front ≡ true → number_behind front text ≡ decimal_number (drop (length front) text)
behind-front [] text e = refl
behind-front (letter ∷ front) [] e = absurd (cc e)
behind-front (letter ∷ front) (first ∷ text) e = by (nat_eq first letter) (nat_eq letter first) (eq-swapped first letter) e (λ h. behind-front front text h)
  where
    by : (b b' : Bool) → b ≡ b' → (b && pointwise nat_eq (take (length front) text) front) ≡ true
        → (pointwise nat_eq (take (length front) text) front ≡ true → number_behind front text ≡ decimal_number (drop (length front) text))
        → (if b' then number_behind front text else None) ≡ decimal_number (drop (length front) text)
    by true true same h rest = rest h
    by false b' same h rest = absurd (cc h)
    by true false same h rest = absurd (cc same)

pub behind-none : (front text : List ℕ) → pointwise nat_eq (take (length front) text) front ≡ false → None ≡ number_behind front text
behind-none [] text e = absurd (cc e)
behind-none (letter ∷ front) [] e = refl
behind-none (letter ∷ front) (first ∷ text) e = by (nat_eq first letter) (nat_eq letter first) (eq-swapped first letter) e (λ h. behind-none front text h)
  where
    by : (b b' : Bool) → b ≡ b' → (b && pointwise nat_eq (take (length front) text) front) ≡ false
        → (pointwise nat_eq (take (length front) text) front ≡ false → None ≡ number_behind front text)
        → None ≡ (if b' then number_behind front text else None)
    by true true same h rest = rest h
    by b false same h rest = refl
    by false true same h rest = absurd (cc same)
