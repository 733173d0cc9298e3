-- The letters of swizzles.
use Rattle.std.proofs.Common.{◌≡◌, ◌∙◌, refl, sym, ap, ℕ, true, false, if◌then◌else◌, List, [], ◌∷◌, ◌++◌, drop, length, get_or, ◌<◌, ◌+◌, ◌==◌, nat_lt, Option, None, Some, append_assoc}
use Rattle.std.specs.Prelude.{option_map, option_and_then, position}
use Rattle.std.specs.List.{list_all}
use Rattle.std.proofs.lemmas.List.{at_drop_more}
use Rattle.hl_rules.specs.Values.{letters_in, letters_within, swizzle_letters}

push-front : (found : List ℕ) (number : ℕ) (o : Option (List ℕ)) → option_map (λ rest. (found ++ number ∷ []) ++ rest) o ≡ option_map (λ rest. found ++ rest) (option_map (λ more. number ∷ more) o)
push-front found number None = refl
push-front found number (Some rest) = ap Some (append_assoc found (number ∷ []) rest)

-- one more letter is in the alphabet, or isn't
pub letters-turn : (alphabet name found next : List ℕ) (i number : ℕ) (whole : Option (List ℕ)) → option_map (λ rest. found ++ rest) (letters_in alphabet (drop i name)) ≡ whole → i < length name → Some number ≡ position (λ x. x == get_or name i 0) alphabet → next ≡ found ++ number ∷ [] → option_map (λ rest. next ++ rest) (letters_in alphabet (drop (i + 1) name)) ≡ whole
letters-turn alphabet name found next i number whole inv within is pushed =
    ap (λ l. option_map (λ rest. l ++ rest) (letters_in alphabet (drop (i + 1) name))) pushed ∙
    (push-front found number (letters_in alphabet (drop (i + 1) name)) ∙
    (ap (λ o. option_map (λ rest. found ++ rest) (option_and_then (λ n. option_map (λ more. n ∷ more) (letters_in alphabet (drop (i + 1) name))) o)) is ∙
    (sym (at_drop_more (λ l. option_map (λ rest. found ++ rest) (letters_in alphabet l)) name i 0 within) ∙ inv)))

pub letters-stop : (alphabet name found : List ℕ) (i : ℕ) (whole : Option (List ℕ)) → option_map (λ rest. found ++ rest) (letters_in alphabet (drop i name)) ≡ whole → i < length name → None ≡ position (λ x. x == get_or name i 0) alphabet → None ≡ whole
letters-stop alphabet name found i whole inv within is =
    ap (λ o. option_map (λ rest. found ++ rest) (option_and_then (λ n. option_map (λ more. n ∷ more) (letters_in alphabet (drop (i + 1) name))) o)) is ∙
    (sym (at_drop_more (λ l. option_map (λ rest. found ++ rest) (letters_in alphabet l)) name i 0 within) ∙ inv)

pub within-there : (size : ℕ) (name letters : List ℕ) → Some letters ≡ swizzle_letters name → list_all (λ letter. nat_lt letter size) letters ≡ true → Some letters ≡ letters_within size name
within-there size name letters is all =
    ap (λ b. if b then Some letters else None) (sym all) ∙
    ap (λ o. option_and_then (λ letters. if list_all (λ letter. nat_lt letter size) letters then Some letters else None) o) is
