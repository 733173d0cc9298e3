-- Lemmas on a front of some bytes that was copied into a buffer.
use Rattle.std.proofs.Common.{◌≡◌, ℕ, ◌≤◌, List, [], ◌∷◌, ◌++◌, length, take, drop, refl, sym, ap, ◌∙◌, arith}
use Rattle.std.proofs.lemmas.List.{take_at, drop_at, take-append-drop, length-take-le}

-- the buffer begins with what the bytes lost
pub front_copied : (bytes into new : List ℕ) (n : ℕ) → n ≤ length bytes → new ≡ take n bytes ++ drop n into → bytes ≡ take n new ++ drop n bytes
front_copied bytes into new n fits copied =
    let front : take n new ≡ take n bytes = ap (take n) copied ∙ take_at (take n bytes) (drop n into) n (length-take-le n bytes fits) in
    sym (take-append-drop n bytes) ∙ ap (λ l. l ++ drop n bytes) (sym front)

pub rest_kept : (bytes into new : List ℕ) (n : ℕ) → n ≤ length bytes → new ≡ take n bytes ++ drop n into → drop n new ≡ drop n into
rest_kept bytes into new n fits copied =
    ap (drop n) copied ∙ drop_at (take n bytes) (drop n into) n (length-take-le n bytes fits)

pub nil_of_length : (bytes : List ℕ) → length bytes ≡ 0 → bytes ≡ []
nil_of_length [] h = refl
nil_of_length (b ∷ bytes) h = grind arith
