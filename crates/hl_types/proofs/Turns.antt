-- One turn of a loop over a list, where a claim speaks of what is left.
use Rattle.std.proofs.Common.{◌≡◌, ◌∙◌, sym, ap, ℕ, suc, ◌+◌, ◌<◌, ◌≤◌, List, [], ◌∷◌, ◌++◌, Option, length, drop, drop-cons, get_or, add-one}
use Rattle.std.proofs.lemmas.List.{drop_all}
use Rattle.hl_rules.specs.declared.found.Broken.{Broken}
use Rattle.hl_rules.specs.Parts.{Site}
use Rattle.hl_rules.specs.Rules.{noted}
use Rattle.hl_rules.proofs.Noting.{noted-append, noted-none}

pub left-step : {A : Type 0} (xs : List A) (i : ℕ) (x : A) → i < length xs → x ≡ get_or xs i x → drop i xs ≡ x ∷ drop (i + 1) xs
left-step xs i x within is = drop-cons xs i x within ∙ (ap (λ y. y ∷ drop (suc i) xs) (sym is) ∙ ap (λ k. x ∷ drop k xs) (sym (add-one i)))

-- what a claim is of what is left, before and behind a turn
pub left-turn : {A B : Type 0} (f : List A → B) (xs : List A) (i : ℕ) (x : A) (before : B) → i < length xs → x ≡ get_or xs i x → f (drop i xs) ≡ before → f (x ∷ drop (i + 1) xs) ≡ before
left-turn f xs i x before within is invariant = ap f (sym (left-step xs i x within is)) ∙ invariant

-- and behind the last one
pub left-end : {A B : Type 0} (f : List A → B) (xs : List A) (i : ℕ) (before : B) → length xs ≤ i → f (drop i xs) ≡ before → f [] ≡ before
left-end f xs i before within invariant = ap f (sym (drop_all i xs within)) ∙ invariant

-- what is noted of places in order
pub noted-turn : {A : Type 0} (here there : List A → List Site) (xs : List A) (i : ℕ) (x : A) (inner : List Site) (before now next : Option Broken)
    → i < length xs → x ≡ get_or xs i x → here (x ∷ drop (i + 1) xs) ≡ inner ++ there (drop (i + 1) xs)
    → noted now (here (drop i xs)) ≡ before → next ≡ noted now inner → noted next (there (drop (i + 1) xs)) ≡ before
noted-turn here there xs i x inner before now next within is step invariant e =
    ap (λ f. noted f (there (drop (i + 1) xs))) e ∙ (sym (noted-append now inner (there (drop (i + 1) xs))) ∙
    (ap (noted now) (sym step) ∙ left-turn (λ l. noted now (here l)) xs i x before within is invariant))

pub noted-end : {A : Type 0} (sites : List A → List Site) (xs : List A) (i : ℕ) (before now : Option Broken)
    → length xs ≤ i → sites [] ≡ [] → noted now (sites (drop i xs)) ≡ before → now ≡ before
noted-end sites xs i before now within none invariant =
    sym (noted-none now) ∙ (ap (noted now) (sym none) ∙ left-end (λ l. noted now (sites l)) xs i before within invariant)
