-- Lists that are gone through from the front: what was made so far, and what the rest makes.
use Rattle.std.proofs.Common.{◌≡◌, ◌∙◌, ap, sym, ℕ, ◌+◌, ◌<◌, ◌≤◌, List, [], ◌∷◌, ◌++◌, get_or, length, map, take}
use Rattle.std.proofs.lemmas.List.{map-append, map_more, take_all}
pub use Rattle.hl_layout.proofs.Parts.{drop-next, made-next}

-- the parts so far, with one more
pub take-next : {A B : Type 0} (f : A → B) (xs : List A) (i : ℕ) (x : A) → i < length xs → x ≡ get_or xs i x → map f (take (i + 1) xs) ≡ map f (take i xs) ++ f x ∷ []
take-next f xs i x within is = map_more f xs i x within ∙ ap (λ y. map f (take i xs) ++ f y ∷ []) (sym is)

-- a copy of one more part
pub copied-next : {A B : Type 0} (f : A → B) (xs : List A) (i : ℕ) (x copy : A) (copies made : List A) → i < length xs → x ≡ get_or xs i x
    → map f copies ≡ map f (take i xs) → f copy ≡ f x → made ≡ copies ++ copy ∷ [] → map f made ≡ map f (take (i + 1) xs)
copied-next f xs i x copy copies made within is e same grown =
    ap (map f) grown ∙ (map-append f copies (copy ∷ []) ∙ (ap (λ l. l ++ f copy ∷ []) e ∙ (ap (λ y. map f (take i xs) ++ y ∷ []) same ∙ sym (take-next f xs i x within is))))

pub copied-end : {A B : Type 0} (f : A → B) (xs : List A) (i : ℕ) (copies : List A) → length xs ≤ i → map f copies ≡ map f (take i xs) → map f copies ≡ map f xs
copied-end f xs i copies past e = e ∙ ap (map f) (take_all i xs past)

-- one more of what is mapped
pub mapped-more : {A B : Type 0} (f : A → B) (xs grown : List A) (x : A) (y : B) → grown ≡ xs ++ x ∷ [] → f x ≡ y → map f grown ≡ map f xs ++ y ∷ []
mapped-more f xs grown x y e is = ap (map f) e ∙ (map-append f xs (x ∷ []) ∙ ap (λ z. map f xs ++ z ∷ []) is)
