-- Lists of which the first parts are passed over, and lists of zeros.
use Rattle.std.proofs.Common.{◌≡◌, ◌∙◌, refl, sym, ap, ℕ, zero, suc, ◌-◌, min, List, [], ◌∷◌, drop, length, length-drop, map, replicate, take, arith}
use Rattle.std.proofs.lemmas.List.{drop-map, drop_all, take_all}

drop-same : {A : Type 0} (xs : List A) (m p : ℕ) → m ≡ min p (length xs) → drop m xs ≡ drop p xs
drop-same [] m p e = drop_all m [] (omega arith) ∙ sym (drop_all p [] (omega arith))
drop-same (x ∷ xs) zero zero e = refl
drop-same (x ∷ xs) zero (suc p) e = absurd (omega arith)
drop-same (x ∷ xs) (suc m) zero e = absurd (omega arith)
drop-same (x ∷ xs) (suc m) (suc p) e = drop-same xs m p (omega arith)

map-both : {A B C : Type 0} (g : A → B) (f : B → C) (xs : List A) → map (λ x. f (g x)) xs ≡ map f (map g xs)
map-both g f [] = refl
map-both g f (x ∷ xs) = ap (λ l. f (g x) ∷ l) (map-both g f xs)

-- what is made of the parts behind the first ones
pub skipped : {A B C : Type 0} (g : A → B) (f : B → C) (xs : List A) (p m : ℕ) → m ≡ min p (length xs) → map (λ x. f (g x)) (take (length xs - m) (drop m xs)) ≡ map f (drop p (map g xs))
skipped g f xs p m e =
    ap (map (λ x. f (g x))) (take_all (length xs - m) (drop m xs) (omega (arith, length-drop m xs)) ∙ drop-same xs m p e) ∙
    (map-both g f (drop p xs) ∙ ap (map f) (sym (drop-map g p xs)))

-- so many zeros
pub zero-words : (words : List ℕ) → map {B = ℕ} (λ _. 0) words ≡ replicate (length words) 0
zero-words [] = refl
zero-words (w ∷ words) = ap (λ l. 0 ∷ l) (zero-words words)
