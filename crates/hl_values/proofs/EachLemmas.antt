-- What all of several become, one after another.
use Rattle.std.proofs.Common.{◌≡◌, ◌∙◌, refl, sym, ap, ℕ, suc, ◌+◌, ◌<◌, ◌≤◌, List, [], ◌∷◌, ◌++◌, length, drop, map, get_or, Option, None, Some}
use Rattle.std.specs.Prelude.{option_and_then, option_map}
use Rattle.std.proofs.lemmas.List.{append-nil, append_assoc, at_drop_all, at_drop_more, map_push}
use Rattle.hl_values.specs.Few.{each}

-- those that are done, before the others
abbrev pub before : {B : Type 0} → List B → Option (List B) → Option (List B)
before done rest = option_map (λ more. done ++ more) rest

pub before-none : {B : Type 0} (o : Option (List B)) → before [] o ≡ o
before-none None = refl
before-none (Some more) = refl

before-push : {B : Type 0} (done : List B) (y : B) (o : Option (List B)) → before done (option_map (λ more. y ∷ more) o) ≡ before (done ++ y ∷ []) o
before-push done y None = refl
before-push done y (Some more) = ap Some (sym (append_assoc done (y ∷ []) more))

-- one more is done
pub each-more : {A B : Type 0} (f : A → Option B) (done : List B) (x : A) (y : B) (rest : List A) → f x ≡ Some y → before done (each f (x ∷ rest)) ≡ before (done ++ y ∷ []) (each f rest)
each-more f done x y rest is =
    ap (λ o. before done (option_and_then (λ z. option_map (λ more. z ∷ more) (each f rest)) o)) is ∙ before-push done y (each f rest)

-- one becomes nothing
pub each-stop : {A B : Type 0} (f : A → Option B) (done : List B) (x : A) (rest : List A) → f x ≡ None → before done (each f (x ∷ rest)) ≡ None
each-stop f done x rest is = ap (λ o. before done (option_and_then (λ z. option_map (λ more. z ∷ more) (each f rest)) o)) is

pub each-end : {B : Type 0} (done : List B) → before done (Some []) ≡ Some done
each-end done = ap Some (append-nil done)

-- ---- over a slice

pub slice-more : {A B : Type 0} (f : A → Option B) (xs : List A) (i : ℕ) (x : A) (y : B) (done : List B) (whole : Option (List B)) → before done (each f (drop i xs)) ≡ whole → i < length xs → x ≡ get_or xs i x → f x ≡ Some y → before (done ++ y ∷ []) (each f (drop (i + 1) xs)) ≡ whole
slice-more f xs i x y done whole inv within at is =
    sym (each-more f done x y (drop (i + 1) xs) is) ∙
    (ap (λ z. before done (each f (z ∷ drop (i + 1) xs))) at ∙
    (sym (at_drop_more (λ l. before done (each f l)) xs i x within) ∙ inv))

pub slice-stop : {A B : Type 0} (f : A → Option B) (xs : List A) (i : ℕ) (x : A) (done : List B) (whole : Option (List B)) → before done (each f (drop i xs)) ≡ whole → i < length xs → x ≡ get_or xs i x → f x ≡ None → None ≡ whole
slice-stop f xs i x done whole inv within at is =
    sym (each-stop f done x (drop (i + 1) xs) is) ∙
    (ap (λ z. before done (each f (z ∷ drop (i + 1) xs))) at ∙
    (sym (at_drop_more (λ l. before done (each f l)) xs i x within) ∙ inv))

pub slice-end : {A B : Type 0} (f : A → Option B) (xs : List A) (i : ℕ) (done : List B) (whole : Option (List B)) → before done (each f (drop i xs)) ≡ whole → length xs ≤ i → Some done ≡ whole
slice-end f xs i done whole inv past =
    sym (each-end done) ∙ (sym (at_drop_all (λ l. before done (each f l)) xs i past) ∙ inv)

pub each-map : {A B C : Type 0} (f : B → Option C) (g : A → B) (xs : List A) → each f (map g xs) ≡ each (λ x. f (g x)) xs
each-map f g [] = refl
each-map f g (x ∷ xs) = ap (λ o. option_and_then (λ y. option_map (λ ys. y ∷ ys) o) (f (g x))) (each-map f g xs)

-- the same where what is done is held
pub held-more : {A B H : Type 0} (f : A → Option B) (v : H → B) (xs : List A) (i : ℕ) (x : A) (item : H) (done next : List H) (whole : Option (List B)) →
    before (map v done) (each f (drop i xs)) ≡ whole → i < length xs → x ≡ get_or xs i x → f x ≡ Some (v item) → next ≡ done ++ item ∷ [] →
    before (map v next) (each f (drop (i + 1) xs)) ≡ whole
held-more f v xs i x item done next whole inv within at is pushed =
    ap (λ l. before l (each f (drop (i + 1) xs))) (ap (map v) pushed ∙ map_push v done item) ∙ slice-more f xs i x (v item) (map v done) whole inv within at is

-- as many become something as there are
pub each-length : {A B : Type 0} (f : A → Option B) (xs : List A) (ys : List B) → each f xs ≡ Some ys → length ys ≡ length xs
each-length f [] ys e = let same : [] ≡ ys = cc e in ap length (sym same)
each-length {A} {B} f (x ∷ xs) ys e = by_first (f x) (each f xs) (each-length f xs) e
  where
    by_first : (y : Option B) (more : Option (List B)) → ((rest : List B) → more ≡ Some rest → length rest ≡ length xs) → option_and_then (λ z. option_map (λ rest. z ∷ rest) more) y ≡ Some ys → length ys ≡ suc (length xs)
    by_first None more rest g = absurd (cc g)
    by_first (Some z) None rest g = absurd (cc g)
    by_first (Some z) (Some own) rest g =
        let same : z ∷ own ≡ ys = cc g in
        ap length (sym same) ∙ ap suc (rest own refl)

-- ---- over a list that is taken apart

pub list-more : {A B H : Type 0} (f : A → Option B) (v : H → B) (x : A) (item : H) (rest after : List A) (done next : List H) (whole : Option (List B)) →
    before (map v done) (each f rest) ≡ whole → rest ≡ x ∷ after → f x ≡ Some (v item) → next ≡ done ++ item ∷ [] → before (map v next) (each f after) ≡ whole
list-more f v x item rest after done next whole inv left is pushed =
    ap (λ l. before l (each f after)) (ap (map v) pushed ∙ map_push v done item) ∙
    (sym (each-more f (map v done) x (v item) after is) ∙ (ap (λ l. before (map v done) (each f l)) (sym left) ∙ inv))

pub list-stop : {A B : Type 0} (f : A → Option B) (x : A) (rest after : List A) (done : List B) (whole : Option (List B)) → before done (each f rest) ≡ whole → rest ≡ x ∷ after → f x ≡ None → None ≡ whole
list-stop f x rest after done whole inv left is =
    sym (each-stop f done x after is) ∙ (ap (λ l. before done (each f l)) (sym left) ∙ inv)

pub list-end : {A B : Type 0} (f : A → Option B) (rest : List A) (done : List B) (whole : Option (List B)) → before done (each f rest) ≡ whole → rest ≡ [] → Some done ≡ whole
list-end f rest done whole inv empty = sym (each-end done) ∙ (ap (λ l. before done (each f l)) (sym empty) ∙ inv)
