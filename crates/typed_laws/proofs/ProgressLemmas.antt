-- Parts of a run, one after another.
use Rattle.std.proofs.Common.{◌≡◌, ◌∙◌, refl, sym, ap, ℕ, List, [], ◌∷◌, ◌++◌}
use Rattle.std.proofs.lemmas.List.{append_assoc, append-nil}
use Rattle.std.specs.List.{concat}
use Rattle.hl_source.specs.State.{Progress, State, after, each, ends_at, goes_with}

pub after_cong : {A B : Type 0} (p : Progress A) (f g : A → State → Progress B) → ((a : A) (s : State) → f a s ≡ g a s) → after p f ≡ after p g
after_cong (goes_with a s) f g h = h a s
after_cong (ends_at run) f g h = refl

pub after_assoc : {A B C : Type 0} (p : Progress A) (f : A → State → Progress B) (g : B → State → Progress C) →
    after (after p f) g ≡ after p (λ a s. after (f a s) g)
after_assoc (goes_with a s) f g = refl
after_assoc (ends_at run) f g = refl

-- what is given by a part, as another
abbrev pub giving : {A B : Type 0} → (A → B) → Progress A → Progress B
giving f p = after p (λ a s. goes_with (f a) s)

pub giving_cong : {A B : Type 0} (f g : A → B) → ((a : A) → f a ≡ g a) → (p : Progress A) → giving f p ≡ giving g p
giving_cong f g h p = after_cong p _ _ (λ a s. ap (λ b. goes_with b s) (h a))

pub after_giving : {A B C : Type 0} (f : A → B) (p : Progress A) (g : B → State → Progress C) → after (giving f p) g ≡ after p (λ a s. g (f a) s)
after_giving f (goes_with a s) g = refl
after_giving f (ends_at run) g = refl

pub giving_after : {A B C : Type 0} (f : B → C) (p : Progress A) (g : A → State → Progress B) → giving f (after p g) ≡ after p (λ a s. giving f (g a s))
giving_after f (goes_with a s) g = refl
giving_after f (ends_at run) g = refl

pub giving_giving : {A B C : Type 0} (f : A → B) (g : B → C) (p : Progress A) → giving g (giving f p) ≡ giving (λ a. g (f a)) p
giving_giving f g (goes_with a s) = refl
giving_giving f g (ends_at run) = refl

pub giving_same : {A : Type 0} (f : A → A) → ((a : A) → f a ≡ a) → (p : Progress A) → giving f p ≡ p
giving_same f h (goes_with a s) = ap (λ b. goes_with b s) (h a)
giving_same f h (ends_at run) = refl

-- the parts for two lists, one after the other
pub each_append : {A B : Type 0} (part : A → State → Progress B) (xs ys : List A) (s : State) →
    each part (xs ++ ys) s ≡ after (each part xs s) (λ as_first s1. giving (λ bs. as_first ++ bs) (each part ys s1))
each_append part [] ys s = sym (giving_same (λ bs. bs) (λ bs. refl) (each part ys s))
each_append part (x ∷ xs) ys s =
    let whole : (b : _) (s1 : State) → giving (λ bs. b ∷ bs) (each part (xs ++ ys) s1) ≡
    after (giving (λ bs. b ∷ bs) (each part xs s1)) (λ first s2. giving (λ bs. first ++ bs) (each part ys s2)) =
    λ b s1. ap (giving (λ bs. b ∷ bs)) (each_append part xs ys s1) ∙
    (giving_after (λ bs. b ∷ bs) (each part xs s1) _ ∙
    (after_cong (each part xs s1) _ _ (λ first s2. giving_giving (λ bs. first ++ bs) (λ bs. b ∷ bs) (each part ys s2)) ∙
    sym (after_giving (λ bs. b ∷ bs) (each part xs s1) _))) in
    after_cong (part x s) _ _ whole ∙ sym (after_assoc (part x s) _ _)

pub concat_append : (xs ys : List (List ℕ)) → concat (xs ++ ys) ≡ concat xs ++ concat ys
concat_append [] ys = refl
concat_append (x ∷ xs) ys = ap (λ r. x ++ r) (concat_append xs ys) ∙ sym (append_assoc x (concat xs) (concat ys))

pub concat_one : (xs : List ℕ) → concat (xs ∷ []) ≡ xs
concat_one xs = append-nil xs
