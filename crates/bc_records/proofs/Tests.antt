-- Tests of numbers and records, by what they tell.
use Rattle.std.proofs.Common.{◌≡◌, ℕ, suc, ◌+◌, ◌<◌, ◌≤◌, ◌^◌, List, [], ◌∷◌, ◌++◌, length, refl, ap, ◌∙◌, subst, arith}
use Rattle.std.specs.Prelude.{Bool, true, false, ◌==◌, ◌&&◌, ◌||◌, if◌then◌else◌, nat_lt, nat_le, All}
use Rattle.std.specs.List.{list_all}
use lib.Pointwise.{pointwise}
use Rattle.std.proofs.lemmas.Bool.{lt-ltb, le-leb}
use Rattle.std.proofs.lemmas.List.{length-append, get_or_append_left, get_or-append-add}
use Rattle.std.proofs.lemmas.List.Elements.{All-head, All-tail}
use Rattle.bc_stream.specs.Blocks.{Contents}
use Rattle.bc_records.specs.Entries.{Entry, IsWord, IsText}
use Rattle.bc_records.specs.RecordKinds.{code_of, has_code, count_code, last_has_code, is_word, is_text, names, kind_unless}

pub below : (a b : ℕ) → a < b → nat_lt a b ≡ true
below a b less = lt-ltb a b less

pub at_most : (a b : ℕ) → a ≤ b → nat_le a b ≡ true
at_most a b less = le-leb a b less

pub equal : (a b : ℕ) → a ≡ b → (a == b) ≡ true
equal a b same = grind arith

pub both : (a b : Bool) → a ≡ true → b ≡ true → (a && b) ≡ true
both a b p q = ap (λ x. x && b) p ∙ q

pub neither : (a b : Bool) → (a || b) ≡ false → (a ≡ false) × (b ≡ false)
neither false b h = (refl, h)
neither true b h = absurd (impossible h)
  where
    impossible : true ≡ false → ⊥
    impossible h = cc

pub unless : (b : Bool) (kind : ℕ) → b ≡ true → kind_unless b kind ≡ []
unless b kind holds = ap (λ x. kind_unless x kind) holds

-- two groups of kinds, both empty
pub no_kinds : (ks ls : List ℕ) → ks ≡ [] → ls ≡ [] → ks ++ ls ≡ []
no_kinds ks ls p q = ap (λ x. x ++ ls) p ∙ q

pub all_pass : {A : Type 0} (P : A → Type 0) (test : A → Bool) → ((x : A) → P x → test x ≡ true) → (xs : List A) → All P xs → list_all test xs ≡ true
all_pass P test each [] all = refl
all_pass P test each (x ∷ xs) all =
    both (test x) (list_all test xs) (each x (All-head P x xs all)) (all_pass P test each xs (All-tail P x xs all))

pub all_both : {A : Type 0} (P Q : A → Type 0) (test : A → Bool) → ((x : A) → P x → Q x → test x ≡ true) → (xs : List A) → All P xs → All Q xs → list_all test xs ≡ true
all_both P Q test each [] all also = refl
all_both P Q test each (x ∷ xs) all also =
    both (test x) (list_all test xs) (each x (All-head P x xs all) (All-head Q x xs also)) (all_both P Q test each xs (All-tail P x xs all) (All-tail Q x xs also))

pub text_passes : (xs : List ℕ) → IsText xs → is_text xs ≡ true
text_passes xs text = all_pass (λ c. c < 256) (λ c. nat_lt c 256) (λ c less. below c 256 less) xs text

pub word_passes : (n : ℕ) → IsWord n → is_word n ≡ true
word_passes n word = below n (2 ^ 32) word

pub name_passes : (count n : ℕ) → n < count → IsWord n → names count n ≡ true
name_passes count n less word = both (nat_lt n count) (is_word n) (below n count less) (word_passes n word)

pub names_pass : (count : ℕ) (xs : List ℕ) → All (λ n. n < count) xs → All IsWord xs → list_all (names count) xs ≡ true
names_pass count xs all words = all_both (λ n. n < count) IsWord (names count) (name_passes count) xs all words

pub same_passes : (xs : List ℕ) → pointwise (λ x y. x == y) xs xs ≡ true
same_passes [] = refl
same_passes (x ∷ xs) = both (x == x) (pointwise (λ a b. a == b) xs xs) (equal x x refl) (same_passes xs)

-- one record more

pub code_before : (code : ℕ) (before : List Entry) (e : Entry) → has_code code before ≡ false → (code_of e == code) ≡ false → has_code code (before ++ e ∷ []) ≡ false
code_before code [] e none other = ap (λ b. b || false) other
code_before code (x ∷ xs) e none other =
    let apart = neither (code_of x == code) (has_code code xs) none in
    ap (λ b. b || has_code code (xs ++ e ∷ [])) apart.0 ∙ code_before code xs e apart.1 other

pub either_stays : (a b c : Bool) → (b ≡ true → c ≡ true) → (a || b) ≡ true → (a || c) ≡ true
either_stays true b c stays h = refl
either_stays false b c stays h = stays h

pub code_stays : (code : ℕ) (before : List Entry) (e : Entry) → has_code code before ≡ true → has_code code (before ++ e ∷ []) ≡ true
code_stays code [] e has = absurd (impossible has)
  where
    impossible : false ≡ true → ⊥
    impossible h = cc
code_stays code (x ∷ xs) e has = either_stays (code_of x == code) (has_code code xs) (has_code code (xs ++ e ∷ [])) (code_stays code xs e) has

pub last_more : (code : ℕ) (before : List Entry) (e : Entry) → last_has_code code (before ++ e ∷ []) ≡ (code_of e == code)
last_more code [] e = refl
last_more code (x ∷ []) e = refl
last_more code (x ∷ y ∷ ys) e = last_more code (y ∷ ys) e

-- lists of what is said of each

-- something holds of each block
abbrev pub Each : (Contents → Type 0) → List Contents → Type 0
Each P [] = Unit {0}
Each P (b ∷ bs) = P b × Each P bs

pub both_none : {A : Type 0} (xs ys : List A) → xs ++ ys ≡ [] → (xs ≡ []) × (ys ≡ [])
both_none [] ys none = (refl, none)
both_none (x ∷ xs) ys none = absurd (omega (arith, ap length none))

pub all_left : {A : Type 0} (P : A → Type 0) (xs ys : List A) → All P (xs ++ ys) → All P xs
all_left P xs ys all = λ k d within. subst P (get_or_append_left xs ys d k within) (all k d (omega (arith, within, length-append xs ys)))

pub all_right : {A : Type 0} (P : A → Type 0) (xs ys : List A) → All P (xs ++ ys) → All P ys
all_right P xs ys all = λ k d within. subst P (get_or-append-add xs ys k d) (all (length xs + k) d (omega (arith, within, length-append xs ys)))

add_if : (b : Bool) (m n k : ℕ) → m ≡ n + k → (if b then suc m else m) ≡ (if b then suc n else n) + k
add_if true m n k same = omega (arith, same)
add_if false m n k same = same

pub count_more : (code : ℕ) (xs ys : List Entry) → count_code code (xs ++ ys) ≡ count_code code xs + count_code code ys
count_more code [] ys = omega arith
count_more code (x ∷ xs) ys = add_if (code_of x == code) (count_code code (xs ++ ys)) (count_code code xs) (count_code code ys) (count_more code xs ys)
