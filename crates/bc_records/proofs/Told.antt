-- What tests of numbers and records tell, and what is told of a block without a fault.
use mathlib.Core.Logic.{◌⊎◌, inl, inr}
use Rattle.std.proofs.Common.{◌≡◌, ℕ, ◌<◌, ◌≤◌, ◌^◌, List, [], ◌∷◌, ◌++◌, map, length, refl, ap, sym, ◌∙◌, subst, arith}
use Rattle.std.specs.Prelude.{◌≢◌, Bool, true, false, ◌||◌, ◌==◌, if◌then◌else◌, nat_lt, nat_le, drop, All, flat_map}
use Rattle.std.specs.List.{list_all}
use lib.Pointwise.{pointwise}
use Rattle.std.proofs.lemmas.Bool.{ltb-true, leb-true, eqb-true, true≢false, and_parts, or_left, or_right}
use Rattle.std.proofs.lemmas.Bool.Decides.{eqb_tells}
use Rattle.std.proofs.lemmas.List.Elements.{All-nil, All-cons, All-head, All-tail, All-append}
use Rattle.bc_stream.specs.Blocks.{Contents}
use Rattle.bc_records.specs.Entries.{Entry, entries_in, block_ids, IsWord, IsText}
use Rattle.bc_records.specs.RecordKinds.{code_of, operand, counts, kind_if, kind_unless, is_word, is_text, names, has_code}
use Rattle.bc_records.specs.Read.{word, words, text}
use Rattle.bc_records.proofs.FreeSites.{FreeRecords}
use Rattle.bc_records.proofs.Tests.{Each, both_none, no_kinds}

-- a block of records alone, none of which has a kind of fault
abbrev pub Plain : ((before : List Entry) → Entry → (after : List Entry) → List ℕ) → Contents → Type 0
Plain kinds block = (block_ids block ≡ []) × FreeRecords kinds [] (entries_in block)

-- a claim of a number holds of a known one, or the number is another
pub choose : (P : ℕ → Type 0) (code known : ℕ) → P known → ((code == known) ≡ false → P code) → P code
choose P code known here other = by (eqb_tells code known)
  where
    by : (((code == known) ≡ true) × (code ≡ known)) ⊎ (((code == known) ≡ false) × (code ≢ known)) → P code
    by (inl h) = subst P (sym h.1) here
    by (inr h) = other h.0

-- kinds that aren't there

pub some_kind : {A : Type 0} {P : Type 0} (x : A) (xs : List A) → x ∷ xs ≡ [] → P
some_kind x xs none = absurd (omega (arith, ap length none))

pub told_unless : (b : Bool) (kind : ℕ) → kind_unless b kind ≡ [] → b ≡ true
told_unless true kind none = refl
told_unless false kind none = some_kind kind [] none

pub told_if : (b : Bool) (kind : ℕ) → kind_if b kind ≡ [] → b ≡ false
told_if true kind none = some_kind kind [] none
told_if false kind none = refl

pub told_two : (b c : Bool) (kind other : ℕ) → kind_unless b kind ++ kind_unless c other ≡ [] → (b ≡ true) × (c ≡ true)
told_two b c kind other none =
    let apart = both_none (kind_unless b kind) (kind_unless c other) none in (told_unless b kind apart.0, told_unless c other apart.1)

-- numbers and characters

pub told_all : {A : Type 0} (P : A → Type 0) (test : A → Bool) → ((x : A) → test x ≡ true → P x) → (xs : List A) → list_all test xs ≡ true → All P xs
told_all P test each [] h = All-nil P
told_all P test each (x ∷ xs) h = let p = and_parts (test x) (list_all test xs) h in All-cons P x xs (each x p.0) (told_all P test each xs p.1)

pub told_text : (xs : List ℕ) → is_text xs ≡ true → IsText xs
told_text xs h = told_all (λ c. c < 256) (λ c. nat_lt c 256) (λ c less. ltb-true c 256 less) xs h

pub told_word : (n : ℕ) → is_word n ≡ true → IsWord n
told_word n h = ltb-true n (2 ^ 32) h

pub told_name : (count n : ℕ) → names count n ≡ true → (n < count) × IsWord n
told_name count n h = let p = and_parts (nat_lt n count) (is_word n) h in (ltb-true n count p.0, told_word n p.1)

pub told_names : (count : ℕ) (xs : List ℕ) → list_all (names count) xs ≡ true → All (λ n. n < count) xs × All IsWord xs
told_names count xs h =
    (told_all (λ n. n < count) (names count) (λ n is. (told_name count n is).0) xs h, told_all IsWord (names count) (λ n is. (told_name count n is).1) xs h)

pub word_same : (n : ℕ) → IsWord n → word n ≡ n
word_same n less = omega (arith, less)

pub words_same : (xs : List ℕ) → All IsWord xs → words xs ≡ xs
words_same [] all = refl
words_same (x ∷ xs) all = ap (λ y. y ∷ words xs) (word_same x (All-head IsWord x xs all)) ∙ ap (λ ys. x ∷ ys) (words_same xs (All-tail IsWord x xs all))

pub text_same : (xs : List ℕ) → IsText xs → text xs ≡ xs
text_same [] all = refl
text_same (x ∷ xs) all =
    let less = All-head (λ c. c < 256) x xs all in
    ap (λ y. y ∷ text xs) (omega (arith, less)) ∙ ap (λ ys. x ∷ ys) (text_same xs (All-tail (λ c. c < 256) x xs all))

-- so many operands

pub no_operands : (xs : List ℕ) → counts xs 0 ≡ true → xs ≡ []
no_operands [] h = refl
no_operands (x ∷ xs) h = absurd (omega (arith, eqb-true (length (x ∷ xs)) 0 h))

pub one_operand : (xs : List ℕ) → counts xs 1 ≡ true → xs ≡ operand xs 0 ∷ []
one_operand [] h = absurd (omega (arith, eqb-true 0 1 h))
one_operand (x ∷ []) h = refl
one_operand (x ∷ y ∷ xs) h = absurd (omega (arith, eqb-true (length (x ∷ y ∷ xs)) 1 h))

pub two_operands : (xs : List ℕ) → counts xs 2 ≡ true → xs ≡ operand xs 0 ∷ operand xs 1 ∷ []
two_operands [] h = absurd (omega (arith, eqb-true 0 2 h))
two_operands (x ∷ []) h = absurd (omega (arith, eqb-true (length (x ∷ [])) 2 h))
two_operands (x ∷ y ∷ []) h = refl
two_operands (x ∷ y ∷ z ∷ xs) h = absurd (omega (arith, eqb-true (length (x ∷ y ∷ z ∷ xs)) 2 h))

pub first_operands : (xs : List ℕ) → nat_le 1 (length xs) ≡ true → xs ≡ operand xs 0 ∷ drop 1 xs
first_operands [] h = absurd (omega (arith, leb-true 1 0 h))
first_operands (x ∷ xs) h = refl

-- a record stands before
pub code_here : (code : ℕ) (before : List Entry) (e : Entry) → (code_of e == code) ≡ true → has_code code (before ++ e ∷ []) ≡ true
code_here code [] e is = or_left (code_of e == code) false is
code_here code (x ∷ xs) e is = or_right (code_of x == code) (has_code code (xs ++ e ∷ [])) (code_here code xs e is)

-- blocks of records alone

pub no_ids : (kinds : (before : List Entry) → Entry → (after : List Entry) → List ℕ) (bs : List Contents) → Each (Plain kinds) bs → flat_map block_ids bs ≡ []
no_ids kinds [] plain = refl
no_ids kinds (b ∷ bs) plain = no_kinds (block_ids b) (flat_map block_ids bs) plain.0.0 (no_ids kinds bs plain.1)

pub flat_map_map : {A B C : Type 0} (f : A → B) (g : B → List C) (xs : List A) → flat_map g (map f xs) ≡ flat_map (λ x. g (f x)) xs
flat_map_map f g [] = refl
flat_map_map f g (x ∷ xs) = ap (λ ys. g (f x) ++ ys) (flat_map_map f g xs)

pub all_blocks_spelled : {R : Type 0} (kinds : (before : List Entry) → Entry → (after : List Entry) → List ℕ) (spell : R → List Entry) (read : Contents → R) →
    ((b : Contents) → FreeRecords kinds [] (entries_in b) → entries_in b ≡ spell (read b)) → (bs : List Contents) → Each (Plain kinds) bs →
    map entries_in bs ≡ map spell (map read bs)
all_blocks_spelled kinds spell read each [] plain = refl
all_blocks_spelled kinds spell read each (b ∷ bs) plain =
    ap (λ x. x ∷ map entries_in bs) (each b plain.0.1) ∙ ap (λ xs. spell (read b) ∷ xs) (all_blocks_spelled kinds spell read each bs plain.1)

pub all_in_blocks : {A : Type 0} (P : A → Type 0) (kinds : (before : List Entry) → Entry → (after : List Entry) → List ℕ) (said : Contents → List A) →
    ((b : Contents) → FreeRecords kinds [] (entries_in b) → All P (said b)) → (bs : List Contents) → Each (Plain kinds) bs → All P (flat_map said bs)
all_in_blocks P kinds said each [] plain = All-nil P
all_in_blocks P kinds said each (b ∷ bs) plain = All-append P (said b) (flat_map said bs) (each b plain.0.1) (all_in_blocks P kinds said each bs plain.1)

-- the kinds of one case or of the other
pub chosen : {P : Type 0} (b : Bool) (xs ys : List ℕ) → if◌then◌else◌ {A = List ℕ} b xs ys ≡ [] → (b ≡ true → xs ≡ [] → P) → (b ≡ false → ys ≡ [] → P) → P
chosen true xs ys none p q = p refl none
chosen false xs ys none p q = q refl none

pub either_passes : {P : Type 0} (a b : Bool) → (a || b) ≡ true → (a ≡ true → P) → (b ≡ true → P) → P
either_passes true b h p q = p refl
either_passes false b h p q = q h

-- operands that are equal
pub is_same : (xs ys : List ℕ) → pointwise (λ x y. x == y) xs ys ≡ true → xs ≡ ys
is_same [] [] h = refl
is_same [] (y ∷ ys) h = absurd (true≢false (sym h))
is_same (x ∷ xs) [] h = absurd (true≢false (sym h))
is_same (x ∷ xs) (y ∷ ys) h =
    let apart = and_parts (x == y) (pointwise (λ a b. a == b) xs ys) h in
    ap (λ z. z ∷ xs) (eqb-true x y apart.0) ∙ ap (λ zs. y ∷ zs) (is_same xs ys apart.1)

-- each record is spelled by one of a table, where that holds of each that has no kind
pub spelled_by : {R : Type 0} (spell : R → Entry) (kinds : (before : List Entry) → Entry → (after : List Entry) → List ℕ) →
    ((before : List Entry) (e : Entry) (after : List Entry) → kinds before e after ≡ [] → (r : R) × (e ≡ spell r)) →
    (before es : List Entry) → FreeRecords kinds before es → (rs : List R) × (es ≡ map spell rs)
spelled_by spell kinds one before [] free = ([], refl)
spelled_by spell kinds one before (e ∷ es) free =
    let own = one before e es free.0 in
    let rest = spelled_by spell kinds one (before ++ e ∷ []) es free.1 in
    (own.0 ∷ rest.0, ap (λ x. x ∷ es) own.1 ∙ ap (λ xs. spell own.0 ∷ xs) rest.1)

-- at least four
pub four_operands : (xs : List ℕ) → 4 ≤ length xs → xs ≡ operand xs 0 ∷ operand xs 1 ∷ operand xs 2 ∷ operand xs 3 ∷ drop 4 xs
four_operands [] h = absurd (omega (arith, h))
four_operands (a ∷ []) h = absurd (omega (arith, h))
four_operands (a ∷ b ∷ []) h = absurd (omega (arith, h))
four_operands (a ∷ b ∷ c ∷ []) h = absurd (omega (arith, h))
four_operands (a ∷ b ∷ c ∷ d ∷ others) h = refl
