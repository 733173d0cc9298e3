-- A loop that adds the records of one item after the other: with those of the items that are left, they are the whole.
use Rattle.std.proofs.Common.{◌≡◌, ℕ, ◌+◌, ◌<◌, ◌≤◌, List, [], ◌∷◌, ◌++◌, map, length, drop, get_or, refl, ap, sym, ◌∙◌, subst}
use Rattle.std.specs.Prelude.{flat_map, All, take}
use Rattle.std.proofs.lemmas.List.{drop_more, drop_all, take_all, map-append}
use Rattle.std.proofs.lemmas.List.Elements.{All-more}
use Rattle.bc_stream.specs.Blocks.{Contents, no_more, a_record, append}
use Rattle.bc_stream.proofs.BlockLemmas.{append-none, append-append}
use Rattle.bc_records.specs.Entries.{Entry, entry}
use Rattle.bc_records.specs.Written.{listed}

-- records alone
abbrev pub alone : List Entry → Contents
alone entries = listed entries no_more

pub append-listed : (entries : List Entry) (rest : Contents) → append (alone entries) rest ≡ listed entries rest
append-listed [] rest = refl
append-listed (entry code operands ∷ entries) rest = ap (a_record code operands) (append-listed entries rest)

pub listed-listed : (first second : List Entry) (rest : Contents) → listed (first ++ second) rest ≡ listed first (listed second rest)
listed-listed [] second rest = refl
listed-listed (entry code operands ∷ first) second rest = ap (a_record code operands) (listed-listed first second rest)

pub alone-append : (first second : List Entry) → append (alone first) (alone second) ≡ alone (first ++ second)
alone-append first second = append-listed first (alone second) ∙ sym (listed-listed first second no_more)

pub map-flat_map : {X Y Z : Type 0} (g : Y → Z) (f : X → List Y) (xs : List X) → map g (flat_map f xs) ≡ flat_map (λ x. map g (f x)) xs
map-flat_map g f [] = refl
map-flat_map g f (x ∷ xs) = map-append g (f x) (flat_map f xs) ∙ ap (λ zs. map g (f x) ++ zs) (map-flat_map g f xs)

pub append_none : (c : Contents) → append c no_more ≡ c
append_none c = append-none c

-- one step, where what is left has its records by `left`
pub one_step : (old new whole : Contents) (own after before : List Entry) → before ≡ own ++ after →
    new ≡ append old (alone own) → append old (alone before) ≡ whole → append new (alone after) ≡ whole
one_step old new whole own after before split pushed so_far =
    ap (λ c. append c (alone after)) pushed
    ∙ (append-append old (alone own) (alone after)
    ∙ (ap (append old) (alone-append own after ∙ ap alone (sym split))
    ∙ so_far))

-- nothing is dropped
pub drop-zero : {X : Type 0} (xs : List X) → drop 0 xs ≡ xs
drop-zero [] = refl
drop-zero (x ∷ xs) = refl

-- records pushed twice
pub twice : (old between new : Contents) (first second : List Entry) →
    between ≡ append old (alone first) → new ≡ append between (alone second) → new ≡ append old (alone (first ++ second))
twice old between new first second one two =
    two ∙ (ap (λ c. append c (alone second)) one ∙ (append-append old (alone first) (alone second) ∙ ap (append old) (alone-append first second)))

-- a first record, and then the others
pub begin_with : (none first : Contents) (code : ℕ) (values : List ℕ) (rest whole : Contents) → none ≡ no_more →
    first ≡ append none (a_record code values no_more) → rest ≡ whole → append first rest ≡ a_record code values whole
begin_with none first code values rest whole is_none is_first same =
    ap (λ c. append c rest) (is_first ∙ ap (λ c. append c (a_record code values no_more)) is_none) ∙ ap (a_record code values) same

-- the records of a list of items, one after the other
module _ {X : Type 0} (f : X → List Entry) (xs : List X) where
  pub step : (i : ℕ) (x : X) (old new whole : Contents) → i < length xs → x ≡ get_or xs i x →
      new ≡ append old (alone (f x)) →
      append old (alone (flat_map f (drop i xs))) ≡ whole →
      append new (alone (flat_map f (drop (i + 1) xs))) ≡ whole
  step i x old new whole below is pushed so_far =
      one_step old new whole (f x) (flat_map f (drop (i + 1) xs)) (flat_map f (drop i xs))
      (ap (flat_map f) (drop_more xs i x below ∙ ap (λ y. y ∷ drop (i + 1) xs) (sym is))) pushed so_far

  pub stop : (i : ℕ) (old whole : Contents) → length xs ≤ i → append old (alone (flat_map f (drop i xs))) ≡ whole → old ≡ whole
  stop i old whole past so_far =
      sym (append-none old) ∙ (ap (λ ys. append old (alone (flat_map f ys))) (sym (drop_all i xs past)) ∙ so_far)

-- what holds of each item so far
module _ {X : Type 0} (P : X → Type 0) (xs : List X) where
  pub range_step : (i : ℕ) (x : X) → i < length xs → x ≡ get_or xs i x → P x → All P (take i xs) → All P (take (i + 1) xs)
  range_step i x below is own so_far = All-more P xs i x below so_far (subst P is own)

  pub range_stop : (ys : List X) (i : ℕ) → length xs ≤ i → xs ≡ ys → All P (take i xs) → All P ys
  range_stop ys i past same so_far = subst (All P) (take_all i xs past ∙ same) so_far
