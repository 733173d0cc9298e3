-- Lists that are gone through from the front, part by part.
use Rattle.std.proofs.Common.{◌≡◌, ◌∙◌, sym, ap, ℕ, zero, suc, ◌+◌, ◌<◌, List, [], ◌∷◌, ◌++◌, append-nil, append_assoc, drop, get_or, length, suc-add}
use Rattle.std.proofs.lemmas.List.{drop_more}
use Rattle.hl_meaning.specs.declared.ty.Kind.{Kind}
use Rattle.hl_meaning.specs.Layout.{repeated}

-- the next part of a list
pub drop-next : {A : Type 0} (xs : List A) (i : ℕ) (x : A) → i < length xs → x ≡ get_or xs i x → drop i xs ≡ x ∷ drop (i + 1) xs
drop-next xs i x within is = drop_more xs i x within ∙ ap (λ y. y ∷ drop (i + 1) xs) (sym is)

-- one more part that was made
pub made-next : {B : Type 0} (acc : List B) (y : B) (rest whole : List B) → acc ++ y ∷ rest ≡ whole → (acc ++ y ∷ []) ++ rest ≡ whole
made-next acc y rest whole e = append_assoc acc (y ∷ []) rest ∙ e

-- once more the one list
pub repeated-next : (count : ℕ) (kinds : List Kind) → repeated count kinds ++ kinds ≡ repeated (count + 1) kinds
repeated-next zero kinds = sym (append-nil kinds)
repeated-next (suc count) kinds =
    append_assoc kinds (repeated count kinds) kinds ∙ (ap (λ l. kinds ++ l) (repeated-next count kinds) ∙ ap (λ k. repeated k kinds) (sym (suc-add count 1)))
