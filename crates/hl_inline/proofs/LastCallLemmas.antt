-- Paths to last calls: of nodes with operands, and of lists that are searched from their end.
use Rattle.std.proofs.Common.{◌≡◌, ◌∙◌, refl, sym, ap, subst, ℕ, zero, suc, ◌+◌, ◌-◌, ◌<◌, ◌≤◌, Bool, true, false, ◌||◌, if◌then◌else◌, List, [], ◌∷◌, ◌++◌, length, drop, take, get_or, arith}
use Rattle.std.specs.Prelude.{Result, IfOk}
use Rattle.std.proofs.lemmas.Result.{IfOk-weaker}
use Rattle.std.proofs.lemmas.List.{append_assoc, append-nil, length-take}
use Rattle.base_core.specs.declared.sequence.NoMemory.{NoMemory}
use Rattle.hl_meaning.specs.Trees as plain
use Rattle.hl_meaning.specs.declared.expression.Expr.{Expr}
use Rattle.hl_meaning.specs.declared.expression.PathPart.{PathPart}
use Rattle.hl_meaning.specs.Views.{plain_expr, plain_exprs, plain_form, plain_part, plain_parts, plain_ty}
use Rattle.hl_inline.specs.LastCalls.{Finds, any_holds, expr_path, exprs_paths, form_path, holds, part_path, parts_paths, path_among, path_from, path_inside}
use Rattle.hl_inline.proofs.Flags.{or-false}
use Rattle.hl_inline.proofs.GivenForms.{expr-as}
use Rattle.hl_inline.proofs.WalkLemmas.{drop_end, drop_item}

or-true : (b : Bool) → (b || true) ≡ true
or-true true = refl
or-true false = refl

pub nothing-held : (path : List ℕ) → holds path ≡ false → path ≡ []
nothing-held [] e = refl
nothing-held (number ∷ path) e = absurd (cc)

holds-inside : (number : ℕ) (path : List ℕ) → holds (path_inside number path) ≡ holds path
holds-inside number [] = refl
holds-inside number (first ∷ path) = refl

-- operands in front of others
pub from-behind : (number : ℕ) (path : List ℕ) (rest : List (List ℕ)) → any_holds rest ≡ true → path_from number (path ∷ rest) ≡ path_from (suc number) rest
from-behind number path rest e = ap (λ b. if b then path_from (suc number) rest else path_inside number path) e

pub from-last : (number : ℕ) (path : List ℕ) (rest : List (List ℕ)) → any_holds rest ≡ false → path_from number (path ∷ rest) ≡ path_inside number path
from-last number path rest e = ap (λ b. if b then path_from (suc number) rest else path_inside number path) e

holds-more : (number : ℕ) (path : List ℕ) (rest : List (List ℕ)) (b : Bool) → any_holds rest ≡ b → holds (path_from (suc number) rest) ≡ any_holds rest →
    holds (path_from number (path ∷ rest)) ≡ (holds path || any_holds rest)
holds-more number path rest true e same =
    ap holds (from-behind number path rest e) ∙ (same ∙ (e ∙ sym (ap (λ b. holds path || b) e ∙ or-true (holds path))))
holds-more number path rest false e same =
    ap holds (from-last number path rest e) ∙ (holds-inside number path ∙ sym (ap (λ b. holds path || b) e ∙ or-false (holds path)))

pub holds-from : (number : ℕ) (paths : List (List ℕ)) → holds (path_from number paths) ≡ any_holds paths
holds-from number [] = refl
holds-from number (path ∷ rest) = holds-more number path rest (any_holds rest) refl (holds-from (suc number) rest)

pub nothing-from : (number : ℕ) (paths : List (List ℕ)) → any_holds paths ≡ false → path_from number paths ≡ []
nothing-from number paths e = nothing-held (path_from number paths) (holds-from number paths ∙ e)

-- an operand without a call
skipped : (number : ℕ) (rest : List (List ℕ)) (b : Bool) → any_holds rest ≡ b → path_from number ([] ∷ rest) ≡ path_from (suc number) rest
skipped number rest true e = from-behind number [] rest e
skipped number rest false e = from-last number [] rest e ∙ sym (nothing-from (suc number) rest e)

pub from-none : (number : ℕ) (rest : List (List ℕ)) → path_from number ([] ∷ rest) ≡ path_from (suc number) rest
from-none number rest = skipped number rest (any_holds rest) refl

-- ---- the search

-- what is found is found in another list of the same path
pub finds-as : (before now : List ℕ) (found : Bool) (path other : List ℕ) → other ≡ path → Finds before now found path → Finds before now found other
finds-as before now found path other is f = (f.0 ∙ ap (λ p. before ++ p) (sym is), f.1 ∙ ap holds (sym is))

-- nothing so far
pub finds-nothing : (before : List ℕ) → Finds before before false []
finds-nothing before = (sym (append-nil before), refl)

-- a call stands behind
pub found-behind : (before now : List ℕ) (found : Bool) (number : ℕ) (path : List ℕ) (behind : List (List ℕ)) → found ≡ true →
    Finds before now found (path_from (suc number) behind) → Finds before now true (path_from number (path ∷ behind))
found-behind before now found number path behind is f =
    let held : any_holds behind ≡ true = sym (holds-from (suc number) behind) ∙ (sym f.1 ∙ is) in
    finds-as before now true (path_from (suc number) behind) (path_from number (path ∷ behind)) (from-behind number path behind held) (f.0, sym is ∙ f.1)

-- nothing to search
pub found-none : (before now : List ℕ) (found : Bool) (number : ℕ) (path : List ℕ) (behind : List (List ℕ)) → path ≡ [] →
    Finds before now found (path_from (suc number) behind) → Finds before now found (path_from number (path ∷ behind))
found-none before now found number path behind is f =
    finds-as before now found (path_from (suc number) behind) (path_from number (path ∷ behind))
    (ap (λ p. path_from number (p ∷ behind)) is ∙ from-none number behind) f

with-number : (number : ℕ) (path : List ℕ) → path ++ (if holds path then number ∷ [] else []) ≡ path_inside number path
with-number number [] = refl
with-number number (first ∷ path) = refl

-- an operand is searched
pub found-here : (before old middle new : List ℕ) (found inner r : Bool) (number : ℕ) (path : List ℕ) (behind : List (List ℕ)) → found ≡ false →
    Finds before old found (path_from (suc number) behind) → Finds old middle inner path → r ≡ inner → new ≡ middle ++ (if inner then number ∷ [] else []) →
    Finds before new r (path_from number (path ∷ behind))
found-here before old middle new found inner r number path behind is f g same grown =
    let unheld : any_holds behind ≡ false = sym (holds-from (suc number) behind) ∙ (sym f.1 ∙ is) in
    let start : old ≡ before = f.0 ∙ (ap (λ p. before ++ p) (nothing-from (suc number) behind unheld) ∙ append-nil before) in
    let number_is : new ≡ before ++ (path ++ (if holds path then number ∷ [] else [])) =
    grown ∙ (ap (λ b. middle ++ (if b then number ∷ [] else [])) g.1 ∙
    (ap (λ l. l ++ (if holds path then number ∷ [] else [])) (g.0 ∙ ap (λ l. l ++ path) start) ∙ append_assoc before path (if holds path then number ∷ [] else []))) in
    finds-as before new r (path_inside number path) (path_from number (path ∷ behind)) (from-last number path behind unheld)
    (number_is ∙ ap (λ p. before ++ p) (with-number number path), same ∙ (g.1 ∙ sym (holds-inside number path)))

-- ---- lists

module _ {A : Type 0} (path_of : A → List ℕ) (paths : List A → List (List ℕ))
    (none : paths [] ≡ []) (more : (x : A) (xs : List A) → paths (x ∷ xs) ≡ path_of x ∷ paths xs) where
  pub paths-count : (xs : List A) → length (paths xs) ≡ length xs
  paths-count [] = ap length none
  paths-count (x ∷ xs) = ap length (more x xs) ∙ ap suc (paths-count xs)

  pub paths-split : (xs : List A) (j : ℕ) (x : A) → j < length xs → x ≡ get_or xs j x → paths xs ≡ paths (take j xs) ++ path_of x ∷ paths (drop (j + 1) xs)
  paths-split [] j x h is = absurd (omega (arith, h))
  paths-split (y ∷ xs) zero x h is = more y xs ∙ (ap (λ z. path_of z ∷ paths xs) (sym is) ∙ ap (λ l. l ++ path_of x ∷ paths xs) (sym none))
  paths-split (y ∷ xs) (suc j) x h is =
      more y xs ∙ (ap (λ l. path_of y ∷ l) (paths-split xs j x (omega arith) is) ∙
      (ap (λ n. path_of y ∷ (paths (take j xs) ++ path_of x ∷ paths (drop n (y ∷ xs)))) (same_suc j) ∙
      ap (λ l. l ++ path_of x ∷ paths (drop (suc j + 1) (y ∷ xs))) (sym (more y (take j xs)))))
    where
      same_suc : (j : ℕ) → suc (j + 1) ≡ suc j + 1
      same_suc j = omega arith

  -- one more of a list that is searched from its end
  pub turn-back : (before now new : List ℕ) (found r : Bool) (xs : List A) (m number next : ℕ) (x : A) → 0 < m → m ≤ length xs → x ≡ get_or xs (m - 1) x → next ≡ suc number →
      Finds before now found (path_from next (paths (drop m xs))) →
      ((b : List ℕ) (behind : List (List ℕ)) → Finds b now found (path_from (suc number) behind) → Finds b new r (path_from number (path_of x ∷ behind))) →
      Finds before new r (path_from number (paths (drop (m - 1) xs)))
  turn-back before now new found r xs m number next x some within is next_is f searched =
      let here : m - 1 + 1 ≡ m = omega arith in
      let left : paths (drop (m - 1) xs) ≡ path_of x ∷ paths (drop m xs) =
      ap paths (drop_item xs (m - 1) x (omega arith) is) ∙ (more x (drop (m - 1 + 1) xs) ∙ ap (λ n. path_of x ∷ paths (drop n xs)) here) in
      finds-as before new r (path_from number (path_of x ∷ paths (drop m xs))) (path_from number (paths (drop (m - 1) xs))) (ap (path_from number) left)
      (searched before (paths (drop m xs)) (finds-as before now found (path_from next (paths (drop m xs))) (path_from (suc number) (paths (drop m xs))) (ap (λ n. path_from n (paths (drop m xs))) (sym next_is)) f))

  -- where the search begins, and where it ends
  pub begins-back : (before : List ℕ) (xs : List A) (m next : ℕ) → length xs ≤ m → Finds before before false (path_from next (paths (drop m xs)))
  begins-back before xs m next h = finds-as before before false [] (path_from next (paths (drop m xs))) (ap (λ l. path_from next (paths l)) (drop_end xs m h) ∙ ap (path_from next) none) (finds-nothing before)

  pub ends-back : (before now : List ℕ) (found : Bool) (xs : List A) (m next first : ℕ) → m ≡ 0 → next ≡ first → Finds before now found (path_from next (paths (drop m xs))) → Finds before now found (path_from first (paths xs))
  ends-back before now found xs m next first is next_is f =
      finds-as before now found (path_from next (paths (drop m xs))) (path_from first (paths xs))
      (sym (ap (λ n. path_from n (paths (drop m xs))) next_is ∙ ap (λ n. path_from first (paths (drop n xs))) is)) f

-- what a search promises, of another equal path
pub finds-ok : (before now : List ℕ) (r : Result Bool NoMemory) (path other : List ℕ) → other ≡ path → IfOk r (λ found. Finds before now found path) → IfOk r (λ found. Finds before now found other)
finds-ok before now r path other is f =
    IfOk-weaker r (λ found. Finds before now found path) (λ found. Finds before now found other) (λ found g. finds-as before now found path other is g) f

-- those of expressions and of steps

pub path-as : (e : Expr) (form : plain.Form) → plain_form e.form ≡ form → expr_path (plain_expr e) ≡ form_path form
path-as e form is = ap expr_path (expr-as e (plain_ty e.ty) form refl is)

abbrev pub held-path : Expr → List ℕ
held-path e = expr_path (plain_expr e)

abbrev pub held-paths : List Expr → List (List ℕ)
held-paths es = exprs_paths (plain_exprs es)

abbrev pub held-part_path : PathPart → List ℕ
held-part_path p = part_path (plain_part p)

abbrev pub held-part_paths : List PathPart → List (List ℕ)
held-part_paths ps = parts_paths (plain_parts ps)

pub exprs-split : (xs : List Expr) (j : ℕ) (x : Expr) → j < length xs → x ≡ get_or xs j x → held-paths xs ≡ held-paths (take j xs) ++ held-path x ∷ held-paths (drop (j + 1) xs)
exprs-split = paths-split held-path held-paths refl (λ x xs. refl)

pub exprs-number : (xs : List Expr) (j : ℕ) → j < length xs → j + 1 ≡ suc (length (held-paths (take j xs)))
exprs-number xs j within =
    let count = paths-count held-path held-paths refl (λ x xs. refl) (take j xs) in
    omega (arith, count, length-take j xs)

pub parts-split : (xs : List PathPart) (j : ℕ) (x : PathPart) → j < length xs → x ≡ get_or xs j x → held-part_paths xs ≡ held-part_paths (take j xs) ++ held-part_path x ∷ held-part_paths (drop (j + 1) xs)
parts-split = paths-split held-part_path held-part_paths refl (λ x xs. refl)

pub parts-number : (root : List ℕ) (xs : List PathPart) (j : ℕ) → j < length xs → j + 2 ≡ suc (length (root ∷ held-part_paths (take j xs)))
parts-number root xs j within =
    let count = paths-count held-part_path held-part_paths refl (λ x xs. refl) (take j xs) in
    omega (arith, count, length-take j xs)
