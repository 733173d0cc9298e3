-- Functions of a name with parameters of the same types.
use Rattle.std.proofs.Common.{◌≡◌, ◌∙◌, refl, sym, ap, ℕ, suc, ◌+◌, ◌<◌, ◌≤◌, Bool, true, false, if◌then◌else◌, ◌&&◌, ◌||◌, List, [], ◌∷◌, ◌++◌, length, map, drop, get_or, slice_get, bytes_eq, add-one, append_assoc, Some, ◌≢◌}
use Rattle.std.specs.List.{list_any}
use Rattle.std.proofs.lemmas.List.{drop_all, length_push}
use Rattle.hl_rules.specs.DeclarationRules.{have_same_types, is_same_type}
use Rattle.hl_rules.specs.Scopes.{ParamInfo}
use Rattle.hl_values.specs.declared.scope.FunctionInfo.{FunctionInfo}
use Rattle.hl_values.specs.declared.scope.ParamInfo.{ParamInfo as HeldParam}
use Rattle.hl_values.specs.NameTables.{is_named, positions_from}
use Rattle.hl_values.specs.ScopeViews.{plain_function, plain_param}
use Rattle.hl_types.proofs.Turns.{left-step}
use Rattle.hl_types.specs.Signatures.{any_same, is_same_entry}

at-end : {A : Type 0} (before : List A) (x : A) (rest : List A) → slice_get (before ++ x ∷ rest) (length before) ≡ Some x
at-end [] x rest = refl
at-end (y ∷ before) x rest = at-end before x rest

same-from : (params : List ParamInfo) (name : List ℕ) (before rest : List (List ℕ × FunctionInfo))
    → list_any (λ f. bytes_eq f.name name && have_same_types f.params params) (map plain_function rest) ≡ any_same (before ++ rest) params (positions_from (length before) name rest)
same-from params name before [] = refl
same-from params name before (e ∷ rest) =
    by (is_named name e) (same-from params name (before ++ e ∷ []) rest ∙
    (ap (λ l. any_same l params (positions_from (length (before ++ e ∷ [])) name rest)) (append_assoc before (e ∷ []) rest) ∙
    ap (λ k. any_same (before ++ e ∷ rest) params (positions_from k name rest)) (length_push before e ∙ add-one (length before))))
  where
    by : (b : Bool)
        → list_any (λ f. bytes_eq f.name name && have_same_types f.params params) (map plain_function rest) ≡ any_same (before ++ e ∷ rest) params (positions_from (suc (length before)) name rest)
        → ((b && have_same_types (map plain_param e.1.params) params) || list_any (λ f. bytes_eq f.name name && have_same_types f.params params) (map plain_function rest))
        ≡ any_same (before ++ e ∷ rest) params (if b then length before ∷ positions_from (suc (length before)) name rest else positions_from (suc (length before)) name rest)
    by true more =
        ap (λ b. have_same_types (map plain_param e.1.params) params || b) more ∙
        ap (λ o. is_same_entry params o || any_same (before ++ e ∷ rest) params (positions_from (suc (length before)) name rest)) (sym (at-end before e rest))
    by false more = more

pub same-named : (params : List ParamInfo) (functions : List (List ℕ × FunctionInfo)) (name : List ℕ)
    → list_any (λ f. bytes_eq f.name name && have_same_types f.params params) (map plain_function functions) ≡ any_same functions params (positions_from 0 name functions)
same-named params functions name = same-from params name [] functions

-- ---- parameters one after the other

pub lengths-differ : (params others : List HeldParam) → length params ≢ length others → have_same_types (map plain_param params) (map plain_param others) ≡ false
lengths-differ [] [] e = absurd (e refl)
lengths-differ [] (b ∷ others) e = refl
lengths-differ (a ∷ params) [] e = refl
lengths-differ (a ∷ params) (b ∷ others) e = by (is_same_type (plain_param a).ty (plain_param b).ty) (lengths-differ params others (λ same. e (ap suc same)))
  where
    by : (x : Bool) → have_same_types (map plain_param params) (map plain_param others) ≡ false → (x && have_same_types (map plain_param params) (map plain_param others)) ≡ false
    by true h = h
    by false h = refl

abbrev pub same_left : ℕ → List HeldParam → List HeldParam → Bool
same_left i xs ys = have_same_types (map plain_param (drop i xs)) (map plain_param (drop i ys))

pub same-step : (xs ys : List HeldParam) (i : ℕ) (x y : HeldParam) → i < length xs → i < length ys → x ≡ get_or xs i x → y ≡ get_or ys i y
    → same_left i xs ys ≡ (is_same_type (plain_param x).ty (plain_param y).ty && same_left (i + 1) xs ys)
same-step xs ys i x y in-xs in-ys is-x is-y =
    ap (λ l. have_same_types (map plain_param l) (map plain_param (drop i ys))) (left-step xs i x in-xs is-x) ∙
    ap (λ l. have_same_types (map plain_param (x ∷ drop (i + 1) xs)) (map plain_param l)) (left-step ys i y in-ys is-y)

pub same-end : (xs ys : List HeldParam) (i : ℕ) → length xs ≤ i → length ys ≤ i → same_left i xs ys ≡ true
same-end xs ys i in-xs in-ys =
    ap (λ l. have_same_types (map plain_param l) (map plain_param (drop i ys))) (drop_all i xs in-xs) ∙ ap (λ l. have_same_types [] (map plain_param l)) (drop_all i ys in-ys)
