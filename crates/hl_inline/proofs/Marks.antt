-- Marks of the variables that are used before their declaration.
use Rattle.std.proofs.Common.{◌≡◌, ◌≢◌, ◌∙◌, refl, ap, sym, ℕ, suc, ◌+◌, ◌-◌, ◌<◌, ◌≤◌, ◌⊎◌, inl, inr, ◌||◌, Bool, false, true, if◌then◌else◌, List, [], ◌∷◌, ◌++◌, add-one, append-nil, append_assoc, arith, drop, get_or, length, set}
use Rattle.std.specs.Prelude.{◌==◌, cond, not}
use Rattle.std.proofs.Math.Dec.{eqb-suc-zero}
use Rattle.std.proofs.lemmas.Bool.{cases_eq, cases_lt, eq-eqb, eqb-true}
use Rattle.std.proofs.lemmas.Grind.{same_number_lists}
use Rattle.std.proofs.lemmas.List.{drop_all, get_or-set_other, get_or-set_same, get_or_past, length-set, set_past}
use Rattle.std.proofs.lemmas.List.FromFn.{get_or-map-range_with_len, length-map-range_with_len}
use Rattle.hl_meaning.specs.declared.expression.Expr.{Expr as HeldExpr}
use Rattle.hl_meaning.specs.Trees.{Form, Stmt, constant_root, element_root, shared_root, variable_root}
use Rattle.hl_meaning.specs.Views.{plain_expr, plain_form, plain_ty, stmts_of}
use Rattle.hl_inline.specs.UsedUndeclared.{declared_by, declared_in, undeclared, used_undeclared, used_undeclared_in}
use Rattle.hl_meaning.specs.Operators.{is_among}
use Rattle.hl_inline.specs.Occurrences.{Occurrence, call_occurrence, expr_occurrences, form_occurrences, place_occurrence}
use Rattle.hl_inline.specs.Marking.{counts_of, declarations, mark, mark_all, mark_free, mark_occurrence, mark_occurrences}
use Rattle.hl_inline.proofs.GivenForms.{expr-as}
use Rattle.hl_inline.proofs.Gathering.{drop-next}

-- occurrences after others

pub mark_occurrences-append : (counts : List ℕ) (xs ys : List Occurrence) (marks : List Bool) → mark_occurrences counts (xs ++ ys) marks ≡ mark_occurrences counts ys (mark_occurrences counts xs marks)
mark_occurrences-append counts [] ys marks = refl
mark_occurrences-append counts (x ∷ xs) ys marks = mark_occurrences-append counts xs ys (mark_occurrence counts x marks)

pub occurrences-then : (counts : List ℕ) (xs ys : List Occurrence) (start between end : List Bool) → between ≡ mark_occurrences counts xs start → end ≡ mark_occurrences counts ys between → end ≡ mark_occurrences counts (xs ++ ys) start
occurrences-then counts xs ys start between end first second = second ∙ (ap (mark_occurrences counts ys) first ∙ sym (mark_occurrences-append counts xs ys start))

-- an expression of a form
pub form-occurrences : (counts : List ℕ) (e : HeldExpr) (form : Form) (marks : List Bool) → plain_form e.form ≡ form → mark_occurrences counts (expr_occurrences (plain_expr e)) marks ≡ mark_occurrences counts (form_occurrences form) marks
form-occurrences counts e form marks is = ap (λ x. mark_occurrences counts (expr_occurrences x) marks) (expr-as e (plain_ty e.ty) form refl is)

-- the occurrences in the parts of a list, one after another
module _ {A : Type 0} (counts : List ℕ) (occurrences : List A → List Occurrence) (own : A → List Occurrence) (xs : List A) where
  pub occurrences-next : (i : ℕ) (x : A) (marks grown whole : List Bool) → i < length xs → x ≡ get_or xs i x → occurrences (x ∷ drop (i + 1) xs) ≡ own x ++ occurrences (drop (i + 1) xs)
      → grown ≡ mark_occurrences counts (own x) marks → mark_occurrences counts (occurrences (drop i xs)) marks ≡ whole → mark_occurrences counts (occurrences (drop (i + 1) xs)) grown ≡ whole
  occurrences-next i x marks grown whole within is parts here e =
      let rest = occurrences (drop (i + 1) xs) in
      ap (mark_occurrences counts rest) here ∙ (sym (mark_occurrences-append counts (own x) rest marks) ∙ (ap (λ t. mark_occurrences counts t marks) (sym parts) ∙
      (ap (λ l. mark_occurrences counts (occurrences l) marks) (sym (drop-next xs i x within is)) ∙ e)))

  pub occurrences-end : (i : ℕ) (marks whole : List Bool) → length xs ≤ i → occurrences [] ≡ [] → mark_occurrences counts (occurrences (drop i xs)) marks ≡ whole → marks ≡ whole
  occurrences-end i marks whole past none e = ap (λ t. mark_occurrences counts t marks) (sym (ap occurrences (drop_all i xs past) ∙ none)) ∙ e

pub mark_all-append : (xs ys : List ℕ) (marks : List Bool) → mark_all (xs ++ ys) marks ≡ mark_all ys (mark_all xs marks)
mark_all-append [] ys marks = refl
mark_all-append (x ∷ xs) ys marks = mark_all-append xs ys (mark x marks)

pub length-mark_all : (xs : List ℕ) (marks : List Bool) → length (mark_all xs marks) ≡ length marks
length-mark_all [] marks = refl
length-mark_all (x ∷ xs) marks = length-mark_all xs (mark x marks) ∙ length-set marks x true

-- how often variables are declared

or-at : (known : List ℕ) (number : ℕ) → (declarations known number == 0) ≡ not (is_among known number)
or-at [] number = refl
or-at (n ∷ known) number = by_test (number == n) (or-at known number)
  where
    by_test : (b : Bool) → (declarations known number == 0) ≡ not (is_among known number)
        → ((if b then suc (declarations known number) else declarations known number) == 0) ≡ not (b || is_among known number)
    by_test true e = eqb-suc-zero (declarations known number)
    by_test false e = e

pub count-at : (size : ℕ) (known : List ℕ) (number d : ℕ) → number < size → get_or (counts_of size known) number d ≡ declarations known number
count-at size known number d within = get_or-map-range_with_len (declarations known) 0 size number number d within (omega arith)

pub length-counts : (size : ℕ) (known : List ℕ) → length (counts_of size known) ≡ size
length-counts size known = length-map-range_with_len (declarations known) 0 size

-- counts are the same where each variable is declared as often
pub counts-same : (size : ℕ) (counts known : List ℕ) → length counts ≡ size → ((n : ℕ) → n < size → get_or counts n 0 ≡ declarations known n) → counts ≡ counts_of size known
counts-same size counts known long each =
    same_number_lists counts (counts_of size known) (long ∙ sym (length-counts size known))
    (λ n within. each n (omega (arith, long)) ∙ sym (count-at size known n 0 (omega (arith, long))))

-- a free variable is marked, and one that isn't there leaves no mark
free-marked : (size : ℕ) (known : List ℕ) (number : ℕ) (marks : List Bool) → length marks ≡ size
    → mark_free (counts_of size known) number marks ≡ (if not (is_among known number) then mark number marks else marks)
free-marked size known number marks long = by_place (cases_lt number size)
  where
    by_place : (number < size) ⊎ (size ≤ number) → mark_free (counts_of size known) number marks ≡ (if not (is_among known number) then mark number marks else marks)
    by_place (inl within) = ap (λ n. if n == 0 then mark number marks else marks) (count-at size known number 1 within) ∙ ap (λ b. if b then mark number marks else marks) (or-at known number)
    by_place (inr past) =
        ap (λ n. if n == 0 then mark number marks else marks) (get_or_past (counts_of size known) number 1 (omega (arith, length-counts size known, past))) ∙
        unmarked (not (is_among known number)) (set_past marks number true (omega (arith, long, past)))
      where
        unmarked : (b : Bool) → mark number marks ≡ marks → marks ≡ (if b then mark number marks else marks)
        unmarked true e = sym e
        unmarked false e = refl

-- occurrences mark their variables that aren't declared
pub occurrences-marked : (size : ℕ) (known : List ℕ) (occurrences : List Occurrence) (marks : List Bool) → length marks ≡ size → mark_occurrences (counts_of size known) occurrences marks ≡ mark_all (undeclared known occurrences) marks
occurrences-marked size known [] marks long = refl
occurrences-marked size known (call_occurrence function ∷ occurrences) marks long = occurrences-marked size known occurrences marks long
occurrences-marked size known (place_occurrence (constant_root number) parts ∷ occurrences) marks long = occurrences-marked size known occurrences marks long
occurrences-marked size known (place_occurrence (shared_root number) parts ∷ occurrences) marks long = occurrences-marked size known occurrences marks long
occurrences-marked size known (place_occurrence (element_root resource index) parts ∷ occurrences) marks long = occurrences-marked size known occurrences marks long
occurrences-marked size known (place_occurrence (variable_root number) parts ∷ occurrences) marks long =
    ap (mark_occurrences (counts_of size known) occurrences) (free-marked size known number marks long) ∙
    by_test (not (is_among known number)) (occurrences-marked size known occurrences marks long) (occurrences-marked size known occurrences (mark number marks) (length-set marks number true ∙ long))
  where
    by_test : (b : Bool) → mark_occurrences (counts_of size known) occurrences marks ≡ mark_all (undeclared known occurrences) marks
        → mark_occurrences (counts_of size known) occurrences (mark number marks) ≡ mark_all (undeclared known occurrences) (mark number marks)
        → mark_occurrences (counts_of size known) occurrences (if b then mark number marks else marks) ≡ mark_all (cond b (number ∷ undeclared known occurrences) (undeclared known occurrences)) marks
    by_test true without here = here
    by_test false without here = without

-- one more declaration, and one fewer
declared-one : (number n : ℕ) (known : List ℕ) → n ≢ number → declarations (number ∷ known) n ≡ declarations known n
declared-one number n known other = by_test (n == number) (eqb-true n number)
  where
    by_test : (b : Bool) → (b ≡ true → n ≡ number) → (if b then suc (declarations known n) else declarations known n) ≡ declarations known n
    by_test true same = absurd (other (same refl))
    by_test false same = refl

declared-same : (number : ℕ) (known : List ℕ) → declarations (number ∷ known) number ≡ suc (declarations known number)
declared-same number known = ap (λ b. if b then suc (declarations known number) else declarations known number) (eq-eqb number number refl)

pub declared-more : (size : ℕ) (counts known : List ℕ) (number : ℕ) → counts ≡ counts_of size known → number < length counts → set counts number (get_or counts number 0 + 1) ≡ counts_of size (number ∷ known)
declared-more size counts known number is within =
    let long : length counts ≡ size = ap length is ∙ length-counts size known in
    counts-same size (set counts number (get_or counts number 0 + 1)) (number ∷ known) (length-set counts number _ ∙ long) (λ n small. by_place n small (cases_eq n number))
  where
    at : (n : ℕ) → n < size → get_or counts n 0 ≡ declarations known n
    at n small = ap (λ l. get_or l n 0) is ∙ count-at size known n 0 small

    by_place : (n : ℕ) → n < size → (n ≡ number) ⊎ (n ≡ number → ⊥) → get_or (set counts number (get_or counts number 0 + 1)) n 0 ≡ declarations (number ∷ known) n
    by_place n small (inl same) =
        ap (λ m. get_or (set counts number (get_or counts number 0 + 1)) m 0) same ∙
        (get_or-set_same counts number (get_or counts number 0 + 1) 0 within ∙ (ap (λ m. m + 1) (ap (λ m. get_or counts m 0) (sym same) ∙ at n small) ∙
        (add-one _ ∙ (ap (λ m. suc (declarations known m)) same ∙ (sym (declared-same number known) ∙ ap (declarations (number ∷ known)) (sym same))))))
    by_place n small (inr other) =
        get_or-set_other counts number n (get_or counts number 0 + 1) 0 other ∙ (at n small ∙ sym (declared-one number n known other))

-- a variable past the end isn't counted
pub declared-past : (size : ℕ) (counts known : List ℕ) (number : ℕ) → counts ≡ counts_of size known → length counts ≤ number → counts ≡ counts_of size (number ∷ known)
declared-past size counts known number is past =
    let long : length counts ≡ size = ap length is ∙ length-counts size known in
    counts-same size counts (number ∷ known) long
    (λ n small. ap (λ l. get_or l n 0) is ∙ (count-at size known n 0 small ∙ sym (declared-one number n known (λ same. absurd (omega (arith, long, past, small, same))))))

pub declared-fewer : (size : ℕ) (counts known : List ℕ) (number : ℕ) → counts ≡ counts_of size (number ∷ known) → number < length counts → set counts number (get_or counts number 0 - 1) ≡ counts_of size known
declared-fewer size counts known number is within =
    let long : length counts ≡ size = ap length is ∙ length-counts size (number ∷ known) in
    counts-same size (set counts number (get_or counts number 0 - 1)) known (length-set counts number _ ∙ long) (λ n small. by_place n small (cases_eq n number))
  where
    minus-one : (n : ℕ) → suc n - 1 ≡ n
    minus-one n = omega arith

    at : (n : ℕ) → n < size → get_or counts n 0 ≡ declarations (number ∷ known) n
    at n small = ap (λ l. get_or l n 0) is ∙ count-at size (number ∷ known) n 0 small

    by_place : (n : ℕ) → n < size → (n ≡ number) ⊎ (n ≡ number → ⊥) → get_or (set counts number (get_or counts number 0 - 1)) n 0 ≡ declarations known n
    by_place n small (inl same) =
        ap (λ m. get_or (set counts number (get_or counts number 0 - 1)) m 0) same ∙
        (get_or-set_same counts number (get_or counts number 0 - 1) 0 within ∙
        (ap (λ m. m - 1) (ap (λ m. get_or counts m 0) (sym same) ∙ (at n small ∙ (ap (declarations (number ∷ known)) same ∙ declared-same number known))) ∙
        (minus-one (declarations known number) ∙ ap (declarations known) (sym same))))
    by_place n small (inr other) =
        get_or-set_other counts number n (get_or counts number 0 - 1) 0 other ∙ (at n small ∙ declared-one number n known other)

pub undeclared-past : (size : ℕ) (counts known : List ℕ) (number : ℕ) → counts ≡ counts_of size (number ∷ known) → length counts ≤ number → counts ≡ counts_of size known
undeclared-past size counts known number is past =
    let long : length counts ≡ size = ap length is ∙ length-counts size (number ∷ known) in
    counts-same size counts known long
    (λ n small. ap (λ l. get_or l n 0) is ∙ (count-at size (number ∷ known) n 0 small ∙ declared-one number n known (λ same. absurd (omega (arith, long, past, small, same)))))

-- a declared variable is counted
pub declared-some : (size : ℕ) (counts known : List ℕ) (number : ℕ) → counts ≡ counts_of size (number ∷ known) → number < length counts → 0 < get_or counts number 0
declared-some size counts known number is within =
    let long : length counts ≡ size = ap length is ∙ length-counts size (number ∷ known) in
    let here : get_or counts number 0 ≡ suc (declarations known number) = ap (λ l. get_or l number 0) is ∙ (count-at size (number ∷ known) number 0 (omega (arith, long, within)) ∙ declared-same number known) in
    omega (arith, here)

-- statements one after another

pub used_undeclared_in-more : (known : List ℕ) (xs : List Stmt) (x : Stmt) → used_undeclared_in known (stmts_of (xs ++ x ∷ [])) ≡ used_undeclared_in known (stmts_of xs) ++ used_undeclared (declared_in known (stmts_of xs)) x
used_undeclared_in-more known [] x = append-nil (used_undeclared known x)
used_undeclared_in-more known (y ∷ xs) x =
    ap (λ l. used_undeclared known y ++ l) (used_undeclared_in-more (declared_by known y) xs x) ∙
    sym (append_assoc (used_undeclared known y) (used_undeclared_in (declared_by known y) (stmts_of xs)) (used_undeclared (declared_in (declared_by known y) (stmts_of xs)) x))

pub declared_in-more : (known : List ℕ) (xs : List Stmt) (x : Stmt) → declared_in known (stmts_of (xs ++ x ∷ [])) ≡ declared_by (declared_in known (stmts_of xs)) x
declared_in-more known [] x = refl
declared_in-more known (y ∷ xs) x = declared_in-more (declared_by known y) xs x
