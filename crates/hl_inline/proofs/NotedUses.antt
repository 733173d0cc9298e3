-- The variables that are used before their declaration, found statement by statement.
use Rattle.std.proofs.Common.{◌≡◌, ◌∙◌, refl, ap, sym, ℕ, zero, suc, ◌+◌, ◌<◌, ◌≤◌, ◌⊎◌, inl, inr, ◌||◌, Bool, false, true, if◌then◌else◌, List, [], ◌∷◌, ◌++◌, append-nil, arith, drop, get_or, length, map, replicate, suc-add, take, Vec}
use Rattle.std.specs.Prelude.{◌==◌, cond, filter, None, Some}
use Rattle.std.proofs.lemmas.Bool.{cases_eq, eq-eqb, eqb-true}
use Rattle.std.proofs.lemmas.List.{get_or-replicate, get_or-set_other, get_or-set_same, length-replicate, length-set, replicate_more, with_items_is}
use Rattle.std.proofs.lemmas.List.FromFn.{map-range_with_len_more}
use Rattle.std.specs.Vec.{with_items}
use Rattle.std.proofs.lemmas.List.Elements.{filter-append}
use Rattle.std.specs.List.{range_with_len}
use Rattle.hl_meaning.specs.Trees.{Stmt, Stmts, block_stmt, break_stmt, continue_stmt, do_stmt, for_stmt, if_stmt, local_stmt, more_stmts, no_stmts, return_stmt, run_stmt, while_stmt}
use Rattle.hl_meaning.specs.declared.statement.Stmt.{Stmt as HeldStmt}
use Rattle.hl_meaning.specs.Views.{plain_stmt, plain_stmts, stmts_of}
use Rattle.hl_inline.specs.UsedUndeclared.{declared_by, declared_in, undeclared, used_undeclared, used_undeclared_in}
use Rattle.hl_meaning.specs.Operators.{is_among}
use Rattle.hl_inline.specs.Occurrences.{Occurrence}
use Rattle.hl_inline.specs.Marking.{Marking, counts_of, declarations, declared_variable, mark, mark_all, mark_occurrences, marked_numbers, marking}
use Rattle.hl_inline.proofs.Flags.{or-assoc, or-false}
use Rattle.hl_inline.proofs.Gathering.{drop-next, take-next}
use Rattle.hl_inline.proofs.Marks.{count-at, counts-same, declared_in-more, length-counts, length-mark_all, mark_all-append, occurrences-marked, used_undeclared_in-more}

-- what statements declare, beside what is declared before

from_zero : (n : ℕ) → n ≡ 0 + n
from_zero n = omega arith

declared_by-beside : (known : List ℕ) (stmt : Stmt) (n : ℕ) → declarations (declared_by known stmt) n ≡ declarations (declared_by [] stmt) n + declarations known n
declared_by-beside known (local_stmt variable init) n = by_test (n == variable)
  where
    by_test : (b : Bool) → (if b then suc (declarations known n) else declarations known n) ≡ (if b then suc 0 else 0) + declarations known n
    by_test true = omega arith
    by_test false = from_zero (declarations known n)
declared_by-beside known (block_stmt body) n = from_zero (declarations known n)
declared_by-beside known (run_stmt value) n = from_zero (declarations known n)
declared_by-beside known (if_stmt test consequent alternative) n = from_zero (declarations known n)
declared_by-beside known (for_stmt init test step body) n = from_zero (declarations known n)
declared_by-beside known (while_stmt test body) n = from_zero (declarations known n)
declared_by-beside known (do_stmt body test) n = from_zero (declarations known n)
declared_by-beside known break_stmt n = from_zero (declarations known n)
declared_by-beside known continue_stmt n = from_zero (declarations known n)
declared_by-beside known (return_stmt value) n = from_zero (declarations known n)

declared_in-beside : (known : List ℕ) (stmts : Stmts) (n : ℕ) → declarations (declared_in known stmts) n ≡ declarations (declared_in [] stmts) n + declarations known n
declared_in-beside known no_stmts n = from_zero (declarations known n)
declared_in-beside known (more_stmts first rest) n =
    omega (arith, declared_in-beside (declared_by known first) rest n, declared_in-beside (declared_by [] first) rest n, declared_by-beside known first n)

-- what a statement declares in front of others counts as behind them
pub declared-in_front : (size : ℕ) (known : List ℕ) (stmt : Stmt) (stmts : Stmts) → counts_of size (declared_in (declared_by known stmt) stmts) ≡ counts_of size (declared_by (declared_in known stmts) stmt)
declared-in_front size known stmt stmts =
    counts-same size (counts_of size (declared_in (declared_by known stmt) stmts)) (declared_by (declared_in known stmts) stmt) (length-counts size (declared_in (declared_by known stmt) stmts))
    (λ n small. count-at size (declared_in (declared_by known stmt) stmts) n 0 small ∙ same n)
  where
    same : (n : ℕ) → declarations (declared_in (declared_by known stmt) stmts) n ≡ declarations (declared_by (declared_in known stmts) stmt) n
    same n = omega (arith, declared_in-beside (declared_by known stmt) stmts n, declared_in-beside known stmts n, declared_by-beside known stmt n, declared_by-beside (declared_in known stmts) stmt n)

pub declares-some : (known : List ℕ) (stmt : Stmt) (variable : ℕ) → Some variable ≡ declared_variable stmt → declared_by known stmt ≡ variable ∷ known
declares-some known (local_stmt number init) variable e = cc
declares-some known (block_stmt body) variable e = absurd (cc)
declares-some known (run_stmt value) variable e = absurd (cc)
declares-some known (if_stmt test consequent alternative) variable e = absurd (cc)
declares-some known (for_stmt init test step body) variable e = absurd (cc)
declares-some known (while_stmt test body) variable e = absurd (cc)
declares-some known (do_stmt body test) variable e = absurd (cc)
declares-some known break_stmt variable e = absurd (cc)
declares-some known continue_stmt variable e = absurd (cc)
declares-some known (return_stmt value) variable e = absurd (cc)

pub declares-none : (known : List ℕ) (stmt : Stmt) → None ≡ declared_variable stmt → declared_by known stmt ≡ known
declares-none known (local_stmt number init) e = absurd (cc)
declares-none known (block_stmt body) e = refl
declares-none known (run_stmt value) e = refl
declares-none known (if_stmt test consequent alternative) e = refl
declares-none known (for_stmt init test step body) e = refl
declares-none known (while_stmt test body) e = refl
declares-none known (do_stmt body test) e = refl
declares-none known break_stmt e = refl
declares-none known continue_stmt e = refl
declares-none known (return_stmt value) e = refl

-- what a slice of a vector is written over by
pub with-items : {X Z : Type 0} (v : Vec X Z) (new old : List X) → old ≡ v.items → length new ≡ length old → (with_items v new).items ≡ new
with-items v new old is long = with_items_is v new (long ∙ (ap length is ∙ sym v.ok.0))

-- what is counted and marked

pub marking-as : (end : Marking) (known : List ℕ) (marks : List Bool) → end.marks ≡ marks → end.counts ≡ counts_of (length marks) known → end ≡ marking known marks
marking-as end known marks a b = ap (λ m. record { counts = end.counts; marks = m }) a ∙ ap (λ (l : List ℕ). record { counts = l; marks = marks }) b

-- after occurrences
pub occurrences-marking : (start end : Marking) (known : List ℕ) (marks : List Bool) (occurrences : List Occurrence) → start ≡ marking known marks → end.counts ≡ start.counts → end.marks ≡ mark_occurrences start.counts occurrences start.marks
    → end ≡ marking known (mark_all (undeclared known occurrences) marks)
occurrences-marking start end known marks occurrences is counts reached =
    marking-as end known (mark_all (undeclared known occurrences) marks)
    (reached ∙ (ap (λ s. mark_occurrences s.counts occurrences s.marks) is ∙ occurrences-marked (length marks) known occurrences marks refl))
    (counts ∙ (ap (λ s. s.counts) is ∙ ap (λ n. counts_of n known) (sym (length-mark_all (undeclared known occurrences) marks))))

-- one more statement whose declarations end
pub undeclared-turn : (xs : List HeldStmt) (i : ℕ) (x : HeldStmt) (now end : Marking) (known : List ℕ) (marks : List Bool) → i < length xs → x ≡ get_or xs i x
    → now ≡ marking (declared_in known (plain_stmts (drop i xs))) marks → end.marks ≡ now.marks
    → ((size : ℕ) → (k : List ℕ) → now.counts ≡ counts_of size (declared_by k (plain_stmt x)) → end.counts ≡ counts_of size k)
    → end ≡ marking (declared_in known (plain_stmts (drop (i + 1) xs))) marks
undeclared-turn xs i x now end known marks within is e kept ends =
    let rest = plain_stmts (drop (i + 1) xs) in
    let front : now ≡ marking (declared_in (declared_by known (plain_stmt x)) rest) marks =
    e ∙ ap (λ l. marking (declared_in known (plain_stmts l)) marks) (drop-next xs i x within is) in
    marking-as end (declared_in known rest) marks (kept ∙ ap (λ m. m.marks) front)
    (ends (length marks) (declared_in known rest) (ap (λ m. m.counts) front ∙ declared-in_front (length marks) known (plain_stmt x) rest))

-- one more statement that is gone through
pub noted-turn : (xs : List HeldStmt) (i : ℕ) (x : HeldStmt) (between end : Marking) (known : List ℕ) (marks : List Bool) → i < length xs → x ≡ get_or xs i x
    → between ≡ marking (declared_in known (plain_stmts (take i xs)))
    (mark_all (used_undeclared (declared_in known (plain_stmts (take i xs))) (plain_stmt x)) (mark_all (used_undeclared_in known (plain_stmts (take i xs))) marks))
    → end.marks ≡ between.marks
    → ((size : ℕ) → (k : List ℕ) → between.counts ≡ counts_of size k → end.counts ≡ counts_of size (declared_by k (plain_stmt x)))
    → end ≡ marking (declared_in known (plain_stmts (take (i + 1) xs))) (mark_all (used_undeclared_in known (plain_stmts (take (i + 1) xs))) marks)
noted-turn xs i x between end known marks within is e kept declares =
    let before = map plain_stmt (take i xs) in
    let declared = declared_in known (stmts_of before) in
    let marked = mark_all (used_undeclared declared (plain_stmt x)) (mark_all (used_undeclared_in known (stmts_of before)) marks) in
    let more : map plain_stmt (take (i + 1) xs) ≡ before ++ plain_stmt x ∷ [] = take-next plain_stmt xs i x within is in
    marking-as end (declared_by declared (plain_stmt x)) marked (kept ∙ ap (λ m. m.marks) e) (declares (length marked) declared (ap (λ m. m.counts) e)) ∙
    (ap (λ d. marking d marked) (sym (ap (λ l. declared_in known (stmts_of l)) more ∙ declared_in-more known before (plain_stmt x))) ∙
    ap (marking (declared_in known (plain_stmts (take (i + 1) xs))))
    (sym (ap (λ l. mark_all (used_undeclared_in known (stmts_of l)) marks) more ∙ (ap (λ l. mark_all l marks) (used_undeclared_in-more known before (plain_stmt x)) ∙
    mark_all-append (used_undeclared_in known (stmts_of before)) (used_undeclared declared (plain_stmt x)) marks))))

-- marks of one list behind another

pub then-marked : (known first second : List ℕ) (marks : List Bool) → marking known (mark_all second (mark_all first marks)) ≡ marking known (mark_all (first ++ second) marks)
then-marked known first second marks = ap (marking known) (sym (mark_all-append first second marks))

pub three-marked : (known first second third : List ℕ) (marks : List Bool) → marking known (mark_all third (mark_all second (mark_all first marks))) ≡ marking known (mark_all (first ++ (second ++ third)) marks)
three-marked known first second third marks = then-marked known second third (mark_all first marks) ∙ then-marked known first (second ++ third) marks

pub four-marked : (known first second third fourth : List ℕ) (marks : List Bool)
    → marking known (mark_all fourth (mark_all third (mark_all second (mark_all first marks)))) ≡ marking known (mark_all (first ++ (second ++ (third ++ fourth))) marks)
four-marked known first second third fourth marks = three-marked known second third fourth (mark_all first marks) ∙ then-marked known first (second ++ (third ++ fourth)) marks

-- which marks are set

mark-at : (number : ℕ) (marks : List Bool) (n : ℕ) → n < length marks → get_or (mark number marks) n false ≡ (get_or marks n false || (n == number))
mark-at number marks n within = by_place (cases_eq n number)
  where
    or-true : (b : Bool) → true ≡ (b || true)
    or-true true = refl
    or-true false = refl

    untrue : (b : Bool) → (b ≡ true → ⊥) → b ≡ false
    untrue true not_true = absurd (not_true refl)
    untrue false not_true = refl

    by_place : (n ≡ number) ⊎ (n ≡ number → ⊥) → get_or (mark number marks) n false ≡ (get_or marks n false || (n == number))
    by_place (inl same) =
        ap (λ m. get_or (mark m marks) n false) (sym same) ∙ (get_or-set_same marks n true false within ∙
        (or-true (get_or marks n false) ∙ ap (λ b. get_or marks n false || b) (sym (eq-eqb n number same))))
    by_place (inr other) =
        get_or-set_other marks number n true false other ∙ (sym (or-false (get_or marks n false)) ∙
        ap (λ b. get_or marks n false || b) (sym (untrue (n == number) (λ e. other (eqb-true n number e)))))

pub marks-at : (numbers : List ℕ) (marks : List Bool) (n : ℕ) → n < length marks → get_or (mark_all numbers marks) n false ≡ (get_or marks n false || is_among numbers n)
marks-at [] marks n within = sym (or-false (get_or marks n false))
marks-at (number ∷ numbers) marks n within =
    marks-at numbers (mark number marks) n (omega (arith, length-set marks number true)) ∙
    (ap (λ b. b || is_among numbers n) (mark-at number marks n within) ∙ or-assoc (get_or marks n false) (n == number) (is_among numbers n))

filter-range : (p q : ℕ → Bool) (from count : ℕ) → ((n : ℕ) → from ≤ n → n < from + count → p n ≡ q n) → filter p (range_with_len from count) ≡ filter q (range_with_len from count)
filter-range p q from zero same = refl
filter-range p q from (suc count) same =
    ap (λ b. cond b (from ∷ filter p (range_with_len (from + 1) count)) (filter p (range_with_len (from + 1) count))) (same from (omega arith) (omega arith)) ∙
    ap (λ l. cond (q from) (from ∷ l) l) (filter-range p q (from + 1) count (λ n low high. same n (omega arith) (omega arith)))

-- from no marks on, the marked numbers are those that were marked
pub numbers-marked : (numbers : List ℕ) (count : ℕ) → marked_numbers (mark_all numbers (replicate count false)) ≡ filter (λ n. is_among numbers n) (range_with_len 0 count)
numbers-marked numbers count =
    let marks = mark_all numbers (replicate count false) in
    let long : length (replicate count false) ≡ count = length-replicate count false in
    ap (λ size. filter (λ n. get_or marks n false) (range_with_len 0 size)) (length-mark_all numbers (replicate count false) ∙ long) ∙
    filter-range (λ n. get_or marks n false) (λ n. is_among numbers n) 0 count
    (λ n low high. marks-at numbers (replicate count false) n (omega (arith, long)) ∙ ap (λ b. b || is_among numbers n) (get_or-replicate count n false false (omega (arith, high))))

-- one more number of a range

range-more : (from count : ℕ) → range_with_len from (count + 1) ≡ range_with_len from count ++ (from + count) ∷ []
range-more from zero = ap (λ n. n ∷ []) (omega arith)
range-more from (suc count) =
    ap (range_with_len from) (suc-add count 1) ∙
    ap (λ l. from ∷ l) (range-more (from + 1) count ∙ ap (λ n. range_with_len (from + 1) count ++ n ∷ []) (omega arith))

range-next : (i : ℕ) → range_with_len 0 (i + 1) ≡ range_with_len 0 i ++ i ∷ []
range-next i = range-more 0 i ∙ ap (λ n. range_with_len 0 i ++ n ∷ []) (omega arith)

pub marked-next : (marks : List Bool) (i : ℕ) (numbers : List ℕ) → numbers ≡ filter (λ n. get_or marks n false) (range_with_len 0 i) → get_or marks i false ≡ true
    → numbers ++ i ∷ [] ≡ filter (λ n. get_or marks n false) (range_with_len 0 (i + 1))
marked-next marks i numbers e is =
    let p : ℕ → Bool = λ n. get_or marks n false in
    ap (λ l. l ++ i ∷ []) e ∙ (ap (λ b. filter p (range_with_len 0 i) ++ cond b (i ∷ []) []) (sym is) ∙
    (sym (filter-append p (range_with_len 0 i) (i ∷ [])) ∙ ap (filter p) (sym (range-next i))))

pub unmarked-next : (marks : List Bool) (i : ℕ) (numbers : List ℕ) → numbers ≡ filter (λ n. get_or marks n false) (range_with_len 0 i) → get_or marks i false ≡ false
    → numbers ≡ filter (λ n. get_or marks n false) (range_with_len 0 (i + 1))
unmarked-next marks i numbers e is =
    let p : ℕ → Bool = λ n. get_or marks n false in
    e ∙ (sym (append-nil (filter p (range_with_len 0 i))) ∙ (ap (λ b. filter p (range_with_len 0 i) ++ cond b (i ∷ []) []) (sym is) ∙
    (sym (filter-append p (range_with_len 0 i) (i ∷ [])) ∙ ap (filter p) (sym (range-next i)))))

-- how often a number stands in a range

range-below : (from count n : ℕ) → n < from → declarations (range_with_len from count) n ≡ 0
range-below from zero n low = refl
range-below from (suc count) n low = by_test (n == from) (eqb-true n from) (range-below (from + 1) count n (omega arith))
  where
    by_test : (b : Bool) → (b ≡ true → n ≡ from) → declarations (range_with_len (from + 1) count) n ≡ 0
        → (if b then suc (declarations (range_with_len (from + 1) count) n) else declarations (range_with_len (from + 1) count) n) ≡ 0
    by_test true same e = absurd (omega (arith, same refl, low))
    by_test false same e = e

range-above : (from count n : ℕ) → from + count ≤ n → declarations (range_with_len from count) n ≡ 0
range-above from zero n high = refl
range-above from (suc count) n high = by_test (n == from) (eqb-true n from) (range-above (from + 1) count n (omega arith))
  where
    by_test : (b : Bool) → (b ≡ true → n ≡ from) → declarations (range_with_len (from + 1) count) n ≡ 0
        → (if b then suc (declarations (range_with_len (from + 1) count) n) else declarations (range_with_len (from + 1) count) n) ≡ 0
    by_test true same e = absurd (omega (arith, same refl, high))
    by_test false same e = e

range-within : (from count n : ℕ) → from ≤ n → n < from + count → declarations (range_with_len from count) n ≡ 1
range-within from zero n low high = absurd (omega arith)
range-within from (suc count) n low high = by_place (cases_eq n from) (λ other. range-within (from + 1) count n (omega (arith, other, low)) (omega (arith, high)))
  where
    step : ℕ
    step = declarations (range_with_len (from + 1) count) n

    untrue : (b : Bool) → (b ≡ true → ⊥) → (if b then suc step else step) ≡ step
    untrue true not_true = absurd (not_true refl)
    untrue false not_true = refl

    by_place : (n ≡ from) ⊎ (n ≡ from → ⊥) → ((n ≡ from → ⊥) → step ≡ 1) → (if n == from then suc step else step) ≡ 1
    by_place (inl same) next = ap (λ b. if b then suc step else step) (eq-eqb n from same) ∙ ap suc (range-below (from + 1) count n (omega (arith, same)))
    by_place (inr other) next = untrue (n == from) (λ e. other (eqb-true n from e)) ∙ next other

pub start-within : (count n : ℕ) → n < count → 1 ≡ declarations (range_with_len 0 count) n
start-within count n within = sym (range-within 0 count n (omega arith) (omega arith))

pub start-past : (count n : ℕ) → count ≤ n → 0 ≡ declarations (range_with_len 0 count) n
start-past count n past = sym (range-above 0 count n (omega arith))

-- at the start

pub counts-next : (count number value : ℕ) (counts grown : List ℕ) → grown ≡ counts ++ value ∷ [] → value ≡ declarations (range_with_len 0 count) number
    → counts ≡ map (declarations (range_with_len 0 count)) (range_with_len 0 number) → grown ≡ map (declarations (range_with_len 0 count)) (range_with_len 0 (number + 1))
counts-next count number value counts grown e is so_far =
    let f = declarations (range_with_len 0 count) in
    e ∙ (ap (λ l. l ++ value ∷ []) so_far ∙ (ap (λ y. map f (range_with_len 0 number) ++ y ∷ []) is ∙ sym (map-range_with_len_more f 0 number number (sym (from_zero number)))))

pub marks-next : (number : ℕ) (marks grown : List Bool) → grown ≡ marks ++ false ∷ [] → marks ≡ replicate number false → grown ≡ replicate (number + 1) false
marks-next number marks grown e so_far = e ∙ (ap (λ l. l ++ false ∷ []) so_far ∙ replicate_more number false)

pub at-start : (m : Marking) (found parameters number count : ℕ) → m.counts ≡ map (declarations (range_with_len 0 found)) (range_with_len 0 number) → m.marks ≡ replicate number false
    → found ≡ parameters → number ≡ count → m ≡ marking (range_with_len 0 parameters) (replicate count false)
at-start m found parameters number count a b same all =
    marking-as m (range_with_len 0 parameters) (replicate count false) (b ∙ ap (λ n. replicate n false) all)
    (a ∙ (ap (λ p. counts_of number (range_with_len 0 p)) same ∙ ap (λ n. counts_of n (range_with_len 0 parameters)) (all ∙ sym (length-replicate count false))))
