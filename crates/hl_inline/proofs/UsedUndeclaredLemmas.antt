-- Variables that are declared, or may be used before, are all that statements use.
use Rattle.std.proofs.Common.{◌≡◌, ◌∙◌, refl, sym, ap, subst, ℕ, zero, suc, ◌+◌, ◌<◌, ◌≤◌, ◌⊎◌, inl, inr, Bool, true, false, List, [], ◌∷◌, ◌++◌, length, arith}
use Rattle.std.specs.Prelude.{◌==◌, ◌||◌, cond, filter, filter_map, not, IsTrue}
use Rattle.std.specs.List.{range_with_len}
use Rattle.std.proofs.lemmas.Bool.{cases_eq, cases_lt, eq-eqb, eqb-true, or_cases, true≢false}
use Rattle.hl_meaning.specs.Trees.{MaybeStmt, Stmt, Stmts, block_stmt, break_stmt, constant_root, continue_stmt, do_stmt, element_root, for_stmt, if_stmt, local_stmt, more_stmts, no_stmt, no_stmts, return_stmt, run_stmt, shared_root, some_stmt, variable_root, while_stmt}
use Rattle.hl_meaning.specs.Programs.{FunctionDef}
use Rattle.hl_inline.specs.Occurrences.{Occurrence, call_occurrence, expr_occurrences, expr_option_occurrences, place_occurrence}
use Rattle.hl_inline.specs.UsedUndeclared.{declared_by, declared_in, parameter_numbers, undeclared, used_undeclared, used_undeclared_if, used_undeclared_in, variable_of, variables_used_undeclared}
use Rattle.hl_meaning.specs.Operators.{is_among}
use Rattle.hl_inline.proofs.Covered.{Covers}
use Rattle.typed_laws.proofs.Typed.{never}

-- a number is among some
abbrev pub In : List ℕ → ℕ → Type 0
In numbers number = IsTrue (is_among numbers number)

or_left_true : (a b : Bool) → a ≡ true → (a || b) ≡ true
or_left_true true b e = refl
or_left_true false b e = absurd (true≢false (sym e))

or_right_true : (a b : Bool) → b ≡ true → (a || b) ≡ true
or_right_true true b e = refl
or_right_true false b e = e

pub in_first : (x : ℕ) (xs : List ℕ) → In (x ∷ xs) x
in_first x xs = or_left_true (x == x) (is_among xs x) (eq-eqb x x refl)

pub in_rest : (x y : ℕ) (xs : List ℕ) → In xs y → In (x ∷ xs) y
in_rest x y xs h = or_right_true (y == x) (is_among xs y) h

pub in_cases : (x y : ℕ) (xs : List ℕ) → In (x ∷ xs) y → (y ≡ x) ⊎ In xs y
in_cases x y xs h = by_case (or_cases (y == x) (is_among xs y) h)
  where
    by_case : ((y == x) ≡ true) ⊎ (is_among xs y ≡ true) → (y ≡ x) ⊎ In xs y
    by_case (inl e) = inl (eqb-true y x e)
    by_case (inr e) = inr e

pub in_front : (xs ys : List ℕ) (x : ℕ) → In xs x → In (xs ++ ys) x
in_front [] ys x h = never h
in_front (y ∷ xs) ys x h = by_case (in_cases y x xs h) (λ h. in_front xs ys x h)
  where
    by_case : (x ≡ y) ⊎ In xs x → (In xs x → In (xs ++ ys) x) → In (y ∷ (xs ++ ys)) x
    by_case (inl e) next = subst (λ z. In (z ∷ (xs ++ ys)) x) e (in_first x (xs ++ ys))
    by_case (inr h) next = in_rest y x (xs ++ ys) (next h)

pub in_back : (xs ys : List ℕ) (x : ℕ) → In ys x → In (xs ++ ys) x
in_back [] ys x h = h
in_back (y ∷ xs) ys x h = in_rest y x (xs ++ ys) (in_back xs ys x h)

pub in_filter : (p : ℕ → Bool) (xs : List ℕ) (x : ℕ) → In xs x → p x ≡ true → In (filter p xs) x
in_filter p [] x h e = never h
in_filter p (y ∷ xs) x h e = by_test (p y) refl (in_cases y x xs h) (λ h. in_filter p xs x h e)
  where
    by_test : (b : Bool) → p y ≡ b → (x ≡ y) ⊎ In xs x → (In xs x → In (filter p xs) x) → In (cond b (y ∷ filter p xs) (filter p xs)) x
    by_test true is (inl same) next = subst (λ z. In (z ∷ filter p xs) x) same (in_first x (filter p xs))
    by_test true is (inr h) next = in_rest y x (filter p xs) (next h)
    by_test false is (inl same) next = absurd (true≢false (sym e ∙ (ap p same ∙ is)))
    by_test false is (inr h) next = next h

-- a number of a range
pub in_range : (from count x : ℕ) → from ≤ x → x < from + count → In (range_with_len from count) x
in_range from zero x low high = absurd (omega (arith, low, high))
in_range from (suc count) x low high = by_case (cases_eq x from) (λ apart. in_range (from + 1) count x (omega (arith, low, apart)) (omega (arith, high)))
  where
    by_case : (x ≡ from) ⊎ (x ≡ from → ⊥) → ((x ≡ from → ⊥) → In (range_with_len (from + 1) count) x) → In (from ∷ range_with_len (from + 1) count) x
    by_case (inl e) next = subst (λ z. In (z ∷ range_with_len (from + 1) count) x) e (in_first x (range_with_len (from + 1) count))
    by_case (inr apart) next = in_rest from x (range_with_len (from + 1) count) (next apart)

-- what may be used before: a number that isn't below a bound isn't a variable
abbrev pub InOr : (bound : ℕ) → List ℕ → ℕ → Type 0
InOr bound numbers v = In numbers v ⊎ (bound ≤ v)

-- what is used in statements, where the variables that are declared grow
abbrev mutual
  pub CoveredStmt : (bound : ℕ) → List ℕ → Stmt → Type 0
  CoveredStmt b known (block_stmt body) = CoveredAll b known body
  CoveredStmt b known (local_stmt variable init) = Covers (InOr b known) (expr_option_occurrences init)
  CoveredStmt b known (run_stmt value) = Covers (InOr b known) (expr_occurrences value)
  CoveredStmt b known (if_stmt cond consequent alternative) = Covers (InOr b known) (expr_occurrences cond) × CoveredStmt b known consequent × CoveredIf b known alternative
  CoveredStmt b known (for_stmt init cond step body) =
      CoveredAll b known init × Covers (InOr b (declared_in known init)) (expr_option_occurrences cond) × Covers (InOr b (declared_in known init)) (expr_option_occurrences step) × CoveredStmt b (declared_in known init) body
  CoveredStmt b known (while_stmt cond body) = Covers (InOr b known) (expr_occurrences cond) × CoveredStmt b known body
  CoveredStmt b known (do_stmt body cond) = CoveredStmt b known body × Covers (InOr b known) (expr_occurrences cond)
  CoveredStmt b known break_stmt = Unit {0}
  CoveredStmt b known continue_stmt = Unit {0}
  CoveredStmt b known (return_stmt value) = Covers (InOr b known) (expr_option_occurrences value)

  pub CoveredAll : ℕ → List ℕ → Stmts → Type 0
  CoveredAll b known no_stmts = Unit {0}
  CoveredAll b known (more_stmts first rest) = CoveredStmt b known first × CoveredAll b (declared_by known first) rest

  pub CoveredIf : ℕ → List ℕ → MaybeStmt → Type 0
  CoveredIf b known no_stmt = Unit {0}
  CoveredIf b known (some_stmt body) = CoveredStmt b known body

-- all of some numbers are among what may be used before
abbrev pub Within : (bound : ℕ) → List ℕ → List ℕ → Type 0
Within b numbers known = (v : ℕ) → In numbers v → InOr b known v

within_front : (b : ℕ) (xs ys known : List ℕ) → Within b (xs ++ ys) known → Within b xs known
within_front b xs ys known h v there = h v (in_front xs ys v there)

within_back : (b : ℕ) (xs ys known : List ℕ) → Within b (xs ++ ys) known → Within b ys known
within_back b xs ys known h v there = h v (in_back xs ys v there)

-- what isn't declared among occurrences, and what is, cover them
occurrences_covered : (b : ℕ) (declared known : List ℕ) (occurrences : List Occurrence) → Within b declared known → Within b (undeclared declared occurrences) known → Covers (InOr b known) occurrences
occurrences_covered b declared known [] d u = tt
occurrences_covered b declared known (call_occurrence function ∷ occurrences) d u = (tt, occurrences_covered b declared known occurrences d u)
occurrences_covered b declared known (place_occurrence (constant_root number) parts ∷ occurrences) d u = (tt, occurrences_covered b declared known occurrences d u)
occurrences_covered b declared known (place_occurrence (shared_root number) parts ∷ occurrences) d u = (tt, occurrences_covered b declared known occurrences d u)
occurrences_covered b declared known (place_occurrence (element_root resource index) parts ∷ occurrences) d u = (tt, occurrences_covered b declared known occurrences d u)
occurrences_covered b declared known (place_occurrence (variable_root number) parts ∷ occurrences) d u = by_test (is_among declared number) refl u (λ u. occurrences_covered b declared known occurrences d u)
  where
    by_test : (t : Bool) → is_among declared number ≡ t → Within b (cond (not t) (number ∷ undeclared declared occurrences) (undeclared declared occurrences)) known →
        (Within b (undeclared declared occurrences) known → Covers (InOr b known) occurrences) → InOr b known number × Covers (InOr b known) occurrences
    by_test true is u next = (d number is, next u)
    by_test false is u next = (u number (in_first number (undeclared declared occurrences)), next (λ v there. u v (in_rest number v (undeclared declared occurrences) there)))

declared_more : (b : ℕ) (declared known : List ℕ) (stmt : Stmt) → Within b declared known → Within b (declared_by declared stmt) (declared_by known stmt)
declared_more b declared known (local_stmt variable init) h v there = by_case (in_cases variable v declared there)
  where
    by_known : InOr b known v → InOr b (variable ∷ known) v
    by_known (inl i) = inl (in_rest variable v known i)
    by_known (inr i) = inr i

    by_case : (v ≡ variable) ⊎ In declared v → InOr b (variable ∷ known) v
    by_case (inl e) = inl (subst (λ z. In (z ∷ known) v) e (in_first v known))
    by_case (inr i) = by_known (h v i)
declared_more b declared known (block_stmt body) h v there = h v there
declared_more b declared known (run_stmt value) h v there = h v there
declared_more b declared known (if_stmt cond consequent alternative) h v there = h v there
declared_more b declared known (for_stmt init cond step body) h v there = h v there
declared_more b declared known (while_stmt cond body) h v there = h v there
declared_more b declared known (do_stmt body cond) h v there = h v there
declared_more b declared known break_stmt h v there = h v there
declared_more b declared known continue_stmt h v there = h v there
declared_more b declared known (return_stmt value) h v there = h v there

-- what was known stays known
pub known_more : (b : ℕ) (known : List ℕ) (stmt : Stmt) (v : ℕ) → InOr b known v → InOr b (declared_by known stmt) v
known_more b known (local_stmt variable init) v (inl i) = inl (in_rest variable v known i)
known_more b known (local_stmt variable init) v (inr i) = inr i
known_more b known (block_stmt body) v h = h
known_more b known (run_stmt value) v h = h
known_more b known (if_stmt cond consequent alternative) v h = h
known_more b known (for_stmt init cond step body) v h = h
known_more b known (while_stmt cond body) v h = h
known_more b known (do_stmt body cond) v h = h
known_more b known break_stmt v h = h
known_more b known continue_stmt v h = h
known_more b known (return_stmt value) v h = h

pub all_known_more : (b : ℕ) (known : List ℕ) (stmts : Stmts) (v : ℕ) → InOr b known v → InOr b (declared_in known stmts) v
all_known_more b known no_stmts v h = h
all_known_more b known (more_stmts first rest) v h = all_known_more b (declared_by known first) rest v (known_more b known first v h)

declared_all_more : (b : ℕ) (declared known : List ℕ) (stmts : Stmts) → Within b declared known → Within b (declared_in declared stmts) (declared_in known stmts)
declared_all_more b declared known no_stmts h = h
declared_all_more b declared known (more_stmts first rest) h = declared_all_more b (declared_by declared first) (declared_by known first) rest (declared_more b declared known first h)

within_more : (b : ℕ) (numbers known : List ℕ) (stmt : Stmt) → Within b numbers known → Within b numbers (declared_by known stmt)
within_more b numbers known stmt h v there = known_more b known stmt v (h v there)

within_all_more : (b : ℕ) (numbers known : List ℕ) (stmts : Stmts) → Within b numbers known → Within b numbers (declared_in known stmts)
within_all_more b numbers known stmts h v there = all_known_more b known stmts v (h v there)

mutual
  pub stmt_covered : (b : ℕ) (stmt : Stmt) (declared known : List ℕ) → Within b declared known → Within b (used_undeclared declared stmt) known → CoveredStmt b known stmt
  stmt_covered b (block_stmt body) declared known d e = all_covered b body declared known d e
  stmt_covered b (local_stmt variable init) declared known d e = occurrences_covered b declared known (expr_option_occurrences init) d e
  stmt_covered b (run_stmt value) declared known d e = occurrences_covered b declared known (expr_occurrences value) d e
  stmt_covered b (if_stmt cond consequent alternative) declared known d e =
      let rest = within_back b (undeclared declared (expr_occurrences cond)) (used_undeclared declared consequent ++ used_undeclared_if declared alternative) known e in (
        occurrences_covered b declared known (expr_occurrences cond) d (within_front b (undeclared declared (expr_occurrences cond)) (used_undeclared declared consequent ++ used_undeclared_if declared alternative) known e),
        stmt_covered b consequent declared known d (within_front b (used_undeclared declared consequent) (used_undeclared_if declared alternative) known rest),
        if_covered b alternative declared known d (within_back b (used_undeclared declared consequent) (used_undeclared_if declared alternative) known rest),
      )
  stmt_covered b (for_stmt init cond step body) declared known d e =
      let inner = declared_in declared init in
      let all = declared_in known init in
      let d' = declared_all_more b declared known init d in
      let behind = within_back b (used_undeclared_in declared init) (undeclared inner (expr_option_occurrences cond) ++ (undeclared inner (expr_option_occurrences step) ++ used_undeclared inner body)) known e in
      let behind_cond = within_back b (undeclared inner (expr_option_occurrences cond)) (undeclared inner (expr_option_occurrences step) ++ used_undeclared inner body) known behind in (
        all_covered b init declared known d (within_front b (used_undeclared_in declared init) (undeclared inner (expr_option_occurrences cond) ++ (undeclared inner (expr_option_occurrences step) ++ used_undeclared inner body)) known e),
        occurrences_covered b inner all (expr_option_occurrences cond) d' (within_all_more b (undeclared inner (expr_option_occurrences cond)) known init (within_front b (undeclared inner (expr_option_occurrences cond)) (undeclared inner (expr_option_occurrences step) ++ used_undeclared inner body) known behind)),
        occurrences_covered b inner all (expr_option_occurrences step) d' (within_all_more b (undeclared inner (expr_option_occurrences step)) known init (within_front b (undeclared inner (expr_option_occurrences step)) (used_undeclared inner body) known behind_cond)),
        stmt_covered b body inner all d' (within_all_more b (used_undeclared inner body) known init (within_back b (undeclared inner (expr_option_occurrences step)) (used_undeclared inner body) known behind_cond)),
      )
  stmt_covered b (while_stmt cond body) declared known d e = (
    occurrences_covered b declared known (expr_occurrences cond) d (within_front b (undeclared declared (expr_occurrences cond)) (used_undeclared declared body) known e),
    stmt_covered b body declared known d (within_back b (undeclared declared (expr_occurrences cond)) (used_undeclared declared body) known e),
  )
  stmt_covered b (do_stmt body cond) declared known d e = (
    stmt_covered b body declared known d (within_front b (used_undeclared declared body) (undeclared declared (expr_occurrences cond)) known e),
    occurrences_covered b declared known (expr_occurrences cond) d (within_back b (used_undeclared declared body) (undeclared declared (expr_occurrences cond)) known e),
  )
  stmt_covered b break_stmt declared known d e = tt
  stmt_covered b continue_stmt declared known d e = tt
  stmt_covered b (return_stmt value) declared known d e = occurrences_covered b declared known (expr_option_occurrences value) d e

  pub all_covered : (b : ℕ) (stmts : Stmts) (declared known : List ℕ) → Within b declared known → Within b (used_undeclared_in declared stmts) known → CoveredAll b known stmts
  all_covered b no_stmts declared known d e = tt
  all_covered b (more_stmts first rest) declared known d e = (
    stmt_covered b first declared known d (within_front b (used_undeclared declared first) (used_undeclared_in (declared_by declared first) rest) known e),
    all_covered b rest (declared_by declared first) (declared_by known first) (declared_more b declared known first d)
        (within_more b (used_undeclared_in (declared_by declared first) rest) known first (within_back b (used_undeclared declared first) (used_undeclared_in (declared_by declared first) rest) known e)),
  )

  pub if_covered : (b : ℕ) (stmt : MaybeStmt) (declared known : List ℕ) → Within b declared known → Within b (used_undeclared_if declared stmt) known → CoveredIf b known stmt
  if_covered b no_stmt declared known d e = tt
  if_covered b (some_stmt body) declared known d e = stmt_covered b body declared known d e

-- what is known at the start of a function: its parameters, and what may be used before its declaration
abbrev pub known_at_start : FunctionDef → List ℕ
known_at_start f = parameter_numbers f ++ variables_used_undeclared f

pub function_covered : (f : FunctionDef) → CoveredAll (length f.variables) (known_at_start f) f.body
function_covered f =
    all_covered (length f.variables) f.body (parameter_numbers f) (known_at_start f) (λ v there. inl (in_front (parameter_numbers f) (variables_used_undeclared f) v there)) used_undeclared_known
  where
    used_undeclared_known : Within (length f.variables) (used_undeclared_in (parameter_numbers f) f.body) (known_at_start f)
    used_undeclared_known v there = by_case (cases_lt v (length f.variables))
      where
        by_case : (v < length f.variables) ⊎ (length f.variables ≤ v) → InOr (length f.variables) (known_at_start f) v
        by_case (inr past) = inr past
        by_case (inl here) =
            inl (in_back (parameter_numbers f) (variables_used_undeclared f) v
            (in_filter (λ number. is_among (used_undeclared_in (parameter_numbers f) f.body) number) (range_with_len 0 (length f.variables)) v
            (in_range 0 (length f.variables) v (omega arith) (omega (arith, here))) there))

-- what is declared isn't used before its declaration

pub in_append_cases : (xs ys : List ℕ) (x : ℕ) → In (xs ++ ys) x → In xs x ⊎ In ys x
in_append_cases [] ys x h = inr h
in_append_cases (y ∷ xs) ys x h = by_case (in_cases y x (xs ++ ys) h) (λ h. in_append_cases xs ys x h)
  where
    by_rest : In xs x ⊎ In ys x → In (y ∷ xs) x ⊎ In ys x
    by_rest (inl h) = inl (in_rest y x xs h)
    by_rest (inr h) = inr h

    by_case : (x ≡ y) ⊎ In (xs ++ ys) x → (In (xs ++ ys) x → In xs x ⊎ In ys x) → In (y ∷ xs) x ⊎ In ys x
    by_case (inl e) next = inl (subst (λ z. In (z ∷ xs) x) e (in_first x xs))
    by_case (inr h) next = by_rest (next h)

-- not among two lists
apart_append : (xs ys : List ℕ) (x : ℕ) → (In xs x → ⊥) → (In ys x → ⊥) → In (xs ++ ys) x → ⊥
apart_append xs ys x a b h = by_case (in_append_cases xs ys x h)
  where
    by_case : In xs x ⊎ In ys x → ⊥
    by_case (inl h) = a h
    by_case (inr h) = b h

pub filter_holds : (p : ℕ → Bool) (xs : List ℕ) (x : ℕ) → In (filter p xs) x → p x ≡ true
filter_holds p [] x h = never h
filter_holds p (y ∷ xs) x h = by_test (p y) refl h (λ h. filter_holds p xs x h)
  where
    by_test : (b : Bool) → p y ≡ b → In (cond b (y ∷ filter p xs) (filter p xs)) x → (In (filter p xs) x → p x ≡ true) → p x ≡ true
    by_test true is h next = by_case (in_cases y x (filter p xs) h)
      where
        by_case : (x ≡ y) ⊎ In (filter p xs) x → p x ≡ true
        by_case (inl e) = ap p e ∙ is
        by_case (inr h) = next h
    by_test false is h next = next h

pub filter_in : (p : ℕ → Bool) (xs : List ℕ) (x : ℕ) → In (filter p xs) x → In xs x
filter_in p [] x h = never h
filter_in p (y ∷ xs) x h = by_test (p y) h (λ h. filter_in p xs x h)
  where
    by_test : (b : Bool) → In (cond b (y ∷ filter p xs) (filter p xs)) x → (In (filter p xs) x → In xs x) → In (y ∷ xs) x
    by_test true h next = by_case (in_cases y x (filter p xs) h)
      where
        by_case : (x ≡ y) ⊎ In (filter p xs) x → In (y ∷ xs) x
        by_case (inl e) = subst (λ z. In (z ∷ xs) x) e (in_first x xs)
        by_case (inr h) = in_rest y x xs (next h)
    by_test false h next = in_rest y x xs (next h)

undeclared_apart : (declared : List ℕ) (occurrences : List Occurrence) (v : ℕ) → In declared v → In (undeclared declared occurrences) v → ⊥
undeclared_apart declared occurrences v there h =
    true≢false (sym (filter_holds (λ number. not (is_among declared number)) (filter_map variable_of occurrences) v h) ∙ ap not there)

declared_stays : (declared : List ℕ) (stmt : Stmt) (v : ℕ) → In declared v → In (declared_by declared stmt) v
declared_stays declared (local_stmt variable init) v h = in_rest variable v declared h
declared_stays declared (block_stmt body) v h = h
declared_stays declared (run_stmt value) v h = h
declared_stays declared (if_stmt cond consequent alternative) v h = h
declared_stays declared (for_stmt init cond step body) v h = h
declared_stays declared (while_stmt cond body) v h = h
declared_stays declared (do_stmt body cond) v h = h
declared_stays declared break_stmt v h = h
declared_stays declared continue_stmt v h = h
declared_stays declared (return_stmt value) v h = h

all_declared_stays : (declared : List ℕ) (stmts : Stmts) (v : ℕ) → In declared v → In (declared_in declared stmts) v
all_declared_stays declared no_stmts v h = h
all_declared_stays declared (more_stmts first rest) v h = all_declared_stays (declared_by declared first) rest v (declared_stays declared first v h)

mutual
  stmt_apart : (stmt : Stmt) (declared : List ℕ) (v : ℕ) → In declared v → In (used_undeclared declared stmt) v → ⊥
  stmt_apart (block_stmt body) declared v there = all_apart body declared v there
  stmt_apart (local_stmt variable init) declared v there = undeclared_apart declared (expr_option_occurrences init) v there
  stmt_apart (run_stmt value) declared v there = undeclared_apart declared (expr_occurrences value) v there
  stmt_apart (if_stmt cond consequent alternative) declared v there =
      apart_append (undeclared declared (expr_occurrences cond)) (used_undeclared declared consequent ++ used_undeclared_if declared alternative) v (undeclared_apart declared (expr_occurrences cond) v there)
      (apart_append (used_undeclared declared consequent) (used_undeclared_if declared alternative) v (stmt_apart consequent declared v there) (if_apart alternative declared v there))
  stmt_apart (for_stmt init cond step body) declared v there =
      let inner = declared_in declared init in
      let there' = all_declared_stays declared init v there in
      apart_append (used_undeclared_in declared init) (undeclared inner (expr_option_occurrences cond) ++ (undeclared inner (expr_option_occurrences step) ++ used_undeclared inner body)) v (all_apart init declared v there)
      (apart_append (undeclared inner (expr_option_occurrences cond)) (undeclared inner (expr_option_occurrences step) ++ used_undeclared inner body) v (undeclared_apart inner (expr_option_occurrences cond) v there')
      (apart_append (undeclared inner (expr_option_occurrences step)) (used_undeclared inner body) v (undeclared_apart inner (expr_option_occurrences step) v there') (stmt_apart body inner v there')))
  stmt_apart (while_stmt cond body) declared v there =
      apart_append (undeclared declared (expr_occurrences cond)) (used_undeclared declared body) v (undeclared_apart declared (expr_occurrences cond) v there) (stmt_apart body declared v there)
  stmt_apart (do_stmt body cond) declared v there =
      apart_append (used_undeclared declared body) (undeclared declared (expr_occurrences cond)) v (stmt_apart body declared v there) (undeclared_apart declared (expr_occurrences cond) v there)
  stmt_apart break_stmt declared v there = λ h. never h
  stmt_apart continue_stmt declared v there = λ h. never h
  stmt_apart (return_stmt value) declared v there = undeclared_apart declared (expr_option_occurrences value) v there

  all_apart : (stmts : Stmts) (declared : List ℕ) (v : ℕ) → In declared v → In (used_undeclared_in declared stmts) v → ⊥
  all_apart no_stmts declared v there = λ h. never h
  all_apart (more_stmts first rest) declared v there =
      apart_append (used_undeclared declared first) (used_undeclared_in (declared_by declared first) rest) v (stmt_apart first declared v there) (all_apart rest (declared_by declared first) v (declared_stays declared first v there))

  if_apart : (stmt : MaybeStmt) (declared : List ℕ) (v : ℕ) → In declared v → In (used_undeclared_if declared stmt) v → ⊥
  if_apart no_stmt declared v there = λ h. never h
  if_apart (some_stmt body) declared v there = stmt_apart body declared v there

pub range_bounds : (from count x : ℕ) → In (range_with_len from count) x → (from ≤ x) × (x < from + count)
range_bounds from zero x h = never h
range_bounds from (suc count) x h = by_case (in_cases from x (range_with_len (from + 1) count) h) (λ h. range_bounds (from + 1) count x h)
  where
    by_case : (x ≡ from) ⊎ In (range_with_len (from + 1) count) x → (In (range_with_len (from + 1) count) x → (from + 1 ≤ x) × (x < from + 1 + count)) → (from ≤ x) × (x < from + suc count)
    by_case (inl e) next = (omega (arith, e), omega (arith, e))
    by_case (inr h) next = let r = next h in (omega (arith, r.0), omega (arith, r.1))

-- the variables that may be used before their declaration are no parameters
pub used_undeclared_behind : (f : FunctionDef) (v : ℕ) → In (variables_used_undeclared f) v → (length f.parameters ≤ v) × (v < length f.variables)
used_undeclared_behind f v h =
    (by_case (cases_lt v (length f.parameters)), omega (arith, (range_bounds 0 (length f.variables) v (filter_in (λ number. is_among (used_undeclared_in (parameter_numbers f) f.body) number) (range_with_len 0 (length f.variables)) v h)).1))
  where
    by_case : (v < length f.parameters) ⊎ (length f.parameters ≤ v) → length f.parameters ≤ v
    by_case (inr behind) = behind
    by_case (inl parameter) =
        absurd (all_apart f.body (parameter_numbers f) v (in_range 0 (length f.parameters) v (omega arith) (omega (arith, parameter))) (filter_holds (λ number. is_among (used_undeclared_in (parameter_numbers f) f.body) number) (range_with_len 0 (length f.variables)) v h))
