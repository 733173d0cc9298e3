-- What becomes of statements is well formed.
use Rattle.std.proofs.Common.{◌≡◌, ◌∙◌, refl, sym, ap, subst, ℕ, suc, ◌+◌, ◌≤◌, inl, inr, Bool, true, false, List, [], ◌∷◌, ◌++◌, Option, None, Some, arith}
use Rattle.std.specs.Prelude.{IsTrue, not}
use Rattle.hl_meaning.specs.Types.{Ty, bool_type, is_void}
use Rattle.hl_meaning.specs.Trees.{Expr, MaybeStmt, Stmt, Stmts, block_stmt, break_stmt, continue_stmt, do_stmt, for_stmt, if_stmt, local_stmt, more_stmts, no_stmt, no_stmts, return_stmt, run_stmt, some_stmt, type_of, while_stmt}
use Rattle.hl_meaning.specs.Programs.{Variable}
use Rattle.hl_meaning.specs.Places.{Scope, variable_type}
use Rattle.hl_meaning.specs.WellFormed.{AreStmts, IsCondition, IsDeclared, IsConditionIf, IsExpr, IsExprIf, IsLocal, IsReturn, IsStmt, IsStmtIf}
use Rattle.hl_inline.specs.FlatTrees.{FlatStmt, flat_block, flat_if, flat_leave, flat_local, flat_loop, flat_named, flat_run, no_flat_stmts, some_flat_stmt}
use Rattle.hl_inline.specs.FlatViews.{flat_stmts_of}
use Rattle.hl_inline.specs.FlatWellFormed.{IsFlatStmtIf, inputs_if}
use Rattle.hl_meaning.specs.Operators.{is_among}
use Rattle.hl_inline.specs.EmittedCode.{EmittedCode, as_alternative, as_one, emitted_stmt, emitted_with, nothing_emitted}
use Rattle.hl_inline.specs.EmittedExpressions.{emitted, emitter}
use Rattle.hl_inline.specs.EmittedStatements.{Jumps, block_of, choice_of, emit_body, emit_local, emit_loop, emit_return, emit_run_if, emit_stmt, emit_stmt_if, emit_stmts, emit_test, emit_test_if, is_call, jumps_of, run_of, set_to, test_of, with_jumps}
use Rattle.hl_inline.specs.Emitting.{Valued}
use Rattle.hl_inline.specs.Fresh.{Fresh, Instance}
use Rattle.hl_inline.specs.InlinedCalls.{Inlined}
use Rattle.typed_laws.proofs.Typed.{IsSome, never, some_declared}
use Rattle.hl_inline.proofs.Fronts.{IsFront, front_refl, front_trans, type_there, type_at}
use Rattle.typed_laws.proofs.Functions.{every_type}
use Rattle.hl_inline.proofs.FlatCode.{AreBelow, AreDeclared, AreFitting, Extends, IsCode, below_more, block_fits, code_append, code_where, extends_refl, extends_trans, free_name, named_here, named_later, no_code, one_code, one_fits, other_name}
use Rattle.hl_inline.proofs.FlatForms.{StandsFrom, scope_over}
use Rattle.hl_inline.proofs.FlatExprs.{Anywhere, IsEmitted, IsGiven}

-- the names of the loop around, where there is one
abbrev pub HasJumps : (in_loop : Bool) → Jumps → List ℕ → Type 0
HasJumps true j names = IsTrue (is_among names j.break_name) × IsTrue (is_among names j.continue_name)
HasJumps false j names = Unit {0}

-- the names that a statement may leave
abbrev pub Inside : (exit : ℕ) → (in_loop : Bool) → Jumps → List ℕ → Type 0
Inside exit in_loop j names = IsTrue (is_among names exit) × HasJumps in_loop j names

-- a turn of a loop: inside what `break` leaves, and not yet inside what `continue` leaves
abbrev pub InTurn : (exit break_name : ℕ) → List ℕ → Type 0
InTurn exit break_name names = IsTrue (is_among names exit) × IsTrue (is_among names break_name) × IsTrue (not (is_among names (suc break_name)))

-- names inside what a loop's `break` leaves
turn_names : (exit in_break : ℕ) (names : List ℕ) → AreBelow in_break names → IsTrue (is_among names exit) → InTurn exit in_break (in_break ∷ names)
turn_names exit name names below h =
    (named_later name exit names h, named_here name names, other_name name (suc name) names (λ e. omega (arith, e)) (free_name name (suc name) names (omega arith) below))

-- and inside what `continue` leaves
body_names : (exit : ℕ) (fresh : Fresh) (names : List ℕ) → InTurn exit fresh.names names → Inside exit true (jumps_of fresh) (suc fresh.names ∷ names)
body_names exit fresh names h = (named_later (suc fresh.names) exit names h.0, (named_later (suc fresh.names) fresh.names names h.1, named_here (suc fresh.names) names))

jumps_extend : (S : Scope) (fresh : Fresh) → Extends S.structs fresh (with_jumps fresh)
jumps_extend S fresh = record { grows = front_refl fresh.variables; names = omega arith; declared = λ d. d }

module _ (S : Scope) (R : Type 0) where
  abbrev pub IsEmittedCode : (List ℕ → Type 0) → Fresh → EmittedCode → Type 0
  IsEmittedCode T fresh x = IsCode S R T fresh x.fresh x.code

  pub nothing_emitted_fits : (T : List ℕ → Type 0) (fresh : Fresh) → IsEmittedCode T fresh (nothing_emitted fresh)
  nothing_emitted_fits T fresh = no_code S R T fresh

  -- one after the other
  pub then_emitted : (T : List ℕ → Type 0) (fresh : Fresh) (x y : EmittedCode) → IsEmittedCode T fresh x → IsEmittedCode T x.fresh y → IsEmittedCode T fresh (emitted_with x.code y)
  then_emitted T fresh x y f g = code_append S R T fresh x.fresh y.fresh x.code y.code f g

  pub block_emitted : (T : List ℕ → Type 0) (fresh : Fresh) (x : EmittedCode) → IsEmittedCode T fresh x → IsEmittedCode T fresh (block_of x)
  block_emitted T fresh x f =
      one_code S R T fresh x.fresh (flat_block (flat_stmts_of x.code)) f.extends (λ r front names below t. block_fits S names x.code (f.fits r front names below t))

  leave_emitted : (T : List ℕ → Type 0) (fresh : Fresh) (name : ℕ) → ((names : List ℕ) → T names → IsTrue (is_among names name)) → IsEmittedCode T fresh (emitted_stmt (flat_leave name) fresh)
  leave_emitted T fresh name h = one_code S R T fresh fresh (flat_leave name) (extends_refl S.structs fresh) (λ r front names below t. (h names t, refl))

  -- what becomes of an expression, in some names
  code_in : (T : List ℕ → Type 0) (e : Expr) (fresh : Fresh) (x : Valued) → IsGiven S R e fresh x → IsCode S R T fresh x.fresh x.code
  code_in T e fresh x g = code_where S R R Anywhere T fresh x.fresh x.code (λ r. r) (λ names t. tt) g.code

  set_emitted : (T : List ℕ → Type 0) (e : Expr) (variable : ℕ) (fresh : Fresh) (x : Valued) → IsSome (type_of e) → (R → variable_type S.variables variable ≡ Some (type_of e)) → IsGiven S R e fresh x → IsEmittedCode T fresh (set_to variable x)
  set_emitted T e variable fresh x some typed g =
      code_append S R T fresh x.fresh x.fresh x.code (flat_local variable (Some x.value) ∷ []) (code_in T e fresh x g)
      (one_code S R T x.fresh x.fresh (flat_local variable (Some x.value)) (extends_refl S.structs x.fresh) (λ r front names below t.
      ((g.well r front (inl some), subst (λ ty. variable_type S.variables variable ≡ Some ty) (sym g.same) (typed r)), refl)))

  run_emitted : (T : List ℕ → Type 0) (e : Expr) (fresh : Fresh) (x : Valued) → IsGiven S R e fresh x → IsEmittedCode T fresh (run_of (is_call e) x)
  run_emitted T e fresh x g = by_call (is_call e) refl
    where
      by_call : (b : Bool) → is_call e ≡ b → IsEmittedCode T fresh (run_of b x)
      by_call true call = code_in T e fresh x g
      by_call false call =
          code_append S R T fresh x.fresh x.fresh x.code (flat_run x.value ∷ []) (code_in T e fresh x g)
          (one_code S R T x.fresh x.fresh (flat_run x.value) (extends_refl S.structs x.fresh) (λ r front names below t. (g.well r front (inr call), refl)))

  -- a condition
  cond_fits : (e : Expr) (fresh : Fresh) (x : Valued) → type_of e ≡ bool_type → IsGiven S R e fresh x → R → IsFront x.fresh.variables S.variables → IsCondition S x.value
  cond_fits e fresh x is g r front = (g.well r front (inl (ap is_void is)), g.same ∙ is)

  alternative_fits : (names : List ℕ) (code : List FlatStmt) → AreFitting S names code → IsFlatStmtIf S names (as_alternative code) × (inputs_if (as_alternative code) ≡ [])
  alternative_fits names [] h = (tt, refl)
  alternative_fits names (stmt ∷ []) h = one_fits S names (stmt ∷ []) h
  alternative_fits names (stmt ∷ other ∷ code) h = one_fits S names (stmt ∷ other ∷ code) h

  pub choice_emitted : (T : List ℕ → Type 0) (e : Expr) (fresh : Fresh) (x : Valued) (a b : EmittedCode) → type_of e ≡ bool_type → IsGiven S R e fresh x → IsEmittedCode T x.fresh a → IsEmittedCode T a.fresh b →
      IsEmittedCode T fresh (choice_of x a.code b.code b.fresh)
  choice_emitted T e fresh x a b is g f h =
      code_append S R T fresh x.fresh b.fresh x.code (flat_if x.value (as_one a.code) (as_alternative b.code) ∷ []) (code_in T e fresh x g)
      (one_code S R T x.fresh b.fresh (flat_if x.value (as_one a.code) (as_alternative b.code)) (extends_trans S.structs x.fresh a.fresh b.fresh f.extends h.extends) (λ r front names below t.
      let a_front : IsFront a.fresh.variables S.variables = front_trans a.fresh.variables b.fresh.variables S.variables h.extends.grows front in
      let p = one_fits S names a.code (f.fits r a_front names below t) in
      let q = alternative_fits names b.code (h.fits r front names (below_more x.fresh.names a.fresh.names names f.extends.names below) t) in
      ((cond_fits e fresh x is g r (front_trans x.fresh.variables a.fresh.variables S.variables f.extends.grows a_front), p.0, q.0), ap (λ l. l ++ inputs_if (as_alternative b.code)) p.1 ∙ q.1)))

  -- the test of a loop
  pub test_emitted : (T : List ℕ → Type 0) (name : ℕ) (e : Expr) (fresh : Fresh) (x : Valued) → ((names : List ℕ) → T names → IsTrue (is_among names name)) → type_of e ≡ bool_type → IsGiven S R e fresh x →
      IsEmittedCode T fresh (test_of name x)
  test_emitted T name e fresh x h is g =
      code_append S R T fresh x.fresh x.fresh x.code (flat_if x.value (flat_block no_flat_stmts) (some_flat_stmt (flat_leave name)) ∷ []) (code_in T e fresh x g)
      (one_code S R T x.fresh x.fresh (flat_if x.value (flat_block no_flat_stmts) (some_flat_stmt (flat_leave name))) (extends_refl S.structs x.fresh) (λ r front names below t.
      ((cond_fits e fresh x is g r front, tt, h names t), refl)))

  -- what `continue` leaves
  pub body_emitted : (exit : ℕ) (loop fresh : Fresh) (x : EmittedCode) → suc (suc loop.names) ≤ fresh.names → IsEmittedCode (Inside exit true (jumps_of loop)) fresh x → IsEmittedCode (InTurn exit loop.names) fresh (emit_body (suc loop.names) x)
  body_emitted exit loop fresh x low f =
      one_code S R (InTurn exit loop.names) fresh x.fresh (flat_named (suc loop.names) (as_one x.code)) f.extends (λ r front names below t.
      let p = one_fits S (suc loop.names ∷ names) x.code (f.fits r front (suc loop.names ∷ names) (omega (arith, low), below) (body_names exit loop names t)) in
      ((t.2, p.0), p.1))

  -- a loop, which `break` leaves
  pub loop_emitted : (T : List ℕ → Type 0) (exit : ℕ) (fresh : Fresh) (x : EmittedCode) → ((names : List ℕ) → T names → IsTrue (is_among names exit)) → IsEmittedCode (InTurn exit fresh.names) (with_jumps fresh) x →
      IsEmittedCode T fresh (emit_loop fresh.names x)
  loop_emitted T exit fresh x h f =
      one_code S R T fresh x.fresh (flat_named fresh.names (flat_loop (as_one x.code))) (extends_trans S.structs fresh (with_jumps fresh) x.fresh (jumps_extend S fresh) f.extends) (λ r front names below t.
      let p = one_fits S (fresh.names ∷ names) x.code
      (f.fits r front (fresh.names ∷ names) (omega arith, below_more fresh.names (suc (suc fresh.names)) names (omega arith) below) (turn_names exit fresh.names names below (h names t))) in
      ((free_name fresh.names fresh.names names (omega arith) below, p.0), p.1))

  -- loops over what becomes of their parts

  pub for_emitted : (T : List ℕ → Type 0) (exit : ℕ) (fresh : Fresh) (init test body step : EmittedCode) → ((names : List ℕ) → T names → IsTrue (is_among names exit)) → IsEmittedCode T fresh init →
      IsEmittedCode (InTurn exit init.fresh.names) (with_jumps init.fresh) test → IsEmittedCode (Inside exit true (jumps_of init.fresh)) test.fresh body → IsEmittedCode (InTurn exit init.fresh.names) body.fresh step →
      IsEmittedCode T fresh (block_of (emitted_with init.code (emit_loop init.fresh.names (emitted_with test.code (emitted_with (emit_body (suc init.fresh.names) body).code step)))))
  for_emitted T exit fresh init test body step h f g b d = block_emitted T fresh (emitted_with init.code (emit_loop init.fresh.names turn)) (then_emitted T fresh init (emit_loop init.fresh.names turn) f (loop_emitted T exit init.fresh turn h
      (then_emitted (InTurn exit init.fresh.names) (with_jumps init.fresh) test (emitted_with (emit_body (suc init.fresh.names) body).code step) g
      (then_emitted (InTurn exit init.fresh.names) test.fresh (emit_body (suc init.fresh.names) body) step (body_emitted exit init.fresh test.fresh body g.extends.names b) d))))
    where
      turn : EmittedCode
      turn = emitted_with test.code (emitted_with (emit_body (suc init.fresh.names) body).code step)

  pub while_emitted : (T : List ℕ → Type 0) (exit : ℕ) (fresh : Fresh) (test body : EmittedCode) → ((names : List ℕ) → T names → IsTrue (is_among names exit)) → IsEmittedCode (InTurn exit fresh.names) (with_jumps fresh) test →
      IsEmittedCode (Inside exit true (jumps_of fresh)) test.fresh body → IsEmittedCode T fresh (emit_loop fresh.names (emitted_with test.code (emit_body (suc fresh.names) body)))
  while_emitted T exit fresh test body h g b = loop_emitted T exit fresh (emitted_with test.code (emit_body (suc fresh.names) body)) h
      (then_emitted (InTurn exit fresh.names) (with_jumps fresh) test (emit_body (suc fresh.names) body) g (body_emitted exit fresh test.fresh body g.extends.names b))

  pub do_emitted : (T : List ℕ → Type 0) (exit : ℕ) (fresh : Fresh) (body test : EmittedCode) → ((names : List ℕ) → T names → IsTrue (is_among names exit)) → IsEmittedCode (Inside exit true (jumps_of fresh)) (with_jumps fresh) body →
      IsEmittedCode (InTurn exit fresh.names) body.fresh test → IsEmittedCode T fresh (emit_loop fresh.names (emitted_with (emit_body (suc fresh.names) body).code test))
  do_emitted T exit fresh body test h b g = loop_emitted T exit fresh (emitted_with (emit_body (suc fresh.names) body).code test) h
      (then_emitted (InTurn exit fresh.names) (with_jumps fresh) (emit_body (suc fresh.names) body) test (body_emitted exit fresh (with_jumps fresh) body (omega arith) b) g)

has_some : (ty : Ty) → IsTrue (not (is_void ty)) → IsSome ty
has_some ty h = by_test (is_void ty) h
  where
    by_test : (b : Bool) → IsTrue (not b) → b ≡ false
    by_test true h = never h
    by_test false h = refl

-- the statements of a function, where what becomes of its expressions is well formed
module _ (s : Scope) (V : List Variable) (R : Type 0) (k : List Inlined) (i : Instance) (stands : R → StandsFrom s.constants s.variables V i.first)
    (result : R → IsSome s.result → variable_type V i.result ≡ Some s.result) (declared : AreDeclared s.structs s.variables) (emits : (e : Expr) → IsExpr s e → IsEmitted (scope_over s V) R e (emitter k i e)) where
  local_emitted : (T : List ℕ → Type 0) (variable : ℕ) (init : Option Expr) → IsLocal s variable init → (fresh : Fresh) → IsEmittedCode (scope_over s V) R T fresh (emit_local k i variable init fresh)
  local_emitted T variable None h fresh =
      let t = type_at s.variables variable h in
      one_code (scope_over s V) R T fresh fresh (flat_local (i.first + variable) None) (extends_refl s.structs fresh)
      (λ r front names below n. (type_there V (i.first + variable) t.0 ((stands r).own_type variable t.0 t.1), refl))
  local_emitted T variable (Some init) h fresh =
      set_emitted (scope_over s V) R T init (i.first + variable) fresh (emitted k i init fresh) (some_declared s.structs (type_of init) (every_type (IsDeclared s.structs) s.variables declared variable (type_of init) h.1))
      (λ r. (stands r).own_type variable (type_of init) h.1) (emits init h.0 fresh)

  return_emitted : (T : List ℕ → Type 0) (value : Option Expr) → ((names : List ℕ) → T names → IsTrue (is_among names i.exit)) → IsReturn s value → (fresh : Fresh) → IsEmittedCode (scope_over s V) R T fresh (emit_return k i value fresh)
  return_emitted T None inside h fresh = leave_emitted (scope_over s V) R T fresh i.exit inside
  return_emitted T (Some value) inside h fresh =
      then_emitted (scope_over s V) R T fresh (set_to i.result (emitted k i value fresh)) (emitted_stmt (flat_leave i.exit) (emitted k i value fresh).fresh)
      (set_emitted (scope_over s V) R T value i.result fresh (emitted k i value fresh) (ap is_void h.1 ∙ has_some s.result h.2)
      (λ r. subst (λ ty. variable_type V i.result ≡ Some ty) (sym h.1) (result r (has_some s.result h.2))) (emits value h.0 fresh))
      (leave_emitted (scope_over s V) R T (emitted k i value fresh).fresh i.exit inside)

  test_if_emitted : (T : List ℕ → Type 0) (name : ℕ) (cond : Option Expr) → ((names : List ℕ) → T names → IsTrue (is_among names name)) → IsConditionIf s cond → (fresh : Fresh) →
      IsEmittedCode (scope_over s V) R T fresh (emit_test_if k i name cond fresh)
  test_if_emitted T name None inside h fresh = nothing_emitted_fits (scope_over s V) R T fresh
  test_if_emitted T name (Some cond) inside h fresh = test_emitted (scope_over s V) R T name cond fresh (emitted k i cond fresh) inside h.1 (emits cond h.0 fresh)

  run_if_emitted : (T : List ℕ → Type 0) (value : Option Expr) → IsExprIf s value → (fresh : Fresh) → IsEmittedCode (scope_over s V) R T fresh (emit_run_if k i value fresh)
  run_if_emitted T None h fresh = nothing_emitted_fits (scope_over s V) R T fresh
  run_if_emitted T (Some value) h fresh = run_emitted (scope_over s V) R T value fresh (emitted k i value fresh) (emits value h fresh)

  mutual
    pub stmt_emitted : (in_loop : Bool) (j : Jumps) (stmt : Stmt) → IsStmt s in_loop stmt → (fresh : Fresh) → IsEmittedCode (scope_over s V) R (Inside i.exit in_loop j) fresh (emit_stmt k i j stmt fresh)
    stmt_emitted in_loop j (block_stmt body) h fresh = block_emitted (scope_over s V) R (Inside i.exit in_loop j) fresh (emit_stmts k i j body fresh) (stmts_emitted in_loop j body h fresh)
    stmt_emitted in_loop j (local_stmt variable init) h fresh = local_emitted (Inside i.exit in_loop j) variable init h fresh
    stmt_emitted in_loop j (run_stmt value) h fresh = run_emitted (scope_over s V) R (Inside i.exit in_loop j) value fresh (emitted k i value fresh) (emits value h fresh)
    stmt_emitted in_loop j (if_stmt cond consequent alternative) h fresh =
        let x = emitted k i cond fresh in
        let a = emit_stmt k i j consequent x.fresh in
        choice_emitted (scope_over s V) R (Inside i.exit in_loop j) cond fresh x a (emit_stmt_if k i j alternative a.fresh) h.0.1 (emits cond h.0.0 fresh) (stmt_emitted in_loop j consequent h.1 x.fresh) (stmt_if_emitted in_loop j alternative h.2 a.fresh)
    stmt_emitted in_loop j (for_stmt init cond step body) h fresh =
        let a = emit_stmts k i j init fresh in
        let t = emit_test_if k i a.fresh.names cond (with_jumps a.fresh) in
        let b = emit_stmt k i (jumps_of a.fresh) body t.fresh in
        for_emitted (scope_over s V) R (Inside i.exit in_loop j) i.exit fresh a t b (emit_run_if k i step b.fresh) (λ names n. n.0) (stmts_emitted in_loop j init h.0 fresh)
        (test_if_emitted (InTurn i.exit a.fresh.names) a.fresh.names cond (λ names n. n.1) h.1 (with_jumps a.fresh)) (stmt_emitted true (jumps_of a.fresh) body h.3 t.fresh)
        (run_if_emitted (InTurn i.exit a.fresh.names) step h.2 b.fresh)
    stmt_emitted in_loop j (while_stmt cond body) h fresh =
        let t = emit_test k i fresh.names cond (with_jumps fresh) in
        while_emitted (scope_over s V) R (Inside i.exit in_loop j) i.exit fresh t (emit_stmt k i (jumps_of fresh) body t.fresh) (λ names n. n.0)
        (test_if_emitted (InTurn i.exit fresh.names) fresh.names (Some cond) (λ names n. n.1) h.0 (with_jumps fresh)) (stmt_emitted true (jumps_of fresh) body h.1 t.fresh)
    stmt_emitted in_loop j (do_stmt body cond) h fresh =
        let b = emit_stmt k i (jumps_of fresh) body (with_jumps fresh) in
        do_emitted (scope_over s V) R (Inside i.exit in_loop j) i.exit fresh b (emit_test k i fresh.names cond b.fresh) (λ names n. n.0) (stmt_emitted true (jumps_of fresh) body h.0 (with_jumps fresh))
        (test_if_emitted (InTurn i.exit fresh.names) fresh.names (Some cond) (λ names n. n.1) h.1 b.fresh)
    stmt_emitted true j break_stmt h fresh = leave_emitted (scope_over s V) R (Inside i.exit true j) fresh j.break_name (λ names n. n.1.0)
    stmt_emitted false j break_stmt h fresh = never h
    stmt_emitted true j continue_stmt h fresh = leave_emitted (scope_over s V) R (Inside i.exit true j) fresh j.continue_name (λ names n. n.1.1)
    stmt_emitted false j continue_stmt h fresh = never h
    stmt_emitted in_loop j (return_stmt value) h fresh = return_emitted (Inside i.exit in_loop j) value (λ names n. n.0) h fresh

    pub stmts_emitted : (in_loop : Bool) (j : Jumps) (stmts : Stmts) → AreStmts s in_loop stmts → (fresh : Fresh) → IsEmittedCode (scope_over s V) R (Inside i.exit in_loop j) fresh (emit_stmts k i j stmts fresh)
    stmts_emitted in_loop j no_stmts h fresh = nothing_emitted_fits (scope_over s V) R (Inside i.exit in_loop j) fresh
    stmts_emitted in_loop j (more_stmts first rest) h fresh =
        let x = emit_stmt k i j first fresh in
        then_emitted (scope_over s V) R (Inside i.exit in_loop j) fresh x (emit_stmts k i j rest x.fresh) (stmt_emitted in_loop j first h.0 fresh) (stmts_emitted in_loop j rest h.1 x.fresh)

    stmt_if_emitted : (in_loop : Bool) (j : Jumps) (stmt : MaybeStmt) → IsStmtIf s in_loop stmt → (fresh : Fresh) → IsEmittedCode (scope_over s V) R (Inside i.exit in_loop j) fresh (emit_stmt_if k i j stmt fresh)
    stmt_if_emitted in_loop j no_stmt h fresh = nothing_emitted_fits (scope_over s V) R (Inside i.exit in_loop j) fresh
    stmt_if_emitted in_loop j (some_stmt body) h fresh = stmt_emitted in_loop j body h fresh
