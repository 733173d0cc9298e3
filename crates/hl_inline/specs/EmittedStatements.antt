-- What becomes of each form of statement (HLSL, "Statements"). The names that `break`, `continue` and `return` leave
-- are this project's own.
use Rattle.std.specs.Prelude.{ℕ, suc, ◌+◌, Bool, true, false, List, [], ◌∷◌, ◌++◌, Option, None, Some}
use Rattle.hl_meaning.specs.Trees.{Expr, MaybeStmt, Stmt, Stmts, an_expr, block_stmt, break_stmt, call_form, continue_stmt, do_stmt, for_stmt, if_stmt, local_stmt, more_stmts, no_stmt, no_stmts, return_stmt, run_stmt, some_stmt, while_stmt}
use Rattle.hl_inline.specs.FlatTrees.{FlatStmt, flat_block, flat_if, flat_leave, flat_local, flat_loop, flat_named, flat_run, no_flat_stmts, some_flat_stmt}
use Rattle.hl_inline.specs.FlatViews.{flat_stmts_of}
use Rattle.hl_inline.specs.Fresh.{Fresh, Instance}
use Rattle.hl_inline.specs.EmittedCode.{EmittedCode, as_alternative, as_one, emitted_stmt, emitted_then, nothing_emitted}
use Rattle.hl_inline.specs.Emitting.{Valued}
use Rattle.hl_inline.specs.InlinedCalls.{Inlined}
use Rattle.hl_inline.specs.EmittedExpressions.{emitted}

-- the names that `break` and `continue` leave in the loop around
pub record Jumps : Type 0 where
  pub break_name : ℕ
  pub continue_name : ℕ

abbrev pub jumps_of : Fresh → Jumps
jumps_of fresh = record { break_name = fresh.names; continue_name = suc fresh.names }

abbrev pub with_jumps : Fresh → Fresh
with_jumps fresh = record fresh { names = suc (suc fresh.names) }

abbrev pub block_of : EmittedCode → EmittedCode
block_of body = emitted_stmt (flat_block (flat_stmts_of body.code)) body.fresh

-- a variable is set to a value
abbrev pub set_to : (variable : ℕ) → Valued → EmittedCode
set_to variable x = record { code = x.code ++ flat_local variable (Some x.value) ∷ []; fresh = x.fresh }

abbrev pub is_call : Expr → Bool
is_call (an_expr ty at (call_form function args)) = true
is_call _ = false

-- A value that isn't used is computed all the same; nothing is left of a call.
abbrev pub run_of : (is_call : Bool) → Valued → EmittedCode
run_of true x = record { code = x.code; fresh = x.fresh }
run_of false x = record { code = x.code ++ flat_run x.value ∷ []; fresh = x.fresh }

abbrev pub emit_run : List Inlined → Instance → Expr → Fresh → EmittedCode
emit_run k i value fresh = run_of (is_call value) (emitted k i value fresh)

abbrev pub emit_run_if : List Inlined → Instance → Option Expr → Fresh → EmittedCode
emit_run_if k i None fresh = nothing_emitted fresh
emit_run_if k i (Some value) fresh = emit_run k i value fresh

abbrev pub emit_local : List Inlined → Instance → (variable : ℕ) → Option Expr → Fresh → EmittedCode
emit_local k i variable None fresh = emitted_stmt (flat_local (i.first + variable) None) fresh
emit_local k i variable (Some init) fresh = set_to (i.first + variable) (emitted k i init fresh)

abbrev pub emit_return : List Inlined → Instance → Option Expr → Fresh → EmittedCode
emit_return k i None fresh = emitted_stmt (flat_leave i.exit) fresh
emit_return k i (Some value) fresh = emitted_then (set_to i.result (emitted k i value fresh)) (emitted_stmt (flat_leave i.exit))

abbrev pub choice_of : Valued → (consequent alternative : List FlatStmt) → Fresh → EmittedCode
choice_of x consequent alternative fresh = record {
  code = x.code ++ flat_if x.value (as_one consequent) (as_alternative alternative) ∷ [];
  fresh = fresh;
}

-- the test of a loop: unless the condition holds, the loop is left
abbrev pub test_of : (name : ℕ) → Valued → EmittedCode
test_of name x = record {
  code = x.code ++ flat_if x.value (flat_block no_flat_stmts) (some_flat_stmt (flat_leave name)) ∷ [];
  fresh = x.fresh;
}

abbrev pub emit_test : List Inlined → Instance → (name : ℕ) → Expr → Fresh → EmittedCode
emit_test k i name cond fresh = test_of name (emitted k i cond fresh)

abbrev pub emit_test_if : List Inlined → Instance → (name : ℕ) → Option Expr → Fresh → EmittedCode
emit_test_if k i name None fresh = nothing_emitted fresh
emit_test_if k i name (Some cond) fresh = emit_test k i name cond fresh

-- what a `continue` leaves
abbrev pub emit_body : (name : ℕ) → EmittedCode → EmittedCode
emit_body name body = emitted_stmt (flat_named name (as_one body.code)) body.fresh

-- a loop of turns, which a `break` leaves
abbrev pub emit_loop : (name : ℕ) → EmittedCode → EmittedCode
emit_loop name turn = emitted_stmt (flat_named name (flat_loop (as_one turn.code))) turn.fresh

abbrev mutual
  -- what becomes of a statement
  pub emit_stmt : List Inlined → Instance → Jumps → Stmt → Fresh → EmittedCode
  emit_stmt k i j (block_stmt body) fresh = block_of (emit_stmts k i j body fresh)
  emit_stmt k i j (local_stmt variable init) fresh = emit_local k i variable init fresh
  emit_stmt k i j (run_stmt value) fresh = emit_run k i value fresh
  emit_stmt k i j (if_stmt cond consequent alternative) fresh =
      let x = emitted k i cond fresh in
      let a = emit_stmt k i j consequent x.fresh in
      let b = emit_stmt_if k i j alternative a.fresh in
      choice_of x a.code b.code b.fresh
  emit_stmt k i j (for_stmt init cond step body) fresh =
      block_of (emitted_then (emit_stmts k i j init fresh) (λ fresh.
      emit_loop fresh.names (emitted_then (emit_test_if k i fresh.names cond (with_jumps fresh)) (λ fresh'.
      emitted_then (emit_body (suc fresh.names) (emit_stmt k i (jumps_of fresh) body fresh')) (λ fresh''. emit_run_if k i step fresh'')))))
  emit_stmt k i j (while_stmt cond body) fresh =
      emit_loop fresh.names (emitted_then (emit_test k i fresh.names cond (with_jumps fresh)) (λ fresh'.
      emit_body (suc fresh.names) (emit_stmt k i (jumps_of fresh) body fresh')))
  emit_stmt k i j (do_stmt body cond) fresh =
      emit_loop fresh.names (emitted_then (emit_body (suc fresh.names) (emit_stmt k i (jumps_of fresh) body (with_jumps fresh))) (λ fresh'.
      emit_test k i fresh.names cond fresh'))
  emit_stmt k i j break_stmt fresh = emitted_stmt (flat_leave j.break_name) fresh
  emit_stmt k i j continue_stmt fresh = emitted_stmt (flat_leave j.continue_name) fresh
  emit_stmt k i j (return_stmt value) fresh = emit_return k i value fresh

  pub emit_stmts : List Inlined → Instance → Jumps → Stmts → Fresh → EmittedCode
  emit_stmts k i j no_stmts fresh = nothing_emitted fresh
  emit_stmts k i j (more_stmts first rest) fresh = emitted_then (emit_stmt k i j first fresh) (λ fresh'. emit_stmts k i j rest fresh')

  pub emit_stmt_if : List Inlined → Instance → Jumps → MaybeStmt → Fresh → EmittedCode
  emit_stmt_if k i j no_stmt fresh = nothing_emitted fresh
  emit_stmt_if k i j (some_stmt body) fresh = emit_stmt k i j body fresh
