-- Well-formed statements keep to words.
use Rattle.std.proofs.Common.{ℕ, zero, suc, Bool, true, false, [], map, Option, None, Some}
use Rattle.std.specs.Prelude.{if◌then◌else◌, slice_get, slice_index, slice_index_or, slice_set, unwrap_or}
use Rattle.lane_core.specs.declared.event.Event.{Event}
use Rattle.lane_core.specs.Words.{holds}
use Rattle.hl_meaning.specs.Trees.{Expr, MaybeStmt, Stmt, Stmts, block_stmt, break_stmt, continue_stmt, do_stmt, for_stmt, if_stmt, local_stmt, more_stmts, no_stmt, no_stmts, return_stmt, run_stmt, some_stmt, while_stmt}
use Rattle.hl_meaning.specs.WellFormed.{AreStmts, IsCondition, IsConditionIf, IsExpr, IsExprIf, IsLocal, IsReturn, IsStmt, IsStmtIf}
use Rattle.hl_source.specs.State.{Context}
use Rattle.hl_source.specs.Expressions.{no_callee}
use Rattle.hl_source.specs.Statements.{Doing, Leaving, after_body, after_statement, after_turn, at_end, by_break, by_continue, by_return, choice, computes, computes_if, condition, condition_if, declares, do_turn, does, does_all, does_if, for_turn, returns, turns}
use Rattle.event_laws.proofs.Lists.{AreWords, every_made, every_set, zero_is}
use Rattle.event_laws.specs.Laws.{Is32Bits}
use Rattle.event_laws.proofs.Keeping.{Any, Keeping, keeping_after, keeping_goes, keeping_out_of_turns, keeping_sets, keeping_then}
use Rattle.event_laws.proofs.Places.{HasConstants, HasSlots, Proper}
use Rattle.event_laws.proofs.Forms.{KeepsCallee}
use Rattle.event_laws.proofs.Expressions.{IsTyped, keeping_evaluates}

-- a value that is returned has words
abbrev pub LeavesWords : Leaving → Type 0
LeavesWords (by_return value) = AreWords value
LeavesWords _ = Unit {0}

-- what follows

keeping_after_statement : {E : Event → Type 0} (next : Doing) → Keeping E LeavesWords next → (leaving : Leaving) → LeavesWords leaving → Keeping E LeavesWords (after_statement next leaving)
keeping_after_statement next h at_end k = h
keeping_after_statement next h by_break k = keeping_goes LeavesWords by_break k
keeping_after_statement next h by_continue k = keeping_goes LeavesWords by_continue k
keeping_after_statement next h (by_return value) k = keeping_goes LeavesWords (by_return value) k

keeping_after_body : {E : Event → Type 0} (next : Doing) → Keeping E LeavesWords next → (leaving : Leaving) → LeavesWords leaving → Keeping E LeavesWords (after_body next leaving)
keeping_after_body next h at_end k = h
keeping_after_body next h by_continue k = h
keeping_after_body next h by_break k = keeping_goes LeavesWords by_break k
keeping_after_body next h (by_return value) k = keeping_goes LeavesWords (by_return value) k

keeping_after_turn : {E : Event → Type 0} (next : Doing) → Keeping E LeavesWords next → (leaving : Leaving) → LeavesWords leaving → Keeping E LeavesWords (after_turn next leaving)
keeping_after_turn next h at_end k = h
keeping_after_turn next h by_continue k = h
keeping_after_turn next h by_break k = keeping_goes LeavesWords at_end tt
keeping_after_turn next h (by_return value) k = keeping_goes LeavesWords (by_return value) k

keeping_choice : {E : Event → Type 0} (consequent alternative : Doing) → Keeping E LeavesWords consequent → Keeping E LeavesWords alternative → (b : Bool) → Keeping E LeavesWords (choice b consequent alternative)
keeping_choice consequent alternative h k true = h
keeping_choice consequent alternative h k false = k

keeping_turns : {E : Event → Type 0} (turn : Doing) → Keeping E LeavesWords turn → (n : ℕ) → Keeping E LeavesWords (turns n turn)
keeping_turns turn h zero = keeping_out_of_turns LeavesWords
keeping_turns turn h (suc n) = keeping_after LeavesWords LeavesWords turn (after_turn (turns n turn)) h (keeping_after_turn (turns n turn) (keeping_turns turn h n))

module _ (c : Context) (constants : HasConstants c) (slots : HasSlots c) (callees : (number : ℕ) → KeepsCallee (Proper c) (slice_index_or c.callees number no_callee)) (typed : IsTyped c) where
  keeping_condition : (cond : Expr) → IsCondition c.scope cond → Keeping (Proper c) Any (condition c cond)
  keeping_condition cond h = keeping_then AreWords Any _ (λ words. holds (slice_index words 0)) (keeping_evaluates c constants slots callees typed cond h.0) (λ words k. tt)

  keeping_condition_if : (cond : Option Expr) → IsConditionIf c.scope cond → Keeping (Proper c) Any (condition_if c cond)
  keeping_condition_if None h = keeping_goes Any true tt
  keeping_condition_if (Some cond) h = keeping_condition cond h

  keeping_computes : (value : Expr) → IsExpr c.scope value → Keeping (Proper c) LeavesWords (computes c value)
  keeping_computes value h = keeping_then AreWords LeavesWords _ (λ _. at_end) (keeping_evaluates c constants slots callees typed value h) (λ words k. tt)

  keeping_computes_if : (value : Option Expr) → IsExprIf c.scope value → Keeping (Proper c) LeavesWords (computes_if c value)
  keeping_computes_if None h = keeping_goes LeavesWords at_end tt
  keeping_computes_if (Some value) h = keeping_computes value h

  keeping_declares : (variable : ℕ) (init : Option Expr) → IsLocal c.scope variable init → Keeping (Proper c) LeavesWords (declares c variable init)
  keeping_declares variable None h =
      keeping_sets LeavesWords at_end tt (λ variables. slice_set variables variable (map (λ _. 0) (unwrap_or (slice_get variables variable) [])))
      (λ variables all. every_set AreWords variables variable (map (λ _. 0) (unwrap_or (slice_get variables variable) [])) all (every_made Is32Bits (λ _. 0) (λ _. zero_is) (unwrap_or (slice_get variables variable) [])))
  keeping_declares variable (Some init) h =
      keeping_after AreWords LeavesWords _ _ (keeping_evaluates c constants slots callees typed init h.0) (λ words k. keeping_sets LeavesWords at_end tt (λ variables. slice_set variables variable words)
      (λ variables all. every_set AreWords variables variable words all k))

  keeping_returns : (value : Option Expr) → IsReturn c.scope value → Keeping (Proper c) LeavesWords (returns c value)
  keeping_returns None h = keeping_goes LeavesWords (by_return []) tt
  keeping_returns (Some value) h = keeping_then AreWords LeavesWords _ by_return (keeping_evaluates c constants slots callees typed value h.0) (λ words k. k)

  keeping_for_turn : (cond : Option Expr) → IsConditionIf c.scope cond → (body : Doing) → Keeping (Proper c) LeavesWords body → (step : Option Expr) → IsExprIf c.scope step → Keeping (Proper c) LeavesWords (for_turn c cond body step)
  keeping_for_turn cond h body k step l =
      keeping_after Any LeavesWords _ _ (keeping_condition_if cond h) (λ goes_on _.
      keeping_choice _ _ (keeping_after LeavesWords LeavesWords _ _ k (keeping_after_body _ (keeping_computes_if step l))) (keeping_goes LeavesWords by_break tt) goes_on)

  keeping_do_turn : (body : Doing) → Keeping (Proper c) LeavesWords body → (cond : Expr) → IsCondition c.scope cond → Keeping (Proper c) LeavesWords (do_turn c body cond)
  keeping_do_turn body h cond k =
      keeping_after LeavesWords LeavesWords _ _ h (keeping_after_body _ (keeping_then Any LeavesWords _ (λ goes_on. if goes_on then at_end else by_break) (keeping_condition cond k) (λ goes_on _. by_test goes_on)))
    where
      by_test : (goes_on : Bool) → LeavesWords (if goes_on then at_end else by_break)
      by_test true = tt
      by_test false = tt

  module _ (n : ℕ) where
    mutual
      keeping_does : (in_loop : Bool) (statement : Stmt) → IsStmt c.scope in_loop statement → Keeping (Proper c) LeavesWords (does c n statement)
      keeping_does in_loop (block_stmt body) h = keeping_does_all in_loop body h
      keeping_does in_loop (local_stmt variable init) h = keeping_declares variable init h
      keeping_does in_loop (run_stmt value) h = keeping_computes value h
      keeping_does in_loop (if_stmt cond consequent alternative) h =
          keeping_after Any LeavesWords _ _ (keeping_condition cond h.0) (λ is_true _. keeping_choice _ _ (keeping_does in_loop consequent h.1) (keeping_does_if in_loop alternative h.2) is_true)
      keeping_does in_loop (for_stmt init cond step body) h =
          keeping_after LeavesWords LeavesWords _ _ (keeping_does_all in_loop init h.0)
          (keeping_after_statement _ (keeping_turns _ (keeping_for_turn cond h.1 _ (keeping_does true body h.3) step h.2) n))
      keeping_does in_loop (while_stmt cond body) h = keeping_turns _ (keeping_for_turn (Some cond) h.0 _ (keeping_does true body h.1) None tt) n
      keeping_does in_loop (do_stmt body cond) h = keeping_turns _ (keeping_do_turn _ (keeping_does true body h.0) cond h.1) n
      keeping_does in_loop break_stmt h = keeping_goes LeavesWords by_break tt
      keeping_does in_loop continue_stmt h = keeping_goes LeavesWords by_continue tt
      keeping_does in_loop (return_stmt value) h = keeping_returns value h

      pub keeping_does_all : (in_loop : Bool) (statements : Stmts) → AreStmts c.scope in_loop statements → Keeping (Proper c) LeavesWords (does_all c n statements)
      keeping_does_all in_loop no_stmts h = keeping_goes LeavesWords at_end tt
      keeping_does_all in_loop (more_stmts first rest) h =
          keeping_after LeavesWords LeavesWords _ _ (keeping_does in_loop first h.0) (keeping_after_statement _ (keeping_does_all in_loop rest h.1))

      keeping_does_if : (in_loop : Bool) (statement : MaybeStmt) → IsStmtIf c.scope in_loop statement → Keeping (Proper c) LeavesWords (does_if c n statement)
      keeping_does_if in_loop no_stmt h = keeping_goes LeavesWords at_end tt
      keeping_does_if in_loop (some_stmt body) h = keeping_does in_loop body h
