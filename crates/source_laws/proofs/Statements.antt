-- Statements, with further replies and no fewer turns, and whatever the words are that the private allocations of the lane
-- start with.
use Rattle.std.proofs.Common.{ℕ, zero, suc, ◌≤◌, Bool, true, false, List, [], map, Option, None, Some, arith}
use Rattle.std.specs.Prelude.{if◌then◌else◌, slice_get, slice_index, slice_set, unwrap_or}
use Rattle.lane_core.specs.declared.event.Reply.{Reply}
use Rattle.lane_core.specs.Words.{holds}
use Rattle.lane_core.proofs.Follows.{prefix_refl}
use Rattle.hl_meaning.specs.Trees.{Expr, MaybeStmt, Stmt, Stmts, block_stmt, break_stmt, continue_stmt, do_stmt, for_stmt, if_stmt, local_stmt, more_stmts, no_stmt, no_stmts, return_stmt, run_stmt, some_stmt, while_stmt}
use Rattle.hl_source.specs.State.{Callee, Context, out_of_turns}
use Rattle.hl_source.specs.Statements.{Doing, Leaving, after_body, after_statement, after_turn, at_end, by_break, by_continue, by_return, choice, computes, computes_if, condition, condition_if, declares, do_turn, does, does_all, does_if, for_turn, returns, turns}
use Rattle.source_laws.proofs.Continuing.{Continuing, Grows, continuing_after, continuing_goes, continuing_out_of_turns, continuing_sets, continuing_then, grows_on}
use Rattle.source_laws.proofs.Forms.{ContinuingCallees, beside}
use Rattle.source_laws.proofs.Expressions.{continuing_evaluates}

module _ (more : List Reply) where
  -- what follows

  continuing_after_statement : (next later : Doing) → Continuing more next later → (leaving : Leaving) → Continuing more (after_statement next leaving) (after_statement later leaving)
  continuing_after_statement next later h at_end = h
  continuing_after_statement next later h leaving = continuing_goes more leaving

  continuing_after_body : (next later : Doing) → Continuing more next later → (leaving : Leaving) → Continuing more (after_body next leaving) (after_body later leaving)
  continuing_after_body next later h at_end = h
  continuing_after_body next later h by_continue = h
  continuing_after_body next later h leaving = continuing_goes more leaving

  continuing_after_turn : (next later : Doing) → Continuing more next later → (leaving : Leaving) → Continuing more (after_turn next leaving) (after_turn later leaving)
  continuing_after_turn next later h at_end = h
  continuing_after_turn next later h by_continue = h
  continuing_after_turn next later h by_break = continuing_goes more at_end
  continuing_after_turn next later h (by_return value) = continuing_goes more (by_return value)

  continuing_choice : (consequent alternative consequent' alternative' : Doing) → Continuing more consequent consequent' → Continuing more alternative alternative' → (b : Bool) →
      Continuing more (choice b consequent alternative) (choice b consequent' alternative')
  continuing_choice consequent alternative consequent' alternative' h k true = h
  continuing_choice consequent alternative consequent' alternative' h k false = k

  -- loops

  turns_grow : (turn : Doing) → Grows turn → (n : ℕ) → Grows (turns n turn)
  turns_grow turn h zero s = prefix_refl s.exchange.asked
  turns_grow turn h (suc n) s =
      grows_on (turn s) (after_turn (turns n turn)) s.exchange.asked (h s)
      (λ leaving. (continuing_after_turn out_of_turns (turns n turn) (continuing_out_of_turns more (turns n turn) (turns_grow turn h n)) leaving).grows)

  continuing_turns : (turn other : Doing) → Continuing more turn other → (n n' : ℕ) → n ≤ n' → Continuing more (turns n turn) (turns n' other)
  continuing_turns turn other h zero n' fewer = continuing_out_of_turns more (turns n' other) (turns_grow other h.grows n')
  continuing_turns turn other h (suc n) zero fewer = absurd (omega arith)
  continuing_turns turn other h (suc n) (suc n') fewer =
      continuing_after more _ _ _ _ h (continuing_after_turn (turns n turn) (turns n' other) (continuing_turns turn other h n n' (omega arith)))

module _ (more : List Reply) (c : Context) (others : List Callee) (start : List ℕ) (callees : ContinuingCallees more c.callees others) where
  continuing_condition : (cond : Expr) → Continuing more (condition c cond) (condition (beside c others start) cond)
  continuing_condition cond = continuing_then more _ _ (λ words. holds (slice_index words 0)) (continuing_evaluates more c others start callees cond)

  continuing_condition_if : (cond : Option Expr) → Continuing more (condition_if c cond) (condition_if (beside c others start) cond)
  continuing_condition_if None = continuing_goes more true
  continuing_condition_if (Some cond) = continuing_condition cond

  continuing_computes : (value : Expr) → Continuing more (computes c value) (computes (beside c others start) value)
  continuing_computes value = continuing_then more _ _ (λ _. at_end) (continuing_evaluates more c others start callees value)

  continuing_computes_if : (value : Option Expr) → Continuing more (computes_if c value) (computes_if (beside c others start) value)
  continuing_computes_if None = continuing_goes more at_end
  continuing_computes_if (Some value) = continuing_computes value

  continuing_declares : (variable : ℕ) (init : Option Expr) → Continuing more (declares c variable init) (declares (beside c others start) variable init)
  continuing_declares variable None = continuing_sets more at_end (λ variables. slice_set variables variable (map (λ _. 0) (unwrap_or (slice_get variables variable) [])))
  continuing_declares variable (Some init) =
      continuing_after more _ _ _ _ (continuing_evaluates more c others start callees init) (λ words. continuing_sets more at_end (λ variables. slice_set variables variable words))

  continuing_returns : (value : Option Expr) → Continuing more (returns c value) (returns (beside c others start) value)
  continuing_returns None = continuing_goes more (by_return [])
  continuing_returns (Some value) = continuing_then more _ _ by_return (continuing_evaluates more c others start callees value)

  continuing_for_turn : (cond : Option Expr) (body other : Doing) → Continuing more body other → (step : Option Expr) →
      Continuing more (for_turn c cond body step) (for_turn (beside c others start) cond other step)
  continuing_for_turn cond body other h step =
      continuing_after more _ _ _ _ (continuing_condition_if cond)
      (continuing_choice more _ _ _ _ (continuing_after more _ _ _ _ h (continuing_after_body more _ _ (continuing_computes_if step))) (continuing_goes more by_break))

  continuing_do_turn : (body other : Doing) → Continuing more body other → (cond : Expr) → Continuing more (do_turn c body cond) (do_turn (beside c others start) other cond)
  continuing_do_turn body other h cond =
      continuing_after more _ _ _ _ h (continuing_after_body more _ _ (continuing_then more _ _ (λ goes_on. if goes_on then at_end else by_break) (continuing_condition cond)))

  module _ (n n' : ℕ) (fewer : n ≤ n') where
    mutual
      continuing_does : (statement : Stmt) → Continuing more (does c n statement) (does (beside c others start) n' statement)
      continuing_does (block_stmt body) = continuing_does_all body
      continuing_does (local_stmt variable init) = continuing_declares variable init
      continuing_does (run_stmt value) = continuing_computes value
      continuing_does (if_stmt cond consequent alternative) =
          continuing_after more _ _ _ _ (continuing_condition cond) (continuing_choice more _ _ _ _ (continuing_does consequent) (continuing_does_if alternative))
      continuing_does (for_stmt init cond step body) =
          continuing_after more _ _ _ _ (continuing_does_all init)
          (continuing_after_statement more _ _ (continuing_turns more _ _ (continuing_for_turn cond _ _ (continuing_does body) step) n n' fewer))
      continuing_does (while_stmt cond body) = continuing_turns more _ _ (continuing_for_turn (Some cond) _ _ (continuing_does body) None) n n' fewer
      continuing_does (do_stmt body cond) = continuing_turns more _ _ (continuing_do_turn _ _ (continuing_does body) cond) n n' fewer
      continuing_does break_stmt = continuing_goes more by_break
      continuing_does continue_stmt = continuing_goes more by_continue
      continuing_does (return_stmt value) = continuing_returns value

      pub continuing_does_all : (statements : Stmts) → Continuing more (does_all c n statements) (does_all (beside c others start) n' statements)
      continuing_does_all no_stmts = continuing_goes more at_end
      continuing_does_all (more_stmts first rest) =
          continuing_after more _ _ _ _ (continuing_does first) (continuing_after_statement more _ _ (continuing_does_all rest))

      continuing_does_if : (statement : MaybeStmt) → Continuing more (does_if c n statement) (does_if (beside c others start) n' statement)
      continuing_does_if no_stmt = continuing_goes more at_end
      continuing_does_if (some_stmt body) = continuing_does body
