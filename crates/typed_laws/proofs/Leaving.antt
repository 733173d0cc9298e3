-- How control leaves the statements of a function: with a value of its result, and never at the end where it has one.
use Rattle.std.proofs.Common.{◌≡◌, ◌∙◌, refl, sym, ap, subst, ℕ, zero, suc, Bool, true, false, [], Option, None, Some}
use Rattle.std.specs.Prelude.{◌&&◌, ◌||◌, if◌then◌else◌}
use Rattle.hl_meaning.specs.Trees.{Expr, MaybeStmt, Stmt, Stmts, block_stmt, break_stmt, continue_stmt, do_stmt, for_stmt, if_stmt, local_stmt, more_stmts, no_stmt, no_stmts, return_stmt, run_stmt, some_stmt, type_of, while_stmt}
use Rattle.hl_meaning.specs.WellFormed.{AreStmts, IsExpr, IsStmt, IsStmtIf, always_returns, one_returns, returns_if}
use Rattle.hl_source.specs.State.{Context, Progress, State, after, goes_with, ends_at, with_variable}
use Rattle.hl_source.specs.Statements.{Doing, Leaving, after_body, after_statement, after_turn, at_end, by_break, by_continue, by_return, choice, computes, computes_if, condition, condition_if, declares, do_turn, does, does_all, does_if, for_turn, leaves, returns, turns}
use Rattle.hl_source.specs.Expressions.{evaluates}
use Rattle.typed_laws.specs.Fitting.{Fits, Yields}
use Rattle.typed_laws.proofs.Sound.{HasValue}
use Rattle.typed_laws.proofs.ValueFits.{yields_after, yields_any, yields_giving, yields_map}
use Rattle.typed_laws.proofs.IntrinsicFits.{nothing_fits}
use Rattle.typed_laws.specs.Laws.{LeavesAs}

module _ (c : Context) (n : ℕ) (sound : (e : Expr) → IsExpr c.scope e → HasValue c e) where
  abbrev pub LeavesHere : (in_loop returns : Bool) → Leaving → Type 0
  LeavesHere in_loop returns leaving = LeavesAs c.scope.structs c.scope.result in_loop returns leaving

  -- the end of a part that gives something
  ends_after : {A : Type 0} (in_loop : Bool) (p : Progress A) (g : A → State → State) → Yields (LeavesHere in_loop false) (after p (λ a s. goes_with at_end (g a s)))
  ends_after in_loop (goes_with a s) g = refl
  ends_after in_loop (ends_at run) g = tt

  declares_leaves : (in_loop : Bool) (variable : ℕ) (init : Option Expr) (s : State) → Yields (LeavesHere in_loop false) (declares c variable init s)
  declares_leaves in_loop variable None s = refl
  declares_leaves in_loop variable (Some init) s = ends_after in_loop (evaluates c init s) (λ words s1. with_variable variable words s1)

  computes_leaves : (in_loop : Bool) (value : Expr) (s : State) → Yields (LeavesHere in_loop false) (computes c value s)
  computes_leaves in_loop value s = ends_after in_loop (evaluates c value s) (λ _ s1. s1)

  computes_if_leaves : (in_loop : Bool) (value : Option Expr) (s : State) → Yields (LeavesHere in_loop false) (computes_if c value s)
  computes_if_leaves in_loop None s = refl
  computes_if_leaves in_loop (Some value) s = computes_leaves in_loop value s

  returns_leaves : (in_loop : Bool) (value : Option Expr) (s : State) → IsStmt c.scope in_loop (return_stmt value) → Yields (LeavesHere in_loop true) (returns c value s)
  returns_leaves in_loop None s h = subst (λ t. Fits c.scope.structs t []) (sym h) (nothing_fits c.scope.structs)
  returns_leaves in_loop (Some value) s h =
      yields_giving (Fits c.scope.structs (type_of value)) (LeavesHere in_loop true) by_return (λ words fits. subst (λ t. Fits c.scope.structs t words) h.1 fits) (evaluates c value s) ((sound value h.0).fits s)

  -- one after another: the second runs where the first comes to its end
  next_leaves : (in_loop first second : Bool) (p : Progress Leaving) (next : Doing) → Yields (LeavesHere in_loop first) p → ((s : State) → Yields (LeavesHere in_loop second) (next s)) →
      Yields (LeavesHere in_loop (first || second)) (after p (after_statement next))
  next_leaves in_loop first second (ends_at run) next h h' = tt
  next_leaves in_loop first second (goes_with at_end s) next h h' =
      yields_map (LeavesHere in_loop second) (LeavesHere in_loop (first || second)) (λ leaving l. by_leaving leaving l) (next s) (h' s)
    where
      by_leaving : (leaving : Leaving) → LeavesHere in_loop second leaving → LeavesHere in_loop (first || second) leaving
      by_leaving at_end l = ap (λ b. b || second) h ∙ l
      by_leaving by_break l = l
      by_leaving by_continue l = l
      by_leaving (by_return value) l = l
  next_leaves in_loop first second (goes_with by_break s) next h h' = h
  next_leaves in_loop first second (goes_with by_continue s) next h h' = h
  next_leaves in_loop first second (goes_with (by_return value) s) next h h' = h

  choice_leaves : (in_loop first second : Bool) (b : Bool) (a d : Doing) → ((s : State) → Yields (LeavesHere in_loop first) (a s)) → ((s : State) → Yields (LeavesHere in_loop second) (d s)) → (s : State) →
      Yields (LeavesHere in_loop (first && second)) (choice b a d s)
  choice_leaves in_loop first second true a d h h' s = yields_map (LeavesHere in_loop first) (LeavesHere in_loop (first && second)) (λ leaving l. by_leaving leaving l) (a s) (h s)
    where
      by_leaving : (leaving : Leaving) → LeavesHere in_loop first leaving → LeavesHere in_loop (first && second) leaving
      by_leaving at_end l = ap (λ b. b && second) l
      by_leaving by_break l = l
      by_leaving by_continue l = l
      by_leaving (by_return value) l = l
  choice_leaves in_loop first second false a d h h' s = yields_map (LeavesHere in_loop second) (LeavesHere in_loop (first && second)) (λ leaving l. by_leaving leaving l) (d s) (h' s)
    where
      and_false : (a : Bool) → (a && false) ≡ false
      and_false true = refl
      and_false false = refl

      by_leaving : (leaving : Leaving) → LeavesHere in_loop second leaving → LeavesHere in_loop (first && second) leaving
      by_leaving at_end l = ap (λ b. first && b) l ∙ and_false first
      by_leaving by_break l = l
      by_leaving by_continue l = l
      by_leaving (by_return value) l = l

  -- a loop doesn't always return, and its jumps are its own
  turns_leaves : (in_loop : Bool) (k : ℕ) (turn : Doing) → ((s : State) → Yields (LeavesHere true false) (turn s)) → (s : State) → Yields (LeavesHere in_loop false) (turns k turn s)
  turns_leaves in_loop zero turn h s = tt
  turns_leaves in_loop (suc k) turn h s = by_turn (λ s1. turns_leaves in_loop k turn h s1) (turn s) (h s)
    where
      by_turn : ((s1 : State) → Yields (LeavesHere in_loop false) (turns k turn s1)) → (p : Progress Leaving) → Yields (LeavesHere true false) p → Yields (LeavesHere in_loop false) (after p (after_turn (turns k turn)))
      by_turn next (ends_at run) l = tt
      by_turn next (goes_with at_end s1) l = next s1
      by_turn next (goes_with by_break s1) l = refl
      by_turn next (goes_with by_continue s1) l = next s1
      by_turn next (goes_with (by_return value) s1) l = l

  turn_leaves : (r : Bool) (p : Progress Leaving) (next : Doing) → Yields (LeavesHere true r) p → ((s : State) → Yields (LeavesHere true false) (next s)) → Yields (LeavesHere true false) (after p (after_body next))
  turn_leaves r (ends_at run) next h h' = tt
  turn_leaves r (goes_with at_end s) next h h' = h' s
  turn_leaves r (goes_with by_break s) next h h' = h
  turn_leaves r (goes_with by_continue s) next h h' = h' s
  turn_leaves r (goes_with (by_return value) s) next h h' = h

  tested_leaves : (r : Bool) (cond : Option Expr) (body : Doing) (step : Option Expr) → ((s : State) → Yields (LeavesHere true r) (body s)) → (s : State) → Yields (LeavesHere true false) (for_turn c cond body step s)
  tested_leaves r cond body step h s =
      yields_after (λ b. Unit {0}) (LeavesHere true false) (condition_if c cond s) _ (yields_any (λ b. Unit {0}) (λ b. tt) (condition_if c cond s)) (λ b s1 x. by_choice b s1)
    where
      by_choice : (b : Bool) (s1 : State) → Yields (LeavesHere true false) (choice b (λ s'. after (body s') (after_body (computes_if c step))) (leaves by_break) s1)
      by_choice true s1 = turn_leaves r (body s1) (computes_if c step) (h s1) (computes_if_leaves true step)
      by_choice false s1 = refl

  testing_leaves : (r : Bool) (body : Doing) (cond : Expr) → ((s : State) → Yields (LeavesHere true r) (body s)) → (s : State) → Yields (LeavesHere true false) (do_turn c body cond s)
  testing_leaves r body cond h s =
      turn_leaves r (body s) _ (h s) (λ s1. yields_after (λ b. Unit {0}) (LeavesHere true false) (condition c cond s1) _ (yields_any (λ b. Unit {0}) (λ b. tt) (condition c cond s1)) (λ b s2 x. by_choice b s2))
    where
      by_choice : (b : Bool) (s2 : State) → Yields (LeavesHere true false) (leaves (if b then at_end else by_break) s2)
      by_choice true s2 = refl
      by_choice false s2 = refl

  -- a loop behind other statements
  loop_behind : (in_loop first : Bool) (p : Progress Leaving) (next : Doing) → Yields (LeavesHere in_loop first) p → ((s : State) → Yields (LeavesHere in_loop false) (next s)) → Yields (LeavesHere in_loop false) (after p (after_statement next))
  loop_behind in_loop first (ends_at run) next h h' = tt
  loop_behind in_loop first (goes_with at_end s) next h h' = h' s
  loop_behind in_loop first (goes_with by_break s) next h h' = h
  loop_behind in_loop first (goes_with by_continue s) next h h' = h
  loop_behind in_loop first (goes_with (by_return value) s) next h h' = h

  mutual
    pub does_leaves : (stmt : Stmt) (in_loop : Bool) → IsStmt c.scope in_loop stmt → (s : State) → Yields (LeavesHere in_loop (always_returns stmt)) (does c n stmt s)
    does_leaves (block_stmt body) in_loop h s = all_leaves body in_loop h s
    does_leaves (local_stmt variable init) in_loop h s = declares_leaves in_loop variable init s
    does_leaves (run_stmt value) in_loop h s = computes_leaves in_loop value s
    does_leaves (if_stmt cond consequent alternative) in_loop h s =
        yields_after (λ b. Unit {0}) (LeavesHere in_loop (always_returns consequent && returns_if alternative)) (condition c cond s) _ (yields_any (λ b. Unit {0}) (λ b. tt) (condition c cond s)) (λ b s1 x.
        choice_leaves in_loop (always_returns consequent) (returns_if alternative) b (λ s'. does c n consequent s') (λ s'. does_if c n alternative s')
        (λ s'. does_leaves consequent in_loop h.1 s') (λ s'. if_leaves alternative in_loop h.2 s') s1)
    does_leaves (for_stmt init cond step body) in_loop h s =
        loop_behind in_loop (one_returns init) (does_all c n init s) _ (all_leaves init in_loop h.0 s)
        (turns_leaves in_loop n (for_turn c cond (λ s'. does c n body s') step) (tested_leaves (always_returns body) cond (λ s'. does c n body s') step (λ s'. does_leaves body true h.3 s')))
    does_leaves (while_stmt cond body) in_loop h s =
        turns_leaves in_loop n (for_turn c (Some cond) (λ s'. does c n body s') None) (tested_leaves (always_returns body) (Some cond) (λ s'. does c n body s') None (λ s'. does_leaves body true h.1 s')) s
    does_leaves (do_stmt body cond) in_loop h s =
        turns_leaves in_loop n (do_turn c (λ s'. does c n body s') cond) (testing_leaves (always_returns body) (λ s'. does c n body s') cond (λ s'. does_leaves body true h.0 s')) s
    does_leaves break_stmt in_loop h s = h
    does_leaves continue_stmt in_loop h s = h
    does_leaves (return_stmt value) in_loop h s = returns_leaves in_loop value s h

    pub all_leaves : (stmts : Stmts) (in_loop : Bool) → AreStmts c.scope in_loop stmts → (s : State) → Yields (LeavesHere in_loop (one_returns stmts)) (does_all c n stmts s)
    all_leaves no_stmts in_loop h s = refl
    all_leaves (more_stmts first rest) in_loop h s =
        next_leaves in_loop (always_returns first) (one_returns rest) (does c n first s) (λ s'. does_all c n rest s') (does_leaves first in_loop h.0 s) (λ s'. all_leaves rest in_loop h.1 s')

    pub if_leaves : (stmt : MaybeStmt) (in_loop : Bool) → IsStmtIf c.scope in_loop stmt → (s : State) → Yields (LeavesHere in_loop (returns_if stmt)) (does_if c n stmt s)
    if_leaves no_stmt in_loop h s = refl
    if_leaves (some_stmt body) in_loop h s = does_leaves body in_loop h s
