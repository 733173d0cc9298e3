-- What a statement does (HLSL, "Statements"; attributes have no effect).
use Rattle.std.specs.Prelude.{ℕ, zero, suc, if◌then◌else◌, Bool, true, false, List, [], map, slice_index, Option, Some, None}
use Rattle.hl_meaning.specs.Trees.{Expr, MaybeStmt, Stmt, Stmts, block_stmt, break_stmt, continue_stmt, do_stmt, for_stmt, if_stmt, local_stmt, more_stmts, no_stmt, no_stmts, return_stmt, run_stmt, some_stmt, while_stmt}
use Rattle.lane_core.specs.Words.{holds}
use Rattle.hl_source.specs.State.{Context, Progress, State, after, goes_with, out_of_turns, variable_words, with_variable}
use Rattle.hl_source.specs.Expressions.{evaluates}

-- how control leaves a statement: at its end, by `break`, by `continue`, or by `return` with a value, which has no words
-- where there is none
pub data Leaving : Type 0 where
  at_end : Leaving
  by_break : Leaving
  by_continue : Leaving
  by_return : (value : List ℕ) → Leaving

-- what a statement does to a state: it goes on with how it is left, or the run ends in it
abbrev pub Doing : Type 0
Doing = State → Progress Leaving

-- a statement is left in this way, and nothing else happens
abbrev pub leaves : Leaving → Doing
leaves leaving s = goes_with leaving s

-- what follows a statement: it runs where the statement comes to its end
abbrev pub after_statement : Doing → Leaving → Doing
after_statement next at_end s = next s
after_statement next leaving s = goes_with leaving s

-- what follows the body of a loop: it runs where the body comes to its end or continues
abbrev pub after_body : Doing → Leaving → Doing
after_body next at_end s = next s
after_body next by_continue s = next s
after_body next leaving s = goes_with leaving s

-- what follows a turn of a loop: another turn; a `break` is the end of the loop
abbrev pub after_turn : Doing → Leaving → Doing
after_turn next at_end s = next s
after_turn next by_continue s = next s
after_turn next by_break s = goes_with at_end s
after_turn next (by_return value) s = goes_with (by_return value) s

-- one of two, by a truth value
abbrev pub choice : Bool → Doing → Doing → Doing
choice true consequent alternative = consequent
choice false consequent alternative = alternative

-- the truth value of a condition: whether its word differs from 0 (`holds`)
abbrev pub condition : Context → Expr → State → Progress Bool
condition c cond s = after (evaluates c cond s) (λ words s'. goes_with (holds (slice_index words 0)) s')

-- the same where there is a condition; a `for` without one goes on
abbrev pub condition_if : Context → Option Expr → State → Progress Bool
condition_if c None s = goes_with true s
condition_if c (Some cond) s = condition c cond s

-- A value that isn't used is computed all the same, with its events.
abbrev pub computes : Context → Expr → Doing
computes c value s = after (evaluates c value s) (λ _ s'. goes_with at_end s')

-- the same where there is a value; a `for` may have no step
abbrev pub computes_if : Context → Option Expr → Doing
computes_if c None s = goes_with at_end s
computes_if c (Some value) s = computes c value s

-- A local without an initialiser is set to zeros each time its declaration is reached. The zeros are this project's own.
abbrev pub declares : Context → (variable : ℕ) → Option Expr → Doing
declares c variable None s = goes_with at_end (with_variable variable (map (λ _. 0) (variable_words s variable)) s)
declares c variable (Some init) s =
    after (evaluates c init s) (λ words s'. goes_with at_end (with_variable variable words s'))

-- a `return`, with a value or without one
abbrev pub returns : Context → Option Expr → Doing
returns c None s = goes_with (by_return []) s
returns c (Some value) s = after (evaluates c value s) (λ words s'. goes_with (by_return words) s')

-- A loop of at most so many turns. With no turns left the run goes on past its bound, before a turn begins.
abbrev pub turns : ℕ → (turn : Doing) → Doing
turns zero turn s = out_of_turns s
turns (suc n) turn s = after (turn s) (after_turn (turns n turn))

-- a turn of a `for` or a `while`: the condition, the body, and the step, also where the body continues
abbrev pub for_turn : Context → (cond : Option Expr) → (body : Doing) → (step : Option Expr) → Doing
for_turn c cond body step s =
    after (condition_if c cond s) (λ goes_on. choice goes_on (λ s'. after (body s') (after_body (computes_if c step))) (leaves by_break))

-- a turn of a `do`: the body, and then the condition, also where the body continues
abbrev pub do_turn : Context → (body : Doing) → (cond : Expr) → Doing
do_turn c body cond s =
    after (body s) (after_body (λ s'. after (condition c cond s') (λ goes_on. leaves (if goes_on then at_end else by_break))))

abbrev mutual
  -- what a statement does, where each loop takes at most n turns
  pub does : Context → (n : ℕ) → Stmt → Doing
  does c n (block_stmt body) s = does_all c n body s
  does c n (local_stmt variable init) s = declares c variable init s
  does c n (run_stmt value) s = computes c value s
  does c n (if_stmt cond consequent alternative) s =
      after (condition c cond s) (λ is_true. choice is_true (λ s'. does c n consequent s') (λ s'. does_if c n alternative s'))
  does c n (for_stmt init cond step body) s =
      after (does_all c n init s) (after_statement (turns n (for_turn c cond (λ s'. does c n body s') step)))
  does c n (while_stmt cond body) s = turns n (for_turn c (Some cond) (λ s'. does c n body s') None) s
  does c n (do_stmt body cond) s = turns n (do_turn c (λ s'. does c n body s') cond) s
  does c n break_stmt s = goes_with by_break s
  does c n continue_stmt s = goes_with by_continue s
  does c n (return_stmt value) s = returns c value s

  -- statements one after another
  pub does_all : Context → ℕ → Stmts → Doing
  does_all c n no_stmts s = goes_with at_end s
  does_all c n (more_stmts first rest) s = after (does c n first s) (after_statement (λ s'. does_all c n rest s'))

  -- what the statement behind `else` does, where there is one
  pub does_if : Context → ℕ → MaybeStmt → Doing
  does_if c n no_stmt s = goes_with at_end s
  does_if c n (some_stmt body) s = does c n body s
