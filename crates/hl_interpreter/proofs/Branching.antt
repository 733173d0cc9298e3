-- What branches and turns of loops meet, by what their parts give.
use Rattle.std.proofs.Common.{◌≡◌, ◌≢◌, ◌∙◌, sym, ap, ℕ, Bool, true, false, if◌then◌else◌, Option, None, Result, Err}
use Rattle.hl_meaning.specs.Trees.{Expr, MaybeStmt, Stmt, Stmts, for_stmt, if_stmt}
use Rattle.hl_source.specs.State.{Context, State, after, goes_with}
use Rattle.hl_source.specs.Statements.{Doing, after_body, after_statement, at_end, by_break, by_continue, choice, computes_if, condition, condition_if, do_turn, does, does_all, does_if, for_turn, leaves, turns}
use Rattle.hl_interpreter.specs.declared.statements.Leaving.{Leaving as HeldLeaving}
use Rattle.hl_interpreter.specs.declared.statements.Leaving.TheVariants.{AtEnd, ByContinue}
use Rattle.hl_interpreter.specs.declared.run.Stop.{Stop}
use Rattle.hl_interpreter.specs.Runs.{Meets, plain_leaving, tests}
use Rattle.hl_interpreter.proofs.Doing.{no-step, not-next, not-turn}
use Rattle.hl_interpreter.proofs.Meeting.{goes, same, stops}

-- ---- an `if`

module _ (c : Context) (n : ℕ) (s t : State) (cond : Expr) (consequent : Stmt) (alternative : MaybeStmt) where
  abbrev chosen : Bool → Doing
  chosen is_true = choice is_true (λ s'. does c n consequent s') (λ s'. does_if c n alternative s')

  pub if-stops : (e : Stop) → Meets (λ b. b) (Err e) t (condition c cond s) → Meets plain_leaving (Err e) t (does c n (if_stmt cond consequent alternative) s)
  if-stops e h = stops (λ b. b) plain_leaving e t (condition c cond s) chosen h

  pub if-goes : (b : Bool) (r : Result HeldLeaving Stop) (u : State) → condition c cond s ≡ goes_with b t → Meets plain_leaving r u (choice b (λ s'. does c n consequent s') (λ s'. does_if c n alternative s') t)
      → Meets plain_leaving r u (does c n (if_stmt cond consequent alternative) s)
  if-goes b r u h k = goes plain_leaving b r t u (condition c cond s) chosen h k

-- ---- a `for`

module _ (c : Context) (n : ℕ) (s t : State) (init : Stmts) (cond step : Option Expr) (body : Stmt) where
  abbrev all_turns : Doing
  all_turns = turns n (for_turn c cond (λ s'. does c n body s') step)

  pub for-stops : (e : Stop) → Meets plain_leaving (Err e) t (does_all c n init s) → Meets plain_leaving (Err e) t (does c n (for_stmt init cond step body) s)
  for-stops e h = stops plain_leaving plain_leaving e t (does_all c n init s) (after_statement all_turns) h

  pub for-goes : (leaving : HeldLeaving) (r : Result HeldLeaving Stop) (u : State) → does_all c n init s ≡ goes_with (plain_leaving leaving) t → leaving ≡ AtEnd
      → Meets plain_leaving r u (turns n (for_turn c cond (λ s'. does c n body s') step) t) → Meets plain_leaving r u (does c n (for_stmt init cond step body) s)
  for-goes leaving r u h is k = goes plain_leaving at_end r t u (does_all c n init s) (after_statement all_turns) (h ∙ ap (λ l. goes_with (plain_leaving l) t) is) k

  pub for-left : (leaving : HeldLeaving) → does_all c n init s ≡ goes_with (plain_leaving leaving) t → leaving ≢ AtEnd → does c n (for_stmt init cond step body) s ≡ goes_with (plain_leaving leaving) t
  for-left leaving h apart = ap (λ q. after q (after_statement all_turns)) h ∙ not-next all_turns leaving t apart

-- ---- a turn that begins with its condition

module _ (c : Context) (s t : State) (cond : Option Expr) (body : Doing) (step : Option Expr) where
  abbrev behind_test : Bool → Doing
  behind_test goes_on = choice goes_on (λ s'. after (body s') (after_body (computes_if c step))) (leaves by_break)

  pub test-stops : (e : Stop) → Meets (λ b. b) (Err e) t (condition_if c cond s) → Meets plain_leaving (Err e) t (for_turn c cond body step s)
  test-stops e h = stops (λ b. b) plain_leaving e t (condition_if c cond s) behind_test h

  pub test-breaks : (b : Bool) → condition_if c cond s ≡ goes_with b t → b ≡ false → for_turn c cond body step s ≡ goes_with by_break t
  test-breaks b h is = ap (λ q. after q behind_test) (h ∙ ap (λ x. goes_with x t) is)

  module _ (b : Bool) (h : condition_if c cond s ≡ goes_with b t) (is : b ≡ true) (u : State) where
    holds-here : condition_if c cond s ≡ goes_with true t
    holds-here = h ∙ ap (λ x. goes_with x t) is

    pub body-stops : (e : Stop) → Meets plain_leaving (Err e) u (body t) → Meets plain_leaving (Err e) u (for_turn c cond body step s)
    body-stops e k =
        goes plain_leaving true (Err e) t u (condition_if c cond s) behind_test holds-here (stops plain_leaving plain_leaving e u (body t) (after_body (computes_if c step)) k)

    module _ (leaving : HeldLeaving) (k : body t ≡ goes_with (plain_leaving leaving) u) where
      pub body-ends : (r : Result HeldLeaving Stop) (v : State) → leaving ≡ AtEnd → Meets plain_leaving r v (computes_if c step u) → Meets plain_leaving r v (for_turn c cond body step s)
      body-ends r v at l =
          goes plain_leaving true r t v (condition_if c cond s) behind_test holds-here
          (goes plain_leaving at_end r u v (body t) (after_body (computes_if c step)) (k ∙ ap (λ x. goes_with (plain_leaving x) u) at) l)

      pub body-continues : (r : Result HeldLeaving Stop) (v : State) → leaving ≡ ByContinue → Meets plain_leaving r v (computes_if c step u) → Meets plain_leaving r v (for_turn c cond body step s)
      body-continues r v at l =
          goes plain_leaving true r t v (condition_if c cond s) behind_test holds-here
          (goes plain_leaving by_continue r u v (body t) (after_body (computes_if c step)) (k ∙ ap (λ x. goes_with (plain_leaving x) u) at) l)

      opened : for_turn c cond body step s ≡ after_body (computes_if c step) (plain_leaving leaving) u
      opened = ap (λ q. after q behind_test) holds-here ∙ ap (λ q. after q (after_body (computes_if c step))) k

      pub body-left : leaving ≢ AtEnd → leaving ≢ ByContinue → for_turn c cond body step s ≡ goes_with (plain_leaving leaving) u
      body-left apart also = opened ∙ not-turn (computes_if c step) leaving u apart also

-- without a step
module _ (c : Context) (s t : State) (cond : Option Expr) (body : Doing) (b : Bool) (h : condition_if c cond s ≡ goes_with b t) (is : b ≡ true) (u : State) (leaving : HeldLeaving)
    (k : body t ≡ goes_with (plain_leaving leaving) u) where
  pub lone-continues : leaving ≡ ByContinue → for_turn c cond body None s ≡ goes_with at_end u
  lone-continues at = opened c s t cond body None b h is u leaving k ∙ ap (λ x. after_body (computes_if c None) (plain_leaving x) u) at

  pub lone-left : leaving ≢ ByContinue → for_turn c cond body None s ≡ goes_with (plain_leaving leaving) u
  lone-left apart = opened c s t cond body None b h is u leaving k ∙ no-step c leaving u apart

-- ---- a turn that ends with its condition

module _ (c : Context) (s t : State) (body : Doing) (cond : Expr) where
  pub first-stops : (e : Stop) → Meets plain_leaving (Err e) t (body s) → Meets plain_leaving (Err e) t (do_turn c body cond s)
  first-stops e h = stops plain_leaving plain_leaving e t (body s) (after_body (tests c cond)) h

  module _ (leaving : HeldLeaving) (h : body s ≡ goes_with (plain_leaving leaving) t) where
    first-opened : do_turn c body cond s ≡ after_body (tests c cond) (plain_leaving leaving) t
    first-opened = ap (λ q. after q (after_body (tests c cond))) h

    pub first-ends : (r : Result HeldLeaving Stop) (u : State) → leaving ≡ AtEnd → Meets plain_leaving r u (tests c cond t) → Meets plain_leaving r u (do_turn c body cond s)
    first-ends r u at k = same plain_leaving r u _ _ (sym (first-opened ∙ ap (λ x. after_body (tests c cond) (plain_leaving x) t) at)) k

    pub first-continues : (r : Result HeldLeaving Stop) (u : State) → leaving ≡ ByContinue → Meets plain_leaving r u (tests c cond t) → Meets plain_leaving r u (do_turn c body cond s)
    first-continues r u at k = same plain_leaving r u _ _ (sym (first-opened ∙ ap (λ x. after_body (tests c cond) (plain_leaving x) t) at)) k

    pub first-left : leaving ≢ AtEnd → leaving ≢ ByContinue → do_turn c body cond s ≡ goes_with (plain_leaving leaving) t
    first-left apart also = first-opened ∙ not-turn (tests c cond) leaving t apart also

-- the condition of a `do`
pub tests-stops : (c : Context) (cond : Expr) (s t : State) (e : Stop) → Meets (λ b. b) (Err e) t (condition c cond s) → Meets plain_leaving (Err e) t (tests c cond s)
tests-stops c cond s t e h = stops (λ b. b) plain_leaving e t (condition c cond s) (λ goes_on. leaves (if goes_on then at_end else by_break)) h

pub tests-goes : (c : Context) (cond : Expr) (s t : State) (b d : Bool) → condition c cond s ≡ goes_with b t → b ≡ d → tests c cond s ≡ goes_with (if d then at_end else by_break) t
tests-goes c cond s t b d h is = ap (λ q. after q (λ goes_on. leaves (if goes_on then at_end else by_break))) (h ∙ ap (λ x. goes_with x t) is)
