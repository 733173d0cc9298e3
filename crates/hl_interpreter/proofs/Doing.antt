-- What statements meet, by what their parts give.
use Rattle.std.proofs.Common.{◌≡◌, ◌≢◌, ◌∙◌, refl, sym, ap, ℕ, suc, ◌+◌, ◌-◌, ◌<◌, ◌≤◌, List, ◌∷◌, drop, Option, None, Err, arith}
use Rattle.lane_core.specs.declared.event.Asked.TheVariants.{Goes}
use Rattle.lane_core.specs.Lane.{standing}
use Rattle.hl_meaning.specs.declared.statement.Stmt.{Stmt as HeldStmt}
use Rattle.hl_meaning.specs.Views.{plain_stmt, plain_stmts}
use Rattle.hl_source.specs.State.{Context, Progress, State, after, ends_at, goes_with}
use Rattle.hl_source.specs.Statements.{Doing, Leaving, after_body, after_statement, after_turn, at_end, computes_if, does, does_all, turns}
use Rattle.hl_interpreter.specs.declared.statements.Leaving.{Leaving as HeldLeaving}
use Rattle.hl_interpreter.specs.declared.statements.Leaving.TheVariants.{AtEnd, ByBreak, ByContinue, ByReturn}
use Rattle.hl_interpreter.specs.declared.run.Stop.{Stop}
use Rattle.hl_interpreter.specs.Runs.{Meets, loop_left, plain_leaving}
use Rattle.hl_interpreter.proofs.Meeting.{same, stops}

-- ---- turns of a loop

turns-next : (n i : ℕ) (turn : Doing) (s : State) → i < n → turns (n - i) turn s ≡ after (turn s) (after_turn (turns (n - (i + 1)) turn))
turns-next n i turn s within =
    let next : n - i ≡ suc (n - (i + 1)) = omega arith in
    ap (λ k. turns k turn s) next

module _ (n i : ℕ) (turn : Doing) (s t : State) (whole : Progress Leaving) where
  -- a turn that stops
  pub turn-stops : {A B : Type 0} (view : A → Leaving) (other : B → Leaving) (e : Stop) → i < n → whole ≡ turns (n - i) turn s → Meets view (Err e) t (turn s) → Meets other (Err e) t whole
  turn-stops view other e within is h =
      same other (Err e) t _ _ (sym (is ∙ turns-next n i turn s within)) (stops view other e t (turn s) (after_turn (turns (n - (i + 1)) turn)) h)

  -- a turn that is done, and how the loop goes on
  pub turn-done : (leaving : HeldLeaving) (left : Option HeldLeaving) → i < n → whole ≡ turns (n - i) turn s → turn s ≡ goes_with (plain_leaving leaving) t
      → ((next : Doing) (u : State) → after_turn next (plain_leaving leaving) u ≡ loop_left next left u) → whole ≡ loop_left (turns (n - (i + 1)) turn) left t
  turn-done leaving left within is h k =
      is ∙ (turns-next n i turn s within ∙ (ap (λ q. after q (after_turn (turns (n - (i + 1)) turn))) h ∙ k (turns (n - (i + 1)) turn) t))

-- no turns are left
pub turns-over : (n i : ℕ) (turn : Doing) (s : State) (whole : Progress Leaving) → n ≤ i → whole ≡ turns (n - i) turn s → whole ≡ ends_at (standing s.exchange Goes)
turns-over n i turn s whole past is =
    let none : n - i ≡ 0 = omega arith in
    is ∙ ap (λ k. turns k turn s) none

-- ---- what follows a part that is left so

-- where it isn't left at its end
pub not-next : (next : Doing) (leaving : HeldLeaving) (s : State) → leaving ≢ AtEnd → after_statement next (plain_leaving leaving) s ≡ goes_with (plain_leaving leaving) s
not-next next AtEnd s apart = absurd (apart refl)
not-next next ByBreak s apart = refl
not-next next ByContinue s apart = refl
not-next next (ByReturn value) s apart = refl

-- the body of a loop that neither comes to its end nor continues
pub not-turn : (next : Doing) (leaving : HeldLeaving) (s : State) → leaving ≢ AtEnd → leaving ≢ ByContinue → after_body next (plain_leaving leaving) s ≡ goes_with (plain_leaving leaving) s
not-turn next AtEnd s apart also = absurd (apart refl)
not-turn next ByBreak s apart also = refl
not-turn next ByContinue s apart also = absurd (also refl)
not-turn next (ByReturn value) s apart also = refl

-- the same of a loop without a step
pub no-step : (c : Context) (leaving : HeldLeaving) (s : State) → leaving ≢ ByContinue → after_body (computes_if c None) (plain_leaving leaving) s ≡ goes_with (plain_leaving leaving) s
no-step c AtEnd s apart = refl
no-step c ByBreak s apart = refl
no-step c ByContinue s apart = absurd (apart refl)
no-step c (ByReturn value) s apart = refl

-- ---- statements one after another

module _ (c : Context) (n : ℕ) (stmts : List HeldStmt) (i : ℕ) (stmt : HeldStmt) (s t : State) (whole : Progress Leaving) (next : drop i stmts ≡ stmt ∷ drop (i + 1) stmts)
    (is : whole ≡ does_all c n (plain_stmts (drop i stmts)) s) where
  opened : whole ≡ after (does c n (plain_stmt stmt) s) (after_statement (λ s'. does_all c n (plain_stmts (drop (i + 1) stmts)) s'))
  opened = is ∙ ap (λ l. does_all c n (plain_stmts l) s) next

  pub all-stops : {A B : Type 0} (view : A → Leaving) (other : B → Leaving) (e : Stop) → Meets view (Err e) t (does c n (plain_stmt stmt) s) → Meets other (Err e) t whole
  all-stops view other e h =
      same other (Err e) t _ _ (sym opened) (stops view other e t (does c n (plain_stmt stmt) s) (after_statement (λ s'. does_all c n (plain_stmts (drop (i + 1) stmts)) s')) h)

  pub all-next : does c n (plain_stmt stmt) s ≡ goes_with at_end t → whole ≡ does_all c n (plain_stmts (drop (i + 1) stmts)) t
  all-next h = opened ∙ ap (λ q. after q (after_statement (λ s'. does_all c n (plain_stmts (drop (i + 1) stmts)) s'))) h

  pub all-left : (leaving : HeldLeaving) → leaving ≢ AtEnd → does c n (plain_stmt stmt) s ≡ goes_with (plain_leaving leaving) t → whole ≡ goes_with (plain_leaving leaving) t
  all-left leaving apart h =
      opened ∙ (ap (λ q. after q (after_statement (λ s'. does_all c n (plain_stmts (drop (i + 1) stmts)) s'))) h ∙ not-next (λ s'. does_all c n (plain_stmts (drop (i + 1) stmts)) s') leaving t apart)
