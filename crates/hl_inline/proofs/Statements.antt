-- What becomes of statements does what the statements do.
use Rattle.std.proofs.Common.{◌≡◌, ◌∙◌, refl, sym, ap, subst, ℕ, zero, suc, inl, inr, List, [], ◌∷◌, ◌++◌}
use Rattle.std.specs.Prelude.{if◌then◌else◌}
use Rattle.std.proofs.lemmas.Bool.{eq-eqb, ne_eqb}
use Rattle.lane_core.specs.declared.event.Asked.TheVariants.{Goes}
use Rattle.lane_core.specs.Lane.{Lane, standing}
use Rattle.hl_source.specs.State.{Progress, State, after, ends_at, goes_with}
use Rattle.hl_source.specs.Statements.{Doing, Leaving, after_body, after_statement, after_turn, at_end, by_break, by_continue, by_return, does, turns}
use Rattle.hl_inline.specs.FlatTrees.{Flat, FlatStmt, flat_named}
use Rattle.hl_inline.specs.FlatLane.{FlatDoing, FlatLeaving, flat_end, flat_to, flat_turns, named_end, performs, performs_if, then_flat}
use Rattle.hl_inline.proofs.Performing.{Opens, perform, perform_append, perform_ends, perform_next, perform_one}
use Rattle.typed_laws.specs.Fitting.{Yields}
use Rattle.hl_inline.specs.EmittedCode.{as_alternative, as_one}

-- code as one statement does what the code does
pub performs_as_one : (f : Flat) (lane : Lane) (n : ℕ) (code : List FlatStmt) (s : State) → performs f lane n (as_one code) s ≡ perform f lane n code s
performs_as_one f lane n [] s = refl
performs_as_one f lane n (x ∷ []) s = sym (perform_one f lane n x s)
performs_as_one f lane n (x ∷ y ∷ code) s = refl

pub performs_alternative : (f : Flat) (lane : Lane) (n : ℕ) (code : List FlatStmt) (s : State) → performs_if f lane n (as_alternative code) s ≡ perform f lane n code s
performs_alternative f lane n [] s = refl
performs_alternative f lane n (x ∷ []) s = sym (perform_one f lane n x s)
performs_alternative f lane n (x ∷ y ∷ code) s = refl

-- code that leaves for a name leaves what stands behind it
leaves_early : (f : Flat) (lane : Lane) (n : ℕ) (xs ys : List FlatStmt) (t : State) (name : ℕ) (u : State) → perform f lane n xs t ≡ goes_with (flat_to name) u → perform f lane n (xs ++ ys) t ≡ goes_with (flat_to name) u
leaves_early f lane n xs ys t name u e = perform_append f lane n xs ys t ∙ ap (λ q. after q (then_flat (perform f lane n ys))) e

-- A statement of a program and code: both end alike, or both are left alike, in related states. `exit`, `break_to` and
-- `continue_to` are the names that jumps leave. A holds at the end, C where it continues, J where it breaks or returns, and
-- W of a value that is returned.
abbrev pub DoesAs : (exit break_to continue_to : ℕ) → (A J C : State → State → Type 0) → (W : List ℕ → State → Type 0) → Progress Leaving → Progress FlatLeaving → Type 0
DoesAs exit break_to continue_to A J C W (ends_at run) q = q ≡ ends_at run
DoesAs exit break_to continue_to A J C W (goes_with at_end s) q = (t : State) × (q ≡ goes_with flat_end t) × A s t
DoesAs exit break_to continue_to A J C W (goes_with by_break s) q = (t : State) × (q ≡ goes_with (flat_to break_to) t) × J s t
DoesAs exit break_to continue_to A J C W (goes_with by_continue s) q = (t : State) × (q ≡ goes_with (flat_to continue_to) t) × C s t
DoesAs exit break_to continue_to A J C W (goes_with (by_return value) s) q = (t : State) × (q ≡ goes_with (flat_to exit) t) × J s t × W value t

-- a turn of a loop, which doesn't continue
abbrev pub TurnAs : (exit break_to : ℕ) → (I : State → State → Type 0) → (W : List ℕ → State → Type 0) → Progress Leaving → Progress FlatLeaving → Type 0
TurnAs exit break_to I W p q = DoesAs exit break_to 0 I I (λ s t. ⊥) W p q

module _ (exit break_to continue_to : ℕ) where
  -- what holds behind may be weaker
  pub does_map : (A B J K C E : State → State → Type 0) (W : List ℕ → State → Type 0) → ((s t : State) → A s t → B s t) → ((s t : State) → J s t → K s t) → ((s t : State) → C s t → E s t) →
      (p : Progress Leaving) (q : Progress FlatLeaving) → DoesAs exit break_to continue_to A J C W p q → DoesAs exit break_to continue_to B K E W p q
  does_map A B J K C E W f g h (ends_at run) q e = e
  does_map A B J K C E W f g h (goes_with at_end s) q (t, e, a) = (t, e, f s t a)
  does_map A B J K C E W f g h (goes_with by_break s) q (t, e, d) = (t, e, g s t d)
  does_map A B J K C E W f g h (goes_with by_continue s) q (t, e, d) = (t, e, h s t d)
  does_map A B J K C E W f g h (goes_with (by_return value) s) q (t, e, d, w) = (t, e, g s t d, w)

  -- statements one after another
  pub does_next : (f : Flat) (lane : Lane) (n : ℕ) (A B J C : State → State → Type 0) (W : List ℕ → State → Type 0) (xs ys : List FlatStmt) (t : State) (p : Progress Leaving) (next : Doing) →
      DoesAs exit break_to continue_to A J C W p (perform f lane n xs t) → ((s u : State) → A s u → DoesAs exit break_to continue_to B J C W (next s) (perform f lane n ys u)) →
      DoesAs exit break_to continue_to B J C W (after p (after_statement next)) (perform f lane n (xs ++ ys) t)
  does_next f lane n A B J C W xs ys t (ends_at run) next e h = perform_ends f lane n xs ys t run e
  does_next f lane n A B J C W xs ys t (goes_with at_end s) next (u, e, a) h =
      subst (DoesAs exit break_to continue_to B J C W (next s)) (sym (perform_next f lane n xs ys t u e)) (h s u a)
  does_next f lane n A B J C W xs ys t (goes_with by_break s) next (u, e, d) h = (u, leaves_early f lane n xs ys t break_to u e, d)
  does_next f lane n A B J C W xs ys t (goes_with by_continue s) next (u, e, d) h = (u, leaves_early f lane n xs ys t continue_to u e, d)
  does_next f lane n A B J C W xs ys t (goes_with (by_return value) s) next (u, e, d, w) h = (u, leaves_early f lane n xs ys t exit u e, d, w)

  -- an expression, and what is done with its value
  pub opens_does : {X : Type 0} (f : Flat) (lane : Lane) (n : ℕ) (A J C : State → State → Type 0) (W : List ℕ → State → Type 0) (M : State → Type 0) (R : State → State → Type 0) (P : X → Type 0) (code more : List FlatStmt) (t : State)
      (p : Progress X) (k : State → Progress X) (g : X → State → Progress Leaving) (h : X → State → Progress FlatLeaving) → Opens M R p (perform f lane n code t) k → Yields P p →
      ((u : State) → perform f lane n more u ≡ after (k u) h) → ((x : X) (s u : State) → P x → R s u → DoesAs exit break_to continue_to A J C W (g x s) (h x u)) →
      DoesAs exit break_to continue_to A J C W (after p g) (perform f lane n (code ++ more) t)
  opens_does f lane n A J C W M R P code more t (goes_with x s) k g h (t1, e, m, (u, is, r)) y act next =
      subst (DoesAs exit break_to continue_to A J C W (g x s)) (sym (perform_next f lane n code more t t1 e ∙ (act t1 ∙ ap (λ q. after q h) is))) (next x s u y r)
  opens_does f lane n A J C W M R P code more t (ends_at run) k g h (inl e) y act next = perform_ends f lane n code more t run e
  opens_does f lane n A J C W M R P code more t (ends_at run) k g h (inr (t1, e, m, is)) y act next = perform_next f lane n code more t t1 e ∙ (act t1 ∙ ap (λ q. after q h) is)

-- names

pub same_name : (name : ℕ) (t : State) → named_end name (flat_to name) t ≡ goes_with flat_end t
same_name name t = ap (λ b. goes_with (if b then flat_end else flat_to name) t) (eq-eqb name name refl)

other_name : (name other : ℕ) (t : State) → (name ≡ other → ⊥) → named_end name (flat_to other) t ≡ goes_with (flat_to other) t
other_name name other t apart = ap (λ b. goes_with (if b then flat_end else flat_to other) t) (ne_eqb name other apart)

-- the body of a loop and what follows a turn
pub body_turn : (f : Flat) (lane : Lane) (n : ℕ) (exit break_to continue_to : ℕ) → (continue_to ≡ break_to → ⊥) → (continue_to ≡ exit → ⊥) → (A J I : State → State → Type 0) (W : List ℕ → State → Type 0) → ((s t : State) → A s t → J s t) → ((s t : State) → J s t → I s t) →
    (body behind : List FlatStmt) (t : State) (p : Progress Leaving) (next : Doing) → DoesAs exit break_to continue_to A J J W p (perform f lane n body t) → ((s u : State) → J s u → TurnAs exit break_to I W (next s) (perform f lane n behind u)) →
    TurnAs exit break_to I W (after p (after_body next)) (perform f lane n (flat_named continue_to (as_one body) ∷ behind) t)
body_turn f lane n exit break_to continue_to apart apart' A J I W less weak body behind t p next does h =
    by_leaving p does
  where
    -- the body inside its name
    named : (q : Progress FlatLeaving) → perform f lane n body t ≡ q → performs f lane n (flat_named continue_to (as_one body)) t ≡ after q (named_end continue_to)
    named q e = ap (λ q. after q (named_end continue_to)) (performs_as_one f lane n body t ∙ e)

    onward : (u : State) → performs f lane n (flat_named continue_to (as_one body)) t ≡ goes_with flat_end u → perform f lane n (flat_named continue_to (as_one body) ∷ behind) t ≡ perform f lane n behind u
    onward u e = ap (λ q. after q (then_flat (perform f lane n behind))) e

    outward : (name : ℕ) (u : State) → performs f lane n (flat_named continue_to (as_one body)) t ≡ goes_with (flat_to name) u → perform f lane n (flat_named continue_to (as_one body) ∷ behind) t ≡ goes_with (flat_to name) u
    outward name u e = ap (λ q. after q (then_flat (perform f lane n behind))) e

    by_leaving : (p : Progress Leaving) → DoesAs exit break_to continue_to A J J W p (perform f lane n body t) → TurnAs exit break_to I W (after p (after_body next)) (perform f lane n (flat_named continue_to (as_one body) ∷ behind) t)
    by_leaving (ends_at run) e = ap (λ q. after q (then_flat (perform f lane n behind))) (named (ends_at run) e)
    by_leaving (goes_with at_end s) (u, e, a) =
        subst (TurnAs exit break_to I W (next s)) (sym (onward u (named (goes_with flat_end u) e))) (h s u (less s u a))
    by_leaving (goes_with by_break s) (u, e, d) =
        (u, outward break_to u (named (goes_with (flat_to break_to) u) e ∙ other_name continue_to break_to u apart), weak s u d)
    by_leaving (goes_with by_continue s) (u, e, d) =
        subst (TurnAs exit break_to I W (next s)) (sym (onward u (named (goes_with (flat_to continue_to) u) e ∙ same_name continue_to u))) (h s u d)
    by_leaving (goes_with (by_return value) s) (u, e, d, w) =
        (u, outward exit u (named (goes_with (flat_to exit) u) e ∙ other_name continue_to exit u apart'), weak s u d, w)

-- a loop of turns that are alike
pub turns_alike : (exit break_to outer_break outer_continue : ℕ) → (break_to ≡ exit → ⊥) → (I C : State → State → Type 0) (W : List ℕ → State → Type 0) → ((s t : State) → I s t → s.exchange ≡ t.exchange) → (turn : Doing) (flat_turn : FlatDoing) →
    ((s t : State) → I s t → TurnAs exit break_to I W (turn s) (flat_turn t)) → (k : ℕ) (s t : State) → I s t →
    DoesAs exit outer_break outer_continue I I C W (turns k turn s) (after (flat_turns k flat_turn t) (named_end break_to))
turns_alike exit break_to outer_break outer_continue apart I C W same turn flat_turn alike zero s t i = ap (λ x. ends_at (standing x Goes)) (sym (same s t i))
turns_alike exit break_to outer_break outer_continue apart I C W same turn flat_turn alike (suc k) s t i =
    by_turn (λ s1 t1 i1. turns_alike exit break_to outer_break outer_continue apart I C W same turn flat_turn alike k s1 t1 i1) (turn s) (alike s t i)
  where
    whole : (q : Progress FlatLeaving) → flat_turn t ≡ q → after (flat_turns (suc k) flat_turn t) (named_end break_to) ≡ after (after q (then_flat (flat_turns k flat_turn))) (named_end break_to)
    whole q e = ap (λ q. after (after q (then_flat (flat_turns k flat_turn))) (named_end break_to)) e

    by_turn : ((s1 t1 : State) → I s1 t1 → DoesAs exit outer_break outer_continue I I C W (turns k turn s1) (after (flat_turns k flat_turn t1) (named_end break_to))) →
        (p : Progress Leaving) → TurnAs exit break_to I W p (flat_turn t) → DoesAs exit outer_break outer_continue I I C W (after p (after_turn (turns k turn))) (after (flat_turns (suc k) flat_turn t) (named_end break_to))
    by_turn next (ends_at run) e = whole (ends_at run) e
    by_turn next (goes_with at_end s1) (u, e, i1) = subst (DoesAs exit outer_break outer_continue I I C W (turns k turn s1)) (sym (whole (goes_with flat_end u) e)) (next s1 u i1)
    by_turn next (goes_with by_break s1) (u, e, i1) = (u, whole (goes_with (flat_to break_to) u) e ∙ same_name break_to u, i1)
    by_turn next (goes_with by_continue s1) (u, e, i1) = absurd i1
    by_turn next (goes_with (by_return value) s1) (u, e, i1, w) = (u, whole (goes_with (flat_to exit) u) e ∙ other_name break_to exit u apart, i1, w)
