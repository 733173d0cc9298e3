-- Whether a token is read, yielded at or refused hangs on what stands before it and on itself alone.
use Rattle.std.proofs.Common.{◌≡◌, ◌∙◌, refl, sym, ap, ℕ, Bool, true, false, if◌then◌else◌, eqb, not, ◌&&◌, ◌||◌, List, [], ◌∷◌}
use Rattle.std.proofs.lemmas.Bool.{eqb-true}
use Rattle.hl_lexer.specs.declared.terminal.Terminal.{Terminal}
use Rattle.hl_lexer.specs.declared.terminal.Terminal.TheVariants as terminals
use Rattle.hl_parser.specs.declared.act.Act.TheVariants as acts
use Rattle.hl_parser.specs.declared.symbol.Symbol.{Symbol}
use Rattle.hl_parser.specs.declared.symbol.Symbol.TheVariants as symbols
use Rattle.hl_parser.specs.Codes.{is}
use Rattle.hl_parser.specs.Grammar.{is_basic}
use Rattle.hl_parser.specs.Machine.{Fed, Kept, Move, after_move, begins_expression, begins_init, begins_local, begins_statement, begins_type, fed, feed, followed, move_of, on_first, on_local, on_operand, on_parenthesis, on_statement, other_operand, other_statement, perform_all, reads, refused, refuses, spent, yields}
use Rattle.hl_parser.proofs.Moves.{if_true}
use Rattle.hl_parser.proofs.ReadStatements.{local_never}
use Rattle.hl_parser.proofs.Runs.{NeverYields}
use Rattle.hl_parser.proofs.Terminals.{by_every, every, implied, implies, same_is}

abbrev pub kind_of : Move → ℕ
kind_of (reads done more) = 0
kind_of (yields done) = 1
kind_of refuses = 2

kind_followed : (x y : Move) (more : List Symbol) → kind_of x ≡ kind_of y → kind_of (followed x more) ≡ kind_of (followed y more)
kind_followed (reads d p) (reads e q) more h = refl
kind_followed (reads d p) (yields e) more h = absurd (zero_is_no_one h)
  where
    zero_is_no_one : ◌≡◌ {A = ℕ} 0 1 → ⊥
    zero_is_no_one h = cc
kind_followed (reads d p) refuses more h = absurd (zero_is_no_two h)
  where
    zero_is_no_two : ◌≡◌ {A = ℕ} 0 2 → ⊥
    zero_is_no_two h = cc
kind_followed (yields d) (reads e q) more h = absurd (one_is_no_zero h)
  where
    one_is_no_zero : ◌≡◌ {A = ℕ} 1 0 → ⊥
    one_is_no_zero h = cc
kind_followed (yields d) (yields e) more h = refl
kind_followed (yields d) refuses more h = refl
kind_followed refuses (reads e q) more h = absurd (two_is_no_zero h)
  where
    two_is_no_zero : ◌≡◌ {A = ℕ} 2 0 → ⊥
    two_is_no_zero h = cc
kind_followed refuses (yields e) more h = refl
kind_followed refuses refuses more h = refl

kind_if : (b : Bool) (x y : Move) (n : ℕ) → (b ≡ true → kind_of x ≡ n) → (b ≡ false → kind_of y ≡ n) → kind_of (if b then x else y) ≡ n
kind_if true x y n h g = h refl
kind_if false x y n h g = g refl

both_if : (b : Bool) (x y v w : Move) → (b ≡ true → kind_of x ≡ kind_of v) → (b ≡ false → kind_of y ≡ kind_of w) → kind_of (if b then x else y) ≡ kind_of (if b then v else w)
both_if true x y v w h g = h refl
both_if false x y v w h g = g refl

and_left : (a b : Bool) → (a && b) ≡ true → a ≡ true
and_left true b e = refl
and_left false b e = e

kind_operand : (k : ℕ) (t next : Terminal) → kind_of (on_operand k t next) ≡ kind_of (other_operand k t)
kind_operand k t next =
    kind_if (is t terminals.Name && is next terminals.OpenParenthesis) _ (other_operand k t) (kind_of (other_operand k t))
    (λ e. sym (ap (λ x. kind_of (other_operand k x)) (same_is t terminals.Name (and_left _ _ e)))) (λ e. refl)

-- behind a parenthesis
kind_basic : (k : ℕ) (t : Terminal) → is_basic t ≡ true → kind_of (other_operand k t) ≡ 0
kind_basic k t e = eqb-true _ _ (by_every is_basic (λ t. eqb (kind_of (other_operand k t)) 0) refl t e)

kind_expression : (k : ℕ) (t : Terminal) → begins_expression t ≡ true → kind_of (other_operand k t) ≡ 0
kind_expression k t e = eqb-true _ _ (by_every begins_expression (λ t. eqb (kind_of (other_operand k t)) 0) refl t e)

kind_read : (x : Move) (more : List Symbol) → kind_of x ≡ 0 → kind_of (followed x more) ≡ 0
kind_read x more e = kind_followed x (reads [] []) more e

kind_local : (x : Move) (more : List Symbol) → NeverYields x → kind_of (followed x more) ≡ kind_of x
kind_local (reads d p) more never = refl
kind_local (yields d) more never = absurd never
kind_local refuses more never = refl

kind_parenthesis : (k : ℕ) (t next : Terminal) → kind_of (on_parenthesis k t next) ≡ kind_of (followed (other_operand 27 t) [])
kind_parenthesis k t next =
    kind_if (is_basic t && is next terminals.CloseParenthesis) _ (followed (on_operand 27 t next) _) (kind_of (followed (other_operand 27 t) []))
    (λ e. sym (kind_read (other_operand 27 t) [] (kind_basic 27 t (and_left _ _ e))))
    (λ e. kind_followed (on_operand 27 t next) (other_operand 27 t) _ (kind_operand 27 t next) ∙ kind_more (other_operand 27 t) _ [])
  where
    kind_more : (x : Move) (p q : List Symbol) → kind_of (followed x p) ≡ kind_of (followed x q)
    kind_more (reads d m) p q = refl
    kind_more (yields d) p q = refl
    kind_more refuses p q = refl

-- locals

local_word : Terminal → Bool
local_word t = begins_type t || is t terminals.Const

local_begins_so : (t next : Terminal) → begins_local t next ≡ true → local_word t ≡ true
unfolding local_word
local_begins_so t next e = implied (begins_local t next) (local_word t) (every_next t) e
  where
    any_next : (t : Terminal) (b c : Bool) → implies (is t terminals.Const || ((is_basic t && b) || (is t terminals.Name && c))) (begins_type t || is t terminals.Const) ≡ true
    any_next t true true = every (λ t. implies (is t terminals.Const || ((is_basic t && true) || (is t terminals.Name && true))) (begins_type t || is t terminals.Const)) refl t
    any_next t true false = every (λ t. implies (is t terminals.Const || ((is_basic t && true) || (is t terminals.Name && false))) (begins_type t || is t terminals.Const)) refl t
    any_next t false true = every (λ t. implies (is t terminals.Const || ((is_basic t && false) || (is t terminals.Name && true))) (begins_type t || is t terminals.Const)) refl t
    any_next t false false = every (λ t. implies (is t terminals.Const || ((is_basic t && false) || (is t terminals.Name && false))) (begins_type t || is t terminals.Const)) refl t

    every_next : (t : Terminal) → implies (begins_local t next) (begins_type t || is t terminals.Const) ≡ true
    every_next t = any_next t (not (is next terminals.OpenParenthesis)) (is next terminals.Name)

local_reads : (t : Terminal) → local_word t ≡ true → kind_of (on_local t) ≡ 0
unfolding local_word
local_reads t e = eqb-true _ _ (by_every local_word (λ t. eqb (kind_of (on_local t)) 0) refl t e)

-- an expression or `const`
early : Terminal → Bool
early t = begins_expression t || is t terminals.Const

local_is_early : (t : Terminal) → local_word t ≡ true → early t ≡ true
unfolding local_word early
local_is_early t e = by_every local_word early refl t e

no_const : (t next : Terminal) → begins_local t next ≡ false → is t terminals.Const ≡ false
no_const t next e = or_left_false (is t terminals.Const) _ e
  where
    or_left_false : (a b : Bool) → (a || b) ≡ false → a ≡ false
    or_left_false true b e = e
    or_left_false false b e = refl

-- a move that begins with a local or an expression
abbrev by_start : Bool → Move → Move
by_start b other = if b then reads [] [] else other

kind_early : (t next : Terminal) (local expression other : Move) → kind_of local ≡ kind_of (on_local t) → (begins_expression t ≡ true → kind_of expression ≡ 0) → kind_of (if begins_local t next then local else (if begins_expression t then expression else other)) ≡ kind_of (by_start (early t) other)
unfolding early
kind_early t next local expression other same_local reads_expression =
    kind_if (begins_local t next) local _ (kind_of (by_start (early t) other))
    (λ e. let word = local_begins_so t next e in
    same_local ∙ local_reads t word ∙ sym (ap kind_of (if_true (early t) (reads [] []) other (local_is_early t word))))
    (λ e. no_local (no_const t next e))
  where
    no_local : is t terminals.Const ≡ false → kind_of (if begins_expression t then expression else other) ≡ kind_of (by_start (begins_expression t || is t terminals.Const) other)
    no_local f =
        kind_if (begins_expression t) expression other (kind_of (by_start (begins_expression t || is t terminals.Const) other))
        (λ c. reads_expression c ∙ sym (ap (λ x. kind_of (by_start (x || is t terminals.Const) other)) c))
        (λ c. sym (ap (λ x. kind_of (by_start (x || is t terminals.Const) other)) c ∙ ap (λ x. kind_of (by_start x other)) f))

same_operand : (k : ℕ) (t n m : Terminal) → kind_of (on_operand k t n) ≡ kind_of (on_operand k t m)
same_operand k t n m = kind_operand k t n ∙ sym (kind_operand k t m)

kind_statement : (t next : Terminal) → kind_of (on_statement t next) ≡ kind_of (by_start (early t) (other_statement t))
kind_statement t next =
    kind_early t next _ _ (other_statement t)
    (kind_local (on_local t) _ (local_never t))
    (λ c. kind_read (on_operand 27 t next) _ (kind_operand 27 t next ∙ kind_expression 27 t c))

kind_first : (t next : Terminal) → kind_of (on_first t next) ≡ kind_of (by_start (early t) (yields []))
kind_first t next =
    kind_early t next (on_local t) (on_operand 27 t next) (yields (acts.Absent ∷ [])) refl (λ c. kind_operand 27 t next ∙ kind_expression 27 t c)
    ∙ kind_yields (early t)
  where
    kind_yields : (b : Bool) → kind_of (by_start b (yields (acts.Absent ∷ []))) ≡ kind_of (by_start b (yields []))
    kind_yields true = refl
    kind_yields false = refl

pub same_kind : (s : Symbol) (t n m : Terminal) → kind_of (move_of s t n) ≡ kind_of (move_of s t m)
same_kind symbols.Init t n m =
    both_if (begins_expression t) _ _ _ _ (λ e. kind_followed (on_operand 27 t n) (on_operand 27 t m) _ (same_operand 27 t n m)) (λ e. refl)
same_kind symbols.Inits t n m =
    both_if (is t terminals.CloseBrace) _ _ _ _ (λ e. refl)
    (λ e. both_if (is t terminals.Comma) _ _ _ _
    (λ f. kind_if (begins_init n) _ _ (kind_of (if begins_init m then reads [] (symbols.Init ∷ symbols.Make acts.Append ∷ symbols.Inits ∷ []) else reads [] (symbols.Skip terminals.CloseBrace ∷ [])))
    (λ g. sym (kind_if (begins_init m) _ _ 0 (λ h. refl) (λ h. refl))) (λ g. sym (kind_if (begins_init m) _ _ 0 (λ h. refl) (λ h. refl))))
    (λ f. refl))
same_kind symbols.Statement t n m = kind_statement t n ∙ sym (kind_statement t m)
same_kind symbols.Statements t n m =
    both_if (begins_statement t) _ _ _ _
    (λ e. kind_followed (on_statement t n) (on_statement t m) _ (kind_statement t n ∙ sym (kind_statement t m))) (λ e. refl)
same_kind symbols.First t n m = kind_first t n ∙ sym (kind_first t m)
same_kind symbols.Optional t n m = both_if (begins_expression t) _ _ _ _ (λ e. same_operand 27 t n m) (λ e. refl)
same_kind (symbols.Operand k) t n m = same_operand k t n m
same_kind (symbols.Parenthesis k) t n m = kind_parenthesis k t n ∙ sym (kind_parenthesis k t m)
same_kind symbols.ArgList t n m =
    both_if (begins_expression t) _ _ _ _ (λ e. kind_followed (on_operand 27 t n) (on_operand 27 t m) _ (same_operand 27 t n m)) (λ e. refl)
same_kind s t n m = refl

-- what comes of a token, apart from symbols and values
abbrev pub outcome_of : Fed → ℕ
outcome_of (fed pending values) = 0
outcome_of (spent values) = 1
outcome_of refused = 2

same_after : (x y : Move) (i j : ℕ) (K : List Symbol) (V W : Kept) (go back : Kept → Fed) → kind_of x ≡ kind_of y → ((v w : Kept) → outcome_of (go v) ≡ outcome_of (back w)) → outcome_of (after_move x i K V go) ≡ outcome_of (after_move y j K W back)
same_after (reads d p) (reads e q) i j K V W go back h rest = refl
same_after (reads d p) (yields e) i j K V W go back h rest = absurd (differ h)
  where
    differ : ◌≡◌ {A = ℕ} 0 1 → ⊥
    differ h = cc
same_after (reads d p) refuses i j K V W go back h rest = absurd (differ h)
  where
    differ : ◌≡◌ {A = ℕ} 0 2 → ⊥
    differ h = cc
same_after (yields d) (reads e q) i j K V W go back h rest = absurd (differ h)
  where
    differ : ◌≡◌ {A = ℕ} 1 0 → ⊥
    differ h = cc
same_after (yields d) (yields e) i j K V W go back h rest = rest (perform_all d i V) (perform_all e j W)
same_after (yields d) refuses i j K V W go back h rest = absurd (differ h)
  where
    differ : ◌≡◌ {A = ℕ} 1 2 → ⊥
    differ h = cc
same_after refuses (reads e q) i j K V W go back h rest = absurd (differ h)
  where
    differ : ◌≡◌ {A = ℕ} 2 0 → ⊥
    differ h = cc
same_after refuses (yields e) i j K V W go back h rest = absurd (differ h)
  where
    differ : ◌≡◌ {A = ℕ} 2 1 → ⊥
    differ h = cc
same_after refuses refuses i j K V W go back h rest = refl

pub same_outcome : (K : List Symbol) (V W : Kept) (i j : ℕ) (t n m : Terminal) → outcome_of (feed K V i t n) ≡ outcome_of (feed K W j t m)
same_outcome [] V W i j t n m = refl
same_outcome (s ∷ K) V W i j t n m =
    same_after (move_of s t n) (move_of s t m) i j K V W (λ v. feed K v i t n) (λ v. feed K v j t m) (same_kind s t n m)
    (λ v w. same_outcome K v w i j t n m)
