-- The moves of symbols at tokens of a class.
use Rattle.std.proofs.Common.{◌≡◌, ◌∙◌, refl, ap, ap₂, ℕ, suc, ◌<◌, ◌≤◌, Bool, true, false, if◌then◌else◌, eqb, nat_le, nat_lt, not, ◌&&◌, List, [], ◌∷◌, arith}
use Rattle.std.proofs.lemmas.Bool.{eqb-true, le-leb, le-ltb, leb-true, lt-leb, lt-ltb, ltb-false, ltb-true}
use Rattle.hl_lexer.specs.declared.terminal.Terminal.{Terminal}
use Rattle.hl_lexer.specs.declared.terminal.Terminal.TheVariants as terminals
use Rattle.hl_parser.specs.declared.act.Act.{Act}
use Rattle.hl_parser.specs.declared.act.Act.TheVariants as acts
use Rattle.hl_parser.specs.declared.symbol.Symbol.{Symbol}
use Rattle.hl_parser.specs.declared.symbol.Symbol.TheVariants as symbols
use Rattle.hl_parser.specs.Codes.{all_terminals, is}
use Rattle.hl_parser.specs.Grammar.{Numbered, is_assign, is_basic, is_prefix, is_step, is_word, operator_of, peek}
use Rattle.hl_parser.specs.Machine.{Move, followed, is_repeating, joins_to, led, level_of, move_of, on_operand, on_operator, on_type, only, reads, refuses, yields}
use Rattle.hl_parser.proofs.Claims.{Quiet, closes, edge_of}
use Rattle.hl_parser.proofs.Runs.{NeverYields}
use Rattle.hl_parser.proofs.Terminals.{all_pass, by_every, implies, not_true}

-- moves that never yield

pub never_if : (b : Bool) (x y : Move) → NeverYields x → NeverYields y → NeverYields (if b then x else y)
never_if true x y h g = h
never_if false x y h g = g

pub never_only : (t u : Terminal) (x : Move) → NeverYields x → NeverYields (only t u x)
never_only t u x h = never_if (is t u) x refuses h tt

pub never_followed : (x : Move) (more : List Symbol) → NeverYields (followed x more)
never_followed (reads done pending) more = tt
never_followed (yields done) more = tt
never_followed refuses more = tt

pub never_led : (first : List Act) (x : Move) → NeverYields (led first x)
never_led first (reads done pending) = tt
never_led first (yields done) = tt
never_led first refuses = tt

pub type_never : (t : Terminal) → NeverYields (on_type t)
type_never t = never_if (is_basic t) _ _ tt (never_only t terminals.Name _ tt)

pub operand_never : (k : ℕ) (t next : Terminal) → NeverYields (on_operand k t next)
operand_never k t next =
    never_if (is t terminals.Name && is next terminals.OpenParenthesis) _ _ tt
    (never_if (is_word t) _ _ tt (never_if (is_basic t) _ _ tt (never_if (is_prefix t) _ _ tt (never_only t terminals.OpenParenthesis _ tt))))

-- tests

pub if_true : {A : Type 0} (b : Bool) (x y : A) → b ≡ true → (if b then x else y) ≡ x
if_true b x y e = ap (λ b. if b then x else y) e

pub if_false : {A : Type 0} (b : Bool) (x y : A) → b ≡ false → (if b then x else y) ≡ y
if_false b x y e = ap (λ b. if b then x else y) e

-- operators behind an operand

pub repeating : (t : Terminal) (production : ℕ) → 1 ≤ production → operator_of t ≡ production → is_repeating t ≡ true
repeating t production some e = ap (nat_le 1) e ∙ le-leb 1 production some

pub level_repeating : (t : Terminal) → is_repeating t ≡ true → level_of t ≡ operator_of t
level_repeating t e = eqb-true _ _ (by_every is_repeating (λ t. eqb (level_of t) (operator_of t)) refl t e)

pub level_assign : (t : Terminal) → is_assign t ≡ true → level_of t ≡ 27
level_assign t e = eqb-true _ _ (by_every is_assign (λ t. eqb (level_of t) 27) refl t e)

pub level_step : (t : Terminal) → is_step t ≡ true → level_of t ≡ 41
level_step t e = eqb-true _ _ (by_every is_step (λ t. eqb (level_of t) 41) refl t e)

pub operator_repeating : (k : ℕ) (t : Terminal) → is_repeating t ≡ true → on_operator k t ≡ reads (acts.Here ∷ []) (symbols.Operand (suc (operator_of t)) ∷ symbols.Make (acts.Binary (operator_of t)) ∷ symbols.Tail (operator_of t) k ∷ [])
operator_repeating k t e = if_true (is_repeating t) _ _ e

pub operator_assign : (k : ℕ) (t : Terminal) → is_assign t ≡ true → on_operator k t ≡ reads (acts.Here ∷ []) (symbols.Operand 27 ∷ symbols.Make acts.Assignment ∷ symbols.Tail 27 k ∷ [])
operator_assign k t e =
    if_false (is_repeating t) _ _ (not_true _ (by_every is_assign (λ t. not (is_repeating t)) refl t e))
    ∙ if_true (is_assign t) _ _ e

pub operator_step : (k : ℕ) (t : Terminal) → is_step t ≡ true → on_operator k t ≡ reads (acts.Here ∷ []) (symbols.Make acts.Step ∷ symbols.Tail 41 k ∷ [])
operator_step k t e =
    if_false (is_repeating t) _ _ (not_true _ (by_every is_step (λ t. not (is_repeating t)) refl t e))
    ∙ if_false (is_assign t) _ _ (not_true _ (by_every is_step (λ t. not (is_assign t)) refl t e))
    ∙ if_true (is_step t) _ _ e

and_true : (a b : Bool) → a ≡ true → b ≡ true → (a && b) ≡ true
and_true a b e f = ap₂ (λ x y. x && y) e f

-- behind an operand of a production, where an expression of at least a level is read
pub tail_takes : (production k level : ℕ) (t next : Terminal) → level_of t ≡ level → k ≤ level → level ≤ joins_to production → move_of (symbols.Tail production k) t next ≡ on_operator k t
tail_takes production k level t next e low high =
    if_true (nat_le k (level_of t) && nat_le (level_of t) (joins_to production)) (on_operator k t) (yields [])
    (and_true _ _ (ap (nat_le k) e ∙ le-leb k level low) (ap (λ l. nat_le l (joins_to production)) e ∙ le-leb level (joins_to production) high))

pub tail_yields : (production k : ℕ) (t next : Terminal) → level_of t < k → move_of (symbols.Tail production k) t next ≡ yields []
tail_yields production k t next low =
    if_false (nat_le k (level_of t) && nat_le (level_of t) (joins_to production)) (on_operator k t) (yields [])
    (ap (λ b. b && nat_le (level_of t) (joins_to production)) (lt-leb k (level_of t) low))

-- tokens behind expressions

pub quiet_closes : (to : List Numbered) → closes (peek to) ≡ true → Quiet 27 to
quiet_closes to e = record {
  below = ltb-true _ _ (by_every closes (λ t. nat_lt (level_of t) 27) refl (peek to) e);
  no_call = not_true _ (by_every closes (λ t. not (is t terminals.OpenParenthesis)) refl (peek to) e);
}

pub closes_no_name : (t : Terminal) → closes t ≡ true → is t terminals.Name ≡ false
closes_no_name t e = not_true _ (by_every closes (λ t. not (is t terminals.Name)) refl t e)

pub class_quiet : (test : Terminal → Bool) (level : ℕ) (t : Terminal) → all_pass (λ t. implies (test t) (not (is t terminals.OpenParenthesis))) all_terminals ≡ true → test t ≡ true → is t terminals.OpenParenthesis ≡ false
class_quiet test level t every_one e = not_true _ (by_every test (λ t. not (is t terminals.OpenParenthesis)) every_one t e)

-- bounds on levels

pub joins_high : (production : ℕ) → 30 ≤ production → joins_to production ≡ production
joins_high production high =
    if_false (nat_lt production 29) _ _ (le-ltb production 29 (omega arith)) ∙ if_false (nat_lt production 30) _ _ (le-ltb production 30 high)

-- how far an expression joins, by its production
pub data Joins (production : ℕ) : Type 0 where
  joins_none : production ≤ 28 → joins_to production ≡ 0 → Joins production
  joins_one : production ≡ 29 → joins_to production ≡ 28 → Joins production
  joins_all : 30 ≤ production → joins_to production ≡ production → Joins production

pub joins_cases : (production : ℕ) → Joins production
joins_cases production = by_test (nat_lt production 29) refl
  where
    by_last : (b : Bool) → nat_lt production 29 ≡ false → nat_lt production 30 ≡ b → Joins production
    by_last true e f =
        let above = ltb-false production 29 e in
        let below = ltb-true production 30 f in
        joins_one (omega arith) (if_false (nat_lt production 29) _ _ e ∙ if_true (nat_lt production 30) _ _ f)
    by_last false e f = joins_all (ltb-false production 30 f) (if_false (nat_lt production 29) _ _ e ∙ if_false (nat_lt production 30) _ _ f)

    by_test : (b : Bool) → nat_lt production 29 ≡ b → Joins production
    by_test true e = let below = ltb-true production 29 e in joins_none (omega arith) (if_true (nat_lt production 29) _ _ e)
    by_test false e = by_last (nat_lt production 30) e refl

pub joins_assign : (production : ℕ) → 29 ≤ production → 27 ≤ joins_to production
joins_assign production high = by_cases (joins_cases production)
  where
    by_cases : Joins production → 27 ≤ joins_to production
    by_cases (joins_none a b) = omega arith
    by_cases (joins_one a b) = omega arith
    by_cases (joins_all a b) = omega arith

edge_middle : ℕ → ℕ
edge_middle production = if nat_lt production 40 then suc production else (if nat_le production 40 then 41 else 43)

pub edge_high : (production : ℕ) → 30 ≤ production → production ≤ 42 → production < edge_of production
unfolding edge_middle
edge_high production low high = by_test (nat_lt production 40) refl
  where
    first : edge_of production ≡ edge_middle production
    first = if_false (nat_lt production 30) _ _ (le-ltb production 30 low)

    by_last : (b : Bool) → nat_lt production 40 ≡ false → nat_le production 40 ≡ b → production < edge_of production
    by_last true e f =
        let x : edge_of production ≡ 41 = first ∙ if_false (nat_lt production 40) _ _ e ∙ if_true (nat_le production 40) _ _ f in
        let below = leb-true production 40 f in
        omega arith
    by_last false e f =
        let x : edge_of production ≡ 43 = first ∙ if_false (nat_lt production 40) _ _ e ∙ if_false (nat_le production 40) _ _ f in
        omega arith

    by_test : (b : Bool) → nat_lt production 40 ≡ b → production < edge_of production
    by_test true e = let x : edge_of production ≡ suc production = first ∙ if_true (nat_lt production 40) _ _ e in omega arith
    by_test false e = by_last (nat_le production 40) e refl

pub edge_low : (production : ℕ) → production ≤ 29 → edge_of production ≡ production
edge_low production low = if_true (nat_lt production 30) _ _ (lt-ltb production 30 (omega arith))

pub edge_above : (production : ℕ) → production ≤ 42 → production ≤ edge_of production
edge_above production high = by_test (nat_lt production 30) refl
  where
    by_test : (b : Bool) → nat_lt production 30 ≡ b → production ≤ edge_of production
    by_test true e = let x : edge_of production ≡ production = if_true (nat_lt production 30) _ _ e in omega arith
    by_test false e = let low = ltb-false production 30 e in let x = edge_high production low high in omega arith

pub edge_repeats : (production : ℕ) → 30 ≤ production → production ≤ 39 → edge_of production ≡ suc production
edge_repeats production low high =
    if_false (nat_lt production 30) _ _ (le-ltb production 30 low) ∙ if_true (nat_lt production 40) _ _ (lt-ltb production 40 (omega arith))

-- no operator has the level of a unary one
pub level_not_unary : (t : Terminal) → level_of t < 41 → level_of t < 40
level_not_unary t h = ltb-true _ _ (by_every (λ t. nat_lt (level_of t) 41) (λ t. nat_lt (level_of t) 40) refl t (lt-ltb _ _ h))

-- operands

pub operand_word : (k : ℕ) (t next : Terminal) → is_word t ≡ true → is next terminals.OpenParenthesis ≡ false → on_operand k t next ≡ reads (acts.Here ∷ []) (symbols.Make acts.Word ∷ symbols.Tail 42 k ∷ [])
operand_word k t next e f =
    if_false (is t terminals.Name && is next terminals.OpenParenthesis) _ _ (ap (λ b. is t terminals.Name && b) f ∙ and-false (is t terminals.Name))
    ∙ if_true (is_word t) _ _ e
  where
    and-false : (a : Bool) → (a && false) ≡ false
    and-false true = refl
    and-false false = refl

pub operand_basic : (k : ℕ) (t next : Terminal) → is_basic t ≡ true → on_operand k t next ≡ reads (acts.Here ∷ []) (symbols.Make acts.Basic ∷ symbols.Args ∷ symbols.Make acts.Constructor ∷ symbols.Tail 42 k ∷ [])
operand_basic k t next e =
    if_false (is t terminals.Name && is next terminals.OpenParenthesis) _ _ (not_true _ (by_every is_basic (λ t. not (is t terminals.Name && is next terminals.OpenParenthesis)) refl t e))
    ∙ if_false (is_word t) _ _ (not_true _ (by_every is_basic (λ t. not (is_word t)) refl t e))
    ∙ if_true (is_basic t) _ _ e

pub operand_prefix : (k : ℕ) (t next : Terminal) → is_prefix t ≡ true → on_operand k t next ≡ reads (acts.Here ∷ []) (symbols.Operand 40 ∷ symbols.Make acts.Unary ∷ symbols.Tail 40 k ∷ [])
operand_prefix k t next e =
    if_false (is t terminals.Name && is next terminals.OpenParenthesis) _ _ (not_true _ (by_every is_prefix (λ t. not (is t terminals.Name && is next terminals.OpenParenthesis)) refl t e))
    ∙ if_false (is_word t) _ _ (not_true _ (by_every is_prefix (λ t. not (is_word t)) refl t e))
    ∙ if_false (is_basic t) _ _ (not_true _ (by_every is_prefix (λ t. not (is_basic t)) refl t e))
    ∙ if_true (is_prefix t) _ _ e
