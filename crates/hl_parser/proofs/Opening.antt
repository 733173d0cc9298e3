-- What the first tokens of trees are.
use Rattle.std.proofs.Common.{◌≡◌, ◌∙◌, refl, ap, ℕ, ◌≤◌, Bool, true, false, cond, if◌then◌else◌, nat_le, not, ⊎_elim, ◌&&◌, ◌||◌, None, Some, List, arith}
use Rattle.hl_lexer.specs.declared.terminal.Terminal.{Terminal}
use Rattle.hl_lexer.specs.declared.terminal.Terminal.TheVariants as terminals
use Rattle.hl_parser.specs.Codes.{all_terminals, is}
use Rattle.hl_parser.specs.Grammar.{Numbered, Mark, Operator, Spells, Token, Word, is_assign, is_basic, is_prefix, is_step, is_word, last_for, n_args, n_basic, n_choice, n_expr, n_or, n_postfix, n_primary, operator_of, peek}
use Rattle.hl_parser.specs.Machine.{begins_expression, begins_local, is_repeating}
use Rattle.hl_parser.specs.Trees.{Tree, a_basic, an_expr, a_choice, a_binary, a_unary, a_postfix, a_primary, an_args, absent, present}
use Rattle.std.proofs.lemmas.Bool.{le-leb, le-ltb, leb-true, or_cases}
use Rattle.hl_parser.proofs.Runs.{rest_of}
use Rattle.hl_parser.proofs.Shapes.{number_is, number_of}
use Rattle.hl_parser.proofs.Terminals.{all_pass, by_every, implies, not_true}

-- an expression may stand for every earlier production of expressions
pub last_of_expression : (asked : ℕ) → n_expr ≤ asked → asked ≤ n_primary → last_for asked ≡ 42
last_of_expression asked l u =
    ap (λ b. cond b asked (if nat_le asked n_primary then n_primary else asked)) (le-ltb asked n_expr l)
    ∙ ap (λ b. cond b n_primary asked) (le-leb asked n_primary u)

-- the first token
pub peek_token : {at : ℕ} {t : Terminal} {from to : List Numbered} → Token at t from to → peek from ≡ t
peek_token e = ap peek e

pub peek_mark : {t : Terminal} {from to : List Numbered} → Mark t from to → peek from ≡ t
peek_mark (i, e) = ap peek e

-- a basic type is one token; arguments begin with a parenthesis
pub basic_token : (tree : Tree) (from to : List Numbered) → Spells n_basic tree from to → (at : ℕ) × (tree ≡ a_basic at) × Word at is_basic from to
basic_token (a_basic at) from to (a, b, h) = (at, refl, h)
basic_token tree from to h = let n = number_is tree n_basic from to h in absurd (omega arith)

pub args_open : (tree : Tree) (from to : List Numbered) → Spells n_args tree from to → peek from ≡ terminals.OpenParenthesis
args_open (an_args at arguments) from to (a, b, (m, e, h)) = ap peek e
args_open tree from to h = let n = number_is tree n_args from to h in absurd (omega arith)

pub basic_class : {at : ℕ} {from to : List Numbered} → Word at is_basic from to → (is_basic (peek from) ≡ true) × (rest_of from ≡ to)
basic_class (t, c, e) = (ap is_basic (ap peek e) ∙ c, ap rest_of e)

-- whether a local begins, by whether the second token is a name or a parenthesis
abbrev local_by : Terminal → Bool → Bool → Bool
local_by t b c = is t terminals.Const || ((is_basic t && not c) || (is t terminals.Name && b))

-- the first two tokens of an expression, which no local has, and no cast behind its parenthesis
pub record Opens (from : List Numbered) : Type 0 where
  pub begins : begins_expression (peek from) ≡ true
  pub no_local : begins_local (peek from) (peek (rest_of from)) ≡ false
  pub no_cast : (is_basic (peek from) && is (peek (rest_of from)) terminals.CloseParenthesis) ≡ false

opens_with : (t next : Terminal) (from : List Numbered) → peek from ≡ t → peek (rest_of from) ≡ next → begins_expression t ≡ true → local_by t (is next terminals.Name) (is next terminals.OpenParenthesis) ≡ false → (is_basic t && is next terminals.CloseParenthesis) ≡ false → Opens from
opens_with t next from e f a b c = record {
  begins = ap begins_expression e ∙ a;
  no_local = ap (λ x. begins_local x (peek (rest_of from))) e ∙ (ap (begins_local t) f ∙ b);
  no_cast = ap (λ x. is_basic x && is (peek (rest_of from)) terminals.CloseParenthesis) e ∙ (ap (λ x. is_basic t && is x terminals.CloseParenthesis) f ∙ c);
}

-- a token of a class that has no name is no name
pub class_no_name : {at : ℕ} {from to : List Numbered} (test : Terminal → Bool) → all_pass (λ t. implies (test t) (not (is t terminals.Name))) all_terminals ≡ true → Word at test from to → is (peek from) terminals.Name ≡ false
class_no_name test every_one (t, c, e) =
    ap (λ x. is x terminals.Name) (ap peek e) ∙ not_true (is t terminals.Name) (by_every test (λ t. not (is t terminals.Name)) every_one t c)

operator_no_name : {at production : ℕ} {from to : List Numbered} → n_or ≤ production → Operator at production from to → is (peek from) terminals.Name ≡ false
operator_no_name {production = production} low (t, c, e) =
    ap (λ x. is x terminals.Name) (ap peek e)
    ∙ not_true (is t terminals.Name) (by_every is_repeating (λ t. not (is t terminals.Name)) refl t (leb-suc production (operator_of t) low c))
  where
    leb-suc : (p n : ℕ) → n_or ≤ p → n ≡ p → nat_le 1 n ≡ true
    leb-suc p n l e = let h : 1 ≤ n = omega arith in le-leb 1 n h

word_opens : (t : Terminal) (from : List Numbered) → peek from ≡ t → is_word t ≡ true → is (peek (rest_of from)) terminals.Name ≡ false → Opens from
word_opens t from e c f =
    let next = peek (rest_of from) in
    opens_with t next from e refl
    (by_every is_word begins_expression refl t c)
    (ap (λ b. local_by t b (is next terminals.OpenParenthesis)) f ∙ not_true _ (by_every is_word (λ t. not (local_by t false (is next terminals.OpenParenthesis))) refl t c))
    (not_true _ (by_every is_word (λ t. not (is_basic t && is next terminals.CloseParenthesis)) refl t c))

prefix_opens : (t : Terminal) (from : List Numbered) → peek from ≡ t → is_prefix t ≡ true → Opens from
prefix_opens t from e c =
    let next = peek (rest_of from) in
    opens_with t next from e refl
    (by_every is_prefix begins_expression refl t c)
    (not_true _ (by_every is_prefix (λ t. not (local_by t (is next terminals.Name) (is next terminals.OpenParenthesis))) refl t c))
    (not_true _ (by_every is_prefix (λ t. not (is_basic t && is next terminals.CloseParenthesis)) refl t c))

parenthesis_opens : (from : List Numbered) → peek from ≡ terminals.OpenParenthesis → Opens from
parenthesis_opens from e = opens_with terminals.OpenParenthesis (peek (rest_of from)) from e refl refl refl refl

call_opens : (from : List Numbered) → peek from ≡ terminals.Name → peek (rest_of from) ≡ terminals.OpenParenthesis → Opens from
call_opens from e f = opens_with terminals.Name terminals.OpenParenthesis from e f refl refl refl

constructor_opens : (t : Terminal) (from : List Numbered) → peek from ≡ t → is_basic t ≡ true → peek (rest_of from) ≡ terminals.OpenParenthesis → Opens from
constructor_opens t from e c f =
    opens_with t terminals.OpenParenthesis from e f
    (by_every is_basic begins_expression refl t c)
    (not_true _ (by_every is_basic (λ t. not (local_by t false true)) refl t c))
    (not_true _ (by_every is_basic (λ t. not (is_basic t && false)) refl t c))

-- no other tree is an expression
abbrev pub is_other : Tree → Bool
is_other tree = nat_le (number_of tree) 26 || nat_le 43 (number_of tree)

pub not_expression : {A : Type 0} (tree : Tree) (asked : ℕ) (from to : List Numbered) → n_expr ≤ asked → asked ≤ n_primary → is_other tree ≡ true → Spells asked tree from to → A
not_expression tree asked from to l u other h =
    let n = number_is tree asked from to h in
    let last : last_for asked ≡ 42 = last_of_expression asked l u in
    absurd (⊎_elim
    (λ low. let below = leb-true (number_of tree) 26 low in omega arith)
    (λ high. let above = leb-true 43 (number_of tree) high in omega arith)
    (or_cases (nat_le (number_of tree) 26) (nat_le 43 (number_of tree)) other))

pub opens : (tree : Tree) (asked : ℕ) (from to : List Numbered) → n_expr ≤ asked → asked ≤ n_primary → Spells asked tree from to → is (peek to) terminals.Name ≡ false → Opens from
opens (an_expr at left mark right) asked from to l u (a, b, (e, (m, hl, (n, hm, hr)))) no_name =
    opens left n_choice from m (omega arith) (omega arith) hl (class_no_name is_assign refl hm)
opens (a_choice at condition consequent alternative) asked from to l u (a, b, (e, (m, hl, (n, hm, hr)))) no_name =
    opens condition n_or from m (omega arith) (omega arith) hl (ap (λ x. is x terminals.Name) (peek_mark hm))
opens (a_binary production at left mark right) asked from to l u (low, high, (a, b, (e, (m, hl, (n, hm, hr))))) no_name =
    opens left production from m (omega arith) (omega arith) hl (operator_no_name low hm)
opens (a_unary at absent operand) asked from to l u (a, b, (m, (t, c, e), h)) no_name = prefix_opens t from (ap peek e) c
opens (a_unary at (present basic) operand) asked from to l u (a, b, (m, e, h)) no_name = parenthesis_opens from (ap peek e)
opens (a_postfix at operand mark (Some name) absent) asked from to l u (a, b, (e, (m, hl, (n, hm, hr)))) no_name =
    opens operand n_postfix from m (omega arith) (omega arith) hl (ap (λ x. is x terminals.Name) (ap peek hm))
opens (a_postfix at operand mark (Some name) (present arguments)) asked from to l u (a, b, (e, (m, hl, (n, hm, hr)))) no_name =
    opens operand n_postfix from m (omega arith) (omega arith) hl (ap (λ x. is x terminals.Name) (ap peek hm))
opens (a_postfix at operand mark None (present index)) asked from to l u (a, b, (e, (m, hl, (n, hm, hr)))) no_name =
    opens operand n_postfix from m (omega arith) (omega arith) hl (ap (λ x. is x terminals.Name) (ap peek hm))
opens (a_postfix at operand mark None absent) asked from to l u (a, b, (e, (m, hl, hm))) no_name =
    opens operand n_postfix from m (omega arith) (omega arith) hl (class_no_name is_step refl hm)
opens (a_primary at absent absent) asked from to l u (a, b, (t, c, e)) no_name =
    word_opens t from (ap peek e) c (ap (λ ts. is (peek ts) terminals.Name) (ap rest_of e) ∙ no_name)
opens (a_primary at absent (present arguments)) asked from to l u (a, b, (m, e, h)) no_name =
    call_opens from (ap peek e) (ap peek (ap rest_of e) ∙ args_open arguments m to h)
opens (a_primary at (present basic) (present arguments)) asked from to l u (a, b, (e, (m, hb, ha))) no_name =
    let token = basic_token basic from m hb in
    let word = token.2 in
    constructor_opens word.0 from (ap peek word.2) word.1 (ap peek (ap rest_of word.2) ∙ args_open arguments m to ha)
opens (a_primary at (present inner) absent) asked from to l u (a, b, (m, e, h)) no_name = parenthesis_opens from (ap peek e)
opens tree asked from to l u h no_name = not_expression tree asked from to l u refl h
