-- The marks of operators, by what they are for the grammar.
use Rattle.std.proofs.Common.{◌≡◌, refl, subst, arith, ℕ, zero, suc, ◌+◌, ◌≤◌, Bool, true, false, ◌&&◌, ◌||◌, if◌then◌else◌, nat_le, List, [], ◌∷◌, Option, None, Some, zero-add}
use Rattle.std.specs.Prelude.{◌==◌, option_map, slice_get, slice_index_or, unwrap_or}
use Rattle.hl_lexer.specs.declared.terminal.Terminal.{Terminal}
use Rattle.hl_lexer.specs.declared.terminal.Terminal.TheVariants as terminals
use Rattle.hl_lexer.specs.declared.token.TokenKind.{TokenKind}
use Rattle.hl_lexer.specs.declared.token.TokenKind.TheVariants as kinds
use Rattle.hl_lexer.specs.Terminals.{mark_terminals, terminal_of, word_terminals}
use Rattle.hl_lexer.specs.Tokens.{Lexeme}
use Rattle.hl_parser.specs.Grammar.{operator_of}
use Rattle.hl_meaning.specs.Operators.{comparing, computing, is_among, joining, negating, signing}
use Rattle.hl_rules.specs.Source.{mark_at, mark_of, terminal_at}
use Rattle.hl_rules.proofs.TypeLemmas.{and-left, and-right}

-- whether an operator between two operands is one of a production's
abbrev pub is_operator_of : (production op : ℕ) → Bool
is_operator_of production op =
    if nat_le production 31 then is_among joining op else (
    if production == 35 || production == 36 then is_among comparing op else is_among computing op)

-- whether a mark before an operand is the operator of its number
abbrev pub is_sign : Terminal → ℕ → Bool
is_sign terminals.Plus op = is_among signing op
is_sign terminals.Minus op = is_among signing op
is_sign terminals.Tilde op = is_among signing op
is_sign terminals.Exclamation op = is_among negating op
is_sign _ op = true

-- a test of what a mark is and its number
abbrev is_right : Terminal → ℕ → Bool
is_right terminal op = (operator_of terminal == 0 || is_operator_of (operator_of terminal) op) && is_sign terminal op

-- a test holds of each terminal, with its place from a first one on
abbrev each_right : (Terminal → ℕ → Bool) → ℕ → List Terminal → Bool
each_right test place [] = true
each_right test place (terminal ∷ more) = test terminal place && each_right test (suc place) more

right-at : (test : Terminal → ℕ → Bool) → ((place : ℕ) → test terminals.Unlisted place ≡ true) → (place : ℕ) (ts : List Terminal) (index : ℕ) → each_right test place ts ≡ true → test (slice_index_or ts index terminals.Unlisted) (place + index) ≡ true
right-at test other place [] index e = other (place + index)
right-at test other place (terminal ∷ more) zero e =
    subst (λ n. test terminal n ≡ true) (omega arith) (and-left (test terminal place) (each_right test (suc place) more) e)
right-at test other place (terminal ∷ more) (suc index) e =
    subst (λ n. test (slice_index_or more index terminals.Unlisted) n ≡ true) (omega arith)
    (right-at test other (suc place) more index (and-right (test terminal place) (each_right test (suc place) more) e))

right-of : (kind : TokenKind) → is_right (terminal_of kind) (mark_of kind) ≡ true
right-of kinds.Name = refl
right-of (kinds.Number value unsigned) = refl
right-of (kinds.Word number) = right-at (λ terminal place. is_right terminal 0) (λ place. refl) 0 word_terminals number refl
right-of (kinds.Mark number) =
    subst (λ n. is_right (slice_index_or mark_terminals number terminals.Unlisted) n ≡ true) (zero-add number)
    (right-at is_right (λ place. refl) 0 mark_terminals number refl)

right : (tokens : List Lexeme) (index : ℕ) → is_right (terminal_at tokens index) (mark_at tokens index) ≡ true
right tokens index = of (slice_get tokens index)
  where
    of : (token : Option Lexeme) → is_right (unwrap_or (option_map (λ token. terminal_of token.kind) token) terminals.Unlisted) (unwrap_or (option_map (λ token. mark_of token.kind) token) 0) ≡ true
    of None = refl
    of (Some token) = right-of token.kind

-- the mark between two operands is an operator of its production
pub operator-marked : (tokens : List Lexeme) (index production : ℕ) → 30 ≤ production → operator_of (terminal_at tokens index) ≡ production → is_operator_of production (mark_at tokens index) ≡ true
operator-marked tokens index production h e =
    behind production h
    (subst (λ p. p == 0 || is_operator_of p (mark_at tokens index) ≡ true) e
    (and-left (operator_of (terminal_at tokens index) == 0 || is_operator_of (operator_of (terminal_at tokens index)) (mark_at tokens index)) (is_sign (terminal_at tokens index) (mark_at tokens index)) (right tokens index)))
  where
    behind-test : (zeroed rest : Bool) → zeroed ≡ false → zeroed || rest ≡ true → rest ≡ true
    behind-test true rest h e = absurd (cc h)
    behind-test false rest h e = e

    behind : (p : ℕ) → 30 ≤ p → p == 0 || is_operator_of p (mark_at tokens index) ≡ true → is_operator_of p (mark_at tokens index) ≡ true
    behind p h e = behind-test (p == 0) (is_operator_of p (mark_at tokens index)) (grind arith) e

-- and one before an operand is its operator
pub sign-marked : (tokens : List Lexeme) (index : ℕ) → is_sign (terminal_at tokens index) (mark_at tokens index) ≡ true
sign-marked tokens index =
    and-right (operator_of (terminal_at tokens index) == 0 || is_operator_of (operator_of (terminal_at tokens index)) (mark_at tokens index)) (is_sign (terminal_at tokens index) (mark_at tokens index)) (right tokens index)
