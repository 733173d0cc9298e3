-- The tokens of a text: numbers are words of 32 bits, and names have letters.
use Rattle.std.proofs.Common.{◌≡◌, ◌∙◌, refl, sym, ap, subst, arith, ℕ, zero, suc, ◌≤◌, Bool, true, false, List, [], ◌∷◌, ◌++◌, length, get_or}
use Rattle.std.specs.List.{list_all}
use Rattle.base_core.specs.declared.place.Place.{Place}
use Rattle.hl_lexer.specs.declared.terminal.Terminal.{Terminal}
use Rattle.hl_lexer.specs.declared.terminal.Terminal.TheVariants as terminals
use Rattle.hl_lexer.specs.declared.token.TokenKind.{TokenKind}
use Rattle.hl_lexer.specs.declared.token.TokenKind.TheVariants as kinds
use Rattle.hl_lexer.specs.Numbers.{greatest_number}
use Rattle.hl_lexer.specs.Terminals.{mark_terminals, terminal_of, word_terminals}
use Rattle.hl_lexer.specs.Tokens.{HasRoom, IsCut, IsForm, IsTokenList, Lexeme, Piece, a_space, a_token, bytes_of, lexemes, order_mark}
use Rattle.hl_rules.specs.Source.{number_at, number_of, terminal_at, text_at}
use Rattle.hl_rules.proofs.TypeLemmas.{and-left, and-right}
use Rattle.hl_rules.proofs.Fitting.{AreTokens}

-- ---- kinds

abbrev pub is_no_name : Terminal → Bool
is_no_name terminals.Name = false
is_no_name _ = true

each-passes : (p : Terminal → Bool) (xs : List Terminal) (n : ℕ) (d : Terminal) → list_all p xs ≡ true → p d ≡ true → p (get_or xs n d) ≡ true
each-passes p [] n d e h = h
each-passes p (x ∷ xs) zero d e h = and-left (p x) (list_all p xs) e
each-passes p (x ∷ xs) (suc n) d e h = each-passes p xs n d (and-right (p x) (list_all p xs) e) h

-- a token that is a name for the grammar has letters
name-letters : (kind : TokenKind) (bytes after : List ℕ) → IsForm kind bytes after → terminal_of kind ≡ terminals.Name → 1 ≤ length bytes
name-letters kinds.Name [] after form e = absurd form
name-letters kinds.Name (b ∷ bytes) after form e = omega arith
name-letters (kinds.Number value unsigned) bytes after form e = absurd (cc (ap (λ t. is_no_name t) e))
name-letters (kinds.Word number) bytes after form e = absurd (cc (sym (each-passes is_no_name word_terminals number terminals.Unlisted refl refl) ∙ ap (λ t. is_no_name t) e))
name-letters (kinds.Mark number) bytes after form e = absurd (cc (sym (each-passes is_no_name mark_terminals number terminals.Unlisted refl refl) ∙ ap (λ t. is_no_name t) e))

number-room : (kind : TokenKind) → HasRoom kind → number_of kind ≤ greatest_number
number-room kinds.Name room = omega arith
number-room (kinds.Number value unsigned) room = room
number-room (kinds.Word number) room = omega arith
number-room (kinds.Mark number) room = omega arith

-- ---- tokens

pub record IsLexeme (token : Lexeme) : Type 0 where
  pub number : number_of token.kind ≤ greatest_number
  pub name : terminal_of token.kind ≡ terminals.Name → 1 ≤ length token.text

abbrev pub AreLexemes : List Lexeme → Type 0
AreLexemes [] = Unit {0}
AreLexemes (token ∷ tokens) = IsLexeme token × AreLexemes tokens

cut-lexemes : (before : List ℕ) (pieces : List Piece) (text rest : List ℕ) → IsCut before pieces text rest → AreLexemes (lexemes before pieces)
cut-lexemes before [] text rest cut = tt
cut-lexemes before (order_mark ∷ pieces) text rest cut = cut-lexemes (before ++ bytes_of order_mark) pieces cut.0 rest cut.4
cut-lexemes before (a_space bytes ∷ pieces) text rest cut = cut-lexemes (before ++ bytes) pieces cut.0 rest cut.4
cut-lexemes before (a_token kind bytes ∷ pieces) text rest cut = (
  record { number = number-room kind cut.3; name = λ e. name-letters kind bytes cut.0 cut.2.form e },
  cut-lexemes (before ++ bytes) pieces cut.0 rest cut.4,
)

numbers-fit : (tokens : List Lexeme) → AreLexemes tokens → (index : ℕ) → number_at tokens index ≤ greatest_number
numbers-fit [] are index = omega arith
numbers-fit (token ∷ tokens) are zero = are.0.number
numbers-fit (token ∷ tokens) are (suc index) = numbers-fit tokens are.1 index

names-have : (tokens : List Lexeme) → AreLexemes tokens → (index : ℕ) → terminal_at tokens index ≡ terminals.Name → 1 ≤ length (text_at tokens index)
names-have [] are index e = absurd (cc (ap (λ t. is_no_name t) e))
names-have (token ∷ tokens) are zero e = are.0.name e
names-have (token ∷ tokens) are (suc index) e = names-have tokens are.1 index e

-- the tokens of a text
pub tokens-known : (text : List ℕ) (tokens : List Lexeme) (end : Place) → IsTokenList text tokens end → AreTokens tokens
tokens-known text tokens end list = record { numbers = numbers-fit tokens are; names = names-have tokens are }
  where
    are : AreLexemes tokens
    are = subst (λ l. AreLexemes l) (sym list.tokens-are) (cut-lexemes [] list.pieces text [] list.cut)
