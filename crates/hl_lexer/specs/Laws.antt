-- What holds of the tokens of every text.
use Rattle.std.specs.Prelude.{◌≡◌, ◌≢◌, ℕ, ◌≤◌, List, length}
use Rattle.base_core.specs.declared.place.Place.{Place}
use Rattle.hl_lexer.specs.declared.fault.LexFault.{LexFault}
use Rattle.hl_lexer.specs.declared.terminal.Terminal.TheVariants.{Unlisted}
use Rattle.hl_lexer.specs.declared.token.TokenKind.{TokenKind}
use Rattle.hl_lexer.specs.Terminals.{terminal_of}
use Rattle.hl_lexer.specs.Tokens.{IsFirstFault, IsForm, IsTokenList, Lexeme, most_tokens}

-- a text has at most one list of tokens
abbrev pub AtMostOneTokenList : Type 0
AtMostOneTokenList =
    (text : List ℕ) (tokens others : List Lexeme) (end other_end : Place)
    → IsTokenList text tokens end
    → IsTokenList text others other_end
    → (tokens ≡ others) × (end ≡ other_end)

-- a text with a fault has no list of tokens, or one that is too long
abbrev pub FaultHasNoTokenList : Type 0
FaultHasNoTokenList =
    (text : List ℕ) (tokens : List Lexeme) (end : Place) (fault : LexFault)
    → IsFirstFault text fault
    → IsTokenList text tokens end
    → length tokens ≤ most_tokens
    → ⊥

-- a text has at most one first fault
abbrev pub AtMostOneFault : Type 0
AtMostOneFault =
    (text : List ℕ) (fault other : LexFault)
    → IsFirstFault text fault
    → IsFirstFault text other
    → fault ≡ other

-- each form of a token has a terminal of its own
abbrev pub FormsAreListed : Type 0
FormsAreListed = (kind : TokenKind) (bytes after : List ℕ) → IsForm kind bytes after → terminal_of kind ≢ Unlisted
