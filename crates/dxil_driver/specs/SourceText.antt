-- The tokens of a source text, the tree that they spell, and the faults that a text has in place of these.
use Rattle.std.specs.Prelude.{◌≡◌, ℕ, ◌<◌, ◌≤◌, List, length, slice_get, option_map, unwrap_or}
use Rattle.base_core.specs.declared.place.Place.{Place}
use Rattle.hl_lexer.specs.Tokens.{IsTokenList, Lexeme, most_tokens}
use Rattle.hl_parser.specs.Grammar.{IsSyntaxFault, SpellsProgram}
use Rattle.hl_parser.specs.Parsing.{most_depth}
use Rattle.hl_parser.specs.Trees.{Tree, depth}
use Rattle.hl_rules.specs.Source.{terminals_of}

-- the text has these tokens, no more than are read, and ends at this place
pub record HasTokens (text : List ℕ) (tokens : List Lexeme) (end : Place) : Type 0 where
  pub list : IsTokenList text tokens end
  pub few : length tokens ≤ most_tokens

-- tokens spell this tree, and it isn't too deep
pub record SpellTree (tokens : List Lexeme) (tree : Tree) : Type 0 where
  pub spelled : SpellsProgram (terminals_of tokens) tree
  pub shallow : depth tree ≤ most_depth

-- the text has these tokens, and they spell this tree
pub record HasTree (text : List ℕ) (tokens : List Lexeme) (tree : Tree) : Type 0 where
  pub end : Place
  pub lexed : HasTokens text tokens end
  pub tree-is : SpellTree tokens tree

-- the place of the token of an index, or of the end where there is none
abbrev pub place_at : List Lexeme → (end : Place) → ℕ → Place
place_at tokens end at = unwrap_or (option_map (λ token. token.place) (slice_get tokens at)) end

-- tokens spell no program, from an index on that has this place
pub record IsBrokenAt (tokens : List Lexeme) (end : Place) (at : ℕ) (place : Place) : Type 0 where
  pub fault : IsSyntaxFault (terminals_of tokens) at
  pub place-is : place ≡ place_at tokens end at

-- tokens spell a tree that is too deep
abbrev pub SpellTooDeep : List Lexeme → Type 0
SpellTooDeep tokens = (tree : Tree) × SpellsProgram (terminals_of tokens) tree × (most_depth < depth tree)

-- where every text begins
abbrev pub start : Place
start = record { line = 1; column = 1 }

-- the text has tokens that spell no program, from a token on that stands at this place
abbrev pub HasSyntaxFault : List ℕ → Place → Type 0
HasSyntaxFault text place =
    (tokens : List Lexeme) × ((end : Place) × HasTokens text tokens end × ((at : ℕ) × IsBrokenAt tokens end at place))

-- the text has tokens that spell a tree that is too deep
abbrev pub IsTooDeep : List ℕ → Type 0
IsTooDeep text = (tokens : List Lexeme) × ((end : Place) × HasTokens text tokens end × SpellTooDeep tokens)
