-- Words of the functions that read a text piece by piece.
use Rattle.std.specs.Prelude.{◌≡◌, ℕ, ◌+◌, ◌^◌, ◌<◌, ◌≤◌, ◌⊎◌, if◌then◌else◌, List, [], ◌∷◌, ◌++◌, length, map, take, drop}
use Rattle.base_core.specs.declared.place.Place.{Place}
use Rattle.hl_lexer.specs.declared.reader.Reader.{Reader}
use Rattle.hl_lexer.specs.Bytes.{is_line_feed}
use Rattle.hl_lexer.specs.Tokens.{IsCut, Piece, bytes_of, lexeme_of, lexemes, most_tokens, order_mark, place_after}

-- the place behind a byte, and behind some bytes
abbrev pub next_place : Place → ℕ → Place
next_place place b =
    if is_line_feed b then record { line = place.line + 1; column = 1 }
    else record { line = place.line; column = place.column + 1 }

abbrev pub place_past : Place → List ℕ → Place
place_past place [] = place
place_past place (b ∷ bs) = place_past (next_place place b) bs

-- the length of the byte-order mark at the start of a text
abbrev pub OrderMarkIs : List ℕ → ℕ → Type 0
OrderMarkIs text n =
    ((n ≡ 3) × (text ≡ bytes_of order_mark ++ drop 3 text))
    ⊎ ((n ≡ 0) × ((after : List ℕ) → text ≡ bytes_of order_mark ++ after → ⊥))

-- the reader has read a front of its text, and has the tokens of that front
pub record HasRead (reader : Reader) : Type 0 where
  pub short : length reader.text.now < 2 ^ 31
  pub within : reader.start ≤ length reader.text.now
  pub pieces : List Piece
  pub cut : IsCut [] pieces reader.text.now (drop reader.start reader.text.now)
  pub place-is : reader.place ≡ place_after (take reader.start reader.text.now)
  pub tokens-are : map lexeme_of reader.tokens ≡ lexemes [] pieces
  pub limit : length reader.tokens ≤ most_tokens
  pub no_order_mark : reader.start ≡ 0 → (after : List ℕ) → reader.text.now ≡ bytes_of order_mark ++ after → ⊥
