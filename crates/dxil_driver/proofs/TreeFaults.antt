-- The tree of tokens, or their fault with its place, from what the parser answers.
use Rattle.std.proofs.Common.{◌≡◌, ◌∙◌, refl, sym, ap, ℕ, List, [], ◌∷◌, map, slice_get}
use Rattle.std.specs.Prelude.{None, Some, Option, Result, Err, unwrap_or}
use Rattle.std.specs.Option.{option_map}
use Rattle.std.proofs.lemmas.Option.{slice_get-map}
use Rattle.base_core.specs.declared.place.Place.{Place}
use Rattle.hl_lexer.specs.declared.token.Token.{Token}
use Rattle.hl_lexer.specs.Terminals.{terminal_of}
use Rattle.hl_lexer.specs.Tokens.{Lexeme, lexeme_of}
use Rattle.hl_parser.specs.Grammar.{IsSyntaxFault, SpellsProgram}
use Rattle.hl_parser.specs.Parsing.{GivesFault, IsAnswer, SpellsTooDeep}
use Rattle.hl_parser.specs.Parsing as parser
use Rattle.hl_parser.specs.Trees as plain
use Rattle.hl_parser.specs.declared.fault.ParseFault.{ParseFault}
use Rattle.hl_parser.specs.declared.fault.ParseFault.TheVariants.{Syntax, TooDeep, Memory as NoRoomForTree}
use Rattle.hl_parser.specs.declared.tree.Tree.{Tree}
use Rattle.hl_rules.specs.Source.{terminals_of}
use Rattle.dxil_driver.specs.CompileFaults.{HasTreeFault}
use Rattle.dxil_driver.specs.SourceText.{IsBrokenAt, SpellTooDeep, SpellTree, place_at, start}
use Rattle.dxil_driver.specs.declared.compiler.CompileFault.TheVariants.{Parse}

-- tokens are the same for the grammar, wherever their texts lie
same_terminals : (tokens : List Token) → terminals_of (map lexeme_of tokens) ≡ parser.terminals_of tokens
same_terminals [] = refl
same_terminals (token ∷ tokens) = ap (λ rest. terminal_of token.kind ∷ rest) (same_terminals tokens)

module _ (tokens : List Token) where
  pub tree_is : (tree : plain.Tree) → IsAnswer (parser.terminals_of tokens) tree → SpellTree (map lexeme_of tokens) tree
  tree_is tree h = record { spelled = rw same_terminals h.spelled; shallow = h.shallow }

  pub is_spelled : (tree : plain.Tree) → SpellTree (map lexeme_of tokens) tree → SpellsProgram (parser.terminals_of tokens) tree
  is_spelled tree h = rw same_terminals at h.spelled

  pub is_broken : (end : Place) (at : ℕ) (place : Place) → IsSyntaxFault (parser.terminals_of tokens) at → place ≡ place_at (map lexeme_of tokens) end at → IsBrokenAt (map lexeme_of tokens) end at place
  is_broken end at place fault there = record { fault = rw same_terminals fault; place-is = there }

  pub is_deep : SpellsTooDeep (parser.terminals_of tokens) → SpellTooDeep (map lexeme_of tokens) × (start ≡ start)
  is_deep h = ((h.0, rw same_terminals h.1, h.2), refl)

  -- a fault of the tokens is one that the parser gives
  module _ (end : Place) (r : Result Tree ParseFault)
      (syntax : (at : ℕ) → IsSyntaxFault (parser.terminals_of tokens) at → GivesFault r (Syntax at))
      (deep : SpellsTooDeep (parser.terminals_of tokens) → GivesFault r TooDeep) where
    pub gives : (fault : ParseFault) (place : Place) → HasTreeFault (map lexeme_of tokens) end fault place → GivesFault r fault
    gives (Syntax at) place h = syntax at (rw same_terminals at h.fault)
    gives TooDeep place (h, e) = deep (h.0, rw same_terminals at h.1, h.2)
    gives NoRoomForTree place h = absurd h

-- ---- places

pub place_there : (tokens : List Token) (end : Place) (at : ℕ) (token : Token) → Some token ≡ slice_get tokens at → token.place ≡ place_at (map lexeme_of tokens) end at
place_there tokens end at token e =
    sym (ap (λ (found : Option Lexeme). unwrap_or (option_map (λ (t : Lexeme). t.place) found) end) (slice_get-map lexeme_of tokens at ∙ ap (option_map lexeme_of) (sym e)))

pub place_end : (tokens : List Token) (end : Place) (at : ℕ) → None ≡ slice_get tokens at → end ≡ place_at (map lexeme_of tokens) end at
place_end tokens end at e =
    sym (ap (λ (found : Option Lexeme). unwrap_or (option_map (λ (t : Lexeme). t.place) found) end) (slice_get-map lexeme_of tokens at ∙ ap (option_map lexeme_of) (sym e)))

-- ---- answers

module _ (tokens : List Token) (end : Place) where
  pub syntax_named : (at : ℕ) (place : Place) → place ≡ place_at (map lexeme_of tokens) end at
      → ((fault : ParseFault) (other : Place) → HasTreeFault (map lexeme_of tokens) end fault other → GivesFault (Err (Syntax at)) fault)
      → (fault : ParseFault) (other : Place) → HasTreeFault (map lexeme_of tokens) end fault other
      → Parse (Syntax at) place ≡ Parse fault other
  syntax_named at place is gives (Syntax at') other h =
      let same : at ≡ at' = same_index (gives (Syntax at') other h) in
      let there : place ≡ other = is ∙ (ap (λ (n : ℕ). place_at (map lexeme_of tokens) end n) same ∙ sym h.place-is) in
      ap (λ (n : ℕ). Parse (Syntax n) place) same ∙ ap (λ (p : Place). Parse (Syntax at') p) there
    where
      same_index : Syntax at ≡ Syntax at' → at ≡ at'
      same_index e = cc
  syntax_named at place is gives TooDeep other h = absurd (differ (gives TooDeep other h)) where
    differ : Syntax at ≡ TooDeep → ⊥
    differ e = cc
  syntax_named at place is gives NoRoomForTree other h = absurd h

  pub depth_named : ((fault : ParseFault) (other : Place) → HasTreeFault (map lexeme_of tokens) end fault other → GivesFault (Err TooDeep) fault)
      → (fault : ParseFault) (other : Place) → HasTreeFault (map lexeme_of tokens) end fault other
      → Parse TooDeep start ≡ Parse fault other
  depth_named gives (Syntax at) other h = absurd (differ (gives (Syntax at) other h)) where
    differ : TooDeep ≡ Syntax at → ⊥
    differ e = cc
  depth_named gives TooDeep other h = ap (λ (p : Place). Parse TooDeep p) (sym h.1)
  depth_named gives NoRoomForTree other h = absurd h
