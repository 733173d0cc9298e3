-- An answer that is right wherever it says something is the only right one.
use Rattle.std.proofs.Common.{◌≡◌, ap, ℕ, ◌≤◌, ◌⊎◌, inl, inr, List, Result, Ok, Err, IfOk, IfErr, length}
use Rattle.base_core.specs.declared.place.Place.{Place}
use Rattle.hl_lexer.specs.declared.fault.LexFault.{LexFault}
use Rattle.hl_lexer.specs.declared.fault.LexFault.TheVariants.{BadByte, NumberTooLarge, TooManyTokens, Memory}
use Rattle.hl_lexer.specs.declared.token.Tokens.{Tokens}
use Rattle.hl_lexer.specs.Tokens.{GivesTokens, IsFirstFault, IsTokenList, Lexeme, lexemes_of, most_tokens}
use Rattle.hl_lexer.proofs.LawFacts.{at_most_one_fault, at_most_one_token_list, fault_has_no_token_list}

-- a fault that memory ran out, or that stands in the text
abbrev pub IsReported : List ℕ → LexFault → Type 0
IsReported text fault = (fault ≡ Memory) ⊎ IsFirstFault text fault

no_list : (text : List ℕ) (tokens : List Lexeme) (end : Place) (fault : LexFault) → IsTokenList text tokens end → length tokens ≤ most_tokens → IsReported text fault → fault ≡ Memory
no_list text tokens end fault list few (inl memory) = memory
no_list text tokens end fault list few (inr first) = absurd (fault_has_no_token_list text tokens end fault first list few)

pub gives_tokens : (text : List ℕ) (answer : Result Tokens LexFault) (tokens : List Lexeme) (end : Place) →
    IfOk answer (λ found. IsTokenList text (lexemes_of found) found.end) → IfErr answer (IsReported text) → IsTokenList text tokens end → length tokens ≤ most_tokens → GivesTokens answer tokens end
gives_tokens text (Ok found) tokens end ok err list few = at_most_one_token_list text (lexemes_of found) tokens found.end end ok list
gives_tokens text (Err Memory) tokens end ok err list few = tt
gives_tokens text (Err (BadByte place)) tokens end ok err list few = let memory = no_list text tokens end (BadByte place) list few err in cc
gives_tokens text (Err (NumberTooLarge place)) tokens end ok err list few = let memory = no_list text tokens end (NumberTooLarge place) list few err in cc
gives_tokens text (Err TooManyTokens) tokens end ok err list few = let memory = no_list text tokens end TooManyTokens list few err in cc

same_fault : (text : List ℕ) (fault other : LexFault) → IsFirstFault text fault → IsReported text other → (other ≡ fault) ⊎ (other ≡ Memory)
same_fault text fault other first (inl memory) = inr memory
same_fault text fault other first (inr here) = inl (at_most_one_fault text other fault here first)

answered : (fault other : LexFault) → (other ≡ fault) ⊎ (other ≡ Memory) → (◌≡◌ {A = Result Tokens LexFault} (Err other) (Err fault)) ⊎ (◌≡◌ {A = Result Tokens LexFault} (Err other) (Err Memory))
answered fault other (inl e) = inl (ap Err e)
answered fault other (inr e) = inr (ap Err e)

pub gives_fault : (text : List ℕ) (answer : Result Tokens LexFault) (fault : LexFault) →
    IfOk answer (λ found. IsTokenList text (lexemes_of found) found.end) → IfOk answer (λ found. length (lexemes_of found) ≤ most_tokens) → IfErr answer (IsReported text) → IsFirstFault text fault → (answer ≡ Err fault) ⊎ (answer ≡ Err Memory)
gives_fault text (Ok found) fault ok limit err first = absurd (fault_has_no_token_list text (lexemes_of found) found.end fault first ok limit)
gives_fault text (Err other) fault ok limit err first = answered fault other (same_fault text fault other first err)
