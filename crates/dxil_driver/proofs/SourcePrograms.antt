-- The program of a text, and why it has none, from what the layers answer.
use mathlib.Core.Logic.{inl, inr}
use Rattle.std.proofs.Common.{◌≡◌, sym, subst, ℕ, ◌≤◌, List, length, arith}
use Rattle.std.specs.Prelude.{◌⊎◌, IfOk, IfErr, Result, Ok, Err}
use Rattle.base_core.specs.declared.place.Place.{Place}
use Rattle.hl_lexer.specs.declared.fault.LexFault.{LexFault}
use Rattle.hl_lexer.specs.declared.fault.LexFault.TheVariants.{BadByte, NumberTooLarge, TooManyTokens, Memory as NoRoomForTokens}
use Rattle.hl_lexer.specs.declared.token.Tokens.{Tokens}
use Rattle.hl_lexer.specs.Tokens.{GivesTokens, IsFirstFault, IsTokenList, Lexeme, lexemes_of, most_tokens}
use Rattle.hl_meaning.specs.Held.{plain_program}
use Rattle.hl_meaning.specs.Programs as plain
use Rattle.hl_meaning.specs.declared.program.Program.{Program}
use Rattle.dxil_driver.specs.Compiled.{most_source}
use Rattle.dxil_driver.specs.CompileFaults.{GivesProgram, HasProgram, HasProgramFault, HasTokensFault, HaveFault, HaveProgramFault, SpellProgram, of_tokens}
use Rattle.dxil_driver.specs.SourceText.{HasTokens}
use Rattle.dxil_driver.specs.declared.compiler.CompileFault.{CompileFault}
use Rattle.dxil_driver.specs.declared.compiler.CompileFault.TheVariants.{TooLong, Lex, Parse, Rule, Unbuilt, Memory}
use Rattle.dxil_driver.proofs.Compiling.{lex_every, no_list}

-- ---- texts without tokens

module _ (text entry : List ℕ) (within : length text ≤ most_source) (fault : LexFault)
    (every : (tokens : List Lexeme) (end : Place) → IsTokenList text tokens end → length tokens ≤ most_tokens → GivesTokens (Err fault) tokens end) where
  pub lex_every_program : (r : Result Program CompileFault) → r ≡ Err (of_tokens fault) → (program : plain.Program) → HasProgram text entry program → GivesProgram r program
  lex_every_program r is program h = subst (λ (answer : Result Program CompileFault). GivesProgram answer program) (sym is) (memory fault (every h.tokens h.end h.lexed.list h.lexed.few)) where
    memory : (f : LexFault) → GivesTokens (Err f) h.tokens h.end → GivesProgram (Err (of_tokens f)) program
    memory (BadByte place) g = absurd g
    memory (NumberTooLarge place) g = absurd g
    memory TooManyTokens g = absurd g
    memory NoRoomForTokens g = tt

  pub lex_every_program_fault : ((other : LexFault) → IsFirstFault text other → (no_list fault ≡ no_list other) ⊎ (no_list fault ≡ no_list NoRoomForTokens))
      → (answer : CompileFault) → HasProgramFault text entry answer → (of_tokens fault ≡ answer) ⊎ (of_tokens fault ≡ Memory)
  lex_every_program_fault faults TooLong h = lex_every text entry within fault every faults TooLong h
  lex_every_program_fault faults (Lex other) h = lex_every text entry within fault every faults (Lex other) h
  lex_every_program_fault faults (Parse other place) h = lex_every text entry within fault every faults (Parse other place) h
  lex_every_program_fault faults (Rule other place) h = lex_every text entry within fault every faults (Rule other place) h
  lex_every_program_fault faults Unbuilt h = absurd h
  lex_every_program_fault faults Memory h = absurd h

-- ---- texts with tokens

module _ (text entry : List ℕ) (within : length text ≤ most_source) (found : Tokens) (tokens-are : IsTokenList text (lexemes_of found) found.end) (few : length (lexemes_of found) ≤ most_tokens)
    (every : (tokens : List Lexeme) (end : Place) → IsTokenList text tokens end → length tokens ≤ most_tokens → GivesTokens (Ok found) tokens end) where
  lexed : HasTokens text (lexemes_of found) found.end
  lexed = record { list = tokens-are; few = few }

  pub lexed_program : (r : Result Program CompileFault) → IfOk r (λ program. SpellProgram (lexemes_of found) entry (plain_program program))
      → IfOk r (λ program. HasProgram text entry (plain_program program))
  lexed_program (Ok program) h = record { tokens = lexemes_of found; end = found.end; lexed = lexed; spelled = h }
  lexed_program (Err fault) h = tt

  pub spelled_program : (program : plain.Program) → HasProgram text entry program → SpellProgram (lexemes_of found) entry program
  spelled_program program h =
      subst (λ (tokens : List Lexeme). SpellProgram tokens entry program) (sym (every h.tokens h.end h.lexed.list h.lexed.few).0) h.spelled

  pub lexed_program_fault : (r : Result Program CompileFault) → IfErr r (λ fault. (fault ≡ Memory) ⊎ HaveProgramFault (lexemes_of found) found.end entry fault)
      → IfErr r (λ fault. (fault ≡ Memory) ⊎ HasProgramFault text entry fault)
  lexed_program_fault (Ok program) h = tt
  lexed_program_fault (Err fault) (inl memory) = inl memory
  lexed_program_fault (Err TooLong) (inr h) = absurd h
  lexed_program_fault (Err (Lex fault)) (inr h) = absurd h
  lexed_program_fault (Err (Parse fault place)) (inr h) = inr (within, (lexemes_of found, (found.end, lexed, h)))
  lexed_program_fault (Err (Rule fault place)) (inr h) = inr (within, (lexemes_of found, (found.end, lexed, h)))
  lexed_program_fault (Err Unbuilt) (inr h) = absurd h
  lexed_program_fault (Err Memory) (inr h) = absurd h

  same_fault : (fault : CompileFault) → HasTokensFault text entry fault → HaveFault (lexemes_of found) found.end entry fault
  same_fault fault (tokens, (end, has, h)) =
      let same = every tokens end has.list has.few in
      subst (λ (at : Place). HaveFault (lexemes_of found) at entry fault) (sym same.1) (subst (λ (ts : List Lexeme). HaveFault ts end entry fault) (sym same.0) h)

  pub lexed_every_program_fault : {R : CompileFault → Type 0} → ((fault : LexFault) → IsFirstFault text fault → ⊥)
      → ((fault : CompileFault) → HaveProgramFault (lexemes_of found) found.end entry fault → R fault)
      → (fault : CompileFault) → HasProgramFault text entry fault → R fault
  lexed_every_program_fault faults given TooLong long = absurd (omega (arith, long, within))
  lexed_every_program_fault faults given (Lex fault) (less, first) = absurd (faults fault first)
  lexed_every_program_fault faults given (Parse fault place) (less, h) = given (Parse fault place) (same_fault (Parse fault place) h)
  lexed_every_program_fault faults given (Rule fault place) (less, h) = given (Rule fault place) (same_fault (Rule fault place) h)
  lexed_every_program_fault faults given Unbuilt h = absurd h
  lexed_every_program_fault faults given Memory h = absurd h
