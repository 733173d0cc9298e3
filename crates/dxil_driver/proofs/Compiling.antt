-- What a text is compiled to, and why it isn't, from what the layers answer.
use mathlib.Core.Logic.{inl, inr}
use Rattle.std.proofs.Common.{◌≡◌, ◌∙◌, refl, sym, ap, subst, ℕ, ◌≤◌, List, length, arith}
use Rattle.std.specs.Prelude.{◌⊎◌, IfOk, IfErr, None, Result, Ok, Err}
use Rattle.std.proofs.lemmas.Option.{none-some}
use Rattle.base_core.specs.declared.place.Place.{Place}
use Rattle.hl_lexer.specs.declared.fault.LexFault.{LexFault}
use Rattle.hl_lexer.specs.declared.fault.LexFault.TheVariants.{BadByte, NumberTooLarge, TooManyTokens, Memory as NoRoomForTokens}
use Rattle.hl_lexer.specs.declared.token.Tokens.{Tokens}
use Rattle.hl_lexer.specs.Tokens.{GivesTokens, IsFirstFault, IsTokenList, Lexeme, lexemes_of, most_tokens}
use Rattle.std.proofs.lemmas.Result.{IfErr-weaker}
use Rattle.std.specs.Result.{IsErrOf}
use Rattle.hl_meaning.specs.Programs as plain
use Rattle.hl_meaning.specs.declared.program.Program.{Program}
use Rattle.hl_rules.specs.Elaboration.{Elaborates}
use Rattle.dxil_driver.specs.Compiled.{Compiled, HasFirstForm, most_source}
use Rattle.dxil_driver.specs.CompileFaults.{GivesProgram, HasFault, HasTokensFault, HaveFault, HaveProgramFault, IsContainerOfProgram, IsContainerOfTokens, SpellForm, SpellOther, SpellProgram, of_tokens}
use Rattle.dxil_driver.specs.FirstForm.{form_of}
use Rattle.dxil_driver.specs.SourceText.{HasTokens, SpellTree}
use Rattle.dxil_driver.specs.declared.compiler.CompileFault.{CompileFault}
use Rattle.dxil_driver.specs.declared.compiler.CompileFault.TheVariants.{TooLong, Lex, Parse, Rule, Unbuilt, Memory}

-- ---- texts without tokens

-- the answer that is a fault
abbrev pub no_list : LexFault → Result Tokens LexFault
no_list fault = Err fault

-- a fault of tokens other than want of memory is one of the text
fault_of : (text : List ℕ) (fault : LexFault) → IsFirstFault text fault → of_tokens fault ≡ Lex fault
fault_of text (BadByte place) h = refl
fault_of text (NumberTooLarge place) h = refl
fault_of text TooManyTokens h = refl
fault_of text NoRoomForTokens h = absurd h.here

module _ (text entry : List ℕ) (within : length text ≤ most_source) (fault : LexFault) where
  no_tokens : ((tokens : List Lexeme) (end : Place) → IsTokenList text tokens end → length tokens ≤ most_tokens → GivesTokens (Err fault) tokens end)
      → (tokens : List Lexeme) (end : Place) → HasTokens text tokens end → of_tokens fault ≡ Memory
  no_tokens every tokens end h = memory fault (every tokens end h.list h.few) where
    memory : (f : LexFault) → GivesTokens (Err f) tokens end → of_tokens f ≡ Memory
    memory (BadByte place) g = absurd g
    memory (NumberTooLarge place) g = absurd g
    memory TooManyTokens g = absurd g
    memory NoRoomForTokens g = refl

  pub lex_complete : ((tokens : List Lexeme) (end : Place) → IsTokenList text tokens end → length tokens ≤ most_tokens → GivesTokens (Err fault) tokens end)
      → HasFirstForm text entry → of_tokens fault ≡ Memory
  unfolding HasFirstForm
  lex_complete every (form, is) = no_tokens every is.tokens is.has.end is.has.lexed

  pub lex_fault : (fault ≡ NoRoomForTokens) ⊎ IsFirstFault text fault → (of_tokens fault ≡ Memory) ⊎ HasFault text entry (of_tokens fault)
  lex_fault (inl memory) = inl (ap of_tokens memory)
  lex_fault (inr first) = inr (subst (HasFault text entry) (sym (fault_of text fault first)) (within, first))

  pub lex_every : ((tokens : List Lexeme) (end : Place) → IsTokenList text tokens end → length tokens ≤ most_tokens → GivesTokens (Err fault) tokens end)
      → ((other : LexFault) → IsFirstFault text other → (no_list fault ≡ no_list other) ⊎ (no_list fault ≡ no_list NoRoomForTokens))
      → (answer : CompileFault) → HasFault text entry answer → (of_tokens fault ≡ answer) ⊎ (of_tokens fault ≡ Memory)
  lex_every lists faults TooLong long = absurd (omega (arith, long, within))
  lex_every lists faults (Lex other) (less, first) = by_answer (faults other first) where
    same_err : (other : LexFault) → no_list fault ≡ no_list other → fault ≡ other
    same_err other e = cc

    by_answer : (no_list fault ≡ no_list other) ⊎ (no_list fault ≡ no_list NoRoomForTokens) → (of_tokens fault ≡ Lex other) ⊎ (of_tokens fault ≡ Memory)
    by_answer (inl e) = inl (ap of_tokens (same_err other e) ∙ fault_of text other first)
    by_answer (inr e) = inr (ap of_tokens (same_err NoRoomForTokens e))
  lex_every lists faults (Parse other place) (less, (tokens, (end, has, h))) = inr (no_tokens lists tokens end has)
  lex_every lists faults (Rule other place) (less, (tokens, (end, has, h))) = inr (no_tokens lists tokens end has)
  lex_every lists faults Unbuilt (less, (tokens, (end, has, h))) = inr (no_tokens lists tokens end has)
  lex_every lists faults Memory h = absurd h

-- ---- texts with tokens

module _ (text entry : List ℕ) (within : length text ≤ most_source) (found : Tokens) (tokens-are : IsTokenList text (lexemes_of found) found.end) (few : length (lexemes_of found) ≤ most_tokens)
    (every : (tokens : List Lexeme) (end : Place) → IsTokenList text tokens end → length tokens ≤ most_tokens → GivesTokens (Ok found) tokens end) where
  lexed : HasTokens text (lexemes_of found) found.end
  lexed = record { list = tokens-are; few = few }

  same_fault : (fault : CompileFault) → HasTokensFault text entry fault → HaveFault (lexemes_of found) found.end entry fault
  same_fault fault (tokens, (end, has, h)) =
      let same = every tokens end has.list has.few in
      subst (λ (at : Place). HaveFault (lexemes_of found) at entry fault) (sym same.1) (subst (λ (ts : List Lexeme). HaveFault ts end entry fault) (sym same.0) h)

  pub lexed_compiled : (r : Result (List ℕ) CompileFault) → IfOk r (IsContainerOfTokens (lexemes_of found) entry) → IfOk r (λ bytes. Compiled text entry bytes)
  unfolding Compiled
  lexed_compiled (Ok bytes) h = record {
    form = h.made.form;
    is_form = record {
      tokens = lexemes_of found;
      tree = h.spelled.tree;
      has = record { end = found.end; lexed = lexed; tree-is = h.spelled.tree-is };
      program = h.program;
      elaborated = h.spelled.elaborated;
      is_form = h.made.is_form;
    };
    kernel = h.made.kernel;
    container = h.made.container;
  }
  lexed_compiled (Err fault) h = tt

  pub lexed_form : HasFirstForm text entry → SpellForm (lexemes_of found) entry
  unfolding HasFirstForm
  lexed_form (form, is) =
      let same : is.tokens ≡ lexemes_of found = sym (every is.tokens is.has.end is.has.lexed.list is.has.lexed.few).0 in
      record {
        program = is.program;
        spelled = record {
          tree = is.tree;
          tree-is = subst (λ (ts : List Lexeme). SpellTree ts is.tree) same is.has.tree-is;
          elaborated = subst (λ (ts : List Lexeme). Elaborates is.tree ts entry is.program) same is.elaborated;
        };
        form = form;
        is_form = is.is_form;
      }

  pub lexed_fault : (r : Result (List ℕ) CompileFault) → IfErr r (λ fault. (fault ≡ Memory) ⊎ HaveFault (lexemes_of found) found.end entry fault)
      → IfErr r (λ fault. (fault ≡ Memory) ⊎ HasFault text entry fault)
  lexed_fault (Ok bytes) h = tt
  lexed_fault (Err fault) (inl memory) = inl memory
  lexed_fault (Err TooLong) (inr h) = absurd h
  lexed_fault (Err (Lex fault)) (inr h) = absurd h
  lexed_fault (Err (Parse fault place)) (inr h) = inr (within, (lexemes_of found, (found.end, lexed, h)))
  lexed_fault (Err (Rule fault place)) (inr h) = inr (within, (lexemes_of found, (found.end, lexed, h)))
  lexed_fault (Err Unbuilt) (inr h) = inr (within, (lexemes_of found, (found.end, lexed, h)))
  lexed_fault (Err Memory) (inr h) = absurd h

  pub lexed_every : {R : CompileFault → Type 0} → ((fault : LexFault) → IsFirstFault text fault → ⊥)
      → ((fault : CompileFault) → HaveFault (lexemes_of found) found.end entry fault → R fault)
      → (fault : CompileFault) → HasFault text entry fault → R fault
  lexed_every faults given TooLong long = absurd (omega (arith, long, within))
  lexed_every faults given (Lex fault) (less, first) = absurd (faults fault first)
  lexed_every faults given (Parse fault place) (less, h) = given (Parse fault place) (same_fault (Parse fault place) h)
  lexed_every faults given (Rule fault place) (less, h) = given (Rule fault place) (same_fault (Rule fault place) h)
  lexed_every faults given Unbuilt (less, h) = given Unbuilt (same_fault Unbuilt h)
  lexed_every faults given Memory h = absurd h

-- ---- tokens with a program

-- an answer about a program's form: the program has none, or memory ran out
abbrev pub IsFormless : plain.Program → CompileFault → Type 0
IsFormless program fault = (fault ≡ Memory) ⊎ ((fault ≡ Unbuilt) × (form_of program ≡ None))

module _ (tokens : List Lexeme) (end : Place) (entry : List ℕ) (program : plain.Program)
    (every : (other : plain.Program) → SpellProgram tokens entry other → program ≡ other) (r : Result (List ℕ) CompileFault) where
  pub program_complete : IfErr r (IsFormless program) → SpellForm tokens entry → IfErr r (λ fault. fault ≡ Memory)
  program_complete none h = IfErr-weaker r (IsFormless program) (λ fault. fault ≡ Memory) by_case none where
    by_case : (fault : CompileFault) → IsFormless program fault → fault ≡ Memory
    by_case fault (inl memory) = memory
    by_case fault (inr (unbuilt, not)) = absurd (none-some h.form (sym not ∙ (ap form_of (every h.program h.spelled) ∙ h.is_form)))

  other_named : SpellOther tokens entry → IfOk r (IsContainerOfProgram program) → IfErr r (IsFormless program) → IsErrOf r Unbuilt ⊎ IsErrOf r Memory
  other_named h made none = by_answer r refl made none where
    by_answer : (answer : Result (List ℕ) CompileFault) → r ≡ answer → IfOk answer (IsContainerOfProgram program) → IfErr answer (IsFormless program) → IsErrOf r Unbuilt ⊎ IsErrOf r Memory
    by_answer (Ok bytes) e m n = absurd (none-some m.form (sym h.other ∙ (sym (ap form_of (every h.program h.spelled)) ∙ m.is_form)))
    by_answer (Err fault) e m (inl memory) = inr (e ∙ ap (λ (f : CompileFault). Err f) memory)
    by_answer (Err fault) e m (inr n) = inl (e ∙ ap (λ (f : CompileFault). Err f) n.0)

  pub program_every : ((fault : CompileFault) → HaveProgramFault tokens end entry fault → ⊥) → IfOk r (IsContainerOfProgram program) → IfErr r (IsFormless program)
      → (fault : CompileFault) → HaveFault tokens end entry fault → IsErrOf r fault ⊎ IsErrOf r Memory
  program_every never made none (Parse fault place) h = absurd (never (Parse fault place) h)
  program_every never made none (Rule fault place) h = absurd (never (Rule fault place) h)
  program_every never made none Unbuilt h = other_named h made none
  program_every never made none TooLong h = absurd h
  program_every never made none (Lex fault) h = absurd h
  program_every never made none Memory h = absurd h

-- ---- tokens without a program

-- the answer that is a fault
abbrev pub no_value : CompileFault → Result Program CompileFault
no_value fault = Err fault

module _ (tokens : List Lexeme) (end : Place) (entry : List ℕ) (fault : CompileFault) (every : (program : plain.Program) → SpellProgram tokens entry program → GivesProgram (Err fault) program) where
  no_program : (f : CompileFault) (program : plain.Program) → GivesProgram (Err f) program → f ≡ Memory
  no_program Memory program h = refl
  no_program TooLong program h = absurd h
  no_program (Lex other) program h = absurd h
  no_program (Parse other place) program h = absurd h
  no_program (Rule other place) program h = absurd h
  no_program Unbuilt program h = absurd h

  pub failed_complete : SpellForm tokens entry → fault ≡ Memory
  failed_complete h = no_program fault h.program (every h.program h.spelled)

  pub failed_every : ((other : CompileFault) → HaveProgramFault tokens end entry other → (no_value fault ≡ no_value other) ⊎ (no_value fault ≡ no_value Memory))
      → (other : CompileFault) → HaveFault tokens end entry other → (fault ≡ other) ⊎ (fault ≡ Memory)
  failed_every given other h = by_fault other h where
    same_value : (answer : CompileFault) → no_value fault ≡ no_value answer → fault ≡ answer
    same_value answer e = cc

    answers : (answer : CompileFault) → (no_value fault ≡ no_value answer) ⊎ (no_value fault ≡ no_value Memory) → (fault ≡ answer) ⊎ (fault ≡ Memory)
    answers answer (inl e) = inl (same_value answer e)
    answers answer (inr e) = inr (same_value Memory e)

    by_fault : (answer : CompileFault) → HaveFault tokens end entry answer → (fault ≡ answer) ⊎ (fault ≡ Memory)
    by_fault (Parse found place) h = answers (Parse found place) (given (Parse found place) h)
    by_fault (Rule found place) h = answers (Rule found place) (given (Rule found place) h)
    by_fault Unbuilt h = inr (no_program fault h.program (every h.program h.spelled))
    by_fault TooLong h = absurd h
    by_fault (Lex found) h = absurd h
    by_fault Memory h = absurd h
