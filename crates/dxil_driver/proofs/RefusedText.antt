-- A source that is compiled isn't refused, and a refusal has a cause.
use mathlib.Core.Logic.{inl, inr}
use Rattle.std.proofs.Common.{◌≡◌, ◌∙◌, refl, sym, subst, ℕ, ◌≤◌, List, length, arith}
use Rattle.std.specs.Prelude.{◌⊎◌, IfErr, Option, Result, Ok}
use Rattle.std.proofs.lemmas.Result.{IfErr-weaker}
use Rattle.std.specs.Result.{IsErrOf}
use Rattle.hl_lexer.specs.declared.fault.LexFault.TheVariants.{BadByte as NoToken, NumberTooLarge as LargeNumber, TooManyTokens as MoreTokens}
use Rattle.hl_parser.specs.declared.fault.ParseFault.TheVariants.{Syntax as NoProgram, TooDeep as DeepTree}
use Rattle.hl_types.specs.declared.fault.RuleFault.TheVariants.{Broken as BrokenRule}
use Rattle.dxil_driver.specs.Commands.{IsRefusedText, Refuses, limit_of}
use Rattle.dxil_driver.specs.Compiled.{most_source}
use Rattle.dxil_driver.specs.CompileFaults.{HasFault}
use Rattle.dxil_driver.specs.SourceText.{start}
use Rattle.dxil_driver.specs.Refusal.{status_of}
use Rattle.dxil_driver.specs.Tool.{IsBadInput, IsTooLong, StandsFor, TakesAll, TellsOf}
use Rattle.dxil_driver.specs.declared.command.Command.{Command}
use Rattle.dxil_driver.specs.declared.command.Command.TheVariants.{Check, Compile}
use Rattle.dxil_driver.specs.declared.compiler.CompileFault.{CompileFault}
use Rattle.dxil_driver.specs.declared.compiler.CompileFault.TheVariants.{Lex, Parse, Rule as BadProgram, Unbuilt, Memory as NoRoomToCompile}
use Rattle.dxil_driver.specs.declared.options.Options.{Options}
use Rattle.dxil_driver.specs.declared.refusal.Refusal.{Refusal}
use Rattle.dxil_driver.specs.declared.refusal.Refusal.TheVariants.{Usage, ReadFault, TooLong, BadByte, NumberTooLarge, TooManyTokens, Syntax, TooDeep, Rule, NotBuilt, Container, Stream, Records, Broken, Memory}
use Rattle.dxil_driver.specs.declared.status.Status.{Status}
use Rattle.dxil_driver.specs.declared.status.Status.TheVariants.{Refused, WriteFault, Memory as MemoryStatus}
use Rattle.dxil_driver.proofs.Errors.{no_error}

module _ (text : List ℕ) (options : Options) (within : length text ≤ most_source) where
  -- the refusal of a source is one of its faults
  source_fault : (refusal : Refusal) → Refuses (Compile options) text refusal → (fault : CompileFault) × HasFault text options.entry fault
  source_fault Usage r = absurd r
  source_fault ReadFault r = absurd r
  source_fault TooLong r = absurd r
  source_fault (BadByte place) r = (Lex (NoToken place), (within, r))
  source_fault (NumberTooLarge place) r = (Lex (LargeNumber place), (within, r))
  source_fault TooManyTokens r = (Lex MoreTokens, (within, r))
  source_fault (Syntax place) (tokens, (end, has, (at, broken))) = (Parse (NoProgram at) place, (within, (tokens, (end, has, broken))))
  source_fault TooDeep (tokens, (end, has, deep)) = (Parse DeepTree start, (within, (tokens, (end, has, (deep, refl)))))
  source_fault (Rule rule place) (at, h) = (BadProgram (BrokenRule rule at) place, (within, h))
  source_fault NotBuilt r = (Unbuilt, (within, r))
  source_fault (Container fault) r = absurd r
  source_fault (Stream kind bit) r = absurd r
  source_fault (Records kind block at) r = absurd r
  source_fault (Broken rule spot) r = absurd r
  source_fault Memory r = absurd r

  pub compiled_accepted : (bytes : List ℕ) → ((fault : CompileFault) → HasFault text options.entry fault → IsErrOf (Ok bytes) fault ⊎ IsErrOf (Ok bytes) NoRoomToCompile) → ¬ IsRefusedText (Compile options) text
  compiled_accepted bytes every (inl long) = omega (arith, long, within)
  compiled_accepted bytes every (inr (refusal, r)) =
      let found = source_fault refusal r in
      no_error (every found.0 found.1)

-- a refusal for what the input says stands for its command
never_usage : (command : Command) (input : List ℕ) → Refuses command input Usage → ⊥
never_usage (Compile options) input r = r
never_usage Check input r = r

never_read_fault : (command : Command) (input : List ℕ) → Refuses command input ReadFault → ⊥
never_read_fault (Compile options) input r = r
never_read_fault Check input r = r

never_too_long : (command : Command) (input : List ℕ) → Refuses command input TooLong → ⊥
never_too_long (Compile options) input r = r
never_too_long Check input r = r

module _ {I : Type 0} (left : I → Option (List ℕ)) (taken faults : I → ℕ) (old new : I) (command : Command) where
  refusal_stands : (input : List ℕ) (refusal : Refusal) → TakesAll left taken old new input → length input ≤ limit_of command → Refuses command input refusal → StandsFor left taken old new faults command refusal
  refusal_stands input Usage takes within r = never_usage command input r
  refusal_stands input ReadFault takes within r = absurd (never_read_fault command input r)
  refusal_stands input TooLong takes within r = absurd (never_too_long command input r)
  refusal_stands input (BadByte place) takes within r = (input, takes, within, r)
  refusal_stands input (NumberTooLarge place) takes within r = (input, takes, within, r)
  refusal_stands input TooManyTokens takes within r = (input, takes, within, r)
  refusal_stands input (Syntax place) takes within r = (input, takes, within, r)
  refusal_stands input TooDeep takes within r = (input, takes, within, r)
  refusal_stands input (Rule rule place) takes within r = (input, takes, within, r)
  refusal_stands input NotBuilt takes within r = (input, takes, within, r)
  refusal_stands input (Container fault) takes within r = (input, takes, within, r)
  refusal_stands input (Stream kind bit) takes within r = (input, takes, within, r)
  refusal_stands input (Records kind block at) takes within r = (input, takes, within, r)
  refusal_stands input (Broken rule spot) takes within r = (input, takes, within, r)
  refusal_stands input Memory takes within r = tt

  -- the cause of an answer to the whole input is one of the command
  pub cause_stands : (input : List ℕ) (r : Result (List ℕ) Refusal) → TakesAll left taken old new input → length input ≤ limit_of command
      → IfErr r (λ refusal. (refusal ≡ Memory) ⊎ Refuses command input refusal) → IfErr r (StandsFor left taken old new faults command)
  cause_stands input r takes within cause =
      IfErr-weaker r (λ refusal. (refusal ≡ Memory) ⊎ Refuses command input refusal) (StandsFor left taken old new faults command) (λ refusal. by_case refusal) cause
    where
      by_case : (refusal : Refusal) → (refusal ≡ Memory) ⊎ Refuses command input refusal → StandsFor left taken old new faults command refusal
      by_case refusal (inl memory) = subst (StandsFor left taken old new faults command) (sym memory) tt
      by_case refusal (inr r) = refusal_stands input refusal takes within r

  -- a cause of the status of a refusal is the length of the input or what it says
  pub refused_input : (refusal : Refusal) → StandsFor left taken old new faults command refusal → status_of refusal ≡ Refused
      → IsTooLong left taken old new command ⊎ ((other : Refusal) × IsBadInput left taken old new command other)
  refused_input Usage cause same = absurd cause
  refused_input ReadFault cause same = cc
  refused_input TooLong cause same = inl cause
  refused_input (BadByte place) cause same = inr (BadByte place, cause)
  refused_input (NumberTooLarge place) cause same = inr (NumberTooLarge place, cause)
  refused_input TooManyTokens cause same = inr (TooManyTokens, cause)
  refused_input (Syntax place) cause same = inr (Syntax place, cause)
  refused_input TooDeep cause same = inr (TooDeep, cause)
  refused_input (Rule rule place) cause same = inr (Rule rule place, cause)
  refused_input NotBuilt cause same = inr (NotBuilt, cause)
  refused_input (Container fault) cause same = inr (Container fault, cause)
  refused_input (Stream kind bit) cause same = inr (Stream kind bit, cause)
  refused_input (Records kind block at) cause same = inr (Records kind block at, cause)
  refused_input (Broken rule spot) cause same = inr (Broken rule spot, cause)
  refused_input Memory cause same = cc

-- the status of what was told is that of the refusal, unless memory or the notes failed
pub told_status : {N : Type 0} (noted : N → Option (List ℕ)) (note_faults : N → ℕ) (old new : N) (refusal : Refusal) (answer : Status)
    → TellsOf noted note_faults old new refusal answer → answer ≡ Refused → status_of refusal ≡ Refused
told_status noted note_faults old new refusal answer (inl (inl (same, appends))) e = sym same ∙ e
told_status noted note_faults old new refusal answer (inl (inr (fault, cuts))) e = absurd (differ (sym fault ∙ e)) where
  differ : WriteFault ≡ Refused → ⊥
  differ e = cc
told_status noted note_faults old new refusal answer (inr (inl (same, appends))) e = absurd (differ (sym same ∙ e)) where
  differ : MemoryStatus ≡ Refused → ⊥
  differ e = cc
told_status noted note_faults old new refusal answer (inr (inr (fault, cuts))) e = absurd (differ (sym fault ∙ e)) where
  differ : WriteFault ≡ Refused → ⊥
  differ e = cc
