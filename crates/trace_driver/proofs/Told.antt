-- What a run of the tool is refused for, and what it tells then.
use mathlib.Core.Logic.{inl, inr}
use Rattle.std.proofs.Common.{◌≡◌, refl, sym, ap, ◌∙◌, subst, ℕ, ◌+◌, ◌<◌, ◌≤◌, List, length, arith}
use Rattle.std.specs.Prelude.{◌≢◌, ◌⊎◌, IfErr, IfSome, IsErrAnd, Option, None, Some, Result, Ok, Err}
use Rattle.std.specs.Io.KnownBytes.{Keeps}
use Rattle.std.specs.Result.{IsErrOf}
use Rattle.base_core.specs.Counts.{HasRisen}
use Rattle.base_core.specs.Ends.{TakesFront}
use Rattle.base_core.specs.declared.whole.ReadStop.{ReadStop}
use Rattle.base_core.specs.declared.whole.ReadStop.TheVariants.{Fault, TooLong as TookTooMuch, Memory as NoRoomToRead}
use Rattle.hl_lexer.specs.declared.fault.LexFault.TheVariants.{BadByte as NoToken, NumberTooLarge as LargeNumber, TooManyTokens as MoreTokens, Memory as NoRoomForTokens}
use Rattle.hl_parser.specs.declared.fault.ParseFault.TheVariants.{Syntax as NoProgram, TooDeep as DeepTree, Memory as NoRoomForTree}
use Rattle.hl_types.specs.declared.fault.RuleFault.TheVariants.{Broken as BrokenRule, Memory as NoRoomForProgram}
use Rattle.hl_meaning.specs.Programs.{Program}
use Rattle.dxil_driver.specs.CompileFaults.{GivesProgram, HasProgram, HasProgramFault}
use Rattle.dxil_driver.specs.Compiled.{most_source}
use Rattle.dxil_driver.specs.Refusal.{refusal_of_compile, refusal_of_stop, status_of}
use Rattle.dxil_driver.specs.Tool.{IsDoneOrMemory, IsStop, TakesAll}
use Rattle.dxil_driver.specs.declared.compiler.CompileFault.{CompileFault}
use Rattle.dxil_driver.specs.declared.compiler.CompileFault.TheVariants.{TooLong as TextTooLong, Lex, Parse, Rule as BadProgram, Unbuilt, Memory as NoRoomToCompile}
use Rattle.dxil_driver.specs.declared.refusal.Refusal.{Refusal}
use Rattle.dxil_driver.specs.declared.refusal.Refusal.TheVariants.{Usage, ReadFault, TooLong, BadByte, NumberTooLarge, TooManyTokens, Syntax, TooDeep, Rule, NotBuilt, Container, Stream, Records, Broken, Memory}
use Rattle.dxil_driver.specs.declared.status.Status.{Status}
use Rattle.dxil_driver.specs.declared.status.Status.TheVariants.{WriteFault}
use Rattle.trace_driver.specs.Traces.{FailsNotes, IsRefusedText, IsTold, IsTraced, Stands, StandsFor, TellsOf, Traces, TracesAll, is_refused, is_too_long, no_memory, read_failed}
use Rattle.trace_driver.specs.declared.request.Request.{Request}

-- what holds of the refusal that an answer is made of holds of the answer
pub refused_for : {T : Type 0} (P : Refusal → Type 0) (r : Result T Refusal) (refusal : Refusal) → IsErrAnd r (λ x. x ≡ refusal) → P refusal → IfErr r P
refused_for P (Ok value) refusal is h = absurd is
refused_for P (Err other) refusal is h = subst P (sym is) h

-- want of memory stays what it is
pub compile_memory : {T : Type 0} (r : Result T Refusal) (fault : CompileFault) → IsErrAnd r (λ x. x ≡ refusal_of_compile fault) → fault ≡ NoRoomToCompile → IfErr r (λ refusal. refusal ≡ Memory)
compile_memory (Ok value) fault is memory = absurd is
compile_memory (Err other) fault is memory = is ∙ ap refusal_of_compile memory

-- a value is no error
no_error : {T E : Type 0} {value : T} {one other : E} → IsErrOf (Ok value) one ⊎ IsErrOf (Ok value) other → ⊥
no_error (inl e) = cc
no_error (inr e) = cc

-- ---- the text

module _ (text entry : List ℕ) where
  -- a text that has a program isn't refused
  pub has_no_fault : {T : Type 0} (value : T) → ((fault : CompileFault) → HasProgramFault text entry fault → IsErrOf (Ok value) fault ⊎ IsErrOf (Ok value) NoRoomToCompile)
      → (fault : CompileFault) → HasProgramFault text entry fault → ⊥
  has_no_fault value every fault h = no_error (every fault h)

  pub fault_answer : (r : Result (List ℕ) CompileFault) (fault : CompileFault) → IsErrAnd r (λ x. x ≡ fault) → (fault ≡ NoRoomToCompile) ⊎ HasProgramFault text entry fault
      → IfErr r (λ x. (x ≡ NoRoomToCompile) ⊎ HasProgramFault text entry x)
  fault_answer (Ok bytes) fault is h = absurd is
  fault_answer (Err other) fault is h = subst (λ (x : CompileFault). (x ≡ NoRoomToCompile) ⊎ HasProgramFault text entry x) (sym is) h

  -- the fault of a text that has a program is want of memory
  pub memory_alone : (r : Result (List ℕ) CompileFault) (fault : CompileFault) → IsErrAnd r (λ x. x ≡ fault) → ((program : Program) → HasProgram text entry program → GivesProgram (Err fault) program)
      → (program : Program) × HasProgram text entry program → IfErr r (λ x. x ≡ NoRoomToCompile)
  memory_alone (Ok bytes) fault is every traced = absurd is
  memory_alone (Err other) fault is every (program, h) = is ∙ by fault (every program h) where
    by : (f : CompileFault) → GivesProgram (Err f) program → f ≡ NoRoomToCompile
    by NoRoomToCompile g = refl
    by TextTooLong g = absurd g
    by (Lex found) g = absurd g
    by (Parse found place) g = absurd g
    by (BadProgram found place) g = absurd g
    by Unbuilt g = absurd g

-- ---- the input

module _ {I : Type 0} (left : I → Option (List ℕ)) (taken faults : I → ℕ) (old new : I) (request : Request) where
  -- an input that wasn't read whole
  pub stop_stands : (stop : ReadStop) → TakesFront (left old) (left new) (taken old) (taken new)
      → (stop ≡ Fault → HasRisen (faults old) (faults new)) → (stop ≡ TookTooMuch → taken old + most_source < taken new)
      → StandsFor left taken old new faults request (refusal_of_stop stop)
  stop_stands Fault (bytes, takes, count) fault long = read_failed (fault refl)
  stop_stands TookTooMuch (bytes, takes, count) fault long = is_too_long bytes (takes, count) (omega (arith, long refl, count))
  stop_stands NoRoomToRead (bytes, takes, count) fault long = no_memory

  -- a text that has no program
  pub fault_stands : (text : List ℕ) (fault : CompileFault) → TakesAll left taken old new text → (fault ≡ NoRoomToCompile) ⊎ HasProgramFault text request.entry fault
      → StandsFor left taken old new faults request (refusal_of_compile fault)
  fault_stands text fault takes (inl memory) = subst (StandsFor left taken old new faults request) (sym (ap refusal_of_compile memory)) no_memory
  fault_stands text fault takes (inr h) = is_refused text (refusal_of_compile fault) takes (record { fault = fault; is_fault = h; answer = refl })

  pub traces_all : (text bytes : List ℕ) → TakesAll left taken old new text → Traces request text bytes → TracesAll left taken old new request bytes
  traces_all text bytes takes traced = record { text = text; takes = takes; traced = traced }

-- what is said of the text is said of all that was left
pub said_of_all : (P : List ℕ → Type 0) (left : Option (List ℕ)) (text : List ℕ) → IfSome left (λ all. text ≡ all) → P text → IfSome left P
said_of_all P None text same h = tt
said_of_all P (Some all) text same h = subst P same h

-- ---- the notes

-- no refusal has the status of a write fault
not_fault : (refusal : Refusal) → status_of refusal ≢ WriteFault
not_fault Usage same = cc
not_fault ReadFault same = cc
not_fault TooLong same = cc
not_fault (BadByte place) same = cc
not_fault (NumberTooLarge place) same = cc
not_fault TooManyTokens same = cc
not_fault (Syntax place) same = cc
not_fault TooDeep same = cc
not_fault (Rule rule place) same = cc
not_fault NotBuilt same = cc
not_fault (Container fault) same = cc
not_fault (Stream kind bit) same = cc
not_fault (Records kind block at) same = cc
not_fault (Broken rule spot) same = cc
not_fault Memory same = cc

keeps_itself : (bytes : Option (List ℕ)) → Keeps bytes bytes
keeps_itself None = tt
keeps_itself (Some bytes) = refl

-- a refusal that was told, or want of memory in its place
module _ {I O N : Type 0} (left : I → Option (List ℕ)) (taken faults : I → ℕ) (written : O → Option (List ℕ)) (noted : N → Option (List ℕ))
    (note_faults : N → ℕ) (words : List (List ℕ)) (old_input new_input : I) (output : O) (old_notes new_notes : N) (refusal : Refusal) (answer : Status)
    (cause : Stands left taken old_input new_input faults words refusal) (memory : Stands left taken old_input new_input faults words Memory) where
  keeps : Keeps (written output) (written output)
  keeps = keeps_itself (written output)

  pub is_told : TellsOf noted note_faults old_notes new_notes refusal answer → answer ≢ WriteFault
      → IsTold left taken faults written noted words old_input new_input output output old_notes new_notes answer
  is_told (inl (inl (same, appends))) other = record { refusal = refusal; same = same; stands = cause; notes = appends; output = keeps }
  is_told (inl (inr (fault, cuts))) other = absurd (other fault)
  is_told (inr (inl (same, appends))) other = record { refusal = Memory; same = same; stands = memory; notes = appends; output = keeps }
  is_told (inr (inr (fault, cuts))) other = absurd (other fault)

  pub fails_notes : TellsOf noted note_faults old_notes new_notes refusal answer → answer ≡ WriteFault
      → FailsNotes left taken faults written noted words old_input new_input output output old_notes new_notes note_faults
  fails_notes (inl (inl (same, appends))) fault = absurd (not_fault refusal (sym same ∙ fault))
  fails_notes (inl (inr (same, cuts))) fault = record { refusal = refusal; stands = cause; notes = cuts; output = keeps }
  fails_notes (inr (inl (same, appends))) fault = absurd (not_fault Memory (sym same ∙ fault))
  fails_notes (inr (inr (same, cuts))) fault = record { refusal = Memory; stands = memory; notes = cuts; output = keeps }

-- where memory alone can be refused, that is what was told, or the notes failed
pub done_or_memory : {N : Type 0} (noted : N → Option (List ℕ)) (note_faults : N → ℕ) (old new : N) (refusal : Refusal) (answer : Status) (request : Request) (left : Option (List ℕ))
    → IfSome left (λ all. length all ≤ most_source → IsTraced request all → refusal ≡ Memory) → TellsOf noted note_faults old new refusal answer
    → IfSome left (λ all. length all ≤ most_source → IsTraced request all → IsDoneOrMemory answer (HasRisen (note_faults old) (note_faults new)))
done_or_memory noted note_faults old new refusal answer request None complete told = tt
done_or_memory noted note_faults old new refusal answer request (Some all) complete (inl (inl (same, appends))) = λ within traced. inr (inl (same ∙ ap status_of (complete within traced)))
done_or_memory noted note_faults old new refusal answer request (Some all) complete (inl (inr (fault, cuts))) = λ within traced. inr (inr (fault, cuts.1))
done_or_memory noted note_faults old new refusal answer request (Some all) complete (inr (inl (same, appends))) = λ within traced. inr (inl same)
done_or_memory noted note_faults old new refusal answer request (Some all) complete (inr (inr (fault, cuts))) = λ within traced. inr (inr (fault, cuts.1))

-- ---- reasons to stop

-- no text is refused as other words are
never_usage : (fault : CompileFault) → refusal_of_compile fault ≢ Usage
never_usage TextTooLong same = cc
never_usage (Lex (NoToken place)) same = cc
never_usage (Lex (LargeNumber place)) same = cc
never_usage (Lex MoreTokens) same = cc
never_usage (Lex NoRoomForTokens) same = cc
never_usage (Parse (NoProgram at) place) same = cc
never_usage (Parse DeepTree place) same = cc
never_usage (Parse NoRoomForTree place) same = cc
never_usage (BadProgram (BrokenRule rule at) place) same = cc
never_usage (BadProgram NoRoomForProgram place) same = cc
never_usage Unbuilt same = cc
never_usage NoRoomToCompile same = cc

-- the fault of a text is no form that isn't built
pub built : (text entry : List ℕ) (fault : CompileFault) → HasProgramFault text entry fault → NotBuilt ≢ refusal_of_compile fault
built text entry TextTooLong h same = cc
built text entry (Lex (NoToken place)) h same = cc
built text entry (Lex (LargeNumber place)) h same = cc
built text entry (Lex MoreTokens) h same = cc
built text entry (Lex NoRoomForTokens) h same = cc
built text entry (Parse (NoProgram at) place) h same = cc
built text entry (Parse DeepTree place) h same = cc
built text entry (Parse NoRoomForTree place) h same = cc
built text entry (BadProgram (BrokenRule rule at) place) h same = cc
built text entry (BadProgram NoRoomForProgram place) h same = cc
built text entry Unbuilt h same = h
built text entry NoRoomToCompile h same = cc

pub stands_other : {I : Type 0} (left : I → Option (List ℕ)) (taken faults : I → ℕ) (old new : I) (request : Request) (refusal : Refusal)
    → StandsFor left taken old new faults request refusal → refusal ≢ Usage
stands_other left taken faults old new request _ (read_failed risen) same = cc
stands_other left taken faults old new request _ (is_too_long bytes takes long) same = cc
stands_other left taken faults old new request _ (is_refused text refusal takes refused) same = never_usage refused.fault (sym refused.answer ∙ same)
stands_other left taken faults old new request _ no_memory same = cc

stop_of : (refusal : Refusal) → refusal ≢ Usage → IsStop (status_of refusal)
stop_of Usage other = absurd (other refl)
stop_of ReadFault other = tt
stop_of TooLong other = tt
stop_of (BadByte place) other = tt
stop_of (NumberTooLarge place) other = tt
stop_of TooManyTokens other = tt
stop_of (Syntax place) other = tt
stop_of TooDeep other = tt
stop_of (Rule rule place) other = tt
stop_of NotBuilt other = tt
stop_of (Container fault) other = tt
stop_of (Stream kind bit) other = tt
stop_of (Records kind block at) other = tt
stop_of (Broken rule spot) other = tt
stop_of Memory other = tt

-- what was told of a refusal, but for other words, is a stop
pub stops_told : {N : Type 0} (noted : N → Option (List ℕ)) (note_faults : N → ℕ) (old new : N) (refusal : Refusal) (answer : Status) (request : Request) (left : Option (List ℕ))
    → TellsOf noted note_faults old new refusal answer → refusal ≢ Usage → IfSome left (λ all. IsRefusedText request all → IsStop answer)
stops_told noted note_faults old new refusal answer request left told other = anyway left (stop told) where
  stop : TellsOf noted note_faults old new refusal answer → IsStop answer
  stop (inl (inl (same, appends))) = subst IsStop (sym same) (stop_of refusal other)
  stop (inl (inr (fault, cuts))) = subst IsStop (sym fault) tt
  stop (inr (inl (same, appends))) = subst IsStop (sym same) tt
  stop (inr (inr (fault, cuts))) = subst IsStop (sym fault) tt

  anyway : (all : Option (List ℕ)) → IsStop answer → IfSome all (λ text. IsRefusedText request text → IsStop answer)
  anyway None h = tt
  anyway (Some text) h = λ refused. h

-- a text that isn't refused gives no reason to stop
pub stops_refused : (request : Request) (left : Option (List ℕ)) (status : Status) → IfSome left (λ all. ¬ IsRefusedText request all)
    → IfSome left (λ all. IsRefusedText request all → IsStop status)
stops_refused request None status accepted = tt
stops_refused request (Some all) status accepted = λ refused. absurd (accepted refused)
