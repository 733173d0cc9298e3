-- An input that isn't refused isn't a reason to stop.
use Rattle.std.proofs.Common.{◌≡◌, ℕ, ◌≤◌, List, length, refl, sym, ap, ◌∙◌, subst, arith}
use mathlib.Core.Logic.{inl, inr}
use Rattle.std.specs.Io.KnownBytes.{Keeps}
use Rattle.base_core.specs.Counts.{HasRisen}
use Rattle.std.specs.Prelude.{◌≢◌, ◌⊎◌, IfErr, IfSome, None, Some, Result, Ok, Err, IsErrAnd}
use Rattle.std.specs.declared.option.Option.{Option}
use Rattle.ir_core.specs.declared.module.Module.{Module}
use Rattle.bc_stream.specs.declared.fault.StreamFault.TheVariants.{Bad as BadStream}
use Rattle.bc_records.specs.declared.fault.RecordFault.TheVariants.{Bad as BadRecord}
use Rattle.dxil_driver.specs.Check.{Fails, in_container, in_stream, in_records, in_module, IsRefused, NamesFault}
use Rattle.dxil_driver.specs.Commands.{Accepts, Asks, IsRefusedText, Refuses, limit_of, most_container}
use Rattle.dxil_driver.specs.Refusal.{refusal_of_check, status_of}
use Rattle.dxil_driver.specs.Tool.{FailsNotes, IsDoneOrMemory, IsStop, IsTold, Stands, StandsFor, TellsOf}
use Rattle.dxil_driver.specs.declared.checker.CheckFault.{CheckFault}
use Rattle.dxil_driver.specs.declared.checker.CheckFault.TheVariants.{Container as BadContainer, Stream as BadBitcode, Records as BadBlocks, Rules as BadModule}
use Rattle.dxil_driver.specs.declared.command.Command.{Command}
use Rattle.dxil_driver.specs.declared.command.Command.TheVariants.{Check}
use Rattle.dxil_driver.specs.declared.refusal.Refusal.{Refusal}
use Rattle.dxil_driver.specs.declared.refusal.Refusal.TheVariants.{Usage, ReadFault, TooLong, BadByte, NumberTooLarge, TooManyTokens, Syntax, TooDeep, Rule, NotBuilt, Container, Stream, Records, Broken, Memory}
use Rattle.dxil_driver.specs.declared.status.Status.{Status}
use Rattle.dxil_driver.specs.declared.status.Status.TheVariants.{WriteFault}

pub stops_refused : (command : Command) (left : Option (List ℕ)) (status : Status) → IfSome left (λ all. ¬ IsRefusedText command all)
    → IfSome left (λ all. IsRefusedText command all → IsStop status)
stops_refused command None status accepted = tt
stops_refused command (Some all) status accepted = λ refused. absurd (accepted refused)

-- the refusal of a container is one of its faults
refuses_fails : (bytes : List ℕ) (refusal : Refusal) → Refuses Check bytes refusal → (fault : CheckFault) × Fails bytes fault
refuses_fails bytes Usage r = absurd r
refuses_fails bytes ReadFault r = absurd r
refuses_fails bytes TooLong r = absurd r
refuses_fails bytes (BadByte place) r = absurd r
refuses_fails bytes (NumberTooLarge place) r = absurd r
refuses_fails bytes TooManyTokens r = absurd r
refuses_fails bytes (Syntax place) r = absurd r
refuses_fails bytes TooDeep r = absurd r
refuses_fails bytes (Rule rule place) r = absurd r
refuses_fails bytes NotBuilt r = absurd r
refuses_fails bytes Memory r = absurd r
refuses_fails bytes (Container fault) r = (BadContainer fault, in_container fault r)
refuses_fails bytes (Stream kind bit) r = (BadBitcode (BadStream kind bit), in_stream kind bit r)
refuses_fails bytes (Records kind block at) r = (BadBlocks (BadRecord kind block at), in_records kind block at r)
refuses_fails bytes (Broken rule spot) r = (BadModule rule spot, in_module rule spot r)

-- a fault of a container is a cause of its refusal
failed_refused : (bytes : List ℕ) (fault : CheckFault) → Fails bytes fault → Refuses Check bytes (refusal_of_check fault)
failed_refused bytes _ (in_container fault holds) = holds
failed_refused bytes _ (in_stream kind bit holds) = holds
failed_refused bytes _ (in_records kind block at holds) = holds
failed_refused bytes _ (in_module rule spot holds) = holds

failed_or_memory : (bytes : List ℕ) (fault : CheckFault) → IsRefused bytes fault → (refusal_of_check fault ≡ Memory) ⊎ Refuses Check bytes (refusal_of_check fault)
failed_or_memory bytes fault (inl none) = inl (ap refusal_of_check none)
failed_or_memory bytes fault (inr fails) = inr (failed_refused bytes fault fails)

pub check_cause : (bytes : List ℕ) (answer : Result (List ℕ) Refusal) (fault : CheckFault) → IsErrAnd answer (λ refusal. refusal ≡ refusal_of_check fault)
    → IsRefused bytes fault → IfErr answer (λ refusal. (refusal ≡ Memory) ⊎ Refuses Check bytes refusal)
check_cause bytes (Ok text) fault is cause = absurd is
check_cause bytes (Err refusal) fault is cause = subst (λ r. (r ≡ Memory) ⊎ Refuses Check bytes r) (sym is) (failed_or_memory bytes fault cause)

-- a container that passed isn't refused
pub passed_accepted : (bytes : List ℕ) (m : Module) → length bytes ≤ most_container
    → ((fault : CheckFault) → Fails bytes fault → NamesFault fault (Ok m)) → ¬ IsRefusedText Check bytes
passed_accepted bytes m within fails (inl long) = omega (arith, long, within)
passed_accepted bytes m within fails (inr (refusal, r)) =
    let found = refuses_fails bytes refusal r in
    no_error (fails found.0 found.1)
  where
    no_error : {fault : CheckFault} → NamesFault fault (Ok m) → ⊥
    no_error (inl h) = cc
    no_error (inr h) = cc

-- no refusal has the status of a write fault
not_fault : (refusal : Refusal) → status_of refusal ≢ WriteFault
not_fault Usage same = cc
not_fault ReadFault same = cc
not_fault TooLong same = cc
not_fault (BadByte place) same = cc
not_fault (NumberTooLarge place) same = cc
not_fault TooManyTokens same = cc
not_fault (Syntax place) same = cc
not_fault TooDeep same = cc
not_fault (Rule rule place) same = cc
not_fault NotBuilt same = cc
not_fault (Container fault) same = cc
not_fault (Stream kind bit) same = cc
not_fault (Records kind block at) same = cc
not_fault (Broken rule spot) same = cc
not_fault Memory same = cc

-- what is answered for all that was left
pub completes : (command : Command) (left : Option (List ℕ)) (all input : List ℕ) (answer : Result (List ℕ) Refusal) → IfSome left (λ l. all ≡ l) → input ≡ all
    → (Accepts command input → IfErr answer (λ refusal. refusal ≡ Memory))
    → IfSome left (λ l. length l ≤ limit_of command → Accepts command l → IfErr answer (λ refusal. refusal ≡ Memory))
completes command None all input answer same is complete = tt
completes command (Some l) all input answer same is complete = λ within accepts. complete (subst (Accepts command) (sym (is ∙ same)) accepts)

-- the cause of a command's refusal is a cause for the words that ask for the command
pub stands : {I : Type 0} (left : I → Option (List ℕ)) (taken faults : I → ℕ) (old new : I) (words : List (List ℕ)) (command : Command) (refusal : Refusal)
    → Asks words command → StandsFor left taken old new faults command refusal → Stands left taken old new faults words refusal
stands left taken faults old new words command Usage asked cause = absurd cause
stands left taken faults old new words command ReadFault asked cause = (command, asked, cause)
stands left taken faults old new words command TooLong asked cause = (command, asked, cause)
stands left taken faults old new words command (BadByte place) asked cause = (command, asked, cause)
stands left taken faults old new words command (NumberTooLarge place) asked cause = (command, asked, cause)
stands left taken faults old new words command TooManyTokens asked cause = (command, asked, cause)
stands left taken faults old new words command (Syntax place) asked cause = (command, asked, cause)
stands left taken faults old new words command TooDeep asked cause = (command, asked, cause)
stands left taken faults old new words command (Rule rule place) asked cause = (command, asked, cause)
stands left taken faults old new words command NotBuilt asked cause = (command, asked, cause)
stands left taken faults old new words command (Container fault) asked cause = (command, asked, cause)
stands left taken faults old new words command (Stream kind bit) asked cause = (command, asked, cause)
stands left taken faults old new words command (Records kind block at) asked cause = (command, asked, cause)
stands left taken faults old new words command (Broken rule spot) asked cause = (command, asked, cause)
stands left taken faults old new words command Memory asked cause = tt

keeps_itself : (bytes : Option (List ℕ)) → Keeps bytes bytes
keeps_itself None = tt
keeps_itself (Some bytes) = refl

-- a refusal that was told, or want of memory in its place
module _ {I O N : Type 0} (left : I → Option (List ℕ)) (taken faults : I → ℕ) (written : O → Option (List ℕ)) (noted : N → Option (List ℕ))
    (note_faults : N → ℕ) (words : List (List ℕ)) (old_input new_input : I) (output : O) (old_notes new_notes : N) (refusal : Refusal) (answer : Status)
    (cause : Stands left taken old_input new_input faults words refusal) where
  keeps : Keeps (written output) (written output)
  keeps = keeps_itself (written output)

  pub is_told : TellsOf noted note_faults old_notes new_notes refusal answer → answer ≢ WriteFault
      → IsTold left taken faults written noted words old_input new_input output output old_notes new_notes answer
  is_told (inl (inl (same, appends))) other = (refusal, same, cause, appends, keeps)
  is_told (inl (inr (fault, cuts))) other = absurd (other fault)
  is_told (inr (inl (same, appends))) other = (Memory, same, tt, appends, keeps)
  is_told (inr (inr (fault, cuts))) other = absurd (other fault)

  pub fails_notes : TellsOf noted note_faults old_notes new_notes refusal answer → answer ≡ WriteFault
      → FailsNotes left taken faults written noted words old_input new_input output output old_notes new_notes note_faults
  fails_notes (inl (inl (same, appends))) fault = absurd (not_fault refusal (sym same ∙ fault))
  fails_notes (inl (inr (same, cuts))) fault = (refusal, cause, cuts, keeps)
  fails_notes (inr (inl (same, appends))) fault = absurd (not_fault Memory (sym same ∙ fault))
  fails_notes (inr (inr (same, cuts))) fault = (Memory, tt, cuts, keeps)

-- where memory alone can be refused, that is what was told, or the notes failed
pub done_or_memory : {N : Type 0} (noted : N → Option (List ℕ)) (note_faults : N → ℕ) (old new : N) (refusal : Refusal) (answer : Status) (command : Command) (left : Option (List ℕ))
    → IfSome left (λ all. length all ≤ limit_of command → Accepts command all → refusal ≡ Memory) → TellsOf noted note_faults old new refusal answer
    → IfSome left (λ all. length all ≤ limit_of command → Accepts command all → IsDoneOrMemory answer (HasRisen (note_faults old) (note_faults new)))
done_or_memory noted note_faults old new refusal answer command None complete told = tt
done_or_memory noted note_faults old new refusal answer command (Some all) complete (inl (inl (same, appends))) = λ within accepts. inr (inl (same ∙ ap status_of (complete within accepts)))
done_or_memory noted note_faults old new refusal answer command (Some all) complete (inl (inr (fault, cuts))) = λ within accepts. inr (inr (fault, cuts.1))
done_or_memory noted note_faults old new refusal answer command (Some all) complete (inr (inl (same, appends))) = λ within accepts. inr (inl same)
done_or_memory noted note_faults old new refusal answer command (Some all) complete (inr (inr (fault, cuts))) = λ within accepts. inr (inr (fault, cuts.1))
