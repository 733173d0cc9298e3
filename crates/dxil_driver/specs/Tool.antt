-- What a run of the tool does to the input, the output and the notes, and why it answers what it does.
use Rattle.std.specs.Prelude.{◌≡◌, ℕ, ◌+◌, ◌<◌, ◌≤◌, ◌⊎◌, List, length, Option, ⊤}
use Rattle.std.specs.Io.KnownBytes.{Appends, Consumes, IsAtEnd, Keeps}
use Rattle.base_core.specs.Counts.{HasRisen}
use Rattle.base_core.specs.Ends.{AppendsPart}
use Rattle.dxil_driver.specs.Commands.{Asks, IsUsage, limit_of, Gives, Refuses}
use Rattle.dxil_driver.specs.Refusal.{status_of, line_of, write_fault_line}
use Rattle.dxil_driver.specs.declared.command.Command.{Command}
use Rattle.dxil_driver.specs.declared.status.Status.{Status}
use Rattle.dxil_driver.specs.declared.status.Status.TheVariants.{Done, Refused, Usage as UsageStatus, ReadFault as ReadFaultStatus, WriteFault, Memory as MemoryStatus}
use Rattle.dxil_driver.specs.declared.refusal.Refusal.{Refusal}
use Rattle.dxil_driver.specs.declared.refusal.Refusal.TheVariants.{Usage, ReadFault, TooLong, Memory}

-- what the input gave, by what it has left, how much was taken of it, and how often it failed
module _ {I : Type 0} (left : I → Option (List ℕ)) (taken : I → ℕ) (old new : I) where
  -- these bytes were taken from the front of what was left
  abbrev pub Takes : List ℕ → Type 0
  Takes bytes = Consumes (left old) (left new) bytes × (taken new ≡ taken old + length bytes)

  -- these bytes are all that was left, and nothing is left now
  abbrev pub TakesAll : List ℕ → Type 0
  TakesAll input = Takes input × IsAtEnd (left new)

  -- the input has more bytes than the command takes
  abbrev pub IsTooLong : Command → Type 0
  IsTooLong command = (bytes : List ℕ) × Takes bytes × (limit_of command < length bytes)

  -- the whole input is within the limit and refused for what it says
  abbrev pub IsBadInput : Command → Refusal → Type 0
  IsBadInput command refusal = (input : List ℕ) × TakesAll input × (length input ≤ limit_of command) × Refuses command input refusal

  -- this is written for the whole input
  abbrev pub GivesAll : Command → List ℕ → Type 0
  GivesAll command bytes = (input : List ℕ) × TakesAll input × Gives command input bytes

  -- the cause of each refusal of a command
  abbrev pub StandsFor : (I → ℕ) → Command → Refusal → Type 0
  StandsFor faults command Usage = ⊥
  StandsFor faults command ReadFault = HasRisen (faults old) (faults new)
  StandsFor faults command TooLong = IsTooLong command
  StandsFor faults command Memory = ⊤
  StandsFor faults command refusal = IsBadInput command refusal

  -- the cause of each refusal: no command was asked for, or the command has a cause
  abbrev pub Stands : (I → ℕ) → List (List ℕ) → Refusal → Type 0
  Stands faults words Usage = IsUsage words
  Stands faults words Memory = ⊤
  Stands faults words refusal = (command : Command) × Asks words command × StandsFor faults command refusal

-- a sink failed in the text, and holds a front of it
module _ {N : Type 0} (written : N → Option (List ℕ)) (faults : N → ℕ) (old new : N) where
  abbrev pub Cuts : List ℕ → Type 0
  Cuts text = AppendsPart (written old) (written new) text × HasRisen (faults old) (faults new)

  -- the line was written whole, or the sink failed in it
  abbrev pub WritesOrCuts : List ℕ → Type 0
  WritesOrCuts text = Appends (written old) (written new) text ⊎ Cuts text

  -- the status stands where the line was written whole, and the write fault where the sink failed in it
  abbrev pub Tells : Status → List ℕ → Status → Type 0
  Tells status text answer = ((answer ≡ status) × Appends (written old) (written new) text) ⊎ ((answer ≡ WriteFault) × Cuts text)

  -- the line of a refusal was told, or that of want of memory
  abbrev pub TellsOf : Refusal → Status → Type 0
  TellsOf refusal answer = Tells (status_of refusal) (line_of refusal) answer ⊎ Tells MemoryStatus (line_of Memory) answer

-- a run, from one state of the input, the output and the notes to another
module _ {I O N : Type 0} (left : I → Option (List ℕ)) (taken read_faults : I → ℕ) (written : O → Option (List ℕ)) (noted : N → Option (List ℕ))
    (words : List (List ℕ)) (old_input new_input : I) (old_output new_output : O) (old_notes new_notes : N) where
  -- the output has what the command gives for all that was left, and the notes have nothing
  abbrev pub IsDone : Type 0
  IsDone =
      ((command : Command) × Asks words command × ((bytes : List ℕ) × GivesAll left taken old_input new_input command bytes
      × Appends (written old_output) (written new_output) bytes)) × Keeps (noted old_notes) (noted new_notes)

  -- a refusal that stands has this status, its line was written whole, and the output has nothing
  abbrev pub IsTold : Status → Type 0
  IsTold status =
      (refusal : Refusal) × (status ≡ status_of refusal) × Stands left taken old_input new_input read_faults words refusal
      × Appends (noted old_notes) (noted new_notes) (line_of refusal) × Keeps (written old_output) (written new_output)

  -- a refusal stands, the notes failed in its line, and the output has nothing
  abbrev pub FailsNotes : (N → ℕ) → Type 0
  FailsNotes note_faults =
      (refusal : Refusal) × Stands left taken old_input new_input read_faults words refusal
      × Cuts noted note_faults old_notes new_notes (line_of refusal) × Keeps (written old_output) (written new_output)

  -- the output failed in what the command gives for all that was left, and the notes have the line of that, or failed in it
  abbrev pub FailsOutput : (O → ℕ) → (N → ℕ) → Type 0
  FailsOutput write_faults note_faults =
      ((command : Command) × Asks words command × ((bytes : List ℕ) × GivesAll left taken old_input new_input command bytes
      × Cuts written write_faults old_output new_output bytes))
      × WritesOrCuts noted note_faults old_notes new_notes write_fault_line

-- done, unless memory is refused; the notes may then fail in the line of that
abbrev pub IsDoneOrMemory : Status → Type 0 → Type 0
IsDoneOrMemory status notes_failed = (status ≡ Done) ⊎ ((status ≡ MemoryStatus) ⊎ ((status ≡ WriteFault) × notes_failed))

-- neither done nor a question of the words
abbrev pub IsStop : Status → Type 0
IsStop Done = ⊥
IsStop UsageStatus = ⊥
IsStop Refused = ⊤
IsStop ReadFaultStatus = ⊤
IsStop WriteFault = ⊤
IsStop MemoryStatus = ⊤
