-- What the tool writes, and the status that it answers, for words, an input, an output and notes.
use Rattle.std.specs.Prelude.{◌≡◌, ℕ, ◌<◌, ◌⊎◌, List, length, codes, Option, Some}
use Rattle.std.specs.Io.KnownBytes.{Appends, Keeps}
use Rattle.base_core.specs.Counts.{HasRisen}
use Rattle.lane_core.specs.Lane.{Run}
use Rattle.hl_meaning.specs.Programs.{Program}
use Rattle.hl_source.specs.SourceLane.{source_lane}
use Rattle.hl_interpreter.specs.Runs.{lane_of}
use Rattle.dxil_driver.specs.CompileFaults.{HasProgram, HasProgramFault}
use Rattle.dxil_driver.specs.Compiled.{most_source}
use Rattle.dxil_driver.specs.Refusal.{line, line_of, refusal_of_compile, status_of, write_fault_line}
use Rattle.dxil_driver.specs.Tool.{Cuts, Takes, TakesAll, Tells, WritesOrCuts}
use Rattle.dxil_driver.specs.declared.compiler.CompileFault.{CompileFault}
use Rattle.dxil_driver.specs.declared.refusal.Refusal.{Refusal}
use Rattle.dxil_driver.specs.declared.refusal.Refusal.TheVariants.{Usage, ReadFault, TooLong, Memory}
use Rattle.dxil_driver.specs.declared.status.Status.{Status}
use Rattle.dxil_driver.specs.declared.status.Status.TheVariants.{Memory as MemoryStatus}
use Rattle.trace_driver.specs.Lines.{run_lines}
use Rattle.trace_driver.specs.Requests.{Asks, IsUsage}
use Rattle.trace_driver.specs.declared.request.Request.{Request}

-- the text has a program, and the bytes are the lines of the run of the lane that is asked for
pub record Traces (request : Request) (text bytes : List ℕ) : Type 0 where
  pub program : Program
  pub is_program : HasProgram text request.entry program
  pub run : Run
  pub is_run : source_lane program request.turns (lane_of request.lane) request.replies ≡ Some run
  pub lines : bytes ≡ run_lines run

-- the text has a program for the entry that is asked for
abbrev pub IsTraced : Request → (text : List ℕ) → Type 0
IsTraced request text = (program : Program) × HasProgram text request.entry program

-- the text has no program, and is refused as by `compile`
pub record Refuses (request : Request) (text : List ℕ) (refusal : Refusal) : Type 0 where
  pub fault : CompileFault
  pub is_fault : HasProgramFault text request.entry fault
  pub answer : refusal ≡ refusal_of_compile fault

-- the text is refused for its length or for what it says
abbrev pub IsRefusedText : Request → (text : List ℕ) → Type 0
IsRefusedText request text = (fault : CompileFault) × HasProgramFault text request.entry fault

-- the words of a run of the tool
abbrev pub usage_line : List ℕ
usage_line = line (codes "usage: source_trace ENTRY GX GY GZ X Y Z LANE WAVE TURNS REPLY..")

-- the line of a refusal: that of `compile`, but for other words
abbrev pub refusal_line : Refusal → List ℕ
refusal_line Usage = usage_line
refusal_line refusal = line_of refusal

-- the input, by what it has left, how much was taken of it, and how often it failed
module _ {I : Type 0} (left : I → Option (List ℕ)) (taken : I → ℕ) (old new : I) where
  -- this is written for the whole input
  pub record TracesAll (request : Request) (bytes : List ℕ) : Type 0 where
    pub text : List ℕ
    pub takes : TakesAll left taken old new text
    pub traced : Traces request text bytes

  -- why a request isn't answered: the input failed, it has more bytes than a source may have, or its text is refused
  pub data StandsFor (faults : I → ℕ) (request : Request) : Refusal → Type 0 where
    read_failed : HasRisen (faults old) (faults new) → StandsFor faults request ReadFault
    is_too_long : (bytes : List ℕ) → Takes left taken old new bytes → most_source < length bytes → StandsFor faults request TooLong
    is_refused : (text : List ℕ) (refusal : Refusal) → TakesAll left taken old new text → Refuses request text refusal → StandsFor faults request refusal
    no_memory : StandsFor faults request Memory

  -- why a run of the tool is refused: the words ask for no lane, or the request isn't answered
  pub data Stands (faults : I → ℕ) (words : List (List ℕ)) : Refusal → Type 0 where
    is_usage : IsUsage words → Stands faults words Usage
    no_room : Stands faults words Memory
    is_stopped : (request : Request) (refusal : Refusal) → Asks words request → StandsFor faults request refusal → Stands faults words refusal

-- the line of a refusal was told, or that of want of memory
module _ {N : Type 0} (written : N → Option (List ℕ)) (faults : N → ℕ) (old new : N) where
  abbrev pub TellsOf : Refusal → Status → Type 0
  TellsOf refusal answer =
      Tells written faults old new (status_of refusal) (refusal_line refusal) answer
      ⊎ Tells written faults old new MemoryStatus (refusal_line Memory) answer

-- a run, from one state of the input, the output and the notes to another
module _ {I O N : Type 0} (left : I → Option (List ℕ)) (taken read_faults : I → ℕ) (written : O → Option (List ℕ)) (noted : N → Option (List ℕ))
    (words : List (List ℕ)) (old_input new_input : I) (old_output new_output : O) (old_notes new_notes : N) where
  -- the output has the lines for all that was left, and the notes have nothing
  pub record IsDone : Type 0 where
    pub request : Request
    pub asked : Asks words request
    pub bytes : List ℕ
    pub traced : TracesAll left taken old_input new_input request bytes
    pub output : Appends (written old_output) (written new_output) bytes
    pub notes : Keeps (noted old_notes) (noted new_notes)

  -- a refusal that stands has this status, its line was written whole, and the output has nothing
  pub record IsTold (status : Status) : Type 0 where
    pub refusal : Refusal
    pub same : status ≡ status_of refusal
    pub stands : Stands left taken old_input new_input read_faults words refusal
    pub notes : Appends (noted old_notes) (noted new_notes) (refusal_line refusal)
    pub output : Keeps (written old_output) (written new_output)

  -- a refusal stands, the notes failed in its line, and the output has nothing
  pub record FailsNotes (note_faults : N → ℕ) : Type 0 where
    pub refusal : Refusal
    pub stands : Stands left taken old_input new_input read_faults words refusal
    pub notes : Cuts noted note_faults old_notes new_notes (refusal_line refusal)
    pub output : Keeps (written old_output) (written new_output)

  -- the output failed in the lines for all that was left, and the notes have the line of that, or failed in it
  pub record FailsOutput (write_faults : O → ℕ) (note_faults : N → ℕ) : Type 0 where
    pub request : Request
    pub asked : Asks words request
    pub bytes : List ℕ
    pub traced : TracesAll left taken old_input new_input request bytes
    pub output : Cuts written write_faults old_output new_output bytes
    pub notes : WritesOrCuts noted note_faults old_notes new_notes write_fault_line
