-- What a program without calls keeps of the program that it was made of.
use Rattle.std.specs.Prelude.{◌≡◌, ◌≤◌, ℕ, List}
use Rattle.std.specs.List.Sorted.{IsPermutation}
use Rattle.lane_core.specs.declared.event.Reply.{Reply}
use Rattle.lane_core.specs.Lane.{Lane}
use Rattle.lane_core.specs.SameLane.{SameLane}
use Rattle.hl_meaning.specs.Programs.{Program}
use Rattle.hl_meaning.specs.Sums.{variable_words}
use Rattle.hl_meaning.specs.WellFormed.{IsWellFormed}
use Rattle.hl_source.specs.SourceLane.{source_lane}
use Rattle.hl_inline.specs.FlatTrees.{Flat}
use Rattle.hl_inline.specs.FlatWellFormed.{IsFlat, most_shared_words}
use Rattle.hl_inline.specs.FlatLane.{flat_lane}
use Rattle.hl_inline.specs.IndexedVariables.{flat_indexed_lengths, indexed_lengths}
use Rattle.hl_inline.specs.InlinedPrograms.{inlined_program}

-- Its structs, buffers, groupshared variables and threads are the program's. Each lane has the same run, with the same
-- bound on the turns of loops and the same replies. The variables that are indexed by expressions that aren't literals
-- have, up to order, the lengths of those of the program.
pub record Keeps (p : Program) (f : Flat) : Type 0 where
  pub structs : f.structs ≡ p.structs
  pub resources : f.resources ≡ p.resources
  pub shared : f.shared ≡ p.shared
  pub threads : f.threads ≡ p.threads
  pub runs : (n : ℕ) (lane : Lane) (replies : List Reply) → flat_lane f n lane replies ≡ source_lane p n lane replies
  pub lengths : ∥ IsPermutation (flat_indexed_lengths f) (indexed_lengths p) ∥₁

-- what each program that is well formed becomes keeps all this
abbrev pub InlinedKeeps : Type 0
InlinedKeeps = (p : Program) → ∥ IsWellFormed p ∥₁ → Keeps p (inlined_program p)

-- then both have the same lanes
abbrev pub KeptIsSameLane : Type 0
KeptIsSameLane = (p : Program) (f : Flat) → Keeps p f → SameLane (source_lane p) (flat_lane f)

-- It is well formed, as the program is, where its groupshared variables have few enough words. A program may have more.
abbrev pub InlinedIsFlat : Type 0
InlinedIsFlat = (p : Program) → ∥ IsWellFormed p ∥₁ → variable_words p.structs p.shared ≤ most_shared_words → ∥ IsFlat (inlined_program p) ∥₁
