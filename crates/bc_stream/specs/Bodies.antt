-- What is read of blocks. Only the reader's own functions cite it.
use Rattle.std.specs.Prelude.{◌≡◌, ℕ, ◌*◌, ◌%◌, ◌<◌, ◌≤◌, List, [], ◌∷◌, ◌++◌, length}
use Rattle.std.specs.List.{flat_map}
use Rattle.bc_stream.specs.declared.fault.StreamFault.{StreamFault}
use Rattle.bc_stream.specs.declared.fault.StreamFault.TheVariants.{Bad, Memory}
use Rattle.bc_stream.specs.declared.piece.Scope.{Scope}
use Rattle.bc_stream.specs.declared.read.Body.{Body}
use Rattle.bc_stream.specs.Blocks.{Contents, no_more, a_block, append, parts_contents}
use Rattle.bc_stream.specs.Spelling.{Raw, Frame, State, Leads, Shown, shown_leave, shown, shown_of, outer, IsEnd, FaultHere}
use Rattle.bc_stream.specs.Pieces.{state_in, Knows}

-- Good pieces lead from one state to another, and show this.
pub record Shows (what : List Shown) (to : State) (from : State) : Type 0 where
  pub pieces : List Raw
  pub leads : Leads pieces to from
  pub shows : flat_map shown pieces ≡ what

-- A fault stands behind good pieces, and before the end.
pub record FaultBeyond (from : State) (kind : ℕ) (bit : ℕ) : Type 0 where
  pub pieces : List Raw
  pub state : State
  pub leads : Leads pieces state from
  pub goes_on : IsEnd state → ⊥
  pub here : FaultHere state kind
  pub at : bit ≡ state.place.at

-- The fault that is answered stands behind a place, or memory was refused.
abbrev pub FaultFrom : List ℕ → Scope → ℕ → StreamFault → Type 0
FaultFrom bytes scope at (Bad kind bit) = (frames : List Frame) → Knows scope frames → FaultBeyond (state_in bytes frames at) kind bit
FaultFrom bytes scope at Memory = Unit {0}

-- Some parts of a block are read.
pub record PartsAt (bytes : List ℕ) (scope : Scope) (from : ℕ) (parts : Contents) (at : ℕ) : Type 0 where
  pub reads : (frames : List Frame) → Knows scope frames → Shows (shown_of parts) (state_in bytes frames at) (state_in bytes frames from)
  pub forward : from ≤ at
  pub within : at ≤ 8 * length bytes

-- A block is read from its body's place on up to its end.
pub record BodyAt (bytes : List ℕ) (scope : Scope) (from : ℕ) (body : Body) : Type 0 where
  pub reads : (frames : List Frame) → Knows scope frames →
      Shows (shown_of (parts_contents body.parts) ++ shown_leave ∷ []) (state_in bytes (outer frames) body.to) (state_in bytes frames from)
  pub on_word : body.to % 32 ≡ 0
  pub forward : from ≤ body.to
  pub within : body.to ≤ 8 * length bytes

-- An outermost block is read, and put behind others.
pub record BlockAt (bytes : List ℕ) (at : ℕ) (old : Contents) (new : Contents) (to : ℕ) : Type 0 where
  pub id : ℕ
  pub inner : Contents
  pub put : new ≡ append old (a_block id inner no_more)
  pub reads : Shows (shown_of (a_block id inner no_more)) (state_in bytes [] to) (state_in bytes [] at)
  pub on_word : to % 32 ≡ 0
  pub forward : at < to
  pub within : to ≤ 8 * length bytes

-- Some outermost blocks are read.
pub record BlocksAt (bytes : List ℕ) (blocks : Contents) (at : ℕ) : Type 0 where
  pub reads : Shows (shown_of blocks) (state_in bytes [] at) (state_in bytes [] 32)
  pub on_word : at % 32 ≡ 0
  pub within : at ≤ 8 * length bytes
