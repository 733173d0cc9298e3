-- Bodies as they are read: one record after the other, and one function after the other.
use Rattle.std.specs.Prelude.{ℕ, zero, suc, if◌then◌else◌, Option, None, Some, List, [], ◌∷◌, ◌++◌, map, drop, option_map}
use Rattle.ir_core.specs.declared.instruction.Inst.{Inst}
use Rattle.ir_core.specs.declared.instruction.Block.{Block}
use Rattle.ir_core.specs.declared.instruction.Body.{Body}
use Rattle.ir_core.specs.declared.module.Function.{Function}
use Rattle.ir_core.specs.declared.module.Module.{Module}
use Rattle.ir_core.specs.Soundness.{ends_block}
use Rattle.bc_stream.specs.Blocks.{Contents}
use Rattle.bc_records.specs.Entries.{Entry}
use Rattle.bc_records.specs.RecordKinds.{has_body}
use Rattle.bc_records.specs.Read.{block_of, read_body, read_instructions}

-- the instructions of a block that isn't empty
abbrev pub unless_empty : List Inst → List (List Inst)
unless_empty [] = []
unless_empty (inst ∷ insts) = (inst ∷ insts) ∷ []

-- instructions as blocks, where the first goes on with the instructions of an open block
abbrev pub filled_after : (open_block : List Inst) → List Inst → List (List Inst)
filled_after before [] = unless_empty before
filled_after before (inst ∷ insts) =
    if ends_block inst then (before ++ inst ∷ []) ∷ filled_after [] insts else filled_after (before ++ inst ∷ []) insts

-- all blocks, where some are whole and one is open, and the next value has a number
abbrev pub blocks_with : Module → List Block → (open_block : List Inst) → (next : ℕ) → List Entry → List Block
blocks_with m blocks before next records = blocks ++ map block_of (filled_after before (read_instructions m next records))

-- the first of some blocks
abbrev pub first_block : List Contents → Option Contents
first_block [] = None
first_block (block ∷ blocks) = Some block

-- the blocks of the bodies of functions, of which each that isn't a declaration has the next block
abbrev pub body_blocks : (operands : List (List ℕ)) → List Contents → List (Option Contents)
body_blocks [] blocks = []
body_blocks (operands ∷ rest) blocks =
    if has_body operands then first_block blocks ∷ body_blocks rest (drop 1 blocks) else None ∷ body_blocks rest blocks

-- the bodies of functions, each of its block
abbrev pub bodies_of : Module → List (Option Contents) → List Function → List (Option Body)
bodies_of m [] fs = []
bodies_of m (block ∷ blocks) [] = []
bodies_of m (block ∷ blocks) (f ∷ fs) = option_map (read_body m f) block ∷ bodies_of m blocks fs

-- a function with a body, where there is one
abbrev pub with_body : Function → Option Body → Function
with_body f None = f
with_body f (Some body) = record { name = f.name; ty = f.ty; body = Some body }

abbrev pub with_bodies : List Function → List (Option Body) → List Function
with_bodies [] bodies = []
with_bodies (f ∷ fs) [] = f ∷ fs
with_bodies (f ∷ fs) (body ∷ bodies) = with_body f body ∷ with_bodies fs bodies

-- functions, where the one at a place has a body
abbrev pub with_body_at : List Function → (place : ℕ) → Option Body → List Function
with_body_at [] place body = []
with_body_at (f ∷ fs) zero body = with_body f body ∷ fs
with_body_at (f ∷ fs) (suc place) body = f ∷ with_body_at fs place body
