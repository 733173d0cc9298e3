use Rattle.std.proofs.Common.{◌≡◌, List, ℕ, [], ◌∙◌, ◌%◌, ◌^◌, ap, refl, map, arith}
use Rattle.ir_core.specs.declared.instruction.Inst.{Inst}
use Rattle.ir_core.specs.declared.instruction.Block.{Block}
use Rattle.ir_core.specs.declared.module.Module.{Module}
use Rattle.bc_stream.specs.Blocks.{Contents, no_more, parts_contents}
use Rattle.bc_records.specs.BodyRecords.{filled_blocks}
use Rattle.bc_records.specs.Entries.{entries_in}
use Rattle.bc_records.specs.Read.{block_of, read_instructions, word}
use Rattle.bc_records.specs.ReadBodies.{blocks_with}
use Rattle.bc_records.proofs.ReadSteps.{record_step, block_step, stop, ok_same}
use Rattle.bc_records.proofs.ReadInstructions.{filled_from_none, instructions_same}
use Rattle.bc_records.proofs.read.bodies.filled.Goals as goal
use Rattle.bc_records.proofs.read.bodies.filled.Goals.{in-Entry+in_ok-push_record-in-Entry, in-Block}

-- the blocks, with the instructions of what is left
abbrev with_left : Module → List Block → List Inst → ℕ → Contents → List Block
with_left m blocks insts next rest = blocks_with m blocks insts next (entries_in rest)

pub loop-part-preserved : goal.loop-part-preserved
loop-part-preserved c =
    let parts = c.as_slice-part-items.result.now in
    let m = c.args.module.now in
    let whole = with_left m [] [] (word c.args.first) (parts_contents parts) in
    let old = with_left m c.loop-part.blocks c.loop-part.insts c.loop-part.next in
    elim c.match-part.branch [
      | in-Entry+in_ok-push_record-in-Entry w ↦
          rw (w.blocks-is, w.insts-is, w.next-is)
          (record_step old (with_left m w.push_record.new.blocks w.push_record.new.insts w.push_record.new.next) whole parts c.loop-part.part-index c.part-item.result w.in-Entry.entry
          c.loop-part-test.true c.part-item.is w.in-Entry.is
          (λ rest. w.in_ok-push_record-in-Entry.ensures (entries_in rest)) c.loop-part.invariant)
      | in-Block w ↦
          rw (w.blocks-is, w.insts-is, w.next-is)
          (block_step old old whole parts c.loop-part.part-index c.part-item.result w.in-Block.field-0
          c.loop-part-test.true c.part-item.is w.in-Block.is (λ rest. refl) c.loop-part.invariant)
    ]

pub returns : goal.returns
returns c =
    let parts = c.as_slice-part-items.result.now in
    let m = c.args.module.now in
    let first = c.args.first in
    let es = entries_in (parts_contents c.args.parts.now) in
    let low : word first % 2 ^ 32 ≡ first % 2 ^ 32 = omega arith in
    ok_same c.close.result (with_left m c.loop-part.blocks c.loop-part.insts c.loop-part.next no_more) (map block_of (filled_blocks (read_instructions m first es))) c.close.ensures
    (stop (with_left m c.loop-part.blocks c.loop-part.insts c.loop-part.next) (with_left m [] [] (word first) (parts_contents parts)) parts
    c.loop-part.part-index c.loop-part-test.false c.loop-part.invariant
    ∙ (ap (λ p. with_left m [] [] (word first) (parts_contents p)) c.as_slice-part-items.ensures
    ∙ ap (map block_of) (filled_from_none (read_instructions m (word first) es) ∙ ap filled_blocks (instructions_same m (word first) first es low))))
