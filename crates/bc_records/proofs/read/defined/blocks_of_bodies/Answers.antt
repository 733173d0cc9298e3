use Rattle.std.proofs.Common.{Option, Bor, List, [], ◌++◌, ◌∙◌, ap, refl, sym, append-nil}
use Rattle.bc_stream.specs.Blocks.{Contents, parts_contents}
use Rattle.bc_stream.specs.declared.block.Part.{Part}
use Rattle.bc_records.specs.Codes.{function_block}
use Rattle.bc_records.specs.Entries.{blocks_in, entries_in}
use Rattle.bc_records.specs.ReadBodies.{body_blocks}
use Rattle.bc_records.specs.RecordKinds.{function_entries}
use Rattle.bc_records.proofs.ReadSteps.{record_step, block_step, stop}
use Rattle.bc_records.proofs.ReadDefined.{held}
use Rattle.bc_records.proofs.read.defined.blocks_of_bodies.Goals as goal
use Rattle.bc_records.proofs.read.defined.blocks_of_bodies.Goals.{in-Entry+in_ok-rest-in-Entry, in-Block}

-- the blocks so far, and those of the records that are left
abbrev with_left : List (Option (Bor (List Part))) → List Part → Contents → List (Option Contents)
with_left blocks rest records = held blocks ++ body_blocks (function_entries (entries_in records)) (blocks_in function_block (parts_contents rest))

pub loop-part-preserved : goal.loop-part-preserved
loop-part-preserved c =
    let parts = c.as_slice-part-items.result.now in
    let whole = with_left [] c.as_slice-rest.result.now (parts_contents parts) in
    let old = with_left c.loop-part.found.items c.loop-part.rest.now in
    elim c.match-part.branch [
      | in-Entry+in_ok-rest-in-Entry w ↦
          rw (w.found-is, w.rest-is)
          (record_step old (with_left w.push_body_block.new.found.items w.in_ok-rest-in-Entry.rest.now) whole parts c.loop-part.part-index c.part-item.result w.in-Entry.entry
          c.loop-part-test.true c.part-item.is w.in-Entry.is
          (λ rest. w.in_ok-rest-in-Entry.ensures (entries_in rest)) c.loop-part.invariant)
      | in-Block w ↦
          rw (w.found-is, w.rest-is)
          (block_step old old whole parts c.loop-part.part-index c.part-item.result w.in-Block.field-0
          c.loop-part-test.true c.part-item.is w.in-Block.is (λ rest. refl) c.loop-part.invariant)
    ]

pub returns : goal.returns
returns c =
    let parts = c.as_slice-part-items.result.now in
    let rest = c.as_slice-rest.result.now in
    sym (append-nil (held c.loop-part.found.items))
    ∙ (stop (with_left c.loop-part.found.items c.loop-part.rest.now) (with_left [] rest (parts_contents parts)) parts
    c.loop-part.part-index c.loop-part-test.false c.loop-part.invariant
    ∙ (ap (λ p. with_left [] rest (parts_contents p)) c.as_slice-part-items.ensures
    ∙ ap (λ p. with_left [] p (parts_contents c.args.inner.now)) c.as_slice-rest.ensures))
