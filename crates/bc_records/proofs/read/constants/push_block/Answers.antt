use Rattle.std.proofs.Common.{List, ℕ, ◌++◌, ◌∙◌, map, ap, sym, refl, append-nil}
use Rattle.ir_core.specs.declared.module.Const.{Const}
use Rattle.bc_stream.specs.Blocks.{Contents, parts_contents}
use Rattle.bc_records.specs.ConstantRecords.{constants_of}
use Rattle.bc_records.specs.Entries.{entries_in}
use Rattle.bc_records.specs.Read.{read_constant}
use Rattle.bc_records.proofs.ReadSteps.{record_step, block_step, stop}
use Rattle.bc_records.proofs.read.constants.push_block.Goals as goal
use Rattle.bc_records.proofs.read.constants.push_block.Goals.{in-Entry+in_ok-push_constant-in-Entry, in-Block}

-- the constants so far, and those of what is left, where a type is set
abbrev with_left : List Const → ℕ → Contents → List Const
with_left constants ty rest = constants ++ constants_of ty (map read_constant (entries_in rest))

pub loop-part-preserved : goal.loop-part-preserved
loop-part-preserved c =
    let parts = c.as_slice-part-items.result.now in
    let whole = with_left c.args.constants.now 0 (parts_contents parts) in
    let old = with_left c.loop-part.constants c.loop-part.ty in
    elim c.match-part.branch [
      | in-Entry+in_ok-push_constant-in-Entry w ↦
          rw (w.constants-is, w.ty-is)
          (record_step old (with_left w.push_constant.new.constants w.push_constant.new.ty) whole parts c.loop-part.part-index c.part-item.result w.in-Entry.entry
          c.loop-part-test.true c.part-item.is w.in-Entry.is
          (λ rest. w.in_ok-push_constant-in-Entry.ensures (map read_constant (entries_in rest))) c.loop-part.invariant)
      | in-Block w ↦
          rw (w.constants-is, w.ty-is)
          (block_step old old whole parts c.loop-part.part-index c.part-item.result w.in-Block.field-0
          c.loop-part-test.true c.part-item.is w.in-Block.is (λ rest. refl) c.loop-part.invariant)
    ]

pub returns : goal.returns
returns c =
    let parts = c.as_slice-part-items.result.now in
    sym (append-nil c.loop-part.constants)
    ∙ (stop (with_left c.loop-part.constants c.loop-part.ty) (with_left c.args.constants.now 0 (parts_contents parts)) parts
    c.loop-part.part-index c.loop-part-test.false c.loop-part.invariant
    ∙ ap (λ p. with_left c.args.constants.now 0 (parts_contents p)) c.as_slice-part-items.ensures)
