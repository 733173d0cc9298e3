use Rattle.std.proofs.Common.{List, ℕ, [], ◌++◌, ◌∙◌, map, ap, sym, refl, append-nil}
use Rattle.ir_core.specs.declared.module.Ty.{Ty}
use Rattle.bc_stream.specs.Blocks.{Contents, parts_contents}
use Rattle.bc_records.specs.Entries.{entries_in}
use Rattle.bc_records.specs.Read.{read_type}
use Rattle.bc_records.specs.TypeRecords.{table_of}
use Rattle.bc_records.proofs.ReadSteps.{record_step, block_step, stop}
use Rattle.bc_records.proofs.read.types.types_of.Goals as goal
use Rattle.bc_records.proofs.read.types.types_of.Goals.{in-Entry+in_ok-push_type-in-Entry, in-Block}

-- the whole table, where the entries so far and the name stand before what is left
abbrev with_left : List Ty → List ℕ → Contents → List Ty
with_left types name rest = types ++ table_of name (map read_type (entries_in rest))

pub loop-part-preserved : goal.loop-part-preserved
loop-part-preserved c =
    let parts = c.as_slice-part-items.result.now in
    let whole = table_of [] (map read_type (entries_in (parts_contents parts))) in
    let old = with_left c.loop-part.types c.loop-part.name in
    elim c.match-part.branch [
      | in-Entry+in_ok-push_type-in-Entry w ↦
          rw (w.types-is, w.name-is)
          (record_step old (with_left w.push_type.new.types w.push_type.new.name) whole parts c.loop-part.part-index c.part-item.result w.in-Entry.entry
          c.loop-part-test.true c.part-item.is w.in-Entry.is
          (λ rest. w.in_ok-push_type-in-Entry.ensures (map read_type (entries_in rest))) c.loop-part.invariant)
      | in-Block w ↦
          rw (w.types-is, w.name-is)
          (block_step old old whole parts c.loop-part.part-index c.part-item.result w.in-Block.field-0
          c.loop-part-test.true c.part-item.is w.in-Block.is (λ rest. refl) c.loop-part.invariant)
    ]

pub returns : goal.returns
returns c =
    let parts = c.as_slice-part-items.result.now in
    sym (append-nil c.loop-part.types)
    ∙ (stop (with_left c.loop-part.types c.loop-part.name) (table_of [] (map read_type (entries_in (parts_contents parts)))) parts
    c.loop-part.part-index c.loop-part-test.false c.loop-part.invariant
    ∙ ap (λ p. table_of [] (map read_type (entries_in (parts_contents p)))) c.as_slice-part-items.ensures)
