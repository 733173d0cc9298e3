use Rattle.std.proofs.Common.{List, ◌∙◌, ap, refl, map}
use Rattle.ir_core.specs.declared.module.Function.{Function}
use Rattle.bc_stream.specs.Blocks.{Contents, parts_contents}
use Rattle.bc_records.specs.Entries.{entries_in}
use Rattle.bc_records.specs.Read.{read_symbol, with_names}
use Rattle.bc_records.proofs.ReadSteps.{record_step, block_step, stop}
use Rattle.bc_records.proofs.read.names.name_functions.Goals as goal
use Rattle.bc_records.proofs.read.names.name_functions.Goals.{in-Entry+in_ok-name_function-in-Entry, in-Block}

-- the functions with the names of what is left
abbrev with_left : List Function → Contents → List Function
with_left functions rest = with_names functions (map read_symbol (entries_in rest))

pub loop-part-preserved : goal.loop-part-preserved
loop-part-preserved c =
    let parts = c.as_slice-part-items.result.now in
    let whole = with_left c.args.functions.now.items (parts_contents parts) in
    let old = with_left c.loop-part.functions.items in
    elim c.match-part.branch [
      | in-Entry+in_ok-name_function-in-Entry w ↦
          rw w.functions-is
          (record_step old (with_left w.name_function.new.functions.items) whole parts c.loop-part.part-index c.part-item.result w.in-Entry.entry
          c.loop-part-test.true c.part-item.is w.in-Entry.is
          (λ rest. w.in_ok-name_function-in-Entry.ensures (map read_symbol (entries_in rest))) c.loop-part.invariant)
      | in-Block w ↦
          rw w.functions-is
          (block_step old old whole parts c.loop-part.part-index c.part-item.result w.in-Block.field-0
          c.loop-part-test.true c.part-item.is w.in-Block.is (λ rest. refl) c.loop-part.invariant)
    ]

pub returns : goal.returns
returns c =
    let parts = c.as_slice-part-items.result.now in
    stop (with_left c.loop-part.functions.items) (with_left c.args.functions.now.items (parts_contents parts)) parts
    c.loop-part.part-index c.loop-part-test.false c.loop-part.invariant
    ∙ ap (λ p. with_left c.args.functions.now.items (parts_contents p)) c.as_slice-part-items.ensures
