use Rattle.std.proofs.Common.{List, ◌∙◌, ap, sym, map}
use Rattle.ir_core.specs.declared.module.Function.{Function}
use Rattle.bc_stream.specs.Blocks.{Contents, parts_contents}
use Rattle.bc_records.specs.Codes.{symbols_block}
use Rattle.bc_records.specs.Entries.{blocks_in, entries_in}
use Rattle.bc_records.specs.Read.{read_functions, read_symbol, with_names}
use Rattle.bc_records.specs.RecordKinds.{all_of}
use Rattle.bc_records.proofs.ReadSteps.{part_step, stop, ok_same}
use Rattle.bc_records.proofs.ReadNames.{names_then}
use Rattle.bc_records.proofs.read.names.functions_in.Goals as goal
use Rattle.bc_records.proofs.read.names.functions_in.Goals.{in-Some+in_ok-name_functions, in_default}

-- the functions with the names of what is left
abbrev with_left : List Function → Contents → List Function
with_left functions rest = with_names functions (map read_symbol (all_of (blocks_in symbols_block rest)))

pub loop-part-preserved : goal.loop-part-preserved
loop-part-preserved c =
    let parts = c.as_slice-part-items.result.now in
    let functions = c.loop-part.functions.items in
    let whole = with_left c.in_ok-functions.functions.items (parts_contents parts) in
    elim c.match-parts_of.branch [
      | in-Some+in_ok-name_functions w ↦
          rw w.functions-is
          (part_step (with_left functions) (with_left w.name_functions.new.functions.items) whole parts c.loop-part.part-index c.part-item.result
          c.loop-part-test.true c.part-item.is
          (λ rest.
          names_then functions w.name_functions.new.functions.items (entries_in (parts_contents w.in-Some.parts.now)) (all_of (blocks_in symbols_block rest)) w.in_ok-name_functions.ensures
          ∙ ap (λ bs. with_names functions (map read_symbol (all_of bs))) (sym (w.in-Some.ensures rest)))
          c.loop-part.invariant)
      | in_default w ↦
          rw w.functions-is
          (part_step (with_left functions) (with_left functions) whole parts c.loop-part.part-index c.part-item.result
          c.loop-part-test.true c.part-item.is
          (λ rest. ap (λ bs. with_names functions (map read_symbol (all_of bs))) (sym (w.in_default.ensures rest)))
          c.loop-part.invariant)
    ]

pub returns : goal.returns
returns c =
    let parts = c.as_slice-part-items.result.now in
    ok_same c.from_vec.result c.loop-part.functions.items (read_functions (parts_contents c.args.inner.now)) c.from_vec.ensures
    (stop (with_left c.loop-part.functions.items) (with_left c.in_ok-functions.functions.items (parts_contents parts)) parts
    c.loop-part.part-index c.loop-part-test.false c.loop-part.invariant
    ∙ (ap (λ p. with_left c.in_ok-functions.functions.items (parts_contents p)) c.as_slice-part-items.ensures
    ∙ ap (λ fs. with_left fs (parts_contents c.args.inner.now)) c.in_ok-functions.ensures))
