use Rattle.std.proofs.Common.{List, ◌++◌, ◌∙◌, map, ap, sym, append-nil}
use Rattle.ir_core.specs.declared.module.Const.{Const}
use Rattle.bc_stream.specs.Blocks.{Contents, parts_contents}
use Rattle.bc_records.specs.Codes.{constants_block}
use Rattle.bc_records.specs.ConstantRecords.{constants_of}
use Rattle.bc_records.specs.Entries.{entries_in}
use Rattle.bc_records.specs.Read.{read_constant, read_constants}
use Rattle.bc_records.proofs.ReadSteps.{skipped, taken, stop}
use Rattle.bc_records.proofs.read.constants.constants_in.Goals as goal
use Rattle.bc_records.proofs.read.constants.constants_in.Goals.{in-Some+in_ok-push_block, in_default}

-- the constants of a block
abbrev of_block : Contents → List Const
of_block block = constants_of 0 (map read_constant (entries_in block))

pub loop-part-preserved : goal.loop-part-preserved
loop-part-preserved c =
    let parts = c.as_slice-part-items.result.now in
    let whole = read_constants (parts_contents parts) in
    elim c.match-parts_of.branch [
      | in-Some+in_ok-push_block w ↦
          rw w.constants-is
          (taken of_block constants_block c.loop-part.constants w.push_block.new.constants whole parts c.loop-part.part-index c.part-item.result
          (parts_contents w.in-Some.parts.now) c.loop-part-test.true c.part-item.is w.in-Some.ensures w.in_ok-push_block.ensures c.loop-part.invariant)
      | in_default w ↦
          rw w.constants-is
          (skipped of_block constants_block c.loop-part.constants whole parts c.loop-part.part-index c.part-item.result
          c.loop-part-test.true c.part-item.is w.in_default.ensures c.loop-part.invariant)
    ]

pub returns : goal.returns
returns c =
    let parts = c.as_slice-part-items.result.now in
    sym (append-nil c.loop-part.constants)
    ∙ (stop (λ rest. c.loop-part.constants ++ read_constants rest) (read_constants (parts_contents parts)) parts
    c.loop-part.part-index c.loop-part-test.false c.loop-part.invariant
    ∙ ap (λ p. read_constants (parts_contents p)) c.as_slice-part-items.ensures)
