use Rattle.std.proofs.Common.{sym, ap, ◌∙◌}
use Rattle.bc_records.specs.Entries.{entries_in}
use Rattle.bc_records.specs.RecordKinds.{first_has_code}
use Rattle.bc_records.proofs.FaultWalk.{left-entry, left-block, left-none}
use Rattle.bc_records.proofs.faults.flat.begins_with.Goals as goal

pub returns-in-Entry : goal.returns-in-Entry
returns-in-Entry c =
    sym (ap (first_has_code c.args.code) (c.loop-part.invariant
    ∙ ap entries_in (left-entry c.args.parts.now c.loop-part.part-index c.part-item.result c.in-Entry.entry c.loop-part-test.true c.part-item.is c.in-Entry.is)))

pub loop-part-preserved : goal.loop-part-preserved
loop-part-preserved c =
    c.loop-part.invariant
    ∙ ap entries_in (left-block c.args.parts.now c.loop-part.part-index c.part-item.result c.in_default.field-0 c.loop-part-test.true c.part-item.is c.in_default.is)

pub returns : goal.returns
returns c =
    sym (ap (first_has_code c.args.code) (c.loop-part.invariant
    ∙ ap entries_in (left-none c.args.parts.now c.loop-part.part-index c.loop-part-test.false)))
