use Rattle.std.proofs.Common.{◌∙◌, ◌++◌, [], ap, sym, subst, arith, get_or}
use Rattle.std.proofs.lemmas.Result.{on_ok_weaker}
use Rattle.bc_stream.specs.Blocks.{a_block, no_more, append, parts_contents}
use Rattle.bc_records.specs.Entries.{entries_in, blocks_in}
use Rattle.bc_records.specs.FaultSearch.{Tells, first_fault, MarksNamed}
use Rattle.bc_records.specs.FaultSites.{sites}
use Rattle.bc_records.specs.KnownTables.{known_by}
use Rattle.bc_records.specs.ModuleProgress.{MarksBefore}
use Rattle.bc_records.specs.RecordFaults.{body_table, module_inside}
use Rattle.bc_records.specs.RecordKinds.{all_of, numbers_of, with_bodies}
use Rattle.bc_records.proofs.FaultModules.{marks-other, marks-symbols, on-ok}
use Rattle.bc_records.proofs.faults.module_block.inside_block.Goals as goal

pub returns-in-17-clause-marked : goal.returns-in-17-clause-marked
returns-in-17-clause-marked c =
    on-ok c.flat_block.result (λ before marked. marks-other before c.args.inner.now.id (parts_contents c.args.inner.now.parts) c.args.marks.now (λ e. omega (arith, e, c.in-17.is)) marked)

pub returns-in-11-clause-marked : goal.returns-in-11-clause-marked
returns-in-11-clause-marked c =
    on-ok c.flat_block-in-11.result (λ before marked. marks-other before c.args.inner.now.id (parts_contents c.args.inner.now.parts) c.args.marks.now (λ e. omega (arith, e, c.in-11.is)) marked)

pub returns-in-15-clause-marked : goal.returns-in-15-clause-marked
returns-in-15-clause-marked c =
    on-ok c.flat_block-in-15.result (λ before marked. marks-other before c.args.inner.now.id (parts_contents c.args.inner.now.parts) c.args.marks.now (λ e. omega (arith, e, c.in-15.is)) marked)

pub returns-in-14-clause-marked : goal.returns-in-14-clause-marked
returns-in-14-clause-marked c =
    let inner = parts_contents c.args.inner.now.parts in
    let marks = c.symbols_block.new.marks in
    on_ok_weaker c.symbols_block.result
    (λ h before marked. subst (λ id. MarksBefore (append before (a_block id inner no_more)) marks) (sym c.in-14.is)
    (marks-symbols before inner marks
    (subst (λ ps. MarksNamed marks (all_of (blocks_in 14 before) ++ entries_in (parts_contents ps))) c.in_ok-parts.ensures.0 (h (all_of (blocks_in 14 before)) marked))))
    c.symbols_block.ensures.marked

pub returns-in-12-clause-told : goal.returns-in-12-clause-told
returns-in-12-clause-told c before place marked =
    let known = known_by c.args.tables.now in
    let inner = parts_contents c.args.inner.now.parts in
    subst (λ id. Tells c.body_block.result (first_fault (module_inside known before id c.args.number inner))) (sym c.in-12.is)
    (subst (λ ops. Tells c.body_block.result (first_fault (sites (body_table known (numbers_of known ops inner)) c.args.number inner)))
    (c.function_of.ensures ∙ (ap (λ fs. get_or fs c.args.place []) c.requires.bodies ∙ ap (λ n. get_or (with_bodies known.functions) n []) (sym place)))
    (subst (λ ps. Tells c.body_block.result (first_fault (sites (body_table known (numbers_of known c.function_of.result.now (parts_contents ps))) c.args.number (parts_contents ps))))
    c.in_ok-parts.ensures.0 c.body_block.ensures))

pub returns-in-12-clause-marked : goal.returns-in-12-clause-marked
returns-in-12-clause-marked c =
    on-ok c.body_block.result (λ before marked. marks-other before c.args.inner.now.id (parts_contents c.args.inner.now.parts) c.args.marks.now (λ e. omega (arith, e, c.in-12.is)) marked)

pub returns-in_default-clause-marked : goal.returns-in_default-clause-marked
returns-in_default-clause-marked c before marked =
    marks-other before c.args.inner.now.id (parts_contents c.args.inner.now.parts) c.args.marks.now (λ e. omega (arith, e)) marked
