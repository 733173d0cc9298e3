use Rattle.std.proofs.Common.{◌∙◌, ◌∷◌, [], ap, sym, arith}
use Rattle.bc_records.specs.Entries.{entry, entries_in}
use Rattle.bc_records.specs.FaultCounts.{codes_from}
use Rattle.bc_records.proofs.FaultWalk.{past, past-none, past-entries}
use Rattle.bc_records.proofs.FaultCounts.{codes_from-append, codes_from-true, codes_from-false, entries-block}
use Rattle.bc_records.proofs.faults.counts.count_from.Goals as goal
use Rattle.bc_records.proofs.faults.counts.count_from.Goals.{in-Entry+then-is_from, in-Entry+else-is_from, in_default}

pub loop-part-init : goal.loop-part-init
loop-part-init c = record {
  counted = sym (ap (λ p. codes_from c.args.first (entries_in p)) (past-none c.args.parts.now));
  limit = omega arith;
}

pub loop-part-preserved : goal.loop-part-preserved
loop-part-preserved c =
    let parts = c.args.parts.now in
    let i = c.loop-part.part-index in
    let first = c.args.first in
    elim c.match-part.branch [
      | in-Entry+then-is_from w ↦
          let e = w.in-Entry.entry in
          record {
            counted = omega (
              arith,
              w.count-is,
              c.loop-part.invariant.counted,
              ap (codes_from first) (past-entries parts i c.part-item.result e c.loop-part-test.true c.part-item.is w.in-Entry.is),
              codes_from-append first (entries_in (past parts i)) (entry e.code e.values ∷ []),
              codes_from-true first e.code e.values (sym w.if-is_from.ensures),
            );
            limit = omega (arith, w.count-is, c.loop-part.invariant.limit);
          }
      | in-Entry+else-is_from w ↦
          let e = w.in-Entry.entry in
          record {
            counted = omega (
              arith,
              w.count-is,
              c.loop-part.invariant.counted,
              ap (codes_from first) (past-entries parts i c.part-item.result e c.loop-part-test.true c.part-item.is w.in-Entry.is),
              codes_from-append first (entries_in (past parts i)) (entry e.code e.values ∷ []),
              codes_from-false first e.code e.values (sym w.if-is_from.ensures),
            );
            limit = omega (arith, w.count-is, c.loop-part.invariant.limit);
          }
      | in_default w ↦ record {
        counted = w.count-is ∙ (c.loop-part.invariant.counted
            ∙ sym (ap (codes_from first) (entries-block parts i c.part-item.result w.in_default.field-0 c.loop-part-test.true c.part-item.is w.in_default.is)));
        limit = omega (arith, w.count-is, c.loop-part.invariant.limit);
      }
    ]
