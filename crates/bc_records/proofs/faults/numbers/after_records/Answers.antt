use Rattle.std.proofs.Common.{◌≡◌, ◌∙◌, suc, ap, sym, arith, true, false, add-one}
use Rattle.bc_records.specs.Entries.{entry, entries_in}
use Rattle.bc_records.specs.KnownTables.{known_by}
use Rattle.bc_records.specs.RecordKinds.{next_after, entry_has_value}
use Rattle.bc_records.proofs.FaultWalk.{past, past-none, past-entries}
use Rattle.bc_records.proofs.FaultCounts.{entries-block}
use Rattle.bc_records.proofs.FaultNumbers.{next-more, next-same}
use Rattle.bc_records.proofs.faults.numbers.after_records.Goals as goal
use Rattle.bc_records.proofs.faults.numbers.after_records.Goals.{in-Entry+then-has_value, in-Entry+else-has_value, in_default}

pub loop-part-init : goal.loop-part-init
loop-part-init c = record {
  so_far = sym (ap (λ b. next_after (known_by c.args.tables.now) c.args.first (entries_in b)) (past-none c.args.parts.now));
  limit = omega arith;
}

pub loop-part-preserved : goal.loop-part-preserved
loop-part-preserved c =
    let parts = c.args.parts.now in
    let i = c.loop-part.part-index in
    let known = known_by c.args.tables.now in
    let first = c.args.first in
    let so_far = c.loop-part.invariant.so_far in
    elim c.match-part.branch [
      | in-Entry+then-has_value w ↦
          let e = w.in-Entry.entry in
          let has : entry_has_value known (next_after known first (entries_in (past parts i))) (entry e.code e.values) ≡ true
          = ap (λ n. entry_has_value known n (entry e.code e.values)) (sym so_far)
          ∙ (ap (λ ops. entry_has_value known c.loop-part.next (entry e.code ops)) (sym w.as_slice.ensures.value) ∙ sym w.if-has_value.ensures) in
          record {
            so_far = w.next-is ∙ (add-one c.loop-part.next ∙ (ap suc so_far
                ∙ sym (ap (next_after known first) (past-entries parts i c.part-item.result e c.loop-part-test.true c.part-item.is w.in-Entry.is)
                ∙ next-more known first (entries_in (past parts i)) (entry e.code e.values) has)));
            limit = omega (arith, w.next-is, c.loop-part.invariant.limit);
          }
      | in-Entry+else-has_value w ↦
          let e = w.in-Entry.entry in
          let has : entry_has_value known (next_after known first (entries_in (past parts i))) (entry e.code e.values) ≡ false
          = ap (λ n. entry_has_value known n (entry e.code e.values)) (sym so_far)
          ∙ (ap (λ ops. entry_has_value known c.loop-part.next (entry e.code ops)) (sym w.as_slice.ensures.value) ∙ sym w.if-has_value.ensures) in
          record {
            so_far = w.next-is ∙ (so_far
                ∙ sym (ap (next_after known first) (past-entries parts i c.part-item.result e c.loop-part-test.true c.part-item.is w.in-Entry.is)
                ∙ next-same known first (entries_in (past parts i)) (entry e.code e.values) has));
            limit = omega (arith, w.next-is, c.loop-part.invariant.limit);
          }
      | in_default w ↦ record {
        so_far = w.next-is ∙ (so_far
            ∙ sym (ap (next_after known first) (entries-block parts i c.part-item.result w.in_default.field-0 c.loop-part-test.true c.part-item.is w.in_default.is)));
        limit = omega (arith, w.next-is, c.loop-part.invariant.limit);
      }
    ]
