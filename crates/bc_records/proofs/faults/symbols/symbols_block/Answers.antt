use Rattle.std.proofs.Common.{◌≡◌, ◌∙◌, ◌++◌, [], ◌∷◌, ap, sym, suc, ◌+◌, subst, arith, length, add-one, append_assoc}
use Rattle.bc_stream.specs.Blocks.{parts_contents}
use Rattle.bc_records.specs.Entries.{entry, entries_in}
use Rattle.bc_records.specs.FaultSearch.{MarksNamed, fault_at, first_kind}
use Rattle.bc_records.specs.FaultSites.{Table}
use Rattle.bc_records.specs.RecordFaults.{symbols_table}
use Rattle.bc_records.specs.RecordKinds.{symbol_kinds}
use Rattle.bc_records.proofs.FaultWalk.{past, left, past-none, Walked, walked-start, walked-record, found-record, found-head, whole_fault, told-exit, past-entries, at-end, room-first}
use Rattle.bc_records.proofs.FaultTables.{number-first}
use Rattle.bc_records.proofs.FreeSites.{more_none}
use Rattle.bc_records.proofs.faults.symbols.symbols_block.Goals as goal

pub loop-at-init : goal.loop-at-init
loop-at-init c = record {
  walked = λ known earlier same marked. walked-start (symbols_table known earlier) c.args.number (suc c.args.number) c.args.parts.now;
  marked = λ earlier marked.
      subst (MarksNamed c.args.marks.now)
      (sym (ap (λ b. earlier ++ entries_in b) (past-none c.args.parts.now) ∙ more_none earlier)) marked;
}

pub overflow_add-result : goal.overflow_add-result
overflow_add-result c =
    omega (arith, c.requires.blocks, room-first c.args.parts.now c.loop-at.at c.index-parts-at.result c.in-Block.inner c.loop-at-test.true c.index-parts-at.is c.in-Block.is)

pub returns-in-Block-clause-told : goal.returns-in-Block-clause-told
returns-in-Block-clause-told c known earlier same marked =
    let parts = c.args.parts.now in
    found-head (symbols_table known earlier) c.args.number (suc c.args.number) parts c.loop-at.at c.loop-at.at 0 c.index-parts-at.result c.in-Block.inner c.loop-at-test.true c.index-parts-at.is c.in-Block.is
    (c.loop-at.invariant.walked known earlier same marked)
    (record { kind = c.misplaced_kind.result; block = c.args.number + 1; at = 0 })
    (number-first c.args.number c.misplaced_kind.result c.in-Block.inner.id c.misplaced_kind.ensures)

pub returns-in_err-free_at-in-Entry-clause-told : goal.returns-in_err-free_at-in-Entry-clause-told
returns-in_err-free_at-in-Entry-clause-told c known earlier same marked =
    let table : Table = symbols_table known earlier in
    let parts = c.args.parts.now in
    let e = c.in-Entry.entry in
    let before = entries_in (past parts c.loop-at.at) in
    let kind : c.symbol_kind.result ≡ first_kind (table.records before (entry e.code e.values) (entries_in (left parts (c.loop-at.at + 1))))
    = c.symbol_kind.ensures (earlier ++ before) (c.loop-at.invariant.marked earlier marked)
    ∙ (ap (λ ops. first_kind (symbol_kinds (length c.loop-at.marks) (earlier ++ before) (entry e.code ops))) c.as_slice-operands.ensures.value
    ∙ ap (λ n. first_kind (symbol_kinds n (earlier ++ before) (entry e.code e.values))) (c.loop-at.auto.marks ∙ sym same)) in
    told-exit c.from_residual.result c.in_err-free_at-in-Entry.field-0.0 (fault_at c.args.number c.loop-at.at c.symbol_kind.result)
    (whole_fault table c.args.number (suc c.args.number) (parts_contents parts))
    c.from_residual.ensures.1
    (λ f is. found-record table c.args.number (suc c.args.number) parts c.loop-at.at c.loop-at.at 0 c.index-parts-at.result e c.loop-at-test.true c.index-parts-at.is c.in-Entry.is (c.loop-at.invariant.walked known earlier same marked)
    f (ap (fault_at c.args.number c.loop-at.at) (sym kind) ∙ is))
    c.in_err-free_at-in-Entry.ensures

pub loop-at-preserved : goal.loop-at-preserved
loop-at-preserved c = record {
  walked = λ known earlier same marked.
      let table : Table = symbols_table known earlier in
      let parts = c.args.parts.now in
      let e = c.in-Entry.entry in
      let before = entries_in (past parts c.loop-at.at) in
      let kind : c.symbol_kind.result ≡ first_kind (table.records before (entry e.code e.values) (entries_in (left parts (c.loop-at.at + 1))))
      = c.symbol_kind.ensures (earlier ++ before) (c.loop-at.invariant.marked earlier marked)
      ∙ (ap (λ ops. first_kind (symbol_kinds (length c.loop-at.marks) (earlier ++ before) (entry e.code ops))) c.as_slice-operands.ensures.value
      ∙ ap (λ n. first_kind (symbol_kinds n (earlier ++ before) (entry e.code e.values))) (c.loop-at.auto.marks ∙ sym same)) in
      subst (λ n. Walked table c.args.number (suc c.args.number) parts (c.loop-at.at + 1) n 0) (sym (add-one c.loop-at.at))
      (walked-record table c.args.number (suc c.args.number) parts c.loop-at.at c.loop-at.at 0 c.index-parts-at.result e c.loop-at-test.true c.index-parts-at.is c.in-Entry.is (c.loop-at.invariant.walked known earlier same marked)
      (ap (fault_at c.args.number c.loop-at.at) (sym kind) ∙ c.in_ok-free_at-in-Entry.ensures));
  marked = λ earlier marked.
      let parts = c.args.parts.now in
      let e = c.in-Entry.entry in
      let before = entries_in (past parts c.loop-at.at) in
      subst (MarksNamed c.mark.new.marks)
      (ap (λ ops. (earlier ++ before) ++ entry e.code ops ∷ []) c.as_slice-operands.ensures.value
      ∙ (append_assoc earlier before (entry e.code e.values ∷ [])
      ∙ ap (λ es. earlier ++ es) (sym (past-entries parts c.loop-at.at c.index-parts-at.result e c.loop-at-test.true c.index-parts-at.is c.in-Entry.is))))
      (c.mark.ensures (earlier ++ before) (c.loop-at.invariant.marked earlier marked));
}

pub returns-clause-told : goal.returns-clause-told
returns-clause-told c known earlier same marked =
    at-end (symbols_table known earlier) c.args.number (suc c.args.number) c.args.parts.now c.loop-at.at c.loop-at.at 0 c.loop-at-test.false (c.loop-at.invariant.walked known earlier same marked)
