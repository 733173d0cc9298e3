use Rattle.std.proofs.Common.{◌≡◌, ◌∙◌, ◌++◌, [], ap, sym, suc, ◌+◌, ◌∷◌, ◌==◌, ◌||◌, subst, arith, length, add-one}
use Rattle.bc_stream.specs.Blocks.{parts_contents}
use Rattle.bc_records.specs.Entries.{entry, entries_in}
use Rattle.bc_records.specs.KnownTables.{known_by}
use Rattle.bc_records.specs.FlatTables.{flat_table_of}
use Rattle.bc_records.specs.FaultSearch.{fault_at, first_kind}
use Rattle.bc_records.specs.FaultSites.{Table}
use Rattle.bc_records.specs.RecordKinds.{has_code, last_has_code}
use Rattle.bc_records.proofs.FaultWalk.{past, left, past-none, Walked, walked-start, walked-record, found-record, found-head, whole_fault, told-exit, past-record, has-code-append, last-code-append, at-end, block-room, told-same}
use Rattle.std.proofs.lemmas.List.{take_all}
use Rattle.bc_records.specs.declared.faults.flat.Come.{Come}
use Rattle.bc_records.proofs.FaultTables.{flat-head}
use Rattle.bc_records.proofs.faults.flat.flat_block.Goals as goal

pub loop-at-init : goal.loop-at-init
loop-at-init c = record {
  walked = walked-start (flat_table_of (known_by c.args.tables.now) c.args.flat) c.args.number (suc c.args.number) c.args.parts.now;
  first = ap (λ b. has_code 1 (entries_in b)) (past-none c.args.parts.now);
  name = ap (λ b. last_has_code 4 (entries_in b)) (past-none c.args.parts.now);
}

pub loop-at-preserved : goal.loop-at-preserved
loop-at-preserved c =
    let table : Table = flat_table_of (known_by c.args.tables.now) c.args.flat in
    let parts = c.args.parts.now in
    let e = c.in-Entry.entry in
    let before = entries_in (past parts c.loop-at.at) in
    let more : entries_in (past parts (c.loop-at.at + 1)) ≡ before ++ entry e.code e.values ∷ []
    = past-record table c.args.number (suc c.args.number) parts c.loop-at.at c.loop-at.at 0 c.index-parts-at.result e c.loop-at-test.true c.index-parts-at.is c.in-Entry.is c.loop-at.invariant.walked in
    let kind : c.flat_kind-kind.result ≡ first_kind (table.records before (entry e.code e.values) (entries_in (left parts (c.loop-at.at + 1))))
    = c.flat_kind-kind.ensures before c.loop-at.invariant.first c.loop-at.invariant.name
    ∙ ap (λ ps. first_kind (table.records before (entry e.code e.values) (entries_in (parts_contents ps)))) c.behind.ensures in
    record {
      walked = subst (λ n. Walked table c.args.number (suc c.args.number) parts (c.loop-at.at + 1) n 0) (sym (add-one c.loop-at.at))
          (walked-record table c.args.number (suc c.args.number) parts c.loop-at.at c.loop-at.at 0 c.index-parts-at.result e c.loop-at-test.true c.index-parts-at.is c.in-Entry.is c.loop-at.invariant.walked
          (ap (fault_at c.args.number c.loop-at.at) (sym kind) ∙ c.in_ok-free_at-in-Entry.ensures));
      first = ap (has_code 1) more
          ∙ (has-code-append 1 before (entry e.code e.values)
          ∙ (ap (λ b. b || (e.code == 1)) c.loop-at.invariant.first ∙ sym (ap (λ (come : Come). come.first) c.come_after-come.ensures)));
      name = ap (last_has_code 4) more ∙ (last-code-append 4 before (entry e.code e.values) ∙ sym (ap (λ (come : Come). come.name) c.come_after-come.ensures));
    }

pub overflow_add-result : goal.overflow_add-result
overflow_add-result c =
    omega (arith, c.requires.blocks, block-room c.args.parts.now c.loop-at.at 0 c.index-parts-at.result c.in-Block.inner c.loop-at-test.true c.index-parts-at.is c.in-Block.is c.loop-at.invariant.walked.counted)

pub returns-in-Block : goal.returns-in-Block
returns-in-Block c =
    let table : Table = flat_table_of (known_by c.args.tables.now) c.args.flat in
    let parts = c.args.parts.now in
    found-head table c.args.number (suc c.args.number) parts c.loop-at.at c.loop-at.at 0 c.index-parts-at.result c.in-Block.inner c.loop-at-test.true c.index-parts-at.is c.in-Block.is c.loop-at.invariant.walked
    (record { kind = c.misplaced_kind.result; block = c.args.number + 1; at = 0 })
    (flat-head (known_by c.args.tables.now) c.args.flat (past parts c.loop-at.at) c.in-Block.inner.id c.args.number c.misplaced_kind.result c.misplaced_kind.ensures)

pub returns-in_err-free_at-in-Entry : goal.returns-in_err-free_at-in-Entry
returns-in_err-free_at-in-Entry c =
    let table : Table = flat_table_of (known_by c.args.tables.now) c.args.flat in
    let parts = c.args.parts.now in
    let e = c.in-Entry.entry in
    let before = entries_in (past parts c.loop-at.at) in
    let kind : c.flat_kind-kind.result ≡ first_kind (table.records before (entry e.code e.values) (entries_in (left parts (c.loop-at.at + 1))))
    = c.flat_kind-kind.ensures before c.loop-at.invariant.first c.loop-at.invariant.name
    ∙ ap (λ ps. first_kind (table.records before (entry e.code e.values) (entries_in (parts_contents ps)))) c.behind.ensures in
    told-exit c.from_residual.result c.in_err-free_at-in-Entry.field-0.0 (fault_at c.args.number c.loop-at.at c.flat_kind-kind.result)
    (whole_fault table c.args.number (suc c.args.number) (parts_contents parts))
    c.from_residual.ensures.1
    (λ f is. found-record table c.args.number (suc c.args.number) parts c.loop-at.at c.loop-at.at 0 c.index-parts-at.result e c.loop-at-test.true c.index-parts-at.is c.in-Entry.is c.loop-at.invariant.walked
    f (ap (fault_at c.args.number c.loop-at.at) (sym kind) ∙ is))
    c.in_err-free_at-in-Entry.ensures

pub returns : goal.returns
returns c =
    let table : Table = flat_table_of (known_by c.args.tables.now) c.args.flat in
    let parts = c.args.parts.now in
    let ended = c.loop-at-test.false in
    told-same c.free_at-2.result (fault_at c.args.number (length parts) c.end_kind.result) (whole_fault table c.args.number (suc c.args.number) (parts_contents parts))
    (at-end table c.args.number (suc c.args.number) parts c.loop-at.at c.loop-at.at 0 ended c.loop-at.invariant.walked
    ∙ (ap (λ n. fault_at c.args.number n (first_kind (table.ends (parts_contents parts)))) at-length
    ∙ ap (fault_at c.args.number (length parts)) (sym (c.end_kind.ensures (parts_contents parts)
    (ap (λ ps. has_code 1 (entries_in (parts_contents ps))) (sym (take_all c.loop-at.at parts ended)) ∙ c.loop-at.invariant.first)))))
    c.free_at-2.ensures where
      at-length : c.loop-at.at ≡ length c.args.parts.now
      at-length = omega arith
