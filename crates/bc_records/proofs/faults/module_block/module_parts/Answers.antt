use Rattle.std.proofs.Common.{◌≡◌, ◌∙◌, false, ap, refl, sym, suc, ◌+◌, subst, arith, add-one}
use Rattle.std.proofs.lemmas.List.{take_all}
use Rattle.bc_stream.specs.Blocks.{parts_contents}
use Rattle.bc_stream.proofs.BlockLemmas.{block_more, entry_more}
use Rattle.bc_records.specs.declared.faults.progress.Progress.{Progress}
use Rattle.bc_records.specs.Entries.{entry, entries_in, block_count}
use Rattle.bc_records.specs.FaultSearch.{fault_at, first_fault, first_kind}
use Rattle.bc_records.specs.FaultSites.{Table}
use Rattle.bc_records.specs.KnownTables.{known_by}
use Rattle.bc_records.specs.ModuleProgress.{HasCome, MarksBefore, behind_code, behind_id}
use Rattle.bc_records.specs.RecordFaults.{is_complete, module_heads, module_inside, module_table}
use Rattle.bc_records.specs.RecordKinds.{module_kinds, kind_unless}
use Rattle.bc_records.proofs.FaultWalk.{past, past-none, Walked, walked-start, walked-record, walked-block, found-record, found-block, whole_fault, told-exit, told-same, at-end, block-room}
use Rattle.bc_records.proofs.FaultCounts.{count-block, count-entry}
use Rattle.bc_records.proofs.FaultTables.{module_part_fault}
use Rattle.bc_records.proofs.FaultFlat.{second-none}
use Rattle.bc_records.proofs.FaultModules.{marks-record, come-record, come-block, count-bodies, bodies-limit}
use Rattle.bc_records.proofs.faults.module_block.module_parts.Goals as goal
use Rattle.bc_records.proofs.faults.module_block.module_parts.Goals.{in-Entry+in_ok-free_at-in-Entry, in-Block+in_ok-module_part-in-Block}

pub loop-part-init : goal.loop-part-init
loop-part-init c =
    let parts = c.args.parts.now in
    let table : Table = module_table (known_by c.args.tables.now) in
    record {
      walked = subst (Walked table c.args.number (suc c.args.number) parts 0 0) (sym (ap block_count (past-none parts)))
          (walked-start table c.args.number (suc c.args.number) parts);
      come = subst (λ b. HasCome b (record { version = false; triple = false; layout = false; types = false; bodies = 0 })) (sym (past-none parts))
          (record { version = refl; triple = refl; layout = refl; types = refl; bodies = refl });
      marked = subst (λ b. MarksBefore b c.args.marks.now) (sym (past-none parts)) c.requires.marked;
      numbered = omega (arith, ap block_count (past-none parts));
      at_limit = omega arith;
      bodies_limit = omega arith;
    }

pub returns-in_err-free_at-in-Entry : goal.returns-in_err-free_at-in-Entry
returns-in_err-free_at-in-Entry c =
    let parts = c.args.parts.now in
    let known = known_by c.args.tables.now in
    let i = c.loop-part.part-index in
    let e = c.in-Entry.entry in
    let kind : c.module_kind-kind.result ≡ first_kind (module_kinds known (entries_in (past parts i)) (entry e.code e.values))
    = c.module_kind-kind.ensures (past parts i) c.loop-part.invariant.come
    ∙ ap (λ ops. first_kind (module_kinds known (entries_in (past parts i)) (entry e.code ops))) c.as_slice.ensures.value in
    told-exit c.from_residual.result c.in_err-free_at-in-Entry.field-0.0 (fault_at c.args.number c.loop-part.at c.module_kind-kind.result)
    (whole_fault (module_table known) c.args.number (suc c.args.number) (parts_contents parts))
    c.from_residual.ensures.1
    (λ f is. found-record (module_table known) c.args.number (suc c.args.number) parts i c.loop-part.at (block_count (past parts i)) c.part-item.result e c.loop-part-test.true c.part-item.is c.in-Entry.is c.loop-part.invariant.walked
    f (ap (fault_at c.args.number c.loop-part.at) (sym kind) ∙ is))
    c.in_err-free_at-in-Entry.ensures

pub module_part-requires-clause-room : goal.module_part-requires-clause-room
module_part-requires-clause-room c =
    omega (
      arith,
      c.requires.room,
      c.loop-part.invariant.numbered,
      block-room c.args.parts.now c.loop-part.part-index (block_count (past c.args.parts.now c.loop-part.part-index)) c.part-item.result c.in-Block.inner c.loop-part-test.true c.part-item.is c.in-Block.is refl,
    )

pub returns-in_err-module_part-in-Block : goal.returns-in_err-module_part-in-Block
returns-in_err-module_part-in-Block c =
    let parts = c.args.parts.now in
    let known = known_by c.args.tables.now in
    let i = c.loop-part.part-index in
    let b = c.in-Block.inner in
    told-exit c.from_residual-in_err-module_part-in-Block.result c.in_err-module_part-in-Block.field-0.0
    (module_part_fault known (past parts i) c.loop-part.next b.id (parts_contents b.parts))
    (whole_fault (module_table known) c.args.number (suc c.args.number) (parts_contents parts))
    c.from_residual-in_err-module_part-in-Block.ensures.1
    (λ f is. found-block (module_table known) c.args.number (suc c.args.number) parts i c.loop-part.at (block_count (past parts i)) c.part-item.result b c.loop-part-test.true c.part-item.is c.in-Block.is c.loop-part.invariant.walked
    f (ap (λ n. module_part_fault known (past parts i) n b.id (parts_contents b.parts)) (sym c.loop-part.invariant.numbered) ∙ is))
    (c.in_err-module_part-in-Block.ensures.told (past parts i) c.loop-part.invariant.come c.loop-part.invariant.marked)

pub loop-part-preserved : goal.loop-part-preserved
loop-part-preserved c =
    let parts = c.args.parts.now in
    let known = known_by c.args.tables.now in
    let table : Table = module_table known in
    let i = c.loop-part.part-index in
    let count = block_count (past parts i) in
    let inv = c.loop-part.invariant in
    elim c.match-part.branch [
      | in-Entry+in_ok-free_at-in-Entry w ↦
          let e = w.in-Entry.entry in
          let kind : w.module_kind-kind.result ≡ first_kind (module_kinds known (entries_in (past parts i)) (entry e.code e.values))
          = w.module_kind-kind.ensures (past parts i) inv.come
          ∙ ap (λ ops. first_kind (module_kinds known (entries_in (past parts i)) (entry e.code ops))) w.as_slice.ensures.value in
          let same : c.match-part.progress ≡ behind_code c.loop-part.progress e.code = w.progress-is ∙ w.behind_record-progress.ensures in
          let more = entry_more parts i c.part-item.result e c.loop-part-test.true c.part-item.is w.in-Entry.is in
          record {
            walked = subst (λ n. Walked table c.args.number (suc c.args.number) parts (i + 1) n (block_count (past parts (i + 1)))) (sym (w.at-is ∙ add-one c.loop-part.at))
                (subst (Walked table c.args.number (suc c.args.number) parts (i + 1) (suc c.loop-part.at)) (sym (count-entry parts i c.part-item.result e c.loop-part-test.true c.part-item.is w.in-Entry.is))
                (walked-record table c.args.number (suc c.args.number) parts i c.loop-part.at count c.part-item.result e c.loop-part-test.true c.part-item.is w.in-Entry.is inv.walked
                (ap (fault_at c.args.number c.loop-part.at) (sym kind) ∙ w.in_ok-free_at-in-Entry.ensures)));
            come = subst (HasCome (past parts (i + 1))) (sym same)
                (subst (λ b. HasCome b (behind_code c.loop-part.progress e.code)) (sym more) (come-record (past parts i) c.loop-part.progress e.code e.values inv.come));
            marked = subst (MarksBefore (past parts (i + 1))) (sym w.marks-is)
                (subst (λ b. MarksBefore b c.loop-part.marks) (sym more) (marks-record (past parts i) e.code e.values c.loop-part.marks inv.marked));
            numbered = w.next-is ∙ (inv.numbered ∙ ap (λ n. suc c.args.number + n) (sym (count-entry parts i c.part-item.result e c.loop-part-test.true c.part-item.is w.in-Entry.is)));
            at_limit = omega (arith, w.at-is, inv.at_limit);
            bodies_limit = omega (arith, ap (λ (p : Progress). p.bodies) same, inv.bodies_limit);
          }
      | in-Block+in_ok-module_part-in-Block w ↦
          let b = w.in-Block.inner in
          let counted = count-block parts i c.part-item.result b c.loop-part-test.true c.part-item.is w.in-Block.is in
          let room = block-room parts i count c.part-item.result b c.loop-part-test.true c.part-item.is w.in-Block.is refl in
          let more = block_more parts i c.part-item.result b c.loop-part-test.true c.part-item.is w.in-Block.is in
          let same : c.match-part.progress ≡ behind_id c.loop-part.progress b.id = w.progress-is ∙ w.behind_block-progress.ensures in
          record {
            walked = subst (λ n. Walked table c.args.number (suc c.args.number) parts (i + 1) n (block_count (past parts (i + 1)))) (sym w.at-is)
                (subst (Walked table c.args.number (suc c.args.number) parts (i + 1) c.loop-part.at) (sym counted)
                (walked-block table c.args.number (suc c.args.number) parts i c.loop-part.at count c.part-item.result b c.loop-part-test.true c.part-item.is w.in-Block.is inv.walked
                (ap (λ n. module_part_fault known (past parts i) n b.id (parts_contents b.parts)) (sym inv.numbered) ∙ w.in_ok-module_part-in-Block.ensures.told (past parts i) inv.come inv.marked)));
            come = subst (HasCome (past parts (i + 1))) (sym same)
                (subst (λ d. HasCome d (behind_id c.loop-part.progress b.id)) (sym more) (come-block (past parts i) c.loop-part.progress b.id (parts_contents b.parts) inv.come));
            marked = subst (MarksBefore (past parts (i + 1))) (sym w.marks-is)
                (subst (λ d. MarksBefore d w.module_part.new.marks) (sym more) (w.in_ok-module_part-in-Block.ensures.marked (past parts i) inv.marked));
            numbered = omega (
              arith,
              w.next-is,
              counted,
              inv.numbered,
              w.number_behind-next.ensures known (past parts i)
                  (second-none (fault_at c.loop-part.next 0 (first_kind (module_heads known (past parts i) b.id))) (first_fault (module_inside known (past parts i) b.id c.loop-part.next (parts_contents b.parts)))
                  (w.in_ok-module_part-in-Block.ensures.told (past parts i) inv.come inv.marked))
                  (omega (arith, inv.numbered, room, c.requires.room)),
            );
            at_limit = omega (arith, w.at-is, inv.at_limit);
            bodies_limit = omega (arith, ap (λ (p : Progress). p.bodies) same, bodies-limit c.loop-part.progress b.id, inv.bodies_limit);
          }
    ]

pub returns : goal.returns
returns c =
    let parts = c.args.parts.now in
    let known = known_by c.args.tables.now in
    let table : Table = module_table known in
    let i = c.loop-part.part-index in
    let inv = c.loop-part.invariant in
    let ended = c.loop-part-test.false in
    let whole : past parts i ≡ parts_contents parts = ap parts_contents (take_all i parts ended) in
    told-same c.free_at-2.result (fault_at c.args.number c.loop-part.at c.unless.result)
    (whole_fault table c.args.number (suc c.args.number) (parts_contents parts))
    (at-end table c.args.number (suc c.args.number) parts i c.loop-part.at (block_count (past parts i)) ended inv.walked
    ∙ ap (fault_at c.args.number c.loop-part.at)
    (ap (λ b. first_kind (kind_unless (is_complete known b) 1)) (sym whole)
    ∙ (ap (λ t. first_kind (kind_unless t 1)) (sym (c.has_all.ensures known (past parts i) inv.come (count-bodies c.args.bodies.now known c.requires.bodies)))
    ∙ sym c.unless.ensures)))
    c.free_at-2.ensures
