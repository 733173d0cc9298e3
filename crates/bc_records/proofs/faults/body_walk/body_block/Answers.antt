use Rattle.std.proofs.Common.{◌≡◌, ◌∙◌, false, ap, refl, sym, suc, ◌+◌, subst, arith, add-one}
use Rattle.std.proofs.lemmas.List.{take_all}
use Rattle.bc_stream.specs.Blocks.{parts_contents}
use Rattle.bc_records.specs.declared.faults.place.Place.{Place}
use Rattle.bc_records.specs.BodyNumbers.{numbers_form}
use Rattle.bc_records.specs.BodyPlaces.{IsBehind, place_behind}
use Rattle.bc_records.specs.Entries.{entry, entries_in, block_count}
use Rattle.bc_records.specs.FaultSearch.{fault_at, first_kind}
use Rattle.bc_records.specs.FaultSites.{Table}
use Rattle.bc_records.specs.KnownTables.{known_by}
use Rattle.bc_records.specs.RecordFaults.{body_table}
use Rattle.bc_records.specs.RecordKinds.{Numbers, numbers_of, body_kinds, has_code, kind_unless}
use Rattle.bc_records.proofs.FaultWalk.{past, past-none, past-entries, Walked, walked-start, walked-record, walked-block, found-record, found-block, whole_fault, told-exit, told-same, at-end, block-room}
use Rattle.bc_records.proofs.FaultCounts.{count-block, count-entry, entries-block}
use Rattle.bc_records.proofs.FaultNumbers.{behind-more}
use Rattle.bc_records.proofs.FaultTables.{part_fault}
use Rattle.bc_records.proofs.faults.body_walk.body_block.Goals as goal
use Rattle.bc_records.proofs.faults.body_walk.body_block.Goals.{in-Entry+in_ok-free_at-in-Entry, in-Block+in_ok-body_part-in-Block}

pub loop-part-init : goal.loop-part-init
loop-part-init c =
    let parts = c.args.parts.now in
    let known = known_by c.args.tables.now in
    let numbers : Numbers = numbers_form c.in_ok-numbers.numbers in
    record {
      walked = subst (Walked (body_table known numbers) c.args.number (suc c.args.number) parts 0 0) (sym (ap block_count (past-none parts)))
          (walked-start (body_table known numbers) c.args.number (suc c.args.number) parts);
      behind = subst (λ es. IsBehind known numbers es (record { next = c.in_ok-numbers.numbers.first; declared = false; returns = 0; blocks = c.in_ok-numbers.numbers.blocks }))
          (sym (ap entries_in (past-none parts))) (record { next = refl; declared = refl; returns = refl; blocks = refl });
      numbered = omega (arith, ap block_count (past-none parts));
      at_limit = omega arith;
      next_limit = omega arith;
      returns_limit = omega arith;
    }

pub returns-in_err-free_at-in-Entry : goal.returns-in_err-free_at-in-Entry
returns-in_err-free_at-in-Entry c =
    let parts = c.args.parts.now in
    let known = known_by c.args.tables.now in
    let numbers : Numbers = numbers_form c.in_ok-numbers.numbers in
    let i = c.loop-part.part-index in
    let e = c.in-Entry.entry in
    let before = entries_in (past parts i) in
    let kind : c.body_kind-kind.result ≡ first_kind (body_kinds known numbers before (entry e.code e.values))
    = c.body_kind-kind.ensures numbers before c.loop-part.invariant.behind refl
    ∙ ap (λ ops. first_kind (body_kinds known numbers before (entry e.code ops))) c.as_slice-operands.ensures.value in
    told-exit c.from_residual-in_err-free_at-in-Entry.result c.in_err-free_at-in-Entry.field-0.0 (fault_at c.args.number c.loop-part.at c.body_kind-kind.result)
    (whole_fault (body_table known (numbers_of known c.args.function.now (parts_contents parts))) c.args.number (suc c.args.number) (parts_contents parts))
    c.from_residual-in_err-free_at-in-Entry.ensures.1
    (λ f is. ap (λ (n : Numbers). whole_fault (body_table known n) c.args.number (suc c.args.number) (parts_contents parts)) (sym c.in_ok-numbers.ensures.numbers)
    ∙ found-record (body_table known numbers) c.args.number (suc c.args.number) parts i c.loop-part.at (block_count (past parts i)) c.part-item.result e c.loop-part-test.true c.part-item.is c.in-Entry.is c.loop-part.invariant.walked
    f (ap (fault_at c.args.number c.loop-part.at) (sym kind) ∙ is))
    c.in_err-free_at-in-Entry.ensures

pub body_part-requires : goal.body_part-requires
body_part-requires c =
    omega (
      arith,
      c.requires.room,
      c.loop-part.invariant.numbered,
      block-room c.args.parts.now c.loop-part.part-index (block_count (past c.args.parts.now c.loop-part.part-index)) c.part-item.result c.in-Block.inner c.loop-part-test.true c.part-item.is c.in-Block.is refl,
    )

pub returns-in_err-body_part-in-Block : goal.returns-in_err-body_part-in-Block
returns-in_err-body_part-in-Block c =
    let parts = c.args.parts.now in
    let known = known_by c.args.tables.now in
    let numbers : Numbers = numbers_form c.in_ok-numbers.numbers in
    let i = c.loop-part.part-index in
    let b = c.in-Block.inner in
    told-exit c.from_residual-in_err-body_part-in-Block.result c.in_err-body_part-in-Block.field-0.0
    (part_fault known c.loop-part.next b.id (parts_contents b.parts))
    (whole_fault (body_table known (numbers_of known c.args.function.now (parts_contents parts))) c.args.number (suc c.args.number) (parts_contents parts))
    c.from_residual-in_err-body_part-in-Block.ensures.1
    (λ f is. ap (λ (n : Numbers). whole_fault (body_table known n) c.args.number (suc c.args.number) (parts_contents parts)) (sym c.in_ok-numbers.ensures.numbers)
    ∙ found-block (body_table known numbers) c.args.number (suc c.args.number) parts i c.loop-part.at (block_count (past parts i)) c.part-item.result b c.loop-part-test.true c.part-item.is c.in-Block.is c.loop-part.invariant.walked
    f (ap (λ n. part_fault known n b.id (parts_contents b.parts)) (sym c.loop-part.invariant.numbered) ∙ is))
    c.in_err-body_part-in-Block.ensures

pub loop-part-preserved : goal.loop-part-preserved
loop-part-preserved c =
    let parts = c.args.parts.now in
    let known = known_by c.args.tables.now in
    let numbers : Numbers = numbers_form c.in_ok-numbers.numbers in
    let table : Table = body_table known numbers in
    let i = c.loop-part.part-index in
    let count = block_count (past parts i) in
    let before = entries_in (past parts i) in
    let inv = c.loop-part.invariant in
    elim c.match-part.branch [
      | in-Entry+in_ok-free_at-in-Entry w ↦
          let e = w.in-Entry.entry in
          let kind : w.body_kind-kind.result ≡ first_kind (body_kinds known numbers before (entry e.code e.values))
          = w.body_kind-kind.ensures numbers before inv.behind refl
          ∙ ap (λ ops. first_kind (body_kinds known numbers before (entry e.code ops))) w.as_slice-operands.ensures.value in
          let same : c.match-part.place ≡ place_behind known c.loop-part.place (entry e.code e.values)
          = w.place-is ∙ (w.behind_record-place.ensures.value ∙ ap (λ ops. place_behind known c.loop-part.place (entry e.code ops)) w.as_slice-operands.ensures.value) in
          record {
            walked = subst (λ n. Walked table c.args.number (suc c.args.number) parts (i + 1) n (block_count (past parts (i + 1)))) (sym (w.at-is ∙ add-one c.loop-part.at))
                (subst (Walked table c.args.number (suc c.args.number) parts (i + 1) (suc c.loop-part.at)) (sym (count-entry parts i c.part-item.result e c.loop-part-test.true c.part-item.is w.in-Entry.is))
                (walked-record table c.args.number (suc c.args.number) parts i c.loop-part.at count c.part-item.result e c.loop-part-test.true c.part-item.is w.in-Entry.is inv.walked
                (ap (fault_at c.args.number c.loop-part.at) (sym kind) ∙ w.in_ok-free_at-in-Entry.ensures)));
            behind = subst (IsBehind known numbers (entries_in (past parts (i + 1)))) (sym same)
                (subst (λ es. IsBehind known numbers es (place_behind known c.loop-part.place (entry e.code e.values)))
                (sym (past-entries parts i c.part-item.result e c.loop-part-test.true c.part-item.is w.in-Entry.is))
                (behind-more known numbers before c.loop-part.place (entry e.code e.values) inv.behind));
            numbered = w.next-is ∙ (inv.numbered ∙ ap (λ n. suc c.args.number + n) (sym (count-entry parts i c.part-item.result e c.loop-part-test.true c.part-item.is w.in-Entry.is)));
            at_limit = omega (arith, w.at-is, inv.at_limit);
            next_limit = omega (arith, ap (λ (p : Place). p.next) w.place-is, w.behind_record-place.ensures.next, inv.next_limit);
            returns_limit = omega (arith, ap (λ (p : Place). p.returns) w.place-is, w.behind_record-place.ensures.returns, inv.returns_limit);
          }
      | in-Block+in_ok-body_part-in-Block w ↦
          let b = w.in-Block.inner in
          let more = count-block parts i c.part-item.result b c.loop-part-test.true c.part-item.is w.in-Block.is in
          let room = block-room parts i count c.part-item.result b c.loop-part-test.true c.part-item.is w.in-Block.is refl in
          record {
            walked = subst (λ n. Walked table c.args.number (suc c.args.number) parts (i + 1) n (block_count (past parts (i + 1)))) (sym w.at-is)
                (subst (Walked table c.args.number (suc c.args.number) parts (i + 1) c.loop-part.at) (sym more)
                (walked-block table c.args.number (suc c.args.number) parts i c.loop-part.at count c.part-item.result b c.loop-part-test.true c.part-item.is w.in-Block.is inv.walked
                (ap (λ n. part_fault known n b.id (parts_contents b.parts)) (sym inv.numbered) ∙ w.in_ok-body_part-in-Block.ensures)));
            behind = subst (IsBehind known numbers (entries_in (past parts (i + 1)))) (sym w.place-is)
                (subst (λ es. IsBehind known numbers es c.loop-part.place) (sym (entries-block parts i c.part-item.result b c.loop-part-test.true c.part-item.is w.in-Block.is)) inv.behind);
            numbered = omega (arith, w.next-is, more, inv.numbered, w.after_block-next.ensures (omega (arith, inv.numbered, room, c.requires.room)));
            at_limit = omega (arith, w.at-is, inv.at_limit);
            next_limit = omega (arith, ap (λ (p : Place). p.next) w.place-is, inv.next_limit);
            returns_limit = omega (arith, ap (λ (p : Place). p.returns) w.place-is, inv.returns_limit);
          }
    ]

pub returns : goal.returns
returns c =
    let parts = c.args.parts.now in
    let known = known_by c.args.tables.now in
    let numbers : Numbers = numbers_form c.in_ok-numbers.numbers in
    let i = c.loop-part.part-index in
    let inv = c.loop-part.invariant in
    let ended = c.loop-part-test.false in
    told-same c.free_at-2.result (fault_at c.args.number c.loop-part.at c.unless.result)
    (whole_fault (body_table known (numbers_of known c.args.function.now (parts_contents parts))) c.args.number (suc c.args.number) (parts_contents parts))
    (ap (λ (n : Numbers). whole_fault (body_table known n) c.args.number (suc c.args.number) (parts_contents parts)) (sym c.in_ok-numbers.ensures.numbers)
    ∙ (at-end (body_table known numbers) c.args.number (suc c.args.number) parts i c.loop-part.at (block_count (past parts i)) ended inv.walked
    ∙ ap (fault_at c.args.number c.loop-part.at)
    (ap (λ b. first_kind (kind_unless b 1)) (ap (λ ps. has_code 1 (entries_in (parts_contents ps))) (sym (take_all i parts ended)) ∙ inv.behind.declared)
    ∙ sym c.unless.ensures)))
    c.free_at-2.ensures
