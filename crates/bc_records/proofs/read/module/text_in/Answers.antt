use Rattle.std.proofs.Common.{ℕ, List, ◌+◌, ◌∙◌, ap, sym, refl}
use Rattle.bc_stream.specs.Blocks.{Contents, parts_contents}
use Rattle.bc_records.specs.Entries.{entries_in}
use Rattle.bc_records.specs.Read.{read_text, text}
use Rattle.bc_records.proofs.Numbers.{test_same, test_other}
use Rattle.bc_records.proofs.ReadSteps.{from, record_next, record_step, block_step, stop, ok_same}
use Rattle.bc_records.proofs.read.module.text_in.Goals as goal
use Rattle.bc_records.proofs.read.module.text_in.Goals.{in-Entry+else-entry-code, in-Block}

abbrev text_of : ℕ → Contents → List ℕ
text_of code rest = read_text code (entries_in rest)

pub returns-then-entry-code : goal.returns-then-entry-code
returns-then-entry-code c =
    let parts = c.as_slice-part-items.result.now in
    let code = c.args.code in
    let i = c.loop-part.part-index in
    let e = c.in-Entry.entry in
    let rest = entries_in (from parts (i + 1)) in
    ok_same c.read_text.result (text c.as_slice.result.now) (text_of code (parts_contents c.args.inner.now)) c.read_text.ensures
    (ap text c.as_slice.ensures.value
    ∙ (sym (test_same e.code code (text e.values) (read_text code rest) c.if-entry-code.true)
    ∙ (ap (text_of code) (sym (record_next parts i c.part-item.result e c.loop-part-test.true c.part-item.is c.in-Entry.is))
    ∙ (c.loop-part.invariant ∙ ap (λ p. text_of code (parts_contents p)) c.as_slice-part-items.ensures))))

pub loop-part-preserved : goal.loop-part-preserved
loop-part-preserved c =
    let parts = c.as_slice-part-items.result.now in
    let code = c.args.code in
    let whole = text_of code (parts_contents parts) in
    elim c.match-part.branch [
      | in-Entry+else-entry-code w ↦
          record_step (text_of code) (text_of code) whole parts c.loop-part.part-index c.part-item.result w.in-Entry.entry
          c.loop-part-test.true c.part-item.is w.in-Entry.is
          (λ rest. sym (test_other w.in-Entry.entry.code code (text w.in-Entry.entry.values) (text_of code rest) w.if-entry-code.false)) c.loop-part.invariant
      | in-Block w ↦
          block_step (text_of code) (text_of code) whole parts c.loop-part.part-index c.part-item.result w.in-Block.field-0
          c.loop-part-test.true c.part-item.is w.in-Block.is (λ rest. refl) c.loop-part.invariant
    ]

pub returns : goal.returns
returns c =
    let parts = c.as_slice-part-items.result.now in
    let code = c.args.code in
    c.new.ensures ∙ (stop (text_of code) (text_of code (parts_contents parts)) parts c.loop-part.part-index c.loop-part-test.false c.loop-part.invariant
    ∙ ap (λ p. text_of code (parts_contents p)) c.as_slice-part-items.ensures)
