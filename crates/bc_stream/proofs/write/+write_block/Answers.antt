use Rattle.std.proofs.Common.{◌≡◌, ◌+◌, ◌/◌, ◌<◌, [], length, take, subst, sym, ap, ◌∙◌, arith}
use Rattle.std.proofs.lemmas.List.{take_all}
use Rattle.bc_stream.specs.Blocks.{a_block, a_record, no_more, append, parts_contents}
use Rattle.bc_stream.specs.Writing.{WroteAll}
use Rattle.bc_stream.proofs.BlockLemmas.{block_more, entry_more, parts_contents-none}
use Rattle.bc_stream.proofs.WroteAllLemmas.{wrote_no_more, wrote_same, wrote_append, wrote_block}
use Rattle.bc_stream.proofs.write.+write_block.Goals as goal
use Rattle.bc_stream.proofs.write.+write_block.Goals.{in-Block+in_ok-write_block-in-Block, in-Entry+in_ok-put_record-in-Entry}

pub loop-part-init : goal.loop-part-init
loop-part-init t c =
    wrote_same 3 no_more (parts_contents []) [] c.new-body.result (sym parts_contents-none)
    (subst (WroteAll 3 no_more []) (sym c.new-body.ensures) (wrote_no_more 3 []))

pub loop-part-preserved : goal.loop-part-preserved
loop-part-preserved t c =
    let parts = c.as_slice-part-items.result.now in
    let at = c.loop-part.part-index in
    let within : at < length parts = omega arith in
    elim c.match-part.branch [
      | in-Block+in_ok-write_block-in-Block w ↦
          let block = w.in-Block.inner in
          let new = w.write_block.new.writer in
          let one = a_block block.id (parts_contents block.parts) no_more in
          subst (WroteAll 3 (parts_contents (take (at + 1) parts)) []) (sym w.body-is)
          (wrote_same 3 (append (parts_contents (take at parts)) one) (parts_contents (take (at + 1) parts)) [] new
          (sym (block_more parts at c.part-item.result block within c.part-item.is w.in-Block.is))
          (wrote_append 3 (parts_contents (take at parts)) one [] c.loop-part.body new c.loop-part.invariant w.in_ok-write_block-in-Block.ensures.wrote))
      | in-Entry+in_ok-put_record-in-Entry w ↦
          let entry = w.in-Entry.entry in
          let new = w.put_record.new.writer in
          let one = a_record entry.code entry.values no_more in
          subst (WroteAll 3 (parts_contents (take (at + 1) parts)) []) (sym w.body-is)
          (wrote_same 3 (append (parts_contents (take at parts)) one) (parts_contents (take (at + 1) parts)) [] new
          (sym (entry_more parts at c.part-item.result entry within c.part-item.is w.in-Entry.is))
          (wrote_append 3 (parts_contents (take at parts)) one [] c.loop-part.body new c.loop-part.invariant w.in_ok-put_record-in-Entry.ensures))
    ]

pub returns-clause-wrote : goal.returns-clause-wrote
returns-clause-wrote t c =
    let parts = c.as_slice-part-items.result.now in
    let inner = parts_contents c.args.block.now.parts in
    let all : parts_contents (take c.loop-part.part-index parts) ≡ inner =
    ap parts_contents (take_all c.loop-part.part-index parts (omega arith) ∙ c.as_slice-part-items.ensures) in
    wrote_block c.args.width c.args.block.now.id (c.len.result / 4) inner c.into_bytes-body.result c.args.writer.now c.put_enter.new.writer c.put_words.new.self
    c.loop-part.body c.put_leave.new.writer
    c.in_ok-put_enter.ensures.fits (ap (λ n. n / 4) c.len.ensures.value)
    (wrote_same 3 (parts_contents (take c.loop-part.part-index parts)) inner [] c.loop-part.body all c.loop-part.invariant)
    c.in_ok-put_leave.ensures.wrote c.into_bytes-body.ensures.bits c.into_bytes-body.ensures.whole
    c.in_ok-put_enter.ensures.wrote c.in_ok-put_enter.ensures.whole c.in_ok-put_words.ensures
