use Rattle.std.proofs.Common.{◌≡◌, ◌+◌, ◌%◌, ◌<◌, ◌++◌, ◌∷◌, [], length, take, subst, sym, ap, ◌∙◌, arith}
use Rattle.std.proofs.lemmas.List.{take_all}
use Rattle.bc_stream.specs.Blocks.{a_block, no_more, append, contents_of, parts_contents}
use Rattle.bc_stream.specs.Writing.{WroteAll}
use Rattle.bc_stream.proofs.BlockLemmas.{contents_of-none, contents_of-more}
use Rattle.bc_stream.proofs.WroteAllLemmas.{wrote_no_more, wrote_same, wrote_append, spelled}
use Rattle.bc_stream.proofs.write.write_blocks.Goals as goal

pub loop-block-init : goal.loop-block-init
loop-block-init c = record {
  wrote = wrote_same 2 no_more (contents_of []) [] c.new-writer.result (sym contents_of-none)
      (subst (WroteAll 2 no_more []) (sym c.new-writer.ensures) (wrote_no_more 2 []));
  whole = ap (λ l. length l % 32) c.new-writer.ensures;
}

pub loop-block-preserved : goal.loop-block-preserved
loop-block-preserved c =
    let blocks = c.as_slice-block-items.result.now in
    let at = c.loop-block.block-index in
    let within : at < length blocks = omega arith in
    let block = c.block-item.result in
    let one = a_block block.id (parts_contents block.parts) no_more in
    let new = c.write_block.new.writer in
    record {
      wrote = wrote_same 2 (append (contents_of (take at blocks)) one) (contents_of (take (at + 1) blocks)) [] new
          (sym (contents_of-more blocks at block within c.block-item.is))
          (wrote_append 2 (contents_of (take at blocks)) one [] c.loop-block.writer new c.loop-block.invariant.wrote c.in_ok-write_block.ensures.wrote);
      whole = c.in_ok-write_block.ensures.whole;
    }

pub returns-clause-spells : goal.returns-clause-spells
returns-clause-spells c =
    let blocks = c.as_slice-block-items.result.now in
    let all : contents_of (take c.loop-block.block-index blocks) ≡ contents_of c.args.blocks.now =
    ap contents_of (take_all c.loop-block.block-index blocks (omega arith) ∙ c.as_slice-block-items.ensures) in
    spelled c.args.blocks.now c.into_bytes-body.result c.loop-block.writer c.extend_from_slice.new.self c.requires.no_block_zero c.requires.nesting
    (wrote_same 2 (contents_of (take c.loop-block.block-index blocks)) (contents_of c.args.blocks.now) [] c.loop-block.writer all c.loop-block.invariant.wrote)
    c.into_bytes-body.ensures.bits
    (c.in_ok-extend_from_slice.ensures.ok ∙ (ap (λ l. l ++ c.as_slice.result.now) c.in_ok-bytes.ensures ∙ ap (λ l. 66 ∷ 67 ∷ 192 ∷ 222 ∷ l) c.as_slice.ensures.value))
