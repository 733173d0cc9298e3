use Rattle.std.proofs.Common.{ap, ◌∙◌, subst, sym}
use Rattle.std.proofs.lemmas.Result.{err_from_is_err_and}
use Rattle.bc_stream.specs.Blocks.{parts_contents}
use Rattle.bc_stream.specs.Pieces.{EntryAt, PieceAt}
use Rattle.bc_stream.specs.Bodies.{PartsAt}
use Rattle.bc_stream.proofs.BlockLemmas.{parts_contents-none, push-entry, push-block}
use Rattle.bc_stream.proofs.BodyLemmas.{no_parts_at, body_whole, entry_more, block_more, block_fault}
use Rattle.bc_stream.proofs.read.+read_body.Goals as goal

pub loop-few-init : goal.loop-few-init
loop-few-init t c = record {
  whole = no_parts_at c.args.bytes.now c.args.scope c.args.at (parts_contents c.args.parts.now.items) (ap parts_contents c.requires.empty ∙ parts_contents-none) c.requires.within;
  empty = c.new-inner_parts.ensures.items;
}

pub returns-in-Leave-clause-body : goal.returns-in-Leave-clause-body
returns-in-Leave-clause-body t c =
    let bytes = c.args.bytes.now in
    let piece = subst (PieceAt bytes c.args.scope c.loop-few.to) c.in-Leave.is c.in_ok-to.ensures in
    body_whole bytes c.args.scope c.args.at c.loop-few.to (record { parts = c.in_ok-parts-in-Leave.parts; to = c.in-Leave.to })
    (subst (λ parts. PartsAt bytes c.args.scope c.args.at (parts_contents parts) c.loop-few.to) (sym c.in_ok-parts-in-Leave.ensures.taken) c.loop-few.invariant.whole) piece

pub loop-few-preserved-in-Some : goal.loop-few-preserved-in-Some
loop-few-preserved-in-Some t c = record {
  whole =
      let bytes = c.args.bytes.now in
      let few = c.in-Some.few in
      let values = c.in_place-values.result in
      let entry = subst (λ l. EntryAt bytes c.args.scope c.loop-few.to few.code l few.to) (sym c.in_place-values.ensures) c.in-Some.ensures.entry in
      entry_more bytes c.args.scope c.args.at c.loop-few.to few.code few.to values (parts_contents c.loop-few.parts.items) (parts_contents c.push_part.new.parts.items)
      c.loop-few.invariant.whole entry (ap parts_contents c.in_ok-push_part.ensures ∙ push-entry c.loop-few.parts.items (record { code = few.code; values = values }));
  empty = c.loop-few.invariant.empty;
}

pub loop-few-preserved-in-Record : goal.loop-few-preserved-in-Record
loop-few-preserved-in-Record t c = record {
  whole =
      let bytes = c.args.bytes.now in
      let piece = subst (PieceAt bytes c.args.scope c.loop-few.to) c.in-Record.is c.in_ok-to.ensures in
      entry_more bytes c.args.scope c.args.at c.loop-few.to c.in-Record.code c.in-Record.behind c.in-Record.values (parts_contents c.loop-few.parts.items) (parts_contents c.push_part-in-Record.new.parts.items)
      c.loop-few.invariant.whole piece (ap parts_contents c.in_ok-push_part-in-Record.ensures ∙ push-entry c.loop-few.parts.items (record { code = c.in-Record.code; values = c.in-Record.values }));
  empty = c.loop-few.invariant.empty;
}

pub returns-in_err-body-in-Enter-clause-body : goal.returns-in_err-body-in-Enter-clause-body
returns-in_err-body-in-Enter-clause-body t c =
    let bytes = c.args.bytes.now in
    let piece = subst (PieceAt bytes c.args.scope c.loop-few.to) c.in-Enter.is c.in_ok-to.ensures in
    let p = err_from_is_err_and c.from_residual-in_err-body-in-Enter.result c.from_residual-in_err-body-in-Enter.ensures.1 in
    rw (p.1, p.2) (block_fault bytes c.args.scope c.in-Enter.inner c.args.at c.loop-few.to c.in-Enter.id c.in-Enter.behind (parts_contents c.loop-few.parts.items) c.in_err-body-in-Enter.field-0.0
    c.loop-few.invariant.whole piece c.in_err-body-in-Enter.ensures.body)

pub loop-few-preserved : goal.loop-few-preserved
loop-few-preserved t c = record {
  whole =
      let bytes = c.args.bytes.now in
      let piece = subst (PieceAt bytes c.args.scope c.loop-few.to) c.in-Enter.is c.in_ok-to.ensures in
      block_more bytes c.args.scope c.in-Enter.inner c.args.at c.loop-few.to c.in-Enter.id c.in-Enter.behind c.in_ok-body-in-Enter.body (parts_contents c.loop-few.parts.items) (parts_contents c.push_part-in-Enter.new.parts.items)
      c.loop-few.invariant.whole piece c.in_ok-body-in-Enter.ensures.body (ap parts_contents c.in_ok-push_part-in-Enter.ensures ∙ push-block c.loop-few.parts.items (record { id = c.in-Enter.id; parts = c.in_ok-body-in-Enter.body.parts }));
  empty = c.in_ok-body-in-Enter.ensures.left;
}
