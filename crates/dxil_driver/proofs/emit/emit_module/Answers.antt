use Rattle.std.proofs.Common.{refl}
use Rattle.dxil_driver.proofs.EmittedFacts.{has_metadata}
use Rattle.dxil_driver.proofs.Assembled.{assembled, is_emitted}
use Rattle.dxil_driver.proofs.WordPlaces.{picks-short}
use Rattle.dxil_driver.proofs.emit.emit_module.Goals as goal

pub emit_body-requires-clause-pairs : goal.emit_body-requires-clause-pairs
emit_body-requires-clause-pairs c =
    rw c.as_slice-2.ensures.value (picks-short c.in_ok-words.words c.in_ok-words.pairs c.args.stores.now c.as_slice.ensures.limit c.in_ok-words.ensures.pairs)

pub returns-clause-emitted : goal.returns-clause-emitted
returns-clause-emitted c =
    is_emitted c.args.entry.now c.args.buffer.now c.args.threads.now c.args.stores.now c.args.stores.now c.in_ok-words.words c.as_slice.result.now c.in_ok-words.pairs c.as_slice-2.result.now c.in_ok-body.body _ refl c.as_slice.ensures.value c.as_slice-2.ensures.value c.in_ok-words.ensures.words c.in_ok-words.ensures.fit c.in_ok-words.ensures.pairs c.in_ok-body.ensures (λ e. assembled c.args.entry.now c.args.buffer.now c.args.threads.now c.in_ok-words.words c.in_ok-words.pairs c.in_ok-from_slice.field-0 c.in_ok-from_slice-2.field-0 c.in_ok-emit_types.field-0 c.new.result c.in_ok-body.body c.in_ok-emit_functions.field-0 c.in_ok-emit_constants.field-0 c.in_ok-emit_metas.field-0 c.in_ok-emit_named.field-0 c.in_ok-from_slice.ensures c.in_ok-from_slice-2.ensures c.in_ok-emit_types.ensures c.new.ensures e c.in_ok-emit_functions.ensures c.in_ok-emit_constants.ensures c.in_ok-emit_metas.ensures c.in_ok-emit_named.ensures)

pub returns-clause-metadata : goal.returns-clause-metadata
returns-clause-metadata c =
    has_metadata c.args.entry.now c.args.buffer.now c.args.threads.now c.args.stores.now _ (returns-clause-emitted c) c.fits-threads
