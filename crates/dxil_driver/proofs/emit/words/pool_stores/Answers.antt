use Rattle.std.proofs.Common.{take, get_or}
use Rattle.std.proofs.lemmas.List.{take_more}
use Rattle.dxil_driver.specs.declared.stores.LiteralStore.{LiteralStore}
use Rattle.dxil_driver.proofs.WordPlaces.{pool_step}
use Rattle.dxil_driver.proofs.emit.words.pool_stores.Goals as goal

pub loop-store-preserved : goal.loop-store-preserved
loop-store-preserved c =
    let none : LiteralStore = record { address = 0; word = 0 } in
    let step = pool_step (take c.loop-store.store-index c.args.stores.now) (get_or c.args.stores.now c.loop-store.store-index none) c.loop-store.pool.words c.place_of.new.self.words c.place_of-in-loop-store.new.self.words c.loop-store.pairs c.push.new.self (c.in_ok-address.address, c.in_ok-word.word) c.loop-store.invariant.1 c.loop-store.invariant.3 c.in_ok-address.ensures.words c.in_ok-address.ensures.place c.in_ok-word.ensures.words c.in_ok-word.ensures.place c.in_ok-push.ensures.ok in
    let more = take_more c.args.stores.now c.loop-store.store-index none c.loop-store-test.true in
    rw more (c.in_ok-word.ensures.knows, step.0, c.in_ok-word.ensures.fit (c.in_ok-address.ensures.fit c.loop-store.invariant.2), step.1)
