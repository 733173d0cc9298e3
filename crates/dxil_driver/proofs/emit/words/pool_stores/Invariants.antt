use Rattle.std.proofs.Common.{◌≡◌, [], take}
use Rattle.std.specs.List.{All}
use Rattle.dxil_driver.specs.Emitted.{IsWord, words_from, Picks}
use Rattle.dxil_driver.specs.Places.{Knows}
use Rattle.dxil_driver.proofs.emit.words.pool_stores.Given as goal

abbrev pub invariant-loop-store : goal.invariant-loop-store
invariant-loop-store l = Knows l.pool.places l.pool.words × (l.pool.words ≡ words_from [] (take l.store-index l.stores)) × All IsWord l.pool.words × Picks l.pool.words l.pairs (take l.store-index l.stores)
