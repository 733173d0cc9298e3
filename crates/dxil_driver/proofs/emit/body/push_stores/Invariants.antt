use Rattle.std.proofs.Common.{◌≡◌, ◌++◌, map, take}
use Rattle.dxil_driver.specs.Emitted.{buffer_store}
use Rattle.dxil_driver.proofs.emit.body.push_stores.Given as goal

abbrev pub invariant-loop-pair : goal.invariant-loop-pair
invariant-loop-pair l = l.insts ≡ l.fn.insts ++ map (buffer_store l.handle) (take l.pair-index l.pairs)
