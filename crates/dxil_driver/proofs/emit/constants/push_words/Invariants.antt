use Rattle.std.proofs.Common.{◌≡◌, ◌++◌, map, take}
use Rattle.dxil_driver.specs.Emitted.{word_constant}
use Rattle.dxil_driver.proofs.emit.constants.push_words.Given as goal

abbrev pub invariant-loop-word : goal.invariant-loop-word
invariant-loop-word l = l.consts ≡ l.fn.consts ++ map word_constant (take l.word-index l.words)
