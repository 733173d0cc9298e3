use Rattle.std.proofs.Common.{◌≡◌, ◌++◌, take}
use Rattle.bc_records.proofs.push.with_words.Given as goal

abbrev pub invariant-loop-word : goal.invariant-loop-word
invariant-loop-word l = l.values.items ≡ l.first ++ take l.word-index l.more
