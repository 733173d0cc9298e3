use Rattle.std.proofs.Common.{◌≡◌, ◌++◌, take}
use Rattle.bc_records.proofs.push.with_text.Given as goal

abbrev pub invariant-loop-character : goal.invariant-loop-character
invariant-loop-character l = l.values.items ≡ l.first ++ take l.character-index l.text
