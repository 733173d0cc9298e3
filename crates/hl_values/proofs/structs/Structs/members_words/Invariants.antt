use Rattle.std.proofs.Common.{◌≡◌, option_map, map, drop}
use Rattle.hl_rules.specs.Scopes.{members_words}
use Rattle.hl_values.specs.StructTables.{plain_member, plain_structs}
use Rattle.hl_values.specs.WordCounts.{counted}
use Rattle.hl_values.proofs.structs.Structs.members_words.Given as goal

abbrev pub invariant-loop-at : goal.invariant-loop-at
invariant-loop-at l = l.words ≡ option_map counted (members_words (plain_structs l.self) (map plain_member (drop l.at l.members)))
