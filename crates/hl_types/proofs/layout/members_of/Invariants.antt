use Rattle.std.proofs.Common.{◌≡◌, ◌++◌, drop, map}
use Rattle.hl_meaning.specs.Views.{plain_member as program_member}
use Rattle.hl_rules.specs.Statements.{members_from}
use Rattle.hl_values.specs.StructTables.{plain_member, plain_structs}
use Rattle.hl_types.proofs.layout.members_of.Given as goal

abbrev pub invariant-loop-at : goal.invariant-loop-at
invariant-loop-at l =
    map program_member l.made ++ members_from (plain_structs l.structs) l.offset (map plain_member (drop l.at l.table))
    ≡ members_from (plain_structs l.structs) 0 (map plain_member l.table)
