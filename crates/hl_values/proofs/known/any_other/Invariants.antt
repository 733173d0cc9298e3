use Rattle.std.proofs.Common.{◌≡◌, drop}
use Rattle.hl_values.specs.GlobalNames.{any_other}
use Rattle.hl_values.specs.NameTables.{positions_from}
use Rattle.hl_values.proofs.known.any_other.Given as goal

abbrev pub invariant-loop-at : goal.invariant-loop-at
invariant-loop-at l = any_other l.names (positions_from 0 l.name l.names) ≡ any_other l.names (drop l.at-index l.at-items)
