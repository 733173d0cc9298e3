use Rattle.std.proofs.Common.{◌≡◌, drop, map}
use Rattle.hl_values.specs.NameTables.{positions_from}
use Rattle.hl_values.specs.ScopeViews.{plain_param}
use Rattle.hl_types.specs.Signatures.{any_same}
use Rattle.hl_types.proofs.signatures.any_same.Given as goal

abbrev pub invariant-loop-at : goal.invariant-loop-at
invariant-loop-at l = any_same l.functions (map plain_param l.params) (positions_from 0 l.name l.functions) ≡ any_same l.functions (map plain_param l.params) (drop l.at-index l.at-items)
