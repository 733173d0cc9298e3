use Rattle.std.proofs.Common.{◌≡◌, Option, take}
use Rattle.hl_rules.specs.Scopes.{Sort, declared_among}
use Rattle.hl_values.specs.ScopeViews.{plain_blocks}
use Rattle.hl_values.proofs.lookup.in_blocks.Given as goal

abbrev pub invariant-loop-at : goal.invariant-loop-at
invariant-loop-at l = (other : Option Sort) → declared_among (plain_blocks l.blocks) l.name other ≡ declared_among (plain_blocks (take l.at l.blocks)) l.name other
