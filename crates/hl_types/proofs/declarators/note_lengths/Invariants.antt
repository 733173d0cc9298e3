use Rattle.std.proofs.Common.{◌≡◌, drop}
use Rattle.hl_parser.specs.Views.{plain_trees}
use Rattle.hl_rules.specs.Rules.{noted}
use Rattle.hl_rules.specs.Sites.{lengths_sites}
use Rattle.hl_values.specs.ScopeViews.{scope_of}
use Rattle.hl_types.proofs.declarators.note_lengths.Given as goal

abbrev pub invariant-loop-before : goal.invariant-loop-before
invariant-loop-before l =
    noted l.found (lengths_sites (scope_of l.scope) l.before (plain_trees (drop l.before l.lengths))) ≡ noted l.initial.found (lengths_sites (scope_of l.scope) 0 (plain_trees l.lengths))
