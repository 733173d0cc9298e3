use Rattle.std.proofs.Common.{◌≡◌, false, drop}
use Rattle.hl_parser.specs.Views.{plain_trees}
use Rattle.hl_rules.specs.Rules.{noted}
use Rattle.hl_rules.specs.Sites.{function_attributes_sites}
use Rattle.hl_values.specs.ScopeViews.{scope_of}
use Rattle.hl_types.proofs.function_attributes.note_function_attributes.Given as goal

abbrev pub invariant-loop-tree : goal.invariant-loop-tree
invariant-loop-tree l =
    noted l.found (function_attributes_sites (scope_of l.scope) l.again (plain_trees (drop l.tree-index l.attributes))) ≡ noted l.initial.found (function_attributes_sites (scope_of l.scope) false (plain_trees l.attributes))
