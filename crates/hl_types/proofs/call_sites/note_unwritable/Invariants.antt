use Rattle.std.proofs.Common.{◌≡◌, map}
use Rattle.hl_overload.specs.Views.{plain_params}
use Rattle.hl_parser.specs.Views.{plain_trees}
use Rattle.hl_rules.specs.ExpressionRules.{unwritable_arguments}
use Rattle.hl_rules.specs.Found.{breaking, gathered}
use Rattle.hl_rules.specs.Scopes.{Scope}
use Rattle.hl_rules.specs.Values.{values_of}
use Rattle.hl_values.specs.Views.{plain_value}
use Rattle.hl_types.proofs.WrittenLemmas.{written_from}
use Rattle.hl_types.proofs.call_sites.note_unwritable.Given as goal

abbrev pub invariant-loop-place : goal.invariant-loop-place
invariant-loop-place l = (s : Scope) → values_of s (plain_trees l.trees) ≡ map plain_value l.args
    → gathered l.found (breaking 37 (written_from s l.params l.trees l.place)) ≡ gathered l.fn.found (breaking 37 (unwritable_arguments s (plain_params l.params) (plain_trees l.trees)))
