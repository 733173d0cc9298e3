use Rattle.std.proofs.Common.{◌≡◌, ◌++◌, drop, map}
use Rattle.hl_parser.specs.Views.{plain_trees}
use Rattle.hl_rules.specs.DeclarationRules.{leaves_among}
use Rattle.hl_rules.specs.Elaboration.{leaf_word}
use Rattle.hl_values.specs.ScopeViews.{scope_of}
use Rattle.hl_types.proofs.constant_words.+leaf_words.Given as goal

abbrev pub invariant-add_all_words-loop-tree : goal.invariant-add_all_words-loop-tree
invariant-add_all_words-loop-tree l =
    l.words ++ map (leaf_word (scope_of l.scope)) (leaves_among (plain_trees (drop l.tree-index l.tree-items)))
    ≡ l.initial.words ++ map (leaf_word (scope_of l.scope)) (leaves_among (plain_trees l.tree-items))
