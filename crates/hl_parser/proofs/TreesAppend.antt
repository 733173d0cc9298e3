-- A tree more at the end of a list.
use Rattle.std.proofs.Common.{◌≡◌, refl, ap, List, [], ◌∷◌, ◌++◌}
use Rattle.hl_parser.specs.declared.tree.Tree.{Tree}
use Rattle.hl_parser.specs.Machine.{append_tree}
use Rattle.hl_parser.specs.Trees.{more_trees}
use Rattle.hl_parser.specs.Views.{plain_of, plain_trees}

pub plain_append : (ts : List Tree) (t : Tree) → plain_trees (ts ++ (t ∷ [])) ≡ append_tree (plain_trees ts) (plain_of t)
plain_append [] t = refl
plain_append (first ∷ ts) t = ap (more_trees (plain_of first)) (plain_append ts t)
