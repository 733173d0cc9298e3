-- What is read, as the machine sees it, and how deep it is.
use Rattle.std.specs.Prelude.{ℕ}
use Rattle.hl_parser.specs.declared.parts.Part.{Part}
use Rattle.hl_parser.specs.declared.parts.Part.TheVariants as parts
use Rattle.hl_parser.specs.Machine.{Value, no_value, token_value, tree_value, trees_value}
use Rattle.hl_parser.specs.Trees.{depth, depths}
use Rattle.hl_parser.specs.Views.{plain_of, plain_trees}

-- a value as the machine sees it
abbrev pub value_of : Part → Value
value_of (parts.Token index) = token_value index
value_of (parts.Tree tree) = tree_value (plain_of tree)
value_of (parts.Trees trees) = trees_value (plain_trees trees)
value_of parts.Nothing = no_value

-- how deep values are
abbrev pub depth_of : Value → ℕ
depth_of (token_value index) = 0
depth_of (tree_value tree) = depth tree
depth_of (trees_value trees) = depths trees
depth_of no_value = 0
