-- The plain tree of a tree.
use Rattle.std.specs.Prelude.{List, [], ◌∷◌, map, Option, None, Some}
use Rattle.hl_parser.specs.declared.tree.Tree.{Tree, Tree-F, fold-Tree}
use Rattle.hl_parser.specs.Trees.{Trees, no_trees, more_trees, Maybe, absent, present, a_basic, a_binary, a_block, a_buffer, a_choice, a_constant, a_declarator, a_direction, a_do, a_for, a_function, a_jump, a_kind, a_local, a_member, a_param, a_postfix, a_primary, a_program, a_result, a_shared, a_start, a_stmt, a_struct, a_type, a_unary, a_while, an_args, an_attribute, an_expr, an_if, an_init, an_item}
use Rattle.hl_parser.specs.Trees as plain

abbrev pub trees_of : List plain.Tree → Trees
trees_of [] = no_trees
trees_of (tree ∷ trees) = more_trees tree (trees_of trees)

abbrev pub maybe_of : Option plain.Tree → Maybe
maybe_of None = absent
maybe_of (Some tree) = present tree

-- a tree with the plain trees of its parts
abbrev pub plain_step : Tree-F plain.Tree → plain.Tree
plain_step (Tree-F.Program at items) = a_program at (trees_of items)
plain_step (Tree-F.Item at item) = an_item at item
plain_step (Tree-F.Struct at name members) = a_struct at name (trees_of members)
plain_step (Tree-F.Member at ty declarators) = a_member at ty (trees_of declarators)
plain_step (Tree-F.Type at basic) = a_type at (maybe_of basic)
plain_step (Tree-F.Basic at) = a_basic at
plain_step (Tree-F.Declarator at lengths) = a_declarator at (trees_of lengths)
plain_step (Tree-F.Buffer at kind name register space) = a_buffer at kind name register space
plain_step (Tree-F.Kind at element) = a_kind at (maybe_of element)
plain_step (Tree-F.Shared at ty declarators) = a_shared at ty (trees_of declarators)
plain_step (Tree-F.Constant at ty declarator init) = a_constant at ty declarator init
plain_step (Tree-F.Init at value parts) = an_init at (maybe_of value) (trees_of parts)
plain_step (Tree-F.Function at attributes result name params block) = a_function at (trees_of attributes) result name (trees_of params) block
plain_step (Tree-F.Result at ty) = a_result at (maybe_of ty)
plain_step (Tree-F.Param at constant direction ty declarator semantic) = a_param at constant (maybe_of direction) ty declarator semantic
plain_step (Tree-F.Direction at) = a_direction at
plain_step (Tree-F.Attribute at name arguments) = an_attribute at name (trees_of arguments)
plain_step (Tree-F.Block at statements) = a_block at (trees_of statements)
plain_step (Tree-F.Stmt at part) = a_stmt at (maybe_of part)
plain_step (Tree-F.Local at constant ty starts) = a_local at constant ty (trees_of starts)
plain_step (Tree-F.Start at declarator init) = a_start at declarator (maybe_of init)
plain_step (Tree-F.If at attributes condition consequent alternative) = an_if at (trees_of attributes) condition consequent (maybe_of alternative)
plain_step (Tree-F.For at attributes first condition step body) = a_for at (trees_of attributes) (maybe_of first) (maybe_of condition) (maybe_of step) body
plain_step (Tree-F.While at attributes condition body) = a_while at (trees_of attributes) condition body
plain_step (Tree-F.Do at attributes body condition) = a_do at (trees_of attributes) body condition
plain_step (Tree-F.Jump at value) = a_jump at (maybe_of value)
plain_step (Tree-F.Expr at left mark right) = an_expr at left mark right
plain_step (Tree-F.Choice at condition consequent alternative) = a_choice at condition consequent alternative
plain_step (Tree-F.Or at left mark right) = a_binary 30 at left mark right
plain_step (Tree-F.And at left mark right) = a_binary 31 at left mark right
plain_step (Tree-F.Bitor at left mark right) = a_binary 32 at left mark right
plain_step (Tree-F.Bitxor at left mark right) = a_binary 33 at left mark right
plain_step (Tree-F.Bitand at left mark right) = a_binary 34 at left mark right
plain_step (Tree-F.Equal at left mark right) = a_binary 35 at left mark right
plain_step (Tree-F.Less at left mark right) = a_binary 36 at left mark right
plain_step (Tree-F.Shift at left mark right) = a_binary 37 at left mark right
plain_step (Tree-F.Sum at left mark right) = a_binary 38 at left mark right
plain_step (Tree-F.Product at left mark right) = a_binary 39 at left mark right
plain_step (Tree-F.Unary at cast operand) = a_unary at (maybe_of cast) operand
plain_step (Tree-F.Postfix at operand mark name part) = a_postfix at operand mark name (maybe_of part)
plain_step (Tree-F.Primary at part arguments) = a_primary at (maybe_of part) (maybe_of arguments)
plain_step (Tree-F.Args at arguments) = an_args at (trees_of arguments)

-- the plain tree
unfoldable pub plain_of : Tree → plain.Tree
plain_of = fold-Tree plain.Tree plain_step

abbrev pub plain_trees : List Tree → Trees
plain_trees trees = trees_of (map plain_of trees)

abbrev pub plain_maybe : Option Tree → Maybe
plain_maybe None = absent
plain_maybe (Some tree) = present (plain_of tree)
