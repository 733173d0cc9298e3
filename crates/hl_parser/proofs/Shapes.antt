-- Which production a tree is, where it is spelled as one.
use Rattle.std.proofs.Common.{ℕ, ◌≤◌, List, None, Some}
use Rattle.hl_parser.specs.Grammar.{Numbered, Spells, last_for, n_or, n_product}
use Rattle.hl_parser.specs.Trees.{Tree, a_program, an_item, a_struct, a_member, a_type, a_basic, a_declarator, a_buffer, a_kind, a_shared, a_constant, an_init, a_function, a_result, a_param, a_direction, an_attribute, a_block, a_stmt, a_local, a_start, an_if, a_for, a_while, a_do, a_jump, an_expr, a_choice, a_binary, a_unary, a_postfix, a_primary, an_args, no_trees, more_trees, absent, present}

-- the number of the production
abbrev pub number_of : Tree → ℕ
number_of (a_program at items) = 1
number_of (an_item at item) = 2
number_of (a_struct at name members) = 3
number_of (a_member at type declarators) = 4
number_of (a_type at basic) = 5
number_of (a_basic at) = 6
number_of (a_declarator at lengths) = 7
number_of (a_buffer at kind name register space) = 8
number_of (a_kind at element) = 9
number_of (a_shared at type declarators) = 10
number_of (a_constant at type declarator init) = 11
number_of (an_init at value parts) = 12
number_of (a_function at attributes result name params block) = 13
number_of (a_result at type) = 14
number_of (a_param at constant direction type declarator semantic) = 15
number_of (a_direction at) = 16
number_of (an_attribute at name arguments) = 17
number_of (a_block at statements) = 18
number_of (a_stmt at part) = 19
number_of (a_local at constant type starts) = 20
number_of (a_start at declarator init) = 21
number_of (an_if at attributes condition consequent alternative) = 22
number_of (a_for at attributes first condition step body) = 23
number_of (a_while at attributes condition body) = 24
number_of (a_do at attributes body condition) = 25
number_of (a_jump at value) = 26
number_of (an_expr at left mark right) = 27
number_of (a_choice at condition consequent alternative) = 29
number_of (a_binary production at left mark right) = production
number_of (a_unary at cast operand) = 40
number_of (a_postfix at operand mark name part) = 41
number_of (a_primary at part arguments) = 42
number_of (an_args at arguments) = 43

abbrev pub IsInTable : Tree → Type 0
IsInTable (a_binary production at left mark right) = (n_or ≤ production) × (production ≤ n_product)
IsInTable tree = Unit {0}

pub record IsNumber (tree : Tree) (asked : ℕ) : Type 0 where
  pub from : asked ≤ number_of tree
  pub to : number_of tree ≤ last_for asked
  pub table : IsInTable tree

pub number_is : (tree : Tree) (asked : ℕ) (from to : List Numbered) → Spells asked tree from to → IsNumber tree asked
number_is (a_program at no_trees) asked from to h = absurd h
number_is (a_program at (more_trees first items)) asked from to (a, b, h) = record { from = a; to = b; table = tt }
number_is (an_item at item) asked from to (a, b, h) = record { from = a; to = b; table = tt }
number_is (a_struct at name members) asked from to (a, b, h) = record { from = a; to = b; table = tt }
number_is (a_member at type declarators) asked from to (a, b, h) = record { from = a; to = b; table = tt }
number_is (a_type at (present basic)) asked from to (a, b, h) = record { from = a; to = b; table = tt }
number_is (a_type at absent) asked from to (a, b, h) = record { from = a; to = b; table = tt }
number_is (a_basic at) asked from to (a, b, h) = record { from = a; to = b; table = tt }
number_is (a_declarator at lengths) asked from to (a, b, h) = record { from = a; to = b; table = tt }
number_is (a_buffer at kind name register space) asked from to (a, b, h) = record { from = a; to = b; table = tt }
number_is (a_kind at absent) asked from to (a, b, h) = record { from = a; to = b; table = tt }
number_is (a_kind at (present element)) asked from to (a, b, h) = record { from = a; to = b; table = tt }
number_is (a_shared at type declarators) asked from to (a, b, h) = record { from = a; to = b; table = tt }
number_is (a_constant at type declarator init) asked from to (a, b, h) = record { from = a; to = b; table = tt }
number_is (an_init at (present value) no_trees) asked from to (a, b, h) = record { from = a; to = b; table = tt }
number_is (an_init at (present value) (more_trees part parts)) asked from to h = absurd h
number_is (an_init at absent parts) asked from to (a, b, h) = record { from = a; to = b; table = tt }
number_is (a_function at attributes result name params block) asked from to (a, b, h) = record { from = a; to = b; table = tt }
number_is (a_result at absent) asked from to (a, b, h) = record { from = a; to = b; table = tt }
number_is (a_result at (present type)) asked from to (a, b, h) = record { from = a; to = b; table = tt }
number_is (a_param at constant direction type declarator semantic) asked from to (a, b, h) = record { from = a; to = b; table = tt }
number_is (a_direction at) asked from to (a, b, h) = record { from = a; to = b; table = tt }
number_is (an_attribute at name arguments) asked from to (a, b, h) = record { from = a; to = b; table = tt }
number_is (a_block at statements) asked from to (a, b, h) = record { from = a; to = b; table = tt }
number_is (a_stmt at (present part)) asked from to (a, b, h) = record { from = a; to = b; table = tt }
number_is (a_stmt at absent) asked from to (a, b, h) = record { from = a; to = b; table = tt }
number_is (a_local at constant type starts) asked from to (a, b, h) = record { from = a; to = b; table = tt }
number_is (a_start at declarator init) asked from to (a, b, h) = record { from = a; to = b; table = tt }
number_is (an_if at attributes condition consequent alternative) asked from to (a, b, h) = record { from = a; to = b; table = tt }
number_is (a_for at attributes first condition step body) asked from to (a, b, h) = record { from = a; to = b; table = tt }
number_is (a_while at attributes condition body) asked from to (a, b, h) = record { from = a; to = b; table = tt }
number_is (a_do at attributes body condition) asked from to (a, b, h) = record { from = a; to = b; table = tt }
number_is (a_jump at absent) asked from to (a, b, h) = record { from = a; to = b; table = tt }
number_is (a_jump at (present value)) asked from to (a, b, h) = record { from = a; to = b; table = tt }
number_is (an_expr at left mark right) asked from to (a, b, h) = record { from = a; to = b; table = tt }
number_is (a_choice at condition consequent alternative) asked from to (a, b, h) = record { from = a; to = b; table = tt }
number_is (a_binary production at left mark right) asked from to (low, high, (a, b, h)) = record { from = a; to = b; table = (low, high) }
number_is (a_unary at absent operand) asked from to (a, b, h) = record { from = a; to = b; table = tt }
number_is (a_unary at (present basic) operand) asked from to (a, b, h) = record { from = a; to = b; table = tt }
number_is (a_postfix at operand mark (Some name) absent) asked from to (a, b, h) = record { from = a; to = b; table = tt }
number_is (a_postfix at operand mark (Some name) (present arguments)) asked from to (a, b, h) = record { from = a; to = b; table = tt }
number_is (a_postfix at operand mark None (present index)) asked from to (a, b, h) = record { from = a; to = b; table = tt }
number_is (a_postfix at operand mark None absent) asked from to (a, b, h) = record { from = a; to = b; table = tt }
number_is (a_primary at absent absent) asked from to (a, b, h) = record { from = a; to = b; table = tt }
number_is (a_primary at absent (present arguments)) asked from to (a, b, h) = record { from = a; to = b; table = tt }
number_is (a_primary at (present basic) (present arguments)) asked from to (a, b, h) = record { from = a; to = b; table = tt }
number_is (a_primary at (present inner) absent) asked from to (a, b, h) = record { from = a; to = b; table = tt }
number_is (an_args at arguments) asked from to (a, b, h) = record { from = a; to = b; table = tt }
