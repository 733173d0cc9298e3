-- Trees as plain data, apart from how they are held, and how deep they are.
--
-- A tree has the index of its first token, `at`, and its parts in order: trees, and the indices of the tokens that
-- say more than that they stand there. The first token itself is such a part too, where the grammar begins with one.
use Rattle.std.specs.Prelude.{ℕ, suc, max, Option}

mutual
  -- a tree, one form for each production. The ten productions of operators that repeat are one form with the number
  -- of the production, and the 28th, which always has one part alone, has none
  pub data Tree : Type 0 where
    a_program : (at : ℕ) (items : Trees) → Tree
    an_item : (at : ℕ) (item : Tree) → Tree
    a_struct : (at name : ℕ) (members : Trees) → Tree
    a_member : (at : ℕ) (type : Tree) (declarators : Trees) → Tree
    a_type : (at : ℕ) (basic : Maybe) → Tree
    a_basic : (at : ℕ) → Tree
    a_declarator : (at : ℕ) (lengths : Trees) → Tree
    a_buffer : (at : ℕ) (kind : Tree) (name : ℕ) (register space : Option ℕ) → Tree
    a_kind : (at : ℕ) (element : Maybe) → Tree
    a_shared : (at : ℕ) (type : Tree) (declarators : Trees) → Tree
    a_constant : (at : ℕ) (type declarator init : Tree) → Tree
    an_init : (at : ℕ) (value : Maybe) (parts : Trees) → Tree
    a_function : (at : ℕ) (attributes : Trees) (result : Tree) (name : ℕ) (params : Trees) (block : Tree) → Tree
    a_result : (at : ℕ) (type : Maybe) → Tree
    a_param : (at : ℕ) (constant : Option ℕ) (direction : Maybe) (type declarator : Tree) (semantic : Option ℕ) → Tree
    a_direction : (at : ℕ) → Tree
    an_attribute : (at name : ℕ) (arguments : Trees) → Tree
    a_block : (at : ℕ) (statements : Trees) → Tree
    a_stmt : (at : ℕ) (part : Maybe) → Tree
    a_local : (at : ℕ) (constant : Option ℕ) (type : Tree) (starts : Trees) → Tree
    a_start : (at : ℕ) (declarator : Tree) (init : Maybe) → Tree
    an_if : (at : ℕ) (attributes : Trees) (condition consequent : Tree) (alternative : Maybe) → Tree
    a_for : (at : ℕ) (attributes : Trees) (first condition step : Maybe) (body : Tree) → Tree
    a_while : (at : ℕ) (attributes : Trees) (condition body : Tree) → Tree
    a_do : (at : ℕ) (attributes : Trees) (body condition : Tree) → Tree
    a_jump : (at : ℕ) (value : Maybe) → Tree
    an_expr : (at : ℕ) (left : Tree) (mark : ℕ) (right : Tree) → Tree
    a_choice : (at : ℕ) (condition consequent alternative : Tree) → Tree
    a_binary : (production at : ℕ) (left : Tree) (mark : ℕ) (right : Tree) → Tree
    a_unary : (at : ℕ) (cast : Maybe) (operand : Tree) → Tree
    a_postfix : (at : ℕ) (operand : Tree) (mark : ℕ) (name : Option ℕ) (part : Maybe) → Tree
    a_primary : (at : ℕ) (part arguments : Maybe) → Tree
    an_args : (at : ℕ) (arguments : Trees) → Tree

  -- trees in order
  pub data Trees : Type 0 where
    no_trees : Trees
    more_trees : (first : Tree) (rest : Trees) → Trees

  -- a tree, or none
  pub data Maybe : Type 0 where
    absent : Maybe
    present : (tree : Tree) → Maybe

-- the index of the first token
abbrev pub at_of : Tree → ℕ
at_of (a_program at items) = at
at_of (an_item at item) = at
at_of (a_struct at name members) = at
at_of (a_member at type declarators) = at
at_of (a_type at basic) = at
at_of (a_basic at) = at
at_of (a_declarator at lengths) = at
at_of (a_buffer at kind name register space) = at
at_of (a_kind at element) = at
at_of (a_shared at type declarators) = at
at_of (a_constant at type declarator init) = at
at_of (an_init at value parts) = at
at_of (a_function at attributes result name params block) = at
at_of (a_result at type) = at
at_of (a_param at constant direction type declarator semantic) = at
at_of (a_direction at) = at
at_of (an_attribute at name arguments) = at
at_of (a_block at statements) = at
at_of (a_stmt at part) = at
at_of (a_local at constant type starts) = at
at_of (a_start at declarator init) = at
at_of (an_if at attributes condition consequent alternative) = at
at_of (a_for at attributes first condition step body) = at
at_of (a_while at attributes condition body) = at
at_of (a_do at attributes body condition) = at
at_of (a_jump at value) = at
at_of (an_expr at left mark right) = at
at_of (a_choice at condition consequent alternative) = at
at_of (a_binary production at left mark right) = at
at_of (a_unary at cast operand) = at
at_of (a_postfix at operand mark name part) = at
at_of (a_primary at part arguments) = at
at_of (an_args at arguments) = at

-- How deep a tree is: the length of its longest chain of counted nodes. A statement counts one, an expression counts
-- one, and so do the braces of an initialiser. Nothing else counts, arguments not either. An operator that repeats
-- and the parts behind a primary expression are nested nodes already.
abbrev mutual
  pub depth : Tree → ℕ
  depth (a_program at items) = depths items
  depth (an_item at item) = depth item
  depth (a_struct at name members) = depths members
  depth (a_member at type declarators) = max (depth type) (depths declarators)
  depth (a_type at basic) = depth_if basic
  depth (a_basic at) = 0
  depth (a_declarator at lengths) = depths lengths
  depth (a_buffer at kind name register space) = depth kind
  depth (a_kind at element) = depth_if element
  depth (a_shared at type declarators) = max (depth type) (depths declarators)
  depth (a_constant at type declarator init) = max (depth type) (max (depth declarator) (depth init))
  depth (an_init at absent parts) = suc (depths parts)
  depth (an_init at (present value) parts) = max (depth value) (depths parts)
  depth (a_function at attributes result name params block) =
      max (depths attributes) (max (depth result) (max (depths params) (depth block)))
  depth (a_result at type) = depth_if type
  depth (a_param at constant direction type declarator semantic) =
      max (depth_if direction) (max (depth type) (depth declarator))
  depth (a_direction at) = 0
  depth (an_attribute at name arguments) = depths arguments
  depth (a_block at statements) = depths statements
  depth (a_stmt at part) = suc (depth_if part)
  depth (a_local at constant type starts) = max (depth type) (depths starts)
  depth (a_start at declarator init) = max (depth declarator) (depth_if init)
  depth (an_if at attributes condition consequent alternative) =
      max (depths attributes) (max (depth condition) (max (depth consequent) (depth_if alternative)))
  depth (a_for at attributes first condition step body) =
      max (depths attributes) (max (depth_if first) (max (depth_if condition) (max (depth_if step) (depth body))))
  depth (a_while at attributes condition body) = max (depths attributes) (max (depth condition) (depth body))
  depth (a_do at attributes body condition) = max (depths attributes) (max (depth body) (depth condition))
  depth (a_jump at value) = depth_if value
  depth (an_expr at left mark right) = suc (max (depth left) (depth right))
  depth (a_choice at condition consequent alternative) = suc (max (depth condition) (max (depth consequent) (depth alternative)))
  depth (a_binary production at left mark right) = suc (max (depth left) (depth right))
  depth (a_unary at cast operand) = suc (max (depth_if cast) (depth operand))
  depth (a_postfix at operand mark name part) = suc (max (depth operand) (depth_if part))
  depth (a_primary at part arguments) = suc (max (depth_if part) (depth_if arguments))
  depth (an_args at arguments) = depths arguments

  pub depths : Trees → ℕ
  depths no_trees = 0
  depths (more_trees first rest) = max (depth first) (depths rest)

  pub depth_if : Maybe → ℕ
  depth_if absent = 0
  depth_if (present tree) = depth tree
