-- The shapes of declarations and statements that the grammar gives.
use Rattle.std.proofs.Common.{◌≡◌, Bool, true, false, List}
use Rattle.std.specs.Prelude.{IsTrue}
use Rattle.hl_lexer.specs.declared.terminal.Terminal.TheVariants as terminals
use Rattle.hl_lexer.specs.Tokens.{Lexeme}
use Rattle.hl_parser.specs.Grammar.{is_basic, is_direction, is_element_kind, is_jump, is_raw_kind}
use Rattle.hl_parser.specs.Trees.{Maybe, Tree, Trees, a_block, a_buffer, a_constant, a_declarator, a_direction, a_do, a_for, a_function, a_jump, a_kind, a_local, a_member, a_param, a_program, a_result, a_shared, a_start, a_stmt, a_struct, a_type, a_while, absent, an_attribute, an_if, an_init, an_item, at_of, more_trees, no_trees, present}
use Rattle.hl_rules.specs.Source.{terminal_at}
use Rattle.hl_rules.proofs.Shapes.{AreExpressions, IsExpression}

-- ---- parts of declarations

abbrev pub are_some : Trees → Bool
are_some no_trees = false
are_some (more_trees first rest) = true

-- all trees have a shape
abbrev pub AllTrees : (Tree → Type 0) → Trees → Type 0
AllTrees P no_trees = Unit {0}
AllTrees P (more_trees first rest) = P first × AllTrees P rest

abbrev pub IfTree : (Tree → Type 0) → Maybe → Type 0
IfTree P absent = Unit {0}
IfTree P (present tree) = P tree

-- the name of a type
abbrev pub IsTypeName : List Lexeme → Tree → Type 0
IsTypeName tokens (a_type at (present basic)) = IsTrue (is_basic (terminal_at tokens (at_of basic)))
IsTypeName tokens (a_type at absent) = terminal_at tokens at ≡ terminals.Name
IsTypeName tokens _ = ⊥

abbrev pub IsDeclarator : List Lexeme → Tree → Type 0
IsDeclarator tokens (a_declarator at lengths) = (terminal_at tokens at ≡ terminals.Name) × AreExpressions tokens lengths
IsDeclarator tokens _ = ⊥

abbrev pub AreDeclarators : List Lexeme → Trees → Type 0
AreDeclarators tokens declarators = IsTrue (are_some declarators) × AllTrees (IsDeclarator tokens) declarators

-- an initialiser: an expression, or some initialisers in braces
abbrev mutual
  pub IsInit : List Lexeme → Tree → Type 0
  IsInit tokens (an_init at (present value) parts) = (parts ≡ no_trees) × IsExpression tokens value
  IsInit tokens (an_init at absent parts) = IsTrue (are_some parts) × AreInits tokens parts
  IsInit tokens _ = ⊥

  pub AreInits : List Lexeme → Trees → Type 0
  AreInits tokens no_trees = Unit {0}
  AreInits tokens (more_trees first rest) = IsInit tokens first × AreInits tokens rest

abbrev pub IsAttribute : List Lexeme → Tree → Type 0
IsAttribute tokens (an_attribute at name arguments) = (terminal_at tokens name ≡ terminals.Name) × AreExpressions tokens arguments
IsAttribute tokens _ = ⊥

abbrev pub AreAttributes : List Lexeme → Trees → Type 0
AreAttributes tokens attributes = AllTrees (IsAttribute tokens) attributes

-- ---- statements

-- a declarator with its initialiser; its first token is the declarator's
abbrev pub IsStart : List Lexeme → Tree → Type 0
IsStart tokens (a_start at declarator init) = (at ≡ at_of declarator) × IsDeclarator tokens declarator × IfTree (IsInit tokens) init
IsStart tokens _ = ⊥

abbrev pub IsLocal : List Lexeme → Tree → Type 0
IsLocal tokens (a_local at constant type starts) =
    IsTypeName tokens type × IsTrue (are_some starts) × AllTrees (IsStart tokens) starts
IsLocal tokens _ = ⊥

-- the first part of a `for`: a local or an expression
abbrev pub IsFirstPart : List Lexeme → Tree → Type 0
IsFirstPart tokens (a_local at constant type starts) = IsLocal tokens (a_local at constant type starts)
IsFirstPart tokens e = IsExpression tokens e

abbrev mutual
  -- a tree of the production `stmt`
  pub IsStatement : List Lexeme → Tree → Type 0
  IsStatement tokens (a_stmt at absent) = Unit {0}
  IsStatement tokens (a_stmt at (present part)) = IsPart tokens part
  IsStatement tokens _ = ⊥

  -- what such a tree holds
  pub IsPart : List Lexeme → Tree → Type 0
  IsPart tokens (a_block at statements) = AreStatements tokens statements
  IsPart tokens (a_local at constant type starts) = IsLocal tokens (a_local at constant type starts)
  IsPart tokens (an_if at attributes condition consequent alternative) =
      AreAttributes tokens attributes × IsExpression tokens condition × IsStatement tokens consequent
      × IsStatementIf tokens alternative
  IsPart tokens (a_for at attributes first condition step body) =
      AreAttributes tokens attributes × IfTree (IsFirstPart tokens) first × IfTree (IsExpression tokens) condition
      × IfTree (IsExpression tokens) step × IsStatement tokens body
  IsPart tokens (a_while at attributes condition body) =
      AreAttributes tokens attributes × IsExpression tokens condition × IsStatement tokens body
  IsPart tokens (a_do at attributes body condition) =
      AreAttributes tokens attributes × IsStatement tokens body × IsExpression tokens condition
  IsPart tokens (a_jump at absent) = IsTrue (is_jump (terminal_at tokens at))
  IsPart tokens (a_jump at (present value)) = (terminal_at tokens at ≡ terminals.Return) × IsExpression tokens value
  IsPart tokens e = IsExpression tokens e

  pub IsStatementIf : List Lexeme → Maybe → Type 0
  IsStatementIf tokens absent = Unit {0}
  IsStatementIf tokens (present tree) = IsStatement tokens tree

  pub AreStatements : List Lexeme → Trees → Type 0
  AreStatements tokens no_trees = Unit {0}
  AreStatements tokens (more_trees first rest) = IsStatement tokens first × AreStatements tokens rest

-- ---- items

abbrev pub IsMember : List Lexeme → Tree → Type 0
IsMember tokens (a_member at type declarators) = IsTypeName tokens type × AreDeclarators tokens declarators
IsMember tokens _ = ⊥

-- the kind of a buffer, with a type of elements where it is a structured one
abbrev pub IsKindOf : List Lexeme → Tree → Type 0
IsKindOf tokens (a_kind at absent) = IsTrue (is_raw_kind (terminal_at tokens at))
IsKindOf tokens (a_kind at (present element)) = IsTrue (is_element_kind (terminal_at tokens at)) × IsTypeName tokens element
IsKindOf tokens _ = ⊥

abbrev pub IsResultOf : List Lexeme → Tree → Type 0
IsResultOf tokens (a_result at absent) = Unit {0}
IsResultOf tokens (a_result at (present type)) = IsTypeName tokens type
IsResultOf tokens _ = ⊥

abbrev pub IsDirection : List Lexeme → Tree → Type 0
IsDirection tokens (a_direction at) = IsTrue (is_direction (terminal_at tokens at))
IsDirection tokens _ = ⊥

abbrev pub IsParam : List Lexeme → Tree → Type 0
IsParam tokens (a_param at constant direction type declarator semantic) =
    IfTree (IsDirection tokens) direction × IsTypeName tokens type × IsDeclarator tokens declarator
IsParam tokens _ = ⊥

abbrev pub IsBlock : List Lexeme → Tree → Type 0
IsBlock tokens (a_block at statements) = AreStatements tokens statements
IsBlock tokens _ = ⊥

-- what an item of a program declares
abbrev pub IsDeclaration : List Lexeme → Tree → Type 0
IsDeclaration tokens (a_struct at name members) = IsTrue (are_some members) × AllTrees (IsMember tokens) members
IsDeclaration tokens (a_buffer at kind name register space) = IsKindOf tokens kind
IsDeclaration tokens (a_shared at type declarators) = IsTypeName tokens type × AreDeclarators tokens declarators
IsDeclaration tokens (a_constant at type declarator init) =
    IsTypeName tokens type × IsDeclarator tokens declarator × IsInit tokens init
IsDeclaration tokens (a_function at attributes result name params block) =
    AreAttributes tokens attributes × IsResultOf tokens result × AllTrees (IsParam tokens) params × IsBlock tokens block
IsDeclaration tokens _ = ⊥

abbrev pub IsItem : List Lexeme → Tree → Type 0
IsItem tokens (an_item at item) = IsDeclaration tokens item
IsItem tokens _ = ⊥

abbrev pub IsProgram : List Lexeme → Tree → Type 0
IsProgram tokens (a_program at items) = IsTrue (are_some items) × AllTrees (IsItem tokens) items
IsProgram tokens _ = ⊥
