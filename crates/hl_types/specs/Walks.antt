-- Walks over statements and what they declare.
use Rattle.std.specs.Prelude.{List, [], ◌∷◌, Option, Some, option_map}
use Rattle.hl_parser.specs.Trees.{Maybe, Trees, absent, present, no_trees, more_trees}
use Rattle.hl_meaning.specs.declared.statement.Stmt.{Stmt}
use Rattle.hl_meaning.specs.Trees.{MaybeStmt, Stmts, block_stmt, no_stmts}
use Rattle.hl_meaning.specs.declared.expression.Expr.{Expr}
use Rattle.hl_meaning.specs.Trees as plain
use Rattle.hl_meaning.specs.Views.{plain_expr, plain_maybe_stmt, plain_stmts}
use Rattle.hl_rules.specs.Declarations.{after_statement}
use Rattle.hl_rules.specs.Scopes.{Named, Scope}
use Rattle.hl_rules.specs.Statements.{one_stmt, statement_code}

-- behind statements
abbrev pub after_statements : Scope → Trees → Scope
after_statements s no_trees = s
after_statements s (more_trees first rest) = after_statements (after_statement s first) rest

-- the part of a statement, where one alone does nothing
abbrev pub part_code : Scope → Maybe → Option Stmts
part_code s absent = Some (one_stmt (block_stmt no_stmts))
part_code s (present part) = statement_code s part

abbrev pub after_part : Scope → Maybe → Scope
after_part s absent = s
after_part s (present part) = after_statement s part

-- the blocks around the innermost one
abbrev pub outer_blocks : List (List Named) → List (List Named)
outer_blocks [] = []
outer_blocks (block ∷ blocks) = blocks

-- behind the innermost block
abbrev pub closed : Scope → Scope
closed s = record s { blocks = outer_blocks s.blocks }

-- what statements that are held become
abbrev pub made_stmts : Option (List Stmt) → Option Stmts
made_stmts made = option_map plain_stmts made

-- and expressions
abbrev pub made_expr : Option Expr → Option plain.Expr
made_expr made = option_map plain_expr made

-- what may be left out, and else must be there
abbrev pub made_expr_if : Option (Option Expr) → Option (Option plain.Expr)
made_expr_if made = option_map (λ value. option_map plain_expr value) made

abbrev pub made_stmt_if : Option (Option Stmt) → Option MaybeStmt
made_stmt_if made = option_map (λ other. plain_maybe_stmt other) made
