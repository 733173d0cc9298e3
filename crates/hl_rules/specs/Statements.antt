-- What statements become in the typed program.
use Rattle.std.specs.Prelude.{ℕ, ◌+◌, Bool, List, [], ◌∷◌, map, is_some, Option, None, Some, option_map, option_and_then, unwrap_or}
use Rattle.hl_lexer.specs.declared.terminal.Terminal.{Terminal}
use Rattle.hl_lexer.specs.declared.terminal.Terminal.TheVariants as terminals
use Rattle.hl_parser.specs.Trees.{Tree, Trees, Maybe, absent, present, no_trees, more_trees, a_block, a_do, a_for, a_jump, a_local, a_start, a_stmt, a_while, an_if, an_init}
use Rattle.hl_meaning.specs.declared.ty.Kind.{Kind}
use Rattle.hl_meaning.specs.Types.{Ty, bool_type, scalar_type, void_type}
use Rattle.hl_meaning.specs.Trees.{Expr, Exprs, MaybeStmt, Stmt, Stmts, an_expr, block_stmt, break_stmt, build_form, continue_stmt, do_stmt, for_stmt, if_stmt, local_stmt, more_exprs, more_stmts, no_exprs, no_stmt, no_stmts, return_stmt, run_stmt, some_stmt, while_stmt}
use Rattle.hl_meaning.specs.Layout.{kinds_of}
use Rattle.hl_meaning.specs.Programs.{Member, StructDef}
use Rattle.hl_rules.specs.Constants.{declarator_type, named_type}
use Rattle.hl_rules.specs.DeclarationRules.{leaves_among}
use Rattle.hl_rules.specs.Declarations.{after_first, after_start, after_statement, locals_in}
use Rattle.hl_rules.specs.Expressions.{value_code, value_in, with_three, with_two}
use Rattle.hl_rules.specs.Scopes.{MemberInfo, Scope, StructInfo, behind, looped, opened, type_words}
use Rattle.hl_rules.specs.Source.{terminal_at}

-- ---- structs

-- the members of a struct, each behind the words of those before it
abbrev pub members_from : List StructInfo → (offset : ℕ) → List MemberInfo → List Member
members_from structs offset [] = []
members_from structs offset (m ∷ members) =
    record { name = m.name; ty = unwrap_or m.ty void_type; offset = offset }
    ∷ members_from structs (offset + unwrap_or (type_words structs (unwrap_or m.ty void_type)) 0) members

abbrev pub struct_def : List StructInfo → StructInfo → StructDef
struct_def structs d = record { name = d.name; members = members_from structs 0 d.members; words = unwrap_or d.words 0 }

-- the structs of the program that are declared so far
abbrev pub struct_defs : List StructInfo → List StructDef
struct_defs structs = map (struct_def structs) structs

-- ---- initialisers

-- the expressions of an initialiser in braces, each converted to the kind of its word
abbrev pub leaf_codes : Scope → List Kind → List Tree → Option Exprs
leaf_codes s [] [] = Some no_exprs
leaf_codes s (kind ∷ kinds) (leaf ∷ leaves) =
    with_two (λ first rest. Some (more_exprs first rest)) (value_in s (scalar_type kind) leaf) (leaf_codes s kinds leaves)
leaf_codes s _ _ = None

-- an initialiser of a type; one in braces becomes nothing where the words of its type aren't known
abbrev pub init_code : Scope → Ty → Tree → Option Expr
init_code s ty (an_init at (present value) parts) = value_in s ty value
init_code s ty (an_init at absent parts) =
    option_and_then (λ words. option_map (λ leaves. an_expr ty at (build_form leaves)) (leaf_codes s (kinds_of (struct_defs s.structs) ty) (leaves_among parts)))
    (type_words s.structs ty)
init_code s ty _ = None

abbrev pub init_code_if : Scope → Ty → Maybe → Option (Option Expr)
init_code_if s ty absent = Some None
init_code_if s ty (present init) = option_map (λ value. Some value) (init_code s ty init)

-- ---- lists of statements

abbrev pub one_stmt : Stmt → Stmts
one_stmt statement = more_stmts statement no_stmts

abbrev pub append_stmts : Stmts → Stmts → Stmts
append_stmts no_stmts others = others
append_stmts (more_stmts first rest) others = more_stmts first (append_stmts rest others)

abbrev pub appended : Option Stmts → Option Stmts → Option Stmts
appended first rest = with_two (λ a b. Some (append_stmts a b)) first rest

-- the statement that statements are where one must stand: one is itself, and others are a block
abbrev pub single : Stmts → Stmt
single (more_stmts first no_stmts) = first
single statements = block_stmt statements

-- ---- statements

-- the next variable of the function, with its initialiser
abbrev pub start_code : Scope → Option Ty → Tree → Option Stmts
start_code s ty (a_start at declarator init) =
    option_and_then (λ own. option_map (λ value. one_stmt (local_stmt s.variables value)) (init_code_if s own init)) (declarator_type s ty declarator)
start_code s ty _ = None

abbrev pub starts_code : Scope → Option Ty → (is_const : Bool) → Trees → Option Stmts
starts_code s ty is_const no_trees = Some no_stmts
starts_code s ty is_const (more_trees first rest) =
    appended (start_code s ty first) (starts_code (after_start ty is_const s first) ty is_const rest)

-- the first part of a `for`
abbrev pub first_code : Scope → Tree → Option Stmts
first_code s (a_local at constant type starts) = starts_code s (named_type s type) (is_some constant) starts
first_code s e = option_map (λ value. one_stmt (run_stmt value)) (value_code s e)

abbrev pub first_code_if : Scope → Maybe → Option Stmts
first_code_if s absent = Some no_stmts
first_code_if s (present first) = first_code s first

-- a condition becomes a bool
abbrev pub condition_code : Scope → Tree → Option Expr
condition_code s e = value_in s bool_type e

abbrev pub condition_code_if : Scope → Maybe → Option (Option Expr)
condition_code_if s absent = Some None
condition_code_if s (present e) = option_map (λ value. Some value) (condition_code s e)

abbrev pub value_code_if : Scope → Maybe → Option (Option Expr)
value_code_if s absent = Some None
value_code_if s (present e) = option_map (λ value. Some value) (value_code s e)

abbrev pub jump_code : Terminal → Stmt
jump_code terminals.Break = break_stmt
jump_code terminals.Continue = continue_stmt
jump_code _ = return_stmt None

abbrev pub return_code : Scope → Tree → Option Stmts
return_code s value = option_and_then (λ ty. option_map (λ v. one_stmt (return_stmt (Some v))) (value_in s ty value)) s.result

abbrev pub for_code : Option Stmts → Option (Option Expr) → Option (Option Expr) → Option Stmts → Option Stmts
for_code first condition step body =
    option_and_then (λ init. with_three (λ cond next inner. Some (one_stmt (for_stmt init cond next (single inner)))) condition step body) first

abbrev mutual
  -- what a statement becomes: one statement, or one for each variable that it declares
  pub statement_code : Scope → Tree → Option Stmts
  statement_code s (a_stmt at absent) = Some (one_stmt (block_stmt no_stmts))
  statement_code s (a_stmt at (present part)) = statement_code s part
  statement_code s (a_block at statements) = option_map (λ body. one_stmt (block_stmt body)) (statements_code (opened s) statements)
  statement_code s (a_local at constant type starts) = starts_code s (named_type s type) (is_some constant) starts
  statement_code s (an_if at attributes condition consequent alternative) =
      with_three (λ cond inner other. Some (one_stmt (if_stmt cond (single inner) other)))
      (condition_code s condition) (statement_code (opened s) consequent)
      (statement_code_if (opened (behind (locals_in consequent) s)) alternative)
  statement_code s (a_for at attributes first condition step body) =
      for_code (first_code_if (opened s) first) (condition_code_if (after_first s first) condition)
      (value_code_if (after_first s first) step) (statement_code (looped (after_first s first)) body)
  statement_code s (a_while at attributes condition body) =
      with_two (λ cond inner. Some (one_stmt (while_stmt cond (single inner)))) (condition_code s condition) (statement_code (looped s) body)
  statement_code s (a_do at attributes body condition) =
      with_two (λ inner cond. Some (one_stmt (do_stmt (single inner) cond))) (statement_code (looped s) body) (condition_code s condition)
  statement_code s (a_jump at absent) = Some (one_stmt (jump_code (terminal_at s.tokens at)))
  statement_code s (a_jump at (present value)) = return_code s value
  statement_code s e = option_map (λ value. one_stmt (run_stmt value)) (value_code s e)

  pub statements_code : Scope → Trees → Option Stmts
  statements_code s no_trees = Some no_stmts
  statements_code s (more_trees first rest) = appended (statement_code s first) (statements_code (after_statement s first) rest)

  pub statement_code_if : Scope → Maybe → Option MaybeStmt
  statement_code_if s absent = Some no_stmt
  statement_code_if s (present statement) = option_map (λ inner. some_stmt (single inner)) (statement_code s statement)
