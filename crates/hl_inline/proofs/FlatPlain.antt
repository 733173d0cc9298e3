-- The plain data of each statement without calls.
use Rattle.std.proofs.Common.{◌≡◌, ◌∙◌, sym, ap, ℕ, List, [], ◌∷◌, ◌++◌, map, Option, None, Some, option_map}
use Rattle.std.proofs.lemmas.List.{map-append}
use Rattle.hl_meaning.specs.declared.expression.Expr.{Expr}
use Rattle.hl_meaning.specs.declared.program.Semantic.{Semantic}
use Rattle.hl_meaning.specs.Views.{plain_expr}
use Rattle.hl_inline.specs.declared.flat.FlatStmt.{FlatStmt, FlatStmt-F, fold-roll-FlatStmt}
use Rattle.hl_inline.specs.declared.flat.FlatStmt.TheVariants.{rolls-Block, rolls-Input, rolls-Local, rolls-Run, rolls-If, rolls-Loop, rolls-Named, rolls-Leave}
use Rattle.hl_inline.specs.declared.flat.FlatStmt.TheVariants as variants
use Rattle.hl_inline.specs.FlatTrees.{flat_block, flat_if, flat_input, flat_leave, flat_local, flat_loop, flat_named, flat_run}
use Rattle.hl_inline.specs.FlatTrees as plain
use Rattle.hl_inline.specs.FlatViews.{flat_stmt_step, plain_flat_stmt, plain_flat_stmts, plain_maybe_flat_stmt}

pub plain_flat_stmt-Block : (body : List FlatStmt) → plain_flat_stmt (variants.Block body) ≡ flat_block (plain_flat_stmts body)
unfolding plain_flat_stmt
plain_flat_stmt-Block body = ap plain_flat_stmt (sym (rolls-Block body)) ∙ fold-roll-FlatStmt plain.FlatStmt flat_stmt_step (FlatStmt-F.Block body)

pub plain_flat_stmt-Input : (variable : ℕ) (semantic : Semantic) → plain_flat_stmt (variants.Input variable semantic) ≡ flat_input variable semantic
unfolding plain_flat_stmt
plain_flat_stmt-Input variable semantic = ap plain_flat_stmt (sym (rolls-Input variable semantic)) ∙ fold-roll-FlatStmt plain.FlatStmt flat_stmt_step (FlatStmt-F.Input variable semantic)

pub plain_flat_stmt-Local : (variable : ℕ) (init : Option Expr) → plain_flat_stmt (variants.Local variable init) ≡ flat_local variable (option_map plain_expr init)
unfolding plain_flat_stmt
plain_flat_stmt-Local variable init = ap plain_flat_stmt (sym (rolls-Local variable init)) ∙ fold-roll-FlatStmt plain.FlatStmt flat_stmt_step (FlatStmt-F.Local variable init)

pub plain_flat_stmt-Run : (value : Expr) → plain_flat_stmt (variants.Run value) ≡ flat_run (plain_expr value)
unfolding plain_flat_stmt
plain_flat_stmt-Run value = ap plain_flat_stmt (sym (rolls-Run value)) ∙ fold-roll-FlatStmt plain.FlatStmt flat_stmt_step (FlatStmt-F.Run value)

pub plain_flat_stmt-If : (cond : Expr) (consequent : FlatStmt) (alternative : Option FlatStmt) → plain_flat_stmt (variants.If cond consequent alternative) ≡ flat_if (plain_expr cond) (plain_flat_stmt consequent) (plain_maybe_flat_stmt alternative)
unfolding plain_flat_stmt
plain_flat_stmt-If cond consequent None = ap plain_flat_stmt (sym (rolls-If cond consequent None)) ∙ fold-roll-FlatStmt plain.FlatStmt flat_stmt_step (FlatStmt-F.If cond consequent None)
plain_flat_stmt-If cond consequent (Some alternative) = ap plain_flat_stmt (sym (rolls-If cond consequent (Some alternative))) ∙ fold-roll-FlatStmt plain.FlatStmt flat_stmt_step (FlatStmt-F.If cond consequent (Some alternative))

pub plain_flat_stmt-Loop : (body : FlatStmt) → plain_flat_stmt (variants.Loop body) ≡ flat_loop (plain_flat_stmt body)
unfolding plain_flat_stmt
plain_flat_stmt-Loop body = ap plain_flat_stmt (sym (rolls-Loop body)) ∙ fold-roll-FlatStmt plain.FlatStmt flat_stmt_step (FlatStmt-F.Loop body)

pub plain_flat_stmt-Named : (name : ℕ) (body : FlatStmt) → plain_flat_stmt (variants.Named name body) ≡ flat_named name (plain_flat_stmt body)
unfolding plain_flat_stmt
plain_flat_stmt-Named name body = ap plain_flat_stmt (sym (rolls-Named name body)) ∙ fold-roll-FlatStmt plain.FlatStmt flat_stmt_step (FlatStmt-F.Named name body)

pub plain_flat_stmt-Leave : (name : ℕ) → plain_flat_stmt (variants.Leave name) ≡ flat_leave name
unfolding plain_flat_stmt
plain_flat_stmt-Leave name = ap plain_flat_stmt (sym (rolls-Leave name)) ∙ fold-roll-FlatStmt plain.FlatStmt flat_stmt_step (FlatStmt-F.Leave name)

-- one more statement
pub code-more : (code : List FlatStmt) (stmt : FlatStmt) (s : plain.FlatStmt) → plain_flat_stmt stmt ≡ s → map plain_flat_stmt (code ++ stmt ∷ []) ≡ map plain_flat_stmt code ++ s ∷ []
code-more code stmt s e = map-append plain_flat_stmt code (stmt ∷ []) ∙ ap (λ x. map plain_flat_stmt code ++ x ∷ []) e
