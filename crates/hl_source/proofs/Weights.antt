-- How much statements and functions hold, by which walks over them end.
use Rattle.std.proofs.Common.{◌≡◌, ◌∙◌, sym, ap, ℕ, suc, ◌+◌, ◌<◌, ◌≤◌, List, ◌∷◌, drop, get_or, length, sum, sum_by, take, Option, None, Some, arith}
use Rattle.std.proofs.lemmas.List.{drop_more}
use Rattle.std.proofs.lemmas.List.Sums.{sum-map, sum_by-cons, sum_by-take-drop}
use Rattle.hl_meaning.specs.declared.expression.Expr.{Expr, size-Expr}
use Rattle.hl_meaning.specs.declared.expression.Location.{Location, size-Location}
use Rattle.hl_meaning.specs.declared.statement.Stmt.{Stmt, Stmt-F, fold-Stmt, fold-roll-Stmt}
use Rattle.hl_meaning.specs.declared.statement.Stmt.TheVariants.{rolls-Block, rolls-Local, rolls-Run, rolls-If, rolls-For, rolls-While, rolls-Do, rolls-Return}
use Rattle.hl_meaning.specs.declared.statement.Stmt.TheVariants as Stmt_variants
use Rattle.hl_meaning.specs.declared.program.FunctionDef.{FunctionDef}

abbrev pub expr_if : Option Expr → ℕ
expr_if None = 0
expr_if (Some value) = size-Expr value

abbrev pub place_if : Option Location → ℕ
place_if None = 0
place_if (Some place) = size-Location place

abbrev pub weight_if : Option ℕ → ℕ
weight_if None = 0
weight_if (Some weight) = weight

-- of a statement, with what its parts hold
abbrev pub weight_step : Stmt-F ℕ → ℕ
weight_step (Stmt-F.Block body) = suc (sum body)
weight_step (Stmt-F.Local variable init) = suc (expr_if init)
weight_step (Stmt-F.Run value) = suc (size-Expr value)
weight_step (Stmt-F.If cond consequent alternative) = suc (size-Expr cond + (consequent + weight_if alternative))
weight_step (Stmt-F.For init cond step body) = suc (sum init + (expr_if cond + (expr_if step + body)))
weight_step (Stmt-F.While cond body) = suc (size-Expr cond + body)
weight_step (Stmt-F.Do body cond) = suc (size-Expr cond + body)
weight_step Stmt-F.Break = 1
weight_step Stmt-F.Continue = 1
weight_step (Stmt-F.Return value) = suc (expr_if value)

unfoldable pub stmt_weight : Stmt → ℕ
stmt_weight = fold-Stmt ℕ weight_step

abbrev pub stmts_weight : List Stmt → ℕ
stmts_weight stmts = sum_by stmt_weight stmts

abbrev pub stmt_if : Option Stmt → ℕ
stmt_if None = 0
stmt_if (Some stmt) = stmt_weight stmt

abbrev pub function_weight : FunctionDef → ℕ
function_weight f = suc (stmts_weight f.body)

abbrev pub weight_of : List FunctionDef → ℕ
weight_of functions = sum_by function_weight functions

-- ---- of each form

pub stmt_weight-Block : (body : List Stmt) → stmt_weight (Stmt_variants.Block body) ≡ suc (stmts_weight body)
unfolding stmt_weight
stmt_weight-Block body = ap stmt_weight (sym (rolls-Block body)) ∙ (fold-roll-Stmt ℕ weight_step (Stmt-F.Block body) ∙ ap suc (sum-map stmt_weight body))

pub stmt_weight-Local : (variable : ℕ) (init : Option Expr) → stmt_weight (Stmt_variants.Local variable init) ≡ suc (expr_if init)
unfolding stmt_weight
stmt_weight-Local variable init = ap stmt_weight (sym (rolls-Local variable init)) ∙ fold-roll-Stmt ℕ weight_step (Stmt-F.Local variable init)

pub stmt_weight-Run : (value : Expr) → stmt_weight (Stmt_variants.Run value) ≡ suc (size-Expr value)
unfolding stmt_weight
stmt_weight-Run value = ap stmt_weight (sym (rolls-Run value)) ∙ fold-roll-Stmt ℕ weight_step (Stmt-F.Run value)

pub stmt_weight-If : (cond : Expr) (consequent : Stmt) (alternative : Option Stmt) → stmt_weight (Stmt_variants.If cond consequent alternative) ≡ suc (size-Expr cond + (stmt_weight consequent + stmt_if alternative))
unfolding stmt_weight
stmt_weight-If cond consequent None = ap stmt_weight (sym (rolls-If cond consequent None)) ∙ fold-roll-Stmt ℕ weight_step (Stmt-F.If cond consequent None)
stmt_weight-If cond consequent (Some alternative) = ap stmt_weight (sym (rolls-If cond consequent (Some alternative))) ∙ fold-roll-Stmt ℕ weight_step (Stmt-F.If cond consequent (Some alternative))

pub stmt_weight-For : (init : List Stmt) (cond step : Option Expr) (body : Stmt) → stmt_weight (Stmt_variants.For init cond step body) ≡ suc (stmts_weight init + (expr_if cond + (expr_if step + stmt_weight body)))
unfolding stmt_weight
stmt_weight-For init cond step body =
    ap stmt_weight (sym (rolls-For init cond step body)) ∙ (fold-roll-Stmt ℕ weight_step (Stmt-F.For init cond step body) ∙
    ap (λ n. suc (n + (expr_if cond + (expr_if step + stmt_weight body)))) (sum-map stmt_weight init))

pub stmt_weight-While : (cond : Expr) (body : Stmt) → stmt_weight (Stmt_variants.While cond body) ≡ suc (size-Expr cond + stmt_weight body)
unfolding stmt_weight
stmt_weight-While cond body = ap stmt_weight (sym (rolls-While cond body)) ∙ fold-roll-Stmt ℕ weight_step (Stmt-F.While cond body)

pub stmt_weight-Do : (body : Stmt) (cond : Expr) → stmt_weight (Stmt_variants.Do body cond) ≡ suc (size-Expr cond + stmt_weight body)
unfolding stmt_weight
stmt_weight-Do body cond = ap stmt_weight (sym (rolls-Do body cond)) ∙ fold-roll-Stmt ℕ weight_step (Stmt-F.Do body cond)

pub stmt_weight-Return : (value : Option Expr) → stmt_weight (Stmt_variants.Return value) ≡ suc (expr_if value)
unfolding stmt_weight
stmt_weight-Return value = ap stmt_weight (sym (rolls-Return value)) ∙ fold-roll-Stmt ℕ weight_step (Stmt-F.Return value)

-- ---- of functions

-- a function and those before it
pub weight-within : (functions : List FunctionDef) (n : ℕ) (f : FunctionDef) → n < length functions → f ≡ get_or functions n f → weight_of (take n functions) + suc (stmts_weight f.body) ≤ weight_of functions
weight-within functions n f within is =
    omega (arith, sum_by-take-drop function_weight functions n, ap (sum_by function_weight) (drop_more functions n f within ∙ ap (λ g. g ∷ drop (n + 1) functions) (sym is)), sum_by-cons function_weight f (drop (n + 1) functions))
