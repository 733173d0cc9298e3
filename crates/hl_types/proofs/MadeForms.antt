-- Statements of their parts, as plain data.
use Rattle.std.proofs.Common.{◌≡◌, ◌∙◌, refl, sym, ap, List, [], ◌∷◌, ◌++◌, length, Option, None, Some, option_map, slice_get, arith}
use Rattle.hl_meaning.specs.declared.expression.Expr.{Expr}
use Rattle.hl_meaning.specs.declared.statement.Stmt.{Stmt}
use Rattle.hl_meaning.specs.declared.statement.Stmt.TheVariants as held
use Rattle.hl_meaning.specs.Trees as plain
use Rattle.hl_meaning.specs.Trees.{block_stmt, do_stmt, for_stmt, if_stmt, run_stmt, some_stmt, while_stmt}
use Rattle.hl_meaning.specs.Views.{plain_expr, plain_maybe_stmt, plain_stmt, plain_stmts}
use Rattle.hl_meaning.proofs.Plain.{plain_stmt-Block, plain_stmt-Do, plain_stmt-For, plain_stmt-If, plain_stmt-Run, plain_stmt-While}
use Rattle.hl_rules.specs.Expressions.{with_three, with_two}
use Rattle.hl_rules.specs.Statements.{append_stmts, appended, for_code, one_stmt, single}
use Rattle.hl_types.specs.Walks.{made_expr, made_expr_if, made_stmt_if, made_stmts}

-- ---- lists

pub append_made : (xs ys : List Stmt) → plain_stmts (xs ++ ys) ≡ append_stmts (plain_stmts xs) (plain_stmts ys)
append_made [] ys = refl
append_made (x ∷ xs) ys = ap (λ r. plain.more_stmts (plain_stmt x) r) (append_made xs ys)

pub single_block : (made : List Stmt) → (length made ≡ 1 → ⊥) → plain_stmt (held.Block made) ≡ single (plain_stmts made)
single_block [] e = plain_stmt-Block []
single_block (x ∷ []) e = absurd (e refl)
single_block (x ∷ y ∷ more) e = plain_stmt-Block (x ∷ y ∷ more)

pub single_one : (made : List Stmt) (x : Stmt) → length made ≡ 1 → slice_get made 0 ≡ Some x → plain_stmt x ≡ single (plain_stmts made)
single_one [] x e h = absurd (omega (arith, e))
single_one (y ∷ []) x e h = ap (λ o. single (plain_stmts (of o))) (sym h)
  where
    of : Option Stmt → List Stmt
    of None = []
    of (Some z) = z ∷ []
single_one (y ∷ z ∷ more) x e h = absurd (omega (arith, e))

pub append_both : (a b : Option (List Stmt)) (x y all : List Stmt) → a ≡ Some x → b ≡ Some y → all ≡ x ++ y → Some (plain_stmts all) ≡ appended (made_stmts a) (made_stmts b)
append_both a b x y all e k h =
    ap Some (ap plain_stmts h ∙ append_made x y) ∙ sym (ap (λ o. appended (made_stmts o) (made_stmts b)) e ∙ ap (λ o. appended (made_stmts (Some x)) (made_stmts o)) k)

-- ---- statements

pub alternative_made : (made : Option (List Stmt)) (inner : List Stmt) (s : Stmt) → made ≡ Some inner → plain_stmt s ≡ single (plain_stmts inner) → Some (some_stmt (plain_stmt s)) ≡ option_map (λ i. some_stmt (single i)) (made_stmts made)
alternative_made made inner s e h = ap (λ x. Some (some_stmt x)) h ∙ sym (ap (λ o. option_map (λ i. some_stmt (single i)) (made_stmts o)) e)

pub for_parts : (init : Option (List Stmt)) (cond : Option (Option Expr)) (a : List Stmt) (b : Option Expr) (c : Option (Option plain.Expr)) (d : Option plain.Stmts) → init ≡ Some a → cond ≡ Some b
    → for_code (Some (plain_stmts a)) (Some (option_map plain_expr b)) c d ≡ for_code (made_stmts init) (made_expr_if cond) c d
for_parts init cond a b c d e k = sym (ap (λ o. for_code (made_stmts o) (made_expr_if cond) c d) e ∙ ap (λ o. for_code (made_stmts (Some a)) (made_expr_if o) c d) k)

pub block_made : (body : Option (List Stmt)) (inner made : List Stmt) → body ≡ Some inner → plain_stmts made ≡ one_stmt (plain_stmt (held.Block inner)) → Some (plain_stmts made) ≡ option_map (λ i. one_stmt (block_stmt i)) (made_stmts body)
block_made body inner made e m = ap Some (m ∙ ap one_stmt (plain_stmt-Block inner)) ∙ sym (ap (λ o. option_map (λ i. one_stmt (block_stmt i)) (made_stmts o)) e)

pub run_made : (run : Option Expr) (e : Expr) (made : List Stmt) → run ≡ Some e → plain_stmts made ≡ one_stmt (plain_stmt (held.Run e)) → Some (plain_stmts made) ≡ option_map (λ x. one_stmt (run_stmt x)) (made_expr run)
run_made run e made k m = ap Some (m ∙ ap one_stmt (plain_stmt-Run e)) ∙ sym (ap (λ o. option_map (λ x. one_stmt (run_stmt x)) (made_expr o)) k)

pub while_made : (cond : Option Expr) (body : Option (List Stmt)) (c : Expr) (inner : List Stmt) (s : Stmt) (made : List Stmt) → cond ≡ Some c → body ≡ Some inner → plain_stmt s ≡ single (plain_stmts inner) → plain_stmts made ≡ one_stmt (plain_stmt (held.While c s)) → Some (plain_stmts made) ≡ with_two (λ x i. Some (one_stmt (while_stmt x (single i)))) (made_expr cond) (made_stmts body)
while_made cond body c inner s made e k h m =
    ap Some (m ∙ ap one_stmt (plain_stmt-While c s ∙ ap (λ x. while_stmt (plain_expr c) x) h)) ∙
    sym (ap (λ o. with_two (λ x i. Some (one_stmt (while_stmt x (single i)))) (made_expr o) (made_stmts body)) e ∙ ap (λ o. with_two (λ x i. Some (one_stmt (while_stmt x (single i)))) (made_expr (Some c)) (made_stmts o)) k)

pub do_made : (body : Option (List Stmt)) (cond : Option Expr) (inner : List Stmt) (c : Expr) (s : Stmt) (made : List Stmt) → body ≡ Some inner → cond ≡ Some c → plain_stmt s ≡ single (plain_stmts inner) → plain_stmts made ≡ one_stmt (plain_stmt (held.Do s c)) → Some (plain_stmts made) ≡ with_two (λ i x. Some (one_stmt (do_stmt (single i) x))) (made_stmts body) (made_expr cond)
do_made body cond inner c s made e k h m =
    ap Some (m ∙ ap one_stmt (plain_stmt-Do s c ∙ ap (λ x. do_stmt x (plain_expr c)) h)) ∙
    sym (ap (λ o. with_two (λ i x. Some (one_stmt (do_stmt (single i) x))) (made_stmts o) (made_expr cond)) e ∙ ap (λ o. with_two (λ i x. Some (one_stmt (do_stmt (single i) x))) (made_stmts (Some inner)) (made_expr o)) k)

pub if_made : (cond : Option Expr) (yes' : Option (List Stmt)) (no' : Option (Option Stmt)) (c : Expr) (inner : List Stmt) (other : Option Stmt) (s : Stmt) (made : List Stmt) → cond ≡ Some c → yes' ≡ Some inner → no' ≡ Some other → plain_stmt s ≡ single (plain_stmts inner) → plain_stmts made ≡ one_stmt (plain_stmt (held.If c s other)) → Some (plain_stmts made) ≡ with_three (λ x i o. Some (one_stmt (if_stmt x (single i) o))) (made_expr cond) (made_stmts yes') (made_stmt_if no')
if_made cond yes' no' c inner other s made e k l h m =
    ap Some (m ∙ ap one_stmt (plain_stmt-If c s other ∙ ap (λ x. if_stmt (plain_expr c) x (plain_maybe_stmt other)) h)) ∙
    sym (ap (λ z. with_three (λ x i o. Some (one_stmt (if_stmt x (single i) o))) (made_expr z) (made_stmts yes') (made_stmt_if no')) e ∙
    (ap (λ z. with_three (λ x i o. Some (one_stmt (if_stmt x (single i) o))) (made_expr (Some c)) (made_stmts z) (made_stmt_if no')) k ∙
    ap (λ z. with_three (λ x i o. Some (one_stmt (if_stmt x (single i) o))) (made_expr (Some c)) (made_stmts (Some inner)) (made_stmt_if z)) l))

pub for_made : (step : Option (Option Expr)) (body : Option (List Stmt)) (init : List Stmt) (cond next : Option Expr) (inner : List Stmt) (s : Stmt) (made : List Stmt) → step ≡ Some next → body ≡ Some inner → plain_stmt s ≡ single (plain_stmts inner) → plain_stmts made ≡ one_stmt (plain_stmt (held.For init cond next s)) → Some (plain_stmts made) ≡ for_code (Some (plain_stmts init)) (Some (option_map plain_expr cond)) (made_expr_if step) (made_stmts body)
for_made step body init cond next inner s made e k h m =
    ap Some (m ∙ ap one_stmt (plain_stmt-For init cond next s ∙ ap (λ x. for_stmt (plain_stmts init) (option_map plain_expr cond) (option_map plain_expr next) x) h)) ∙
    sym (ap (λ o. for_code (Some (plain_stmts init)) (Some (option_map plain_expr cond)) (made_expr_if o) (made_stmts body)) e ∙
    ap (λ o. for_code (Some (plain_stmts init)) (Some (option_map plain_expr cond)) (made_expr_if (Some next)) (made_stmts o)) k)

-- ---- what isn't there

pub none_right : {A B C : Type 0} (f : A → B → Option C) (a : Option A) → None ≡ with_two f a None
none_right f None = refl
none_right f (Some x) = refl

pub none_middle : {A B C D : Type 0} (f : A → B → C → Option D) (a : Option A) (c : Option C) → None ≡ with_three f a None c
none_middle f None c = refl
none_middle f (Some x) c = refl

pub none_last : {A B C D : Type 0} (f : A → B → C → Option D) (a : Option A) (b : Option B) → None ≡ with_three f a b None
none_last f None b = refl
none_last f (Some x) None = refl
none_last f (Some x) (Some y) = refl
