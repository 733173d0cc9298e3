-- What the parts of a list hold together, over what is held.
use Rattle.std.proofs.Common.{◌≡◌, ◌∙◌, refl, sym, ap, ℕ, ◌+◌, ◌<◌, ◌⊎◌, inl, inr, List, [], ◌∷◌, ◌++◌, take, length, get_or}
use Rattle.std.proofs.lemmas.List.{take_more}
use Rattle.hl_meaning.specs.declared.expression.Arg.{Arg}
use Rattle.hl_meaning.specs.declared.expression.Expr.{Expr}
use Rattle.hl_meaning.specs.declared.expression.PathPart.{PathPart}
use Rattle.hl_meaning.specs.declared.expression.PathPart.TheVariants as variants
use Rattle.hl_meaning.specs.declared.expression.Root.{Root}
use Rattle.hl_meaning.specs.declared.expression.Root.TheVariants as root_variants
use Rattle.hl_meaning.specs.declared.statement.Stmt.{Stmt}
use Rattle.hl_meaning.specs.declared.sums.Sums.{Sums}
use Rattle.hl_meaning.specs.Sums.{Counted, arg_sums, args_sums, both, expr_sums, exprs_sums, indexes_sums, nothing, part_sums, root_sums, parts_sums, step, stmt_sums, stmts_sums, stop_all}
use Rattle.hl_meaning.specs.Views.{plain_arg, plain_args, plain_expr, plain_exprs, plain_part, plain_parts, plain_root, plain_stmt, plain_stmts}
use Rattle.hl_meaning.proofs.Plain.{plain_part-Member, plain_part-Swizzle, plain_root-Constant, plain_root-Shared, plain_root-Variable}
use Rattle.hl_meaning.proofs.SumLemmas.{all_sums, all_sums-append, both_of}

pub exprs_sums-all : (k : Counted) (xs : List Expr) → exprs_sums k (plain_exprs xs) ≡ all_sums (λ e. expr_sums k (plain_expr e)) xs
exprs_sums-all k [] = refl
exprs_sums-all k (x ∷ xs) = ap (λ s. both (expr_sums k (plain_expr x)) s) (exprs_sums-all k xs)

pub args_sums-all : (k : Counted) (xs : List Arg) → args_sums k (plain_args xs) ≡ all_sums (λ a. arg_sums k (plain_arg a)) xs
args_sums-all k [] = refl
args_sums-all k (x ∷ xs) = ap (λ s. both (arg_sums k (plain_arg x)) s) (args_sums-all k xs)

pub parts_sums-all : (k : Counted) (xs : List PathPart) → parts_sums k (plain_parts xs) ≡ all_sums (λ p. step 1 (part_sums k (plain_part p))) xs
parts_sums-all k [] = refl
parts_sums-all k (x ∷ xs) = ap (λ s. both (step 1 (part_sums k (plain_part x))) s) (parts_sums-all k xs)

pub indexes_sums-all : (k : Counted) (xs : List PathPart) → indexes_sums k (plain_parts xs) ≡ all_sums (λ p. part_sums k (plain_part p)) xs
indexes_sums-all k [] = refl
indexes_sums-all k (x ∷ xs) = ap (λ s. both (part_sums k (plain_part x)) s) (indexes_sums-all k xs)

pub stmts_sums-all : (k : Counted) (xs : List Stmt) → stmts_sums k (plain_stmts xs) ≡ all_sums (λ s. stmt_sums k (plain_stmt s)) xs
stmts_sums-all k [] = refl
stmts_sums-all k (x ∷ xs) = ap (λ s. both (stmt_sums k (plain_stmt x)) s) (stmts_sums-all k xs)

-- one turn of a loop that joins the sums of the parts
pub all_sums-more : {A : Type 0} (f : A → Sums) (xs : List A) (i : ℕ) (x : A) (old one new : Sums) → i < length xs → x ≡ get_or xs i x →
    old ≡ stop_all (all_sums f (take i xs)) → one ≡ stop_all (f x) → new ≡ stop_all (both old one) → new ≡ stop_all (all_sums f (take (i + 1) xs))
all_sums-more f xs i x old one new within read before of_one is =
    both_of new old one (all_sums f (take i xs)) (f x) is before of_one ∙
    sym (ap (λ s. stop_all (all_sums f s)) (take_more xs i x within ∙ ap (λ y. take i xs ++ y ∷ []) (sym read)) ∙ ap stop_all (all_sums-append f (take i xs) x))

-- a step that is no index holds nothing
pub part_sums-nothing : (k : Counted) (p : PathPart) → ((x : ℕ) × (p ≡ variants.Member x)) ⊎ ((x : List ℕ) × (p ≡ variants.Swizzle x)) → nothing ≡ stop_all (part_sums k (plain_part p))
part_sums-nothing k p (inl is) = sym (ap (λ f. stop_all (part_sums k f)) (ap plain_part is.1 ∙ plain_part-Member is.0))
part_sums-nothing k p (inr is) = sym (ap (λ f. stop_all (part_sums k f)) (ap plain_part is.1 ∙ plain_part-Swizzle is.0))

-- a root that is no element holds nothing
pub root_sums-nothing : (k : Counted) (r : Root) → ((x : ℕ) × (r ≡ root_variants.Variable x)) ⊎ (((x : ℕ) × (r ≡ root_variants.Constant x)) ⊎ ((x : ℕ) × (r ≡ root_variants.Shared x))) → nothing ≡ stop_all (root_sums k (plain_root r))
root_sums-nothing k r (inl is) = sym (ap (λ f. stop_all (root_sums k f)) (ap plain_root is.1 ∙ plain_root-Variable is.0))
root_sums-nothing k r (inr (inl is)) = sym (ap (λ f. stop_all (root_sums k f)) (ap plain_root is.1 ∙ plain_root-Constant is.0))
root_sums-nothing k r (inr (inr is)) = sym (ap (λ f. stop_all (root_sums k f)) (ap plain_root is.1 ∙ plain_root-Shared is.0))
