-- What declarations of local variables become, and what they break.
use Rattle.std.proofs.Common.{◌≡◌, ◌∙◌, refl, sym, ap, ℕ, Bool, List, [], ◌∷◌, ◌++◌, length, Option, None, Some, option_map, option_and_then, is_some}
use Rattle.hl_parser.specs.Trees.{Tree, Trees, Maybe, present, a_local, a_start, an_init, at_of}
use Rattle.hl_meaning.specs.declared.expression.Expr.{Expr as HeldExpr}
use Rattle.hl_meaning.specs.declared.statement.Stmt.{Stmt as HeldStmt}
use Rattle.hl_meaning.specs.declared.statement.Stmt.TheVariants as stmts
use Rattle.hl_meaning.specs.Trees.{Expr, Stmts, local_stmt}
use Rattle.hl_meaning.specs.Views.{plain_stmt, plain_stmts}
use Rattle.hl_meaning.proofs.Plain.{plain_stmt-Local}
use Rattle.hl_types.specs.Walks.{made_expr_if}
use Rattle.hl_meaning.specs.Types.{Ty}
use Rattle.hl_rules.specs.declared.found.Broken.{Broken}
use Rattle.hl_rules.specs.Constants.{declarator_type, named_type}
use Rattle.hl_rules.specs.Declarations.{after_first, after_starts}
use Rattle.hl_rules.specs.Expressions.{value_in}
use Rattle.hl_rules.specs.Values.{type_in}
use Rattle.hl_rules.specs.Parts.{a_conversion, a_local_name, site}
use Rattle.hl_rules.specs.Rules.{noted}
use Rattle.hl_rules.specs.Scopes.{Scope, opened}
use Rattle.hl_values.specs.declared.scope.Scope.{Scope as HeldScope}
use Rattle.hl_values.specs.ScopeViews.{scope_of}
use Rattle.hl_rules.specs.Sites.{declarator_sites, init_if, init_sites, start_sites, value_sites}
use Rattle.hl_rules.specs.Statements.{init_code, init_code_if, one_stmt, start_code}
use Rattle.hl_types.proofs.TypedForms.{map-then}
use Rattle.hl_types.proofs.Walking.{local-is, noted-both}

pub variables-are : (s : HeldScope) (count : ℕ) → count ≡ length s.variables → count ≡ (scope_of s).variables
unfolding scope_of
variables-are s count e = e

pub start-made : (s : Scope) (ty own : Option Ty) (at : ℕ) (declarator : Tree) (init : Maybe) (number : ℕ) (value : Option (Option Expr)) (made : Option Stmts)
    → own ≡ declarator_type s ty declarator → number ≡ s.variables → value ≡ option_and_then (λ o. init_code_if s o init) own
    → made ≡ option_map (λ given. one_stmt (local_stmt number given)) value → made ≡ start_code s ty (a_start at declarator init)
start-made s ty own at declarator init number value made is_own is_number is_value is =
    is ∙ (ap (λ v. option_map (λ given. one_stmt (local_stmt number given)) v) (is_value ∙ ap (option_and_then (λ o. init_code_if s o init)) is_own) ∙
    (ap (λ n. option_map (λ given. one_stmt (local_stmt n given)) (option_and_then (λ o. init_code_if s o init) (declarator_type s ty declarator))) is_number ∙
    map-then (λ given. one_stmt (local_stmt s.variables given)) (λ o. init_code_if s o init) (declarator_type s ty declarator)))

pub start-noted : (s : Scope) (ty own : Option Ty) (at : ℕ) (declarator : Tree) (init : Maybe) (f0 f1 f2 f3 : Option Broken)
    → own ≡ declarator_type s ty declarator → f1 ≡ noted f0 (declarator_sites s ty declarator) → f2 ≡ noted f1 (site s (a_local_name at) ∷ [])
    → f3 ≡ noted f2 (init_if s own init) → f3 ≡ noted f0 (start_sites s ty (a_start at declarator init))
start-noted s ty own at declarator init f0 f1 f2 f3 is_own first second third =
    let inner = init_if s (declarator_type s ty declarator) init in
    noted-both f0 f1 f3 (declarator_sites s ty declarator) (site s (a_local_name at) ∷ inner) first
    (noted-both f1 f2 f3 (site s (a_local_name at) ∷ []) inner second (third ∙ ap (λ o. noted f2 (init_if s o init)) is_own))

-- an initialiser that is there
pub given-made : (s : Scope) (ty : Option Ty) (init : Tree) (value : Option Expr) → value ≡ option_and_then (λ o. init_code s o init) ty
    → option_map (λ v. Some v) value ≡ option_and_then (λ o. init_code_if s o (present init)) ty
given-made s ty init value is = ap (option_map (λ v. Some v)) is ∙ map-then (λ v. Some v) (λ o. init_code s o init) ty

pub no-init : (s : Scope) (ty : Option Ty) (t : Tree) → ((own : Ty) → init_code s own t ≡ None) → option_and_then (λ own. init_code s own t) ty ≡ None
no-init s None t none = refl
no-init s (Some own) t none = none own

pub local-made : (value : Option (Option HeldExpr)) (init : Option HeldExpr) (number : ℕ) (made : List HeldStmt) → value ≡ Some init → plain_stmts made ≡ one_stmt (plain_stmt (stmts.Local number init))
    → Some (plain_stmts made) ≡ option_map (λ given. one_stmt (local_stmt number given)) (made_expr_if value)
local-made value init number made e m = rw e (ap Some (m ∙ ap one_stmt (plain_stmt-Local number init)))

-- an initialiser of its form
pub value_init-code : (s : Scope) (ty : Option Ty) (at : ℕ) (e : Tree) (parts : Trees) (t : Tree) → t ≡ an_init at (present e) parts
    → option_and_then (λ own. value_in s own e) ty ≡ option_and_then (λ own. init_code s own t) ty
value_init-code s ty at e parts t is = sym (ap (λ x. option_and_then (λ own. init_code s own x) ty) is)

pub value_init-found : (f : Option Broken) (s : Scope) (ty : Option Ty) (at : ℕ) (e : Tree) (parts : Trees) (t : Tree) → t ≡ an_init at (present e) parts
    → noted f (value_sites s e ++ site s (a_conversion (type_in s e) ty (at_of e)) ∷ []) ≡ noted f (init_sites s ty t)
value_init-found f s ty at e parts t is = sym (ap (λ x. noted f (init_sites s ty x)) is)

-- the first part of a `for` that is a declaration
pub first-scope : (s around : Scope) (at : ℕ) (constant : Option ℕ) (same type : Tree) (is_const : Bool) (starts : Trees) (t : Tree)
    → s ≡ opened around → same ≡ type → is_const ≡ is_some constant → t ≡ a_local at constant type starts
    → after_starts (named_type s same) is_const s starts ≡ after_first around (present t)
first-scope s around at constant same type is_const starts t opens e is tree =
    ap (λ z. after_starts (named_type z same) is_const z starts) opens ∙
    local-is (λ x. after_first around (present x)) (λ x k. after_starts (named_type (opened around) x) k (opened around) starts) at constant same type is_const starts t (λ x. refl) e is tree
