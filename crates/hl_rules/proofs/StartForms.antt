-- Conditions, initialisers and variables that break no rule become parts of statements that are well formed.
use Rattle.std.proofs.Common.{◌≡◌, ◌∙◌, refl, sym, ap, subst, ℕ, Bool, false, [], ◌∷◌, Option, None, Some}
use Rattle.std.specs.Prelude.{option_and_then, option_map, slice_get, unwrap_or}
use Rattle.std.proofs.lemmas.Option.{slice_get_within}
use Rattle.hl_parser.specs.Trees.{Maybe, Tree, Trees, a_start, absent, more_trees, no_trees, present}
use Rattle.hl_meaning.specs.Types.{Ty, void_type}
use Rattle.hl_meaning.specs.Trees.{Expr, local_stmt, run_stmt}
use Rattle.hl_meaning.specs.Places as places
use Rattle.hl_meaning.specs.Places.{variable_type}
use Rattle.hl_meaning.specs.Programs.{Variable}
use Rattle.hl_meaning.specs.WellFormed.{IsLocal}
use Rattle.hl_rules.specs.Constants.{declarator_type}
use Rattle.hl_rules.specs.Declarations.{after_start}
use Rattle.hl_rules.specs.Elaboration.{start_variable, starts_variables, variable_of}
use Rattle.hl_rules.specs.Expressions.{code_of, value_code}
use Rattle.hl_rules.specs.Nodes.{value_of_code}
use Rattle.hl_rules.specs.Parts.{a_local_name, site}
use Rattle.hl_rules.specs.Scopes.{Scope}
use Rattle.hl_rules.specs.Sites.{condition_if, condition_sites, declarator_sites, expression_if, init_if, start_sites, starts_sites}
use Rattle.hl_rules.specs.Statements.{condition_code, condition_code_if, init_code_if, one_stmt, start_code, starts_code, value_code_if}
use Rattle.hl_rules.specs.Values.{value_of}
use Rattle.hl_rules.proofs.DeclaratorForms.{IsKnownAs}
use Rattle.hl_rules.proofs.Becoming.{Becomes, becomes-stands}
use Rattle.hl_rules.proofs.Fitting.{Fits}
use Rattle.hl_rules.proofs.Free.{IsFree, free-left, free-rest, free-right}
use Rattle.hl_rules.proofs.InitForms.{init-made}
use Rattle.hl_rules.proofs.LocalForms.{known-behind, start-declares, start-known}
use Rattle.hl_rules.proofs.ScopeForms.{holds-first}
use Rattle.hl_rules.proofs.Shapes.{IsExpression}
use Rattle.hl_rules.proofs.Soundness.{IsSound}
use Rattle.hl_rules.proofs.StatementParts.{IsMade, IsMadeCondition, IsMadeConditionIf, IsMadeStep, made-joined, none-made, one-made}
use Rattle.hl_rules.proofs.TreeShapes.{AllTrees, IfTree, IsInit, IsStart}
use Rattle.hl_rules.proofs.ValueForms.{ExpressionsBecome, condition-in, scalar-result}

-- ---- expressions

-- a value that is run
pub run-made : (s : Scope) (e : Tree) → Becomes s (value_of s e) (code_of s e) → IsMade s [] (option_map (λ value. one_stmt (run_stmt value)) (value_code s e)) false
run-made s e done =
    one-made s (run_stmt (value_of_code done.to)) (option_map (λ value. one_stmt (run_stmt value)) (value_code s e))
    (ap (λ o. option_map (λ value. one_stmt (run_stmt value)) (option_map value_of_code o)) done.is)
    (λ env fits. becomes-stands s (value_of s e) (code_of s e) done env fits)

pub condition-made : ExpressionsBecome → (s : Scope) (e : Tree) → IsSound s → IsExpression s.tokens e → IsFree (condition_sites s e) → IsMadeCondition s (condition_code s e)
condition-made claim s e sound shape free =
    let made = condition-in claim s e sound shape free in
    record { to = made.to; is = made.is; made = λ env fits. (made.made env fits (scalar-result env.structs _), made.type) }

pub condition_if-made : ExpressionsBecome → (s : Scope) (e : Maybe) → IsSound s → IfTree (IsExpression s.tokens) e → IsFree (condition_if s e) → IsMadeConditionIf s (condition_code_if s e)
condition_if-made claim s absent sound shape free = record { to = None; is = refl; made = λ env fits. tt }
condition_if-made claim s (present e) sound shape free =
    let made = condition-made claim s e sound shape free in
    record { to = Some made.to; is = ap (λ o. option_map (λ value. Some value) o) made.is; made = λ env fits. made.made env fits }

pub step-made : ExpressionsBecome → (s : Scope) (e : Maybe) → IsSound s → IfTree (IsExpression s.tokens) e → IsFree (expression_if s e) → IsMadeStep s (value_code_if s e)
step-made claim s absent sound shape free = record { to = None; is = refl; made = λ env fits. tt }
step-made claim s (present e) sound shape free =
    let done = claim s e sound.known shape free in
    record {
      to = Some (value_of_code done.to);
      is = ap (λ o. option_map (λ value. Some value) (option_map value_of_code o)) done.is;
      made = λ env fits. becomes-stands s (value_of s e) (code_of s e) done env fits;
    }

-- ---- variables

-- an initialiser, if there is one
pub record IsMadeInit (s : Scope) (ty : Ty) (code : Option (Option Expr)) : Type 0 where
  pub to : Option Expr
  pub is : code ≡ Some to
  pub made : (env : places.Scope) (v : Variable) → Fits env s → slice_get env.variables s.variables ≡ Some v → v.ty ≡ ty → IsLocal env s.variables to

init_if-made : ExpressionsBecome → (s : Scope) → IsSound s → (ty : Option Ty) (known : IsKnownAs s ty) (init : Maybe) → IfTree (IsInit s.tokens) init → IsFree (init_if s ty init) → IsMadeInit s known.type (init_code_if s known.type init)
init_if-made claim s sound ty known absent shape free = record {
  to = None;
  is = refl;
  made = λ env v fits there e. slice_get_within env.variables s.variables v there;
}
init_if-made claim s sound ty known (present init) shape free =
    let made = init-made claim s sound ty known init shape free in
    record {
      to = Some made.to;
      is = ap (λ o. option_map (λ value. Some value) o) made.is;
      made = λ env v fits there e. (
        made.made env fits,
        ap (λ o. option_map (λ (x : Variable). x.ty) o) there ∙ (ap Some e ∙ ap Some (sym made.type)),
      );
    }

start_code-there : (s : Scope) (ty : Option Ty) (at : ℕ) (declarator : Tree) (init : Maybe) (own : Ty) (value : Option Expr) → declarator_type s ty declarator ≡ Some own → init_code_if s own init ≡ Some value → start_code s ty (a_start at declarator init) ≡ Some (one_stmt (local_stmt s.variables value))
start_code-there s ty at declarator init own value e k =
    ap (λ o. option_and_then (λ own. option_map (λ value. one_stmt (local_stmt s.variables value)) (init_code_if s own init)) o) e
    ∙ ap (λ o. option_map (λ value. one_stmt (local_stmt s.variables value)) o) k

pub start-made : ExpressionsBecome → (s : Scope) → IsSound s → (ty : Option Ty) → IsKnownAs s ty → (is_const : Bool) (tree : Tree) → IsStart s.tokens tree → IsFree (start_sites s ty tree) → IsMade s (start_variable s ty tree) (start_code s ty tree) false
start-made claim s sound ty known is_const (a_start at declarator init) shape free =
    let own = start-known s sound ty known at declarator init shape free in
    let made = init_if-made claim s sound (declarator_type s ty declarator) own init shape.2
    (free-rest (site s (a_local_name at)) (init_if s (declarator_type s ty declarator) init) (free-right (declarator_sites s ty declarator) (site s (a_local_name at) ∷ init_if s (declarator_type s ty declarator) init) free)) in
    record {
      to = one_stmt (local_stmt s.variables made.to);
      is = start_code-there s ty at declarator init own.type made.to own.is made.is;
      always = refl;
      types = (start-declares s sound ty known is_const (a_start at declarator init) shape free).types;
      are = λ env fits holds. (
        made.made env (variable_of s at (declarator_type s ty declarator)) fits
            (holds-first env.variables s.variables (variable_of s at (declarator_type s ty declarator)) [] holds)
            (ap (λ o. unwrap_or o void_type) own.is),
        tt,
      );
    }
start-made claim s sound ty known is_const other shape free = absurd shape

pub starts-made : ExpressionsBecome → (s : Scope) → IsSound s → (ty : Option Ty) → IsKnownAs s ty → (is_const : Bool) (starts : Trees) → AllTrees (IsStart s.tokens) starts → IsFree (starts_sites s ty is_const starts) → IsMade s (starts_variables s ty is_const starts) (starts_code s ty is_const starts) false
starts-made claim s sound ty known is_const no_trees shape free = none-made s
starts-made claim s sound ty known is_const (more_trees first rest) shape free =
    let here = free-left (start_sites s ty first) (starts_sites (after_start ty is_const s first) ty is_const rest) free in
    let declares = start-declares s sound ty known is_const first shape.0 here in
    made-joined s (after_start ty is_const s first) (start_variable s ty first) (starts_variables (after_start ty is_const s first) ty is_const rest)
    (start_code s ty first) (starts_code (after_start ty is_const s first) ty is_const rest) false false
    (start-made claim s sound ty known is_const first shape.0 here)
    declares
    (starts-made claim (after_start ty is_const s first) declares.sound ty (known-behind s (after_start ty is_const s first) ty declares.same.structs known) is_const rest
    (subst (λ tokens. AllTrees (IsStart tokens) rest) (sym declares.same.tokens) shape.1)
    (free-right (start_sites s ty first) (starts_sites (after_start ty is_const s first) ty is_const rest) free))
