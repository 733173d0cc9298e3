-- Functions that break no rule keep what the functions of a program keep.
use Rattle.std.proofs.Common.{◌≡◌, ◌∙◌, refl, sym, ap, ℕ, suc, ◌≤◌, Bool, true, false, not, List, length, Some}
use Rattle.std.specs.Prelude.{◌&&◌, ◌||◌, IsTrue}
use Rattle.std.specs.List.{All}
use Rattle.std.proofs.lemmas.Option.{same_Some}
use Rattle.hl_lexer.specs.Tokens.{Lexeme}
use Rattle.hl_parser.specs.Trees.{Tree, Trees, a_block, a_param, a_result, absent, more_trees, no_trees, present}
use Rattle.hl_meaning.specs.Places as places
use Rattle.hl_meaning.specs.Programs.{FunctionDef, StructDef, Variable}
use Rattle.hl_meaning.specs.Types.{Ty, is_void, void_type}
use Rattle.hl_meaning.specs.WellFormed.{AreNumberedFrom, AreStmts, IsDeclared, IsResult, one_returns}
use Rattle.hl_rules.specs.Constants.{result_type}
use Rattle.hl_rules.specs.DeclarationRules.{always_returns, is_no_result}
use Rattle.hl_rules.specs.Declarations.{after_param}
use Rattle.hl_rules.specs.Elaboration.{body_code, body_variables, param_variables, parameters_from}
use Rattle.hl_rules.specs.Scopes.{Scope}
use Rattle.hl_rules.specs.Sites.{body_sites}
use Rattle.hl_rules.proofs.Free.{IsFree}
use Rattle.hl_rules.proofs.JumpForms.{IsInBody}
use Rattle.hl_rules.proofs.LocalForms.{AreKnownVariables}
use Rattle.hl_rules.proofs.ProgramScopes.{body_env}
use Rattle.hl_rules.proofs.StatementForms.{statements-made}
use Rattle.hl_rules.proofs.StatementParts.{IsMade}
use Rattle.hl_rules.proofs.StructForms.{IsKnownType}
use Rattle.hl_rules.proofs.TreeShapes.{AllTrees, IsBlock, IsParam}
use Rattle.hl_rules.proofs.ValueForms.{ExpressionsBecome}
use Rattle.hl_rules.proofs.Options.{not-false, or-true}

-- what a function of a program keeps behind these functions
pub record IsFunctionBehind (env : places.Scope) (functions : List FunctionDef) (f : FunctionDef) : Type 0 where
  pub result : IsResult env.structs f.result
  pub variables : All (λ (v : Variable). IsDeclared env.structs v.ty) f.variables
  pub numbered : AreNumberedFrom 0 f.parameters
  pub there : length f.parameters ≤ length f.variables
  pub body : AreStmts (body_env env functions f.variables f.result) false f.body
  pub returns : IsTrue (is_void f.result || one_returns f.body)

-- ---- parts

pub body-made : ExpressionsBecome → (s : Scope) → IsInBody s → (block : Tree) → IsBlock s.tokens block → IsFree (body_sites s block) → IsMade s (body_variables s block) (body_code s block) (always_returns s.tokens block)
body-made claim s known (a_block at statements) shape free = statements-made claim s known statements shape free
body-made claim s known other shape free = absurd shape

pub numbered-from : (s : Scope) (number : ℕ) (params : Trees) → AreNumberedFrom number (parameters_from s number params)
numbered-from s number no_trees = tt
numbered-from s number (more_trees first rest) = (refl, numbered-from s (suc number) rest)

pub same-count : (s t : Scope) (tokens : List Lexeme) (number : ℕ) (params : Trees) → AllTrees (IsParam tokens) params → length (parameters_from s number params) ≡ length (param_variables t params)
same-count s t tokens number no_trees shape = refl
same-count s t tokens number (more_trees (a_param at constant direction type declarator semantic) rest) shape =
    ap suc (same-count s (after_param t (a_param at constant direction type declarator semantic)) tokens (suc number) rest shape.1)
same-count s t tokens number (more_trees other rest) shape = absurd shape.0

pub declared-variables : (structs : List StructDef) (words : List ℕ) (variables : List Variable) → ((ty : Ty) → IsKnownType words ty → IsDeclared structs ty) → AreKnownVariables words variables → All (λ (v : Variable). IsDeclared structs v.ty) variables
declared-variables structs words variables declared known = λ k d h. declared _ (known k d h)

pub void-result : (s : Scope) (result : Tree) (ty : Ty) → is_no_result result ≡ true → result_type s result ≡ Some ty → is_void ty ≡ true
void-result s (a_result at absent) ty e h = ap (λ t. is_void t) (sym (same_Some void_type ty h))
void-result s (a_result at (present type)) ty e h = absurd (cc e)
void-result s other ty e h = absurd (cc e)

-- rule 21 says that a function with a result always returns
pub returns-there : (none returns : Bool) (no_result always : Bool) → not no_result && not always ≡ false → (no_result ≡ true → none ≡ true) → returns ≡ always → none || returns ≡ true
returns-there none returns true always e h k = ap (λ b. b || returns) (h refl)
returns-there none returns false always e h k = ap (λ b. none || b) (k ∙ not-false always e) ∙ or-true none
