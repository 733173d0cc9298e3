-- A function of the program has the parameters and the result that are known of it.
use Rattle.std.proofs.Common.{◌≡◌, ◌∙◌, ◌⊎◌, inl, inr, refl, sym, ap, subst, ℕ, suc, List, [], ◌∷◌, ◌++◌, map, length, Option, Some, append_assoc}
use Rattle.std.specs.Prelude.{option_and_then, option_map, unwrap_or}
use Rattle.std.specs.List.{All}
use Rattle.std.proofs.lemmas.List.Elements.{All-cons, All-nil}
use Rattle.std.proofs.lemmas.Option.{same_Some}
use Rattle.hl_lexer.specs.Tokens.{Lexeme}
use Rattle.hl_parser.specs.Trees.{Tree, Trees, a_param, more_trees, no_trees}
use Rattle.hl_meaning.specs.Places as places
use Rattle.hl_meaning.specs.Places.{variable_type}
use Rattle.hl_meaning.specs.Programs.{StructDef, Variable}
use Rattle.hl_meaning.specs.Trees.{Stmts}
use Rattle.hl_meaning.specs.Types.{Ty, void_type}
use Rattle.hl_meaning.specs.WellFormed.{IsDeclared, IsResult, callee_params, param_of}
use Rattle.hl_overload.specs.Choice.{Param}
use Rattle.hl_rules.specs.Constants.{named_type, result_type}
use Rattle.hl_rules.specs.Declarations.{after_param, at_params, copying_of, function_info, in_body, param_copying, params_info}
use Rattle.hl_rules.specs.Elaboration.{body_variables, declared_variable, param_variables, parameters_from}
use Rattle.hl_rules.specs.Scopes.{Scope}
use Rattle.hl_rules.specs.Values.{params_known}
use Rattle.hl_rules.proofs.DeclaratorForms.{IsKnownResult}
use Rattle.hl_rules.proofs.Fitting.{FitsFunction, IsKnownFunction, param_for}
use Rattle.hl_rules.proofs.FunctionEntry.{made_function}
use Rattle.hl_rules.proofs.InputForms.{copying-tokens, param-tokens}
use Rattle.hl_meaning.proofs.LayoutForms.{get-next}
use Rattle.hl_rules.proofs.ParamForms.{AreTypedParams}
use Rattle.hl_rules.proofs.StructForms.{IsKnownType, known_words}
use Rattle.hl_rules.proofs.TreeShapes.{AllTrees, IsParam}
use Rattle.hl_rules.proofs.ShortTypes.{declared-result}
use Rattle.hl_rules.proofs.Options.{length-one}

-- the parameters with their types
abbrev pub passed_of : (s : Scope) (params : Trees) → AreTypedParams s params → List Param
passed_of s no_trees typed = []
passed_of s (more_trees first rest) typed = record { ty = typed.0.type; copying = param_copying s first } ∷ passed_of (after_param s first) rest typed.1

passed-known : (s : Scope) (params : Trees) (typed : AreTypedParams s params) → params_known (params_info s params) ≡ Some (passed_of s params typed)
passed-known s no_trees typed = refl
passed-known s (more_trees first rest) typed =
    ap (λ o. option_and_then (λ ty. option_map (λ more. record { ty = ty; copying = param_copying s first } ∷ more) (params_known (params_info (after_param s first) rest))) o) typed.0.is
    ∙ ap (λ o. option_map (λ more. record { ty = typed.0.type; copying = param_copying s first } ∷ more) o) (passed-known (after_param s first) rest typed.1)

pub passed-declared : (structs : List StructDef) (s : Scope) (tokens : List Lexeme) (params : Trees) (typed : AreTypedParams s params) → AllTrees (IsParam tokens) params → ((ty : Ty) → IsKnownType (known_words s.structs) ty → IsDeclared structs ty) → All (λ (p : Param). IsDeclared structs p.ty) (passed_of s params typed)
passed-declared structs s tokens no_trees typed shape declared = All-nil (λ (p : Param). IsDeclared structs p.ty)
passed-declared structs s tokens (more_trees (a_param at constant direction type declarator semantic) rest) typed shape declared =
    All-cons (λ (p : Param). IsDeclared structs p.ty) (record { ty = typed.0.type; copying = copying_of s direction }) (passed_of (after_param s (a_param at constant direction type declarator semantic)) rest typed.1)
    (declared typed.0.type typed.0.known)
    (passed-declared structs (after_param s (a_param at constant direction type declarator semantic)) tokens rest typed.1 shape.1 declared)
passed-declared structs s tokens (more_trees other rest) typed shape declared = absurd shape.0

-- the parameters of the program's function are these
callee-params : (s t : Scope) (tokens : List Lexeme) (pre more : List Variable) (number : ℕ) (params : Trees) (typed : AreTypedParams t params) → number ≡ length pre → t.tokens ≡ s.tokens → AllTrees (IsParam tokens) params → map (param_of (pre ++ (param_variables t params ++ more))) (parameters_from s number params) ≡ map param_for (passed_of t params typed)
callee-params s t tokens pre more number no_trees typed n e shape = refl
callee-params s t tokens pre more number (more_trees (a_param at constant direction type declarator semantic) rest) typed n e shape =
    ap (λ o. option_map (λ ty. record { ty = ty; copying = copying_of s direction }) o ∷ map (param_of (pre ++ (first ∷ (param_variables behind rest ++ more)))) (parameters_from s (suc number) rest)) there
    ∙ (ap (λ c. Some (record { ty = typed.0.type; copying = c }) ∷ map (param_of (pre ++ (first ∷ (param_variables behind rest ++ more)))) (parameters_from s (suc number) rest)) (sym (copying-tokens t s direction e))
    ∙ ap (λ l. Some (record { ty = typed.0.type; copying = copying_of t direction }) ∷ l)
    (ap (λ l. map (param_of l) (parameters_from s (suc number) rest)) (sym (append_assoc pre (first ∷ []) (param_variables behind rest ++ more)))
    ∙ callee-params s behind tokens (pre ++ first ∷ []) more (suc number) rest typed.1 (ap suc n ∙ sym (length-one pre first)) (param-tokens t param ∙ e) shape.1))
  where
    param : Tree
    param = a_param at constant direction type declarator semantic

    first : Variable
    first = declared_variable t (named_type t type) declarator

    behind : Scope
    behind = after_param t param

    there : variable_type (pre ++ (first ∷ (param_variables behind rest ++ more))) number ≡ Some typed.0.type
    there =
        ap (λ place. variable_type (pre ++ (first ∷ (param_variables behind rest ++ more))) place) n
        ∙ (ap (λ o. option_map (λ (v : Variable). v.ty) o) (get-next pre first (param_variables behind rest ++ more))
        ∙ ap (λ o. Some (unwrap_or o void_type)) typed.0.is)
callee-params s t tokens pre more number (more_trees other rest) typed n e shape = absurd shape.0

-- ---- functions

-- a function that is known
pub function-known : (s : Scope) (result : Tree) (name : ℕ) (params : Trees) → AreTypedParams (at_params s result) params → IsKnownResult s (result_type s result) → IsKnownFunction (function_info s result name params)
function-known s result name params typed known = record {
  params = (passed_of (at_params s result) params typed, passed-known (at_params s result) params typed);
  result = (known.type, known.is);
}

result-kept : (structs : List StructDef) (s : Scope) (ty : Ty) → ((own : Ty) → IsKnownType (known_words s.structs) own → IsDeclared structs own) → (ty ≡ void_type) ⊎ IsKnownType (known_words s.structs) ty → IsResult structs ty
result-kept structs s ty declared (inl e) = subst (λ t. IsResult structs t) (sym e) tt
result-kept structs s ty declared (inr known) = declared-result structs ty (declared ty known)

pub known-result : (structs : List StructDef) (s : Scope) (ty : Option Ty) (known : IsKnownResult s ty) → ((own : Ty) → IsKnownType (known_words s.structs) own → IsDeclared structs own) → IsResult structs known.type
known-result structs s ty known declared = result-kept structs s known.type declared known.known

pub function-fits : (env : places.Scope) (s : Scope) (tokens : List Lexeme) (result : Tree) (name : ℕ) (params : Trees) (block : Tree) (body : Stmts) (typed : AreTypedParams (at_params s result) params) (known : IsKnownResult s (result_type s result)) → AllTrees (IsParam tokens) params → ((ty : Ty) → IsKnownType (known_words s.structs) ty → IsDeclared env.structs ty) → FitsFunction env (function_info s result name params) (Some (made_function s result name params block known.type body))
function-fits env s tokens result name params block body typed known shape declared = record {
  params = λ passed e.
      subst (λ l. (callee_params (Some (made_function s result name params block known.type body)) ≡ map param_for l) × All (λ (p : Param). IsDeclared env.structs p.ty) l)
      (same_Some (passed_of (at_params s result) params typed) passed (sym (passed-known (at_params s result) params typed) ∙ e))
      (callee-params s (at_params s result) tokens [] (body_variables (in_body s result name params) block) 0 params typed refl refl shape, passed-declared env.structs (at_params s result) tokens params typed shape declared);
  result = λ ty e. (
    ap (λ t. Some t) (same_Some known.type ty (sym known.is ∙ e)),
    subst (λ t. IsResult env.structs t) (same_Some known.type ty (sym known.is ∙ e)) (known-result env.structs s (result_type s result) known declared),
  );
}
