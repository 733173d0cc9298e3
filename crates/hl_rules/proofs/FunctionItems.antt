-- A function that breaks no rule becomes a function of the program, and is known behind it.
use Rattle.std.proofs.Common.{◌≡◌, ◌∙◌, sym, ap, subst, arith, ℕ, false, not, List, [], ◌++◌, Some, length-append}
use Rattle.std.specs.Prelude.{◌&&◌}
use Rattle.std.proofs.lemmas.List.{append-nil}
use Rattle.std.proofs.lemmas.List.Elements.{All-append}
use Rattle.hl_parser.specs.Trees.{Tree, Trees, no_trees}
use Rattle.hl_meaning.specs.Places as places
use Rattle.hl_meaning.specs.Programs.{Constant, FunctionDef, Resource, StructDef, Variable}
use Rattle.hl_meaning.specs.Trees.{Stmts}
use Rattle.hl_meaning.specs.Types.{Ty, is_void}
use Rattle.hl_meaning.specs.WellFormed.{AreStmts, IsDeclared, one_returns}
use Rattle.hl_rules.specs.Constants.{result_type}
use Rattle.hl_rules.specs.DeclarationRules.{always_returns, is_no_result}
use Rattle.hl_rules.specs.Declarations.{after_params, at_params, in_body}
use Rattle.hl_rules.specs.Elaboration.{body_code, body_variables, function_def, param_variables}
use Rattle.hl_rules.specs.Expressions.{with_two}
use Rattle.hl_rules.specs.Scopes.{Scope}
use Rattle.hl_rules.specs.Sites.{is_entry}
use Rattle.hl_rules.specs.Statements.{struct_defs}
use Rattle.hl_rules.proofs.BodyForms.{inner-fits, inner-known, inner_env}
use Rattle.hl_rules.proofs.CalleeForms.{known-result}
use Rattle.hl_rules.proofs.DeclaratorForms.{IsKnownResult, result-known}
use Rattle.hl_rules.proofs.Fitting.{Fits}
use Rattle.hl_rules.proofs.Free.{not_broken}
use Rattle.hl_rules.proofs.FunctionEntry.{IsFreeFunction, made_function}
use Rattle.hl_rules.proofs.FunctionForms.{IsFunctionBehind, body-made, declared-variables, numbered-from, returns-there, same-count, void-result}
use Rattle.hl_rules.proofs.JumpForms.{IsInBody}
use Rattle.hl_rules.proofs.LocalForms.{IsDeclaring, params-declare}
use Rattle.hl_rules.proofs.ParamForms.{AreTypedParams, sound-params, typed-params}
use Rattle.hl_rules.proofs.ProgramScopes.{Stands, body-scope, program_env}
use Rattle.hl_rules.proofs.ScopeForms.{HoldsPart}
use Rattle.hl_rules.proofs.StatementParts.{IsMade}
use Rattle.hl_rules.proofs.StructForms.{IsKnownType, declared-known, known_words}
use Rattle.hl_rules.proofs.TreeShapes.{AllTrees, IsBlock, IsParam, IsResultOf}
use Rattle.hl_rules.proofs.ValueForms.{ExpressionsBecome}

-- a function is made, and keeps what a function of a program keeps
pub record IsFunctionThere (env : places.Scope) (s : Scope) (fs : List FunctionDef) (result : Tree) (name : ℕ) (params : Trees) (block : Tree) : Type 0 where
  pub typed : AreTypedParams (at_params s result) params
  pub known : IsKnownResult s (result_type s result)
  pub code : Stmts
  pub is : function_def s result name params block ≡ Some (made_function s result name params block known.type code)
  pub kept : IsFunctionBehind env fs (made_function s result name params block known.type code)

module _ (structs : List StructDef) (resources : List Resource) (shared : List Variable) (constants : List Constant) (s : Scope) (rs : List Resource) (ss : List Variable) (cs : List Constant) (fs : List FunctionDef) (stands : Stands (program_env structs resources shared constants) s rs ss cs fs) (more : List StructDef) (prefix : structs ≡ struct_defs s.structs ++ more) where
  declared-here : (ty : Ty) → IsKnownType (known_words s.structs) ty → IsDeclared structs ty
  declared-here ty known = subst (λ l. IsDeclared l ty) (sym prefix) (declared-known s.structs s.structs more ty stands.sound.structs known)

  module _ (result : Tree) (name : ℕ) (params : Trees) (block : Tree) (known : IsKnownResult s (result_type s result)) (typed : AreTypedParams (at_params s result) params) (declares : IsDeclaring (at_params s result) (after_params (at_params s result) params) (param_variables (at_params s result) params)) where
    known-here : IsInBody (in_body s result name params)
    known-here = subst (λ u. IsInBody u) (sym (body-scope s result name params)) (inner-known s result name params stands.sound known typed declares)

    fits-here : Fits (inner_env structs resources shared constants s rs ss cs fs stands more prefix result name params known declares (body_variables (in_body s result name params) block)) (in_body s result name params)
    fits-here =
        subst (λ u. Fits (inner_env structs resources shared constants s rs ss cs fs stands more prefix result name params known declares (body_variables (in_body s result name params) block)) u)
        (sym (body-scope s result name params))
        (inner-fits structs resources shared constants s rs ss cs fs stands more prefix result name params known declares (body_variables (in_body s result name params) block))

    holds-here : HoldsPart (param_variables (at_params s result) params ++ body_variables (in_body s result name params) block) (in_body s result name params).variables (body_variables (in_body s result name params) block)
    holds-here = record {
      before = param_variables (at_params s result) params;
      behind = [];
      is = ap (λ l. param_variables (at_params s result) params ++ l) (sym (append-nil (body_variables (in_body s result name params) block)));
      begins = sym (ap (λ (u : Scope). u.variables) (body-scope s result name params) ∙ (declares.same.variables ∙ omega arith));
    }

    outside-loops : (in_body s result name params).in_loop ≡ false
    outside-loops = ap (λ (u : Scope). u.in_loop) (body-scope s result name params) ∙ declares.same.in_loop

    same-structs : (in_body s result name params).structs ≡ s.structs
    same-structs = ap (λ (u : Scope). u.structs) (body-scope s result name params) ∙ declares.same.structs

    same-tokens : (in_body s result name params).tokens ≡ s.tokens
    same-tokens = ap (λ (u : Scope). u.tokens) (body-scope s result name params) ∙ declares.same.tokens

    there-here : (attributes : Trees) → IsFreeFunction s attributes result name params block → AllTrees (IsParam s.tokens) params → IsMade (in_body s result name params) (body_variables (in_body s result name params) block) (body_code (in_body s result name params) block) (always_returns (in_body s result name params).tokens block) → IsFunctionThere (program_env structs resources shared constants) s fs result name params block
    there-here attributes free shape made = record {
      typed = typed;
      known = known;
      code = made.to;
      is =
          ap (λ o. with_two (λ ty body. Some (made_function s result name params block ty body)) o (body_code (in_body s result name params) block)) known.is
          ∙ ap (λ o. with_two (λ ty body. Some (made_function s result name params block ty body)) (Some known.type) o) made.is;
      kept = record {
        result = known-result structs s (result_type s result) known declared-here;
        variables =
            All-append (λ (v : Variable). IsDeclared structs v.ty) (param_variables (at_params s result) params) (body_variables (in_body s result name params) block)
            (declared-variables structs (known_words s.structs) (param_variables (at_params s result) params) declared-here declares.types)
            (declared-variables structs (known_words (in_body s result name params).structs) (body_variables (in_body s result name params) block)
            (subst (λ l. (ty : Ty) → IsKnownType (known_words l) ty → IsDeclared structs ty) (sym same-structs) declared-here) made.types);
        numbered = numbered-from s 0 params;
        there = omega (arith, same-count s (at_params s result) s.tokens 0 params shape, length-append (param_variables (at_params s result) params) (body_variables (in_body s result name params) block));
        body =
            subst (λ b. AreStmts (inner_env structs resources shared constants s rs ss cs fs stands more prefix result name params known declares (body_variables (in_body s result name params) block)) b made.to) outside-loops
            (made.are (inner_env structs resources shared constants s rs ss cs fs stands more prefix result name params known declares (body_variables (in_body s result name params) block)) fits-here holds-here);
        returns =
            returns-there (is_void known.type) (one_returns made.to) (is_no_result result) (always_returns s.tokens block)
            (not_broken (not (is_no_result result) && not (always_returns s.tokens block)) name free.whole.obeys_21)
            (λ e. void-result s result known.type e known.is)
            (made.always ∙ ap (λ tokens. always_returns tokens block) same-tokens);
      };
    }

  -- a function that breaks no rule
  pub function-there : ExpressionsBecome → (attributes : Trees) (result : Tree) (name : ℕ) (params : Trees) (block : Tree) → IsFreeFunction s attributes result name params block → IsResultOf s.tokens result → AllTrees (IsParam s.tokens) params → IsBlock s.tokens block → IsFunctionThere (program_env structs resources shared constants) s fs result name params block
  function-there claim attributes result name params block free result_shape shape block_shape =
      let known = result-known s stands.sound result result_shape free.in_result in
      let sound = sound-params s result stands.sound stands.outside in
      let typed = typed-params (at_params s result) sound (is_entry s name) no_trees params shape free.in_params in
      let declares = params-declare (at_params s result) sound (is_entry s name) no_trees params shape free.in_params in
      there-here result name params block known typed declares attributes free shape
      (body-made claim (in_body s result name params) (known-here result name params block known typed declares) block
      (subst (λ tokens. IsBlock tokens block) (sym (same-tokens result name params block known typed declares)) block_shape) free.inside)
