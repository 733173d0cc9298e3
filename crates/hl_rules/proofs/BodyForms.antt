-- What is known in the body of a function that breaks no rule, and that it stands in the program.
use Rattle.std.proofs.Common.{◌≡◌, ◌∙◌, ◌⊎◌, inl, inr, refl, sym, ap, subst, arith, ℕ, false, List, [], ◌∷◌, ◌++◌, length, Option, Some}
use Rattle.std.specs.Prelude.{◌==◌, slice_get}
use Rattle.hl_parser.specs.Trees.{Tree, Trees}
use Rattle.hl_meaning.specs.Places as places
use Rattle.hl_meaning.specs.Programs.{Constant, FunctionDef, Resource, StructDef, Variable}
use Rattle.hl_meaning.specs.Types.{Ty, void_type}
use Rattle.hl_rules.specs.Constants.{result_type}
use Rattle.hl_rules.specs.Declarations.{after_params, at_params, function_info}
use Rattle.hl_rules.specs.Elaboration.{param_variables}
use Rattle.hl_rules.specs.Scopes.{FunctionInfo, Scope, a_function_name, a_variable_name, named, spelled}
use Rattle.hl_rules.specs.Statements.{struct_defs}
use Rattle.hl_rules.proofs.CalleeForms.{function-known}
use Rattle.hl_rules.proofs.DeclaratorForms.{IsKnownResult}
use Rattle.hl_rules.proofs.Fitting.{Fits, FitsFunction, FitsStructs, IsKnownFunction}
use Rattle.hl_rules.proofs.FunctionNames.{and_function}
use Rattle.hl_rules.proofs.GlobalForms.{get-push, sound-function_name}
use Rattle.hl_rules.proofs.JumpForms.{IsInBody}
use Rattle.hl_rules.proofs.LocalForms.{IsDeclaring}
use Rattle.hl_rules.proofs.ParamForms.{AreTypedParams}
use Rattle.hl_rules.proofs.ProgramScopes.{Stands, body_env, buffer-moved, callee-moved, program_env, sort-moved}
use Rattle.hl_rules.proofs.ScopeForms.{FitSort, FitsNames, sorts-global, sorts-outside}
use Rattle.hl_rules.proofs.Soundness.{IsSound}
use Rattle.hl_rules.proofs.StructFitting.{structs-fit}
use Rattle.hl_rules.proofs.StructForms.{IsKnownType, known_words}

-- a scope behind parameters, with the name of a function
abbrev pub inner_scope : Scope → (s : Scope) (result : Tree) (name : ℕ) (params : Trees) → Scope
inner_scope t s result name params = record (and_function (spelled s name) (s.functions ++ function_info s result name params ∷ []) t) { inside = Some (length s.functions) }

sound-inside : (s : Scope) (inside : Option ℕ) → IsSound s → IsSound (record s { inside = inside })
sound-inside s inside sound = record {
  known = record {
    tokens = sound.known.tokens;
    variables = λ name v e. sound.known.variables name v e;
    numbers = λ name v number e h. sound.known.numbers name v number e h;
    members = λ number member name e. sound.known.members number member name e;
    buffers = λ name number e. sound.known.buffers name number e;
    elements = λ number buffer e h. sound.known.elements number buffer e h;
    functions = λ number f e. sound.known.functions number f e;
  };
  structs = sound.structs;
  struct_names = λ name number e. sound.struct_names name number e;
}

sound-inner : (t s : Scope) (result : Tree) (name : ℕ) (params : Trees) → t.functions ≡ s.functions → IsSound t → IsKnownFunction (function_info s result name params) → IsSound (inner_scope t s result name params)
sound-inner t s result name params e sound known =
    sound-inside (and_function (spelled s name) (s.functions ++ function_info s result name params ∷ []) t) (Some (length s.functions))
    (subst (λ l. IsSound (and_function (spelled s name) (l ++ function_info s result name params ∷ []) t)) e
    (sound-function_name t (function_info s result name params) (spelled s name) sound known))

result-moved : (s t : Scope) (ty own : Option Ty) → t.structs ≡ s.structs → own ≡ ty → IsKnownResult s ty → IsKnownResult t own
result-moved s t ty own e h known = record {
  type = known.type;
  is = h ∙ known.is;
  known = subst (λ l. (known.type ≡ void_type) ⊎ IsKnownType (known_words l) known.type) (sym e) known.known;
}

not-length : (m n : ℕ) → m == n ≡ false → n ≡ m → ⊥
not-length m n e h = grind arith

module _ (structs : List StructDef) (resources : List Resource) (shared : List Variable) (constants : List Constant) (s : Scope) (rs : List Resource) (ss : List Variable) (cs : List Constant) (fs : List FunctionDef) (stands : Stands (program_env structs resources shared constants) s rs ss cs fs) (more : List StructDef) (prefix : structs ≡ struct_defs s.structs ++ more) (result : Tree) (name : ℕ) (params : Trees) (known : IsKnownResult s (result_type s result)) (declares : IsDeclaring (at_params s result) (after_params (at_params s result) params) (param_variables (at_params s result) params)) (others : List Variable) where
  -- what can be named in the function
  abbrev pub inner_env : places.Scope
  inner_env = body_env (program_env structs resources shared constants) fs (param_variables (at_params s result) params ++ others) known.type

  outer-names : FitsNames inner_env (at_params s result)
  outer-names = record {
    more = more;
    prefix = prefix;
    names = sorts-outside (FitSort inner_env) s stands.outside (λ name sort e. sort-moved structs resources shared constants fs (param_variables (at_params s result) params ++ others) known.type sort (stands.names name sort e));
  }

  inner-names : FitsNames inner_env (after_params (at_params s result) params)
  inner-names = declares.names inner_env outer-names (record { before = []; behind = others; is = refl; begins = refl })

  functions-fit : (number : ℕ) (f : FunctionInfo) → (slice_get s.functions number ≡ Some f) ⊎ (number ≡ length s.functions) × (function_info s result name params ≡ f) → (length s.functions == number) ≡ false → FitsFunction inner_env f (slice_get fs number)
  functions-fit number f (inl e) h = callee-moved structs resources shared constants fs (param_variables (at_params s result) params ++ others) known.type f (slice_get fs number) (stands.callees number f e)
  functions-fit number f (inr e) h = absurd (not-length (length s.functions) number h e.0)

  -- what is known in the body stands there
  pub inner-fits : Fits inner_env (inner_scope (after_params (at_params s result) params) s result name params)
  inner-fits = record {
    more = inner-names.more;
    prefix = inner-names.prefix;
    structs =
        subst (λ l. FitsStructs (after_params (at_params s result) params).structs l) (sym inner-names.prefix)
        (structs-fit (after_params (at_params s result) params).structs inner-names.more declares.sound.structs);
    buffers = λ number buffer e. buffer-moved structs resources shared constants fs (param_variables (at_params s result) params ++ others) known.type number buffer (stands.buffers number buffer (ap (λ l. slice_get l number) (sym declares.same.buffers) ∙ e));
    variables = λ n v ty e h. sorts-global (FitSort inner_env) (after_params (at_params s result) params) (named (spelled s name) a_function_name) inner-names.names tt n (a_variable_name v) e ty h;
    functions = λ number f e h. functions-fit number f (get-push s.functions (function_info s result name params) number f e) h;
    result = declares.same.result ∙ known.is;
  }

-- what is known in the body
pub inner-known : (s : Scope) (result : Tree) (name : ℕ) (params : Trees) → IsSound s → IsKnownResult s (result_type s result) → AreTypedParams (at_params s result) params → IsDeclaring (at_params s result) (after_params (at_params s result) params) (param_variables (at_params s result) params) → IsInBody (inner_scope (after_params (at_params s result) params) s result name params)
inner-known s result name params sound known typed declares = record {
  sound = sound-inner (after_params (at_params s result) params) s result name params declares.same.functions declares.sound (function-known s result name params typed known);
  result = result-moved s (inner_scope (after_params (at_params s result) params) s result name params) (result_type s result) (after_params (at_params s result) params).result declares.same.structs declares.same.result known;
}
