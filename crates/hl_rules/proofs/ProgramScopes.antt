-- What is known between the items of a program stands in the program, and so does what is known in a function's body.
use Rattle.std.proofs.Common.{◌≡◌, ◌∙◌, ap, ℕ, true, false, List, [], ◌∷◌, ◌++◌, length, Option, Some}
use Rattle.std.specs.Prelude.{slice_get}
use Rattle.hl_parser.specs.Trees.{Tree, Trees}
use Rattle.hl_meaning.specs.Places as places
use Rattle.hl_meaning.specs.Places.{is_writable_root, root_type}
use Rattle.hl_meaning.specs.Programs.{Constant, FunctionDef, Resource, StructDef, Variable}
use Rattle.hl_meaning.specs.Trees.{Root, constant_root, element_root, shared_root, variable_root}
use Rattle.hl_meaning.specs.Types.{Ty, void_type}
use Rattle.hl_rules.specs.Declarations.{after_params, at_params, function_info, in_body}
use Rattle.hl_rules.specs.Scopes.{BufferInfo, FunctionInfo, Scope, Sort, VariableInfo, a_buffer_name, a_function_name, a_struct_name, a_variable_name, spelled}
use Rattle.hl_rules.proofs.Fitting.{FitsBuffer, FitsFunction, FitsVariable}
use Rattle.hl_rules.proofs.FunctionNames.{and_function, params-kept, result-kept}
use Rattle.hl_rules.proofs.ScopeForms.{AllSorts, FitSort}
use Rattle.hl_rules.proofs.Soundness.{IsSound}

-- ---- environments

-- what can be named between the items of a program
abbrev pub program_env : List StructDef → List Resource → List Variable → List Constant → places.Scope
program_env structs resources shared constants = record {
  structs = structs;
  resources = resources;
  shared = shared;
  constants = constants;
  functions = [];
  variables = [];
  result = void_type;
}

-- what can be named in a function behind these functions
abbrev pub body_env : places.Scope → List FunctionDef → List Variable → Ty → places.Scope
body_env env functions variables result = record env { functions = functions; variables = variables; result = result }

-- Between items all that is known stands in the program, of which these are the buffers, groupshared variables, constants and
-- functions so far.
pub record Stands (env : places.Scope) (s : Scope) (rs : List Resource) (ss : List Variable) (cs : List Constant) (fs : List FunctionDef) : Type 0 where
  pub sound : IsSound s
  pub outside : s.blocks ≡ []
  pub resources : length rs ≡ length s.buffers
  pub shared : length ss ≡ s.shared
  pub constants : length cs ≡ s.constants
  pub functions : length fs ≡ length s.functions
  pub buffers : (number : ℕ) (buffer : BufferInfo) → slice_get s.buffers number ≡ Some buffer → FitsBuffer env number buffer
  pub names : AllSorts s (FitSort env)
  pub callees : (number : ℕ) (f : FunctionInfo) → slice_get s.functions number ≡ Some f → FitsFunction env f (slice_get fs number)

-- ---- from the items into a body

module _ (structs : List StructDef) (resources : List Resource) (shared : List Variable) (constants : List Constant) (functions : List FunctionDef) (variables : List Variable) (result : Ty) where
  root-moved : (root : Root) (ty : Ty) → root_type (program_env structs resources shared constants) root ≡ Some ty → root_type (body_env (program_env structs resources shared constants) functions variables result) root ≡ Some ty
  root-moved (variable_root number) ty e = absurd (cc e)
  root-moved (constant_root number) ty e = e
  root-moved (shared_root number) ty e = e
  root-moved (element_root number index) ty e = e

  writable-moved : (root : Root) → is_writable_root (program_env structs resources shared constants) root ≡ true → is_writable_root (body_env (program_env structs resources shared constants) functions variables result) root ≡ true
  writable-moved (variable_root number) e = e
  writable-moved (constant_root number) e = e
  writable-moved (shared_root number) e = e
  writable-moved (element_root number index) e = e

  variable-moved : (v : VariableInfo) (ty : Ty) → FitsVariable (program_env structs resources shared constants) v ty → FitsVariable (body_env (program_env structs resources shared constants) functions variables result) v ty
  variable-moved v ty fits = record {
    type = root-moved v.root ty fits.type;
    declared = fits.declared;
    writes = λ e. writable-moved v.root (fits.writes e);
    whole = fits.whole;
  }

  pub sort-moved : (sort : Sort) → FitSort (program_env structs resources shared constants) sort → FitSort (body_env (program_env structs resources shared constants) functions variables result) sort
  sort-moved (a_variable_name v) fits = λ ty e. variable-moved v ty (fits ty e)
  sort-moved (a_struct_name number) fits = tt
  sort-moved (a_buffer_name number) fits = tt
  sort-moved a_function_name fits = tt

  pub buffer-moved : (number : ℕ) (buffer : BufferInfo) → FitsBuffer (program_env structs resources shared constants) number buffer → FitsBuffer (body_env (program_env structs resources shared constants) functions variables result) number buffer
  buffer-moved number buffer fits = record { resource = fits.resource; there = fits.there; raw = fits.raw; class = fits.class; element = fits.element }

  pub callee-moved : (f : FunctionInfo) (def : Option FunctionDef) → FitsFunction (program_env structs resources shared constants) f def → FitsFunction (body_env (program_env structs resources shared constants) functions variables result) f def
  callee-moved f def fits = record { params = fits.params; result = fits.result }

-- ---- scopes of bodies

-- the body's scope is that behind the parameters, with the function's name among the global ones
pub body-scope : (s : Scope) (result : Tree) (name : ℕ) (params : Trees) → in_body s result name params ≡ record (and_function (spelled s name) (s.functions ++ function_info s result name params ∷ []) (after_params (at_params s result) params)) { inside = Some (length s.functions) }
body-scope s result name params =
    ap (λ (r : Option Ty). record (after_params (record (and_function (spelled s name) (s.functions ++ function_info s result name params ∷ []) s) { blocks = [] ∷ []; variables = 0; in_loop = false; result = r }) params) { inside = Some (length s.functions) })
    (result-kept (spelled s name) (s.functions ++ function_info s result name params ∷ []) s result)
    ∙ ap (λ (t : Scope). record t { inside = Some (length s.functions) }) (params-kept (spelled s name) (s.functions ++ function_info s result name params ∷ []) (at_params s result) params)
