-- A program whose entry does nothing is well formed.
use Rattle.std.proofs.Common.{◌≡◌, ◌∙◌, refl, sym, ap, subst, ℕ, zero, suc, List, [], ◌∷◌, Some, slice_get, arith, rules}
use Rattle.std.proofs.lemmas.Option.{none-some, same_Some}
use Rattle.hl_meaning.specs.declared.ty.HlType.TheVariants.{Void}
use Rattle.hl_meaning.specs.declared.statement.Stmt.{Stmt}
use Rattle.hl_meaning.specs.declared.program.Constant.{Constant}
use Rattle.hl_meaning.specs.declared.program.FunctionDef as held_function
use Rattle.hl_meaning.specs.declared.program.Parameter.{Parameter}
use Rattle.hl_meaning.specs.declared.program.Resource.{Resource}
use Rattle.hl_meaning.specs.declared.program.StructDef.{StructDef}
use Rattle.hl_meaning.specs.declared.program.Variable.{Variable}
use Rattle.hl_meaning.specs.Types.{void_type}
use Rattle.hl_meaning.specs.Views.{plain_function, program_of}
use Rattle.hl_meaning.proofs.Plain.{plain_ty-Void}
use Rattle.hl_meaning.specs.Trees.{no_stmts}
use Rattle.hl_meaning.specs.Programs.{FunctionDef, Program}
use Rattle.hl_meaning.specs.WellFormed.{IsFunction, IsWellFormed}

abbrev pub empty_function : List ℕ → FunctionDef
empty_function name = record { name = name; result = void_type; parameters = []; variables = []; body = no_stmts }

abbrev pub empty_program : List ℕ → Program
empty_program name = record {
  structs = [];
  resources = [];
  shared = [];
  constants = [];
  functions = empty_function name ∷ [];
  entry = 0;
  threads = 1 ∷ 1 ∷ 1 ∷ [];
}

pub empty_function_fits : (name : List ℕ) → IsFunction (empty_program name) 0 (empty_function name)
empty_function_fits name = record { result = tt; variables = search rules; numbered = tt; there = omega arith; body = tt; returns = search rules }

pub empty_well_formed : (name : List ℕ) → IsWellFormed (empty_program name)
empty_well_formed name = record {
  structs = λ number d there. absurd (none-some d there);
  resources = search rules;
  shared = search rules;
  constants = search rules;
  functions = functions;
  entry = record { result = refl; inputs = search rules; distinct = search rules };
  threads = search rules;
}
  where
    functions : (number : ℕ) (f : FunctionDef) → slice_get (empty_function name ∷ []) number ≡ Some f → IsFunction (empty_program name) number f
    functions zero f there = subst (IsFunction (empty_program name) 0) (same_Some (empty_function name) f there) (empty_function_fits name)
    functions (suc number) f there = absurd (none-some f there)

-- such a function that is held
pub empty_function-held : (name : List ℕ) (parameters : List Parameter) (variables : List Variable) (body : List Stmt) → parameters ≡ [] → variables ≡ [] → body ≡ [] →
    plain_function (record { name = name; result = Void; parameters = parameters; variables = variables; body = body }) ≡ empty_function name
empty_function-held name parameters variables body no_parameters no_variables no_body =
    ap (λ ps. plain_function (record { name = name; result = Void; parameters = ps; variables = variables; body = body })) no_parameters ∙
    (ap (λ vs. plain_function (record { name = name; result = Void; parameters = []; variables = vs; body = body })) no_variables ∙
    (ap (λ b. plain_function (record { name = name; result = Void; parameters = []; variables = []; body = b })) no_body ∙
    ap (λ t. record (empty_function name) { result = t }) plain_ty-Void))

pub empty_program-held : (name : List ℕ) (structs : List StructDef) (resources : List Resource) (shared : List Variable) (constants : List Constant) (functions : List held_function.FunctionDef) (f : held_function.FunctionDef) →
    structs ≡ [] → resources ≡ [] → shared ≡ [] → constants ≡ [] → functions ≡ f ∷ [] → plain_function f ≡ empty_function name →
    IsWellFormed (program_of structs resources shared constants functions 0 (1 ∷ 1 ∷ 1 ∷ []))
empty_program-held name structs resources shared constants functions f no_structs no_resources no_shared no_constants one is =
    let whole : program_of structs resources shared constants functions 0 (1 ∷ 1 ∷ 1 ∷ []) ≡ empty_program name =
    ap (λ x. program_of x resources shared constants functions 0 (1 ∷ 1 ∷ 1 ∷ [])) no_structs ∙
    (ap (λ x. program_of [] x shared constants functions 0 (1 ∷ 1 ∷ 1 ∷ [])) no_resources ∙
    (ap (λ x. program_of [] [] x constants functions 0 (1 ∷ 1 ∷ 1 ∷ [])) no_shared ∙
    (ap (λ x. program_of [] [] [] x functions 0 (1 ∷ 1 ∷ 1 ∷ [])) no_constants ∙
    (ap (λ x. program_of [] [] [] [] x 0 (1 ∷ 1 ∷ 1 ∷ [])) one ∙ ap (λ x. record (empty_program name) { functions = x ∷ [] }) is)))) in
    subst IsWellFormed (sym whole) (empty_well_formed name)
