-- Functions of their parts.
use Rattle.std.proofs.Common.{◌≡◌, ◌∙◌, sym, ap, ℕ, Bool, false, List, [], ◌∷◌, ◌++◌, length, Option, Some}
use Rattle.hl_parser.specs.Trees.{Tree, Trees, no_trees}
use Rattle.hl_meaning.specs.declared.program.Parameter.{Parameter}
use Rattle.hl_meaning.specs.Programs.{FunctionDef, Variable}
use Rattle.hl_meaning.specs.Trees.{Stmts}
use Rattle.hl_meaning.specs.Types.{Ty}
use Rattle.hl_rules.specs.declared.found.Broken.{Broken}
use Rattle.hl_rules.specs.Constants.{result_type}
use Rattle.hl_rules.specs.Declarations.{after_params, at_params, function_info, in_body, params_info, with_function}
use Rattle.hl_rules.specs.Elaboration.{body_code, body_variables, function_def, param_variables, parameters_from}
use Rattle.hl_rules.specs.Parts.{a_whole_function, site}
use Rattle.hl_rules.specs.Rules.{noted}
use Rattle.hl_rules.specs.Scopes.{ParamInfo, Scope, a_function_name, named, spelled, with_global}
use Rattle.hl_rules.specs.Sites.{body_sites, function_attributes_sites, is_entry, params_sites, result_sites}
use Rattle.hl_rules.proofs.Noting.{noted-append, noted-first}
use Rattle.hl_values.specs.ScopeChanges.{Held, outside}
use Rattle.hl_types.specs.Functions.{defined, function_sites}
use Rattle.hl_types.specs.Whole.{whole_noted}
use Rattle.hl_types.proofs.FunctionScopes.{params-change}
use Rattle.hl_types.proofs.WholeLemmas.{whole-noted}

-- behind a function
pub outside-body : (s : Scope) (result : Tree) (name : ℕ) (params : Trees) → outside s ≡ s → outside (in_body s result name params) ≡ with_function s result name params
outside-body s result name params e =
    ap (λ x. outside (record x { inside = Some (length s.functions) })) (sym (params-change (at_params (with_function s result name params) result) params)) ∙
    ap (λ x. with_global (named (spelled s name) a_function_name) (record x { functions = s.functions ++ function_info s result name params ∷ [] })) e

pub function-noted : (s p b : Scope) (infos : List ParamInfo) (attributes : Trees) (result : Tree) (name : ℕ) (params : Trees) (block : Tree) (entry : Bool) (opened : Scope) (f0 f1 f2 f3 f4 f5 : Option Broken)
    → opened ≡ at_params s result → entry ≡ is_entry s name
    → p ≡ after_params (at_params s result) params → infos ≡ params_info (at_params s result) params → b ≡ in_body s result name params
    → f1 ≡ noted f0 (function_attributes_sites s false attributes) → f2 ≡ noted f1 (result_sites s result)
    → f3 ≡ noted f2 (params_sites opened entry no_trees params) → f4 ≡ whole_noted p infos attributes result name block f3
    → f5 ≡ noted f4 (body_sites b block)
    → f5 ≡ noted f0 (function_sites s attributes result name params block)
function-noted s p b infos attributes result name params block entry opened f0 f1 f2 f3 f4 f5 o n e i m e1 e2 e3 e4 e5 =
    let own = function_attributes_sites s false attributes in
    let gives = result_sites s result in
    let inner = params_sites (at_params s result) (is_entry s name) no_trees params in
    let body = body_sites (in_body s result name params) block in
    let two : f2 ≡ noted (noted f0 own) gives = e2 ∙ ap (λ f. noted f gives) e1 in
    let three : f3 ≡ noted (noted (noted f0 own) gives) inner =
    e3 ∙ (ap (λ x. noted f2 (params_sites x entry no_trees params)) o ∙ (ap (λ x. noted f2 (params_sites (at_params s result) x no_trees params)) n ∙ ap (λ f. noted f inner) two)) in
    let four : f4 ≡ noted (noted (noted (noted f0 own) gives) inner) (site s (a_whole_function attributes result name params block) ∷ []) =
    e4 ∙ (whole-noted s p infos attributes result name params block f3 e i ∙ ap (λ f. noted f (site s (a_whole_function attributes result name params block) ∷ [])) three) in
    e5 ∙ (ap (λ x. noted f4 (body_sites x block)) m ∙ (ap (λ f. noted f body) four ∙
    (sym (noted-first (noted (noted (noted f0 own) gives) inner) (site s (a_whole_function attributes result name params block)) body) ∙
    (sym (noted-append (noted (noted f0 own) gives) inner (site s (a_whole_function attributes result name params block) ∷ body)) ∙
    (sym (noted-append (noted f0 own) gives (inner ++ (site s (a_whole_function attributes result name params block) ∷ body))) ∙
    sym (noted-append f0 own (gives ++ (inner ++ (site s (a_whole_function attributes result name params block) ∷ body)))))))))

pub definition-made : (s b : Scope) (result : Tree) (name : ℕ) (params : Trees) (block : Tree) (text : List ℕ) (gives : Option Ty) (parameters : List Parameter) (variables : List Variable) (made : Option Stmts) (def : Option FunctionDef)
    → b ≡ in_body s result name params → text ≡ spelled s name → gives ≡ result_type s result → parameters ≡ parameters_from s 0 params
    → variables ≡ param_variables (at_params s result) params ++ body_variables b block → made ≡ body_code b block
    → def ≡ defined text gives parameters variables made → def ≡ function_def s result name params block
definition-made s b result name params block text gives parameters variables made def e t g p v m d =
    d ∙ (ap (λ x. defined x gives parameters variables made) t ∙ (ap (λ x. defined (spelled s name) x parameters variables made) g ∙
    (ap (λ x. defined (spelled s name) (result_type s result) x variables made) p ∙
    (ap (λ x. defined (spelled s name) (result_type s result) (parameters_from s 0 params) x made) (v ∙ ap (λ x. param_variables (at_params s result) params ++ body_variables x block) e) ∙
    ap (λ x. defined (spelled s name) (result_type s result) (parameters_from s 0 params) (param_variables (at_params s result) params ++ body_variables (in_body s result name params) block) x) (m ∙ ap (λ x. body_code x block) e)))))

-- ---- variables

pub held-variables : (h0 h1 h2 h3 : Held) (ps bs : List Variable) → h1 ≡ record h0 { variables = [] } → h2 ≡ record h1 { variables = h1.variables ++ ps } → h3.variables ≡ h2.variables ++ bs
    → h3.variables ≡ ps ++ bs
held-variables h0 h1 h2 h3 ps bs e1 e2 e3 = e3 ∙ (ap {A = Held} (λ h. h.variables ++ bs) e2 ∙ ap {A = Held} (λ h. (h.variables ++ ps) ++ bs) e1)
