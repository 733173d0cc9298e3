-- Functions of their parts.
use Rattle.std.specs.Prelude.{ℕ, false, List, ◌∷◌, ◌++◌, Option, Some}
use Rattle.hl_parser.specs.Trees.{Tree, Trees, no_trees}
use Rattle.hl_meaning.specs.declared.program.Parameter.{Parameter}
use Rattle.hl_meaning.specs.Programs.{FunctionDef, Variable}
use Rattle.hl_meaning.specs.Trees.{Stmts}
use Rattle.hl_meaning.specs.Types.{Ty}
use Rattle.hl_rules.specs.Declarations.{at_params, in_body}
use Rattle.hl_rules.specs.Expressions.{with_two}
use Rattle.hl_rules.specs.Parts.{Site, a_whole_function, site}
use Rattle.hl_rules.specs.Scopes.{Scope}
use Rattle.hl_rules.specs.Sites.{body_sites, function_attributes_sites, is_entry, params_sites, result_sites}

abbrev pub defined : List ℕ → Option Ty → List Parameter → List Variable → Option Stmts → Option FunctionDef
defined name gives parameters variables made =
    with_two (λ ty body. Some (record { name = name; result = ty; parameters = parameters; variables = variables; body = body })) gives made

-- the places in a function
abbrev pub function_sites : Scope → (attributes : Trees) → (result : Tree) → (name : ℕ) → (params : Trees) → (block : Tree) → List Site
function_sites s attributes result name params block =
    function_attributes_sites s false attributes
    ++ (result_sites s result
    ++ (params_sites (at_params s result) (is_entry s name) no_trees params
    ++ (site s (a_whole_function attributes result name params block) ∷ body_sites (in_body s result name params) block)))
