-- What a whole function breaks doesn't depend on its parameters' names.
use Rattle.std.proofs.Common.{◌≡◌, ◌∙◌, sym, ap, ℕ, Bool, List, [], ◌∷◌, Option}
use Rattle.hl_parser.specs.Trees.{Tree, Trees}
use Rattle.hl_rules.specs.declared.found.Broken.{Broken}
use Rattle.hl_rules.specs.Declarations.{after_params, at_params, params_info}
use Rattle.hl_rules.specs.Parts.{a_whole_function, site}
use Rattle.hl_rules.specs.Rules.{noted}
use Rattle.hl_rules.specs.Scopes.{ParamInfo, Scope}
use Rattle.hl_rules.proofs.Noting.{noted-whole_function}
use Rattle.hl_rules.specs.Found.{breaking, broken_if, gathered}
use Rattle.hl_types.specs.Whole.{judged, whole_noted}
use Rattle.hl_types.proofs.FunctionScopes.{params-change}

pub whole-noted : (s p : Scope) (infos : List ParamInfo) (attributes : Trees) (result : Tree) (name : ℕ) (params : Trees) (block : Tree) (found : Option Broken)
    → p ≡ after_params (at_params s result) params → infos ≡ params_info (at_params s result) params
    → whole_noted p infos attributes result name block found ≡ noted found (site s (a_whole_function attributes result name params block) ∷ [])
whole-noted s p infos attributes result name params block found e i =
    ap (λ x. whole_noted x infos attributes result name block found) (e ∙ sym (params-change (at_params s result) params)) ∙
    (ap (λ x. whole_noted s x attributes result name block found) i ∙
    sym (noted-whole_function found s attributes result name params block))

pub judged-with : (rule at : ℕ) (b b' : Bool) (f f' g : Option Broken) → g ≡ gathered f (breaking rule (broken_if b at)) → b ≡ b' → f ≡ f' → g ≡ judged rule b' at f'
judged-with rule at b b' f f' g e same before = e ∙ (ap (λ x. gathered f (breaking rule (broken_if x at))) same ∙ ap (λ x. gathered x (breaking rule (broken_if b' at))) before)
