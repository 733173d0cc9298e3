-- Attributes of functions, one behind the other.
use Rattle.std.proofs.Common.{◌≡◌, ◌∙◌, refl, sym, ap, ℕ, Bool, true, false, not, ◌&&◌, ◌||◌, if◌then◌else◌, [], ◌∷◌, ◌++◌, Option, None, Some, is_some, append_assoc}
use Rattle.hl_parser.specs.declared.tree.Tree.{Tree, Tree-F, out-Tree}
use Rattle.hl_parser.specs.declared.tree.Tree.TheVariants.{rolls-Attribute, rolls-Result}
use Rattle.hl_parser.specs.Trees as plain
use Rattle.hl_parser.specs.Trees.{Trees, more_trees, no_trees, an_attribute}
use Rattle.hl_parser.specs.Views.{plain_of}
use Rattle.hl_rules.specs.declared.found.Broken.{Broken}
use Rattle.hl_rules.specs.DeclarationRules.{have_threads}
use Rattle.hl_rules.specs.Found.{breaking, broken_if, gathered}
use Rattle.hl_rules.specs.Parts.{a_function_attribute, site}
use Rattle.hl_rules.specs.Rules.{noted}
use Rattle.hl_rules.specs.Scopes.{Scope}
use Rattle.hl_rules.specs.Sites.{arguments_sites, function_attributes_sites, is_numthreads, result_sites}
use Rattle.hl_rules.proofs.Noting.{noted-append, noted-function_attribute}
use Rattle.hl_types.specs.Threads.{numthreads_in}
use Rattle.hl_types.proofs.DeclaredShapes.{IsNoResult, by_layer, layer, of_layer}
use Rattle.hl_types.proofs.ThreadLemmas.{IsNoAttribute}

none-sites : (s : Scope) (again : Bool) (tree : Tree) (form : Tree-F Tree) → out-Tree tree ≡ form → IsNoAttribute tree → function_attributes_sites s again (more_trees (layer form) no_trees) ≡ []
none-sites s again tree (Tree-F.Attribute at name arguments) e a = absurd (a at name arguments (of_layer tree (Tree-F.Attribute at name arguments) e ∙ rolls-Attribute at name arguments))
none-sites s again tree form e a = refl

pub attribute_sites-none : (s : Scope) (again : Bool) (tree : Tree) → IsNoAttribute tree → function_attributes_sites s again (more_trees (plain_of tree) no_trees) ≡ []
attribute_sites-none s again tree a = ap (λ t. function_attributes_sites s again (more_trees t no_trees)) (by_layer tree) ∙ none-sites s again tree (out-Tree tree) refl a

result-none : (s : Scope) (tree : Tree) (form : Tree-F Tree) → out-Tree tree ≡ form → IsNoResult tree → result_sites s (layer form) ≡ []
result-none s tree (Tree-F.Result at type) e a = absurd (a at type (of_layer tree (Tree-F.Result at type) e ∙ rolls-Result at type))
result-none s tree form e a = refl

pub result_sites-none : (s : Scope) (tree : Tree) → IsNoResult tree → result_sites s (plain_of tree) ≡ []
result_sites-none s tree a = ap (result_sites s) (by_layer tree) ∙ result-none s tree (out-Tree tree) refl a

or-false : (b : Bool) → (b || false) ≡ b
or-false true = refl
or-false false = refl

is-there : (b : Bool) (arguments : Trees) → is_some (if b then Some arguments else None) ≡ b
is-there true arguments = refl
is-there false arguments = refl

pub attributes-more : (s : Scope) (again : Bool) (t : plain.Tree) (rest : Trees)
    → function_attributes_sites s again (more_trees t rest) ≡ function_attributes_sites s again (more_trees t no_trees) ++ function_attributes_sites s (again || is_some (numthreads_in s t)) rest
attributes-more s again (an_attribute at name arguments) rest =
    ap (λ b. arguments_sites s arguments ++ (site s (a_function_attribute again name at arguments) ∷ function_attributes_sites s (again || b) rest)) (sym (is-there (is_numthreads s name) arguments)) ∙
    sym (append_assoc (arguments_sites s arguments) (site s (a_function_attribute again name at arguments) ∷ []) (function_attributes_sites s (again || is_some (numthreads_in s (an_attribute at name arguments))) rest))
attributes-more s again t rest = ap (λ b. function_attributes_sites s b rest) (sym (or-false again))

pub attribute-noted : (s : Scope) (again : Bool) (at name : ℕ) (arguments : Trees) (f0 f1 f2 f3 f4 : Option Broken) (numthreads threads first second : Bool)
    → f1 ≡ noted f0 (arguments_sites s arguments) → numthreads ≡ is_numthreads s name → threads ≡ have_threads s arguments
    → first ≡ (again && numthreads) → second ≡ (numthreads && not threads)
    → f2 ≡ gathered f1 (breaking 14 (broken_if first name)) → f3 ≡ gathered f2 (breaking 15 (broken_if second name)) → f4 ≡ gathered f3 (breaking 23 (broken_if (not numthreads) at))
    → f4 ≡ noted f0 (function_attributes_sites s again (more_trees (an_attribute at name arguments) no_trees))
attribute-noted s again at name arguments f0 f1 f2 f3 f4 numthreads threads first second inner n t a b e2 e3 e4 =
    e4 ∙ (ap (λ f. gathered f (breaking 23 (broken_if (not numthreads) at))) (e3 ∙ (ap (λ x. gathered f2 (breaking 15 (broken_if x name))) b ∙
    ap (λ f. gathered f (breaking 15 (broken_if (numthreads && not threads) name))) (e2 ∙ (ap (λ x. gathered f1 (breaking 14 (broken_if x name))) a ∙ ap (λ f. gathered f (breaking 14 (broken_if (again && numthreads) name))) inner)))) ∙
    (ap (λ x. gathered (gathered (gathered (noted f0 (arguments_sites s arguments)) (breaking 14 (broken_if (again && x) name))) (breaking 15 (broken_if (x && not threads) name))) (breaking 23 (broken_if (not x) at))) n ∙
    (ap (λ x. gathered (gathered (gathered (noted f0 (arguments_sites s arguments)) (breaking 14 (broken_if (again && is_numthreads s name) name))) (breaking 15 (broken_if (is_numthreads s name && not x) name))) (breaking 23 (broken_if (not (is_numthreads s name)) at))) t ∙
    sym (noted-append f0 (arguments_sites s arguments) (site s (a_function_attribute again name at arguments) ∷ []) ∙ noted-function_attribute (noted f0 (arguments_sites s arguments)) s again name at arguments))))
