-- What attributes of statements break.
use Rattle.std.proofs.Common.{◌≡◌, ◌∙◌, refl, sym, ap, ℕ, suc, Bool, not, List, [], ◌∷◌, ◌++◌, Option, append_assoc, length}
use Rattle.hl_parser.specs.declared.tree.Tree.{Tree as HeldTree}
use Rattle.hl_parser.specs.Trees.{Tree, Trees, an_attribute, more_trees, no_trees}
use Rattle.hl_parser.specs.Views.{plain_trees}
use Rattle.hl_rules.specs.declared.found.Broken.{Broken}
use Rattle.hl_rules.specs.Constants.{tree_count}
use Rattle.hl_rules.specs.ExpressionRules.{is_statement_attribute}
use Rattle.hl_rules.specs.Found.{breaking, broken_if, gathered}
use Rattle.hl_rules.specs.Parts.{a_statement_attribute, site}
use Rattle.hl_rules.specs.Rules.{noted}
use Rattle.hl_rules.specs.Scopes.{Scope, spelled}
use Rattle.hl_rules.specs.Sites.{arguments_sites, attributes_sites}
use Rattle.hl_rules.proofs.Noting.{noted-append, noted-statement_attribute}

pub attributes-step : (s : Scope) (t : Tree) (rest : Trees) → attributes_sites s (more_trees t rest) ≡ attributes_sites s (more_trees t no_trees) ++ attributes_sites s rest
attributes-step s (an_attribute at name arguments) rest =
    sym (append_assoc (arguments_sites s arguments) (site s (a_statement_attribute name at arguments) ∷ []) (attributes_sites s rest))
attributes-step s t rest = refl

pub count-is : (trees : List HeldTree) → length trees ≡ tree_count (plain_trees trees)
count-is [] = refl
count-is (t ∷ trees) = ap suc (count-is trees)

pub attribute-noted : (s : Scope) (name at : ℕ) (arguments : List HeldTree) (text : List ℕ) (count : ℕ) (known : Bool) (before between behind : Option Broken)
    → between ≡ noted before (arguments_sites s (plain_trees arguments)) → known ≡ is_statement_attribute text count → text ≡ spelled s name → count ≡ length arguments
    → behind ≡ gathered between (breaking 23 (broken_if (not known) at))
    → behind ≡ noted before (attributes_sites s (more_trees (an_attribute at name (plain_trees arguments)) no_trees))
attribute-noted s name at arguments text count known before between behind inner is spells counts e =
    let args = plain_trees arguments in
    let judged : known ≡ is_statement_attribute (spelled s name) (tree_count args) =
    is ∙ (ap (λ t. is_statement_attribute t count) spells ∙ ap (is_statement_attribute (spelled s name)) (counts ∙ count-is arguments)) in
    e ∙ (ap (λ f. gathered f (breaking 23 (broken_if (not known) at))) inner ∙
    (ap (λ k. gathered (noted before (arguments_sites s args)) (breaking 23 (broken_if (not k) at))) judged ∙
    sym (noted-append before (arguments_sites s args) (site s (a_statement_attribute name at args) ∷ []) ∙ noted-statement_attribute (noted before (arguments_sites s args)) s name at args)))
