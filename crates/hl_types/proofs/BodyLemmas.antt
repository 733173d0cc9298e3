-- Bodies of functions.
use Rattle.std.proofs.Common.{◌≡◌, ◌∙◌, refl, sym, ap, subst, [], None}
use Rattle.hl_parser.specs.declared.tree.Tree.{Tree, Tree-F, out-Tree}
use Rattle.hl_parser.specs.declared.tree.Tree.TheVariants.{rolls-Block}
use Rattle.hl_parser.specs.Trees as plain
use Rattle.hl_parser.specs.Trees.{Trees}
use Rattle.hl_parser.specs.Views.{plain_of}
use Rattle.hl_rules.specs.Elaboration.{body_code, body_variables}
use Rattle.hl_rules.specs.Scopes.{Scope}
use Rattle.hl_rules.specs.Sites.{body_sites}
use Rattle.hl_values.specs.ScopeChanges.{outside}
use Rattle.hl_types.specs.Walks.{after_statements}
use Rattle.hl_types.proofs.Closing.{closed-statements}
use Rattle.hl_types.proofs.DeclaredShapes.{IsNoBlock, by_layer, layer, of_layer}

pub record NoBody (s : Scope) (t : plain.Tree) : Type 0 where
  pub code : body_code s t ≡ None
  pub found : body_sites s t ≡ []
  pub variables : body_variables s t ≡ []

body-none : (s : Scope) (tree : Tree) (form : Tree-F Tree) → out-Tree tree ≡ form → IsNoBlock tree → NoBody s (layer form)
body-none s tree (Tree-F.Block at statements) e a = absurd (a at statements (of_layer tree (Tree-F.Block at statements) e ∙ rolls-Block at statements))
body-none s tree form e a = record { code = refl; found = refl; variables = refl }

pub no_body : (s : Scope) (tree : Tree) → IsNoBlock tree → NoBody s (plain_of tree)
no_body s tree a = subst (NoBody s) (sym (by_layer tree)) (body-none s tree (out-Tree tree) refl a)

-- statements leave alone what stands outside of functions
pub outside-statements : (s : Scope) (ts : Trees) → outside (after_statements s ts) ≡ outside s
outside-statements s ts = ap outside (closed-statements s ts)
