-- Trees of no form that a walk over expressions looks for.
use Rattle.std.proofs.Common.{◌≡◌, ◌∙◌, refl, ap, ℕ, [], Option, None}
use Rattle.hl_parser.specs.declared.tree.Tree.{Tree, Tree-F, out-Tree}
use Rattle.hl_parser.specs.declared.tree.Tree.TheVariants.{rolls-And, rolls-Args, rolls-Bitand, rolls-Bitor, rolls-Bitxor, rolls-Choice, rolls-Equal, rolls-Expr, rolls-Less, rolls-Or, rolls-Postfix, rolls-Primary, rolls-Product, rolls-Shift, rolls-Sum, rolls-Unary}
use Rattle.hl_parser.specs.declared.tree.Tree.TheVariants as variants
use Rattle.hl_parser.specs.Trees as plain
use Rattle.hl_parser.specs.Trees.{no_trees}
use Rattle.hl_parser.specs.Views.{plain_of}
use Rattle.hl_rules.specs.ExpressionRules.{argument_trees}
use Rattle.hl_rules.specs.Scopes.{Scope}
use Rattle.hl_rules.specs.Sites.{argument_sites, expression_sites}
use Rattle.hl_values.specs.Known.{known_of, known_value}
use Rattle.hl_types.proofs.ArgumentLemmas.{IsNoArgs, argument_trees-none}
use Rattle.hl_types.proofs.DeclaredShapes.{by_layer, layer, of_layer}
use Rattle.hl_types.proofs.IndexLemmas.{IsNoPrimary}

abbrev pub IsNoPostfix : Tree → Type 0
IsNoPostfix tree = (at : ℕ) (operand : Tree) (mark : ℕ) (name : Option ℕ) (part : Option Tree) → tree ≡ variants.Postfix at operand mark name part → ⊥

abbrev pub IsNoUnary : Tree → Type 0
IsNoUnary tree = (at : ℕ) (cast : Option Tree) (operand : Tree) → tree ≡ variants.Unary at cast operand → ⊥

abbrev pub IsNoChoice : Tree → Type 0
IsNoChoice tree = (at : ℕ) (condition consequent alternative : Tree) → tree ≡ variants.Choice at condition consequent alternative → ⊥

-- it is no assignment or operation of a form
abbrev pub IsNoTwo : (ℕ → Tree → ℕ → Tree → Tree) → Tree → Type 0
IsNoTwo form tree = (at : ℕ) (left : Tree) (mark : ℕ) (right : Tree) → tree ≡ form at left mark right → ⊥

-- nothing is known of it, and it has no places
abbrev pub IsNothing : Scope → plain.Tree → Type 0
IsNothing s e = (known_of s e ≡ known_value None None) × (expression_sites s e ≡ [])

layer-none : (s : Scope) (tree : Tree) (form : Tree-F Tree) → out-Tree tree ≡ form → IsNoPrimary tree → IsNoPostfix tree → IsNoUnary tree → IsNoTwo variants.Expr tree → IsNoChoice tree
    → IsNoTwo variants.Or tree → IsNoTwo variants.And tree → IsNoTwo variants.Bitor tree → IsNoTwo variants.Bitxor tree → IsNoTwo variants.Bitand tree
    → IsNoTwo variants.Equal tree → IsNoTwo variants.Less tree → IsNoTwo variants.Shift tree → IsNoTwo variants.Sum tree → IsNoTwo variants.Product tree → IsNothing s (layer form)
layer-none s tree (Tree-F.Primary at part arguments) e n0 n1 n2 n3 n4 n5 n6 n7 n8 n9 n10 n11 n12 n13 n14 = absurd (n0 at part arguments (of_layer tree (Tree-F.Primary at part arguments) e ∙ rolls-Primary at part arguments))
layer-none s tree (Tree-F.Postfix at operand mark name part) e n0 n1 n2 n3 n4 n5 n6 n7 n8 n9 n10 n11 n12 n13 n14 = absurd (n1 at operand mark name part (of_layer tree (Tree-F.Postfix at operand mark name part) e ∙ rolls-Postfix at operand mark name part))
layer-none s tree (Tree-F.Unary at cast operand) e n0 n1 n2 n3 n4 n5 n6 n7 n8 n9 n10 n11 n12 n13 n14 = absurd (n2 at cast operand (of_layer tree (Tree-F.Unary at cast operand) e ∙ rolls-Unary at cast operand))
layer-none s tree (Tree-F.Expr at left mark right) e n0 n1 n2 n3 n4 n5 n6 n7 n8 n9 n10 n11 n12 n13 n14 = absurd (n3 at left mark right (of_layer tree (Tree-F.Expr at left mark right) e ∙ rolls-Expr at left mark right))
layer-none s tree (Tree-F.Choice at condition consequent alternative) e n0 n1 n2 n3 n4 n5 n6 n7 n8 n9 n10 n11 n12 n13 n14 = absurd (n4 at condition consequent alternative (of_layer tree (Tree-F.Choice at condition consequent alternative) e ∙ rolls-Choice at condition consequent alternative))
layer-none s tree (Tree-F.Or at left mark right) e n0 n1 n2 n3 n4 n5 n6 n7 n8 n9 n10 n11 n12 n13 n14 = absurd (n5 at left mark right (of_layer tree (Tree-F.Or at left mark right) e ∙ rolls-Or at left mark right))
layer-none s tree (Tree-F.And at left mark right) e n0 n1 n2 n3 n4 n5 n6 n7 n8 n9 n10 n11 n12 n13 n14 = absurd (n6 at left mark right (of_layer tree (Tree-F.And at left mark right) e ∙ rolls-And at left mark right))
layer-none s tree (Tree-F.Bitor at left mark right) e n0 n1 n2 n3 n4 n5 n6 n7 n8 n9 n10 n11 n12 n13 n14 = absurd (n7 at left mark right (of_layer tree (Tree-F.Bitor at left mark right) e ∙ rolls-Bitor at left mark right))
layer-none s tree (Tree-F.Bitxor at left mark right) e n0 n1 n2 n3 n4 n5 n6 n7 n8 n9 n10 n11 n12 n13 n14 = absurd (n8 at left mark right (of_layer tree (Tree-F.Bitxor at left mark right) e ∙ rolls-Bitxor at left mark right))
layer-none s tree (Tree-F.Bitand at left mark right) e n0 n1 n2 n3 n4 n5 n6 n7 n8 n9 n10 n11 n12 n13 n14 = absurd (n9 at left mark right (of_layer tree (Tree-F.Bitand at left mark right) e ∙ rolls-Bitand at left mark right))
layer-none s tree (Tree-F.Equal at left mark right) e n0 n1 n2 n3 n4 n5 n6 n7 n8 n9 n10 n11 n12 n13 n14 = absurd (n10 at left mark right (of_layer tree (Tree-F.Equal at left mark right) e ∙ rolls-Equal at left mark right))
layer-none s tree (Tree-F.Less at left mark right) e n0 n1 n2 n3 n4 n5 n6 n7 n8 n9 n10 n11 n12 n13 n14 = absurd (n11 at left mark right (of_layer tree (Tree-F.Less at left mark right) e ∙ rolls-Less at left mark right))
layer-none s tree (Tree-F.Shift at left mark right) e n0 n1 n2 n3 n4 n5 n6 n7 n8 n9 n10 n11 n12 n13 n14 = absurd (n12 at left mark right (of_layer tree (Tree-F.Shift at left mark right) e ∙ rolls-Shift at left mark right))
layer-none s tree (Tree-F.Sum at left mark right) e n0 n1 n2 n3 n4 n5 n6 n7 n8 n9 n10 n11 n12 n13 n14 = absurd (n13 at left mark right (of_layer tree (Tree-F.Sum at left mark right) e ∙ rolls-Sum at left mark right))
layer-none s tree (Tree-F.Product at left mark right) e n0 n1 n2 n3 n4 n5 n6 n7 n8 n9 n10 n11 n12 n13 n14 = absurd (n14 at left mark right (of_layer tree (Tree-F.Product at left mark right) e ∙ rolls-Product at left mark right))
layer-none s tree form e n0 n1 n2 n3 n4 n5 n6 n7 n8 n9 n10 n11 n12 n13 n14 = (refl, refl)

pub nothing-of : (s : Scope) (tree : Tree) → IsNoPrimary tree → IsNoPostfix tree → IsNoUnary tree → IsNoTwo variants.Expr tree → IsNoChoice tree
    → IsNoTwo variants.Or tree → IsNoTwo variants.And tree → IsNoTwo variants.Bitor tree → IsNoTwo variants.Bitxor tree → IsNoTwo variants.Bitand tree
    → IsNoTwo variants.Equal tree → IsNoTwo variants.Less tree → IsNoTwo variants.Shift tree → IsNoTwo variants.Sum tree → IsNoTwo variants.Product tree → IsNothing s (plain_of tree)
nothing-of s tree n0 n1 n2 n3 n4 n5 n6 n7 n8 n9 n10 n11 n12 n13 n14 =
    let h = layer-none s tree (out-Tree tree) refl n0 n1 n2 n3 n4 n5 n6 n7 n8 n9 n10 n11 n12 n13 n14 in
    (ap (known_of s) (by_layer tree) ∙ h.0, ap (expression_sites s) (by_layer tree) ∙ h.1)

-- ---- arguments

-- it holds no arguments
abbrev pub IsBare : Scope → plain.Tree → Type 0
IsBare s list = (argument_trees list ≡ no_trees) × (argument_sites s list ≡ [])

layer-bare : (s : Scope) (tree : Tree) (form : Tree-F Tree) → out-Tree tree ≡ form → IsNoArgs tree → argument_sites s (layer form) ≡ []
layer-bare s tree (Tree-F.Args at arguments) e not = absurd (not at arguments (of_layer tree (Tree-F.Args at arguments) e ∙ rolls-Args at arguments))
layer-bare s tree form e not = refl

pub bare-of : (s : Scope) (tree : Tree) → IsNoArgs tree → IsBare s (plain_of tree)
bare-of s tree not = (argument_trees-none tree not, ap (argument_sites s) (by_layer tree) ∙ layer-bare s tree (out-Tree tree) refl not)
