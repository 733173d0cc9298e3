-- What arguments that were walked are, and forms with a tree in the place of their arguments.
use Rattle.std.proofs.Common.{◌≡◌, ◌∙◌, refl, sym, ap, ℕ, List, [], ◌∷◌, map, Option, None, Some}
use Rattle.std.specs.Prelude.{option_and_then, option_map}
use Rattle.hl_parser.specs.declared.tree.Tree as held
use Rattle.hl_parser.specs.declared.tree.Tree.{Tree-F, out-Tree}
use Rattle.hl_parser.specs.declared.tree.Tree.TheVariants as variants
use Rattle.hl_parser.specs.declared.tree.Tree.TheVariants.{rolls-Args}
use Rattle.hl_parser.specs.Trees.{Tree, Trees, no_trees, more_trees, an_args}
use Rattle.hl_parser.specs.Views.{plain_of}
use Rattle.hl_rules.specs.ExpressionRules.{argument_trees}
use Rattle.hl_rules.specs.Expressions.{argument_codes, code_of, codes_of, first_number, trees_of_args, with_two}
use Rattle.hl_rules.specs.Nodes.{Code}
use Rattle.hl_rules.specs.Scopes.{Scope}
use Rattle.hl_rules.specs.Values.{Value, arguments_of, values_of}
use Rattle.hl_values.specs.declared.typed.Typed.{Typed}
use Rattle.hl_values.specs.Arguments.{plain_codes}
use Rattle.hl_values.specs.Known.{Known, known}
use Rattle.hl_values.specs.Views.{plain_value}
use Rattle.hl_types.specs.Arguments.{AreTyped, behind_arguments, first_constant}
use Rattle.hl_types.proofs.DeclaredShapes.{by_layer, layer, of_layer}

-- ---- each of them

pub values-typed : (s : Scope) (trees : Trees) (args : List Typed) → AreTyped s trees args → values_of s trees ≡ map plain_value args
values-typed s no_trees [] h = refl
values-typed s no_trees (t ∷ args) h = absurd h
values-typed s (more_trees first rest) [] h = absurd h
values-typed s (more_trees first rest) (t ∷ args) h =
    ap (λ v. v ∷ values_of s rest) (sym h.0.value) ∙ ap (λ l. plain_value t ∷ l) (values-typed s rest args h.1)

two-each : (code : Option Code) (codes : Option (List Code)) → with_two (λ c l. Some (c ∷ l)) code codes ≡ option_and_then (λ y. option_map (λ ys. y ∷ ys) codes) code
two-each None codes = refl
two-each (Some c) None = refl
two-each (Some c) (Some l) = refl

pub codes-typed : (s : Scope) (trees : Trees) (args : List Typed) → AreTyped s trees args → codes_of s trees ≡ plain_codes args
codes-typed s no_trees [] h = refl
codes-typed s no_trees (t ∷ args) h = absurd h
codes-typed s (more_trees first rest) [] h = absurd h
codes-typed s (more_trees first rest) (t ∷ args) h =
    two-each (code_of s first) (codes_of s rest) ∙
    (ap (λ o. option_and_then (λ y. option_map (λ ys. y ∷ ys) o) (code_of s first)) (codes-typed s rest args h.1) ∙
    ap (λ o. option_and_then (λ y. option_map (λ ys. y ∷ ys) (plain_codes args)) o) (sym h.0.code))

pub first-typed : (s : Scope) (trees : Trees) (args : List Typed) → AreTyped s trees args → first_number s trees ≡ first_constant args
first-typed s no_trees [] h = refl
first-typed s no_trees (t ∷ args) h = absurd h
first-typed s (more_trees first rest) [] h = absurd h
first-typed s (more_trees first rest) (t ∷ args) h = sym h.0.number

-- ---- in the place of arguments

arguments-values : (s : Scope) (a : Tree) → arguments_of s a ≡ values_of s (argument_trees a)
arguments-values s (an_args at arguments) = refl
arguments-values s _ = refl

pub same-trees : (a : Tree) → trees_of_args a ≡ argument_trees a
same-trees (an_args at arguments) = refl
same-trees _ = refl

pub arguments-typed : (s : Scope) (a : Tree) (args : List Typed) → AreTyped s (argument_trees a) args → arguments_of s a ≡ map plain_value args
arguments-typed s a args h = arguments-values s a ∙ values-typed s (argument_trees a) args h

-- what becomes something with them
pub behind-code : (s : Scope) (a : Tree) (args : List Typed) → AreTyped s (argument_trees a) args → (v : Value) (made : List Code → Option Code) →
    behind_arguments a (known v None (option_and_then made (plain_codes args))) ≡ known v None (option_and_then made (argument_codes s a))
behind-code s (an_args at arguments) args h v made = ap (λ o. known v None (option_and_then made o)) (sym (codes-typed s arguments args h))
behind-code s _ args h v made = refl

-- ---- trees that are no arguments

abbrev pub IsNoArgs : held.Tree → Type 0
IsNoArgs tree = (at : ℕ) (arguments : List held.Tree) → tree ≡ variants.Args at arguments → ⊥

trees-none : (tree : held.Tree) (form : Tree-F held.Tree) → out-Tree tree ≡ form → IsNoArgs tree → argument_trees (layer form) ≡ no_trees
trees-none tree (Tree-F.Args at arguments) e other = absurd (other at arguments (of_layer tree (Tree-F.Args at arguments) e ∙ rolls-Args at arguments))
trees-none tree form e other = refl

pub argument_trees-none : (tree : held.Tree) → IsNoArgs tree → argument_trees (plain_of tree) ≡ no_trees
argument_trees-none tree other = ap argument_trees (by_layer tree) ∙ trees-none tree (out-Tree tree) refl other

behind-other : (tree : held.Tree) (form : Tree-F held.Tree) → out-Tree tree ≡ form → IsNoArgs tree → (k : Known) → behind_arguments (layer form) k ≡ known k.value k.number None
behind-other tree (Tree-F.Args at arguments) e other k = absurd (other at arguments (of_layer tree (Tree-F.Args at arguments) e ∙ rolls-Args at arguments))
behind-other tree form e other k = refl

pub behind-none : (tree : held.Tree) → IsNoArgs tree → (k : Known) → behind_arguments (plain_of tree) k ≡ known k.value k.number None
behind-none tree other k = ap (λ a. behind_arguments a k) (by_layer tree) ∙ behind-other tree (out-Tree tree) refl other k
