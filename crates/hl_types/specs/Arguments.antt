-- Arguments that were walked.
use Rattle.std.specs.Prelude.{ℕ, ⊤, List, [], ◌∷◌, Option, None}
use Rattle.hl_parser.specs.Trees.{Tree, Trees, no_trees, more_trees, an_args}
use Rattle.hl_rules.specs.Scopes.{Scope}
use Rattle.hl_values.specs.declared.typed.Typed.{Typed}
use Rattle.hl_values.specs.Known.{Known, known}
use Rattle.hl_values.specs.TypedViews.{IsTyped}

-- what is held is what is known of each of some expressions, in order
abbrev pub AreTyped : Scope → Trees → List Typed → Type 0
AreTyped s no_trees [] = ⊤
AreTyped s (more_trees first rest) (t ∷ ts) = IsTyped s first t × AreTyped s rest ts
AreTyped s _ _ = ⊥

-- what a form is with a tree in the place of its arguments: where it is of another production, it becomes nothing
abbrev pub behind_arguments : Tree → Known → Known
behind_arguments (an_args at arguments) k = k
behind_arguments _ k = known k.value k.number None

-- the constant number that the first of some arguments is, if it is one
abbrev pub first_constant : List Typed → Option ℕ
first_constant [] = None
first_constant (t ∷ args) = t.number
