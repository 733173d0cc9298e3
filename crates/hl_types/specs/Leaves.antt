-- What the expressions in an initialiser become.
use Rattle.std.specs.Prelude.{ℕ, not, Bool, List, [], ◌∷◌, Option, None, Some, option_and_then}
use Rattle.hl_meaning.specs.declared.ty.Kind.{Kind}
use Rattle.hl_meaning.specs.Trees.{Expr, Exprs, more_exprs, no_exprs}
use Rattle.hl_meaning.specs.Types.{Ty, is_scalar, scalar_type}
use Rattle.hl_parser.specs.Trees.{Tree}
use Rattle.hl_rules.specs.Elaboration.{word_in}
use Rattle.hl_rules.specs.Expressions.{with_two}
use Rattle.hl_rules.specs.Nodes.{Code, converted_code}
use Rattle.hl_rules.specs.Scopes.{Scope}
use Rattle.hl_rules.specs.Values.{is_known, type_in, valued}

-- whether a type is known, and is one of a value other than a scalar
abbrev pub is_other_type : Option Ty → Bool
is_other_type ty = is_known (λ own. not (is_scalar own)) (valued ty)

-- whether an expression is known to be a value other than a scalar
abbrev pub is_other_leaf : Scope → Tree → Bool
is_other_leaf s leaf = is_known (λ own. not (is_scalar own)) (type_in s leaf)

-- what a leaf becomes as a scalar of a kind
abbrev pub leaf_in : Kind → Option Code → Option Expr
leaf_in kind code = option_and_then (converted_code (scalar_type kind)) code

-- each leaf as a scalar of its own kind
abbrev pub leaves_in : List Kind → List (Option Code) → Option Exprs
leaves_in [] [] = Some no_exprs
leaves_in (kind ∷ kinds) (code ∷ codes) = with_two (λ first rest. Some (more_exprs first rest)) (leaf_in kind code) (leaves_in kinds codes)
leaves_in _ _ = None

-- each word in its own kind, where all are there
abbrev pub words_in_kinds : List Kind → List (Option ℕ) → Option (List ℕ)
words_in_kinds [] [] = Some []
words_in_kinds (kind ∷ kinds) (word ∷ words) = with_two (λ first rest. Some (word_in kind first ∷ rest)) word (words_in_kinds kinds words)
words_in_kinds _ _ = None
