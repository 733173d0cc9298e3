-- What is known of an expression, as it is held.
use Rattle.std.specs.Prelude.{◌≡◌}
use Rattle.hl_parser.specs.Trees.{Tree}
use Rattle.hl_rules.specs.Constants.{constant_number}
use Rattle.hl_rules.specs.Expressions.{code_of}
use Rattle.hl_rules.specs.Scopes.{Scope}
use Rattle.hl_rules.specs.Values.{value_of}
use Rattle.hl_values.specs.declared.typed.Typed.{Typed}
use Rattle.hl_values.specs.Views.{plain_code_if, plain_value}

-- what is held is what is known of an expression
pub record IsTyped (s : Scope) (e : Tree) (t : Typed) : Type 0 where
  pub value : plain_value t ≡ value_of s e
  pub number : t.number ≡ constant_number s e
  pub code : plain_code_if t.code ≡ code_of s e
