-- All that is known of expressions, by what is known of their parts.
use Rattle.std.specs.Prelude.{ℕ, true, Option, None, Some, option_map, option_and_then, slice_get}
use Rattle.hl_parser.specs.Trees.{Tree}
use Rattle.hl_meaning.specs.Types.{Ty}
use Rattle.hl_rules.specs.Constants.{combined, constant_number, word_number}
use Rattle.hl_rules.specs.Expressions.{assignment_code, binary_code, bracketed_code, choice_code, code_of, dotted_code, index_expr, prefix_code, step_code, with_three, with_two, word_code}
use Rattle.hl_rules.specs.Nodes.{Code, a_value_code, converted_code}
use Rattle.hl_rules.specs.Operands.{choice_type, of_three, of_two, operator_type}
use Rattle.hl_rules.specs.Scopes.{BufferInfo, Scope, spelled}
use Rattle.hl_rules.specs.Source.{mark_at, terminal_at}
use Rattle.hl_rules.specs.Values.{Value, assigned, bracketed_value, dotted_value, operand_of, plain_value, prefix_type, value_of, valued, word_value}
use Rattle.hl_values.specs.declared.typed.Typed.{Typed}
use Rattle.hl_values.specs.Views.{plain_code_if}
use Rattle.hl_values.specs.Views as views

-- an expression: what is known of it, the constant number that it is, and what it becomes
pub record Known : Type 0 where
  pub value : Value
  pub number : Option ℕ
  pub code : Option Code

abbrev pub known : Value → Option ℕ → Option Code → Known
known value number code = record { value = value; number = number; code = code }

abbrev pub plain_known : Typed → Known
plain_known t = known (views.plain_value t) t.number (plain_code_if t.code)

abbrev pub known_of : Scope → Tree → Known
known_of s e = known (value_of s e) (constant_number s e) (code_of s e)

-- a value that is no place and no constant number
abbrev pub known_value : Option Ty → Option Code → Known
known_value ty code = known (plain_value ty) None code

-- a token alone
abbrev pub word_known : Scope → (at : ℕ) → Known
word_known s at =
    known (word_value s (terminal_at s.tokens at) at) (word_number s (terminal_at s.tokens at) at) (word_code s (terminal_at s.tokens at) at)

abbrev pub binary_known : Scope → (production at mark : ℕ) → (left right : Known) → Known
binary_known s production at mark left right =
    known
    (plain_value (of_two (operator_type production) (valued left.value.ty) (valued right.value.ty)))
    (combined (terminal_at s.tokens mark) left.number right.number)
    (with_two (binary_code production at (mark_at s.tokens mark)) left.code right.code)

abbrev pub choice_known : (at : ℕ) → (condition consequent alternative : Known) → Known
choice_known at condition consequent alternative =
    known_value
    (of_three choice_type (valued condition.value.ty) (valued consequent.value.ty) (valued alternative.value.ty))
    (with_three (choice_code at) condition.code consequent.code alternative.code)

abbrev pub cast_known : Ty → Known → Known
cast_known ty operand = known_value (Some ty) (option_and_then (λ code. option_map a_value_code (converted_code ty code)) operand.code)

abbrev pub prefix_known : Scope → (at : ℕ) → Known → Known
prefix_known s at operand =
    known_value (prefix_type (terminal_at s.tokens at) operand.value.ty) (option_and_then (prefix_code s (terminal_at s.tokens at) at) operand.code)

-- `++` or `--` behind an operand
abbrev pub step_known : Scope → (at mark : ℕ) → Known → Known
step_known s at mark operand = known_value (operand_of operand.value.ty) (option_and_then (step_code s at mark true) operand.code)

abbrev pub assignment_known : Scope → (at mark : ℕ) → (left right : Known) → Known
assignment_known s at mark left right =
    known_value (assigned (terminal_at s.tokens mark) left.value.ty right.value.ty)
    (with_two (assignment_code (terminal_at s.tokens mark) at) left.code right.code)

-- `.` and a name
abbrev pub dotted_known : Scope → (at name : ℕ) → Known → Known
dotted_known s at name operand =
    known (dotted_value s (spelled s name) operand.value.ty operand.value.standing) None (option_and_then (dotted_code s at (spelled s name)) operand.code)

-- an index, whose first token without parentheses is `bare`, behind the buffer of a number or an operand
abbrev pub bracketed_known : Scope → (at : ℕ) → (number : Option ℕ) → (operand index : Known) → (bare : ℕ) → Known
bracketed_known s at number operand index bare =
    known
    (bracketed_value (option_and_then (λ n. slice_get s.buffers n) number) index.number operand.value)
    None
    (option_and_then (λ i. bracketed_code s at number i operand.code) (option_and_then (index_expr bare index.number) index.code))
