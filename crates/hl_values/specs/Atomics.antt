-- The operands of interlocked operations, as they are held and judged.
use Rattle.std.specs.Prelude.{ℕ, Bool, false, ◌==◌, if◌then◌else◌, Option, None, Some, option_and_then, option_map}
use Rattle.lane_core.specs.declared.event.AtomicKind.{AtomicKind}
use Rattle.hl_meaning.specs.declared.expression.Expr as ast
use Rattle.hl_meaning.specs.Trees.{Expr, Form, Location, Target, atomic_form}
use Rattle.hl_meaning.specs.Types.{Ty, ty_eq}
use Rattle.hl_meaning.specs.Views.{plain_expr, plain_location}
use Rattle.hl_rules.specs.declared.interlocked.Presence.{Presence}
use Rattle.hl_rules.specs.Intrinsics as plain
use Rattle.hl_rules.specs.Intrinsics.{may_be_absent, may_be_present}
use Rattle.hl_rules.specs.Nodes.{Code, converted_code, expr_if, location_if, perhaps, place_of_code}
use Rattle.hl_rules.specs.Values.{Value, is_word, operands_fit}
use Rattle.hl_values.specs.declared.interlocked.Converted.{Converted}
use Rattle.hl_values.specs.declared.interlocked.Operands.{Operands}
use Rattle.hl_values.specs.Views.{plain_code, plain_code_if}

abbrev pub plain_operands : Operands → plain.Operands Code
plain_operands o = record {
  compare = plain_code_if o.compare;
  value = plain_code o.value;
  original = plain_code_if o.original;
}

-- what an original must be: of the type of the target, or without one an int or a uint
abbrev pub original_test : Option Ty → Ty → Bool
original_test None ty = is_word ty
original_test (Some target) ty = ty_eq target ty

-- whether operands, where their number is right, fit
abbrev pub are_operands_fit : (Ty → Bool) → Option (plain.Operands Value) → Bool
are_operands_fit test None = false
are_operands_fit test (Some o) = operands_fit test o

-- whether so many are a value and its original, as far as that may or must be there
abbrev pub is_right_count : Presence → ℕ → Bool
is_right_count presence count =
    if count == 1 then may_be_absent presence else (if count == 2 then may_be_present presence else false)

-- operands as values of a type, and an original as a place
pub record Ready : Type 0 where
  pub compare : Option Expr
  pub value : Expr
  pub original : Option Location

abbrev pub plain_converted : Converted → Ready
plain_converted c = record {
  compare = option_map plain_expr c.compare;
  value = plain_expr c.value;
  original = option_map plain_location c.original;
}

abbrev pub plain_values : Option ast.Expr × ast.Expr → Option Expr × Expr
plain_values v = (option_map plain_expr v.0, plain_expr v.1)

-- what is compared and a value, both of a type
abbrev pub converted_values : Ty → (compare : Option Code) → (value : Code) → Option (Option Expr × Expr)
converted_values ty compare value =
    option_and_then (λ c. option_map (λ v. (c, v)) (converted_code ty value)) (perhaps (converted_code ty) compare)

-- values with an original, where it is a place or isn't there
abbrev pub with_original : Option Expr × Expr → Option (Option Location) → Option Ready
with_original values original =
    option_map (λ place. record { compare = values.0; value = values.1; original = place }) original

-- where all become so
abbrev pub converted_operands : Ty → plain.Operands Code → Option Ready
converted_operands ty o =
    option_and_then (λ values. with_original values (perhaps place_of_code o.original)) (converted_values ty o.compare o.value)

-- an interlocked operation of a kind
abbrev pub atomic_of : Target → Option AtomicKind → Ready → Form
atomic_of target kind o = atomic_form target kind (expr_if o.compare) o.value (location_if o.original)
