-- What parts of expressions break, by what is known of them.
use Rattle.std.specs.Prelude.{ℕ, ◌&&◌, not, Bool, is_none, Option, None, Some, option_and_then, slice_get}
use Rattle.hl_lexer.specs.declared.terminal.Terminal.{Terminal}
use Rattle.hl_lexer.specs.declared.terminal.Terminal.TheVariants as terminals
use Rattle.hl_meaning.specs.Types.{Ty, is_scalar}
use Rattle.hl_meaning.specs.Conversions.{converts}
use Rattle.hl_rules.specs.declared.found.Broken.{Broken}
use Rattle.hl_rules.specs.DeclarationRules.{is_other_sort, is_variable_sort}
use Rattle.hl_rules.specs.ExpressionRules.{is_no_conversion, is_no_member, is_no_swizzle, is_not_indexed, is_past, is_unwritable, needs_constant_index}
use Rattle.hl_rules.specs.Found.{breaking, broken_if, gathered}
use Rattle.hl_rules.specs.Operands.{of_two, operator_type}
use Rattle.hl_rules.specs.Scopes.{BufferInfo, Scope, sort_at, spelled}
use Rattle.hl_rules.specs.Sites.{compound_production}
use Rattle.hl_rules.specs.Values.{Value, is_known, is_no_operand, is_nothing, valued}

-- behind a rule that is broken at a token, if it is
abbrev pub noted_if : Option Broken → (rule : ℕ) → Bool → (at : ℕ) → Option Broken
noted_if found rule broken at = gathered found (breaking rule (broken_if broken at))

abbrev pub noted_use : Option Broken → Value → (at : ℕ) → Option Broken
noted_use found v at = noted_if found 39 (is_nothing v.ty) at

-- an operand is used too
abbrev pub noted_operand : Option Broken → Value → (at : ℕ) → Option Broken
noted_operand found v at = noted_if (noted_use found v at) 32 (is_no_operand (valued v.ty)) at

abbrev pub noted_written : Option Broken → Value → (at : ℕ) → Option Broken
noted_written found v at = noted_if found 25 (is_unwritable v.standing) at

abbrev pub noted_conversion : Option Broken → (from to : Option Ty) → (at : ℕ) → Option Broken
noted_conversion found from to at = noted_if found 24 (is_no_conversion from to) at

abbrev pub noted_cast : Option Broken → Value → Ty → (at : ℕ) → Option Broken
noted_cast found v to at = noted_if found 34 (is_known (λ ty. not (converts ty to)) (valued v.ty)) at

abbrev pub noted_variable : Option Broken → Scope → (at : ℕ) → Option Broken
noted_variable found s at = noted_if (noted_if found 3 (is_none (sort_at s at)) at) 4 (is_other_sort is_variable_sort (sort_at s at)) at

abbrev pub noted_dot : Option Broken → Scope → Option Ty → (name : ℕ) → Option Broken
noted_dot found s ty name =
    noted_if (noted_if found 26 (is_no_member s (spelled s name) ty) name) 27 (is_no_swizzle (spelled s name) ty) name

abbrev pub noted_index : Option Broken → Option BufferInfo → (operand index : Value) → (number : Option ℕ) → (at : ℕ) → Option Broken
noted_index found buffer operand index number at =
    noted_if
    (noted_if
    (noted_if (noted_if found 28 (is_not_indexed buffer (valued operand.ty)) at) 29 (is_known (λ ty. not (is_scalar ty)) (valued index.ty)) at)
    30 (is_past number (valued operand.ty)) at)
    31 (is_none buffer && (is_none number && needs_constant_index operand.standing)) at

-- the operand of an operator before it, by its mark: `++` and `--` write it
abbrev pub noted_prefix : Option Broken → Terminal → Value → (at : ℕ) → Option Broken
noted_prefix found terminals.PlusPlus v at = noted_written (noted_operand found v at) v at
noted_prefix found terminals.MinusMinus v at = noted_written (noted_operand found v at) v at
noted_prefix found _ v at = noted_operand found v at

-- a side of an assignment by a mark: those of a compound one are operands
abbrev pub noted_side : Option Broken → Terminal → Value → (at : ℕ) → Option Broken
noted_side found terminals.Equals v at = noted_use found v at
noted_side found _ v at = noted_operand found v at

-- what an assignment by a mark writes and converts
abbrev pub noted_assigned : Option Broken → Terminal → (left right : Value) → (left_at right_at : ℕ) → Option Broken
noted_assigned found terminals.Equals left right left_at right_at =
    noted_conversion (noted_written found left left_at) (valued right.ty) (valued left.ty) right_at
noted_assigned found mark left right left_at right_at =
    noted_conversion (noted_written found left left_at) (of_two (operator_type (compound_production mark)) (valued left.ty) (valued right.ty)) (valued left.ty) right_at
