-- The nodes of typed programs, as elaboration makes them.
use Rattle.std.specs.Prelude.{ℕ, if◌then◌else◌, List, [], ◌∷◌, slice_index_or, Option, None, Some, option_map, option_and_then}
use Rattle.lane_core.specs.declared.event.AtomicKind.{AtomicKind}
use Rattle.hl_meaning.specs.declared.ty.Kind.{Kind}
use Rattle.hl_meaning.specs.declared.ty.Kind.TheVariants.{Int as IntKind}
use Rattle.hl_meaning.specs.Types.{Ty, is_of, scalar_type, ty_eq, uint_type, void_type, with_kind}
use Rattle.hl_meaning.specs.Conversions.{converts}
use Rattle.hl_meaning.specs.Trees.{Expr, Exprs, Form, Location, MaybeExpr, MaybeLocation, PathPart, PathParts, Target, a_location, an_expr, atomic_form, convert_form, index_part, literal_form, more_exprs, more_parts, no_expr, no_exprs, no_location, no_parts, pick_form, place_type, read_form, some_expr, some_location, swizzle_part, type_of}
use Rattle.hl_rules.specs.declared.interlocked.Interlocked.{Interlocked}
use Rattle.hl_rules.specs.Intrinsics.{Operands}
use Rattle.hl_rules.specs.Values.{is_longer, merged_letters}

-- What an expression becomes: a place, with the index of its first token, or a value. A place that is used as a value is
-- read.
pub data Code : Type 0 where
  a_place_code : (at : ℕ) (place : Location) → Code
  a_value_code : (value : Expr) → Code

abbrev pub value_of_code : Code → Expr
value_of_code (a_place_code at place) = an_expr (place_type place) at (read_form place)
value_of_code (a_value_code value) = value

abbrev pub type_of_code : Code → Ty
type_of_code code = type_of (value_of_code code)

abbrev pub place_of_code : Code → Option Location
place_of_code (a_place_code at place) = Some place
place_of_code (a_value_code value) = None

abbrev pub a_value : Ty → ℕ → Form → Option Code
a_value ty at form = Some (a_value_code (an_expr ty at form))

-- ---- conversions

-- a value of another type is a node, at its value's first token
abbrev pub converted : Ty → Expr → Option Expr
converted ty (an_expr from at form) =
    if ty_eq from ty then Some (an_expr from at form) else (
    if converts from ty then Some (an_expr ty at (convert_form (an_expr from at form))) else None)

abbrev pub converted_code : Ty → Code → Option Expr
converted_code ty code = converted ty (value_of_code code)

-- each one to its own type
abbrev pub converted_each : List Ty → List Code → Option Exprs
converted_each [] [] = Some no_exprs
converted_each (ty ∷ types) (code ∷ codes) =
    option_and_then (λ first. option_map (λ rest. more_exprs first rest) (converted_each types codes)) (converted_code ty code)
converted_each _ _ = None

-- ---- steps

-- One more step behind others. Behind a swizzle of several letters a swizzle, or an index that is a constant number,
-- picks among these, and both are one swizzle.
abbrev pub joined : PathPart → PathPart → PathParts
joined (swizzle_part before) (swizzle_part letters) =
    if is_longer before then more_parts (swizzle_part (merged_letters before letters)) no_parts
    else more_parts (swizzle_part before) (more_parts (swizzle_part letters) no_parts)
joined (swizzle_part before) (index_part (an_expr ty at (literal_form number))) =
    if is_longer before then more_parts (swizzle_part (slice_index_or before number 0 ∷ [])) no_parts
    else more_parts (swizzle_part before) (more_parts (index_part (an_expr ty at (literal_form number))) no_parts)
joined before part = more_parts before (more_parts part no_parts)

abbrev pub and_part : PathParts → PathPart → PathParts
and_part no_parts part = more_parts part no_parts
and_part (more_parts first no_parts) part = joined first part
and_part (more_parts first (more_parts second rest)) part = more_parts first (and_part (more_parts second rest) part)

-- a step into a place, or into a value, which is picked out of it
abbrev pub with_part : (at : ℕ) → PathPart → Ty → Code → Code
with_part at part ty (a_place_code first (a_location from root parts)) = a_place_code at (a_location ty root (and_part parts part))
with_part at part ty (a_value_code (an_expr from first (pick_form value parts))) =
    a_value_code (an_expr ty at (pick_form value (and_part parts part)))
with_part at part ty (a_value_code value) = a_value_code (an_expr ty at (pick_form value (more_parts part no_parts)))

-- ---- parts

-- the parts of a constructor, each in the kind of the whole
abbrev pub in_kind : Kind → List Code → Option Exprs
in_kind kind [] = Some no_exprs
in_kind kind (code ∷ codes) =
    option_and_then (λ first. option_map (λ rest. more_exprs first rest) (in_kind kind codes))
    (converted_code (with_kind kind (type_of_code code)) code)

abbrev pub expr_if : Option Expr → MaybeExpr
expr_if None = no_expr
expr_if (Some value) = some_expr value

abbrev pub location_if : Option Location → MaybeLocation
location_if None = no_location
location_if (Some place) = some_location place

-- what may be left out, and else must be there
abbrev pub perhaps : {A B : Type 0} → (A → Option B) → Option A → Option (Option B)
perhaps f None = Some None
perhaps f (Some x) = option_map (λ y. Some y) (f x)

-- the kind of an interlocked operation on an int or a uint
abbrev pub kind_for : Interlocked → Ty → Option AtomicKind
kind_for form ty = if is_of IntKind ty then form.signed else form.unsigned

-- an interlocked operation on a target of a type: its operands are converted to it, and its original is a place
abbrev pub interlocked : (at : ℕ) → Target → Ty → Interlocked → Operands Code → Option Code
interlocked at target ty form o =
    option_and_then (λ compare. option_and_then (λ value. option_and_then (λ original.
    a_value void_type at (atomic_form target (kind_for form ty) (expr_if compare) value (location_if original)))
    (perhaps place_of_code o.original))
    (converted_code ty o.value))
    (perhaps (converted_code ty) o.compare)

-- the type in which an interlocked operation on a byte-address buffer computes: that of its value's kind, where a bool is a
-- uint
abbrev pub bytes_operand : Ty → Ty
bytes_operand ty = if is_of IntKind ty then scalar_type IntKind else uint_type
