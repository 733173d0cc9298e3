-- The types that operators give (HLSL, "Operators").
use Rattle.std.specs.Prelude.{ℕ, min, ◌==◌, if◌then◌else◌, ◌||◌, nat_le, List, [], ◌∷◌, Option, None, Some, option_map, option_and_then}
use Rattle.hl_meaning.specs.declared.ty.Kind.{Kind}
use Rattle.hl_meaning.specs.declared.ty.Kind.TheVariants.{Bool as BoolKind, Int as IntKind, Uint as UintKind}
use Rattle.hl_meaning.specs.Types.{Ty, is_basic, scalar_type, vector_type, with_kind}

-- the kind in which a kind is computed: a bool is an int
abbrev pub computing_kind : Kind → Kind
computing_kind BoolKind = IntKind
computing_kind kind = kind

-- the kind of two numbers: an int with a uint is a uint
abbrev pub number_kind : Kind → Kind → Kind
number_kind IntKind IntKind = IntKind
number_kind _ _ = UintKind

-- the common kind of two operands
abbrev pub common_kind : Kind → Kind → Kind
common_kind a b = number_kind (computing_kind a) (computing_kind b)

-- a type of the size that two scalars or vectors have in common: a scalar takes the size of a vector, and of two
-- vectors the shorter one counts
abbrev pub sized : Kind → Ty → Ty → Option Ty
sized kind (scalar_type a) (scalar_type b) = Some (scalar_type kind)
sized kind (scalar_type a) (vector_type b n) = Some (vector_type kind n)
sized kind (vector_type a m) (scalar_type b) = Some (vector_type kind m)
sized kind (vector_type a m) (vector_type b n) = Some (vector_type kind (min m n))
sized kind _ _ = None

-- the kind of a scalar or a vector
abbrev pub kind_of : Ty → Kind
kind_of (scalar_type kind) = kind
kind_of (vector_type kind size) = kind
kind_of _ = IntKind

-- the common type of two operands
abbrev pub common_type : Ty → Ty → Option Ty
common_type a b = sized (common_kind (kind_of a) (kind_of b)) a b

-- the bools of their common size
abbrev pub joint_type : Ty → Ty → Option Ty
joint_type a b = sized BoolKind a b

-- A shift has the kind of its left operand, where a bool is an int. A scalar is extended to the size of its right operand, and
-- a vector is cut to the size of a shorter one.
abbrev pub shift_type : Ty → Ty → Option Ty
shift_type a b = sized (computing_kind (kind_of a)) a b

-- the type of the branches of `?:`: two bools stay bools
abbrev pub branch_kind : Kind → Kind → Kind
branch_kind BoolKind BoolKind = BoolKind
branch_kind a b = common_kind a b

-- the type of `?:`: the kind of the branches, and the size of all three
abbrev pub choice_type : Ty → Ty → Ty → Option Ty
choice_type condition consequent alternative =
    option_and_then (λ branches. sized (branch_kind (kind_of consequent) (kind_of alternative)) condition branches)
    (sized BoolKind consequent alternative)

-- the type of `+`, `-` and `~` before an operand
abbrev pub signed_type : Ty → Option Ty
signed_type ty = if is_basic ty then Some (with_kind (computing_kind (kind_of ty)) ty) else None

-- the type of `!` before an operand
abbrev pub negated_type : Ty → Option Ty
negated_type ty = if is_basic ty then Some (with_kind BoolKind ty) else None

-- The type in which an operator between two operands computes, by the production of the operator: 30 and 31 join
-- truth values, 37 shifts, and the others have the common type.
abbrev pub operand_type : (production : ℕ) → Ty → Ty → Option Ty
operand_type production a b =
    if nat_le production 31 then joint_type a b else (if production == 37 then shift_type a b else common_type a b)

-- the type of what it gives: comparisons, 35 and 36, give bools
abbrev pub operator_type : (production : ℕ) → Ty → Ty → Option Ty
operator_type production a b =
    option_map (λ ty. if production == 35 || production == 36 then with_kind BoolKind ty else ty) (operand_type production a b)

-- what two known types give
abbrev pub of_two : (Ty → Ty → Option Ty) → Option Ty → Option Ty → Option Ty
of_two f a b = option_and_then (λ x. option_and_then (f x) b) a

abbrev pub of_three : (Ty → Ty → Ty → Option Ty) → Option Ty → Option Ty → Option Ty → Option Ty
of_three f a b c = option_and_then (λ x. of_two (f x) b c) a

-- the common type of what stands before, if there is one, and further operands
abbrev pub common_behind : Option Ty → List Ty → Option Ty
common_behind before [] = before
common_behind before (ty ∷ types) = common_behind (option_and_then (λ x. common_type x ty) before) types

-- the common type of several operands
abbrev pub common_of : List Ty → Option Ty
common_of [] = None
common_of (ty ∷ types) = common_behind (signed_type ty) types
