-- What converts to what, and at which cost (HLSL, "Standard Conversions").
use Rattle.std.specs.Prelude.{ℕ, ◌+◌, ◌==◌, if◌then◌else◌, Bool, nat_lt, is_some, Option, Some, None}
use Rattle.hl_meaning.specs.declared.ty.Kind.{Kind}
use Rattle.hl_meaning.specs.declared.ty.Kind.TheVariants.{Bool as BoolKind, Int as IntKind, Uint as UintKind}
use Rattle.hl_meaning.specs.Types.{Ty, array_type, scalar_type, struct_type, ty_eq, vector_type}

-- 0 for the same kind, 1 between int and uint, 2 from bool to a number, 3 from a number to bool
abbrev pub kind_cost : Kind → Kind → ℕ
kind_cost BoolKind BoolKind = 0
kind_cost BoolKind _ = 2
kind_cost IntKind BoolKind = 3
kind_cost IntKind IntKind = 0
kind_cost IntKind UintKind = 1
kind_cost UintKind BoolKind = 3
kind_cost UintKind IntKind = 1
kind_cost UintKind UintKind = 0

-- The cost of a conversion, where there is one. A scalar converts to a vector by repeating it, for 4 more; a vector
-- converts to a shorter vector or a scalar by its first components, for 8 more. Arrays and structs convert to the same
-- type alone, and nothing converts from or to no value.
abbrev pub conversion_cost : Ty → Ty → Option ℕ
conversion_cost (scalar_type k) (scalar_type l) = Some (kind_cost k l)
conversion_cost (scalar_type k) (vector_type l n) = Some (kind_cost k l + 4)
conversion_cost (vector_type k m) (scalar_type l) = Some (kind_cost k l + 8)
conversion_cost (vector_type k m) (vector_type l n) =
    if m == n then Some (kind_cost k l) else (if nat_lt n m then Some (kind_cost k l + 8) else None)
conversion_cost (array_type element length) to = if ty_eq (array_type element length) to then Some 0 else None
conversion_cost (struct_type number) to = if ty_eq (struct_type number) to then Some 0 else None
conversion_cost _ _ = None

abbrev pub converts : Ty → Ty → Bool
converts from to = is_some (conversion_cost from to)
