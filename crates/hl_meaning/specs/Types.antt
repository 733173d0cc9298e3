-- Types as plain data, apart from how they are held (HLSL, "Types").
use Rattle.std.specs.Prelude.{ℕ, ◌==◌, ◌&&◌, ◌||◌, Bool, true, false, if◌then◌else◌}
use Rattle.hl_meaning.specs.declared.ty.Kind.{Kind}
use Rattle.hl_meaning.specs.declared.ty.Kind.TheVariants.{Bool as BoolKind, Int as IntKind, Uint as UintKind}

-- No value, a scalar, a vector, an array, or the struct of a number.
pub data Ty : Type 0 where
  void_type : Ty
  scalar_type : (kind : Kind) → Ty
  vector_type : (kind : Kind) (size : ℕ) → Ty
  array_type : (element : Ty) (length : ℕ) → Ty
  struct_type : (number : ℕ) → Ty

abbrev pub kind_eq : Kind → Kind → Bool
kind_eq BoolKind BoolKind = true
kind_eq IntKind IntKind = true
kind_eq UintKind UintKind = true
kind_eq _ _ = false

-- whether two types are the same
abbrev pub ty_eq : Ty → Ty → Bool
ty_eq void_type void_type = true
ty_eq (scalar_type a) (scalar_type b) = kind_eq a b
ty_eq (vector_type a m) (vector_type b n) = kind_eq a b && m == n
ty_eq (array_type s m) (array_type t n) = ty_eq s t && m == n
ty_eq (struct_type m) (struct_type n) = m == n
ty_eq _ _ = false

abbrev pub is_void : Ty → Bool
is_void void_type = true
is_void _ = false

-- whether it is a scalar
abbrev pub is_scalar : Ty → Bool
is_scalar (scalar_type kind) = true
is_scalar _ = false

-- whether it is a scalar or a vector
abbrev pub is_basic : Ty → Bool
is_basic (scalar_type kind) = true
is_basic (vector_type kind size) = true
is_basic _ = false

-- whether it is a scalar or a vector of a kind
abbrev pub is_of : Kind → Ty → Bool
is_of kind (scalar_type k) = kind_eq kind k
is_of kind (vector_type k size) = kind_eq kind k
is_of kind _ = false

-- whether it is a scalar or a vector of int or uint
abbrev pub is_numeric : Ty → Bool
is_numeric ty = is_of IntKind ty || is_of UintKind ty

-- the number of components of a scalar or a vector, and 0 for any other type
abbrev pub component_count : Ty → ℕ
component_count (scalar_type kind) = 1
component_count (vector_type kind size) = size
component_count _ = 0

-- the scalar or the vector of the same size with another kind
abbrev pub with_kind : Kind → Ty → Ty
with_kind kind (scalar_type k) = scalar_type kind
with_kind kind (vector_type k size) = vector_type kind size
with_kind kind ty = ty

-- whether two scalars or vectors have the same kind
abbrev pub is_alike : Ty → Ty → Bool
is_alike (scalar_type kind) ty = is_of kind ty
is_alike (vector_type kind size) ty = is_of kind ty
is_alike _ ty = false

-- so many components of a kind: one is a scalar
abbrev pub components_type : Kind → ℕ → Ty
components_type kind count = if count == 1 then scalar_type kind else vector_type kind count

abbrev pub bool_type : Ty
bool_type = scalar_type BoolKind

abbrev pub uint_type : Ty
uint_type = scalar_type UintKind
