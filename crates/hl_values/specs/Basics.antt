-- Scalars and vectors, and the operators between two operands, as rules see them.
use Rattle.std.specs.Prelude.{ℕ}
use Rattle.hl_meaning.specs.Types.{Ty, scalar_type, vector_type}
use Rattle.hl_values.specs.declared.basic.Basic.{Basic}
use Rattle.hl_values.specs.declared.basic.Basic.TheVariants.{Scalar, Vector}
use Rattle.hl_values.specs.declared.operators.Operator.{Operator}
use Rattle.hl_values.specs.declared.operators.Operator.TheVariants as operators

abbrev pub basic_ty : Basic → Ty
basic_ty (Scalar kind) = scalar_type kind
basic_ty (Vector kind size) = vector_type kind size

-- the production of an operator
abbrev pub production_of : Operator → ℕ
production_of operators.Or = 30
production_of operators.And = 31
production_of operators.Bitor = 32
production_of operators.Bitxor = 33
production_of operators.Bitand = 34
production_of operators.Equal = 35
production_of operators.Less = 36
production_of operators.Shift = 37
production_of operators.Sum = 38
production_of operators.Product = 39
