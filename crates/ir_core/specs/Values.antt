-- Numbers and types of values (LLVM Language Reference, "Module Structure", "Type System" and
-- "Instruction Reference").
use Rattle.std.specs.Prelude.{ℕ, zero, suc, ◌-◌, ◌^◌, ◌%◌, Bool, true, false, if◌then◌else◌, ◌&&◌, List, [], ◌∷◌, ◌++◌, map, length, nat_eq, slice_get, drop, ℤ, pos, negsuc}
use Rattle.std.specs.List.{filter, flat_map, position_from}
use Rattle.std.specs.Option.{option_and_then, option_map_or, is_some}
use lib.Pointwise.{pointwise}
use Rattle.std.specs.declared.option.Option.{Option}
use Rattle.std.specs.declared.option.Option.TheVariants.{None, Some}
use Rattle.ir_core.specs.declared.instruction.Inst.{Inst}
use Rattle.ir_core.specs.declared.instruction.Inst.TheVariants.{Bin, Cast, Cmp, Select, Phi, Alloca, Gep, Load, Store, Extract, Call, Rmw, CmpXchg, Jump, Branch, Ret}
use Rattle.ir_core.specs.declared.instruction.Body.{Body}
use Rattle.ir_core.specs.declared.module.Ty.{Ty}
use Rattle.ir_core.specs.declared.module.Ty.TheVariants.{Void, Label, Metadata, Int, Pointer, Array, Vector, Struct, Function as FunctionType}
use Rattle.ir_core.specs.declared.module.ConstValue.{ConstValue}
use Rattle.ir_core.specs.declared.module.ConstValue.TheVariants.{Null, Int as Number}
use Rattle.ir_core.specs.declared.module.Const.{Const}
use Rattle.ir_core.specs.declared.module.Function.{Function}
use Rattle.ir_core.specs.declared.module.GlobalVar.{GlobalVar}
use Rattle.ir_core.specs.declared.module.Module.{Module}

-- types

abbrev pub name_eq : Option (List ℕ) → Option (List ℕ) → Bool
name_eq None None = true
name_eq (Some a) (Some b) = pointwise nat_eq a b
name_eq _ _ = false

-- whether two entries of the type table are equal, with the numbers in them as they stand
abbrev pub ty_eq : Ty → Ty → Bool
ty_eq Void Void = true
ty_eq Label Label = true
ty_eq Metadata Metadata = true
ty_eq (Int a) (Int b) = nat_eq a b
ty_eq (Pointer a s) (Pointer b t) = nat_eq a b && nat_eq s t
ty_eq (Array n a) (Array k b) = nat_eq n k && nat_eq a b
ty_eq (Vector n a) (Vector k b) = nat_eq n k && nat_eq a b
ty_eq (Struct n as') (Struct k bs) = name_eq n k && pointwise nat_eq as' bs
ty_eq (FunctionType a as') (FunctionType b bs) = nat_eq a b && pointwise nat_eq as' bs
ty_eq _ _ = false

-- whether there are two entries, and they are equal
abbrev pub same_entry : Option Ty → Option Ty → Bool
same_entry (Some a) (Some b) = ty_eq a b
same_entry _ _ = false

-- whether two numbers name equal entries of the type table
abbrev pub same_type : List Ty → ℕ → ℕ → Bool
same_type types a b = same_entry (slice_get types a) (slice_get types b)

-- the least number of an entry in the type table
abbrev pub number_of : List Ty → Ty → Option ℕ
number_of types ty = position_from (ty_eq ty) 0 types

-- the least number of the entry that a number has
abbrev pub least_number : List Ty → ℕ → Option ℕ
least_number types ty = option_and_then (number_of types) (slice_get types ty)

-- the result and the parameters of a function type
abbrev pub signature_of : Ty → Option (ℕ × List ℕ)
signature_of (FunctionType result params) = Some (result, params)
signature_of _ = None

abbrev pub signature : List Ty → ℕ → Option (ℕ × List ℕ)
signature types ty = option_and_then signature_of (slice_get types ty)

abbrev pub space_of : Ty → Option ℕ
space_of (Pointer to space) = Some space
space_of _ = None

-- the type of a part of a struct
abbrev pub field_of : Ty → ℕ → Option ℕ
field_of (Struct name of) index = slice_get of index
field_of _ index = None

-- the type that one index reaches: an element, or the part of a struct that a constant index names
abbrev pub element_of : Ty → Option ℕ → Option ℕ
element_of (Array len of) index = Some of
element_of (Vector len of) index = Some of
element_of (Struct name of) index = option_and_then (slice_get of) index
element_of _ index = None

-- the type that a list of indexes reaches, each given by its number where it is constant
abbrev pub reached : List Ty → List (Option ℕ) → Option ℕ → Option ℕ
reached types [] ty = ty
reached types (index ∷ indexes) ty = reached types indexes (option_and_then (λ t. element_of t index) (option_and_then (slice_get types) ty))

-- values

-- what defines a value
pub data Value : Type 0 where
  global_value : (global : GlobalVar) → Value
  function_value : (function : Function) → Value
  constant_value : (constant : Const) → Value
  parameter_value : (ty : ℕ) → Value
  instruction_value : (instruction : Inst) → Value

-- the values of the module itself: globals, functions, constants; a value's number is its place
abbrev pub module_values : Module → List Value
module_values m = map global_value m.globals ++ (map function_value m.functions ++ map constant_value m.consts)

abbrev pub function_of : Value → Option Function
function_of (function_value f) = Some f
function_of _ = None

-- the function that has a value number
abbrev pub function_at : Module → ℕ → Option Function
function_at m v = option_and_then function_of (slice_get (module_values m) v)

-- the result and the parameters of the function that has a value number
abbrev pub callee_signature : Module → ℕ → Option (ℕ × List ℕ)
callee_signature m v = option_and_then (λ f. signature m.types f.ty) (function_at m v)

abbrev pub is_void : Ty → Bool
is_void Void = true
is_void _ = false

-- the result of the function that has a value number, where that is a value
abbrev pub call_result : Module → ℕ → Option ℕ
call_result m v = option_and_then (λ s. option_and_then (λ t. if is_void t then None else Some s.0) (slice_get m.types s.0)) (callee_signature m v)

-- whether an instruction has a value
abbrev pub has_value : Module → Inst → Bool
has_value m (Call function args) = is_some (call_result m function)
has_value m (Store to value align) = false
has_value m (Jump target) = false
has_value m (Branch cond then_block else_block) = false
has_value m Ret = false
has_value m _ = true

-- the instructions of a body in order of its blocks
abbrev pub instructions : Body → List Inst
instructions body = flat_map (λ k. k.insts) body.blocks

abbrev pub parameters : Module → Function → List ℕ
parameters m f = option_map_or (λ s. s.1) (signature m.types f.ty) []

-- the values that are known in a body: the module's, the function's parameters, the body's constants,
-- and its instructions that have a value; a value's number is its place
abbrev pub body_values : Module → Function → Body → List Value
body_values m f body = module_values m ++ (map parameter_value (parameters m f) ++ (map constant_value body.consts ++ map instruction_value (filter (has_value m) (instructions body))))

-- the low bits of a whole number, read without a sign
abbrev pub low_bits : ℕ → ℤ → ℕ
low_bits width (pos n) = n % 2 ^ width
low_bits width (negsuc n) = 2 ^ width - 1 - n % 2 ^ width

-- the number of an integer constant: its low bits, as many as its type has
abbrev pub integer_of : Ty → ConstValue → Option ℕ
integer_of (Int width) Null = Some 0
integer_of (Int width) (Number z) = Some (low_bits width z)
integer_of _ _ = None

abbrev pub integer_of_value : List Ty → Value → Option ℕ
integer_of_value types (constant_value c) = option_and_then (λ t. integer_of t c.value) (slice_get types c.ty)
integer_of_value types _ = None

abbrev pub integer_at : List Ty → List Value → ℕ → Option ℕ
integer_at types values v = option_and_then (integer_of_value types) (slice_get values v)

-- types of values

-- the type of an instruction's value, given the types of the values that it may rest on
abbrev pub instruction_type : Module → List Value → (ℕ → Option ℕ) → Inst → Option ℕ
instruction_type m values of (Bin op left right) = of left
instruction_type m values of (Cast op value ty) = Some ty
instruction_type m values of (Cmp op left right) = number_of m.types (Int 1)
instruction_type m values of (Select first second cond) = of first
instruction_type m values of (Phi ty arms) = Some ty
instruction_type m values of (Alloca ty count align) = number_of m.types (Pointer ty 0)
instruction_type m values of (Gep ty base indexes) =
    let space : Option ℕ = option_and_then space_of (option_and_then (slice_get m.types) (of base)) in
    let to : Option ℕ = reached m.types (map (integer_at m.types values) (drop 1 indexes)) (Some ty) in
    option_and_then (λ s. option_and_then (λ t. number_of m.types (Pointer t s)) to) space
instruction_type m values of (Load ty from align) = Some ty
instruction_type m values of (Extract value index) = option_and_then (λ t. field_of t index) (option_and_then (slice_get m.types) (of value))
instruction_type m values of (Call function args) = call_result m function
instruction_type m values of (Rmw op to value) = of value
instruction_type m values of (CmpXchg to compare value) = option_and_then (λ t. option_and_then (λ b. number_of m.types (Struct None (t ∷ b ∷ []))) (number_of m.types (Int 1))) (of value)
instruction_type m values of _ = None

abbrev pub value_type : Module → List Value → (ℕ → Option ℕ) → Value → Option ℕ
value_type m values of (global_value g) = number_of m.types (Pointer g.ty g.space)
value_type m values of (function_value f) = number_of m.types (Pointer f.ty 0)
value_type m values of (constant_value c) = Some c.ty
value_type m values of (parameter_value ty) = Some ty
value_type m values of (instruction_value i) = instruction_type m values of i

-- the type of a value that rests on fewer than so many others, one after the other
abbrev pub type_within : ℕ → Module → List Value → ℕ → Option ℕ
type_within zero m values v = None
type_within (suc n) m values v = option_and_then (least_number m.types) (option_and_then (value_type m values (type_within n m values)) (slice_get values v))

-- the type of the value with a number among values: an entry of the type table, where two are equal the
-- least. None where no value has the number, where its type isn't in the table, and in a circle
unfoldable pub type_among : Module → List Value → ℕ → Option ℕ
type_among m values v = type_within (suc (length values)) m values v

-- the functions with their bodies, in order
abbrev pub bodies : List Function → List (Function × Body)
bodies [] = []
bodies (f ∷ fs) = option_map_or (λ body. (f, body) ∷ bodies fs) f.body (bodies fs)

abbrev pub values_of_first : Module → List (Function × Body) → List Value
values_of_first m [] = module_values m
values_of_first m (first ∷ rest) = body_values m first.0 first.1

-- all values that have a number: those of the module, and of the first body
abbrev pub all_values : Module → List Value
all_values m = values_of_first m (bodies m.functions)

-- the type of the value with a number
abbrev pub type_of : Module → ℕ → Option ℕ
type_of m v = type_among m (all_values m) v
