-- What is known of an expression: its type, and whether it is a place (HLSL, "Expressions").
use Rattle.std.specs.Prelude.{ℕ, suc, ◌==◌, ◌&&◌, ◌||◌, not, Bool, true, false, if◌then◌else◌, nat_le, nat_lt, List, [], ◌∷◌, length, map, find, position, Option, None, Some, option_map, option_and_then, slice_get, slice_index_or, bytes_eq, codes, unwrap_or, Result, Ok, Err}
use Rattle.std.specs.List.{list_all}
use Rattle.hl_lexer.specs.declared.terminal.Terminal.{Terminal}
use Rattle.hl_lexer.specs.declared.terminal.Terminal.TheVariants as terminals
use Rattle.hl_parser.specs.Trees.{Tree, Trees, absent, present, no_trees, more_trees, a_binary, a_choice, a_postfix, a_primary, a_unary, an_args, an_expr}
use Rattle.hl_meaning.specs.declared.ty.Kind.{Kind}
use Rattle.hl_meaning.specs.declared.ty.Kind.TheVariants.{Int as IntKind, Uint as UintKind}
use Rattle.hl_meaning.specs.Types.{Ty, array_type, bool_type, components_type, is_basic, is_numeric, is_scalar, is_void, scalar_type, struct_type, ty_eq, uint_type, vector_type, void_type}
use Rattle.hl_meaning.specs.Conversions.{converts}
use Rattle.hl_meaning.specs.Trees.{Root, shared_root}
use Rattle.hl_meaning.specs.Intrinsics.{signature_of}
use Rattle.hl_meaning.specs.Places.{is_without_repeats}
use Rattle.hl_overload.specs.declared.choice.ChoiceFault.{ChoiceFault}
use Rattle.hl_overload.specs.Best.{choice_of}
use Rattle.hl_overload.specs.Choice.{Param}
use Rattle.hl_rules.specs.Constants.{basic_type, constant_number}
use Rattle.hl_rules.specs.declared.interlocked.Interlocked.{Interlocked}
use Rattle.hl_rules.specs.declared.interlocked.Method.{Method}
use Rattle.hl_rules.specs.declared.interlocked.Method.TheVariants.{DoesAtomic, LoadsElement, LoadsWords, StoresWords}
use Rattle.hl_rules.specs.Intrinsics.{Operands, interlocked_form, intrinsic_named, method_of, operands_of, passed}
use Rattle.hl_rules.specs.Operands.{choice_type, negated_type, of_three, of_two, operator_type, signed_type}
use Rattle.hl_rules.specs.Scopes.{BufferInfo, FunctionInfo, MemberInfo, ParamInfo, Scope, Sort, a_buffer_name, a_function_name, a_variable_name, sort_at, spelled}
use Rattle.hl_rules.specs.Source.{is_unsigned_at, number_at, terminal_at}

-- Whether an expression is a place. It isn't known of some names, and of what stands on them. A place is known by its
-- root: whether what it holds may be written, and whether it is groupshared or in a writable structured buffer. A swizzle
-- at its end has letters, the numbers of components; a swizzle or a constant number as an index behind a swizzle of
-- several letters picks among these.
pub data Standing : Type 0 where
  unclear : Standing
  no_place : Standing
  a_place : (writable atomic : Bool) (letters : List ℕ) → Standing

-- What an expression gives: its type, which is `void_type` for no value and `None` where a broken rule leaves none; and
-- whether it is a place.
pub record Value : Type 0 where
  pub ty : Option Ty
  pub standing : Standing

abbrev pub value : Option Ty → Standing → Value
value ty standing = record { ty = ty; standing = standing }

-- a value of a type that is no place
abbrev pub plain_value : Option Ty → Value
plain_value ty = value ty no_place

-- no value is no type that a rule could judge
abbrev pub valued : Option Ty → Option Ty
valued None = None
valued (Some void_type) = None
valued (Some ty) = Some ty

-- ---- names and numbers

-- A number is an int up to 2147483647, and without a sign by its suffix or above that.
abbrev pub number_type : Scope → ℕ → Ty
number_type s index = if is_unsigned_at s.tokens index || nat_lt 2147483647 (number_at s.tokens index) then scalar_type UintKind else scalar_type IntKind

abbrev pub is_shared_root : Root → Bool
is_shared_root (shared_root number) = true
is_shared_root _ = false

-- What a name is in an expression. Of a name that isn't declared, and of the name of a buffer that doesn't stand directly
-- before an index or a method, it isn't known whether it is a place; the name of a struct or a function is none.
abbrev pub sort_value : Option Sort → Value
sort_value None = value None unclear
sort_value (Some (a_buffer_name number)) = value None unclear
sort_value (Some (a_variable_name v)) = value v.ty (a_place (not v.is_const) (is_shared_root v.root) [])
sort_value (Some _) = plain_value None

-- a number, a truth value or a name
abbrev pub word_value : Scope → Terminal → ℕ → Value
word_value s terminals.Number index = plain_value (Some (number_type s index))
word_value s terminals.True index = plain_value (Some bool_type)
word_value s terminals.False index = plain_value (Some bool_type)
word_value s terminals.Name index = sort_value (sort_at s index)
word_value s _ index = plain_value None

-- the buffer that an expression names, where it is a name alone
abbrev pub buffer_sort : Option Sort → Option ℕ
buffer_sort (Some (a_buffer_name number)) = Some number
buffer_sort _ = None

abbrev pub buffer_word : Scope → Terminal → ℕ → Option ℕ
buffer_word s terminals.Name index = buffer_sort (sort_at s index)
buffer_word s _ index = None

abbrev pub buffer_named : Scope → Tree → Option ℕ
buffer_named s (a_primary at absent absent) = buffer_word s (terminal_at s.tokens at) at
buffer_named s _ = None

abbrev pub buffer_at : Scope → Tree → Option BufferInfo
buffer_at s operand = option_and_then (λ number. slice_get s.buffers number) (buffer_named s operand)

-- ---- members, swizzles and indexes

-- the number of the member of a name
abbrev pub member_number : List MemberInfo → List ℕ → Option ℕ
member_number members name = position (λ m. bytes_eq m.name name) members

abbrev pub members_of : Scope → ℕ → List MemberInfo
members_of s number = unwrap_or (option_map (λ d. d.members) (slice_get s.structs number)) []

abbrev pub member_type : Scope → (number : ℕ) → List ℕ → Option Ty
member_type s number name =
    option_and_then (λ m. m.ty) (find (λ m. bytes_eq m.name name) (members_of s number))

-- the number of a letter in an alphabet of four
abbrev pub letters_in : List ℕ → List ℕ → Option (List ℕ)
letters_in alphabet [] = Some []
letters_in alphabet (letter ∷ letters) =
    option_and_then (λ number. option_map (λ more. number ∷ more) (letters_in alphabet letters)) (position (λ x. x == letter) alphabet)

-- The components that a swizzle names: one to four letters, all of `xyzw` or all of `rgba`.
abbrev pub swizzle_letters : List ℕ → Option (List ℕ)
swizzle_letters name = if nat_le (length name) 4 then either (letters_in (codes "xyzw") name) (letters_in (codes "rgba") name) else None
  where
    either : Option (List ℕ) → Option (List ℕ) → Option (List ℕ)
    either None other = other
    either (Some letters) other = Some letters

-- the letters of a swizzle of a value of so many components
abbrev pub letters_within : (size : ℕ) → List ℕ → Option (List ℕ)
letters_within size name =
    option_and_then (λ letters. if list_all (λ letter. nat_lt letter size) letters then Some letters else None) (swizzle_letters name)

-- whether a swizzle has several letters
abbrev pub is_longer : List ℕ → Bool
is_longer letters = nat_lt 1 (length letters)

-- the letters that a swizzle picks behind another one: among those of a longer one
abbrev pub merged_letters : (before letters : List ℕ) → List ℕ
merged_letters before letters = if is_longer before then map (λ letter. slice_index_or before letter 0) letters else letters

-- the standing behind a member or an index
abbrev pub stepped : Standing → Standing
stepped (a_place writable atomic letters) = a_place writable atomic []
stepped standing = standing

-- the standing behind a swizzle
abbrev pub swizzled : List ℕ → Standing → Standing
swizzled letters (a_place writable atomic before) = a_place writable atomic (merged_letters before letters)
swizzled letters standing = standing

-- the standing behind an index, which behind a longer swizzle is one letter
abbrev pub indexed : Option ℕ → Standing → Standing
indexed None standing = stepped standing
indexed (Some number) (a_place writable atomic before) =
    a_place writable atomic (if is_longer before then slice_index_or before number 0 ∷ [] else [])
indexed (Some number) standing = standing

abbrev pub swizzle_value : Kind → Option (List ℕ) → Standing → Value
swizzle_value kind None standing = value None (stepped standing)
swizzle_value kind (Some letters) standing = value (Some (components_type kind (length letters))) (swizzled letters standing)

-- `.` and a name behind a value
abbrev pub dotted_value : Scope → List ℕ → Option Ty → Standing → Value
dotted_value s name (Some (struct_type number)) standing = value (member_type s number name) (stepped standing)
dotted_value s name (Some (scalar_type kind)) standing = swizzle_value kind (letters_within 1 name) standing
dotted_value s name (Some (vector_type kind size)) standing = swizzle_value kind (letters_within size name) standing
dotted_value s name _ standing = value None (stepped standing)

-- an index behind a value
abbrev pub indexed_value : Option ℕ → Option Ty → Standing → Value
indexed_value number (Some (array_type element size)) standing = value (Some element) (indexed number standing)
indexed_value number (Some (vector_type kind size)) standing = value (Some (scalar_type kind)) (indexed number standing)
indexed_value number _ standing = value None (stepped standing)

-- an index behind the name of a buffer is an element of a structured one
abbrev pub element_value : BufferInfo → Value
element_value buffer = if buffer.raw then plain_value None else value buffer.element (a_place buffer.writable buffer.writable [])

abbrev pub bracketed_value : Option BufferInfo → Option ℕ → Value → Value
bracketed_value (Some buffer) number operand = element_value buffer
bracketed_value None number operand = indexed_value number operand.ty operand.standing

-- ---- operators

-- the type of an operand that an operator takes: a scalar or a vector
abbrev pub operand_of : Option Ty → Option Ty
operand_of (Some ty) = if is_basic ty then Some ty else None
operand_of None = None

-- whether a type is known, and no scalar or vector
abbrev pub is_no_operand_type : Option Ty → Bool
is_no_operand_type None = false
is_no_operand_type (Some ty) = not (is_basic ty)

abbrev pub is_no_operand : Option Ty → Bool
is_no_operand ty = is_no_operand_type (valued ty)

-- The value of an assignment has the type of its left side. A compound one has none where a side is no operand.
abbrev pub assigned : Terminal → (left right : Option Ty) → Option Ty
assigned terminals.Equals left right = valued left
assigned mark left right = if is_no_operand left || is_no_operand right then None else valued left

abbrev pub prefix_type : Terminal → Option Ty → Option Ty
prefix_type terminals.Exclamation ty = option_and_then negated_type (valued ty)
prefix_type terminals.PlusPlus ty = operand_of ty
prefix_type terminals.MinusMinus ty = operand_of ty
prefix_type _ ty = option_and_then signed_type (valued ty)

-- ---- calls

-- the types of arguments, where all have one
abbrev pub argument_types : List Value → Option (List Ty)
argument_types [] = Some []
argument_types (v ∷ values) =
    option_and_then (λ ty. option_map (λ types. ty ∷ types) (argument_types values)) (valued v.ty)

-- whether an expression may be written: it is a place that may, and repeats no letter
abbrev pub may_be_written : Standing → Bool
may_be_written (a_place writable atomic letters) = writable && is_without_repeats letters
may_be_written _ = false

-- parameters, where all have types
abbrev pub params_known : List ParamInfo → Option (List Param)
params_known [] = Some []
params_known (p ∷ params) =
    option_and_then (λ ty. option_map (λ more. record { ty = ty; copying = p.copying } ∷ more) (params_known params)) p.ty

-- a function that may be called: its number and its parameters
pub record Candidate : Type 0 where
  pub number : ℕ
  pub params : List Param

-- the functions of a name among those from a number on, where all of them have parameters with types
abbrev pub candidates_from : ℕ → List ℕ → List FunctionInfo → Option (List Candidate)
candidates_from number name [] = Some []
candidates_from number name (f ∷ functions) =
    if bytes_eq f.name name
    then option_and_then (λ params. option_map (λ more. record { number = number; params = params } ∷ more) (candidates_from (suc number) name functions)) (params_known f.params)
    else candidates_from (suc number) name functions

abbrev pub candidates : Scope → List ℕ → Option (List Candidate)
candidates s name = candidates_from 0 name s.functions

-- what the call of a function chooses, where the types of all arguments and parameters are known
abbrev pub call_choice : Scope → List ℕ → List Value → Option (Result ℕ ChoiceFault)
call_choice s name args =
    option_and_then (λ types. option_map (λ found. choice_of (map (λ c. c.params) found) types) (candidates s name)) (argument_types args)

abbrev pub chosen_candidate : Scope → List ℕ → Result ℕ ChoiceFault → Option Candidate
chosen_candidate s name (Ok place) = option_and_then (λ found. slice_get found place) (candidates s name)
chosen_candidate s name (Err fault) = None

-- the candidate that is called, where one is
abbrev pub called : Scope → List ℕ → List Value → Option Candidate
called s name args = option_and_then (chosen_candidate s name) (call_choice s name args)

abbrev pub function_result : Scope → ℕ → Option Ty
function_result s number = option_and_then (λ f. f.result) (slice_get s.functions number)

-- a scalar of int or uint
abbrev pub is_word : Ty → Bool
is_word ty = is_scalar ty && is_numeric ty

-- whether a type is known and passes
abbrev pub is_known : (Ty → Bool) → Option Ty → Bool
is_known test None = false
is_known test (Some ty) = test ty

abbrev pub is_basic_value : Value → Bool
is_basic_value v = is_known is_basic v.ty

-- whether a value has a type that converts to another one
abbrev pub converts_to : Ty → Value → Bool
converts_to ty v = is_known (λ from. converts from ty) v.ty

abbrev pub holds_if : {A : Type 0} → (A → Bool) → Option A → Bool
holds_if test None = true
holds_if test (Some x) = test x

-- a place that may be written, of a type that passes
abbrev pub is_written_place : (Ty → Bool) → Value → Bool
is_written_place test v = may_be_written v.standing && is_known test v.ty

-- whether the operands of an interlocked operation fit, with what the original must be
abbrev pub operands_fit : (Ty → Bool) → Operands Value → Bool
operands_fit original o = is_basic_value o.value && (holds_if is_basic_value o.compare && holds_if (is_written_place original) o.original)

-- Whether the operands of an interlocked function fit, where their number is right. They are judged by the type of its
-- target, where that is an int or a uint.
abbrev pub target_operands_fit : (target : Option Ty) → Option (Operands Value) → Bool
target_operands_fit target None = false
target_operands_fit None (Some o) = true
target_operands_fit (Some ty) (Some o) = if is_word ty then operands_fit (ty_eq ty) o else true

abbrev pub atomic_fits : Interlocked → List Value → Bool
atomic_fits form [] = false
atomic_fits form (target ∷ values) = target_operands_fit target.ty (operands_of form values)

-- what an interlocked operation gives, or else another intrinsic function
abbrev pub result_by_form : Option Interlocked → (number : ℕ) → List Value → List Ty → Option Ty
result_by_form (Some form) number args types = if atomic_fits form args then Some void_type else None
result_by_form None number args types = option_map (λ p. p.gives) (option_and_then (λ signature. passed signature types) (signature_of number))

-- what a call of an intrinsic function gives, where its arguments fit; they all have types
abbrev pub intrinsic_result : ℕ → List Value → List Ty → Option Ty
intrinsic_result number args types = result_by_form (interlocked_form number) number args types

abbrev pub intrinsic_type : ℕ → List Value → Option Ty
intrinsic_type number args = option_and_then (intrinsic_result number args) (argument_types args)

-- what a call gives
abbrev pub call_type : Scope → List ℕ → Option Sort → List Value → Option Ty
call_type s name (Some a_function_name) args = option_and_then (λ c. function_result s c.number) (called s name args)
call_type s name (Some _) args = None
call_type s name None args = option_and_then (λ number. intrinsic_type number args) (intrinsic_named name)

-- whether the operands of an interlocked method fit, where their number is right
abbrev pub atomic_operands_fit : Option (Operands Value) → Bool
atomic_operands_fit None = false
atomic_operands_fit (Some o) = operands_fit is_word o

-- Whether the arguments of a method fit; they all have types. An address and an index convert to uint, and what is
-- stored to as many words as are stored.
abbrev pub method_fits : Method → List Value → Bool
method_fits (LoadsWords count) (address ∷ []) = converts_to uint_type address
method_fits (StoresWords count) (address ∷ v ∷ []) =
    converts_to uint_type address && converts_to (components_type UintKind count) v
method_fits LoadsElement (index ∷ []) = converts_to uint_type index
method_fits (DoesAtomic form) (address ∷ values) =
    converts_to uint_type address && atomic_operands_fit (operands_of form values)
method_fits _ _ = false

-- what a method gives
abbrev pub method_gives : BufferInfo → Method → Option Ty
method_gives buffer (LoadsWords count) = Some (components_type UintKind count)
method_gives buffer (StoresWords count) = Some void_type
method_gives buffer LoadsElement = buffer.element
method_gives buffer (DoesAtomic form) = Some void_type

-- what a call of a method gives, where its arguments have types and fit
abbrev pub method_type : BufferInfo → List ℕ → List Value → Option Ty
method_type buffer name args =
    option_and_then (λ types. option_and_then (λ method. if method_fits method args then method_gives buffer method else None) (method_of buffer name)) (argument_types args)

-- ---- expressions

abbrev mutual
  -- What is known of an expression. These have no type: a name that isn't declared as a variable, a member that isn't
  -- there, a bad swizzle, an index of what has no elements, an operator on what is no scalar or vector, a call that doesn't
  -- fit or is ambiguous, and what takes its type from a part that has none. Whatever else is broken, a type stays.
  pub value_of : Scope → Tree → Value
  value_of s (a_primary at absent absent) = word_value s (terminal_at s.tokens at) at
  value_of s (a_primary at absent (present arguments)) =
      plain_value (call_type s (spelled s at) (sort_at s at) (arguments_of s arguments))
  value_of s (a_primary at (present inner) absent) = value_of s inner
  value_of s (a_primary at (present basic) (present arguments)) = plain_value (Some (basic_type s basic))
  value_of s (a_postfix at operand mark (Some name) absent) =
      dotted_value s (spelled s name) (value_of s operand).ty (value_of s operand).standing
  value_of s (a_postfix at operand mark (Some name) (present arguments)) =
      plain_value (option_and_then (λ buffer. method_type buffer (spelled s name) (arguments_of s arguments)) (buffer_at s operand))
  value_of s (a_postfix at operand mark None (present index)) =
      bracketed_value (buffer_at s operand) (constant_number s index) (value_of s operand)
  value_of s (a_postfix at operand mark None absent) = plain_value (operand_of (value_of s operand).ty)
  value_of s (a_unary at (present basic) operand) = plain_value (Some (basic_type s basic))
  value_of s (a_unary at absent operand) = plain_value (prefix_type (terminal_at s.tokens at) (value_of s operand).ty)
  value_of s (a_binary production at left mark right) =
      plain_value (of_two (operator_type production) (valued (value_of s left).ty) (valued (value_of s right).ty))
  value_of s (a_choice at condition consequent alternative) =
      plain_value (of_three choice_type (valued (value_of s condition).ty) (valued (value_of s consequent).ty) (valued (value_of s alternative).ty))
  value_of s (an_expr at left mark right) =
      plain_value (assigned (terminal_at s.tokens mark) (value_of s left).ty (value_of s right).ty)
  value_of s _ = plain_value None

  -- what is known of arguments
  pub arguments_of : Scope → Tree → List Value
  arguments_of s (an_args at arguments) = values_of s arguments
  arguments_of s _ = []

  pub values_of : Scope → Trees → List Value
  values_of s no_trees = []
  values_of s (more_trees first rest) = value_of s first ∷ values_of s rest

-- the type of an expression's value, where it has one
abbrev pub type_in : Scope → Tree → Option Ty
type_in s e = valued (value_of s e).ty

abbrev pub standing_in : Scope → Tree → Standing
standing_in s e = (value_of s e).standing

-- whether an expression gives no value
abbrev pub is_nothing : Option Ty → Bool
is_nothing None = false
is_nothing (Some ty) = is_void ty

abbrev pub gives_nothing : Scope → Tree → Bool
gives_nothing s e = is_nothing (value_of s e).ty
