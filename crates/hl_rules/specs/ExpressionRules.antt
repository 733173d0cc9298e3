-- The rules on statements and expressions: 18 to 20 and 22 to 41.
--
-- Each says at which tokens it is broken by a part of a program. A rule that needs the type of something that has none
-- isn't broken there. Whether something is a place, may be written, or is shared by lanes (25, 31, 37 and 40) needs no
-- type: the root and the form say it.
use Rattle.std.specs.Prelude.{ℕ, ◌==◌, ◌&&◌, ◌||◌, not, Bool, true, false, if◌then◌else◌, nat_le, List, [], ◌∷◌, ◌++◌, map, sum, is_some, is_none, codes, Option, None, Some, option_and_then, bytes_eq, Result, Err}
use Rattle.std.specs.List.{list_any}
use Rattle.hl_parser.specs.Trees.{Tree, Trees, no_trees, more_trees, an_args, at_of}
use Rattle.hl_meaning.specs.declared.program.Copying.{Copying}
use Rattle.hl_meaning.specs.declared.program.Copying.TheVariants.{CopyIn}
use Rattle.hl_meaning.specs.Types.{Ty, array_type, component_count, is_scalar, is_void, scalar_type, struct_type, vector_type}
use Rattle.hl_meaning.specs.Conversions.{converts}
use Rattle.hl_overload.specs.declared.choice.ChoiceFault.{ChoiceFault}
use Rattle.hl_overload.specs.declared.choice.ChoiceFault.TheVariants.{Ambiguous, NoMatch}
use Rattle.hl_overload.specs.Choice.{Param}
use Rattle.hl_rules.specs.Constants.{basic_type, constant_number, tree_count}
use Rattle.hl_rules.specs.Declarations.{is_there}
use Rattle.hl_rules.specs.Found.{broken_if}
use Rattle.hl_rules.specs.declared.interlocked.Method.{Method}
use Rattle.hl_rules.specs.Intrinsics.{interlocked_form, intrinsic_named, method_of}
use Rattle.hl_rules.specs.Parts.{Part, a_call, a_cast, a_condition, a_constructor, a_conversion, a_dot, a_function_attribute, a_loop_jump, a_method_call, a_return, a_statement_attribute, a_use, a_written_side, an_index, an_operand}
use Rattle.hl_rules.specs.Scopes.{BufferInfo, Scope, Sort, a_function_name, sort_at, spelled}
use Rattle.hl_rules.specs.Sites.{is_numthreads}
use Rattle.hl_rules.specs.Values.{Candidate, Standing, Value, a_place, argument_types, arguments_of, buffer_at, call_choice, called, gives_nothing, intrinsic_type, is_known, is_longer, is_no_operand, is_word, letters_within, may_be_written, member_number, members_of, method_fits, no_place, standing_in, type_in, unclear, value_of, valued}

-- ---- statements

-- a call of a function, and not of an intrinsic function
abbrev pub is_function_call : Option Sort → Bool
is_function_call (Some a_function_name) = true
is_function_call _ = false

-- 18. The entry is called; at the call (this project's own).
abbrev pub rule_18 : Scope → Part → List ℕ
rule_18 s (a_call at arguments) = broken_if (is_function_call (sort_at s at) && bytes_eq (spelled s at) s.entry) at
rule_18 s _ = []

-- 19. `break` or `continue` stands outside a loop (HLSL, "Jump Statements").
abbrev pub rule_19 : Scope → Part → List ℕ
rule_19 s (a_loop_jump at) = broken_if (not s.in_loop) at
rule_19 s _ = []

abbrev pub is_void_result : Option Ty → Bool
is_void_result None = false
is_void_result (Some ty) = is_void ty

-- 20. `return` has a value in a `void` function or none in another (HLSL, "Return Statement").
abbrev pub rule_20 : Scope → Part → List ℕ
rule_20 s (a_return at value) = broken_if (if is_there value then is_void_result s.result else not (is_void_result s.result)) at
rule_20 s _ = []

-- 22. A condition of `if` or a loop isn't a scalar (HLSL, "Selection Statements", "Iteration Statements").
abbrev pub rule_22 : Scope → Part → List ℕ
rule_22 s (a_condition condition) = broken_if (is_known (λ ty. not (is_scalar ty)) (type_in s condition)) (at_of condition)
rule_22 s _ = []

abbrev pub statement_attributes : List (List ℕ)
statement_attributes =
    codes "loop" ∷ codes "branch" ∷ codes "flatten" ∷ codes "fastopt" ∷ codes "allow_uav_condition" ∷ []

abbrev pub is_statement_attribute : List ℕ → (arguments : ℕ) → Bool
is_statement_attribute name arguments =
    bytes_eq name (codes "unroll") && nat_le arguments 1
    || list_any (bytes_eq name) statement_attributes && nat_le arguments 0

-- 23. An attribute isn't `numthreads` on a function or `unroll` (with at most one argument), `loop`, `branch`, `flatten`,
-- `fastopt` or `allow_uav_condition` on a statement (HLSL, "Attributes").
abbrev pub rule_23 : Scope → Part → List ℕ
rule_23 s (a_function_attribute again name at arguments) = broken_if (not (is_numthreads s name)) at
rule_23 s (a_statement_attribute name at arguments) =
    broken_if (not (is_statement_attribute (spelled s name) (tree_count arguments))) at
rule_23 s _ = []

-- ---- values and places

-- whether both types are known, and the one doesn't convert to the other
abbrev pub is_no_conversion : Option Ty → Option Ty → Bool
is_no_conversion from to = is_known (λ x. is_known (λ y. not (converts x y)) (valued to)) (valued from)

-- 24. A value doesn't convert to the type that an assignment, an initialiser or `return` needs (HLSL, "Standard
-- Conversions"). In a compound assignment it is the right side.
abbrev pub rule_24 : Scope → Part → List ℕ
rule_24 s (a_conversion from to at) = broken_if (is_no_conversion from to) at
rule_24 s _ = []

-- whether it is known that something can't be written: it is no place, is `const`, is in a buffer that is read only, or
-- repeats a letter
abbrev pub is_unwritable : Standing → Bool
is_unwritable unclear = false
is_unwritable standing = not (may_be_written standing)

-- 25. A written side isn't a place, is `const`, is in a read-only buffer, or repeats a swizzle letter (HLSL, "Assignment
-- Operators").
abbrev pub rule_25 : Scope → Part → List ℕ
rule_25 s (a_written_side side) = broken_if (is_unwritable (standing_in s side)) (at_of side)
rule_25 s _ = []

abbrev pub is_no_member : Scope → List ℕ → Option Ty → Bool
is_no_member s name (Some (struct_type number)) = is_none (member_number (members_of s number) name)
is_no_member s name (Some (array_type element size)) = true
is_no_member s name _ = false

-- 26. A struct has no such member, or a `.` and a name without arguments stands on an array; at the name (HLSL, "Member
-- Access").
abbrev pub rule_26 : Scope → Part → List ℕ
rule_26 s (a_dot operand name) = broken_if (is_no_member s (spelled s name) (type_in s operand)) name
rule_26 s _ = []

abbrev pub is_no_swizzle : List ℕ → Option Ty → Bool
is_no_swizzle name (Some (scalar_type kind)) = is_none (letters_within 1 name)
is_no_swizzle name (Some (vector_type kind size)) = is_none (letters_within size name)
is_no_swizzle name _ = false

-- 27. A swizzle mixes `xyzw` with `rgba`, has another letter, more than four, or a letter past the size; a scalar has the
-- size 1; at the name (HLSL, "Vector Component Access").
abbrev pub rule_27 : Scope → Part → List ℕ
rule_27 s (a_dot operand name) = broken_if (is_no_swizzle (spelled s name) (type_in s operand)) name
rule_27 s _ = []

-- ---- indexes

abbrev pub is_not_indexed : Option BufferInfo → Option Ty → Bool
is_not_indexed (Some buffer) ty = buffer.raw
is_not_indexed None (Some (array_type element size)) = false
is_not_indexed None (Some (vector_type kind size)) = false
is_not_indexed None (Some _) = true
is_not_indexed None None = false

-- 28. An index stands on something other than an array, a vector or a structured buffer (HLSL, "Subscript").
abbrev pub rule_28 : Scope → Part → List ℕ
rule_28 s (an_index operand index) = broken_if (is_not_indexed (buffer_at s operand) (type_in s operand)) (at_of index)
rule_28 s _ = []

-- 29. An index isn't a scalar (HLSL, "Subscript").
abbrev pub rule_29 : Scope → Part → List ℕ
rule_29 s (an_index operand index) = broken_if (is_known (λ ty. not (is_scalar ty)) (type_in s index)) (at_of index)
rule_29 s _ = []

abbrev pub is_past : Option ℕ → Option Ty → Bool
is_past (Some number) (Some (array_type element size)) = nat_le size number
is_past (Some number) (Some (vector_type kind size)) = nat_le size number
is_past _ _ = false

-- 30. An index is a constant number at or past its array's or vector's length; that of a swizzle is the number of its
-- letters (HLSL, "Subscript").
abbrev pub rule_30 : Scope → Part → List ℕ
rule_30 s (an_index operand index) = broken_if (is_past (constant_number s index) (type_in s operand)) (at_of index)
rule_30 s _ = []

-- whether only a constant number may be an index of it: it is known to be no place, or is a swizzle of several letters
abbrev pub needs_constant_index : Standing → Bool
needs_constant_index no_place = true
needs_constant_index (a_place writable atomic letters) = is_longer letters
needs_constant_index unclear = false

-- 31. An index that isn't a constant number stands on a value that isn't a place, or on a swizzle of more than one letter
-- (this project's own).
abbrev pub rule_31 : Scope → Part → List ℕ
rule_31 s (an_index operand index) =
    broken_if (is_none (buffer_at s operand) && (is_none (constant_number s index) && needs_constant_index (standing_in s operand))) (at_of index)
rule_31 s _ = []

-- ---- operators

-- 32. An operand of an operator isn't a scalar or a vector (HLSL, "Operators").
abbrev pub rule_32 : Scope → Part → List ℕ
rule_32 s (an_operand operand) = broken_if (is_no_operand (type_in s operand)) (at_of operand)
rule_32 s _ = []

-- whether the components of arguments, where all have types, aren't so many
abbrev pub is_other_sum : (count : ℕ) → Option (List Ty) → Bool
is_other_sum count None = false
is_other_sum count (Some types) = not (sum (map component_count types) == count)

-- 33. A constructor has an argument that isn't a scalar or a vector, or its arguments haven't as many components as its
-- type; at its first token (HLSL, "Constructors").
abbrev pub rule_33 : Scope → Part → List ℕ
rule_33 s (a_constructor at basic arguments) =
    broken_if
    (list_any (λ v. is_no_operand v.ty) (arguments_of s arguments)
    || is_other_sum (component_count (basic_type s basic)) (argument_types (arguments_of s arguments)))
    at
rule_33 s _ = []

-- 34. A cast isn't a conversion; at its `(` (HLSL, "Explicit Conversions").
abbrev pub rule_34 : Scope → Part → List ℕ
rule_34 s (a_cast at basic operand) = broken_if (is_known (λ ty. not (converts ty (basic_type s basic))) (type_in s operand)) at
rule_34 s _ = []

-- ---- calls

abbrev pub is_none_fitting : Option (Result ℕ ChoiceFault) → Bool
is_none_fitting (Some (Err NoMatch)) = true
is_none_fitting _ = false

-- whether the arguments, which all have types, don't fit the intrinsic function
abbrev pub is_unfit : Option ℕ → List Value → Bool
is_unfit None args = false
is_unfit (Some number) args = is_some (argument_types args) && is_none (intrinsic_type number args)

abbrev pub is_unfit_call : Scope → List ℕ → Option Sort → List Value → Bool
is_unfit_call s name (Some a_function_name) args = is_none_fitting (call_choice s name args)
is_unfit_call s name (Some _) args = false
is_unfit_call s name None args = is_unfit (intrinsic_named name) args

-- 35. A call has no fitting candidate; for an intrinsic function, its arguments don't fit it (HLSL, "Overload Resolution",
-- "Intrinsic Functions").
abbrev pub rule_35 : Scope → Part → List ℕ
rule_35 s (a_call at arguments) = broken_if (is_unfit_call s (spelled s at) (sort_at s at) (arguments_of s arguments)) at
rule_35 s _ = []

abbrev pub is_ambiguous_choice : Option (Result ℕ ChoiceFault) → Bool
is_ambiguous_choice (Some (Err (Ambiguous first second))) = true
is_ambiguous_choice _ = false

-- 36. A call is ambiguous (HLSL, "Overload Resolution").
abbrev pub rule_36 : Scope → Part → List ℕ
rule_36 s (a_call at arguments) =
    broken_if (is_function_call (sort_at s at) && is_ambiguous_choice (call_choice s (spelled s at) (arguments_of s arguments))) at
rule_36 s _ = []

-- the candidate that a call chooses
abbrev pub chosen_at : Scope → ℕ → Tree → Option Candidate
chosen_at s at arguments = if is_function_call (sort_at s at) then called s (spelled s at) (arguments_of s arguments) else None

-- the arguments that are written and can't be
abbrev pub unwritable_arguments : Scope → List Param → Trees → List ℕ
unwritable_arguments s [] trees = []
unwritable_arguments s (p ∷ params) no_trees = []
unwritable_arguments s (p ∷ params) (more_trees first rest) = argument_if p.copying ++ unwritable_arguments s params rest
  where
    argument_if : Copying → List ℕ
    argument_if CopyIn = []
    argument_if _ = broken_if (is_unwritable (standing_in s first)) (at_of first)

abbrev pub argument_trees : Tree → Trees
argument_trees (an_args at arguments) = arguments
argument_trees _ = no_trees

abbrev pub unwritable_of : Scope → Option Candidate → Trees → List ℕ
unwritable_of s None trees = []
unwritable_of s (Some candidate) trees = unwritable_arguments s candidate.params trees

-- 37. An `out` or `inout` argument isn't a place that may be written; at the argument (HLSL, "Function Calls").
abbrev pub rule_37 : Scope → Part → List ℕ
rule_37 s (a_call at arguments) = unwritable_of s (chosen_at s at arguments) (argument_trees arguments)
rule_37 s _ = []

abbrev pub is_itself : Option ℕ → Option Candidate → Bool
is_itself (Some number) (Some candidate) = number == candidate.number
is_itself _ _ = false

-- 38. A function calls itself; at the call (DirectX HLSL, "Functions").
abbrev pub rule_38 : Scope → Part → List ℕ
rule_38 s (a_call at arguments) = broken_if (is_itself s.inside (chosen_at s at arguments)) at
rule_38 s _ = []

-- 39. A `void` value is used: it is anything but a statement, or the first part or the step of a `for`, parentheses
-- aside (HLSL, "Void").
abbrev pub rule_39 : Scope → Part → List ℕ
rule_39 s (a_use e) = broken_if (gives_nothing s e) (at_of e)
rule_39 s _ = []

-- whether it is known that something isn't groupshared nor in a writable structured buffer, or is no int or uint
abbrev pub is_no_target : Value → Bool
is_no_target v = is_no_memory v.standing || is_known (λ ty. not (is_word ty)) (valued v.ty)
  where
    is_no_memory : Standing → Bool
    is_no_memory unclear = false
    is_no_memory no_place = true
    is_no_memory (a_place writable atomic letters) = not atomic

abbrev pub is_interlocked : Option Sort → List ℕ → Bool
is_interlocked None name = is_some (option_and_then interlocked_form (intrinsic_named name))
is_interlocked (Some sort) name = false

abbrev pub untargeted : Scope → Trees → List ℕ
untargeted s no_trees = []
untargeted s (more_trees target rest) = broken_if (is_no_target (value_of s target)) (at_of target)

-- 40. The target of an interlocked operation isn't a groupshared or writable structured-buffer place that is an int or
-- uint scalar; at the target (DirectX HLSL, "Interlocked Functions").
abbrev pub rule_40 : Scope → Part → List ℕ
rule_40 s (a_call at arguments) = if is_interlocked (sort_at s at) (spelled s at) then untargeted s (argument_trees arguments) else []
rule_40 s _ = []

abbrev pub is_no_method : Option BufferInfo → List ℕ → List Value → Bool
is_no_method None name args = true
is_no_method (Some buffer) name args = is_unfit_method (method_of buffer name)
  where
    is_unfit_method : Option Method → Bool
    is_unfit_method None = true
    is_unfit_method (Some method) = is_some (argument_types args) && not (method_fits method args)

-- 41. A buffer has no such method, its arguments don't fit it, or a `.` and a name with arguments stands on something
-- other than a buffer; at the name (DirectX HLSL, "ByteAddressBuffer", "StructuredBuffer").
abbrev pub rule_41 : Scope → Part → List ℕ
rule_41 s (a_method_call operand name arguments) =
    broken_if (is_no_method (buffer_at s operand) (spelled s name) (arguments_of s arguments)) name
rule_41 s _ = []
