-- What expressions become in the typed program.
use Rattle.std.specs.Prelude.{ℕ, Bool, true, false, if◌then◌else◌, List, [], ◌∷◌, length, map, Option, None, Some, option_map, option_and_then, slice_get}
use Rattle.hl_lexer.specs.declared.terminal.Terminal.{Terminal}
use Rattle.hl_lexer.specs.declared.terminal.Terminal.TheVariants as terminals
use Rattle.hl_parser.specs.Trees.{Tree, Trees, Maybe, absent, present, no_trees, more_trees, a_binary, a_choice, a_postfix, a_primary, a_unary, an_args, at_of}
use Rattle.hl_parser.specs.Trees as trees
use Rattle.hl_meaning.specs.declared.ty.Kind.{Kind}
use Rattle.hl_meaning.specs.declared.ty.Kind.TheVariants.{Bool as BoolKind, Int as IntKind, Uint as UintKind}
use Rattle.hl_meaning.specs.declared.program.Copying.{Copying}
use Rattle.hl_meaning.specs.declared.program.Copying.TheVariants.{CopyIn}
use Rattle.hl_meaning.specs.Types.{Ty, array_type, bool_type, components_type, scalar_type, struct_type, uint_type, vector_type, void_type, with_kind}
use Rattle.hl_meaning.specs.Trees.{Arg, Args, Expr, Location, a_location, an_expr, binary_form, build_form, bytes_target, call_form, choose_form, element_root, index_part, intrinsic_form, literal_form, member_part, method_form, more_args, no_args, no_expr, no_parts, place_arg, place_target, place_type, read_form, some_expr, swizzle_part, unary_form, value_arg, write_form}
use Rattle.hl_meaning.specs.Intrinsics.{signature_of}
use Rattle.hl_overload.specs.Choice.{Param}
use Rattle.hl_rules.specs.Constants.{basic_type, constant_number}
use Rattle.hl_rules.specs.declared.interlocked.Interlocked.{Interlocked}
use Rattle.hl_rules.specs.declared.interlocked.Method.{Method}
use Rattle.hl_rules.specs.declared.interlocked.Method.TheVariants.{DoesAtomic, LoadsElement, LoadsWords, StoresWords}
use Rattle.hl_rules.specs.Intrinsics.{interlocked_form, intrinsic_named, method_of, operands_of, passed}
use Rattle.hl_rules.specs.Nodes.{Code, a_place_code, a_value, a_value_code, bytes_operand, converted_code, converted_each, in_kind, interlocked, place_of_code, type_of_code, value_of_code, with_part}
use Rattle.hl_rules.specs.Operands.{choice_type, kind_of, operand_type, operator_type, negated_type, signed_type}
use Rattle.hl_rules.specs.Scopes.{BufferInfo, Scope, Sort, a_function_name, a_variable_name, sort_at, spelled}
use Rattle.hl_rules.specs.Sites.{compound_production}
use Rattle.hl_rules.specs.Source.{mark_at, number_at, terminal_at}
use Rattle.hl_rules.specs.Values.{Candidate, arguments_of, buffer_named, called, function_result, letters_within, member_number, member_type, members_of, number_type}

-- ---- names and numbers

abbrev pub variable_code : ℕ → Option Sort → Option Code
variable_code at (Some (a_variable_name v)) = option_map (λ ty. a_place_code at (a_location ty v.root no_parts)) v.ty
variable_code at _ = None

-- a number, a truth value, or the place that a name is
abbrev pub word_code : Scope → Terminal → ℕ → Option Code
word_code s terminals.Number at = a_value (number_type s at) at (literal_form (number_at s.tokens at))
word_code s terminals.True at = a_value bool_type at (literal_form 1)
word_code s terminals.False at = a_value bool_type at (literal_form 0)
word_code s terminals.Name at = variable_code at (sort_at s at)
word_code s _ at = None

-- ---- members, swizzles and indexes

-- a swizzle of so many components of a kind
abbrev pub swizzled_code : (at : ℕ) → Kind → Option (List ℕ) → Code → Option Code
swizzled_code at kind letters code =
    option_map (λ found. with_part at (swizzle_part found) (components_type kind (length found)) code) letters

-- the member of a name
abbrev pub member_code : (at : ℕ) → Option ℕ → Option Ty → Code → Option Code
member_code at number ty code = option_and_then (λ member. option_map (λ own. with_part at (member_part member) own code) ty) number

-- what `.` and a name gives behind something of a type
abbrev pub dotted_into : Scope → (at : ℕ) → List ℕ → Ty → Code → Option Code
dotted_into s at name (struct_type number) code = member_code at (member_number (members_of s number) name) (member_type s number name) code
dotted_into s at name (scalar_type kind) code = swizzled_code at kind (letters_within 1 name) code
dotted_into s at name (vector_type kind size) code = swizzled_code at kind (letters_within size name) code
dotted_into s at name _ code = None

abbrev pub dotted_code : Scope → (at : ℕ) → List ℕ → Code → Option Code
dotted_code s at name code = dotted_into s at name (type_of_code code) code

-- the first token of an expression, without parentheses around the whole of it
abbrev pub bare_at : Tree → ℕ
bare_at (a_primary at (present inner) absent) = bare_at inner
bare_at e = at_of e

-- What isn't a constant number is no literal: a number in a cast to its own type, which is that number, stands behind a `+`.
abbrev pub no_literal : Expr → Expr
no_literal (an_expr ty at (literal_form word)) = an_expr ty at (unary_form 12 (an_expr ty at (literal_form word)))
no_literal e = e

-- An index: a constant number is a literal of uint, and any other index is converted to uint.
abbrev pub index_expr : (at : ℕ) → (number : Option ℕ) → Code → Option Expr
index_expr at (Some number) code = Some (an_expr uint_type at (literal_form number))
index_expr at None code = option_map no_literal (converted_code uint_type code)

-- what an index gives behind something of a type, an array or a vector
abbrev pub indexed_into : (at : ℕ) → Expr → Ty → Code → Option Code
indexed_into at index (array_type element size) code = Some (with_part at (index_part index) element code)
indexed_into at index (vector_type kind size) code = Some (with_part at (index_part index) (scalar_type kind) code)
indexed_into at index _ code = None

abbrev pub indexed_code : (at : ℕ) → Expr → Code → Option Code
indexed_code at index code = indexed_into at index (type_of_code code) code

abbrev pub element_if : BufferInfo → Option Ty
element_if buffer = if buffer.raw then None else buffer.element

-- an element of a structured buffer of a number, as a place
abbrev pub element_in : BufferInfo → (number : ℕ) → Expr → Option Location
element_in buffer number index = option_map (λ ty. a_location ty (element_root number index) no_parts) (element_if buffer)

abbrev pub element_place : Scope → (number : ℕ) → Expr → Option Location
element_place s number index = option_and_then (λ buffer. element_in buffer number index) (slice_get s.buffers number)

-- an index behind an expression, which may be the name of a buffer
abbrev pub bracketed_code : Scope → (at : ℕ) → (buffer : Option ℕ) → Expr → Option Code → Option Code
bracketed_code s at (Some number) index operand = option_map (a_place_code at) (element_place s number index)
bracketed_code s at None index operand = option_and_then (indexed_code at index) operand

-- ---- operators

-- a constructor, whose parts take its kind
abbrev pub constructor_code : (at : ℕ) → Ty → List Code → Option Code
constructor_code at ty codes = option_and_then (λ parts. a_value ty at (build_form parts)) (in_kind (kind_of ty) codes)

-- an operator between two operands, both converted to the type in which it computes
abbrev pub binary_code : (production at op : ℕ) → Code → Code → Option Code
binary_code production at op left right =
    option_and_then (λ ty. option_and_then (λ result. option_and_then (λ l. option_and_then (λ r.
    a_value result at (binary_form op l r))
    (converted_code ty right)) (converted_code ty left))
    (operator_type production (type_of_code left) (type_of_code right)))
    (operand_type production (type_of_code left) (type_of_code right))

-- `?:`: the condition becomes a bool of each component
abbrev pub choice_code : (at : ℕ) → Code → Code → Code → Option Code
choice_code at condition consequent alternative =
    option_and_then (λ ty. option_and_then (λ c. option_and_then (λ yes'. option_and_then (λ no'.
    a_value ty at (choose_form c yes' no'))
    (converted_code ty alternative)) (converted_code ty consequent))
    (converted_code (with_kind BoolKind ty) condition))
    (choice_type (type_of_code condition) (type_of_code consequent) (type_of_code alternative))

-- an operator before an operand
abbrev pub signed_code : (at op : ℕ) → Option Ty → Code → Option Code
signed_code at op ty operand =
    option_and_then (λ t. option_and_then (λ value. a_value t at (unary_form op value)) (converted_code t operand)) ty

-- an operator that writes what it computes into its left side, in the type that it computes in
abbrev pub compound_code : (production at op : ℕ) → (old : Bool) → Code → (value : Code) → Option Code
compound_code production at op old left right =
    option_and_then (λ place. option_and_then (λ ty. option_and_then (λ value.
    a_value (place_type place) at (write_form place (Some op) ty value old))
    (converted_code ty right))
    (operand_type production (place_type place) (type_of_code right)))
    (place_of_code left)

-- the marks `+` and `-`, and the operator of `++` and `--`
abbrev pub step_mark : Terminal → ℕ
step_mark terminals.MinusMinus = 13
step_mark _ = 12

-- `++` and `--` add or subtract the int 1, which has the index of their mark
abbrev pub step_code : Scope → (at mark : ℕ) → (old : Bool) → Code → Option Code
step_code s at mark old operand =
    compound_code 38 at (step_mark (terminal_at s.tokens mark)) old operand (a_value_code (an_expr (scalar_type IntKind) mark (literal_form 1)))

abbrev pub prefix_code : Scope → Terminal → (at : ℕ) → Code → Option Code
prefix_code s terminals.PlusPlus at operand = step_code s at at false operand
prefix_code s terminals.MinusMinus at operand = step_code s at at false operand
prefix_code s terminals.Exclamation at operand = signed_code at (mark_at s.tokens at) (negated_type (type_of_code operand)) operand
prefix_code s _ at operand = signed_code at (mark_at s.tokens at) (signed_type (type_of_code operand)) operand

-- the mark of the operator of a compound mark
abbrev pub compound_mark : Terminal → ℕ
compound_mark terminals.PlusEquals = 12
compound_mark terminals.MinusEquals = 13
compound_mark terminals.StarEquals = 14
compound_mark terminals.SlashEquals = 15
compound_mark terminals.PercentEquals = 16
compound_mark terminals.AmpersandEquals = 21
compound_mark terminals.BarEquals = 22
compound_mark terminals.CaretEquals = 23
compound_mark terminals.LessLessEquals = 30
compound_mark terminals.GreaterGreaterEquals = 31
compound_mark _ = 0

-- an assignment, whose value is converted to the type of the place
abbrev pub plain_assignment : (at : ℕ) → Code → Code → Option Code
plain_assignment at left right =
    option_and_then (λ place. option_and_then (λ value.
    a_value (place_type place) at (write_form place None (place_type place) value false))
    (converted_code (place_type place) right))
    (place_of_code left)

abbrev pub assignment_code : Terminal → (at : ℕ) → Code → Code → Option Code
assignment_code terminals.Equals at left right = plain_assignment at left right
assignment_code mark at left right = compound_code (compound_production mark) at (compound_mark mark) false left right

-- ---- calls

-- an `in` argument is converted to the parameter's type, and any other one is a place
abbrev pub passed_arg : Copying → Ty → Code → Option Arg
passed_arg CopyIn ty code = option_map value_arg (converted_code ty code)
passed_arg _ ty code = option_map place_arg (place_of_code code)

abbrev pub passed_args : List Param → List Code → Option Args
passed_args [] [] = Some no_args
passed_args (p ∷ params) (code ∷ codes) =
    option_and_then (λ first. option_map (λ rest. more_args first rest) (passed_args params codes)) (passed_arg p.copying p.ty code)
passed_args _ _ = None

-- the call of the candidate that is chosen
abbrev pub function_code : Scope → (at : ℕ) → Candidate → List Code → Option Code
function_code s at candidate codes =
    option_and_then (λ result. option_and_then (λ args. a_value result at (call_form candidate.number args)) (passed_args candidate.params codes))
    (function_result s candidate.number)

-- an interlocked operation on a place
abbrev pub interlocked_code : (at : ℕ) → Interlocked → List Code → Option Code
interlocked_code at form [] = None
interlocked_code at form (target ∷ codes) =
    option_and_then (λ o. option_and_then (λ place. interlocked at (place_target place) (place_type place) form o) (place_of_code target)) (operands_of form codes)

-- an interlocked operation, or else another intrinsic function, whose arguments are converted to what it takes
abbrev pub code_by_form : Option Interlocked → (at number : ℕ) → List Code → Option Code
code_by_form (Some form) at number codes = interlocked_code at form codes
code_by_form None at number codes =
    option_and_then (λ p. option_and_then (λ args. a_value p.gives at (intrinsic_form number args)) (converted_each p.takes codes))
    (option_and_then (λ signature. passed signature (map type_of_code codes)) (signature_of number))

abbrev pub intrinsic_code : (at number : ℕ) → List Code → Option Code
intrinsic_code at number codes = code_by_form (interlocked_form number) at number codes

abbrev pub call_code : Scope → (at : ℕ) → Option Sort → Option Candidate → List Code → Option Code
call_code s at (Some a_function_name) candidate codes = option_and_then (λ c. function_code s at c codes) candidate
call_code s at (Some _) candidate codes = None
call_code s at None candidate codes = option_and_then (λ number. intrinsic_code at number codes) (intrinsic_named (spelled s at))

-- the first of the arguments, if it is there
abbrev pub first_number : Scope → Trees → Option ℕ
first_number s no_trees = None
first_number s (more_trees first rest) = constant_number s first

abbrev pub first_at : Trees → ℕ
first_at no_trees = 0
first_at (more_trees first rest) = bare_at first

abbrev pub trees_of_args : Tree → Trees
trees_of_args (an_args at arguments) = arguments
trees_of_args _ = no_trees

-- A method of a byte-address buffer takes an address, which is converted to uint. A structured buffer's `Load` reads an
-- element, by an index; what it gives is no place. The first token of the first argument is that of an index, and the
-- constant number too.
abbrev pub method_code : BufferInfo → (at number : ℕ) → Method → (first : ℕ) → (constant : Option ℕ) → List Code → Option Code
method_code buffer at number (LoadsWords count) first constant (address ∷ []) =
    option_and_then (λ a. a_value (components_type UintKind count) at (method_form number count a no_expr)) (converted_code uint_type address)
method_code buffer at number (StoresWords count) first constant (address ∷ value ∷ []) =
    option_and_then (λ a. option_and_then (λ v. a_value void_type at (method_form number count a (some_expr v))) (converted_code (components_type UintKind count) value))
    (converted_code uint_type address)
method_code buffer at number (DoesAtomic form) first constant (address ∷ codes) =
    option_and_then (λ o. option_and_then (λ a. interlocked at (bytes_target number a) (bytes_operand (type_of_code o.value)) form o) (converted_code uint_type address))
    (operands_of form codes)
method_code buffer at number LoadsElement first constant (index ∷ []) =
    option_and_then (λ i. option_and_then (λ place. a_value (place_type place) at (read_form place)) (element_in buffer number i))
    (index_expr first constant index)
method_code buffer at number _ first constant _ = None

abbrev pub method_call_code : Scope → (at : ℕ) → (buffer : Option ℕ) → (name : List ℕ) → Trees → List Code → Option Code
method_call_code s at buffer name trees codes =
    option_and_then (λ number. option_and_then (λ info. option_and_then (λ method. method_code info at number method (first_at trees) (first_number s trees) codes) (method_of info name)) (slice_get s.buffers number)) buffer

-- ---- expressions

-- what all of several things become
abbrev pub with_two : {A B C : Type 0} → (A → B → Option C) → Option A → Option B → Option C
with_two f a b = option_and_then (λ x. option_and_then (f x) b) a

abbrev pub with_three : {A B C D : Type 0} → (A → B → C → Option D) → Option A → Option B → Option C → Option D
with_three f a b c = option_and_then (λ x. with_two (f x) b c) a

abbrev mutual
  -- what an expression becomes
  pub code_of : Scope → Tree → Option Code
  code_of s (a_primary at absent absent) = word_code s (terminal_at s.tokens at) at
  code_of s (a_primary at absent (present arguments)) =
      option_and_then (call_code s at (sort_at s at) (called s (spelled s at) (arguments_of s arguments))) (argument_codes s arguments)
  code_of s (a_primary at (present inner) absent) = code_of s inner
  code_of s (a_primary at (present basic) (present arguments)) =
      option_and_then (λ codes. constructor_code at (basic_type s basic) codes) (argument_codes s arguments)
  code_of s (a_postfix at operand mark (Some name) absent) = option_and_then (dotted_code s at (spelled s name)) (code_of s operand)
  code_of s (a_postfix at operand mark (Some name) (present arguments)) =
      option_and_then (method_call_code s at (buffer_named s operand) (spelled s name) (trees_of_args arguments)) (argument_codes s arguments)
  code_of s (a_postfix at operand mark None (present index)) =
      option_and_then (λ i. bracketed_code s at (buffer_named s operand) i (code_of s operand))
      (option_and_then (index_expr (bare_at index) (constant_number s index)) (code_of s index))
  code_of s (a_postfix at operand mark None absent) = option_and_then (step_code s at mark true) (code_of s operand)
  code_of s (a_unary at (present basic) operand) =
      option_and_then (λ code. option_map a_value_code (converted_code (basic_type s basic) code)) (code_of s operand)
  code_of s (a_unary at absent operand) = option_and_then (prefix_code s (terminal_at s.tokens at) at) (code_of s operand)
  code_of s (a_binary production at left mark right) =
      with_two (binary_code production at (mark_at s.tokens mark)) (code_of s left) (code_of s right)
  code_of s (a_choice at condition consequent alternative) =
      with_three (choice_code at) (code_of s condition) (code_of s consequent) (code_of s alternative)
  code_of s (trees.an_expr at left mark right) =
      with_two (assignment_code (terminal_at s.tokens mark) at) (code_of s left) (code_of s right)
  code_of s _ = None

  -- what arguments become
  pub argument_codes : Scope → Tree → Option (List Code)
  argument_codes s (an_args at arguments) = codes_of s arguments
  argument_codes s _ = None

  pub codes_of : Scope → Trees → Option (List Code)
  codes_of s no_trees = Some []
  codes_of s (more_trees first rest) = with_two (λ code codes. Some (code ∷ codes)) (code_of s first) (codes_of s rest)

-- what an expression becomes as a value, and as one of a type
abbrev pub value_code : Scope → Tree → Option Expr
value_code s e = option_map value_of_code (code_of s e)

abbrev pub value_in : Scope → Ty → Tree → Option Expr
value_in s ty e = option_and_then (converted_code ty) (code_of s e)
