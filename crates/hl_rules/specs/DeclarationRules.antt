-- The rules on declarations: 1 to 17, 21 and 42.
--
-- Each says at which token it is broken by a part of a program. A rule that needs the type of something that has none
-- isn't broken there.
use Rattle.std.specs.Prelude.{ℕ, ◌*◌, ◌==◌, ◌&&◌, ◌||◌, not, Bool, true, false, if◌then◌else◌, nat_le, nat_lt, List, [], ◌∷◌, ◌++◌, length, is_some, is_none, codes, Option, None, Some, bytes_eq}
use Rattle.std.specs.List.{list_all, list_any}
use Rattle.std.specs.Char.{is_ascii_digit}
use Rattle.std.specs.Str.{str_eq_ignore_ascii_case}
use Rattle.hl_lexer.specs.declared.terminal.Terminal.{Terminal}
use Rattle.hl_lexer.specs.declared.terminal.Terminal.TheVariants as terminals
use Rattle.hl_lexer.specs.Tokens.{Lexeme}
use Rattle.hl_lexer.specs.Numbers.{digits_number, greatest_number}
use Rattle.hl_parser.specs.Trees.{Tree, Trees, Maybe, absent, present, no_trees, more_trees, a_block, a_jump, a_param, a_primary, a_result, a_stmt, a_unary, an_attribute, an_if, an_init, at_of}
use Rattle.hl_meaning.specs.declared.program.Copying.{Copying}
use Rattle.hl_meaning.specs.declared.program.Copying.TheVariants.{CopyIn}
use Rattle.hl_meaning.specs.declared.program.Semantic.{Semantic}
use Rattle.hl_meaning.specs.declared.program.Semantic.TheVariants.{DispatchThreadId, GroupId, GroupThreadId, GroupIndex}
use Rattle.hl_meaning.specs.Types.{Ty, component_count, is_numeric, is_scalar, ty_eq}
use Rattle.hl_meaning.specs.WellFormed.{most_element_words, most_words}
use Rattle.hl_rules.specs.Constants.{array_length, constant_number, most_lengths, named_type}
use Rattle.hl_rules.specs.Found.{broken_if}
use Rattle.hl_rules.specs.Declarations.{param_copying, param_type, params_info, at_params}
use Rattle.hl_rules.specs.Intrinsics.{intrinsic_named}
use Rattle.hl_rules.specs.Parts.{Part, a_brace_init, a_constant_init, a_declared, a_function_attribute, a_global_name, a_length, a_local_name, a_member_name, a_register, a_space, a_type_name, a_variable, a_call, a_whole_function, a_whole_struct, an_element, an_end, an_entry_param}
use Rattle.hl_rules.specs.Scopes.{ParamInfo, Scope, Sort, a_function_name, a_struct_name, a_variable_name, declared_in, innermost, is_function, sort_at, spelled, words_if}
use Rattle.hl_rules.specs.Sites.{is_entry, is_numthreads}
use Rattle.hl_rules.specs.Source.{terminal_at}
use Rattle.hl_rules.specs.Values.{is_known, is_word, type_in}

-- ---- names

abbrev pub is_declared_sort : (Sort → Bool) → Option Sort → Bool
is_declared_sort test None = false
is_declared_sort test (Some sort) = test sort

abbrev pub is_struct_sort : Sort → Bool
is_struct_sort (a_struct_name number) = true
is_struct_sort _ = false

abbrev pub is_variable_sort : Sort → Bool
is_variable_sort (a_variable_name v) = true
is_variable_sort _ = false

abbrev pub is_function_sort : Sort → Bool
is_function_sort a_function_name = true
is_function_sort _ = false

-- whether a name is no name of the sort, though it is declared
abbrev pub is_other_sort : (Sort → Bool) → Option Sort → Bool
is_other_sort test sort = is_declared_sort (λ x. not (test x)) sort

-- whether a global name is declared so far, as one of the sorts that pass
abbrev pub is_global : (Sort → Bool) → Scope → (name : ℕ) → Bool
is_global test s name = list_any (λ n. bytes_eq n.name (spelled s name) && test n.sort) s.globals

-- 1. A global name other than a function's is declared a second time, or is also a function's (HLSL, "Scopes").
abbrev pub rule_1 : Scope → Part → List ℕ
rule_1 s (a_global_name name) = broken_if (is_global (λ sort. true) s name) name
rule_1 s (a_whole_function attributes result name params block) =
    broken_if (is_global (λ sort. not (is_function_sort sort)) s name) name
rule_1 s _ = []

-- 2. A name is declared a second time in one block; parameters and the function's own block are one block (HLSL, "Scopes").
abbrev pub rule_2 : Scope → Part → List ℕ
rule_2 s (a_local_name name) = broken_if (is_some (declared_in (innermost s) (spelled s name))) name
rule_2 s _ = []

-- 3. A used name has no declaration before it. An intrinsic function's name is known as that of a call alone (HLSL,
-- "Name Lookup").
abbrev pub rule_3 : Scope → Part → List ℕ
rule_3 s (a_variable at) = broken_if (is_none (sort_at s at)) at
rule_3 s (a_type_name at) = broken_if (is_none (sort_at s at)) at
rule_3 s (a_call at arguments) = broken_if (is_none (sort_at s at) && is_none (intrinsic_named (spelled s at))) at
rule_3 s _ = []

-- 4. A name is used as another sort (type, variable, buffer, function) than its declaration's. The name of a buffer is
-- used as a variable where neither an index nor a `.` and a name with arguments follows it directly (HLSL, "Name Lookup").
abbrev pub rule_4 : Scope → Part → List ℕ
rule_4 s (a_variable at) = broken_if (is_other_sort is_variable_sort (sort_at s at)) at
rule_4 s (a_type_name at) = broken_if (is_other_sort is_struct_sort (sort_at s at)) at
rule_4 s (a_call at arguments) = broken_if (is_other_sort is_function_sort (sort_at s at)) at
rule_4 s _ = []

-- 5. A member of a struct has the name of an earlier member of it (HLSL, "Structures").
abbrev pub rule_5 : Scope → Part → List ℕ
rule_5 s (a_member_name before name) = broken_if (list_any (λ m. bytes_eq m.name (spelled s name)) before) name
rule_5 s _ = []

-- ---- types

-- 6. An array length isn't a constant number from 1 to 65536, or a declarator has more than 16 lengths, at the
-- seventeenth (HLSL, "Arrays").
abbrev pub rule_6 : Scope → Part → List ℕ
rule_6 s (a_length before size) = broken_if (is_none (array_length s size) || before == most_lengths) (at_of size)
rule_6 s _ = []

abbrev pub is_more : (most : ℕ) → Option ℕ → Bool
is_more most None = false
is_more most (Some words) = nat_lt most words

-- 7. A structured buffer's element has more than 512 words (DirectX HLSL, "StructuredBuffer").
abbrev pub rule_7 : Scope → Part → List ℕ
rule_7 s (an_element type) = broken_if (is_more most_element_words (words_if s.structs (named_type s type))) (at_of type)
rule_7 s _ = []

-- a decimal number without zeros in front, at most 2^32 - 1
abbrev pub decimal_number : List ℕ → Option ℕ
decimal_number [] = None
decimal_number (first ∷ digits) =
    if list_all is_ascii_digit (first ∷ digits)
    && ((not (first == 48) || nat_le (length digits) 0) && nat_le (digits_number 10 (first ∷ digits)) greatest_number)
    then Some (digits_number 10 (first ∷ digits)) else None

-- the number behind a front
abbrev pub number_behind : (front : List ℕ) → List ℕ → Option ℕ
number_behind [] text = decimal_number text
number_behind (letter ∷ front) [] = None
number_behind (letter ∷ front) (first ∷ text) = if letter == first then number_behind front text else None

-- the number of a register: `t` for a buffer that is read only, `u` for one that may be written
abbrev pub register_number : Scope → (writable : Bool) → ℕ → Option ℕ
register_number s writable name = number_behind (if writable then codes "u" else codes "t") (spelled s name)

abbrev pub space_number : Scope → ℕ → Option ℕ
space_number s name = number_behind (codes "space") (spelled s name)

-- 8. A register isn't `t` (read-only) or `u` (writable) and a decimal number, or a space isn't `space` and a decimal
-- number. Numbers have no zeros in front and are at most 4294967295 (DirectX HLSL, "Resource Binding").
abbrev pub rule_8 : Scope → Part → List ℕ
rule_8 s (a_register writable name) = broken_if (is_none (register_number s writable name)) name
rule_8 s (a_space name) = broken_if (is_none (space_number s name)) name
rule_8 s _ = []

-- ---- initialisers of constants

abbrev pub is_truth_word : Terminal → Bool
is_truth_word terminals.True = true
is_truth_word terminals.False = true
is_truth_word _ = false

abbrev pub is_minus : Terminal → Bool
is_minus terminals.Minus = true
is_minus _ = false

-- `true`, `false`, or `-` before a constant number
abbrev pub is_signed_or_truth : Scope → Tree → Bool
is_signed_or_truth s (a_primary at absent absent) = is_truth_word (terminal_at s.tokens at)
is_signed_or_truth s (a_unary at absent operand) = is_minus (terminal_at s.tokens at) && is_some (constant_number s operand)
is_signed_or_truth s _ = false

abbrev mutual
  pub is_constant_init : Scope → Tree → Bool
  is_constant_init s (an_init at (present value) parts) = is_some (constant_number s value) || is_signed_or_truth s value
  is_constant_init s (an_init at absent parts) = are_constant_inits s parts
  is_constant_init s _ = false

  pub are_constant_inits : Scope → Trees → Bool
  are_constant_inits s no_trees = true
  are_constant_inits s (more_trees first rest) = is_constant_init s first && are_constant_inits s rest

-- 9. A constant's initialiser holds something other than constant numbers, a `-` before one, `true`, `false` and braces;
-- at its first token (HLSL, "Initializers").
abbrev pub rule_9 : Scope → Part → List ℕ
rule_9 s (a_constant_init init) = broken_if (not (is_constant_init s init)) (at_of init)
rule_9 s _ = []

-- the expressions in an initialiser, in order
abbrev mutual
  pub leaves_of : Tree → List Tree
  leaves_of (an_init at (present value) parts) = value ∷ []
  leaves_of (an_init at absent parts) = leaves_among parts
  leaves_of _ = []

  pub leaves_among : Trees → List Tree
  leaves_among no_trees = []
  leaves_among (more_trees first rest) = leaves_of first ++ leaves_among rest

abbrev pub is_other : ℕ → Option ℕ → Bool
is_other count None = false
is_other count (Some words) = not (count == words)

-- 10. A brace initialiser hasn't as many leaves, scalars each, as its type has words; at its first token (HLSL,
-- "Aggregate Initialization").
abbrev pub rule_10 : Scope → Part → List ℕ
rule_10 s (a_brace_init init ty) =
    broken_if
    (is_other (length (leaves_of init)) (words_if s.structs ty)
    || list_any (λ leaf. is_known (λ x. not (is_scalar x)) (type_in s leaf)) (leaves_of init))
    (at_of init)
rule_10 s _ = []

-- ---- functions

-- whether parameters are known to have the same types
abbrev pub is_same_type : Option Ty → Option Ty → Bool
is_same_type (Some a) (Some b) = ty_eq a b
is_same_type _ _ = false

abbrev pub have_same_types : List ParamInfo → List ParamInfo → Bool
have_same_types [] [] = true
have_same_types (a ∷ params) (b ∷ others) = is_same_type a.ty b.ty && have_same_types params others
have_same_types _ _ = false

-- 11. A function has the name and the parameter types of an earlier function (HLSL, "Overloading").
abbrev pub rule_11 : Scope → Part → List ℕ
rule_11 s (a_whole_function attributes result name params block) =
    broken_if
    (list_any (λ f. bytes_eq f.name (spelled s name) && have_same_types f.params (params_info (at_params s result) params)) s.functions)
    name
rule_11 s _ = []

-- 12. A function has the name of an intrinsic function (this project's own).
abbrev pub rule_12 : Scope → Part → List ℕ
rule_12 s (a_whole_function attributes result name params block) = broken_if (is_some (intrinsic_named (spelled s name))) name
rule_12 s _ = []

-- 13. No function has the entry's name, at the end of the source, or a second one has (DirectX HLSL, "Entry Point").
abbrev pub rule_13 : Scope → Part → List ℕ
rule_13 s (a_whole_function attributes result name params block) =
    broken_if (bytes_eq (spelled s name) s.entry && is_function s s.entry) name
rule_13 s an_end = broken_if (not (is_function s s.entry)) (length s.tokens)
rule_13 s _ = []

-- whether a `numthreads` is among attributes
abbrev pub has_numthreads : Scope → Trees → Bool
has_numthreads s no_trees = false
has_numthreads s (more_trees (an_attribute at name arguments) rest) = is_numthreads s name || has_numthreads s rest
has_numthreads s (more_trees _ rest) = has_numthreads s rest

-- 14. The entry has no `numthreads`, or some function has a second one (DirectX HLSL, "numthreads").
abbrev pub rule_14 : Scope → Part → List ℕ
rule_14 s (a_whole_function attributes result name params block) =
    broken_if (is_entry s name && not (has_numthreads s attributes)) name
rule_14 s (a_function_attribute again name at arguments) = broken_if (again && is_numthreads s name) name
rule_14 s _ = []

-- the three numbers of `numthreads`: x and y from 1 to 1024, z from 1 to 64, and at most 1024 threads together
abbrev pub is_from_one_to : ℕ → ℕ → Bool
is_from_one_to most number = nat_le 1 number && nat_le number most

abbrev pub are_threads : Option ℕ → Option ℕ → Option ℕ → Bool
are_threads (Some x) (Some y) (Some z) =
    is_from_one_to 1024 x && (is_from_one_to 1024 y && (is_from_one_to 64 z && nat_le (x * y * z) 1024))
are_threads _ _ _ = false

abbrev pub have_threads : Scope → Trees → Bool
have_threads s (more_trees x (more_trees y (more_trees z no_trees))) =
    are_threads (constant_number s x) (constant_number s y) (constant_number s z)
have_threads s _ = false

-- 15. `numthreads` hasn't three constant numbers, x and y from 1 to 1024, z from 1 to 64, with a product of at most 1024
-- (DirectX HLSL, "numthreads").
abbrev pub rule_15 : Scope → Part → List ℕ
rule_15 s (a_function_attribute again name at arguments) = broken_if (is_numthreads s name && not (have_threads s arguments)) name
rule_15 s _ = []

abbrev pub is_no_result : Tree → Bool
is_no_result (a_result at absent) = true
is_no_result _ = false

-- 16. The entry's result isn't `void` (DirectX HLSL, "Entry Point").
abbrev pub rule_16 : Scope → Part → List ℕ
rule_16 s (a_whole_function attributes result name params block) = broken_if (is_entry s name && not (is_no_result result)) (at_of result)
rule_16 s _ = []

-- the semantic of a name, with letters of either case
abbrev pub semantic_named : List ℕ → Option Semantic
semantic_named name =
    if str_eq_ignore_ascii_case name (codes "SV_DispatchThreadID") then Some DispatchThreadId else (
    if str_eq_ignore_ascii_case name (codes "SV_GroupID") then Some GroupId else (
    if str_eq_ignore_ascii_case name (codes "SV_GroupThreadID") then Some GroupThreadId else (
    if str_eq_ignore_ascii_case name (codes "SV_GroupIndex") then Some GroupIndex else None)))

abbrev pub semantic_if : Scope → Option ℕ → Option Semantic
semantic_if s None = None
semantic_if s (Some name) = semantic_named (spelled s name)

abbrev pub param_semantic : Scope → Tree → Option Semantic
param_semantic s (a_param at constant direction type declarator semantic) = semantic_if s semantic
param_semantic s _ = None

abbrev pub param_name : Tree → ℕ
param_name (a_param at constant direction type declarator semantic) = at_of declarator
param_name _ = 0

abbrev pub is_copied_in : Copying → Bool
is_copied_in CopyIn = true
is_copied_in _ = false

-- the types that a semantic may have
abbrev pub is_semantic_type : Semantic → Ty → Bool
is_semantic_type GroupIndex ty = is_word ty
is_semantic_type _ ty = is_numeric ty && nat_le (component_count ty) 3

abbrev pub is_same_semantic : Semantic → Semantic → Bool
is_same_semantic DispatchThreadId DispatchThreadId = true
is_same_semantic GroupId GroupId = true
is_same_semantic GroupThreadId GroupThreadId = true
is_same_semantic GroupIndex GroupIndex = true
is_same_semantic _ _ = false

abbrev pub has_semantic : Semantic → Option Semantic → Bool
has_semantic semantic None = false
has_semantic semantic (Some other) = is_same_semantic semantic other

abbrev pub is_semantic_among : Scope → Semantic → Trees → Bool
is_semantic_among s semantic no_trees = false
is_semantic_among s semantic (more_trees first rest) = has_semantic semantic (param_semantic s first) || is_semantic_among s semantic rest

-- a semantic of a type, behind these parameters
abbrev pub is_input : Scope → (before : Trees) → Option Ty → Option Semantic → Bool
is_input s before ty None = false
is_input s before ty (Some semantic) =
    not (is_known (λ x. not (is_semantic_type semantic x)) ty) && not (is_semantic_among s semantic before)

-- 17. A parameter of the entry isn't `in`, has no semantic of SV_DispatchThreadID, SV_GroupID, SV_GroupThreadID (int or
-- uint, a scalar or a vector of 2 or 3) or SV_GroupIndex (a scalar of int or uint), letters of either case alike, or
-- repeats one (DirectX HLSL, "Semantics").
abbrev pub rule_17 : Scope → Part → List ℕ
rule_17 s (an_entry_param before param) =
    broken_if (not (is_copied_in (param_copying s param)) || not (is_input s before (param_type s param) (param_semantic s param))) (param_name param)
rule_17 s _ = []

-- Whether a statement always returns: `return` does, a block with such a statement does, and an `if` with both branches
-- such does.
abbrev pub is_return_word : Terminal → Bool
is_return_word terminals.Return = true
is_return_word _ = false

abbrev mutual
  pub always_returns : List Lexeme → Tree → Bool
  always_returns tokens (a_stmt at part) = returns_if tokens part
  always_returns tokens (a_block at statements) = one_returns tokens statements
  always_returns tokens (an_if at attributes condition consequent alternative) =
      always_returns tokens consequent && returns_if tokens alternative
  always_returns tokens (a_jump at value) = is_return_word (terminal_at tokens at)
  always_returns tokens _ = false

  pub one_returns : List Lexeme → Trees → Bool
  one_returns tokens no_trees = false
  one_returns tokens (more_trees first rest) = always_returns tokens first || one_returns tokens rest

  pub returns_if : List Lexeme → Maybe → Bool
  returns_if tokens absent = false
  returns_if tokens (present statement) = always_returns tokens statement

-- 21. A function that isn't `void` can end without `return`: its block holds no statement that always returns (HLSL,
-- "Return Statement").
abbrev pub rule_21 : Scope → Part → List ℕ
rule_21 s (a_whole_function attributes result name params block) =
    broken_if (not (is_no_result result) && not (always_returns s.tokens block)) name
rule_21 s _ = []

-- 42. A declared type has more than 65536 words, a struct among them; at the declared name (this project's own).
abbrev pub rule_42 : Scope → Part → List ℕ
rule_42 s (a_declared name ty) = broken_if (is_more most_words (words_if s.structs ty)) name
rule_42 s (a_whole_struct name words) = broken_if (is_more most_words words) name
rule_42 s _ = []
