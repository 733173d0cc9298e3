-- Constant numbers, and the types that declarations give (HLSL, "Expressions", "Declarations").
use Rattle.std.specs.Prelude.{ℕ, suc, ◌+◌, ◌-◌, ◌*◌, ◌&&◌, if◌then◌else◌, nat_le, Option, None, Some, option_map, option_and_then}
use Rattle.hl_lexer.specs.declared.terminal.Terminal.{Terminal}
use Rattle.hl_lexer.specs.declared.terminal.Terminal.TheVariants as terminals
use Rattle.hl_lexer.specs.Numbers.{greatest_number}
use Rattle.hl_parser.specs.Trees.{Tree, Trees, absent, present, no_trees, more_trees, a_binary, a_declarator, a_primary, a_result, a_type, at_of}
use Rattle.hl_meaning.specs.declared.ty.Kind.TheVariants.{Bool as BoolKind, Int as IntKind, Uint as UintKind}
use Rattle.hl_meaning.specs.Types.{Ty, array_type, scalar_type, struct_type, vector_type, void_type}
use Rattle.hl_rules.specs.Scopes.{Scope, Sort, a_struct_name, a_variable_name, sort_at}
use Rattle.hl_rules.specs.Source.{number_at, terminal_at}

-- ---- constant numbers

-- a sum, a difference or a product, by its mark, as a whole number that isn't below 0 nor above the greatest one
abbrev pub sum_of : Terminal → ℕ → ℕ → Option ℕ
sum_of terminals.Plus a b = if nat_le (a + b) greatest_number then Some (a + b) else None
sum_of terminals.Minus a b = if nat_le b a then Some (a - b) else None
sum_of terminals.Star a b = if nat_le (a * b) greatest_number then Some (a * b) else None
sum_of _ a b = None

-- the constant number that a name is
abbrev pub number_of_sort : Option Sort → Option ℕ
number_of_sort (Some (a_variable_name variable)) = variable.number
number_of_sort _ = None

-- the constant number that a token alone is: a number, or a name
abbrev pub word_number : Scope → Terminal → ℕ → Option ℕ
word_number s terminals.Number index = Some (number_at s.tokens index)
word_number s terminals.Name index = number_of_sort (sort_at s index)
word_number s _ index = None

abbrev pub combined : Terminal → Option ℕ → Option ℕ → Option ℕ
combined terminal (Some a) (Some b) = sum_of terminal a b
combined terminal _ _ = None

-- A constant number is a number, the name of a `static const` scalar of int or uint whose initialiser is a constant
-- number, or a sum, a difference or a product of two constant numbers; it may stand in parentheses.
abbrev pub constant_number : Scope → Tree → Option ℕ
constant_number s (a_primary at absent absent) = word_number s (terminal_at s.tokens at) at
constant_number s (a_primary at (present inner) absent) = constant_number s inner
constant_number s (a_binary production at left mark right) =
    combined (terminal_at s.tokens mark) (constant_number s left) (constant_number s right)
constant_number s _ = None

-- ---- types

-- the type that a word says
abbrev pub word_type : Terminal → Ty
word_type terminals.Bool = scalar_type BoolKind
word_type terminals.Int = scalar_type IntKind
word_type terminals.Uint = scalar_type UintKind
word_type terminals.Bool2 = vector_type BoolKind 2
word_type terminals.Bool3 = vector_type BoolKind 3
word_type terminals.Bool4 = vector_type BoolKind 4
word_type terminals.Int2 = vector_type IntKind 2
word_type terminals.Int3 = vector_type IntKind 3
word_type terminals.Int4 = vector_type IntKind 4
word_type terminals.Uint2 = vector_type UintKind 2
word_type terminals.Uint3 = vector_type UintKind 3
word_type terminals.Uint4 = vector_type UintKind 4
word_type _ = void_type

-- the type of a tree of the production `basic`
abbrev pub basic_type : Scope → Tree → Ty
basic_type s basic = word_type (terminal_at s.tokens (at_of basic))

-- the struct that a name is
abbrev pub struct_of_sort : Option Sort → Option Ty
struct_of_sort (Some (a_struct_name number)) = Some (struct_type number)
struct_of_sort _ = None

-- the type that a tree of the production `type` says
abbrev pub named_type : Scope → Tree → Option Ty
named_type s (a_type at (present basic)) = Some (basic_type s basic)
named_type s (a_type at absent) = struct_of_sort (sort_at s at)
named_type s _ = None

-- what a function of a result gives
abbrev pub result_type : Scope → Tree → Option Ty
result_type s (a_result at absent) = Some void_type
result_type s (a_result at (present type)) = named_type s type
result_type s _ = None

-- the greatest length of an array, and the greatest number of lengths
abbrev pub most_length : ℕ
most_length = 65536

abbrev pub most_lengths : ℕ
most_lengths = 16

-- a number from 1 to the greatest length
abbrev pub length_if : Option ℕ → Option ℕ
length_if None = None
length_if (Some number) = if nat_le 1 number && nat_le number most_length then Some number else None

-- the length of an array
abbrev pub array_length : Scope → Tree → Option ℕ
array_length s length = length_if (constant_number s length)

-- arrays of a type, the outermost first
abbrev pub array_of : Scope → Trees → Option Ty → Option Ty
array_of s no_trees element = element
array_of s (more_trees first rest) element =
    option_and_then (λ length. option_map (λ ty. array_type ty length) (array_of s rest element)) (array_length s first)

abbrev pub tree_count : Trees → ℕ
tree_count no_trees = 0
tree_count (more_trees first rest) = suc (tree_count rest)

-- the type that a declarator gives its name, where its lengths are lengths and not too many
abbrev pub declarator_type : Scope → Option Ty → Tree → Option Ty
declarator_type s ty (a_declarator at lengths) = if nat_le (tree_count lengths) most_lengths then array_of s lengths ty else None
declarator_type s ty _ = None
