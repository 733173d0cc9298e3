-- What is known at a place of a program, and by which names (HLSL, "Names", "Scopes").
--
-- All names share one name space. A local name hides a global one, and a name of an inner block one of an outer block.
use Rattle.std.specs.Prelude.{ℕ, ◌+◌, ◌*◌, Bool, true, false, List, [], ◌∷◌, ◌++◌, length, find, Option, None, Some, option_map, option_and_then, slice_get, bytes_eq}
use Rattle.std.specs.List.{list_any}
use Rattle.std.specs.Option.{option_or}
use Rattle.hl_lexer.specs.Tokens.{Lexeme}
use Rattle.hl_meaning.specs.declared.program.Copying.{Copying}
use Rattle.hl_meaning.specs.Types.{Ty, array_type, scalar_type, struct_type, vector_type, void_type}
use Rattle.hl_meaning.specs.Trees.{Root}
use Rattle.hl_rules.specs.Source.{text_at}

-- Where a declaration gives no type, since it breaks a rule, `None` stands for the type.

-- a variable: where it stands, its type, whether it is `const`, and the constant number that its name is, if it is one
pub record VariableInfo : Type 0 where
  pub root : Root
  pub ty : Option Ty
  pub is_const : Bool
  pub number : Option ℕ

pub record MemberInfo : Type 0 where
  pub name : List ℕ
  pub ty : Option Ty

-- a struct: its name, its members in order, and its words where all of them have types
pub record StructInfo : Type 0 where
  pub name : List ℕ
  pub members : List MemberInfo
  pub words : Option ℕ

-- a buffer: whether it may be written, whether it is a byte-address buffer, and else the type of its elements
pub record BufferInfo : Type 0 where
  pub writable : Bool
  pub raw : Bool
  pub element : Option Ty

pub record ParamInfo : Type 0 where
  pub ty : Option Ty
  pub copying : Copying

-- a function: its name, its parameters, and what a call of it gives, which is `void_type` for no value
pub record FunctionInfo : Type 0 where
  pub name : List ℕ
  pub params : List ParamInfo
  pub result : Option Ty

-- the sorts of what is declared
pub data Sort : Type 0 where
  a_struct_name : (number : ℕ) → Sort
  a_buffer_name : (number : ℕ) → Sort
  a_variable_name : (variable : VariableInfo) → Sort
  a_function_name : Sort

-- a declared name
pub record Named : Type 0 where
  pub name : List ℕ
  pub sort : Sort

abbrev pub named : List ℕ → Sort → Named
named name sort = record { name = name; sort = sort }

-- What is known at a place: the tokens of the source and the name of the entry; the structs, buffers and functions
-- that are declared so far, by their numbers, and how many groupshared variables and constants; the global names; the
-- names of the blocks around, the innermost first; the number of the function's next variable; whether a loop stands
-- around; the number of the function whose body stands around; and what that function gives. Only elaboration reads how
-- many variables, groupshared variables and constants there are.
pub record Scope : Type 0 where
  pub tokens : List Lexeme
  pub entry : List ℕ
  pub structs : List StructInfo
  pub buffers : List BufferInfo
  pub functions : List FunctionInfo
  pub shared : ℕ
  pub constants : ℕ
  pub globals : List Named
  pub blocks : List (List Named)
  pub variables : ℕ
  pub in_loop : Bool
  pub inside : Option ℕ
  pub result : Option Ty

-- before the first declaration
abbrev pub first_scope : List Lexeme → List ℕ → Scope
first_scope tokens entry = record {
  tokens = tokens;
  entry = entry;
  structs = [];
  buffers = [];
  functions = [];
  shared = 0;
  constants = 0;
  globals = [];
  blocks = [];
  variables = 0;
  in_loop = false;
  inside = None;
  result = None;
}

-- the bytes of a token
abbrev pub spelled : Scope → ℕ → List ℕ
spelled s index = text_at s.tokens index

-- ---- names

-- the declaration of a name among some; of several that have the name the first counts
abbrev pub declared_in : List Named → List ℕ → Option Sort
declared_in names name = option_map (λ n. n.sort) (find (λ n. bytes_eq n.name name) names)

-- the name's declaration in the innermost of the blocks that has one, or else the other one
abbrev pub declared_among : List (List Named) → List ℕ → Option Sort → Option Sort
declared_among [] name other = other
declared_among (block ∷ blocks) name other = option_or (declared_in block name) (declared_among blocks name other)

-- what a name stands for
abbrev pub sort_of : Scope → List ℕ → Option Sort
sort_of s name = declared_among s.blocks name (declared_in s.globals name)

-- what the token of an index, a name, stands for
abbrev pub sort_at : Scope → ℕ → Option Sort
sort_at s index = sort_of s (spelled s index)

-- the names of the innermost block
abbrev pub innermost : Scope → List Named
innermost s = first_block s.blocks
  where
    first_block : List (List Named) → List Named
    first_block [] = []
    first_block (block ∷ blocks) = block

-- ---- scopes

-- in a block of its own
abbrev pub opened : Scope → Scope
opened s = record s { blocks = [] ∷ s.blocks }

-- in the body of a loop, which is a block of its own too
abbrev pub looped : Scope → Scope
looped s = record s { blocks = [] ∷ s.blocks; in_loop = true }

-- behind so many further variables of the function
abbrev pub behind : ℕ → Scope → Scope
behind count s = record s { variables = s.variables + count }

-- behind the declaration of a local name
abbrev pub with_local : Named → Scope → Scope
with_local n s = record s { blocks = declared_here s.blocks }
  where
    declared_here : List (List Named) → List (List Named)
    declared_here [] = (n ∷ []) ∷ []
    declared_here (block ∷ blocks) = (block ++ n ∷ []) ∷ blocks

-- behind the declaration of a global name
abbrev pub with_global : Named → Scope → Scope
with_global n s = record s { globals = s.globals ++ n ∷ [] }

-- ---- words

-- the words of a type, where all that it is made of has types
abbrev pub type_words : List StructInfo → Ty → Option ℕ
type_words structs void_type = Some 0
type_words structs (scalar_type kind) = Some 1
type_words structs (vector_type kind size) = Some size
type_words structs (array_type element length) = option_map (λ words. length * words) (type_words structs element)
type_words structs (struct_type number) = option_and_then (λ d. d.words) (slice_get structs number)

abbrev pub words_if : List StructInfo → Option Ty → Option ℕ
words_if structs ty = option_and_then (type_words structs) ty

-- the words of members together, where all of them have types
abbrev pub members_words : List StructInfo → List MemberInfo → Option ℕ
members_words structs [] = Some 0
members_words structs (m ∷ members) =
    option_and_then (λ words. option_map (λ more. words + more) (members_words structs members)) (words_if structs m.ty)

-- ---- functions

-- whether a function of this name is declared so far
abbrev pub is_function : Scope → List ℕ → Bool
is_function s name = list_any (λ f. bytes_eq f.name name) s.functions
