-- The parts of a program that a rule can judge, each with what is known where it stands.
use Rattle.std.specs.Prelude.{ℕ, Bool, List, Option}
use Rattle.hl_parser.specs.Trees.{Tree, Trees, Maybe}
use Rattle.hl_meaning.specs.Types.{Ty}
use Rattle.hl_rules.specs.Scopes.{MemberInfo, Scope}

-- a part of a program: a role that a tree has
pub data Part : Type 0 where
  -- the name of a variable in an expression
  a_variable : (at : ℕ) → Part
  -- the call of a function or an intrinsic function
  a_call : (at : ℕ) (arguments : Tree) → Part
  -- an expression whose value is used
  a_use : (value : Tree) → Part
  -- an operand of an operator
  an_operand : (operand : Tree) → Part
  -- a value that is converted to a type, with its first token
  a_conversion : (from to : Option Ty) (at : ℕ) → Part
  -- what is written
  a_written_side : (side : Tree) → Part
  -- `.` and a name behind an expression
  a_dot : (operand : Tree) (name : ℕ) → Part
  -- and with arguments
  a_method_call : (operand : Tree) (name : ℕ) (arguments : Tree) → Part
  -- an index behind an expression
  an_index : (operand index : Tree) → Part
  a_constructor : (at : ℕ) (basic arguments : Tree) → Part
  a_cast : (at : ℕ) (basic operand : Tree) → Part
  -- the condition of an `if` or a loop
  a_condition : (condition : Tree) → Part
  -- `break` or `continue`
  a_loop_jump : (at : ℕ) → Part
  a_return : (at : ℕ) (value : Maybe) → Part
  -- an attribute of a statement
  a_statement_attribute : (name at : ℕ) (arguments : Trees) → Part
  -- an attribute of a function, and whether a `numthreads` stands before it
  a_function_attribute : (again : Bool) (name at : ℕ) (arguments : Trees) → Part
  -- the declared name of a local variable or a parameter
  a_local_name : (name : ℕ) → Part
  -- the declared name of a struct, a buffer, a groupshared variable or a constant
  a_global_name : (name : ℕ) → Part
  -- the name of a type
  a_type_name : (at : ℕ) → Part
  -- the length of an array, and how many lengths stand before it
  a_length : (before : ℕ) (length : Tree) → Part
  -- a name that is declared with a type
  a_declared : (name : ℕ) (ty : Option Ty) → Part
  -- the name of a member, and the members before it
  a_member_name : (before : List MemberInfo) (name : ℕ) → Part
  -- a struct
  a_whole_struct : (name : ℕ) (words : Option ℕ) → Part
  -- the type of a buffer's elements
  an_element : (type : Tree) → Part
  -- the register and the space of a buffer
  a_register : (writable : Bool) (name : ℕ) → Part
  a_space : (name : ℕ) → Part
  -- the initialiser of a constant
  a_constant_init : (init : Tree) → Part
  -- an initialiser in braces, of a type
  a_brace_init : (init : Tree) (ty : Option Ty) → Part
  -- a function
  a_whole_function : (attributes : Trees) (result : Tree) (name : ℕ) (params : Trees) (block : Tree) → Part
  -- a parameter of the entry, and those before it
  an_entry_param : (before : Trees) (param : Tree) → Part
  -- the end of the program
  an_end : Part

-- a place of a program: a part, and what is known there
pub record Site : Type 0 where
  pub scope : Scope
  pub part : Part

abbrev pub site : Scope → Part → Site
site scope part = record { scope = scope; part = part }
