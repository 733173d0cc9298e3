-- What declarations make known (HLSL, "Declarations").
--
-- A variable's name is known behind its declaration: that of a groupshared variable ends with its declarator, and that of a
-- constant or of a local variable with its initialiser. A function's name is known in its own body, and a struct's behind the
-- struct.
use Rattle.std.specs.Prelude.{ℕ, suc, ◌+◌, not, Bool, true, false, if◌then◌else◌, List, [], ◌∷◌, ◌++◌, length, is_some, Option, None, Some}
use Rattle.hl_lexer.specs.declared.terminal.Terminal.{Terminal}
use Rattle.hl_lexer.specs.declared.terminal.Terminal.TheVariants as terminals
use Rattle.hl_parser.specs.Trees.{Tree, Trees, Maybe, absent, present, no_trees, more_trees, a_block, a_buffer, a_constant, a_do, a_for, a_function, a_kind, a_local, a_member, a_param, a_shared, a_start, a_stmt, a_struct, a_while, an_if, an_init, an_item, at_of}
use Rattle.hl_meaning.specs.declared.ty.Kind.TheVariants.{Int as IntKind, Uint as UintKind}
use Rattle.hl_meaning.specs.declared.program.Copying.{Copying}
use Rattle.hl_meaning.specs.declared.program.Copying.TheVariants.{CopyIn, CopyOut, CopyBoth}
use Rattle.hl_meaning.specs.Types.{Ty, scalar_type}
use Rattle.hl_meaning.specs.Trees.{Root, constant_root, shared_root, variable_root}
use Rattle.hl_rules.specs.Constants.{constant_number, declarator_type, named_type, result_type}
use Rattle.hl_rules.specs.Scopes.{BufferInfo, FunctionInfo, MemberInfo, ParamInfo, Scope, Sort, StructInfo, a_buffer_name, a_function_name, a_struct_name, a_variable_name, behind, members_words, named, opened, spelled, with_global, with_local}
use Rattle.hl_rules.specs.Source.{terminal_at}

abbrev pub is_there : Maybe → Bool
is_there absent = false
is_there (present tree) = true

abbrev pub variable : Root → Option Ty → (is_const : Bool) → (number : Option ℕ) → Sort
variable root ty is_const number = a_variable_name (record { root = root; ty = ty; is_const = is_const; number = number })

-- ---- local variables

abbrev pub start_count : Tree → ℕ
start_count (a_start at declarator init) = 1
start_count _ = 0

abbrev pub starts_count : Trees → ℕ
starts_count no_trees = 0
starts_count (more_trees first rest) = start_count first + starts_count rest

-- how many variables the first part of a `for` declares
abbrev pub locals_first : Maybe → ℕ
locals_first (present (a_local at constant type starts)) = starts_count starts
locals_first _ = 0

-- how many variables a statement declares
abbrev mutual
  pub locals_in : Tree → ℕ
  locals_in (a_stmt at part) = locals_if part
  locals_in (a_block at statements) = locals_among statements
  locals_in (a_local at constant type starts) = starts_count starts
  locals_in (an_if at attributes condition consequent alternative) = locals_in consequent + locals_if alternative
  locals_in (a_for at attributes first condition step body) = locals_first first + locals_in body
  locals_in (a_while at attributes condition body) = locals_in body
  locals_in (a_do at attributes body condition) = locals_in body
  locals_in _ = 0

  pub locals_among : Trees → ℕ
  locals_among no_trees = 0
  locals_among (more_trees first rest) = locals_in first + locals_among rest

  pub locals_if : Maybe → ℕ
  locals_if absent = 0
  locals_if (present tree) = locals_in tree

-- behind the declaration of the next variable of the function
abbrev pub with_variable : (name : ℕ) → Option Ty → (is_const : Bool) → Scope → Scope
with_variable name ty is_const s =
    behind 1 (with_local (named (spelled s name) (variable (variable_root s.variables) ty is_const None)) s)

-- behind a declarator with its initialiser, of variables of a type
abbrev pub after_start : Option Ty → (is_const : Bool) → Scope → Tree → Scope
after_start ty is_const s (a_start at declarator init) = with_variable at (declarator_type s ty declarator) is_const s
after_start ty is_const s _ = s

abbrev pub after_starts : Option Ty → (is_const : Bool) → Scope → Trees → Scope
after_starts ty is_const s no_trees = s
after_starts ty is_const s (more_trees first rest) = after_starts ty is_const (after_start ty is_const s first) rest

-- behind a statement; one that isn't a `local` declares no name for what comes behind it
abbrev pub after_statement : Scope → Tree → Scope
after_statement s (a_stmt at absent) = s
after_statement s (a_stmt at (present part)) = after_statement s part
after_statement s (a_local at constant type starts) = after_starts (named_type s type) (is_some constant) s starts
after_statement s statement = behind (locals_in statement) s

-- in a `for`, which is a block of its own, behind its first part
abbrev pub after_first : Scope → Maybe → Scope
after_first s (present (a_local at constant type starts)) = after_starts (named_type (opened s) type) (is_some constant) (opened s) starts
after_first s _ = opened s

-- ---- parameters

abbrev pub direction_copying : Terminal → Copying
direction_copying terminals.Out = CopyOut
direction_copying terminals.Inout = CopyBoth
direction_copying _ = CopyIn

abbrev pub copying_of : Scope → Maybe → Copying
copying_of s absent = CopyIn
copying_of s (present direction) = direction_copying (terminal_at s.tokens (at_of direction))

-- the type of a parameter
abbrev pub param_type : Scope → Tree → Option Ty
param_type s (a_param at constant direction type declarator semantic) = declarator_type s (named_type s type) declarator
param_type s _ = None

abbrev pub after_param : Scope → Tree → Scope
after_param s (a_param at constant direction type declarator semantic) =
    with_variable (at_of declarator) (declarator_type s (named_type s type) declarator) (is_some constant) s
after_param s _ = s

abbrev pub after_params : Scope → Trees → Scope
after_params s no_trees = s
after_params s (more_trees first rest) = after_params (after_param s first) rest

abbrev pub param_copying : Scope → Tree → Copying
param_copying s (a_param at constant direction type declarator semantic) = copying_of s direction
param_copying s _ = CopyIn

-- what is known of parameters
abbrev pub params_info : Scope → Trees → List ParamInfo
params_info s no_trees = []
params_info s (more_trees first rest) =
    record { ty = param_type s first; copying = param_copying s first } ∷ params_info (after_param s first) rest

-- ---- functions

-- before the parameters of a function, which are one block with the statements of its own block
abbrev pub at_params : Scope → (result : Tree) → Scope
at_params s result = record s { blocks = [] ∷ []; variables = 0; in_loop = false; result = result_type s result }

abbrev pub function_info : Scope → (result : Tree) → (name : ℕ) → (params : Trees) → FunctionInfo
function_info s result name params =
    record { name = spelled s name; params = params_info (at_params s result) params; result = result_type s result }

-- behind the declaration of a function
abbrev pub with_function : Scope → (result : Tree) → (name : ℕ) → (params : Trees) → Scope
with_function s result name params =
    with_global (named (spelled s name) a_function_name) (record s { functions = s.functions ++ function_info s result name params ∷ [] })

-- in the body of a function
abbrev pub in_body : Scope → (result : Tree) → (name : ℕ) → (params : Trees) → Scope
in_body s result name params =
    record (after_params (at_params (with_function s result name params) result) params) { inside = Some (length s.functions) }

-- ---- structs and buffers

-- what is known of the members that declarators of one type declare
abbrev pub declarators_info : Scope → Option Ty → Trees → List MemberInfo
declarators_info s ty no_trees = []
declarators_info s ty (more_trees first rest) =
    record { name = spelled s (at_of first); ty = declarator_type s ty first } ∷ declarators_info s ty rest

abbrev pub member_info : Scope → Tree → List MemberInfo
member_info s (a_member at type declarators) = declarators_info s (named_type s type) declarators
member_info s _ = []

abbrev pub members_info : Scope → Trees → List MemberInfo
members_info s no_trees = []
members_info s (more_trees first rest) = member_info s first ++ members_info s rest

abbrev pub struct_info : Scope → (name : ℕ) → (members : Trees) → StructInfo
struct_info s name members =
    record { name = spelled s name; members = members_info s members; words = members_words s.structs (members_info s members) }

abbrev pub is_writable_kind : Terminal → Bool
is_writable_kind terminals.RwByteAddressBuffer = true
is_writable_kind terminals.RwStructuredBuffer = true
is_writable_kind _ = false

abbrev pub element_of : Scope → Maybe → Option Ty
element_of s absent = None
element_of s (present type) = named_type s type

abbrev pub buffer_info : Scope → (kind : Tree) → BufferInfo
buffer_info s (a_kind at element) =
    record { writable = is_writable_kind (terminal_at s.tokens at); raw = not (is_there element); element = element_of s element }
buffer_info s _ = record { writable = false; raw = true; element = None }

-- ---- groupshared variables and constants

abbrev pub with_shared : Option Ty → Scope → Tree → Scope
with_shared ty s declarator =
    record (with_global (named (spelled s (at_of declarator)) (variable (shared_root s.shared) (declarator_type s ty declarator) false None)) s)
    { shared = suc s.shared }

abbrev pub after_shared : Option Ty → Scope → Trees → Scope
after_shared ty s no_trees = s
after_shared ty s (more_trees first rest) = after_shared ty (with_shared ty s first) rest

abbrev pub is_number_type : Option Ty → Bool
is_number_type (Some (scalar_type IntKind)) = true
is_number_type (Some (scalar_type UintKind)) = true
is_number_type _ = false

-- the constant number of an initialiser; one in braces is none
abbrev pub init_number : Scope → Tree → Option ℕ
init_number s (an_init at (present value) parts) = constant_number s value
init_number s _ = None

-- the constant number that a constant's name is, by what is known in its initialiser
abbrev pub constant_value : Scope → Option Ty → (init : Tree) → Option ℕ
constant_value s ty init = if is_number_type ty then init_number s init else None

-- behind the initialiser of a constant
abbrev pub with_constant : Scope → Option Ty → (declarator init : Tree) → Scope
with_constant s ty declarator init =
    record (with_global (named (spelled s (at_of declarator)) (variable (constant_root s.constants) ty true (constant_value s ty init))) s)
    { constants = suc s.constants }

-- ---- items

-- behind an item of the program
abbrev pub after_item : Scope → Tree → Scope
after_item s (an_item at item) = after_item s item
after_item s (a_struct at name members) =
    with_global (named (spelled s name) (a_struct_name (length s.structs))) (record s { structs = s.structs ++ struct_info s name members ∷ [] })
after_item s (a_buffer at kind name register space) =
    with_global (named (spelled s name) (a_buffer_name (length s.buffers))) (record s { buffers = s.buffers ++ buffer_info s kind ∷ [] })
after_item s (a_shared at type declarators) = after_shared (named_type s type) s declarators
after_item s (a_constant at type declarator init) =
    with_constant s (declarator_type s (named_type s type) declarator) declarator init
after_item s (a_function at attributes result name params block) = with_function s result name params
after_item s _ = s
