-- The places of a program, and what is known at each of them. The places inside a part stand before those that the part
-- itself makes.
use Rattle.std.specs.Prelude.{ℕ, suc, ◌&&◌, ◌||◌, not, Bool, false, if◌then◌else◌, List, [], ◌∷◌, ◌++◌, is_some, codes, Option, None, Some, bytes_eq}
use Rattle.hl_lexer.specs.declared.terminal.Terminal.{Terminal}
use Rattle.hl_lexer.specs.declared.terminal.Terminal.TheVariants as terminals
use Rattle.hl_lexer.specs.Tokens.{Lexeme}
use Rattle.hl_parser.specs.Trees.{Tree, Trees, Maybe, absent, present, no_trees, more_trees, a_binary, a_block, a_buffer, a_choice, a_constant, a_declarator, a_do, a_for, a_function, a_jump, a_kind, a_local, a_member, a_param, a_postfix, a_primary, a_program, a_result, a_shared, a_start, a_stmt, a_struct, a_type, a_unary, a_while, an_args, an_attribute, an_expr, an_if, an_init, an_item, at_of}
use Rattle.hl_meaning.specs.Types.{Ty}
use Rattle.hl_rules.specs.Constants.{declarator_type, named_type}
use Rattle.hl_rules.specs.Declarations.{after_first, after_item, after_param, after_start, after_statement, at_params, buffer_info, in_body, locals_in, member_info, struct_info, with_shared}
use Rattle.hl_rules.specs.Operands.{of_two, operator_type}
use Rattle.hl_rules.specs.Parts.{Site, a_brace_init, a_call, a_cast, a_condition, a_constant_init, a_constructor, a_conversion, a_declared, a_dot, a_function_attribute, a_global_name, a_length, a_local_name, a_loop_jump, a_member_name, a_method_call, a_register, a_return, a_space, a_statement_attribute, a_type_name, a_use, a_variable, a_whole_function, a_whole_struct, a_written_side, an_element, an_end, an_entry_param, an_index, an_operand, site}
use Rattle.hl_rules.specs.Scopes.{MemberInfo, Scope, behind, first_scope, is_function, looped, opened, spelled}
use Rattle.hl_rules.specs.Source.{terminal_at}
use Rattle.hl_rules.specs.Values.{buffer_at, type_in}

-- ---- expressions

-- a value that is used, with the places inside it: every expression but a statement, the first part and the step of a
-- `for`, and what these hold in parentheses
abbrev pub used : Scope → Tree → List Site → List Site
used s e inside = inside ++ site s (a_use e) ∷ []

-- an operand of an operator, with the places inside it
abbrev pub operated : Scope → Tree → List Site → List Site
operated s e inside = inside ++ (site s (a_use e) ∷ site s (an_operand e) ∷ [])

-- what stands before `.` with arguments or an index, with the places inside it: the name of a buffer stands there by itself
abbrev pub buffer_or_used : Scope → Tree → List Site → List Site
buffer_or_used s e inside = if is_some (buffer_at s e) then [] else used s e inside

-- a token alone
abbrev pub word_sites : Scope → Terminal → ℕ → List Site
word_sites s terminals.Name index = site s (a_variable index) ∷ []
word_sites s _ index = []

-- the production of the operator of a compound mark
abbrev pub compound_production : Terminal → ℕ
compound_production terminals.PlusEquals = 38
compound_production terminals.MinusEquals = 38
compound_production terminals.StarEquals = 39
compound_production terminals.SlashEquals = 39
compound_production terminals.PercentEquals = 39
compound_production terminals.AmpersandEquals = 34
compound_production terminals.BarEquals = 32
compound_production terminals.CaretEquals = 33
compound_production terminals.LessLessEquals = 37
compound_production terminals.GreaterGreaterEquals = 37
compound_production _ = 0

-- An assignment writes its left side, and converts the right side, or what the operator gives, to the left side's type.
-- The sides of a compound one are operands.
abbrev pub assignment_sites : Scope → Terminal → (left right : Tree) → (left_inside right_inside : List Site) → List Site
assignment_sites s terminals.Equals left right left_inside right_inside =
    used s left left_inside
    ++ (used s right right_inside
    ++ (site s (a_written_side left) ∷ site s (a_conversion (type_in s right) (type_in s left) (at_of right)) ∷ []))
assignment_sites s mark left right left_inside right_inside =
    operated s left left_inside
    ++ (operated s right right_inside
    ++ (site s (a_written_side left)
    ∷ site s (a_conversion (of_two (operator_type (compound_production mark)) (type_in s left) (type_in s right)) (type_in s left) (at_of right))
    ∷ []))

-- `++` and `--` write their operand
abbrev pub prefix_sites : Scope → Terminal → (operand : Tree) → List Site → List Site
prefix_sites s terminals.PlusPlus operand inside = operated s operand inside ++ site s (a_written_side operand) ∷ []
prefix_sites s terminals.MinusMinus operand inside = operated s operand inside ++ site s (a_written_side operand) ∷ []
prefix_sites s _ operand inside = operated s operand inside

abbrev mutual
  -- the places in an expression
  pub expression_sites : Scope → Tree → List Site
  expression_sites s (a_primary at absent absent) = word_sites s (terminal_at s.tokens at) at
  expression_sites s (a_primary at absent (present arguments)) = argument_sites s arguments ++ site s (a_call at arguments) ∷ []
  expression_sites s (a_primary at (present inner) absent) = expression_sites s inner
  expression_sites s (a_primary at (present basic) (present arguments)) =
      argument_sites s arguments ++ site s (a_constructor at basic arguments) ∷ []
  expression_sites s (a_postfix at operand mark (Some name) absent) =
      used s operand (expression_sites s operand) ++ site s (a_dot operand name) ∷ []
  expression_sites s (a_postfix at operand mark (Some name) (present arguments)) =
      buffer_or_used s operand (expression_sites s operand)
      ++ (argument_sites s arguments ++ site s (a_method_call operand name arguments) ∷ [])
  expression_sites s (a_postfix at operand mark None (present index)) =
      buffer_or_used s operand (expression_sites s operand)
      ++ (used s index (expression_sites s index) ++ site s (an_index operand index) ∷ [])
  expression_sites s (a_postfix at operand mark None absent) =
      operated s operand (expression_sites s operand) ++ site s (a_written_side operand) ∷ []
  expression_sites s (a_unary at (present basic) operand) =
      used s operand (expression_sites s operand) ++ site s (a_cast at basic operand) ∷ []
  expression_sites s (a_unary at absent operand) =
      prefix_sites s (terminal_at s.tokens at) operand (expression_sites s operand)
  expression_sites s (a_binary production at left mark right) =
      operated s left (expression_sites s left) ++ operated s right (expression_sites s right)
  expression_sites s (a_choice at condition consequent alternative) =
      operated s condition (expression_sites s condition)
      ++ (operated s consequent (expression_sites s consequent) ++ operated s alternative (expression_sites s alternative))
  expression_sites s (an_expr at left mark right) =
      assignment_sites s (terminal_at s.tokens mark) left right (expression_sites s left) (expression_sites s right)
  expression_sites s _ = []

  -- the places in arguments, which are all used
  pub argument_sites : Scope → Tree → List Site
  argument_sites s (an_args at arguments) = arguments_sites s arguments
  argument_sites s _ = []

  pub arguments_sites : Scope → Trees → List Site
  arguments_sites s no_trees = []
  arguments_sites s (more_trees first rest) = used s first (expression_sites s first) ++ arguments_sites s rest

-- an expression whose value is used
abbrev pub value_sites : Scope → Tree → List Site
value_sites s e = used s e (expression_sites s e)

abbrev pub condition_sites : Scope → Tree → List Site
condition_sites s e = value_sites s e ++ site s (a_condition e) ∷ []

abbrev pub condition_if : Scope → Maybe → List Site
condition_if s absent = []
condition_if s (present condition) = condition_sites s condition

abbrev pub expression_if : Scope → Maybe → List Site
expression_if s absent = []
expression_if s (present e) = expression_sites s e

-- ---- types and initialisers

abbrev pub type_sites : Scope → Tree → List Site
type_sites s (a_type at absent) = site s (a_type_name at) ∷ []
type_sites s _ = []

abbrev pub lengths_sites : Scope → (before : ℕ) → Trees → List Site
lengths_sites s before no_trees = []
lengths_sites s before (more_trees first rest) =
    value_sites s first ++ (site s (a_length before first) ∷ lengths_sites s (suc before) rest)

-- a declarator of a type: its lengths, and the type of its name
abbrev pub declarator_sites : Scope → Option Ty → Tree → List Site
declarator_sites s ty (a_declarator at lengths) =
    lengths_sites s 0 lengths ++ site s (a_declared at (declarator_type s ty (a_declarator at lengths))) ∷ []
declarator_sites s ty _ = []

-- the places in the expressions of an initialiser in braces
abbrev mutual
  pub leaf_sites : Scope → Tree → List Site
  leaf_sites s (an_init at (present value) parts) = value_sites s value
  leaf_sites s (an_init at absent parts) = leaves_sites s parts
  leaf_sites s _ = []

  pub leaves_sites : Scope → Trees → List Site
  leaves_sites s no_trees = []
  leaves_sites s (more_trees first rest) = leaf_sites s first ++ leaves_sites s rest

-- an initialiser of a type
abbrev pub init_sites : Scope → Option Ty → Tree → List Site
init_sites s ty (an_init at (present value) parts) =
    value_sites s value ++ site s (a_conversion (type_in s value) ty (at_of value)) ∷ []
init_sites s ty (an_init at absent parts) = leaves_sites s parts ++ site s (a_brace_init (an_init at absent parts) ty) ∷ []
init_sites s ty _ = []

abbrev pub init_if : Scope → Option Ty → Maybe → List Site
init_if s ty absent = []
init_if s ty (present init) = init_sites s ty init

-- ---- statements

abbrev pub start_sites : Scope → Option Ty → Tree → List Site
start_sites s ty (a_start at declarator init) =
    declarator_sites s ty declarator ++ (site s (a_local_name at) ∷ init_if s (declarator_type s ty declarator) init)
start_sites s ty _ = []

abbrev pub starts_sites : Scope → Option Ty → (is_const : Bool) → Trees → List Site
starts_sites s ty is_const no_trees = []
starts_sites s ty is_const (more_trees first rest) =
    start_sites s ty first ++ starts_sites (after_start ty is_const s first) ty is_const rest

-- the first part of a `for`: a local or an expression
abbrev pub first_sites : Scope → Tree → List Site
first_sites s (a_local at constant type starts) = type_sites s type ++ starts_sites s (named_type s type) (is_some constant) starts
first_sites s e = expression_sites s e

abbrev pub first_if : Scope → Maybe → List Site
first_if s absent = []
first_if s (present first) = first_sites s first

abbrev pub attributes_sites : Scope → Trees → List Site
attributes_sites s no_trees = []
attributes_sites s (more_trees (an_attribute at name arguments) rest) =
    arguments_sites s arguments ++ (site s (a_statement_attribute name at arguments) ∷ attributes_sites s rest)
attributes_sites s (more_trees _ rest) = attributes_sites s rest

-- `return`, with its value, or `break` or `continue`
abbrev pub jump_sites : Scope → Terminal → ℕ → List Site
jump_sites s terminals.Return at = site s (a_return at absent) ∷ []
jump_sites s _ at = site s (a_loop_jump at) ∷ []

abbrev mutual
  -- The places in a statement. A statement under `if`, `else` or a loop is a block of its own, and so is a `for`.
  pub statement_sites : Scope → Tree → List Site
  statement_sites s (a_stmt at absent) = []
  statement_sites s (a_stmt at (present part)) = statement_sites s part
  statement_sites s (a_block at statements) = statements_sites (opened s) statements
  statement_sites s (a_local at constant type starts) =
      type_sites s type ++ starts_sites s (named_type s type) (is_some constant) starts
  statement_sites s (an_if at attributes condition consequent alternative) =
      attributes_sites s attributes
      ++ (condition_sites s condition
      ++ (statement_sites (opened s) consequent ++ statement_if (opened (behind (locals_in consequent) s)) alternative))
  statement_sites s (a_for at attributes first condition step body) =
      attributes_sites s attributes
      ++ (first_if (opened s) first
      ++ (condition_if (after_first s first) condition
      ++ (expression_if (after_first s first) step ++ statement_sites (looped (after_first s first)) body)))
  statement_sites s (a_while at attributes condition body) =
      attributes_sites s attributes ++ (condition_sites s condition ++ statement_sites (looped s) body)
  statement_sites s (a_do at attributes body condition) =
      attributes_sites s attributes ++ (condition_sites s condition ++ statement_sites (looped s) body)
  statement_sites s (a_jump at absent) = jump_sites s (terminal_at s.tokens at) at
  statement_sites s (a_jump at (present value)) =
      value_sites s value
      ++ (site s (a_return at (present value)) ∷ site s (a_conversion (type_in s value) s.result (at_of value)) ∷ [])
  statement_sites s e = expression_sites s e

  pub statements_sites : Scope → Trees → List Site
  statements_sites s no_trees = []
  statements_sites s (more_trees first rest) = statement_sites s first ++ statements_sites (after_statement s first) rest

  pub statement_if : Scope → Maybe → List Site
  statement_if s absent = []
  statement_if s (present statement) = statement_sites s statement

-- ---- functions

abbrev pub is_numthreads : Scope → ℕ → Bool
is_numthreads s name = bytes_eq (spelled s name) (codes "numthreads")

abbrev pub function_attributes_sites : Scope → (again : Bool) → Trees → List Site
function_attributes_sites s again no_trees = []
function_attributes_sites s again (more_trees (an_attribute at name arguments) rest) =
    arguments_sites s arguments
    ++ (site s (a_function_attribute again name at arguments)
    ∷ function_attributes_sites s (again || is_numthreads s name) rest)
function_attributes_sites s again (more_trees _ rest) = function_attributes_sites s again rest

-- whether a function of this name is the entry: the first one that has its name
abbrev pub is_entry : Scope → (name : ℕ) → Bool
is_entry s name = bytes_eq (spelled s name) s.entry && not (is_function s (spelled s name))

abbrev pub entry_sites : Scope → (entry : Bool) → (before : Trees) → (param : Tree) → List Site
entry_sites s entry before param = if entry then site s (an_entry_param before param) ∷ [] else []

abbrev pub param_sites : Scope → Tree → List Site
param_sites s (a_param at constant direction type declarator semantic) =
    type_sites s type ++ (declarator_sites s (named_type s type) declarator ++ site s (a_local_name (at_of declarator)) ∷ [])
param_sites s _ = []

-- one more tree behind trees
abbrev pub and_tree : Trees → Tree → Trees
and_tree no_trees tree = more_trees tree no_trees
and_tree (more_trees first rest) tree = more_trees first (and_tree rest tree)

abbrev pub params_sites : Scope → (entry : Bool) → (before : Trees) → Trees → List Site
params_sites s entry before no_trees = []
params_sites s entry before (more_trees first rest) =
    param_sites s first
    ++ (entry_sites s entry before first ++ params_sites (after_param s first) entry (and_tree before first) rest)

-- the statements of a function's block are one block with the parameters
abbrev pub body_sites : Scope → Tree → List Site
body_sites s (a_block at statements) = statements_sites s statements
body_sites s _ = []

abbrev pub result_sites : Scope → Tree → List Site
result_sites s (a_result at (present type)) = type_sites s type
result_sites s _ = []

-- ---- items

abbrev pub declarators_sites : Scope → Option Ty → (before : List MemberInfo) → Trees → List Site
declarators_sites s ty before no_trees = []
declarators_sites s ty before (more_trees first rest) =
    declarator_sites s ty first
    ++ (site s (a_member_name before (at_of first))
    ∷ declarators_sites s ty (before ++ record { name = spelled s (at_of first); ty = declarator_type s ty first } ∷ []) rest)

abbrev pub members_sites : Scope → (before : List MemberInfo) → Trees → List Site
members_sites s before no_trees = []
members_sites s before (more_trees (a_member at type declarators) rest) =
    type_sites s type
    ++ (declarators_sites s (named_type s type) before declarators
    ++ members_sites s (before ++ member_info s (a_member at type declarators)) rest)
members_sites s before (more_trees _ rest) = members_sites s before rest

abbrev pub element_sites : Scope → Tree → List Site
element_sites s (a_kind at (present type)) = type_sites s type ++ site s (an_element type) ∷ []
element_sites s _ = []

abbrev pub register_sites : Scope → (writable : Bool) → Option ℕ → Option ℕ → List Site
register_sites s writable register space = register_site register ++ space_site space
  where
    register_site : Option ℕ → List Site
    register_site None = []
    register_site (Some name) = site s (a_register writable name) ∷ []

    space_site : Option ℕ → List Site
    space_site None = []
    space_site (Some name) = site s (a_space name) ∷ []

abbrev pub shared_sites : Option Ty → Scope → Trees → List Site
shared_sites ty s no_trees = []
shared_sites ty s (more_trees first rest) =
    declarator_sites s ty first ++ (site s (a_global_name (at_of first)) ∷ shared_sites ty (with_shared ty s first) rest)

-- the initialiser of a constant of a type
abbrev pub constant_sites : Scope → Option Ty → (init : Tree) → List Site
constant_sites s ty init = init_sites s ty init ++ site s (a_constant_init init) ∷ []

abbrev pub item_sites : Scope → Tree → List Site
item_sites s (an_item at item) = item_sites s item
item_sites s (a_struct at name members) =
    members_sites s [] members
    ++ (site s (a_global_name name) ∷ site s (a_whole_struct name (struct_info s name members).words) ∷ [])
item_sites s (a_buffer at kind name register space) =
    element_sites s kind ++ (site s (a_global_name name) ∷ register_sites s (buffer_info s kind).writable register space)
item_sites s (a_shared at type declarators) = type_sites s type ++ shared_sites (named_type s type) s declarators
item_sites s (a_constant at type declarator init) =
    type_sites s type
    ++ (declarator_sites s (named_type s type) declarator
    ++ (site s (a_global_name (at_of declarator))
    ∷ constant_sites s (declarator_type s (named_type s type) declarator) init))
item_sites s (a_function at attributes result name params block) =
    function_attributes_sites s false attributes
    ++ (result_sites s result
    ++ (params_sites (at_params s result) (is_entry s name) no_trees params
    ++ (site s (a_whole_function attributes result name params block) ∷ body_sites (in_body s result name params) block)))
item_sites s _ = []

-- ---- programs

-- the places of items one behind the other, and at their end
abbrev pub items_sites : Scope → Trees → List Site
items_sites s no_trees = site s an_end ∷ []
items_sites s (more_trees first rest) = item_sites s first ++ items_sites (after_item s first) rest

-- the places of a program
abbrev pub program_sites : List Lexeme → (entry : List ℕ) → Tree → List Site
program_sites tokens entry (a_program at items) = items_sites (first_scope tokens entry) items
program_sites tokens entry _ = []
