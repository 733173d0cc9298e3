-- Elaboration: the typed program of a tree.
use Rattle.std.specs.Prelude.{unwrap_or, ◌≡◌, ℕ, suc, ◌-◌, ◌%◌, ◌==◌, Bool, if◌then◌else◌, List, [], ◌∷◌, ◌++◌, map, position, is_some, Option, None, Some, option_map, option_and_then, bytes_eq}
use Rattle.hl_lexer.specs.Tokens.{Lexeme}
use Rattle.hl_parser.specs.Trees.{Tree, Trees, Maybe, absent, present, no_trees, more_trees, a_block, a_buffer, a_constant, a_do, a_for, a_function, a_local, a_param, a_primary, a_program, a_shared, a_start, a_stmt, a_unary, a_while, an_attribute, an_if, an_init, an_item, at_of}
use Rattle.hl_lexer.specs.declared.terminal.Terminal.{Terminal}
use Rattle.hl_lexer.specs.declared.terminal.Terminal.TheVariants as terminals
use Rattle.hl_meaning.specs.declared.ty.Kind.{Kind}
use Rattle.hl_meaning.specs.declared.ty.Kind.TheVariants.{Bool as BoolKind}
use Rattle.hl_meaning.specs.declared.program.Parameter.{Parameter}
use Rattle.hl_meaning.specs.Types.{Ty, void_type}
use Rattle.hl_meaning.specs.Trees.{Stmts}
use Rattle.hl_meaning.specs.Programs.{Constant, FunctionDef, Program, Resource, Variable}
use Rattle.hl_meaning.specs.Layout.{kinds_of}
use Rattle.hl_rules.specs.Constants.{constant_number, declarator_type, named_type, result_type}
use Rattle.hl_rules.specs.DeclarationRules.{leaves_of, param_semantic, register_number, space_number}
use Rattle.hl_rules.specs.Declarations.{after_item, after_param, after_start, after_statement, at_params, buffer_info, in_body, locals_in, param_copying, with_shared, after_first}
use Rattle.hl_rules.specs.Expressions.{with_two, with_three}
use Rattle.hl_rules.specs.Rules.{BreaksNothing}
use Rattle.hl_rules.specs.Scopes.{BufferInfo, Scope, behind, first_scope, looped, opened, spelled, type_words}
use Rattle.hl_rules.specs.Sites.{is_entry, is_numthreads}
use Rattle.hl_rules.specs.Source.{terminal_at}
use Rattle.hl_rules.specs.Statements.{statements_code, struct_defs}

abbrev pub both_lists : {A : Type 0} → Option (List A) → Option (List A) → Option (List A)
both_lists first rest = with_two (λ a b. Some (a ++ b)) first rest

-- what items declare, one behind the other
abbrev pub of_items : {A : Type 0} → (Scope → Tree → List A) → Scope → Trees → List A
of_items f s no_trees = []
of_items f s (more_trees first rest) = f s first ++ of_items f (after_item s first) rest

-- and where each of them may have nothing that it declares
abbrev pub all_of_items : {A : Type 0} → (Scope → Tree → Option (List A)) → Scope → Trees → Option (List A)
all_of_items f s no_trees = Some []
all_of_items f s (more_trees first rest) = both_lists (f s first) (all_of_items f (after_item s first) rest)

-- behind all items
abbrev pub after_items : Scope → Trees → Scope
after_items s no_trees = s
after_items s (more_trees first rest) = after_items (after_item s first) rest

-- ---- buffers

-- the number of a register or a space; a space that isn't given is 0
abbrev pub register_if : Scope → (writable : Bool) → Option ℕ → Option ℕ
register_if s writable register = option_and_then (register_number s writable) register

abbrev pub space_if : Scope → Option ℕ → ℕ
space_if s None = 0
space_if s (Some name) = unwrap_or (space_number s name) 0

-- the elements of a buffer; a byte-address buffer has none
abbrev pub element_if : BufferInfo → Ty
element_if buffer = if buffer.raw then void_type else unwrap_or buffer.element void_type

abbrev pub resource : Scope → BufferInfo → (name : ℕ) → (register space : Option ℕ) → Resource
resource s buffer name register space = record {
  name = spelled s name;
  class = if buffer.writable then 1 else 0;
  raw = buffer.raw;
  element = element_if buffer;
  words = unwrap_or (type_words s.structs (element_if buffer)) 0;
  register = register_if s buffer.writable register;
  space = space_if s space;
  at = name;
}

abbrev pub item_resources : Scope → Tree → List Resource
item_resources s (an_item at item) = item_resources s item
item_resources s (a_buffer at kind name register space) = resource s (buffer_info s kind) name register space ∷ []
item_resources s _ = []

-- ---- variables

-- the variable of a declared name; where it has no type, a rule is broken
abbrev pub variable_of : Scope → (name : ℕ) → Option Ty → Variable
variable_of s name ty = record { name = spelled s name; ty = unwrap_or ty void_type; at = name }

-- the variable of a declarator
abbrev pub declared_variable : Scope → Option Ty → Tree → Variable
declared_variable s ty declarator = variable_of s (at_of declarator) (declarator_type s ty declarator)

-- ---- groupshared variables

abbrev pub declared_shared : Option Ty → Scope → Trees → List Variable
declared_shared ty s no_trees = []
declared_shared ty s (more_trees first rest) = declared_variable s ty first ∷ declared_shared ty (with_shared ty s first) rest

abbrev pub item_shared : Scope → Tree → List Variable
item_shared s (an_item at item) = item_shared s item
item_shared s (a_shared at type declarators) = declared_shared (named_type s type) s declarators
item_shared s _ = []

-- ---- constants

-- the greatest word and one more, 2^32
abbrev pub word_count : ℕ
word_count = 4294967296

-- a number below zero by its bits
abbrev pub negative : ℕ → ℕ
negative number = (word_count - number) % word_count

abbrev pub truth_word : Terminal → Option ℕ
truth_word terminals.True = Some 1
truth_word terminals.False = Some 0
truth_word _ = None

-- a leaf that is no constant number: a number below zero, or a truth value
abbrev pub signed_or_truth : Scope → Tree → Option ℕ
signed_or_truth s (a_primary at absent absent) = truth_word (terminal_at s.tokens at)
signed_or_truth s (a_unary at absent operand) = option_map negative (constant_number s operand)
signed_or_truth s _ = None

-- the word of a leaf of a constant's initialiser
abbrev pub leaf_word : Scope → Tree → Option ℕ
leaf_word s leaf = or_signed (constant_number s leaf)
  where
    or_signed : Option ℕ → Option ℕ
    or_signed (Some number) = Some number
    or_signed None = signed_or_truth s leaf

-- a word in a kind: a bool is whether it differs from 0
abbrev pub word_in : Kind → ℕ → ℕ
word_in BoolKind word = if word == 0 then 0 else 1
word_in _ word = word

-- the words of leaves, each in its kind
abbrev pub leaf_words : Scope → List Kind → List Tree → Option (List ℕ)
leaf_words s [] [] = Some []
leaf_words s (kind ∷ kinds) (leaf ∷ leaves) =
    with_two (λ word words. Some (word_in kind word ∷ words)) (leaf_word s leaf) (leaf_words s kinds leaves)
leaf_words s _ _ = None

-- the words of an initialiser of these kinds: without braces one word fills a scalar or a vector
abbrev pub init_words : Scope → List Kind → Tree → Option (List ℕ)
init_words s kinds (an_init at (present value) parts) = option_map (λ word. map (λ kind. word_in kind word) kinds) (leaf_word s value)
init_words s kinds init = leaf_words s kinds (leaves_of init)

abbrev pub declared_constant : Scope → Option Ty → (declarator init : Tree) → Constant
declared_constant s ty declarator init = record {
  variable = declared_variable s ty declarator;
  words = unwrap_or (option_and_then (λ own. init_words s (kinds_of (struct_defs s.structs) own) init) (declarator_type s ty declarator)) [];
}

abbrev pub item_constants : Scope → Tree → List Constant
item_constants s (an_item at item) = item_constants s item
item_constants s (a_constant at type declarator init) = declared_constant s (named_type s type) declarator init ∷ []
item_constants s _ = []

-- ---- functions

-- the variables of parameters
abbrev pub param_variable : Scope → Tree → List Variable
param_variable s (a_param at constant direction type declarator semantic) = declared_variable s (named_type s type) declarator ∷ []
param_variable s _ = []

abbrev pub param_variables : Scope → Trees → List Variable
param_variables s no_trees = []
param_variables s (more_trees first rest) = param_variable s first ++ param_variables (after_param s first) rest

-- parameters, whose variables are the first ones
abbrev pub parameters_from : Scope → ℕ → Trees → List Parameter
parameters_from s number no_trees = []
parameters_from s number (more_trees first rest) =
    record { variable = number; copying = param_copying s first; semantic = param_semantic s first } ∷ parameters_from s (suc number) rest

abbrev pub start_variable : Scope → Option Ty → Tree → List Variable
start_variable s ty (a_start at declarator init) = variable_of s at (declarator_type s ty declarator) ∷ []
start_variable s ty _ = []

abbrev pub starts_variables : Scope → Option Ty → (is_const : Bool) → Trees → List Variable
starts_variables s ty is_const no_trees = []
starts_variables s ty is_const (more_trees first rest) =
    start_variable s ty first ++ starts_variables (after_start ty is_const s first) ty is_const rest

abbrev pub first_variables : Scope → Maybe → List Variable
first_variables s (present (a_local at constant type starts)) = starts_variables s (named_type s type) (is_some constant) starts
first_variables s _ = []

-- the variables that statements declare, in the order of the text
abbrev mutual
  pub statement_variables : Scope → Tree → List Variable
  statement_variables s (a_stmt at part) = variables_if s part
  statement_variables s (a_block at statements) = statements_variables (opened s) statements
  statement_variables s (a_local at constant type starts) = starts_variables s (named_type s type) (is_some constant) starts
  statement_variables s (an_if at attributes condition consequent alternative) =
      statement_variables (opened s) consequent ++ variables_if (opened (behind (locals_in consequent) s)) alternative
  statement_variables s (a_for at attributes first condition step body) =
      first_variables (opened s) first ++ statement_variables (looped (after_first s first)) body
  statement_variables s (a_while at attributes condition body) = statement_variables (looped s) body
  statement_variables s (a_do at attributes body condition) = statement_variables (looped s) body
  statement_variables s _ = []

  pub statements_variables : Scope → Trees → List Variable
  statements_variables s no_trees = []
  statements_variables s (more_trees first rest) = statement_variables s first ++ statements_variables (after_statement s first) rest

  pub variables_if : Scope → Maybe → List Variable
  variables_if s absent = []
  variables_if s (present statement) = statement_variables s statement

abbrev pub body_code : Scope → Tree → Option Stmts
body_code s (a_block at statements) = statements_code s statements
body_code s _ = None

abbrev pub body_variables : Scope → Tree → List Variable
body_variables s (a_block at statements) = statements_variables s statements
body_variables s _ = []

abbrev pub function_def : Scope → (result : Tree) → (name : ℕ) → (params : Trees) → (block : Tree) → Option FunctionDef
function_def s result name params block =
    with_two (λ ty body. Some (record {
      name = spelled s name;
      result = ty;
      parameters = parameters_from s 0 params;
      variables = param_variables (at_params s result) params ++ body_variables (in_body s result name params) block;
      body = body;
    }))
    (result_type s result)
    (body_code (in_body s result name params) block)

abbrev pub item_functions : Scope → Tree → Option (List FunctionDef)
item_functions s (an_item at item) = item_functions s item
item_functions s (a_function at attributes result name params block) =
    option_map (λ f. f ∷ []) (function_def s result name params block)
item_functions s _ = Some []

-- ---- the entry

-- the three numbers of a `numthreads`
abbrev pub thread_numbers : Scope → Trees → Option (List ℕ)
thread_numbers s no_trees = Some []
thread_numbers s (more_trees first rest) =
    with_two (λ number numbers. Some (number ∷ numbers)) (constant_number s first) (thread_numbers s rest)

abbrev pub attribute_threads : Scope → Trees → Option (List ℕ)
attribute_threads s no_trees = None
attribute_threads s (more_trees (an_attribute at name arguments) rest) =
    if is_numthreads s name then thread_numbers s arguments else attribute_threads s rest
attribute_threads s (more_trees _ rest) = attribute_threads s rest

-- the threads of the entry, in a list, and nothing of another item
abbrev pub item_threads : Scope → Tree → Option (List (List ℕ))
item_threads s (an_item at item) = item_threads s item
item_threads s (a_function at attributes result name params block) =
    if is_entry s name then option_map (λ threads. threads ∷ []) (attribute_threads s attributes) else Some []
item_threads s _ = Some []

abbrev pub one_of : {A : Type 0} → List A → Option A
one_of [] = None
one_of (x ∷ xs) = Some x

-- the number of the first function of a name
abbrev pub entry_number : Scope → Option ℕ
entry_number s = position (λ f. bytes_eq f.name s.entry) s.functions

-- ---- programs

-- the program of items, where each function, the entry and its threads are there
abbrev pub items_program : Scope → Trees → Option Program
items_program s items =
    with_three (λ functions entry threads. Some (record {
      structs = struct_defs (after_items s items).structs;
      resources = of_items item_resources s items;
      shared = of_items item_shared s items;
      constants = of_items item_constants s items;
      functions = functions;
      entry = entry;
      threads = threads;
    }))
    (all_of_items item_functions s items)
    (entry_number (after_items s items))
    (option_and_then one_of (all_of_items item_threads s items))

-- what a tree becomes
abbrev pub program_of : List Lexeme → (entry : List ℕ) → Tree → Option Program
program_of tokens entry (a_program at items) = items_program (first_scope tokens entry) items
program_of tokens entry _ = None

-- A tree that breaks no rule is elaborated to the program that it becomes.
pub record Elaborates (tree : Tree) (tokens : List Lexeme) (entry : List ℕ) (program : Program) : Type 0 where
  pub free : BreaksNothing tree tokens entry
  pub becomes : program_of tokens entry tree ≡ Some program
