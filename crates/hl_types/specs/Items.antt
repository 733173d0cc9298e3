-- What items make of a program.
use Rattle.std.specs.Prelude.{◌≡◌, ℕ, List, [], ◌∷◌, ◌++◌, map, Option, None, Some, option_map, if◌then◌else◌}
use Rattle.hl_parser.specs.Trees.{Tree, Trees, at_of}
use Rattle.hl_meaning.specs.Programs.{Constant, FunctionDef, Program, Resource, Variable}
use Rattle.hl_meaning.specs.Views.{plain_constant, plain_function, plain_resource, plain_variable, program_of}
use Rattle.hl_rules.specs.Constants.{declarator_type, named_type}
use Rattle.hl_rules.specs.Declarations.{buffer_info, struct_info}
use Rattle.hl_rules.specs.Elaboration.{all_of_items, both_lists, entry_number, item_constants, item_functions, item_resources, item_shared, item_threads, of_items, one_of}
use Rattle.hl_rules.specs.Expressions.{with_three}
use Rattle.hl_rules.specs.Parts.{Site, a_global_name, a_whole_struct, site}
use Rattle.hl_rules.specs.Scopes.{Scope}
use Rattle.hl_rules.specs.Sites.{constant_sites, declarator_sites, element_sites, is_entry, members_sites, register_sites, type_sites}
use Rattle.hl_rules.specs.Statements.{struct_defs}
use Rattle.hl_types.specs.Threads.{group_threads}
use Rattle.hl_types.specs.declared.items.Gathered.{Gathered}
use Rattle.hl_types.specs.declared.items.ProgramParts.{ProgramParts}

-- ---- places

-- the places in a struct
abbrev pub struct_sites : Scope → (name : ℕ) → (members : Trees) → List Site
struct_sites s name members =
    members_sites s [] members
    ++ (site s (a_global_name name) ∷ site s (a_whole_struct name (struct_info s name members).words) ∷ [])

-- the places in a buffer
abbrev pub buffer_sites : Scope → (kind : Tree) → (name : ℕ) → (register space : Option ℕ) → List Site
buffer_sites s kind name register space =
    element_sites s kind ++ (site s (a_global_name name) ∷ register_sites s (buffer_info s kind).writable register space)

-- the places in a constant
abbrev pub constant_item_sites : Scope → (type declarator init : Tree) → List Site
constant_item_sites s type declarator init =
    type_sites s type
    ++ (declarator_sites s (named_type s type) declarator
    ++ (site s (a_global_name (at_of declarator))
    ∷ constant_sites s (declarator_type s (named_type s type) declarator) init))

-- ---- threads

-- the threads that a function's attributes give, where it is the entry
abbrev pub entry_threads : Scope → (name : ℕ) → (attributes : Trees) → Option (List ℕ)
entry_threads s name attributes = if is_entry s name then group_threads s attributes else None

-- the first of what was found and a list
abbrev pub earliest : {A : Type 0} → Option A → List A → Option A
earliest None later = one_of later
earliest (Some first) later = Some first

-- the first of what was found and what may be there
abbrev pub first_there : {A : Type 0} → Option A → Option A → Option A
first_there None later = later
first_there (Some first) later = Some first

-- ---- what items make

-- what items make: functions where each becomes one, and the threads of the entry
pub record Made : Type 0 where
  pub resources : List Resource
  pub shared : List Variable
  pub constants : List Constant
  pub functions : Option (List FunctionDef)
  pub threads : Option (List ℕ)

abbrev pub made_of : Gathered → Made
made_of g = record {
  resources = map plain_resource g.resources;
  shared = map plain_variable g.shared;
  constants = map plain_constant g.constants;
  functions = option_map (λ l. map plain_function l) g.functions;
  threads = g.threads;
}

-- what is made behind an item that stands in a scope
pub record IsMadeBy (s : Scope) (item : Tree) (before after : Made) : Type 0 where
  pub resources : after.resources ≡ before.resources ++ item_resources s item
  pub shared : after.shared ≡ before.shared ++ item_shared s item
  pub constants : after.constants ≡ before.constants ++ item_constants s item
  pub functions : after.functions ≡ both_lists before.functions (item_functions s item)
  pub threads : option_map (λ lists. earliest before.threads lists) (item_threads s item) ≡ Some after.threads

-- and behind several
pub record AreMadeBy (s : Scope) (items : Trees) (before after : Made) : Type 0 where
  pub resources : after.resources ≡ before.resources ++ of_items item_resources s items
  pub shared : after.shared ≡ before.shared ++ of_items item_shared s items
  pub constants : after.constants ≡ before.constants ++ of_items item_constants s items
  pub functions : after.functions ≡ both_lists before.functions (all_of_items item_functions s items)
  pub threads : option_map (λ lists. earliest before.threads lists) (all_of_items item_threads s items) ≡ Some after.threads

-- ---- programs

abbrev pub plain_parts : ProgramParts → Program
plain_parts p = program_of p.structs p.resources p.shared p.constants p.functions p.entry p.threads

-- the program of what is made, where each function, the entry and its threads are there
abbrev pub made_program : Scope → Made → Option Program
made_program s made =
    with_three (λ functions entry threads. Some (record {
      structs = struct_defs s.structs;
      resources = made.resources;
      shared = made.shared;
      constants = made.constants;
      functions = functions;
      entry = entry;
      threads = threads;
    }))
    made.functions
    (entry_number s)
    made.threads
