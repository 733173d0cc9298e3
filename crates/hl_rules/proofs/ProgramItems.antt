-- Items that break no rule make what a program keeps.
use Rattle.std.proofs.Common.{◌≡◌, ◌∙◌, ap, ℕ, List, [], ◌∷◌, ◌++◌, Option, Some}
use Rattle.std.specs.Prelude.{option_map}
use Rattle.std.specs.List.{All}
use Rattle.std.proofs.lemmas.List.Elements.{All-append, All-cons}
use Rattle.hl_parser.specs.Trees.{Tree, Trees, a_buffer, a_constant, a_function, a_shared, a_struct, an_item, more_trees}
use Rattle.hl_meaning.specs.Places as places
use Rattle.hl_meaning.specs.Programs.{Constant, FunctionDef, Resource, StructDef, Variable}
use Rattle.hl_meaning.specs.WellFormed.{IsConstant, IsDeclared, IsResource}
use Rattle.hl_rules.specs.Constants.{named_type}
use Rattle.hl_rules.specs.Declarations.{after_item, at_params, buffer_info, with_function}
use Rattle.hl_rules.specs.Elaboration.{after_items, all_of_items, both_lists, declared_constant, declared_shared, item_constants, item_functions, item_resources, item_shared, of_items, resource}
use Rattle.hl_rules.specs.Scopes.{Scope}
use Rattle.hl_rules.specs.Sites.{items_sites}
use Rattle.hl_rules.specs.Statements.{struct_defs}
use Rattle.hl_rules.proofs.Free.{IsFree}
use Rattle.hl_rules.proofs.FunctionEntry.{made_function}
use Rattle.hl_rules.proofs.FunctionForms.{IsFunctionBehind}
use Rattle.hl_rules.proofs.FunctionItems.{IsFunctionThere}
use Rattle.hl_rules.proofs.ItemForms.{AreKnownItems, no-list}
use Rattle.hl_rules.proofs.ParamForms.{known-params}
use Rattle.hl_rules.proofs.ProgramScopes.{program_env}
use Rattle.hl_rules.proofs.Soundness.{IsSound}
use Rattle.hl_rules.proofs.TreeShapes.{AllTrees, IsItem}

-- functions one behind the other, behind these
abbrev pub AreFunctionsBehind : places.Scope → (before : List FunctionDef) → List FunctionDef → Type 0
AreFunctionsBehind env before [] = Unit {0}
AreFunctionsBehind env before (f ∷ functions) = IsFunctionBehind env before f × AreFunctionsBehind env (before ++ f ∷ []) functions

-- what items make keeps what a program keeps
pub record AreKeptItems (env : places.Scope) (s : Scope) (items : Trees) (fs : List FunctionDef) : Type 0 where
  pub defs : List FunctionDef
  pub made : all_of_items item_functions s items ≡ Some defs
  pub functions : AreFunctionsBehind env fs defs
  pub known : AreKnownItems s items
  pub resources : All (IsResource env.structs) (of_items item_resources s items)
  pub shared : All (λ (v : Variable). IsDeclared env.structs v.ty) (of_items item_shared s items)
  pub constants : All (IsConstant env.structs) (of_items item_constants s items)
  pub sound : IsSound (after_items s items)

module _ (structs : List StructDef) (resources : List Resource) (shared : List Variable) (constants : List Constant) where
  -- items stand in the program of these structs, buffers, groupshared variables and constants
  pub record AreFrom (s : Scope) (items : Trees) (rs : List Resource) (ss : List Variable) (cs : List Constant) : Type 0 where
    pub shapes : AllTrees (IsItem s.tokens) items
    pub free : IsFree (items_sites s items)
    pub of_structs : structs ≡ struct_defs (after_items s items).structs
    pub of_resources : resources ≡ rs ++ of_items item_resources s items
    pub of_shared : shared ≡ ss ++ of_items item_shared s items
    pub of_constants : constants ≡ cs ++ of_items item_constants s items

  pub function-kept : (s : Scope) (place at : ℕ) (attributes : Trees) (result : Tree) (name : ℕ) (params : Trees) (block : Tree) (rest : Trees) (fs : List FunctionDef) (there : IsFunctionThere (program_env structs resources shared constants) s fs result name params block) → AreKeptItems (program_env structs resources shared constants) (with_function s result name params) rest (fs ++ made_function s result name params block there.known.type there.code ∷ []) → AreKeptItems (program_env structs resources shared constants) s (more_trees (an_item place (a_function at attributes result name params block)) rest) fs
  function-kept s place at attributes result name params block rest fs there kept = record {
    defs = made_function s result name params block there.known.type there.code ∷ kept.defs;
    made =
        ap (λ o. both_lists (option_map (λ (f : FunctionDef). f ∷ []) o) (all_of_items item_functions (with_function s result name params) rest)) there.is
        ∙ ap (λ o. both_lists (Some (made_function s result name params block there.known.type there.code ∷ [])) o) kept.made;
    functions = (there.kept, kept.functions);
    known = (known-params (at_params s result) params there.typed, kept.known);
    resources = kept.resources;
    shared = kept.shared;
    constants = kept.constants;
    sound = kept.sound;
  }

  pub struct-kept : (s : Scope) (place at name : ℕ) (members rest : Trees) (fs : List FunctionDef) → AreKeptItems (program_env structs resources shared constants) (after_item s (a_struct at name members)) rest fs → AreKeptItems (program_env structs resources shared constants) s (more_trees (an_item place (a_struct at name members)) rest) fs
  struct-kept s place at name members rest fs kept = record {
    defs = kept.defs;
    made = no-list (all_of_items item_functions (after_item s (a_struct at name members)) rest) ∙ kept.made;
    functions = kept.functions;
    known = (tt, kept.known);
    resources = kept.resources;
    shared = kept.shared;
    constants = kept.constants;
    sound = kept.sound;
  }

  pub buffer-kept : (s : Scope) (place at : ℕ) (kind : Tree) (name : ℕ) (register space : Option ℕ) (rest : Trees) (fs : List FunctionDef) → IsResource structs (resource s (buffer_info s kind) name register space) → AreKeptItems (program_env structs resources shared constants) (after_item s (a_buffer at kind name register space)) rest fs → AreKeptItems (program_env structs resources shared constants) s (more_trees (an_item place (a_buffer at kind name register space)) rest) fs
  buffer-kept s place at kind name register space rest fs own kept = record {
    defs = kept.defs;
    made = no-list (all_of_items item_functions (after_item s (a_buffer at kind name register space)) rest) ∙ kept.made;
    functions = kept.functions;
    known = (tt, kept.known);
    resources = All-cons (IsResource structs) (resource s (buffer_info s kind) name register space) (of_items item_resources (after_item s (a_buffer at kind name register space)) rest) own kept.resources;
    shared = kept.shared;
    constants = kept.constants;
    sound = kept.sound;
  }

  pub shared-kept : (s : Scope) (place at : ℕ) (type : Tree) (declarators rest : Trees) (fs : List FunctionDef) → All (λ (v : Variable). IsDeclared structs v.ty) (declared_shared (named_type s type) s declarators) → AreKeptItems (program_env structs resources shared constants) (after_item s (a_shared at type declarators)) rest fs → AreKeptItems (program_env structs resources shared constants) s (more_trees (an_item place (a_shared at type declarators)) rest) fs
  shared-kept s place at type declarators rest fs own kept = record {
    defs = kept.defs;
    made = no-list (all_of_items item_functions (after_item s (a_shared at type declarators)) rest) ∙ kept.made;
    functions = kept.functions;
    known = (tt, kept.known);
    resources = kept.resources;
    shared = All-append (λ (v : Variable). IsDeclared structs v.ty) (declared_shared (named_type s type) s declarators) (of_items item_shared (after_item s (a_shared at type declarators)) rest) own kept.shared;
    constants = kept.constants;
    sound = kept.sound;
  }

  pub constant-item-kept : (s : Scope) (place at : ℕ) (type declarator init : Tree) (rest : Trees) (fs : List FunctionDef) → IsConstant structs (declared_constant s (named_type s type) declarator init) → AreKeptItems (program_env structs resources shared constants) (after_item s (a_constant at type declarator init)) rest fs → AreKeptItems (program_env structs resources shared constants) s (more_trees (an_item place (a_constant at type declarator init)) rest) fs
  constant-item-kept s place at type declarator init rest fs own kept = record {
    defs = kept.defs;
    made = no-list (all_of_items item_functions (after_item s (a_constant at type declarator init)) rest) ∙ kept.made;
    functions = kept.functions;
    known = (tt, kept.known);
    resources = kept.resources;
    shared = kept.shared;
    constants = All-cons (IsConstant structs) (declared_constant s (named_type s type) declarator init) (of_items item_constants (after_item s (a_constant at type declarator init)) rest) own kept.constants;
    sound = kept.sound;
  }
