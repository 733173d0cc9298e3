-- Items that break no rule keep what a program keeps: by induction over the items.
use Rattle.std.proofs.Common.{◌≡◌, ◌∙◌, refl, sym, subst, ℕ, List, [], ◌∷◌, ◌++◌, Option, append_assoc}
use Rattle.std.proofs.lemmas.List.Elements.{All-nil}
use Rattle.hl_parser.specs.Trees.{Tree, Trees, a_buffer, a_constant, a_function, a_shared, a_struct, an_item, at_of, more_trees, no_trees}
use Rattle.hl_meaning.specs.Programs.{Constant, FunctionDef, Resource, StructDef, Variable}
use Rattle.hl_meaning.specs.WellFormed.{IsConstant, IsDeclared, IsResource}
use Rattle.hl_rules.specs.Constants.{declarator_type, named_type}
use Rattle.hl_rules.specs.Declarations.{after_item, buffer_info, with_function}
use Rattle.hl_rules.specs.Elaboration.{declared_constant, declared_shared, item_constants, item_resources, item_shared, of_items, resource}
use Rattle.hl_rules.specs.Parts.{a_global_name, site}
use Rattle.hl_rules.specs.Scopes.{Scope}
use Rattle.hl_rules.specs.Sites.{constant_sites, declarator_sites, element_sites, item_sites, register_sites, shared_sites, type_sites}
use Rattle.hl_rules.specs.Statements.{struct_defs}
use Rattle.hl_rules.proofs.ConstantItems.{constant-kept}
use Rattle.hl_rules.proofs.DeclaratorForms.{declarator-known, named-known}
use Rattle.hl_rules.proofs.EntryForms.{free-item, free-items}
use Rattle.hl_rules.proofs.Free.{IsFree, free-left, free-rest, free-right}
use Rattle.hl_rules.proofs.FunctionEntry.{free-function, made_function}
use Rattle.hl_rules.proofs.FunctionItems.{function-there}
use Rattle.hl_rules.proofs.ItemForms.{other-shared}
use Rattle.hl_rules.proofs.ProgramItems.{AreFrom, AreKeptItems, buffer-kept, constant-item-kept, function-kept, shared-kept, struct-kept}
use Rattle.hl_rules.proofs.ProgramScopes.{Stands, program_env}
use Rattle.hl_rules.proofs.ProgramSteps.{stands-buffer, stands-function, stands-struct}
use Rattle.hl_rules.proofs.ResourceForms.{IsKnownBuffer, kind-known, resource-kept}
use Rattle.hl_rules.proofs.SharedItems.{IsSharedThere, prefix-there, shared-there}
use Rattle.hl_rules.proofs.StructItems.{struct-known}
use Rattle.hl_rules.proofs.TreeShapes.{AllTrees, IsItem}
use Rattle.hl_rules.proofs.ValueForms.{ExpressionsBecome}
use Rattle.hl_rules.proofs.VariableSteps.{stands-constant}

module _ (structs : List StructDef) (resources : List Resource) (shared : List Variable) (constants : List Constant) where
  -- the structs in front of an item
  front-there : (s : Scope) (items : Trees) (rs : List Resource) (ss : List Variable) (cs : List Constant) (fs : List FunctionDef) → Stands (program_env structs resources shared constants) s rs ss cs fs → AreFrom structs resources shared constants s items rs ss cs → (more : List StructDef) × (structs ≡ struct_defs s.structs ++ more)
  front-there s items rs ss cs fs stands from = prefix-there structs s.tokens s items from.shapes stands.sound.structs from.of_structs

  -- a constant of a known type, and the sites of its initialiser
  pub record IsConstantThere (s : Scope) (rs : List Resource) (ss : List Variable) (cs : List Constant) (fs : List FunctionDef) (at : ℕ) (type declarator init : Tree) : Type 0 where
    pub stands : Stands (program_env structs resources shared constants) (after_item s (a_constant at type declarator init)) rs ss (cs ++ declared_constant s (named_type s type) declarator init ∷ []) fs
    pub kept : IsConstant structs (declared_constant s (named_type s type) declarator init)

  constant-there : (s : Scope) (rs : List Resource) (ss : List Variable) (cs : List Constant) (fs : List FunctionDef) → Stands (program_env structs resources shared constants) s rs ss cs fs → (more : List StructDef) → structs ≡ struct_defs s.structs ++ more → (place at : ℕ) (type declarator init : Tree) (behind : List Constant) → IsItem s.tokens (an_item place (a_constant at type declarator init)) → IsFree (item_sites s (a_constant at type declarator init)) → constants ≡ cs ++ declared_constant s (named_type s type) declarator init ∷ behind → IsConstantThere s rs ss cs fs at type declarator init
  constant-there s rs ss cs fs stands more prefix place at type declarator init behind shape free e =
      let first = named-known s stands.sound type shape.0 (free-left (type_sites s type) (declarator_sites s (named_type s type) declarator ++ (site s (a_global_name (at_of declarator)) ∷ constant_sites s (declarator_type s (named_type s type) declarator) init)) free) in
      let rest = free-right (type_sites s type) (declarator_sites s (named_type s type) declarator ++ (site s (a_global_name (at_of declarator)) ∷ constant_sites s (declarator_type s (named_type s type) declarator) init)) free in
      let own = declarator-known s stands.sound (named_type s type) first declarator shape.1 (free-left (declarator_sites s (named_type s type) declarator) (site s (a_global_name (at_of declarator)) ∷ constant_sites s (declarator_type s (named_type s type) declarator) init) rest) in
      record {
        stands = stands-constant structs resources shared constants s rs ss cs fs stands more prefix (named_type s type) declarator init behind own e;
        kept =
            constant-kept (program_env structs resources shared constants) s stands.sound (record { more = more; prefix = prefix; names = stands.names }) (named_type s type) declarator init own
            (free-rest (site s (a_global_name (at_of declarator))) (constant_sites s (declarator_type s (named_type s type) declarator) init)
            (free-right (declarator_sites s (named_type s type) declarator) (site s (a_global_name (at_of declarator)) ∷ constant_sites s (declarator_type s (named_type s type) declarator) init) rest));
      }

  -- groupshared variables
  shared-item : (s : Scope) (rs : List Resource) (ss : List Variable) (cs : List Constant) (fs : List FunctionDef) → Stands (program_env structs resources shared constants) s rs ss cs fs → (more : List StructDef) → structs ≡ struct_defs s.structs ++ more → (place at : ℕ) (type : Tree) (declarators : Trees) (behind : List Variable) → IsItem s.tokens (an_item place (a_shared at type declarators)) → IsFree (item_sites s (a_shared at type declarators)) → shared ≡ ss ++ (declared_shared (named_type s type) s declarators ++ behind) → IsSharedThere structs resources shared constants (named_type s type) s rs ss cs fs declarators
  shared-item s rs ss cs fs stands more prefix place at type declarators behind shape free e =
      shared-there structs resources shared constants (named_type s type) s rs ss cs fs declarators behind stands more prefix
      (named-known s stands.sound type shape.0 (free-left (type_sites s type) (shared_sites (named_type s type) s declarators) free)) shape.1.1
      (free-right (type_sites s type) (shared_sites (named_type s type) s declarators) free) e

  -- a buffer
  buffer-known : (s : Scope) (rs : List Resource) (ss : List Variable) (cs : List Constant) (fs : List FunctionDef) → Stands (program_env structs resources shared constants) s rs ss cs fs → (place at : ℕ) (kind : Tree) (name : ℕ) (register space : Option ℕ) → IsItem s.tokens (an_item place (a_buffer at kind name register space)) → IsFree (item_sites s (a_buffer at kind name register space)) → IsKnownBuffer s (buffer_info s kind)
  buffer-known s rs ss cs fs stands place at kind name register space shape free =
      kind-known s stands.sound kind shape (free-left (element_sites s kind) (site s (a_global_name name) ∷ register_sites s (buffer_info s kind).writable register space) free)

  pub items-kept : ExpressionsBecome → (s : Scope) (items : Trees) (rs : List Resource) (ss : List Variable) (cs : List Constant) (fs : List FunctionDef) → Stands (program_env structs resources shared constants) s rs ss cs fs → AreFrom structs resources shared constants s items rs ss cs → AreKeptItems (program_env structs resources shared constants) s items fs
  items-kept claim s no_trees rs ss cs fs stands from = record {
    defs = [];
    made = refl;
    functions = tt;
    known = tt;
    resources = All-nil (IsResource structs);
    shared = All-nil (λ (v : Variable). IsDeclared structs v.ty);
    constants = All-nil (IsConstant structs);
    sound = stands.sound;
  }
  items-kept claim s (more_trees (an_item place (a_function at attributes result name params block)) rest) rs ss cs fs stands from =
      let item = an_item place (a_function at attributes result name params block) in
      let front = front-there s (more_trees item rest) rs ss cs fs stands from in
      let there = function-there structs resources shared constants s rs ss cs fs stands front.0 front.1 claim attributes result name params block
      (free-function s at attributes result name params block (free-item s item rest from.free)) from.shapes.0.1 from.shapes.0.2 from.shapes.0.3 in
      function-kept structs resources shared constants s place at attributes result name params block rest fs there
      (items-kept claim (with_function s result name params) rest rs ss cs (fs ++ made_function s result name params block there.known.type there.code ∷ [])
      (stands-function structs resources shared constants s rs ss cs fs stands front.0 front.1 result name params block there from.shapes.0.2)
      (record { shapes = from.shapes.1; free = free-items s item rest from.free; of_structs = from.of_structs; of_resources = from.of_resources; of_shared = from.of_shared; of_constants = from.of_constants }))
  items-kept claim s (more_trees (an_item place (a_struct at name members)) rest) rs ss cs fs stands from =
      let item = an_item place (a_struct at name members) in
      let front = front-there s (more_trees item rest) rs ss cs fs stands from in
      struct-kept structs resources shared constants s place at name members rest fs
      (items-kept claim (after_item s (a_struct at name members)) rest rs ss cs fs
      (stands-struct structs resources shared constants s rs ss cs fs stands front.0 front.1 name members
      (struct-known s stands.sound name members from.shapes.0.0 from.shapes.0.1 (free-item s item rest from.free)))
      (record { shapes = from.shapes.1; free = free-items s item rest from.free; of_structs = from.of_structs; of_resources = from.of_resources; of_shared = from.of_shared; of_constants = from.of_constants }))
  items-kept claim s (more_trees (an_item place (a_buffer at kind name register space)) rest) rs ss cs fs stands from =
      let item = an_item place (a_buffer at kind name register space) in
      let front = front-there s (more_trees item rest) rs ss cs fs stands from in
      let known = buffer-known s rs ss cs fs stands place at kind name register space from.shapes.0 (free-item s item rest from.free) in
      let own = resource s (buffer_info s kind) name register space in
      let behind = of_items item_resources (after_item s (a_buffer at kind name register space)) rest in
      buffer-kept structs resources shared constants s place at kind name register space rest fs
      (resource-kept (program_env structs resources shared constants) s (buffer_info s kind) name register space stands.sound (record { more = front.0; prefix = front.1; names = stands.names }) known)
      (items-kept claim (after_item s (a_buffer at kind name register space)) rest (rs ++ own ∷ []) ss cs fs
      (stands-buffer structs resources shared constants s rs ss cs fs stands front.0 front.1 kind name register space behind known from.of_resources)
      (record { shapes = from.shapes.1; free = free-items s item rest from.free; of_structs = from.of_structs; of_resources = from.of_resources ∙ sym (append_assoc rs (own ∷ []) behind); of_shared = from.of_shared; of_constants = from.of_constants }))
  items-kept claim s (more_trees (an_item place (a_shared at type declarators)) rest) rs ss cs fs stands from =
      let item = an_item place (a_shared at type declarators) in
      let front = front-there s (more_trees item rest) rs ss cs fs stands from in
      let own = declared_shared (named_type s type) s declarators in
      let behind = of_items item_shared (after_item s (a_shared at type declarators)) rest in
      let there = shared-item s rs ss cs fs stands front.0 front.1 place at type declarators behind from.shapes.0 (free-item s item rest from.free) from.of_shared in
      shared-kept structs resources shared constants s place at type declarators rest fs there.declared
      (items-kept claim (after_item s (a_shared at type declarators)) rest rs (ss ++ own) cs fs there.stands
      (record { shapes = subst (λ tokens. AllTrees (IsItem tokens) rest) (sym (other-shared s at place type declarators).tokens) from.shapes.1; free = free-items s item rest from.free; of_structs = from.of_structs; of_resources = from.of_resources; of_shared = from.of_shared ∙ sym (append_assoc ss own behind); of_constants = from.of_constants }))
  items-kept claim s (more_trees (an_item place (a_constant at type declarator init)) rest) rs ss cs fs stands from =
      let item = an_item place (a_constant at type declarator init) in
      let front = front-there s (more_trees item rest) rs ss cs fs stands from in
      let own = declared_constant s (named_type s type) declarator init in
      let behind = of_items item_constants (after_item s (a_constant at type declarator init)) rest in
      let there = constant-there s rs ss cs fs stands front.0 front.1 place at type declarator init behind from.shapes.0 (free-item s item rest from.free) from.of_constants in
      constant-item-kept structs resources shared constants s place at type declarator init rest fs there.kept
      (items-kept claim (after_item s (a_constant at type declarator init)) rest rs ss (cs ++ own ∷ []) fs there.stands
      (record { shapes = from.shapes.1; free = free-items s item rest from.free; of_structs = from.of_structs; of_resources = from.of_resources; of_shared = from.of_shared; of_constants = from.of_constants ∙ sym (append_assoc cs (own ∷ []) behind) }))
  items-kept claim s (more_trees other rest) rs ss cs fs stands from = absurd from.shapes.0
