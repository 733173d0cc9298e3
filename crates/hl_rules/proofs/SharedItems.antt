-- Groupshared variables of one item, and the structs that items leave in front.
use Rattle.std.proofs.Common.{◌≡◌, ◌∙◌, refl, sym, ap, subst, List, [], ◌∷◌, ◌++◌, map, Option, append_assoc}
use Rattle.std.specs.List.{All}
use Rattle.std.proofs.lemmas.List.{append-nil}
use Rattle.std.proofs.lemmas.List.Elements.{All-cons, All-nil}
use Rattle.hl_lexer.specs.Tokens.{Lexeme}
use Rattle.hl_parser.specs.Trees.{Tree, Trees, a_buffer, a_constant, a_function, a_shared, a_struct, an_item, at_of, more_trees, no_trees}
use Rattle.hl_meaning.specs.Programs.{Constant, FunctionDef, Resource, StructDef, Variable}
use Rattle.hl_meaning.specs.Types.{Ty}
use Rattle.hl_meaning.specs.WellFormed.{IsDeclared}
use Rattle.hl_rules.specs.Declarations.{after_item, after_shared, struct_info, with_function, with_shared}
use Rattle.hl_rules.specs.Elaboration.{after_items, declared_shared, declared_variable}
use Rattle.hl_rules.specs.Parts.{a_global_name, site}
use Rattle.hl_rules.specs.Scopes.{Scope, StructInfo}
use Rattle.hl_rules.specs.Sites.{declarator_sites, shared_sites}
use Rattle.hl_rules.specs.Statements.{struct_def, struct_defs}
use Rattle.hl_rules.proofs.ConstantItems.{variable-kept}
use Rattle.hl_rules.proofs.DeclaratorForms.{IsKnownAs, declarator-known}
use Rattle.hl_rules.proofs.Free.{IsFree, free-left, free-rest, free-right}
use Rattle.hl_rules.proofs.LocalForms.{known-behind}
use Rattle.hl_rules.proofs.ProgramScopes.{Stands, program_env}
use Rattle.hl_rules.proofs.StructForms.{AreKnownStructs}
use Rattle.hl_rules.proofs.StructLayout.{struct_defs-front}
use Rattle.hl_rules.proofs.TreeShapes.{AllTrees, IsDeclarator, IsItem}
use Rattle.hl_rules.proofs.VariableSteps.{stands-shared}

-- ---- groupshared variables

module _ (structs : List StructDef) (resources : List Resource) (shared : List Variable) (constants : List Constant) where
  -- the groupshared variables of an item have types, and stand in the program
  pub record IsSharedThere (ty : Option Ty) (s : Scope) (rs : List Resource) (ss : List Variable) (cs : List Constant) (fs : List FunctionDef) (declarators : Trees) : Type 0 where
    pub stands : Stands (program_env structs resources shared constants) (after_shared ty s declarators) rs (ss ++ declared_shared ty s declarators) cs fs
    pub declared : All (λ (v : Variable). IsDeclared structs v.ty) (declared_shared ty s declarators)

  one-more : (ty : Option Ty) (s : Scope) (rs : List Resource) (ss : List Variable) (cs : List Constant) (fs : List FunctionDef) (first : Tree) (rest : Trees) → IsDeclared structs (declared_variable s ty first).ty → IsSharedThere ty (with_shared ty s first) rs (ss ++ declared_variable s ty first ∷ []) cs fs rest → IsSharedThere ty s rs ss cs fs (more_trees first rest)
  one-more ty s rs ss cs fs first rest declared there = record {
    stands =
        subst (λ l. Stands (program_env structs resources shared constants) (after_shared ty (with_shared ty s first) rest) rs l cs fs)
        (append_assoc ss (declared_variable s ty first ∷ []) (declared_shared ty (with_shared ty s first) rest)) there.stands;
    declared = All-cons (λ (v : Variable). IsDeclared structs v.ty) (declared_variable s ty first) (declared_shared ty (with_shared ty s first) rest) declared there.declared;
  }

  pub shared-there : (ty : Option Ty) (s : Scope) (rs : List Resource) (ss : List Variable) (cs : List Constant) (fs : List FunctionDef) (declarators : Trees) (behind : List Variable) → Stands (program_env structs resources shared constants) s rs ss cs fs → (more : List StructDef) → structs ≡ struct_defs s.structs ++ more → IsKnownAs s ty → AllTrees (IsDeclarator s.tokens) declarators → IsFree (shared_sites ty s declarators) → shared ≡ ss ++ (declared_shared ty s declarators ++ behind) → IsSharedThere ty s rs ss cs fs declarators
  shared-there ty s rs ss cs fs no_trees behind stands more prefix known shape free e = record {
    stands = subst (λ l. Stands (program_env structs resources shared constants) s rs l cs fs) (sym (append-nil ss)) stands;
    declared = All-nil (λ (v : Variable). IsDeclared structs v.ty);
  }
  shared-there ty s rs ss cs fs (more_trees first rest) behind stands more prefix known shape free e =
      let own = declarator-known s stands.sound ty known first shape.0 (free-left (declarator_sites s ty first) (site s (a_global_name (at_of first)) ∷ shared_sites ty (with_shared ty s first) rest) free) in
      one-more ty s rs ss cs fs first rest
      (variable-kept (program_env structs resources shared constants) s stands.sound (record { more = more; prefix = prefix; names = stands.names }) ty first own)
      (shared-there ty (with_shared ty s first) rs (ss ++ declared_variable s ty first ∷ []) cs fs rest behind
      (stands-shared structs resources shared constants s rs ss cs fs stands more prefix ty first (declared_shared ty (with_shared ty s first) rest ++ behind) own e)
      more prefix (known-behind s (with_shared ty s first) ty refl known) shape.1
      (free-rest (site s (a_global_name (at_of first))) (shared_sites ty (with_shared ty s first) rest) (free-right (declarator_sites s ty first) (site s (a_global_name (at_of first)) ∷ shared_sites ty (with_shared ty s first) rest) free))
      (e ∙ sym (append_assoc ss (declared_variable s ty first ∷ []) (declared_shared ty (with_shared ty s first) rest ++ behind))))

-- ---- structs in front

shared-structs : (ty : Option Ty) (s : Scope) (declarators : Trees) → (after_shared ty s declarators).structs ≡ s.structs
shared-structs ty s no_trees = refl
shared-structs ty s (more_trees first rest) = shared-structs ty (with_shared ty s first) rest

-- the structs that are known stay in front
structs-behind : (tokens : List Lexeme) (s : Scope) (items : Trees) → AllTrees (IsItem tokens) items → (behind : List StructInfo) × ((after_items s items).structs ≡ s.structs ++ behind)
structs-behind tokens s no_trees shape = ([], sym (append-nil s.structs))
structs-behind tokens s (more_trees (an_item place (a_struct at name members)) rest) shape = on (structs-behind tokens (after_item s (a_struct at name members)) rest shape.1)
  where
    on : (behind : List StructInfo) × ((after_items (after_item s (a_struct at name members)) rest).structs ≡ (s.structs ++ struct_info s name members ∷ []) ++ behind) → (behind : List StructInfo) × ((after_items (after_item s (a_struct at name members)) rest).structs ≡ s.structs ++ behind)
    on r = (struct_info s name members ∷ r.0, r.1 ∙ append_assoc s.structs (struct_info s name members ∷ []) r.0)
structs-behind tokens s (more_trees (an_item place (a_function at attributes result name params block)) rest) shape = structs-behind tokens (with_function s result name params) rest shape.1
structs-behind tokens s (more_trees (an_item place (a_buffer at kind name register space)) rest) shape = structs-behind tokens (after_item s (a_buffer at kind name register space)) rest shape.1
structs-behind tokens s (more_trees (an_item place (a_constant at type declarator init)) rest) shape = structs-behind tokens (after_item s (a_constant at type declarator init)) rest shape.1
structs-behind tokens s (more_trees (an_item place (a_shared at type declarators)) rest) shape = on (structs-behind tokens (after_item s (a_shared at type declarators)) rest shape.1)
  where
    on : (behind : List StructInfo) × ((after_items (after_item s (a_shared at type declarators)) rest).structs ≡ (after_item s (a_shared at type declarators)).structs ++ behind) → (behind : List StructInfo) × ((after_items (after_item s (a_shared at type declarators)) rest).structs ≡ s.structs ++ behind)
    on r = (r.0, r.1 ∙ ap (λ l. l ++ r.0) (shared-structs _ s declarators))
structs-behind tokens s (more_trees other rest) shape = absurd shape.0

-- so their definitions do
pub prefix-there : (structs : List StructDef) (tokens : List Lexeme) (s : Scope) (items : Trees) → AllTrees (IsItem tokens) items → AreKnownStructs [] s.structs → structs ≡ struct_defs (after_items s items).structs → (more : List StructDef) × (structs ≡ struct_defs s.structs ++ more)
prefix-there structs tokens s items shape known e = on (structs-behind tokens s items shape)
  where
    on : (behind : List StructInfo) × ((after_items s items).structs ≡ s.structs ++ behind) → (more : List StructDef) × (structs ≡ struct_defs s.structs ++ more)
    on r = (map (struct_def (s.structs ++ r.0)) r.0, e ∙ (ap (λ l. struct_defs l) r.1 ∙ struct_defs-front s.structs r.0 known))
