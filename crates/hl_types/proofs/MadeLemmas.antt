-- What one item makes, by its form.
use Rattle.std.proofs.Common.{◌≡◌, ◌∙◌, sym, ap, subst, ℕ, List, [], ◌∷◌, ◌++◌, Option, None, Some, option_map, append-nil}
use Rattle.hl_parser.specs.Trees.{Tree, Trees, a_buffer, a_constant, a_function, a_shared, a_struct, an_item}
use Rattle.hl_meaning.specs.declared.program.Constant.{Constant as HeldConstant}
use Rattle.hl_meaning.specs.declared.program.FunctionDef.{FunctionDef as HeldFunction}
use Rattle.hl_meaning.specs.declared.program.Resource.{Resource as HeldResource}
use Rattle.hl_meaning.specs.declared.program.Variable.{Variable as HeldVariable}
use Rattle.hl_meaning.specs.Programs.{FunctionDef}
use Rattle.hl_rules.specs.Constants.{named_type}
use Rattle.hl_rules.specs.Declarations.{buffer_info}
use Rattle.hl_rules.specs.Elaboration.{both_lists, declared_constant, declared_shared, function_def, resource}
use Rattle.hl_rules.specs.Scopes.{Scope}
use Rattle.hl_rules.specs.Sites.{item_sites}
use Rattle.hl_rules.proofs.Free.{IsFree}
use Rattle.hl_types.specs.declared.items.Gathered.{Gathered}
use Rattle.hl_types.specs.Items.{IsMadeBy, Made, entry_threads, first_there, made_of}
use Rattle.hl_types.proofs.ItemLemmas.{both-none, earliest-same, function-threads, nothing}

abbrev pub gathered_of : List HeldResource → List HeldVariable → List HeldConstant → List HeldFunction → Gathered
gathered_of resources shared constants functions = record { resources = resources; shared = shared; constants = constants; functions = Some functions; threads = None }

pub made-none : (resources : List HeldResource) (shared : List HeldVariable) (constants : List HeldConstant) (functions : List HeldFunction) → resources ≡ [] → shared ≡ [] → constants ≡ [] → functions ≡ []
    → made_of (gathered_of resources shared constants functions) ≡ nothing
made-none resources shared constants functions r v c f =
    ap (λ x. made_of (gathered_of x shared constants functions)) r ∙
    (ap (λ x. made_of (gathered_of [] x constants functions)) v ∙
    (ap (λ x. made_of (gathered_of [] [] x functions)) c ∙ ap (λ x. made_of (gathered_of [] [] [] x)) f))

pub item-made : (s : Scope) (t : Tree) (at : ℕ) (item : Tree) (before after : Made) → t ≡ an_item at item → IsMadeBy s item before after → IsMadeBy s t before after
item-made s t at item before after e made =
    subst (λ x. IsMadeBy s x before after) (sym e)
    (record { resources = made.resources; shared = made.shared; constants = made.constants; functions = made.functions; threads = made.threads })

pub struct-made : (s : Scope) (t : Tree) (at name : ℕ) (members : Trees) (before after : Made) → t ≡ a_struct at name members → after ≡ before → IsMadeBy s t before after
struct-made s t at name members before after e same =
    subst (λ x. IsMadeBy s x before after) (sym e)
    (record {
      resources = ap (λ (m : Made). m.resources) same ∙ sym (append-nil before.resources);
      shared = ap (λ (m : Made). m.shared) same ∙ sym (append-nil before.shared);
      constants = ap (λ (m : Made). m.constants) same ∙ sym (append-nil before.constants);
      functions = ap (λ (m : Made). m.functions) same ∙ sym (both-none before.functions);
      threads = earliest-same before.threads after.threads (ap (λ (m : Made). m.threads) same);
    })

pub buffer-made : (s : Scope) (t : Tree) (at : ℕ) (kind : Tree) (name : ℕ) (register space : Option ℕ) (before after : Made) → t ≡ a_buffer at kind name register space
    → after ≡ record before { resources = before.resources ++ resource s (buffer_info s kind) name register space ∷ [] } → IsMadeBy s t before after
buffer-made s t at kind name register space before after e same =
    subst (λ x. IsMadeBy s x before after) (sym e)
    (record {
      resources = ap (λ (m : Made). m.resources) same;
      shared = ap (λ (m : Made). m.shared) same ∙ sym (append-nil before.shared);
      constants = ap (λ (m : Made). m.constants) same ∙ sym (append-nil before.constants);
      functions = ap (λ (m : Made). m.functions) same ∙ sym (both-none before.functions);
      threads = earliest-same before.threads after.threads (ap (λ (m : Made). m.threads) same);
    })

pub shared-made : (s : Scope) (t : Tree) (at : ℕ) (type : Tree) (declarators : Trees) (before after : Made) → t ≡ a_shared at type declarators
    → after ≡ record before { shared = before.shared ++ declared_shared (named_type s type) s declarators } → IsMadeBy s t before after
shared-made s t at type declarators before after e same =
    subst (λ x. IsMadeBy s x before after) (sym e)
    (record {
      resources = ap (λ (m : Made). m.resources) same ∙ sym (append-nil before.resources);
      shared = ap (λ (m : Made). m.shared) same;
      constants = ap (λ (m : Made). m.constants) same ∙ sym (append-nil before.constants);
      functions = ap (λ (m : Made). m.functions) same ∙ sym (both-none before.functions);
      threads = earliest-same before.threads after.threads (ap (λ (m : Made). m.threads) same);
    })

pub constant-made : (s : Scope) (t : Tree) (at : ℕ) (type declarator init : Tree) (before after : Made) → t ≡ a_constant at type declarator init
    → after ≡ record before { constants = before.constants ++ declared_constant s (named_type s type) declarator init ∷ [] } → IsMadeBy s t before after
constant-made s t at type declarator init before after e same =
    subst (λ x. IsMadeBy s x before after) (sym e)
    (record {
      resources = ap (λ (m : Made). m.resources) same ∙ sym (append-nil before.resources);
      shared = ap (λ (m : Made). m.shared) same ∙ sym (append-nil before.shared);
      constants = ap (λ (m : Made). m.constants) same;
      functions = ap (λ (m : Made). m.functions) same ∙ sym (both-none before.functions);
      threads = earliest-same before.threads after.threads (ap (λ (m : Made). m.threads) same);
    })

pub function-made : (s : Scope) (t : Tree) (at : ℕ) (attributes : Trees) (result : Tree) (name : ℕ) (params : Trees) (block : Tree) (before after : Made)
    → t ≡ a_function at attributes result name params block → IsFree (item_sites s t)
    → after.resources ≡ before.resources → after.shared ≡ before.shared → after.constants ≡ before.constants
    → after.functions ≡ both_lists before.functions (option_map (λ (f : FunctionDef). f ∷ []) (function_def s result name params block))
    → after.threads ≡ first_there before.threads (entry_threads s name attributes)
    → IsMadeBy s t before after
function-made s t at attributes result name params block before after e free resources shared constants functions threads =
    subst (λ x. IsMadeBy s x before after) (sym e)
    (record {
      resources = resources ∙ sym (append-nil before.resources);
      shared = shared ∙ sym (append-nil before.shared);
      constants = constants ∙ sym (append-nil before.constants);
      functions = functions;
      threads = function-threads s at attributes result name params block before.threads after.threads (subst (λ x. IsFree (item_sites s x)) e free) threads;
    })
