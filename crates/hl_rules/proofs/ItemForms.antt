-- What items leave as it is: only functions change the functions that are known.
use Rattle.std.proofs.Common.{◌≡◌, refl, ap, ℕ, Bool, List, [], ◌∷◌, Option, None, Some}
use Rattle.std.specs.Prelude.{◌||◌, bytes_eq}
use Rattle.std.specs.List.{list_any}
use Rattle.hl_parser.specs.Trees.{Tree, Trees, a_buffer, a_constant, a_function, a_shared, a_struct, an_item, more_trees, no_trees}
use Rattle.hl_meaning.specs.Types.{Ty}
use Rattle.hl_rules.specs.Declarations.{after_item, after_shared, at_params, with_shared}
use Rattle.hl_rules.specs.Elaboration.{both_lists, item_functions, item_threads}
use Rattle.hl_rules.specs.Scopes.{FunctionInfo, Scope, is_function}
use Rattle.hl_rules.proofs.InputForms.{AreKnownParams}

-- the parameters of a function have types
abbrev pub IsKnownItem : Scope → Tree → Type 0
IsKnownItem s (an_item at item) = IsKnownItem s item
IsKnownItem s (a_function at attributes result name params block) = AreKnownParams (at_params s result) params
IsKnownItem s _ = Unit {0}

abbrev pub AreKnownItems : Scope → Trees → Type 0
AreKnownItems s no_trees = Unit {0}
AreKnownItems s (more_trees first rest) = IsKnownItem s first × AreKnownItems (after_item s first) rest

-- whether one of these functions has a name
abbrev pub is_named : List ℕ → FunctionInfo → Bool
is_named name f = bytes_eq f.name name

is_function-listed : (s : Scope) (functions : List FunctionInfo) (name : List ℕ) → is_function (record s { functions = functions }) name ≡ list_any (is_named name) functions
is_function-listed s [] name = refl
is_function-listed s (f ∷ functions) name = ap (λ b. bytes_eq f.name name || b) (is_function-listed s functions name)

pub is_function-any : (s : Scope) (name : List ℕ) → is_function s name ≡ list_any (is_named name) s.functions
is_function-any s name = is_function-listed s s.functions name

-- ---- items that are no functions

pub record IsOther (s : Scope) (item : Tree) : Type 0 where
  pub functions : item_functions s item ≡ Some []
  pub threads : item_threads s item ≡ Some []
  pub kept : (after_item s item).functions ≡ s.functions
  pub entry : (after_item s item).entry ≡ s.entry
  pub tokens : (after_item s item).tokens ≡ s.tokens

shared-functions : (ty : Option Ty) (s : Scope) (declarators : Trees) → (after_shared ty s declarators).functions ≡ s.functions
shared-functions ty s no_trees = refl
shared-functions ty s (more_trees first rest) = shared-functions ty (with_shared ty s first) rest

shared-entry : (ty : Option Ty) (s : Scope) (declarators : Trees) → (after_shared ty s declarators).entry ≡ s.entry
shared-entry ty s no_trees = refl
shared-entry ty s (more_trees first rest) = shared-entry ty (with_shared ty s first) rest

shared-tokens : (ty : Option Ty) (s : Scope) (declarators : Trees) → (after_shared ty s declarators).tokens ≡ s.tokens
shared-tokens ty s no_trees = refl
shared-tokens ty s (more_trees first rest) = shared-tokens ty (with_shared ty s first) rest

pub other-struct : (s : Scope) (at place name : ℕ) (members : Trees) → IsOther s (an_item place (a_struct at name members))
other-struct s at place name members = record { functions = refl; threads = refl; kept = refl; entry = refl; tokens = refl }

pub other-buffer : (s : Scope) (at place : ℕ) (kind : Tree) (name : ℕ) (register space : Option ℕ) → IsOther s (an_item place (a_buffer at kind name register space))
other-buffer s at place kind name register space = record { functions = refl; threads = refl; kept = refl; entry = refl; tokens = refl }

pub other-shared : (s : Scope) (at place : ℕ) (type : Tree) (declarators : Trees) → IsOther s (an_item place (a_shared at type declarators))
other-shared s at place type declarators = record {
  functions = refl;
  threads = refl;
  kept = shared-functions _ s declarators;
  entry = shared-entry _ s declarators;
  tokens = shared-tokens _ s declarators;
}

pub other-constant : (s : Scope) (at place : ℕ) (type declarator init : Tree) → IsOther s (an_item place (a_constant at type declarator init))
other-constant s at place type declarator init = record { functions = refl; threads = refl; kept = refl; entry = refl; tokens = refl }

pub no-list : {A : Type 0} (o : Option (List A)) → both_lists (Some []) o ≡ o
no-list None = refl
no-list (Some x) = refl
