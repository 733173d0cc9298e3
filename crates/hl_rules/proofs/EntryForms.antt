-- Of items that break no rule one function is the entry, and it has threads.
use Rattle.std.proofs.Common.{◌≡◌, ◌∙◌, refl, sym, ap, ℕ, Bool, true, false, if◌then◌else◌, not, List, [], ◌∷◌, ◌++◌, Some, append_assoc}
use Rattle.std.specs.Prelude.{◌&&◌, ◌||◌, bytes_eq, option_map}
use Rattle.std.specs.List.{list_any}
use Rattle.std.proofs.lemmas.List.{append-nil}
use Rattle.std.proofs.lemmas.List.Folds.{list_any-append}
use Rattle.std.proofs.lemmas.Option.{same_Some}
use Rattle.hl_lexer.specs.Tokens.{Lexeme}
use Rattle.hl_parser.specs.Trees.{Tree, Trees, a_buffer, a_constant, a_function, a_shared, a_struct, an_item, more_trees, no_trees}
use Rattle.hl_meaning.specs.Programs.{FunctionDef}
use Rattle.hl_rules.specs.Declarations.{after_item, function_info, with_function}
use Rattle.hl_rules.specs.Elaboration.{after_items, all_of_items, attribute_threads, both_lists, function_def, item_functions, item_threads}
use Rattle.hl_rules.specs.Scopes.{FunctionInfo, Scope, is_function, spelled}
use Rattle.hl_rules.specs.Sites.{is_entry, item_sites, items_sites}
use Rattle.hl_rules.proofs.Free.{IsFree, free-left, free-right, not_broken}
use Rattle.hl_rules.proofs.FunctionEntry.{IsFreeFunction, free-function}
use Rattle.hl_rules.proofs.ItemForms.{IsOther, is_function-any, is_named, no-list, other-buffer, other-constant, other-shared, other-struct}
use Rattle.hl_rules.proofs.Options.{IsMapped, IsOfTwo, mapped-there, same-text, two-there}
use Rattle.hl_rules.proofs.TreeShapes.{AllTrees, IsItem}

pub free-item : (s : Scope) (first : Tree) (rest : Trees) → IsFree (items_sites s (more_trees first rest)) → IsFree (item_sites s first)
free-item s first rest free = free-left (item_sites s first) (items_sites (after_item s first) rest) free

pub free-items : (s : Scope) (first : Tree) (rest : Trees) → IsFree (items_sites s (more_trees first rest)) → IsFree (items_sites (after_item s first) rest)
free-items s first rest free = free-right (item_sites s first) (items_sites (after_item s first) rest) free

-- ---- whether a function is the entry

-- behind the entry none is
no-entry : (s : Scope) (name : ℕ) → is_function s s.entry ≡ true → bytes_eq (spelled s name) s.entry && is_function s s.entry ≡ false → (bytes_eq (spelled s name) s.entry ≡ false)
no-entry s name e h = on (bytes_eq (spelled s name) s.entry) (ap (λ b. bytes_eq (spelled s name) s.entry && b) (sym e) ∙ h)
  where
    on : (named : Bool) → named && true ≡ false → named ≡ false
    on false k = refl
    on true k = absurd (cc k)

-- before it the first of its name is
pub is-entry : (s : Scope) (name : ℕ) → is_function s s.entry ≡ false → bytes_eq (spelled s name) s.entry ≡ true → is_entry s name ≡ true
is-entry s name e h =
    ap (λ b. b && not (is_function s (spelled s name))) h
    ∙ (ap (λ text. not (is_function s text)) (same-text (spelled s name) s.entry h) ∙ ap (λ b. not b) e)

pub not-entry : (s : Scope) (name : ℕ) → bytes_eq (spelled s name) s.entry ≡ false → is_entry s name ≡ false
not-entry s name h = ap (λ b. b && not (is_function s (spelled s name))) h

-- ---- the functions of items

-- a function is made, and those behind it are
pub record IsMadeFunction (s : Scope) (result : Tree) (name : ℕ) (params : Trees) (block : Tree) (rest : Trees) (defs : List FunctionDef) : Type 0 where
  pub f : FunctionDef
  pub made : function_def s result name params block ≡ Some f
  pub others : List FunctionDef
  pub behind : all_of_items item_functions (with_function s result name params) rest ≡ Some others
  pub is : f ∷ others ≡ defs

pub function-made : (s : Scope) (result : Tree) (name : ℕ) (params : Trees) (block : Tree) (rest : Trees) (defs : List FunctionDef) → both_lists (option_map (λ (f : FunctionDef). f ∷ []) (function_def s result name params block)) (all_of_items item_functions (with_function s result name params) rest) ≡ Some defs → IsMadeFunction s result name params block rest defs
function-made s result name params block rest defs e = record {
  f = own.from;
  made = own.is;
  others = parts.other;
  behind = parts.is_other;
  is = ap (λ l. l ++ parts.other) own.gives ∙ same_Some (parts.one ++ parts.other) defs parts.gives;
}
  where
    parts : IsOfTwo (λ a b. Some (a ++ b)) (option_map (λ (f : FunctionDef). f ∷ []) (function_def s result name params block)) (all_of_items item_functions (with_function s result name params) rest) defs
    parts = two-there (λ a b. Some (a ++ b)) (option_map (λ (f : FunctionDef). f ∷ []) (function_def s result name params block)) (all_of_items item_functions (with_function s result name params) rest) defs e

    own : IsMapped (λ (f : FunctionDef). f ∷ []) (function_def s result name params block) parts.one
    own = mapped-there (λ (f : FunctionDef). f ∷ []) (function_def s result name params block) parts.one parts.is_one

pub other-made : (s : Scope) (item : Tree) (rest : Trees) (defs : List FunctionDef) → IsOther s item → all_of_items item_functions s (more_trees item rest) ≡ Some defs → all_of_items item_functions (after_item s item) rest ≡ Some defs
other-made s item rest defs other e =
    sym (no-list (all_of_items item_functions (after_item s item) rest))
    ∙ (ap (λ o. both_lists o (all_of_items item_functions (after_item s item) rest)) (sym other.functions) ∙ e)

-- the functions that are known stay in front
pub functions-behind : (tokens : List Lexeme) (s : Scope) (items : Trees) → AllTrees (IsItem tokens) items → (behind : List FunctionInfo) × ((after_items s items).functions ≡ s.functions ++ behind)
functions-behind tokens s no_trees shape = ([], sym (append-nil s.functions))
functions-behind tokens s (more_trees (an_item place (a_function at attributes result name params block)) rest) shape = on (functions-behind tokens (with_function s result name params) rest shape.1)
  where
    on : (behind : List FunctionInfo) × ((after_items (with_function s result name params) rest).functions ≡ (s.functions ++ function_info s result name params ∷ []) ++ behind) → (behind : List FunctionInfo) × ((after_items (with_function s result name params) rest).functions ≡ s.functions ++ behind)
    on r = (function_info s result name params ∷ r.0, r.1 ∙ append_assoc s.functions (function_info s result name params ∷ []) r.0)
functions-behind tokens s (more_trees (an_item place (a_struct at name members)) rest) shape = functions-behind tokens (after_item s (a_struct at name members)) rest shape.1
functions-behind tokens s (more_trees (an_item place (a_buffer at kind name register space)) rest) shape = functions-behind tokens (after_item s (a_buffer at kind name register space)) rest shape.1
functions-behind tokens s (more_trees (an_item place (a_constant at type declarator init)) rest) shape = functions-behind tokens (after_item s (a_constant at type declarator init)) rest shape.1
functions-behind tokens s (more_trees (an_item place (a_shared at type declarators)) rest) shape = on (functions-behind tokens (after_item s (a_shared at type declarators)) rest shape.1)
  where
    on : (behind : List FunctionInfo) × ((after_items (after_item s (a_shared at type declarators)) rest).functions ≡ (after_item s (a_shared at type declarators)).functions ++ behind) → (behind : List FunctionInfo) × ((after_items (after_item s (a_shared at type declarators)) rest).functions ≡ s.functions ++ behind)
    on r = (r.0, r.1 ∙ ap (λ l. l ++ r.0) (other-shared s at place type declarators).kept)
functions-behind tokens s (more_trees other rest) shape = absurd shape.0

-- ---- behind the entry

still-function : (s : Scope) (result : Tree) (name : ℕ) (params : Trees) → is_function s s.entry ≡ true → is_function (with_function s result name params) s.entry ≡ true
still-function s result name params e =
    is_function-any (with_function s result name params) s.entry
    ∙ (list_any-append (is_named s.entry) s.functions (function_info s result name params ∷ [])
    ∙ ap (λ b. b || list_any (is_named s.entry) (function_info s result name params ∷ [])) (sym (is_function-any s s.entry) ∙ e))

pub other-function : (s : Scope) (item : Tree) → IsOther s item → is_function (after_item s item) (after_item s item).entry ≡ is_function s s.entry
other-function s item other =
    is_function-any (after_item s item) (after_item s item).entry
    ∙ (ap (λ l. list_any (is_named (after_item s item).entry) l) other.kept
    ∙ (ap (λ n. list_any (is_named n) s.functions) other.entry ∙ sym (is_function-any s s.entry)))

pub other-threads : (s : Scope) (item : Tree) (rest : Trees) → IsOther s item → all_of_items item_threads s (more_trees item rest) ≡ all_of_items item_threads (after_item s item) rest
other-threads s item rest other =
    ap (λ o. both_lists o (all_of_items item_threads (after_item s item) rest)) other.threads ∙ no-list (all_of_items item_threads (after_item s item) rest)

pub no-threads : (tokens : List Lexeme) (s : Scope) (items : Trees) → AllTrees (IsItem tokens) items → IsFree (items_sites s items) → is_function s s.entry ≡ true → all_of_items item_threads s items ≡ Some []
no-threads tokens s no_trees shape free e = refl
no-threads tokens s (more_trees (an_item place (a_function at attributes result name params block)) rest) shape free e =
    ap (λ b. both_lists (if b then option_map (λ (threads : List ℕ). threads ∷ []) (attribute_threads s attributes) else Some []) (all_of_items item_threads (with_function s result name params) rest))
    (not-entry s name (no-entry s name e (not_broken (bytes_eq (spelled s name) s.entry && is_function s s.entry) name own.whole.obeys_13)))
    ∙ (no-list (all_of_items item_threads (with_function s result name params) rest)
    ∙ no-threads tokens (with_function s result name params) rest shape.1 (free-items s (an_item place (a_function at attributes result name params block)) rest free) (still-function s result name params e))
  where
    own : IsFreeFunction s attributes result name params block
    own = free-function s at attributes result name params block (free-item s (an_item place (a_function at attributes result name params block)) rest free)
no-threads tokens s (more_trees (an_item place (a_struct at name members)) rest) shape free e =
    other-threads s (an_item place (a_struct at name members)) rest (other-struct s at place name members)
    ∙ no-threads tokens (after_item s (a_struct at name members)) rest shape.1 (free-items s (an_item place (a_struct at name members)) rest free) (other-function s (an_item place (a_struct at name members)) (other-struct s at place name members) ∙ e)
no-threads tokens s (more_trees (an_item place (a_buffer at kind name register space)) rest) shape free e =
    other-threads s (an_item place (a_buffer at kind name register space)) rest (other-buffer s at place kind name register space)
    ∙ no-threads tokens (after_item s (a_buffer at kind name register space)) rest shape.1 (free-items s (an_item place (a_buffer at kind name register space)) rest free) (other-function s (an_item place (a_buffer at kind name register space)) (other-buffer s at place kind name register space) ∙ e)
no-threads tokens s (more_trees (an_item place (a_shared at type declarators)) rest) shape free e =
    other-threads s (an_item place (a_shared at type declarators)) rest (other-shared s at place type declarators)
    ∙ no-threads tokens (after_item s (a_shared at type declarators)) rest shape.1 (free-items s (an_item place (a_shared at type declarators)) rest free) (other-function s (an_item place (a_shared at type declarators)) (other-shared s at place type declarators) ∙ e)
no-threads tokens s (more_trees (an_item place (a_constant at type declarator init)) rest) shape free e =
    other-threads s (an_item place (a_constant at type declarator init)) rest (other-constant s at place type declarator init)
    ∙ no-threads tokens (after_item s (a_constant at type declarator init)) rest shape.1 (free-items s (an_item place (a_constant at type declarator init)) rest free) (other-function s (an_item place (a_constant at type declarator init)) (other-constant s at place type declarator init) ∙ e)
no-threads tokens s (more_trees other rest) shape free e = absurd shape.0
