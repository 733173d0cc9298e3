-- What items make, one behind the other.
use Rattle.std.proofs.Common.{◌≡◌, ◌∙◌, refl, sym, ap, subst, ℕ, Bool, true, false, if◌then◌else◌, List, [], ◌∷◌, ◌++◌, Option, None, Some, option_map, option_and_then, unwrap_or, append_assoc, append-nil}
use Rattle.hl_parser.specs.declared.tree.Tree.{Tree, Tree-F, out-Tree}
use Rattle.hl_parser.specs.declared.tree.Tree.TheVariants.{rolls-Buffer, rolls-Constant, rolls-Function, rolls-Item, rolls-Shared, rolls-Struct}
use Rattle.hl_parser.specs.declared.tree.Tree.TheVariants as variants
use Rattle.hl_parser.specs.Trees as plain
use Rattle.hl_parser.specs.Trees.{Trees, a_buffer, a_constant, a_function, a_shared, a_struct, an_item, at_of, more_trees, no_trees}
use Rattle.hl_parser.specs.Views.{plain_of}
use Rattle.hl_meaning.specs.Types.{Ty}
use Rattle.hl_meaning.specs.WellFormed.{AreThreads}
use Rattle.hl_rules.specs.Constants.{declarator_type, named_type}
use Rattle.hl_rules.specs.Declarations.{after_item, after_shared, buffer_info, constant_value, function_info, members_info, with_shared}
use Rattle.hl_rules.specs.Elaboration.{after_items, all_of_items, attribute_threads, both_lists, item_constants, item_functions, item_resources, item_shared, item_threads, items_program, of_items, one_of}
use Rattle.hl_rules.specs.Scopes.{Scope, a_function_name, named, spelled, with_global}
use Rattle.hl_rules.specs.Sites.{is_entry, item_sites}
use Rattle.hl_rules.proofs.Free.{IsFree}
use Rattle.hl_rules.proofs.FunctionEntry.{entry-threads, free-function}
use Rattle.hl_values.specs.ScopeChanges.{outside, with_buffer_named, with_constant_named, with_shared_named, with_struct_named}
use Rattle.hl_types.specs.Items.{AreMadeBy, IsMadeBy, Made, earliest, entry_threads, first_there, made_program}
use Rattle.hl_types.specs.Threads.{only_three}
use Rattle.hl_types.proofs.DeclaredShapes.{by_layer, layer, of_layer}

-- ---- trees that are no items

abbrev pub IsNoItem : Tree → Type 0
IsNoItem tree = (at : ℕ) (item : Tree) → tree ≡ variants.Item at item → ⊥

abbrev pub IsNoStruct : Tree → Type 0
IsNoStruct tree = (at name : ℕ) (members : List Tree) → tree ≡ variants.Struct at name members → ⊥

abbrev pub IsNoBuffer : Tree → Type 0
IsNoBuffer tree = (at : ℕ) (kind : Tree) (name : ℕ) (register space : Option ℕ) → tree ≡ variants.Buffer at kind name register space → ⊥

abbrev pub IsNoShared : Tree → Type 0
IsNoShared tree = (at : ℕ) (ty : Tree) (declarators : List Tree) → tree ≡ variants.Shared at ty declarators → ⊥

abbrev pub IsNoConstant : Tree → Type 0
IsNoConstant tree = (at : ℕ) (ty declarator init : Tree) → tree ≡ variants.Constant at ty declarator init → ⊥

abbrev pub IsNoFunction : Tree → Type 0
IsNoFunction tree = (at : ℕ) (attributes : List Tree) (result : Tree) (name : ℕ) (params : List Tree) (block : Tree) → tree ≡ variants.Function at attributes result name params block → ⊥

pub record NoItem (s : Scope) (t : plain.Tree) : Type 0 where
  pub after : after_item s t ≡ s
  pub found : item_sites s t ≡ []
  pub resources : item_resources s t ≡ []
  pub shared : item_shared s t ≡ []
  pub constants : item_constants s t ≡ []
  pub functions : item_functions s t ≡ Some []
  pub threads : item_threads s t ≡ Some []

item-none : (s : Scope) (tree : Tree) (form : Tree-F Tree) → out-Tree tree ≡ form → IsNoItem tree → IsNoStruct tree → IsNoBuffer tree → IsNoShared tree → IsNoConstant tree → IsNoFunction tree → NoItem s (layer form)
item-none s tree (Tree-F.Item at item) e i r b h c f = absurd (i at item (of_layer tree (Tree-F.Item at item) e ∙ rolls-Item at item))
item-none s tree (Tree-F.Struct at name members) e i r b h c f = absurd (r at name members (of_layer tree (Tree-F.Struct at name members) e ∙ rolls-Struct at name members))
item-none s tree (Tree-F.Buffer at kind name register space) e i r b h c f = absurd (b at kind name register space (of_layer tree (Tree-F.Buffer at kind name register space) e ∙ rolls-Buffer at kind name register space))
item-none s tree (Tree-F.Shared at ty declarators) e i r b h c f = absurd (h at ty declarators (of_layer tree (Tree-F.Shared at ty declarators) e ∙ rolls-Shared at ty declarators))
item-none s tree (Tree-F.Constant at ty declarator init) e i r b h c f = absurd (c at ty declarator init (of_layer tree (Tree-F.Constant at ty declarator init) e ∙ rolls-Constant at ty declarator init))
item-none s tree (Tree-F.Function at attributes result name params block) e i r b h c f = absurd (f at attributes result name params block (of_layer tree (Tree-F.Function at attributes result name params block) e ∙ rolls-Function at attributes result name params block))
item-none s tree form e i r b h c f = record { after = refl; found = refl; resources = refl; shared = refl; constants = refl; functions = refl; threads = refl }

pub no_item : (s : Scope) (tree : Tree) → IsNoItem tree → IsNoStruct tree → IsNoBuffer tree → IsNoShared tree → IsNoConstant tree → IsNoFunction tree → NoItem s (plain_of tree)
no_item s tree i r b h c f = subst (NoItem s) (sym (by_layer tree)) (item-none s tree (out-Tree tree) refl i r b h c f)

-- ---- between items nothing of a function is known

outside-shared : (ty : Option Ty) (s : Scope) (ts : Trees) → outside s ≡ s → outside (after_shared ty s ts) ≡ after_shared ty s ts
outside-shared ty s no_trees e = e
outside-shared ty s (more_trees first rest) e = outside-shared ty (with_shared ty s first) rest (ap (λ x. with_shared_named (at_of first) (declarator_type s ty first) x) e)

pub outside-item : (s : Scope) (t : plain.Tree) → outside s ≡ s → outside (after_item s t) ≡ after_item s t
outside-item s (an_item at item) e = outside-item s item e
outside-item s (a_struct at name members) e = ap (λ x. with_struct_named name (members_info s members) x) e
outside-item s (a_buffer at kind name register space) e = ap (λ x. with_buffer_named name (buffer_info s kind) x) e
outside-item s (a_shared at type declarators) e = outside-shared (named_type s type) s declarators e
outside-item s (a_constant at type declarator init) e =
    let own = declarator_type s (named_type s type) declarator in
    ap (λ x. with_constant_named (at_of declarator) own (constant_value s own init) x) e
outside-item s (a_function at attributes result name params block) e =
    ap (λ x. with_global (named (spelled s name) a_function_name) (record x { functions = s.functions ++ function_info s result name params ∷ [] })) e
outside-item s t e = e

-- ---- threads

earliest-none : {A : Type 0} (first : Option A) → earliest first [] ≡ first
earliest-none None = refl
earliest-none (Some x) = refl

earliest-one : {A : Type 0} (first : Option A) (x : A) → earliest first (x ∷ []) ≡ first_there first (Some x)
earliest-one None x = refl
earliest-one (Some y) x = refl

there-none : {A : Type 0} (first : Option A) → first_there first None ≡ first
there-none None = refl
there-none (Some x) = refl

three-only : (threads : List ℕ) → AreThreads threads → only_three (Some threads) ≡ Some threads
three-only [] h = absurd h
three-only (x ∷ []) h = absurd h
three-only (x ∷ y ∷ []) h = absurd h
three-only (x ∷ y ∷ z ∷ []) h = refl
three-only (x ∷ y ∷ z ∷ w ∷ more) h = absurd h

-- the threads of a function that breaks no rule
pub function-threads : (s : Scope) (at : ℕ) (attributes : Trees) (result : plain.Tree) (name : ℕ) (params : Trees) (block : plain.Tree) (before after : Option (List ℕ))
    → IsFree (item_sites s (a_function at attributes result name params block)) → after ≡ first_there before (entry_threads s name attributes)
    → option_map (λ lists. earliest before lists) (item_threads s (a_function at attributes result name params block)) ≡ Some after
function-threads s at attributes result name params block before after free e = by (is_entry s name) refl e
  where
    by : (b : Bool) → is_entry s name ≡ b → after ≡ first_there before (if b then only_three (attribute_threads s attributes) else None)
        → option_map (λ lists. earliest before lists) (if b then option_map (λ (threads : List ℕ). threads ∷ []) (attribute_threads s attributes) else Some []) ≡ Some after
    by true is h =
        let own = entry-threads s attributes result name params block is (free-function s at attributes result name params block free) in
        ap (λ o. option_map (λ lists. earliest before lists) (option_map (λ (threads : List ℕ). threads ∷ []) o)) own.is ∙
        ap Some (earliest-one before own.threads ∙ (ap (first_there before) (sym (ap only_three own.is ∙ three-only own.threads own.are)) ∙ sym h))
    by false is h = ap Some (earliest-none before ∙ (sym (there-none before) ∙ sym h))

-- ---- one item more

both-assoc : {A : Type 0} (a b c : Option (List A)) → both_lists (both_lists a b) c ≡ both_lists a (both_lists b c)
both-assoc None b c = refl
both-assoc (Some x) None c = refl
both-assoc (Some x) (Some y) None = refl
both-assoc (Some x) (Some y) (Some z) = ap Some (append_assoc x y z)

pub both-none : {A : Type 0} (a : Option (List A)) → both_lists a (Some []) ≡ a
both-none None = refl
both-none (Some x) = ap Some (append-nil x)

none-both : {A : Type 0} (a : Option (List A)) → both_lists (Some []) a ≡ a
none-both None = refl
none-both (Some x) = refl

earliest-both : {A : Type 0} (before : Option A) (a b : List A) → earliest before (a ++ b) ≡ earliest (earliest before a) b
earliest-both None [] b = refl
earliest-both None (x ∷ a) b = refl
earliest-both (Some y) a b = refl

same-some : {A : Type 0} {x y : A} → Some x ≡ Some y → x ≡ y
same-some {x = x} e = ap (λ o. unwrap_or o x) e

threads-more : {A : Type 0} (before mid after : Option A) (a b : Option (List A))
    → option_map (λ lists. earliest before lists) a ≡ Some mid → option_map (λ lists. earliest mid lists) b ≡ Some after
    → option_map (λ lists. earliest before lists) (both_lists a b) ≡ Some after
threads-more before mid after None b e f = absurd (cc e)
threads-more before mid after (Some x) None e f = absurd (cc f)
threads-more before mid after (Some x) (Some y) e f =
    ap Some (earliest-both before x y ∙ ap (λ m. earliest m y) (same-some e)) ∙ f

list-more : {A : Type 0} (before mid after a b : List A) → mid ≡ before ++ a → after ≡ mid ++ b → after ≡ before ++ (a ++ b)
list-more before mid after a b e f = f ∙ (ap (λ l. l ++ b) e ∙ append_assoc before a b)

pub more-made : (s : Scope) (t : plain.Tree) (rest : Trees) (before mid after : Made) → IsMadeBy s t before mid → AreMadeBy (after_item s t) rest mid after → AreMadeBy s (more_trees t rest) before after
more-made s t rest before mid after one more = record {
  resources = list-more before.resources mid.resources after.resources (item_resources s t) (of_items item_resources (after_item s t) rest) one.resources more.resources;
  shared = list-more before.shared mid.shared after.shared (item_shared s t) (of_items item_shared (after_item s t) rest) one.shared more.shared;
  constants = list-more before.constants mid.constants after.constants (item_constants s t) (of_items item_constants (after_item s t) rest) one.constants more.constants;
  functions =
      more.functions ∙ (ap (λ o. both_lists o (all_of_items item_functions (after_item s t) rest)) one.functions ∙
      both-assoc before.functions (item_functions s t) (all_of_items item_functions (after_item s t) rest));
  threads = threads-more before.threads mid.threads after.threads (item_threads s t) (all_of_items item_threads (after_item s t) rest) one.threads more.threads;
}

-- and none
pub none-made : (s : Scope) (made : Made) → AreMadeBy s no_trees made made
none-made s made = record {
  resources = sym (append-nil made.resources);
  shared = sym (append-nil made.shared);
  constants = sym (append-nil made.constants);
  functions = sym (both-none made.functions);
  threads = ap Some (earliest-none made.threads);
}

-- a tree that is no item makes nothing
pub no-made : (s : Scope) (t : plain.Tree) (made : Made) → NoItem s t → IsMadeBy s t made made
no-made s t made none = record {
  resources = sym (append-nil made.resources) ∙ ap (λ l. made.resources ++ l) (sym none.resources);
  shared = sym (append-nil made.shared) ∙ ap (λ l. made.shared ++ l) (sym none.shared);
  constants = sym (append-nil made.constants) ∙ ap (λ l. made.constants ++ l) (sym none.constants);
  functions = sym (both-none made.functions) ∙ ap (both_lists made.functions) (sym none.functions);
  threads = ap (λ o. option_map (λ lists. earliest made.threads lists) o) none.threads ∙ ap Some (earliest-none made.threads);
}

pub earliest-same : (before after : Option (List ℕ)) → after ≡ before → option_map (λ lists. earliest before lists) (Some []) ≡ Some after
earliest-same before after e = ap Some (earliest-none before ∙ sym e)

-- ---- the whole

abbrev pub nothing : Made
nothing = record { resources = []; shared = []; constants = []; functions = Some []; threads = None }

first-of : {A : Type 0} (lists : Option (List A)) (threads : Option A) → option_map (λ l. earliest None l) lists ≡ Some threads → threads ≡ option_and_then one_of lists
first-of None threads e = absurd (cc e)
first-of (Some l) threads e = sym (same-some e)

pub program-made : (s after : Scope) (trees : Trees) (made : Made) → after ≡ after_items s trees → AreMadeBy s trees nothing made → made_program after made ≡ items_program s trees
program-made s after trees made e are =
    ap (λ (x : Scope). made_program x made) e ∙
    (ap (λ l. made_program (after_items s trees) (record made { resources = l })) are.resources ∙
    (ap (λ l. made_program (after_items s trees) (record made { resources = of_items item_resources s trees; shared = l })) are.shared ∙
    (ap (λ l. made_program (after_items s trees) (record made { resources = of_items item_resources s trees; shared = of_items item_shared s trees; constants = l })) are.constants ∙
    (ap (λ o. made_program (after_items s trees) (record { resources = of_items item_resources s trees; shared = of_items item_shared s trees; constants = of_items item_constants s trees; functions = o; threads = made.threads })) (are.functions ∙ none-both (all_of_items item_functions s trees)) ∙
    ap (λ o. made_program (after_items s trees) (record { resources = of_items item_resources s trees; shared = of_items item_shared s trees; constants = of_items item_constants s trees; functions = all_of_items item_functions s trees; threads = o })) (first-of (all_of_items item_threads s trees) made.threads are.threads)))))
