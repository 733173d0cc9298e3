-- Items that break no rule have an entry, with threads.
use Rattle.std.proofs.Common.{◌≡◌, ◌∙◌, refl, sym, ap, ℕ, suc, ◌+◌, ◌<◌, Bool, true, false, if◌then◌else◌, not, List, [], ◌∷◌, ◌++◌, length, None, Some, append_assoc, arith}
use Rattle.std.specs.Prelude.{◌||◌, bytes_eq, cond, nat_lt, option_map, position, slice_get}
use Rattle.std.specs.List.{list_any, position_or_len}
use Rattle.std.proofs.lemmas.List.{length-append}
use Rattle.std.proofs.lemmas.List.Folds.{list_any-append}
use Rattle.hl_lexer.specs.Tokens.{Lexeme}
use Rattle.hl_parser.specs.Trees.{Tree, Trees, a_buffer, a_constant, a_function, a_shared, a_struct, an_item, more_trees, no_trees}
use Rattle.hl_meaning.specs.Programs.{FunctionDef}
use Rattle.hl_meaning.specs.WellFormed.{AreThreads, IsEntry}
use Rattle.hl_rules.specs.Declarations.{after_item, function_info, with_function}
use Rattle.hl_rules.specs.Elaboration.{after_items, all_of_items, attribute_threads, both_lists, entry_number, item_functions, item_threads}
use Rattle.hl_rules.specs.Parts.{an_end, site}
use Rattle.hl_rules.specs.Scopes.{FunctionInfo, Scope, is_function, spelled}
use Rattle.hl_rules.specs.Sites.{items_sites}
use Rattle.hl_rules.proofs.EntryForms.{IsMadeFunction, free-item, free-items, function-made, functions-behind, is-entry, no-threads, not-entry, other-function, other-made, other-threads}
use Rattle.hl_rules.proofs.Free.{IsFree, free-first, not_broken}
use Rattle.hl_rules.proofs.FunctionEntry.{IsFreeFunction, entry-kept, entry-threads, free-function}
use Rattle.hl_rules.proofs.ItemForms.{AreKnownItems, IsOther, is_function-any, is_named, other-buffer, other-constant, other-shared, other-struct}
use Rattle.hl_rules.proofs.ThreadForms.{HasThreads}
use Rattle.hl_rules.proofs.TreeShapes.{AllTrees, IsItem}
use Rattle.hl_rules.proofs.Options.{not-false}

-- One of the functions is the entry, the first one of its name, and there are its threads.
pub record HasEntry (s : Scope) (items : Trees) (defs : List FunctionDef) : Type 0 where
  pub before : List FunctionInfo
  pub info : FunctionInfo
  pub after : List FunctionInfo
  pub functions : (after_items s items).functions ≡ s.functions ++ (before ++ info ∷ after)
  pub first : list_any (is_named s.entry) before ≡ false
  pub named : is_named s.entry info ≡ true
  pub f : FunctionDef
  pub at : slice_get defs (length before) ≡ Some f
  pub kept : IsEntry f
  pub threads : List ℕ
  pub is : all_of_items item_threads s items ≡ Some (threads ∷ [])
  pub are : AreThreads threads

-- an item that is no function changes nothing of it
other-entry : (s : Scope) (item : Tree) (rest : Trees) (defs : List FunctionDef) → IsOther s item → HasEntry (after_item s item) rest defs → HasEntry s (more_trees item rest) defs
other-entry s item rest defs other found = record {
  before = found.before;
  info = found.info;
  after = found.after;
  functions = found.functions ∙ ap (λ l. l ++ (found.before ++ found.info ∷ found.after)) other.kept;
  first = ap (λ n. list_any (is_named n) found.before) (sym other.entry) ∙ found.first;
  named = ap (λ n. is_named n found.info) (sym other.entry) ∙ found.named;
  f = found.f;
  at = found.at;
  kept = found.kept;
  threads = found.threads;
  is = other-threads s item rest other ∙ found.is;
  are = found.are;
}

module _ (tokens : List Lexeme) (s : Scope) (place at : ℕ) (attributes : Trees) (result : Tree) (name : ℕ) (params : Trees) (block : Tree) (rest : Trees) where
  -- the entry itself
  here-entry : (defs : List FunctionDef) → AllTrees (IsItem tokens) (more_trees (an_item place (a_function at attributes result name params block)) rest) → AreKnownItems s (more_trees (an_item place (a_function at attributes result name params block)) rest) → IsFree (items_sites s (more_trees (an_item place (a_function at attributes result name params block)) rest)) → IsMadeFunction s result name params block rest defs → is_function s s.entry ≡ false → bytes_eq (spelled s name) s.entry ≡ true → HasEntry s (more_trees (an_item place (a_function at attributes result name params block)) rest) defs
  here-entry defs shape known free made e h = record {
    before = [];
    info = function_info s result name params;
    after = (functions-behind tokens (with_function s result name params) rest shape.1).0;
    functions = (functions-behind tokens (with_function s result name params) rest shape.1).1 ∙ append_assoc s.functions (function_info s result name params ∷ []) (functions-behind tokens (with_function s result name params) rest shape.1).0;
    first = refl;
    named = h;
    f = made.f;
    at = ap (λ l. slice_get l 0) (sym made.is);
    kept = entry-kept s tokens attributes result name params block made.f (is-entry s name e h) own shape.0.2 known.0 made.made;
    threads = threads.threads;
    is =
        ap (λ b. both_lists (if b then option_map (λ (t : List ℕ). t ∷ []) (attribute_threads s attributes) else Some []) (all_of_items item_threads (with_function s result name params) rest)) (is-entry s name e h)
        ∙ (ap (λ o. both_lists (option_map (λ (t : List ℕ). t ∷ []) o) (all_of_items item_threads (with_function s result name params) rest)) threads.is
        ∙ ap (λ o. both_lists (Some (threads.threads ∷ [])) o)
        (no-threads tokens (with_function s result name params) rest shape.1 (free-items s (an_item place (a_function at attributes result name params block)) rest free)
        (is_function-any (with_function s result name params) s.entry
        ∙ (list_any-append (is_named s.entry) s.functions (function_info s result name params ∷ [])
        ∙ (ap (λ b. b || list_any (is_named s.entry) (function_info s result name params ∷ [])) (sym (is_function-any s s.entry) ∙ e) ∙ ap (λ b. b || false) h)))));
    are = threads.are;
  }
    where
      own : IsFreeFunction s attributes result name params block
      own = free-function s at attributes result name params block (free-item s (an_item place (a_function at attributes result name params block)) rest free)

      threads : HasThreads (attribute_threads s attributes)
      threads = entry-threads s attributes result name params block (is-entry s name e h) own

  -- a function in front of the entry
  later-entry : (defs : List FunctionDef) (made : IsMadeFunction s result name params block rest defs) → bytes_eq (spelled s name) s.entry ≡ false → HasEntry (with_function s result name params) rest made.others → HasEntry s (more_trees (an_item place (a_function at attributes result name params block)) rest) defs
  later-entry defs made h found = record {
    before = function_info s result name params ∷ found.before;
    info = found.info;
    after = found.after;
    functions = found.functions ∙ append_assoc s.functions (function_info s result name params ∷ []) (found.before ++ found.info ∷ found.after);
    first = ap (λ b. b || list_any (is_named s.entry) found.before) h ∙ found.first;
    named = found.named;
    f = found.f;
    at = ap (λ l. slice_get l (suc (length found.before))) (sym made.is) ∙ found.at;
    kept = found.kept;
    threads = found.threads;
    is =
        ap (λ b. both_lists (if b then option_map (λ (t : List ℕ). t ∷ []) (attribute_threads s attributes) else Some []) (all_of_items item_threads (with_function s result name params) rest)) (not-entry s name h)
        ∙ ap (λ o. both_lists (Some []) o) found.is;
    are = found.are;
  }

  still-none : is_function s s.entry ≡ false → bytes_eq (spelled s name) s.entry ≡ false → is_function (with_function s result name params) s.entry ≡ false
  still-none e h =
      is_function-any (with_function s result name params) s.entry
      ∙ (list_any-append (is_named s.entry) s.functions (function_info s result name params ∷ [])
      ∙ (ap (λ b. b || list_any (is_named s.entry) (function_info s result name params ∷ [])) (sym (is_function-any s s.entry) ∙ e) ∙ ap (λ b. b || false) h))

-- items behind which a function of the entry's name is known have the entry
pub entry-there : (tokens : List Lexeme) (s : Scope) (items : Trees) (defs : List FunctionDef) → AllTrees (IsItem tokens) items → AreKnownItems s items → IsFree (items_sites s items) → all_of_items item_functions s items ≡ Some defs → is_function s s.entry ≡ false → HasEntry s items defs
entry-there tokens s no_trees defs shape known free made e =
    absurd (cc (sym (not-false (is_function s s.entry) (not_broken (not (is_function s s.entry)) (length s.tokens) (free-first (site s an_end) [] free).obeys_13)) ∙ e))
entry-there tokens s (more_trees (an_item place (a_function at attributes result name params block)) rest) defs shape known free made e =
    on (bytes_eq (spelled s name) s.entry) refl
    (λ h. entry-there tokens (with_function s result name params) rest own.others shape.1 known.1 (free-items s (an_item place (a_function at attributes result name params block)) rest free) own.behind
    (still-none tokens s place at attributes result name params block rest e h))
  where
    own : IsMadeFunction s result name params block rest defs
    own = function-made s result name params block rest defs made

    on : (named : Bool) → bytes_eq (spelled s name) s.entry ≡ named → (bytes_eq (spelled s name) s.entry ≡ false → HasEntry (with_function s result name params) rest own.others) → HasEntry s (more_trees (an_item place (a_function at attributes result name params block)) rest) defs
    on true h behind = here-entry tokens s place at attributes result name params block rest defs shape known free own e h
    on false h behind = later-entry tokens s place at attributes result name params block rest defs own h (behind h)
entry-there tokens s (more_trees (an_item place (a_struct at name members)) rest) defs shape known free made e =
    other-entry s (an_item place (a_struct at name members)) rest defs (other-struct s at place name members)
    (entry-there tokens (after_item s (a_struct at name members)) rest defs shape.1 known.1 (free-items s (an_item place (a_struct at name members)) rest free)
    (other-made s (an_item place (a_struct at name members)) rest defs (other-struct s at place name members) made)
    (other-function s (an_item place (a_struct at name members)) (other-struct s at place name members) ∙ e))
entry-there tokens s (more_trees (an_item place (a_buffer at kind name register space)) rest) defs shape known free made e =
    other-entry s (an_item place (a_buffer at kind name register space)) rest defs (other-buffer s at place kind name register space)
    (entry-there tokens (after_item s (a_buffer at kind name register space)) rest defs shape.1 known.1 (free-items s (an_item place (a_buffer at kind name register space)) rest free)
    (other-made s (an_item place (a_buffer at kind name register space)) rest defs (other-buffer s at place kind name register space) made)
    (other-function s (an_item place (a_buffer at kind name register space)) (other-buffer s at place kind name register space) ∙ e))
entry-there tokens s (more_trees (an_item place (a_shared at type declarators)) rest) defs shape known free made e =
    other-entry s (an_item place (a_shared at type declarators)) rest defs (other-shared s at place type declarators)
    (entry-there tokens (after_item s (a_shared at type declarators)) rest defs shape.1 known.1 (free-items s (an_item place (a_shared at type declarators)) rest free)
    (other-made s (an_item place (a_shared at type declarators)) rest defs (other-shared s at place type declarators) made)
    (other-function s (an_item place (a_shared at type declarators)) (other-shared s at place type declarators) ∙ e))
entry-there tokens s (more_trees (an_item place (a_constant at type declarator init)) rest) defs shape known free made e =
    other-entry s (an_item place (a_constant at type declarator init)) rest defs (other-constant s at place type declarator init)
    (entry-there tokens (after_item s (a_constant at type declarator init)) rest defs shape.1 known.1 (free-items s (an_item place (a_constant at type declarator init)) rest free)
    (other-made s (an_item place (a_constant at type declarator init)) rest defs (other-constant s at place type declarator init) made)
    (other-function s (an_item place (a_constant at type declarator init)) (other-constant s at place type declarator init) ∙ e))
entry-there tokens s (more_trees other rest) defs shape known free made e = absurd shape.0

-- ---- its number

position-seam : {A : Type 0} (p : A → Bool) (before : List A) (x : A) (after : List A) → list_any p before ≡ false → p x ≡ true → position_or_len p (before ++ x ∷ after) ≡ length before
position-seam p [] x after e h = ap (λ b. cond (not b) (1 + position_or_len p after) 0) h
position-seam p (y ∷ before) x after e h = on (p y) (λ k. position-seam p before x after k h) e
  where
    on : (here : Bool) → (list_any p before ≡ false → position_or_len p (before ++ x ∷ after) ≡ length before) → here || list_any p before ≡ false → cond (not here) (1 + position_or_len p (before ++ x ∷ after)) 0 ≡ suc (length before)
    on true next k = absurd (cc k)
    on false next k = ap (λ n. 1 + n) (next k) ∙ omega arith

position-number : {A : Type 0} (p : A → Bool) (before : List A) (x : A) (after : List A) → list_any p before ≡ false → p x ≡ true → position p (before ++ x ∷ after) ≡ Some (length before)
position-number p before x after e h =
    ap (λ n. cond (nat_lt n (length (before ++ x ∷ after))) (Some n) None) (position-seam p before x after e h)
    ∙ ap (λ b. cond b (Some (length before)) None) (within (length before) (length (before ++ x ∷ after)) (omega (arith, length-append before (x ∷ after))))
  where
    within : (m n : ℕ) → m < n → nat_lt m n ≡ true
    within m n k = grind arith

-- items keep the name of the entry
entry-behind : (tokens : List Lexeme) (s : Scope) (items : Trees) → AllTrees (IsItem tokens) items → (after_items s items).entry ≡ s.entry
entry-behind tokens s no_trees shape = refl
entry-behind tokens s (more_trees (an_item place (a_function at attributes result name params block)) rest) shape = entry-behind tokens (with_function s result name params) rest shape.1
entry-behind tokens s (more_trees (an_item place (a_struct at name members)) rest) shape = entry-behind tokens (after_item s (a_struct at name members)) rest shape.1
entry-behind tokens s (more_trees (an_item place (a_buffer at kind name register space)) rest) shape = entry-behind tokens (after_item s (a_buffer at kind name register space)) rest shape.1
entry-behind tokens s (more_trees (an_item place (a_shared at type declarators)) rest) shape = entry-behind tokens (after_item s (a_shared at type declarators)) rest shape.1 ∙ (other-shared s at place type declarators).entry
entry-behind tokens s (more_trees (an_item place (a_constant at type declarator init)) rest) shape = entry-behind tokens (after_item s (a_constant at type declarator init)) rest shape.1
entry-behind tokens s (more_trees other rest) shape = absurd shape.0

-- where no function is known before the items, the entry has its place among theirs as its number
pub entry-number : (tokens : List Lexeme) (s : Scope) (items : Trees) (defs : List FunctionDef) → AllTrees (IsItem tokens) items → s.functions ≡ [] → (found : HasEntry s items defs) → entry_number (after_items s items) ≡ Some (length found.before)
entry-number tokens s items defs shape e found =
    ap (λ n. position (is_named n) (after_items s items).functions) (entry-behind tokens s items shape)
    ∙ (ap (λ l. position (is_named s.entry) l) (found.functions ∙ ap (λ l. l ++ (found.before ++ found.info ∷ found.after)) e)
    ∙ position-number (is_named s.entry) found.before found.info found.after found.first found.named)
