use Rattle.std.proofs.Common.{◌≡◌, ◌∙◌, refl, sym, ap, ℕ, List, map}
use Rattle.hl_meaning.specs.Views.{plain_constant, plain_resource, plain_variable}
use Rattle.hl_meaning.specs.Programs.{Constant, Resource, Variable}
use Rattle.hl_parser.specs.Trees.{a_buffer, a_constant, a_function, a_shared, an_item}
use Rattle.hl_parser.specs.Views.{plain_of, plain_trees}
use Rattle.hl_parser.proofs.Plain.{plain-Buffer, plain-Constant, plain-Function, plain-Item, plain-Shared, plain-Struct}
use Rattle.hl_rules.specs.Declarations.{after_item, members_info}
use Rattle.hl_rules.specs.Rules.{noted}
use Rattle.hl_rules.specs.Sites.{item_sites}
use Rattle.hl_rules.proofs.Noting.{noted-none}
use Rattle.hl_values.specs.ScopeChanges.{with_struct_named}
use Rattle.hl_values.specs.ScopeViews.{scope_of}
use Rattle.hl_types.specs.Items.{made_of, struct_sites}
use Rattle.hl_types.proofs.FreeLemmas.{free-noted}
use Rattle.hl_types.proofs.ItemLemmas.{no-made, no_item}
use Rattle.hl_types.proofs.MadeLemmas.{buffer-made, constant-made, function-made, item-made, shared-made, struct-made}
use Rattle.hl_types.proofs.items.+item.Goals as goal

-- ---- an item

item-is : (t : ℕ) (c : goal.In_ok-item-in-Item t) → plain_of c.args.tree.now ≡ an_item c.in-Item.at (plain_of c.get-inner.result.now)
item-is t c = ap plain_of c.in-Item.is ∙ (plain-Item _ _ ∙ ap (λ x. an_item c.in-Item.at (plain_of x)) (sym c.get-inner.ensures))

pub returns-in_ok-item-in-Item-clause-made : goal.returns-in_ok-item-in-Item-clause-made
returns-in_ok-item-in-Item-clause-made t c = λ none.
    item-made (scope_of c.args.scope.now) (plain_of c.args.tree.now) c.in-Item.at (plain_of c.get-inner.result.now) _ _ (item-is t c) (c.in_ok-item-in-Item.ensures.made none)

pub returns-in_ok-item-in-Item-clause-scope : goal.returns-in_ok-item-in-Item-clause-scope
returns-in_ok-item-in-Item-clause-scope t c = c.in_ok-item-in-Item.ensures.scope ∙ sym (ap (after_item (scope_of c.args.scope.now)) (item-is t c))

pub returns-in_ok-item-in-Item-clause-found : goal.returns-in_ok-item-in-Item-clause-found
returns-in_ok-item-in-Item-clause-found t c =
    c.in_ok-item-in-Item.ensures.found ∙ sym (ap (λ x. noted c.args.found.now (item_sites (scope_of c.args.scope.now) x)) (item-is t c))

-- ---- a struct

pub returns-in_ok-structure-in-Struct-clause-made : goal.returns-in_ok-structure-in-Struct-clause-made
returns-in_ok-structure-in-Struct-clause-made t c = λ none.
    struct-made (scope_of c.args.scope.now) (plain_of c.args.tree.now) c.in-Struct.at c.in-Struct.name (plain_trees c.in-Struct.members) _ _
    (ap plain_of c.in-Struct.is ∙ plain-Struct _ _ _) refl

pub returns-in_ok-structure-in-Struct-clause-scope : goal.returns-in_ok-structure-in-Struct-clause-scope
returns-in_ok-structure-in-Struct-clause-scope t c =
    let s = scope_of c.args.scope.now in
    c.in_ok-structure-in-Struct.ensures.scope ∙ (ap (λ l. with_struct_named c.in-Struct.name (members_info s (plain_trees l)) s) c.as_slice.ensures ∙
    sym (ap (after_item s) (ap plain_of c.in-Struct.is ∙ plain-Struct _ _ _)))

pub returns-in_ok-structure-in-Struct-clause-found : goal.returns-in_ok-structure-in-Struct-clause-found
returns-in_ok-structure-in-Struct-clause-found t c =
    let s = scope_of c.args.scope.now in
    c.in_ok-structure-in-Struct.ensures.found ∙ (ap (λ l. noted c.args.found.now (struct_sites s c.in-Struct.name (plain_trees l))) c.as_slice.ensures ∙
    sym (ap (λ x. noted c.args.found.now (item_sites s x)) (ap plain_of c.in-Struct.is ∙ plain-Struct _ _ _)))

-- ---- a buffer

buffer-is : (t : ℕ) (c : goal.In_ok-buffer-in-Buffer t) → plain_of c.args.tree.now ≡ a_buffer c.in-Buffer.at (plain_of c.get-kind.result.now) c.in-Buffer.name c.in-Buffer.register c.in-Buffer.space
buffer-is t c =
    ap plain_of c.in-Buffer.is ∙ (plain-Buffer _ _ _ _ _ ∙ ap (λ x. a_buffer c.in-Buffer.at (plain_of x) c.in-Buffer.name c.in-Buffer.register c.in-Buffer.space) (sym c.get-kind.ensures))

pub returns-in_ok-buffer-in-Buffer-clause-made : goal.returns-in_ok-buffer-in-Buffer-clause-made
returns-in_ok-buffer-in-Buffer-clause-made t c = λ none.
    buffer-made (scope_of c.args.scope.now) (plain_of c.args.tree.now) c.in-Buffer.at (plain_of c.get-kind.result.now) c.in-Buffer.name c.in-Buffer.register c.in-Buffer.space _ _ (buffer-is t c)
    (ap {A = List Resource} (λ l. record (made_of c.args.gathered.now) { resources = l }) (c.in_ok-buffer-in-Buffer.ensures.made none))

pub returns-in_ok-buffer-in-Buffer-clause-scope : goal.returns-in_ok-buffer-in-Buffer-clause-scope
returns-in_ok-buffer-in-Buffer-clause-scope t c = c.in_ok-buffer-in-Buffer.ensures.scope ∙ sym (ap (after_item (scope_of c.args.scope.now)) (buffer-is t c))

pub returns-in_ok-buffer-in-Buffer-clause-found : goal.returns-in_ok-buffer-in-Buffer-clause-found
returns-in_ok-buffer-in-Buffer-clause-found t c =
    c.in_ok-buffer-in-Buffer.ensures.found ∙ sym (ap (λ x. noted c.args.found.now (item_sites (scope_of c.args.scope.now) x)) (buffer-is t c))

-- ---- groupshared variables

shared-is : (t : ℕ) (c : goal.In_ok-shared-in-Shared t) → plain_of c.args.tree.now ≡ a_shared c.in-Shared.at (plain_of c.get.result.now) (plain_trees c.in-Shared.declarators)
shared-is t c = ap plain_of c.in-Shared.is ∙ (plain-Shared _ _ _ ∙ ap (λ x. a_shared c.in-Shared.at (plain_of x) (plain_trees c.in-Shared.declarators)) (sym c.get.ensures))

pub returns-in_ok-shared-in-Shared-clause-made : goal.returns-in_ok-shared-in-Shared-clause-made
returns-in_ok-shared-in-Shared-clause-made t c = λ none.
    shared-made (scope_of c.args.scope.now) (plain_of c.args.tree.now) c.in-Shared.at (plain_of c.get.result.now) (plain_trees c.in-Shared.declarators) _ _ (shared-is t c)
    (ap {A = List Variable} (λ l. record (made_of c.args.gathered.now) { shared = l }) c.in_ok-shared-in-Shared.ensures.made)

pub returns-in_ok-shared-in-Shared-clause-scope : goal.returns-in_ok-shared-in-Shared-clause-scope
returns-in_ok-shared-in-Shared-clause-scope t c = c.in_ok-shared-in-Shared.ensures.scope ∙ sym (ap (after_item (scope_of c.args.scope.now)) (shared-is t c))

pub returns-in_ok-shared-in-Shared-clause-found : goal.returns-in_ok-shared-in-Shared-clause-found
returns-in_ok-shared-in-Shared-clause-found t c =
    c.in_ok-shared-in-Shared.ensures.found ∙ sym (ap (λ x. noted c.args.found.now (item_sites (scope_of c.args.scope.now) x)) (shared-is t c))

-- ---- a constant

constant-is : (t : ℕ) (c : goal.In_ok-constant-in-Constant t)
    → plain_of c.args.tree.now ≡ a_constant c.in-Constant.at (plain_of c.get-ty.result.now) (plain_of c.get-declarator.result.now) (plain_of c.get-init.result.now)
constant-is t c =
    ap plain_of c.in-Constant.is ∙ (plain-Constant _ _ _ _ ∙
    (ap (λ x. a_constant c.in-Constant.at (plain_of x) (plain_of c.in-Constant.declarator) (plain_of c.in-Constant.init)) (sym c.get-ty.ensures) ∙
    (ap (λ x. a_constant c.in-Constant.at (plain_of c.get-ty.result.now) (plain_of x) (plain_of c.in-Constant.init)) (sym c.get-declarator.ensures) ∙
    ap (λ x. a_constant c.in-Constant.at (plain_of c.get-ty.result.now) (plain_of c.get-declarator.result.now) (plain_of x)) (sym c.get-init.ensures))))

pub returns-in_ok-constant-in-Constant-clause-made : goal.returns-in_ok-constant-in-Constant-clause-made
returns-in_ok-constant-in-Constant-clause-made t c = λ none.
    constant-made (scope_of c.args.scope.now) (plain_of c.args.tree.now) c.in-Constant.at (plain_of c.get-ty.result.now) (plain_of c.get-declarator.result.now) (plain_of c.get-init.result.now) _ _ (constant-is t c)
    (ap {A = List Constant} (λ l. record (made_of c.args.gathered.now) { constants = l }) (c.in_ok-constant-in-Constant.ensures.made none))

pub returns-in_ok-constant-in-Constant-clause-scope : goal.returns-in_ok-constant-in-Constant-clause-scope
returns-in_ok-constant-in-Constant-clause-scope t c = c.in_ok-constant-in-Constant.ensures.scope ∙ sym (ap (after_item (scope_of c.args.scope.now)) (constant-is t c))

pub returns-in_ok-constant-in-Constant-clause-found : goal.returns-in_ok-constant-in-Constant-clause-found
returns-in_ok-constant-in-Constant-clause-found t c =
    c.in_ok-constant-in-Constant.ensures.found ∙ sym (ap (λ x. noted c.args.found.now (item_sites (scope_of c.args.scope.now) x)) (constant-is t c))

-- ---- a function

function-is : (t : ℕ) (c : goal.In_ok-function_item-in-Function t)
    → plain_of c.args.tree.now ≡ a_function c.in-Function.at (plain_trees c.in-Function.attributes) (plain_of c.get-gives.result.now) c.in-Function.name (plain_trees c.in-Function.params) (plain_of c.get-block.result.now)
function-is t c =
    ap plain_of c.in-Function.is ∙ (plain-Function _ _ _ _ _ _ ∙
    (ap (λ x. a_function c.in-Function.at (plain_trees c.in-Function.attributes) (plain_of x) c.in-Function.name (plain_trees c.in-Function.params) (plain_of c.in-Function.block)) (sym c.get-gives.ensures) ∙
    ap (λ x. a_function c.in-Function.at (plain_trees c.in-Function.attributes) (plain_of c.get-gives.result.now) c.in-Function.name (plain_trees c.in-Function.params) (plain_of x)) (sym c.get-block.ensures)))

function-found : (t : ℕ) (c : goal.In_ok-function_item-in-Function t) → c.function_item.new.found ≡ noted c.args.found.now (item_sites (scope_of c.args.scope.now) (plain_of c.args.tree.now))
function-found t c =
    c.in_ok-function_item-in-Function.ensures.found ∙ sym (ap (λ x. noted c.args.found.now (item_sites (scope_of c.args.scope.now) x)) (function-is t c))

pub returns-in_ok-function_item-in-Function-clause-made : goal.returns-in_ok-function_item-in-Function-clause-made
returns-in_ok-function_item-in-Function-clause-made t c = λ none.
    let s = scope_of c.args.scope.now in
    let own = plain_of c.args.tree.now in
    let behind = c.in_ok-function_item-in-Function.ensures in
    function-made s own c.in-Function.at (plain_trees c.in-Function.attributes) (plain_of c.get-gives.result.now) c.in-Function.name (plain_trees c.in-Function.params) (plain_of c.get-block.result.now) _ _ (function-is t c)
    (free-noted c.args.found.now c.function_item.new.found (item_sites s own) (function-found t c) none)
    (ap (map plain_resource) behind.resources) (ap (map plain_variable) behind.shared) (ap (map plain_constant) behind.constants) behind.functions behind.threads

pub returns-in_ok-function_item-in-Function-clause-scope : goal.returns-in_ok-function_item-in-Function-clause-scope
returns-in_ok-function_item-in-Function-clause-scope t c = c.in_ok-function_item-in-Function.ensures.scope ∙ sym (ap (after_item (scope_of c.args.scope.now)) (function-is t c))

pub returns-in_ok-function_item-in-Function-clause-found : goal.returns-in_ok-function_item-in-Function-clause-found
returns-in_ok-function_item-in-Function-clause-found t c = function-found t c

-- ---- no item

pub returns-in_default : goal.returns-in_default
returns-in_default t c =
    let s = scope_of c.args.scope.now in
    let other = no_item s c.args.tree.now c.in_default.not-Item c.in_default.not-Struct c.in_default.not-Buffer c.in_default.not-Shared c.in_default.not-Constant c.in_default.not-Function in
    record {
      made = λ none. no-made s (plain_of c.args.tree.now) (made_of c.args.gathered.now) other;
      scope = sym other.after;
      found = sym (ap (noted c.args.found.now) other.found ∙ noted-none c.args.found.now);
    }
