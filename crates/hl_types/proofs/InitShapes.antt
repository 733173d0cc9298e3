-- Initialisers and leaves of no form that a walk looks for.
use Rattle.std.proofs.Common.{◌≡◌, ◌∙◌, refl, sym, ap, ℕ, false, List, [], Option, None, Some}
use Rattle.hl_meaning.specs.declared.ty.Kind.{Kind}
use Rattle.hl_parser.specs.declared.tree.Tree.{Tree, Tree-F, out-Tree}
use Rattle.hl_parser.specs.declared.tree.Tree.TheVariants.{rolls-Init, rolls-Primary, rolls-Unary}
use Rattle.hl_parser.specs.declared.tree.Tree.TheVariants as variants
use Rattle.hl_parser.specs.Trees as plain
use Rattle.hl_parser.specs.Views.{plain_maybe, plain_of, plain_trees}
use Rattle.hl_parser.proofs.Plain.{plain-Init, plain-Primary, plain-Unary}
use Rattle.hl_rules.specs.DeclarationRules.{is_constant_init, is_signed_or_truth, leaves_of}
use Rattle.hl_rules.specs.Declarations.{init_number}
use Rattle.hl_rules.specs.Constants.{constant_number}
use Rattle.hl_rules.specs.Elaboration.{init_words, leaf_word, leaf_words, signed_or_truth}
use Rattle.hl_rules.specs.Scopes.{Scope}
use Rattle.hl_rules.specs.Sites.{leaf_sites}
use Rattle.hl_types.proofs.DeclaredShapes.{by_layer, layer, of_layer}

-- ---- initialisers

abbrev IsNoInit : Tree → Type 0
IsNoInit tree = (at : ℕ) (value : Option Tree) (parts : List Tree) → tree ≡ variants.Init at value parts → ⊥

-- what isn't an initialiser holds nothing
pub record NoInit (s : Scope) (t : plain.Tree) : Type 0 where
  pub constant : is_constant_init s t ≡ false
  pub number : init_number s t ≡ None
  pub leaves : leaves_of t ≡ []
  pub sites : leaf_sites s t ≡ []
  pub words : (kinds : List Kind) → init_words s kinds t ≡ leaf_words s kinds (leaves_of t)

init-none : (s : Scope) (tree : Tree) (form : Tree-F Tree) → out-Tree tree ≡ form → IsNoInit tree → NoInit s (layer form)
init-none s tree (Tree-F.Init at value parts) e not = absurd (not at value parts (of_layer tree (Tree-F.Init at value parts) e ∙ rolls-Init at value parts))
init-none s tree form e not = record { constant = refl; number = refl; leaves = refl; sites = refl; words = λ kinds. refl }

pub no_init : (s : Scope) (tree : Tree) → IsNoInit tree → NoInit s (plain_of tree)
no_init s tree not = let own = init-none s tree (out-Tree tree) refl not in record {
  constant = ap (is_constant_init s) (by_layer tree) ∙ own.constant;
  number = ap (init_number s) (by_layer tree) ∙ own.number;
  leaves = ap leaves_of (by_layer tree) ∙ own.leaves;
  sites = ap (leaf_sites s) (by_layer tree) ∙ own.sites;
  words = λ kinds. ap (λ t. init_words s kinds t) (by_layer tree) ∙ (own.words kinds ∙ sym (ap (λ t. leaf_words s kinds (leaves_of t)) (by_layer tree)));
}

-- ---- leaves

abbrev IsNoPrimary : Tree → Type 0
IsNoPrimary tree = (at : ℕ) (part arguments : Option Tree) → tree ≡ variants.Primary at part arguments → ⊥

abbrev IsNoUnary : Tree → Type 0
IsNoUnary tree = (at : ℕ) (cast : Option Tree) (operand : Tree) → tree ≡ variants.Unary at cast operand → ⊥

-- what is no word and has no operator before it is no truth value, and isn't below zero
pub record NoSign (s : Scope) (t : plain.Tree) : Type 0 where
  pub leaf : is_signed_or_truth s t ≡ false
  pub word : signed_or_truth s t ≡ None

sign-none : (s : Scope) (tree : Tree) (form : Tree-F Tree) → out-Tree tree ≡ form → IsNoPrimary tree → IsNoUnary tree → NoSign s (layer form)
sign-none s tree (Tree-F.Primary at part arguments) e a b = absurd (a at part arguments (of_layer tree (Tree-F.Primary at part arguments) e ∙ rolls-Primary at part arguments))
sign-none s tree (Tree-F.Unary at cast operand) e a b = absurd (b at cast operand (of_layer tree (Tree-F.Unary at cast operand) e ∙ rolls-Unary at cast operand))
sign-none s tree form e a b = record { leaf = refl; word = refl }

pub no_sign : (s : Scope) (tree : Tree) → IsNoPrimary tree → IsNoUnary tree → NoSign s (plain_of tree)
no_sign s tree a b = let own = sign-none s tree (out-Tree tree) refl a b in record {
  leaf = ap (is_signed_or_truth s) (by_layer tree) ∙ own.leaf;
  word = ap (signed_or_truth s) (by_layer tree) ∙ own.word;
}

-- ---- forms

pub word-tree : (tree : Tree) (at : ℕ) (part arguments p a : Option Tree) → tree ≡ variants.Primary at part arguments → part ≡ p → arguments ≡ a → plain_of tree ≡ plain.a_primary at (plain_maybe p) (plain_maybe a)
word-tree tree at part arguments p a is here there =
    ap plain_of is ∙ (plain-Primary at part arguments ∙ (ap (λ o. plain.a_primary at (plain_maybe o) (plain_maybe arguments)) here ∙ ap (λ o. plain.a_primary at (plain_maybe p) (plain_maybe o)) there))

pub sign-tree : (tree operand : Tree) (at : ℕ) (cast k : Option Tree) → tree ≡ variants.Unary at cast operand → cast ≡ k → plain_of tree ≡ plain.a_unary at (plain_maybe k) (plain_of operand)
sign-tree tree operand at cast k is here = ap plain_of is ∙ (plain-Unary at cast operand ∙ ap (λ o. plain.a_unary at (plain_maybe o) (plain_of operand)) here)

pub init-tree : (tree : Tree) (at : ℕ) (value v : Option Tree) (parts : List Tree) → tree ≡ variants.Init at value parts → value ≡ v → plain_of tree ≡ plain.an_init at (plain_maybe v) (plain_trees parts)
init-tree tree at value v parts is here = ap plain_of is ∙ (plain-Init at value parts ∙ ap (λ o. plain.an_init at (plain_maybe o) (plain_trees parts)) here)

-- ---- the word of a leaf

pub number-word : (s : Scope) (leaf : plain.Tree) (number : ℕ) → constant_number s leaf ≡ Some number → Some number ≡ leaf_word s leaf
number-word s leaf number h = sym (rw h refl)

pub signed-word : (s : Scope) (leaf : plain.Tree) → constant_number s leaf ≡ None → signed_or_truth s leaf ≡ leaf_word s leaf
signed-word s leaf h = sym (rw h refl)
