-- Buffers of their kinds.
use Rattle.std.proofs.Common.{◌≡◌, ◌∙◌, refl, sym, ap, subst, ℕ, Bool, true, false, not, [], ◌∷◌, Option, None, Some, is_some, is_none}
use Rattle.hl_parser.specs.declared.tree.Tree.{Tree, Tree-F, out-Tree}
use Rattle.hl_parser.specs.declared.tree.Tree.TheVariants.{rolls-Kind}
use Rattle.hl_parser.specs.declared.tree.Tree.TheVariants as variants
use Rattle.hl_parser.specs.Trees as plain
use Rattle.hl_parser.specs.Trees.{a_kind, at_of, present}
use Rattle.hl_parser.specs.Views.{plain_maybe, plain_of}
use Rattle.hl_meaning.specs.Types.{Ty}
use Rattle.hl_rules.specs.declared.found.Broken.{Broken}
use Rattle.hl_rules.specs.Constants.{named_type}
use Rattle.hl_rules.specs.Declarations.{buffer_info, element_of, is_there, is_writable_kind}
use Rattle.hl_rules.specs.DeclarationRules.{is_more, register_number, space_number}
use Rattle.hl_rules.specs.Found.{breaking, broken_if, gathered}
use Rattle.hl_rules.specs.Parts.{a_register, a_space, an_element, site}
use Rattle.hl_rules.specs.Rules.{noted}
use Rattle.hl_rules.specs.Scopes.{BufferInfo, Scope, words_if}
use Rattle.hl_rules.specs.Sites.{element_sites, register_sites, type_sites}
use Rattle.hl_rules.specs.Source.{terminal_at}
use Rattle.hl_rules.proofs.Noting.{noted-append, noted-element, noted-none, noted-register, noted-space}
use Rattle.hl_types.proofs.DeclaredShapes.{by_layer, layer, none-is, of_layer}

abbrev pub IsNoKind : Tree → Type 0
IsNoKind tree = (at : ℕ) (element : Option Tree) → tree ≡ variants.Kind at element → ⊥

pub record NoKind (s : Scope) (t : plain.Tree) : Type 0 where
  pub info : buffer_info s t ≡ record { writable = false; raw = true; element = None }
  pub found : element_sites s t ≡ []

kind-none : (s : Scope) (tree : Tree) (form : Tree-F Tree) → out-Tree tree ≡ form → IsNoKind tree → NoKind s (layer form)
kind-none s tree (Tree-F.Kind at element) e a = absurd (a at element (of_layer tree (Tree-F.Kind at element) e ∙ rolls-Kind at element))
kind-none s tree form e a = record { info = refl; found = refl }

pub no_kind : (s : Scope) (tree : Tree) → IsNoKind tree → NoKind s (plain_of tree)
no_kind s tree a = subst (NoKind s) (sym (by_layer tree)) (kind-none s tree (out-Tree tree) refl a)

there-is : (element : Option Tree) → is_there (plain_maybe element) ≡ is_some element
there-is None = refl
there-is (Some tree) = refl

abbrev pub known : Bool → Bool → Option Ty → BufferInfo
known writable raw element = record { writable = writable; raw = raw; element = element }

pub kind-info : (s : Scope) (at : ℕ) (element : Option Tree) (writable raw : Bool) (own : Option Ty)
    → writable ≡ is_writable_kind (terminal_at s.tokens at) → is_some element ≡ not raw → own ≡ element_of s (plain_maybe element)
    → known writable raw own ≡ buffer_info s (a_kind at (plain_maybe element))
kind-info s at element writable raw own w r o =
    ap (λ x. known x raw own) w ∙
    (ap (λ x. known (is_writable_kind (terminal_at s.tokens at)) x own) (none-is (is_some element) raw r ∙ ap not (sym (there-is element))) ∙
    ap (λ x. known (is_writable_kind (terminal_at s.tokens at)) (not (is_there (plain_maybe element))) x) o)

pub element-noted : (s : Scope) (at : ℕ) (type : plain.Tree) (f0 f1 f2 : Option Broken) (more : Bool) (place : ℕ)
    → f1 ≡ noted f0 (type_sites s type) → more ≡ is_more 512 (words_if s.structs (named_type s type)) → place ≡ at_of type
    → f2 ≡ gathered f1 (breaking 7 (broken_if more place)) → f2 ≡ noted f0 (element_sites s (a_kind at (present type)))
element-noted s at type f0 f1 f2 more place e1 m p e2 =
    e2 ∙ (ap (λ f. gathered f (breaking 7 (broken_if more place))) e1 ∙
    (ap (λ b. gathered (noted f0 (type_sites s type)) (breaking 7 (broken_if b place))) m ∙
    (ap (λ n. gathered (noted f0 (type_sites s type)) (breaking 7 (broken_if (is_more 512 (words_if s.structs (named_type s type))) n))) p ∙
    sym (noted-append f0 (type_sites s type) (site s (an_element type) ∷ []) ∙ noted-element (noted f0 (type_sites s type)) s type))))

pub registers-noted : (s : Scope) (writable : Bool) (register space : Option ℕ) (f0 f1 f2 : Option Broken)
    → f1 ≡ noted f0 (register_sites s writable register None) → f2 ≡ noted f1 (register_sites s writable None space) → f2 ≡ noted f0 (register_sites s writable register space)
registers-noted s writable None space f0 f1 f2 e1 e2 = e2 ∙ ap (λ f. noted f (register_sites s writable None space)) (e1 ∙ noted-none f0)
registers-noted s writable (Some name) None f0 f1 f2 e1 e2 = e2 ∙ (noted-none f1 ∙ e1)
registers-noted s writable (Some name) (Some other) f0 f1 f2 e1 e2 =
    e2 ∙ (ap (λ f. noted f (site s (a_space other) ∷ [])) e1 ∙ sym (noted-append f0 (site s (a_register writable name) ∷ []) (site s (a_space other) ∷ [])))

-- ---- registers and spaces

missing-is : (found : Option ℕ) (none' : Bool) → is_some found ≡ not none' → none' ≡ is_none found
missing-is None none' e = none-is false none' e
missing-is (Some n) none' e = none-is true none' e

pub register-noted : (s : Scope) (writable : Bool) (name : ℕ) (f : Option Broken) (found : Option ℕ) (none' : Bool)
    → found ≡ register_number s writable name → is_some found ≡ not none'
    → gathered f (breaking 8 (broken_if none' name)) ≡ noted f (site s (a_register writable name) ∷ [])
register-noted s writable name f found none' e m =
    ap (λ b. gathered f (breaking 8 (broken_if b name))) (missing-is found none' m ∙ ap is_none e) ∙ sym (noted-register f s writable name)

pub space-noted : (s : Scope) (name : ℕ) (f : Option Broken) (found : Option ℕ) (none' : Bool)
    → found ≡ space_number s name → is_some found ≡ not none'
    → gathered f (breaking 8 (broken_if none' name)) ≡ noted f (site s (a_space name) ∷ [])
space-noted s name f found none' e m =
    ap (λ b. gathered f (breaking 8 (broken_if b name))) (missing-is found none' m ∙ ap is_none e) ∙ sym (noted-space f s name)
