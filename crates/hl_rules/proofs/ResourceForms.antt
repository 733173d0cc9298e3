-- Buffers that break no rule keep what the resources of a program keep.
use Rattle.std.proofs.Common.{◌≡◌, ◌∙◌, refl, sym, ap, subst, arith, ℕ, ◌≤◌, Bool, true, false, if◌then◌else◌, nat_lt, List, [], ◌∷◌, ◌++◌, length, Option, Some}
use Rattle.std.specs.Prelude.{slice_get, unwrap_or}
use Rattle.std.proofs.lemmas.List.{length-map}
use Rattle.hl_parser.specs.Trees.{Tree, a_kind, absent, present}
use Rattle.hl_meaning.specs.Layout.{words_of}
use Rattle.hl_meaning.specs.Places as places
use Rattle.hl_meaning.specs.Programs.{StructDef}
use Rattle.hl_meaning.specs.Types.{Ty, void_type}
use Rattle.hl_meaning.specs.WellFormed.{IsElement, IsResource, most_element_words}
use Rattle.hl_rules.specs.Constants.{named_type}
use Rattle.hl_rules.specs.DeclarationRules.{is_more}
use Rattle.hl_rules.specs.Declarations.{buffer_info}
use Rattle.hl_rules.specs.Elaboration.{resource}
use Rattle.hl_rules.specs.Parts.{an_element, site}
use Rattle.hl_rules.specs.Scopes.{BufferInfo, Scope, type_words, words_if}
use Rattle.hl_rules.specs.Sites.{element_sites, type_sites}
use Rattle.hl_rules.specs.Statements.{struct_defs}
use Rattle.hl_rules.proofs.DeclaratorForms.{IsKnownAs, named-known}
use Rattle.hl_rules.proofs.Fitting.{FitsBuffer}
use Rattle.hl_rules.proofs.Free.{IsFree, free-first, free-left, free-right, not_broken}
use Rattle.hl_rules.proofs.ScopeForms.{FitsNames, declared-there}
use Rattle.hl_rules.proofs.Soundness.{IsSound}
use Rattle.hl_rules.proofs.StructForms.{IsKnownType, IsTypeBelow, known_words, type_below, type_words-known, words_known, words_of-known}
use Rattle.hl_rules.proofs.TreeShapes.{IsKindOf}

-- the words of a known type are those that it has in the program
pub known-words_of : (s : Scope) (structs more : List StructDef) (ty : Ty) → IsSound s → structs ≡ struct_defs s.structs ++ more → IsKnownType (known_words s.structs) ty → type_words s.structs ty ≡ Some (words_of structs ty)
known-words_of s structs more ty sound e known =
    type_words-known s.structs ty sound.structs (type_below (length s.structs) ty (subst (λ n. IsTypeBelow n ty) (length-map s.structs words_known) known.is_type))
    ∙ ap (λ n. Some n)
    (sym (words_of-known s.structs s.structs more ty sound.structs (type_below (length s.structs) ty (subst (λ n. IsTypeBelow n ty) (length-map s.structs words_known) known.is_type)))
    ∙ ap (λ l. words_of l ty) (sym e))

void-words : (structs : List StructDef) → words_of structs void_type ≡ 0
unfolding words_of
void-words structs = refl

pub few-words : (most words : ℕ) → nat_lt most words ≡ false → words ≤ most
few-words most words e = grind arith

-- what is known of the buffer of a kind
pub record IsKnownBuffer (s : Scope) (buffer : BufferInfo) : Type 0 where
  pub element : buffer.raw ≡ false → IsKnownAs s buffer.element
  pub few : is_more most_element_words (words_if s.structs buffer.element) ≡ false

pub kind-known : (s : Scope) → IsSound s → (kind : Tree) → IsKindOf s.tokens kind → IsFree (element_sites s kind) → IsKnownBuffer s (buffer_info s kind)
kind-known s sound (a_kind at absent) shape free = record { element = λ e. absurd (cc e); few = refl }
kind-known s sound (a_kind at (present type)) shape free = record {
  element = λ e. named-known s sound type shape.1 (free-left (type_sites s type) (site s (an_element type) ∷ []) free);
  few = not_broken (is_more most_element_words (words_if s.structs (named_type s type))) _ (free-first (site s (an_element type)) [] (free-right (type_sites s type) (site s (an_element type) ∷ []) free)).obeys_7;
}
kind-known s sound other shape free = absurd shape

class-fits : (writable : Bool) → (if writable then 1 else 0) ≤ 1
class-fits true = omega arith
class-fits false = omega arith

-- the elements of a buffer in the program
record IsElementOf (structs : List StructDef) (scope : Scope) (raw : Bool) (element : Ty) : Type 0 where
  pub is : IsElement structs raw element
  pub words : unwrap_or (type_words scope.structs element) 0 ≡ words_of structs element

element-kept : (env : places.Scope) (s : Scope) → IsSound s → FitsNames env s → (raw : Bool) (element : Option Ty) → (raw ≡ false → IsKnownAs s element) → is_more most_element_words (words_if s.structs element) ≡ false → IsElementOf env.structs s raw (if raw then void_type else unwrap_or element void_type)
element-kept env s sound fits true element known few = record { is = refl; words = sym (void-words env.structs) }
element-kept env s sound fits false element known few =
    subst (λ o. IsElementOf env.structs s false (unwrap_or o void_type)) (sym own.is)
    (record {
      is = (
        declared-there env s own.type sound fits own.known,
        few-words most_element_words (words_of env.structs own.type) (ap (λ o. is_more most_element_words o) (sym words) ∙ (ap (λ o. is_more most_element_words (words_if s.structs o)) (sym own.is) ∙ few)),
      );
      words = ap (λ o. unwrap_or o 0) words;
    })
  where
    own : IsKnownAs s element
    own = known refl

    words : type_words s.structs own.type ≡ Some (words_of env.structs own.type)
    words = known-words_of s env.structs fits.more own.type sound fits.prefix own.known

-- a buffer that is known is a resource of the program
pub resource-kept : (env : places.Scope) (s : Scope) (buffer : BufferInfo) (name : ℕ) (register space : Option ℕ) → IsSound s → FitsNames env s → IsKnownBuffer s buffer → IsResource env.structs (resource s buffer name register space)
resource-kept env s buffer name register space sound fits known =
    let own = element-kept env s sound fits buffer.raw buffer.element known.element known.few in
    record { class = class-fits buffer.writable; element = own.is; words = own.words }

-- and it stands in the environment
pub buffer-fits : (env : places.Scope) (s : Scope) (buffer : BufferInfo) (number name : ℕ) (register space : Option ℕ) → IsSound s → FitsNames env s → IsKnownBuffer s buffer → slice_get env.resources number ≡ Some (resource s buffer name register space) → FitsBuffer env number buffer
buffer-fits env s buffer number name register space sound fits known there = record {
  resource = resource s buffer name register space;
  there = there;
  raw = refl;
  class = refl;
  element = λ ty raw is. (
    ap (λ b. if b then void_type else unwrap_or buffer.element void_type) raw ∙ ap (λ o. unwrap_or o void_type) is,
    declared-there env s ty sound fits (subst (λ t. IsKnownType (known_words s.structs) t) (ap (λ o. unwrap_or o ty) (sym (known.element raw).is ∙ is)) (known.element raw).known),
  );
}
