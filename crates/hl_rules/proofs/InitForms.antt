-- Initialisers become values of their types.
use Rattle.std.proofs.Common.{◌≡◌, ◌∙◌, refl, sym, ap, subst, ℕ, zero, suc, Bool, true, false, ◌&&◌, ◌||◌, List, [], ◌∷◌, ◌++◌, length, map, Option, Some, arith}
use Rattle.std.specs.Prelude.{◌==◌, not, option_and_then, option_map, replicate, sum_by}
use Rattle.std.specs.List.{list_all, list_any}
use Rattle.std.proofs.lemmas.List.{append-nil, length-map}
use Rattle.std.proofs.lemmas.List.Sums.{sum_by-cons}
use Rattle.hl_parser.specs.Trees.{Tree, Trees, absent, an_init, at_of, more_trees, no_trees, present}
use Rattle.hl_meaning.specs.declared.ty.Kind.{Kind}
use Rattle.hl_meaning.specs.declared.ty.Kind.TheVariants.{Bool as BoolKind, Int as IntKind, Uint as UintKind}
use Rattle.hl_meaning.specs.Types.{Ty, array_type, component_count, is_alike, is_scalar, is_void, kind_eq, scalar_type, struct_type, vector_type, void_type}
use Rattle.hl_meaning.specs.Trees.{Expr, Exprs, an_expr, build_form, more_exprs, no_exprs, type_of, types_of}
use Rattle.hl_meaning.specs.Layout.{kinds_of, words_in, words_of}
use Rattle.hl_meaning.specs.Places as places
use Rattle.hl_meaning.specs.Programs.{StructDef}
use Rattle.hl_meaning.specs.WellFormed.{AreExprs, Builds, IsExpr}
use Rattle.hl_rules.specs.DeclarationRules.{is_other, leaves_among, leaves_of}
use Rattle.hl_rules.specs.Expressions.{value_in}
use Rattle.hl_rules.specs.Parts.{a_brace_init, a_conversion, site}
use Rattle.hl_rules.specs.Scopes.{Scope, words_if}
use Rattle.hl_rules.specs.Sites.{init_sites, leaf_sites, leaves_sites, value_sites}
use Rattle.hl_rules.specs.Statements.{init_code, leaf_codes, struct_def, struct_defs}
use Rattle.hl_rules.specs.Values.{type_in, is_known}
use Rattle.hl_rules.proofs.Becoming.{with_two-there}
use Rattle.hl_rules.proofs.DeclaratorForms.{IsKnownAs}
use Rattle.hl_rules.proofs.Fitting.{Fits}
use Rattle.hl_rules.proofs.Free.{IsFree, free-first, free-left, free-right, not_broken}
use Rattle.hl_meaning.proofs.LayoutForms.{IsBelow, kinds_of-front, length-kinds_of}
use Rattle.hl_rules.proofs.Options.{or-one, or-other}
use Rattle.hl_rules.proofs.Shapes.{IsExpression}
use Rattle.hl_rules.proofs.ScopeForms.{declared-there, names-fit}
use Rattle.hl_rules.proofs.ShortTypes.{declared-result}
use Rattle.hl_rules.proofs.Soundness.{IsSound}
use Rattle.hl_rules.proofs.StructForms.{IsKnownType, IsTypeBelow, known_words, type_below, type_words-known, words_known, words_of-known}
use Rattle.hl_rules.proofs.TreeShapes.{AreInits, IsInit}
use Rattle.hl_rules.proofs.ValueForms.{ExpressionsBecome, IsInType, conversion-in, scalar-in, scalar-result, use-done}

-- ---- the leaves of an initialiser

-- the expressions in an initialiser are free of broken rules
abbrev pub AreFreeLeaves : Scope → List Tree → Type 0
AreFreeLeaves s [] = Unit {0}
AreFreeLeaves s (leaf ∷ leaves) = (IsExpression s.tokens leaf × IsFree (value_sites s leaf)) × AreFreeLeaves s leaves

leaves-append : (s : Scope) (a b : List Tree) → AreFreeLeaves s a → AreFreeLeaves s b → AreFreeLeaves s (a ++ b)
leaves-append s [] b h k = k
leaves-append s (leaf ∷ a) b h k = (h.0, leaves-append s a b h.1 k)

mutual
  leaf-free : (s : Scope) (init : Tree) → IsInit s.tokens init → IsFree (leaf_sites s init) → AreFreeLeaves s (leaves_of init)
  leaf-free s (an_init at (present value) parts) shape free = ((shape.1, free), tt)
  leaf-free s (an_init at absent parts) shape free = leaves-free s parts shape.1 free
  leaf-free s other shape free = absurd shape

  leaves-free : (s : Scope) (parts : Trees) → AreInits s.tokens parts → IsFree (leaves_sites s parts) → AreFreeLeaves s (leaves_among parts)
  leaves-free s no_trees shape free = tt
  leaves-free s (more_trees first rest) shape free =
      leaves-append s (leaves_of first) (leaves_among rest)
      (leaf-free s first shape.0 (free-left (leaf_sites s first) (leaves_sites s rest) free))
      (leaves-free s rest shape.1 (free-right (leaf_sites s first) (leaves_sites s rest) free))

-- ---- the values of leaves

-- each leaf becomes a scalar of the kind of its word
pub record AreLeafValues (s : Scope) (kinds : List Kind) (leaves : List Tree) : Type 0 where
  pub to : Exprs
  pub is : leaf_codes s kinds leaves ≡ Some to
  pub types : types_of to ≡ map scalar_type kinds
  pub made : (env : places.Scope) → Fits env s → AreExprs env to

leaf-made : (s : Scope) (kind : Kind) (kinds : List Kind) (leaf : Tree) (leaves : List Tree) → IsInType s (scalar_type kind) leaf → AreLeafValues s kinds leaves → AreLeafValues s (kind ∷ kinds) (leaf ∷ leaves)
leaf-made s kind kinds leaf leaves first rest = record {
  to = more_exprs first.to rest.to;
  is = with_two-there (λ a b. Some (more_exprs a b)) (value_in s (scalar_type kind) leaf) (leaf_codes s kinds leaves) first.to rest.to first.is rest.is;
  types = ap (λ t. t ∷ types_of rest.to) first.type ∙ ap (λ (l : List Ty). scalar_type kind ∷ l) rest.types;
  made = λ env fits. (first.made env fits (scalar-result env.structs kind), rest.made env fits);
}

pub leaf-values : ExpressionsBecome → (s : Scope) → IsSound s → (kinds : List Kind) (leaves : List Tree) → length leaves ≡ length kinds → AreFreeLeaves s leaves → list_any (λ leaf. is_known (λ x. not (is_scalar x)) (type_in s leaf)) leaves ≡ false → AreLeafValues s kinds leaves
leaf-values claim s sound [] [] e free scalars = record { to = no_exprs; is = refl; types = refl; made = λ env fits. tt }
leaf-values claim s sound [] (leaf ∷ leaves) e free scalars = absurd (omega (arith, e))
leaf-values claim s sound (kind ∷ kinds) [] e free scalars = absurd (omega (arith, e))
leaf-values claim s sound (kind ∷ kinds) (leaf ∷ leaves) e free scalars =
    leaf-made s kind kinds leaf leaves
    (scalar-in s leaf kind (use-done claim s leaf sound free.0.0 free.0.1)
    (or-one (is_known (λ x. not (is_scalar x)) (type_in s leaf)) (list_any (λ x. is_known (λ y. not (is_scalar y)) (type_in s x)) leaves) scalars))
    (leaf-values claim s sound kinds leaves (omega arith) free.1
    (or-other (is_known (λ x. not (is_scalar x)) (type_in s leaf)) (list_any (λ x. is_known (λ y. not (is_scalar y)) (type_in s x)) leaves) scalars))

-- ---- what is built

kind-itself : (kind : Kind) → kind_eq kind kind ≡ true
kind-itself BoolKind = refl
kind-itself IntKind = refl
kind-itself UintKind = refl

both-true : (a b : Bool) → a ≡ true → b ≡ true → a && b ≡ true
both-true true true h k = refl
both-true true false h k = absurd (cc k)
both-true false b h k = absurd (cc h)

all-alike : (kind : Kind) (size count : ℕ) → list_all (is_alike (vector_type kind size)) (map scalar_type (replicate count kind)) ≡ true
all-alike kind size zero = refl
all-alike kind size (suc count) = both-true (kind_eq kind kind) (list_all (is_alike (vector_type kind size)) (map scalar_type (replicate count kind))) (kind-itself kind) (all-alike kind size count)

all-components : (kind : Kind) (count : ℕ) → sum_by component_count (map scalar_type (replicate count kind)) ≡ count
all-components kind zero = refl
all-components kind (suc count) = sum_by-cons component_count (scalar_type kind) (map scalar_type (replicate count kind)) ∙ omega (arith, all-components kind count)

-- a scalar for each word, of its kind, builds a value of each type
pub builds-kinds : (structs : List StructDef) (ty : Ty) → is_void ty ≡ false → Builds structs ty (map scalar_type (kinds_of structs ty))
unfolding kinds_of
builds-kinds structs void_type e = absurd (cc e)
builds-kinds structs (scalar_type kind) e = (both-true (kind_eq kind kind) true (kind-itself kind) refl, refl)
builds-kinds structs (vector_type kind size) e = (all-alike kind size size, all-components kind size)
builds-kinds structs (array_type element count) e = refl
builds-kinds structs (struct_type number) e = refl

-- ---- initialisers

pub known-not_void : (words : List ℕ) (ty : Ty) → IsKnownType words ty → is_void ty ≡ false
known-not_void words void_type known = absurd known.is_type
known-not_void words (scalar_type kind) known = refl
known-not_void words (vector_type kind size) known = refl
known-not_void words (array_type element count) known = refl
known-not_void words (struct_type number) known = refl

below-known : (s : Scope) (ty : Ty) → IsKnownType (known_words s.structs) ty → IsBelow (length s.structs) ty
below-known s ty known = type_below (length s.structs) ty (subst (λ n. IsTypeBelow n ty) (length-map s.structs words_known) known.is_type)

-- as many kinds as words
length-kinds : (s : Scope) (ty : Ty) → IsSound s → IsKnownType (known_words s.structs) ty → length (kinds_of (struct_defs s.structs) ty) ≡ words_in (known_words s.structs) ty
length-kinds s ty sound known =
    length-kinds_of (struct_defs s.structs) ty
    ∙ (ap (λ l. words_of l ty) (sym (append-nil (struct_defs s.structs))) ∙ words_of-known s.structs s.structs [] ty sound.structs (below-known s ty known))

same-count : (count words : ℕ) → is_other count (Some words) ≡ false → count ≡ words
same-count count words e = on (count == words) refl e
  where
    on : (b : Bool) → count == words ≡ b → not b ≡ false → count ≡ words
    on true h k = grind arith
    on false h k = absurd (cc k)

-- a value of a type
pub record IsInitValue (s : Scope) (ty : Ty) (code : Option Expr) : Type 0 where
  pub to : Expr
  pub is : code ≡ Some to
  pub type : type_of to ≡ ty
  pub made : (env : places.Scope) → Fits env s → IsExpr env to

brace-made : ExpressionsBecome → (s : Scope) → IsSound s → (ty : Option Ty) (known : IsKnownAs s ty) (at : ℕ) (parts : Trees) → AreInits s.tokens parts → IsFree (init_sites s ty (an_init at absent parts)) → IsInitValue s known.type (init_code s known.type (an_init at absent parts))
brace-made claim s sound ty known at parts shape free = given (leaf-values claim s sound (kinds_of (struct_defs s.structs) known.type) (leaves_among parts) counted (leaves-free s parts shape (free-left (leaves_sites s parts) (site s (a_brace_init (an_init at absent parts) ty) ∷ []) free)) scalars)
  where
    obeyed : is_other (length (leaves_among parts)) (words_if s.structs ty) || list_any (λ leaf. is_known (λ x. not (is_scalar x)) (type_in s leaf)) (leaves_among parts) ≡ false
    obeyed =
        not_broken (is_other (length (leaves_among parts)) (words_if s.structs ty) || list_any (λ leaf. is_known (λ x. not (is_scalar x)) (type_in s leaf)) (leaves_among parts)) at
        (free-first (site s (a_brace_init (an_init at absent parts) ty)) [] (free-right (leaves_sites s parts) (site s (a_brace_init (an_init at absent parts) ty) ∷ []) free)).obeys_10

    counted : length (leaves_among parts) ≡ length (kinds_of (struct_defs s.structs) known.type)
    counted =
        same-count (length (leaves_among parts)) (words_in (known_words s.structs) known.type)
        (sym (ap (λ o. is_other (length (leaves_among parts)) (words_if s.structs o)) known.is ∙ ap (λ o. is_other (length (leaves_among parts)) o) (type_words-known s.structs known.type sound.structs (below-known s known.type known.known)))
        ∙ or-one (is_other (length (leaves_among parts)) (words_if s.structs ty)) (list_any (λ leaf. is_known (λ x. not (is_scalar x)) (type_in s leaf)) (leaves_among parts)) obeyed)
        ∙ sym (length-kinds s known.type sound known.known)

    scalars : list_any (λ leaf. is_known (λ x. not (is_scalar x)) (type_in s leaf)) (leaves_among parts) ≡ false
    scalars = or-other (is_other (length (leaves_among parts)) (words_if s.structs ty)) (list_any (λ leaf. is_known (λ x. not (is_scalar x)) (type_in s leaf)) (leaves_among parts)) obeyed

    given : AreLeafValues s (kinds_of (struct_defs s.structs) known.type) (leaves_among parts) → IsInitValue s known.type (init_code s known.type (an_init at absent parts))
    given leaves = record {
      to = an_expr known.type at (build_form leaves.to);
      is =
          ap (λ o. option_and_then (λ words. option_map (λ l. an_expr known.type at (build_form l)) (leaf_codes s (kinds_of (struct_defs s.structs) known.type) (leaves_among parts))) o)
          (type_words-known s.structs known.type sound.structs (below-known s known.type known.known))
          ∙ ap (λ o. option_map (λ l. an_expr known.type at (build_form l)) o) leaves.is;
      type = refl;
      made = λ env fits. (
        declared-result env.structs known.type (declared-there env s known.type sound (names-fit env s fits) known.known),
        (
          leaves.made env fits,
          subst (λ l. Builds env.structs known.type l)
              (ap (λ (k : List Kind). map scalar_type k) (ap (λ l. kinds_of l known.type) fits.prefix ∙ kinds_of-front (struct_defs s.structs) fits.more known.type (subst (λ n. IsBelow n known.type) (sym (length-map s.structs (struct_def s.structs))) (below-known s known.type known.known))) ∙ sym leaves.types)
              (builds-kinds env.structs known.type (known-not_void (known_words s.structs) known.type known.known)),
        ),
      );
    }

pub init-made : ExpressionsBecome → (s : Scope) → IsSound s → (ty : Option Ty) (known : IsKnownAs s ty) (init : Tree) → IsInit s.tokens init → IsFree (init_sites s ty init) → IsInitValue s known.type (init_code s known.type init)
init-made claim s sound ty known (an_init at (present value) parts) shape free =
    let used = use-done claim s value sound shape.1 (free-left (value_sites s value) (site s (a_conversion (type_in s value) ty (at_of value)) ∷ []) free) in
    let made = conversion-in s value ty known.type [] used known.is (known-not_void (known_words s.structs) known.type known.known) (free-right (value_sites s value) (site s (a_conversion (type_in s value) ty (at_of value)) ∷ []) free) in
    record {
      to = made.to;
      is = made.is;
      type = made.type;
      made = λ env fits. made.made env fits (declared-result env.structs known.type (declared-there env s known.type sound (names-fit env s fits) known.known));
    }
init-made claim s sound ty known (an_init at absent parts) shape free = brace-made claim s sound ty known at parts shape.1 free
init-made claim s sound ty known other shape free = absurd shape
