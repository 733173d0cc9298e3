-- Values that are used, and that are converted, become values of the program.
use Rattle.std.proofs.Common.{◌≡◌, ◌∙◌, refl, sym, ap, subst, true, false, List, [], ◌∷◌, Option, Some, arith}
use Rattle.std.specs.Prelude.{not, option_and_then, unwrap_or}
use Rattle.hl_parser.specs.Trees.{Tree, at_of}
use Rattle.hl_meaning.specs.declared.ty.Kind.{Kind}
use Rattle.hl_meaning.specs.declared.ty.Kind.TheVariants.{Bool as BoolKind}
use Rattle.hl_meaning.specs.Types.{Ty, array_type, bool_type, is_scalar, is_void, scalar_type, struct_type, vector_type, void_type}
use Rattle.hl_meaning.specs.Conversions.{converts}
use Rattle.hl_meaning.specs.Trees.{Expr, type_of}
use Rattle.hl_meaning.specs.Programs.{StructDef}
use Rattle.hl_meaning.specs.Places as places
use Rattle.hl_meaning.proofs.LayoutLemmas.{words-scalar}
use Rattle.hl_meaning.specs.WellFormed.{IsExpr, IsResult}
use Rattle.hl_rules.specs.ExpressionRules.{is_no_conversion}
use Rattle.hl_rules.specs.Expressions.{code_of, value_in}
use Rattle.hl_rules.specs.Nodes.{converted, converted_code, type_of_code, value_of_code}
use Rattle.hl_rules.specs.Parts.{Site, a_condition, a_conversion, a_use, site}
use Rattle.hl_rules.specs.Scopes.{Scope}
use Rattle.hl_rules.specs.Sites.{condition_sites, expression_sites, value_sites}
use Rattle.hl_rules.specs.Values.{is_nothing, type_in, value_of, valued, is_known}
use Rattle.hl_rules.proofs.Becoming.{Becomes, IsConverted, becomes-stands, converted-there, not-true, valued-there}
use Rattle.hl_rules.proofs.Fitting.{Fits, IsKnown}
use Rattle.hl_rules.proofs.Free.{IsFree, free-first, free-left, free-right, not_broken}
use Rattle.hl_rules.proofs.Shapes.{IsExpression}
use Rattle.hl_rules.proofs.Soundness.{IsSound}

-- ---- expressions

-- each expression that breaks no rule becomes what is known of it
abbrev pub ExpressionsBecome : Type 0
ExpressionsBecome = (s : Scope) (e : Tree) → IsKnown s → IsExpression s.tokens e → IsFree (expression_sites s e) → Becomes s (value_of s e) (code_of s e)

pub scalar-result : (structs : List StructDef) (kind : Kind) → IsResult structs (scalar_type kind)
scalar-result structs kind = (tt, omega (arith, words-scalar structs kind))

-- ---- uses

-- a value that is used has a type that is known, which isn't that of no value
pub record IsUsed (s : Scope) (e : Tree) : Type 0 where
  pub done : Becomes s (value_of s e) (code_of s e)
  pub ty : Ty
  pub is : (value_of s e).ty ≡ Some ty
  pub not_void : is_void ty ≡ false

pub use-done : ExpressionsBecome → (s : Scope) (e : Tree) → IsSound s → IsExpression s.tokens e → IsFree (value_sites s e) → IsUsed s e
use-done claim s e sound shape free =
    let done = claim s e sound.known shape (free-left (expression_sites s e) (site s (a_use e) ∷ []) free) in
    record {
      done = done;
      ty = type_of_code done.to;
      is = done.type;
      not_void =
          sym (ap is_nothing done.type)
          ∙ not_broken (is_nothing (value_of s e).ty) (at_of e) (free-first (site s (a_use e)) [] (free-right (expression_sites s e) (site s (a_use e) ∷ []) free)).obeys_39;
    }

pub used-type : (s : Scope) (e : Tree) (used : IsUsed s e) → type_in s e ≡ Some used.ty
used-type s e used = ap valued used.is ∙ valued-there used.ty used.not_void

-- ---- conversions

-- a value in a type
pub record IsInType (s : Scope) (ty : Ty) (e : Tree) : Type 0 where
  pub to : Expr
  pub is : value_in s ty e ≡ Some to
  pub type : type_of to ≡ ty
  pub made : (env : places.Scope) → Fits env s → IsResult env.structs ty → IsExpr env to

pub value-in : (s : Scope) (ty : Ty) (e : Tree) (used : IsUsed s e) → converts used.ty ty ≡ true → IsInType s ty e
value-in s ty e used goes = given (converted-there ty (value_of_code used.done.to) (subst (λ o. converts (unwrap_or o ty) ty ≡ true) (sym used.is ∙ used.done.type) goes))
  where
    given : IsConverted ty (value_of_code used.done.to) (converted ty (value_of_code used.done.to)) → IsInType s ty e
    given c = record {
      to = c.to;
      is = ap (λ o. option_and_then (λ code. converted_code ty code) o) used.done.is ∙ c.is;
      type = c.type;
      made = λ env fits result. c.stands env (becomes-stands s (value_of s e) (code_of s e) used.done env fits) result;
    }

-- rule 24 says that a value converts
pub conversion-there : (from to : Ty) → is_void from ≡ false → is_void to ≡ false → is_no_conversion (Some from) (Some to) ≡ false → converts from to ≡ true
conversion-there from to h k e =
    not-true (converts from to)
    (sym (ap (λ o. is_known (λ x. is_known (λ y. not (converts x y)) (valued (Some to))) o) (valued-there from h) ∙ ap (λ o. is_known (λ y. not (converts from y)) o) (valued-there to k)) ∙ e)

pub conversion-in : (s : Scope) (e : Tree) (to : Option Ty) (ty : Ty) (rest : List Site) (used : IsUsed s e) → to ≡ Some ty → is_void ty ≡ false → IsFree (site s (a_conversion (type_in s e) to (at_of e)) ∷ rest) → IsInType s ty e
conversion-in s e to ty rest used is not_void free =
    value-in s ty e used
    (conversion-there used.ty ty used.not_void not_void
    (sym (ap (λ o. is_no_conversion o to) (used-type s e used) ∙ ap (λ o. is_no_conversion (Some used.ty) o) is)
    ∙ not_broken (is_no_conversion (type_in s e) to) (at_of e) (free-first (site s (a_conversion (type_in s e) to (at_of e))) rest free).obeys_24))

-- ---- scalars

pub scalar-converts : (from : Ty) (kind : Kind) → is_scalar from ≡ true → converts from (scalar_type kind) ≡ true
scalar-converts (scalar_type k) kind e = refl
scalar-converts void_type kind e = absurd (cc e)
scalar-converts (vector_type k size) kind e = absurd (cc e)
scalar-converts (array_type element size) kind e = absurd (cc e)
scalar-converts (struct_type number) kind e = absurd (cc e)

-- a scalar in a kind
pub scalar-in : (s : Scope) (e : Tree) (kind : Kind) (used : IsUsed s e) → is_known (λ ty. not (is_scalar ty)) (type_in s e) ≡ false → IsInType s (scalar_type kind) e
scalar-in s e kind used h =
    value-in s (scalar_type kind) e used
    (scalar-converts used.ty kind (not-true (is_scalar used.ty) (sym (ap (λ o. is_known (λ ty. not (is_scalar ty)) o) (used-type s e used)) ∙ h)))

-- a condition becomes a bool
pub condition-in : ExpressionsBecome → (s : Scope) (e : Tree) → IsSound s → IsExpression s.tokens e → IsFree (condition_sites s e) → IsInType s bool_type e
condition-in claim s e sound shape free =
    scalar-in s e BoolKind (use-done claim s e sound shape (free-left (value_sites s e) (site s (a_condition e) ∷ []) free))
    (not_broken (is_known (λ ty. not (is_scalar ty)) (type_in s e)) (at_of e) (free-first (site s (a_condition e)) [] (free-right (value_sites s e) (site s (a_condition e) ∷ []) free)).obeys_22)
