-- Constructors become what is known of them.
use Rattle.std.proofs.Common.{◌≡◌, ◌∙◌, refl, sym, ap, subst, ℕ, ◌+◌, true, false, ◌||◌, fold, List, [], ◌∷◌, map, sum, Option, Some}
use Rattle.std.specs.Prelude.{◌==◌}
use Rattle.std.specs.List.{list_all, list_any}
use Rattle.std.proofs.lemmas.Bool.{and_from, or_parts}
use Rattle.hl_meaning.specs.declared.ty.Kind.{Kind}
use Rattle.hl_meaning.specs.declared.ty.Kind.TheVariants.{Bool as BoolKind, Int as IntKind, Uint as UintKind}
use Rattle.hl_meaning.specs.Types.{Ty, array_type, component_count, is_basic, is_of, kind_eq, scalar_type, struct_type, vector_type, void_type, with_kind}
use Rattle.hl_meaning.specs.Programs.{StructDef}
use Rattle.hl_meaning.specs.Trees.{Expr, Exprs, an_expr, build_form, more_exprs, no_exprs, types_of}
use Rattle.hl_meaning.specs.Places as places
use Rattle.hl_meaning.specs.WellFormed.{AreExprs, Builds}
use Rattle.hl_rules.specs.ExpressionRules.{is_other_sum}
use Rattle.hl_rules.specs.Expressions.{constructor_code}
use Rattle.hl_rules.specs.Nodes.{Code, a_value, a_value_code, converted_code, in_kind, type_of_code, value_of_code}
use Rattle.hl_rules.specs.Operands.{kind_of}
use Rattle.hl_rules.specs.Scopes.{Scope}
use Rattle.hl_rules.specs.Values.{Value, argument_types, is_no_operand, plain_value}
use Rattle.hl_rules.proofs.Arguments.{ArgumentsBecome, argument-basic, argument-stands, arguments-typed}
use Rattle.hl_rules.proofs.Becoming.{Becomes, IsConverted, converted-there, not-true}
use Rattle.hl_rules.proofs.Fitting.{Fits}
use Rattle.hl_rules.proofs.ShortTypes.{IsShort, short-result}
use Rattle.hl_rules.proofs.SignForms.{kind-converts, kind-type}
use Rattle.hl_rules.proofs.TypeLemmas.{same-number}

-- ---- types

-- the types of parts in a kind
abbrev in_kinds : Kind → List Code → List Ty
in_kinds kind codes = map (λ code. with_kind kind (type_of_code code)) codes

kind-count : (kind : Kind) (ty : Ty) → component_count (with_kind kind ty) ≡ component_count ty
kind-count kind void_type = refl
kind-count kind (scalar_type k) = refl
kind-count kind (vector_type k size) = refl
kind-count kind (array_type element size) = refl
kind-count kind (struct_type number) = refl

-- a kind doesn't change how many components there are
same-sum : (kind : Kind) (before : ℕ) (codes : List Code) → fold (λ a ty. a + component_count ty) before (in_kinds kind codes) ≡ fold (λ a n. a + n) before (map component_count (map type_of_code codes))
same-sum kind before [] = refl
same-sum kind before (code ∷ codes) =
    ap (λ n. fold (λ a ty. a + component_count ty) (before + n) (in_kinds kind codes)) (kind-count kind (type_of_code code))
    ∙ same-sum kind (before + component_count (type_of_code code)) codes

kind_eq-refl : (kind : Kind) → kind_eq kind kind ≡ true
kind_eq-refl BoolKind = refl
kind_eq-refl IntKind = refl
kind_eq-refl UintKind = refl

pub kind-is : (kind : Kind) (ty : Ty) → is_basic ty ≡ true → is_of kind (with_kind kind ty) ≡ true
kind-is kind (scalar_type k) e = kind_eq-refl kind
kind-is kind (vector_type k size) e = kind_eq-refl kind
kind-is kind void_type e = absurd (cc e)
kind-is kind (array_type element size) e = absurd (cc e)
kind-is kind (struct_type number) e = absurd (cc e)

-- each is a scalar or a vector
abbrev AllBasic : List Code → Type 0
AllBasic [] = Unit {0}
AllBasic (code ∷ codes) = (is_basic (type_of_code code) ≡ true) × AllBasic codes

all-basic : (s : Scope) (values : List Value) (codes : List Code) → ArgumentsBecome s values codes → list_any (λ v. is_no_operand v.ty) values ≡ false → AllBasic codes
all-basic s [] [] h e = tt
all-basic s [] (code ∷ codes) h e = absurd h
all-basic s (v ∷ values) [] h e = absurd h
all-basic s (v ∷ values) (code ∷ codes) h e =
    let p : (is_no_operand v.ty ≡ false) × (list_any (λ v. is_no_operand v.ty) values ≡ false) = or_parts (is_no_operand v.ty) (list_any (λ v. is_no_operand v.ty) values) e in
    (argument-basic s v code h.0 p.0, all-basic s values codes h.1 p.1)

all-alike : (kind : Kind) (codes : List Code) → AllBasic codes → list_all (is_of kind) (in_kinds kind codes) ≡ true
all-alike kind [] h = refl
all-alike kind (code ∷ codes) h =
    and_from (is_of kind (with_kind kind (type_of_code code))) (list_all (is_of kind) (in_kinds kind codes)) (kind-is kind (type_of_code code) h.0) (all-alike kind codes h.1)

-- ---- parts

-- the parts of a constructor
record AreBuilt (s : Scope) (kind : Kind) (codes : List Code) (made : Option Exprs) : Type 0 where
  to : Exprs
  is : made ≡ Some to
  types : types_of to ≡ in_kinds kind codes
  stands : (env : places.Scope) → Fits env s → AreExprs env to

built-more : (kind : Kind) (codes : List Code) (code : Code) (first : Expr) (rest : Exprs) → converted_code (with_kind kind (type_of_code code)) code ≡ Some first → in_kind kind codes ≡ Some rest → in_kind kind (code ∷ codes) ≡ Some (more_exprs first rest)
built-more kind codes code first rest e h = rw e (rw h refl)

parts-built : (s : Scope) (kind : Kind) (values : List Value) (codes : List Code) → ArgumentsBecome s values codes → AllBasic codes → AreBuilt s kind codes (in_kind kind codes)
parts-built s kind [] [] h k = record { to = no_exprs; is = refl; types = refl; stands = λ env f. tt }
parts-built s kind [] (code ∷ codes) h k = absurd h
parts-built s kind (v ∷ values) [] h k = absurd h
parts-built s kind (v ∷ values) (code ∷ codes) h k =
    given (converted-there (with_kind kind (type_of_code code)) (value_of_code code) (kind-converts kind (type_of_code code) k.0)) (parts-built s kind values codes h.1 k.1)
  where
    given : IsConverted (with_kind kind (type_of_code code)) (value_of_code code) (converted_code (with_kind kind (type_of_code code)) code) → AreBuilt s kind codes (in_kind kind codes) → AreBuilt s kind (code ∷ codes) (in_kind kind (code ∷ codes))
    given c d = record {
      to = more_exprs c.to d.to;
      is = built-more kind codes code c.to d.to c.is d.is;
      types = ap (λ t. t ∷ types_of d.to) c.type ∙ ap (λ ts. with_kind kind (type_of_code code) ∷ ts) d.types;
      stands = λ env f. (
        c.stands env (argument-stands s v code h.0 env f) (kind-type s kind (value_of_code code) k.0 (argument-stands s v code h.0) env f),
        d.stands env f,
      );
    }

-- ---- constructors

builds : (structs : List StructDef) (ty : Ty) (codes : List Code) → IsShort ty → AllBasic codes → sum (map component_count (map type_of_code codes)) ≡ component_count ty → Builds structs ty (in_kinds (kind_of ty) codes)
builds structs (scalar_type kind) codes h k e = (all-alike kind codes k, same-sum kind 0 codes ∙ e)
builds structs (vector_type kind size) codes h k e = (all-alike kind codes k, same-sum kind 0 codes ∙ e)
builds structs void_type codes h k e = absurd h
builds structs (array_type element size) codes h k e = absurd h
builds structs (struct_type number) codes h k e = absurd h

constructor-made : (at : ℕ) (ty : Ty) (codes : List Code) (parts : Exprs) → in_kind (kind_of ty) codes ≡ Some parts → constructor_code at ty codes ≡ a_value ty at (build_form parts)
constructor-made at ty codes parts e = rw e refl

-- a constructor of a scalar or a vector
pub constructor-becomes : (s : Scope) (at : ℕ) (ty : Ty) (values : List Value) (codes : List Code) → IsShort ty → ArgumentsBecome s values codes → list_any (λ v. is_no_operand v.ty) values || is_other_sum (component_count ty) (argument_types values) ≡ false → Becomes s (plain_value (Some ty)) (constructor_code at ty codes)
constructor-becomes s at ty values codes short h e = given (parts-built s (kind_of ty) values codes h basic)
  where
    rules : (list_any (λ v. is_no_operand v.ty) values ≡ false) × (is_other_sum (component_count ty) (argument_types values) ≡ false)
    rules = or_parts (list_any (λ v. is_no_operand v.ty) values) (is_other_sum (component_count ty) (argument_types values)) e

    basic : AllBasic codes
    basic = all-basic s values codes h rules.0

    counted : sum (map component_count (map type_of_code codes)) ≡ component_count ty
    counted = same-number (sum (map component_count (map type_of_code codes))) (component_count ty) (not-true (sum (map component_count (map type_of_code codes)) == component_count ty) (sym (ap (λ o. is_other_sum (component_count ty) o) (arguments-typed s values codes h)) ∙ rules.1))

    given : AreBuilt s (kind_of ty) codes (in_kind (kind_of ty) codes) → Becomes s (plain_value (Some ty)) (constructor_code at ty codes)
    given b = record {
      to = a_value_code (an_expr ty at (build_form b.to));
      is = constructor-made at ty codes b.to b.is;
      type = refl;
      agrees = tt;
      fits = λ env f. (
        short-result env.structs ty short,
        (b.stands env f, subst (λ ts. Builds env.structs ty ts) (sym b.types) (builds env.structs ty codes short basic counted)),
      );
    }
