-- Operators before an operand, and casts.
use Rattle.std.proofs.Common.{◌≡◌, ◌∙◌, refl, sym, ap, subst, arith, ℕ, Bool, true, false, ◌&&◌, if◌then◌else◌, None, Some}
use Rattle.std.specs.Prelude.{option_map}
use Rattle.hl_lexer.specs.declared.terminal.Terminal.{Terminal}
use Rattle.hl_lexer.specs.declared.terminal.Terminal.TheVariants as terminals
use Rattle.hl_parser.specs.Grammar as grammar
use Rattle.hl_meaning.specs.declared.ty.Kind.{Kind}
use Rattle.hl_meaning.specs.declared.ty.Kind.TheVariants.{Bool as BoolKind}
use Rattle.hl_meaning.specs.Types.{Ty, array_type, is_basic, is_numeric, is_of, scalar_type, struct_type, vector_type, void_type, with_kind}
use Rattle.hl_meaning.specs.Conversions.{converts}
use Rattle.hl_meaning.specs.Operators.{is_among, negating, signing, unary_type}
use Rattle.hl_meaning.specs.Trees.{Expr, an_expr, type_of, unary_form}
use Rattle.hl_rules.specs.Constants.{word_type}
use Rattle.hl_rules.specs.Expressions.{signed_code}
use Rattle.hl_rules.specs.Nodes.{Code, a_value, a_value_code, converted_code, type_of_code, value_of_code}
use Rattle.hl_rules.specs.Operands.{computing_kind, kind_of, negated_type, signed_type}
use Rattle.hl_rules.specs.Scopes.{Scope}
use Rattle.hl_rules.specs.Values.{plain_value}
use Rattle.hl_rules.proofs.Becoming.{Becomes, IsConverted, IsTypeIn, IsValueIn, converted-there, operand-short}
use Rattle.hl_rules.proofs.BinaryForms.{bool-number, computing-number}
use Rattle.hl_rules.proofs.ShortTypes.{IsShort, short-kind, short-result}
use Rattle.hl_rules.proofs.TypeLemmas.{cut-converts, is_number_kind, number-numeric}

-- ---- types

-- a scalar or a vector converts to any kind of its size
pub kind-converts : (kind : Kind) (ty : Ty) → is_basic ty ≡ true → converts ty (with_kind kind ty) ≡ true
kind-converts kind (scalar_type k) e = refl
kind-converts kind (vector_type k size) e = cut-converts k kind size size (omega arith)
kind-converts kind void_type e = absurd (cc e)
kind-converts kind (array_type t n) e = absurd (cc e)
kind-converts kind (struct_type n) e = absurd (cc e)

pub numeric-kind : (kind : Kind) (ty : Ty) → is_number_kind kind ≡ true → is_basic ty ≡ true → is_numeric (with_kind kind ty) ≡ true
numeric-kind kind (scalar_type k) h e = number-numeric kind h
numeric-kind kind (vector_type k size) h e = number-numeric kind h
numeric-kind kind void_type h e = absurd (cc e)
numeric-kind kind (array_type t n) h e = absurd (cc e)
numeric-kind kind (struct_type n) h e = absurd (cc e)

pub bool-kind : (ty : Ty) → is_basic ty ≡ true → is_of BoolKind (with_kind BoolKind ty) ≡ true
bool-kind (scalar_type k) e = refl
bool-kind (vector_type k size) e = refl
bool-kind void_type e = absurd (cc e)
bool-kind (array_type t n) e = absurd (cc e)
bool-kind (struct_type n) e = absurd (cc e)

-- the type of an operand in another kind
pub kind-type : (s : Scope) (kind : Kind) (e : Expr) → is_basic (type_of e) ≡ true → IsValueIn s e → IsTypeIn s (with_kind kind (type_of e))
kind-type s kind e h k env fits = short-result env.structs (with_kind kind (type_of e)) (short-kind kind (type_of e) (operand-short env e h (k env fits)))

-- the words of types are scalars and vectors of two to four components
pub word-short : (terminal : Terminal) → grammar.is_basic terminal ≡ true → IsShort (word_type terminal)
word-short terminals.Bool e = tt
word-short terminals.Int e = tt
word-short terminals.Uint e = tt
word-short terminals.Bool2 e = (omega arith, omega arith)
word-short terminals.Bool3 e = (omega arith, omega arith)
word-short terminals.Bool4 e = (omega arith, omega arith)
word-short terminals.Int2 e = (omega arith, omega arith)
word-short terminals.Int3 e = (omega arith, omega arith)
word-short terminals.Int4 e = (omega arith, omega arith)
word-short terminals.Uint2 e = (omega arith, omega arith)
word-short terminals.Uint3 e = (omega arith, omega arith)
word-short terminals.Uint4 e = (omega arith, omega arith)
word-short _ e = absurd (cc e)

-- ---- operators

-- an operator before an operand
pub signed-becomes : (s : Scope) (at op : ℕ) (ty : Ty) (operand : Code) → converts (type_of_code operand) ty ≡ true → unary_type op ty ≡ Some ty → IsValueIn s (value_of_code operand) → IsTypeIn s ty → Becomes s (plain_value (Some ty)) (signed_code at op (Some ty) operand)
signed-becomes s at op ty operand h gives stands result = given (converted-there ty (value_of_code operand) h)
  where
    made : (value : Expr) → converted_code ty operand ≡ Some value → signed_code at op (Some ty) operand ≡ a_value ty at (unary_form op value)
    made value e = rw e refl

    given : IsConverted ty (value_of_code operand) (converted_code ty operand) → Becomes s (plain_value (Some ty)) (signed_code at op (Some ty) operand)
    given c = record {
      to = a_value_code (an_expr ty at (unary_form op c.to));
      is = made c.to c.is;
      type = refl;
      agrees = tt;
      fits = λ env fits. (result env fits, (c.stands env (stands env fits) (result env fits), ap (λ t. unary_type op t) c.type ∙ gives));
    }

pub cast-becomes : (s : Scope) (ty : Ty) (operand : Code) → converts (type_of_code operand) ty ≡ true → IsValueIn s (value_of_code operand) → IsTypeIn s ty → Becomes s (plain_value (Some ty)) (option_map a_value_code (converted_code ty operand))
cast-becomes s ty operand h stands result = given (converted-there ty (value_of_code operand) h)
  where
    given : IsConverted ty (value_of_code operand) (converted_code ty operand) → Becomes s (plain_value (Some ty)) (option_map a_value_code (converted_code ty operand))
    given c = record {
      to = a_value_code c.to;
      is = ap (λ o. option_map a_value_code o) c.is;
      type = ap Some (sym c.type);
      agrees = tt;
      fits = λ env fits. c.stands env (stands env fits) (result env fits);
    }

signed-there : (ty : Ty) → is_basic ty ≡ true → signed_type ty ≡ Some (with_kind (computing_kind (kind_of ty)) ty)
signed-there ty e = rw e refl

negated-there : (ty : Ty) → is_basic ty ≡ true → negated_type ty ≡ Some (with_kind BoolKind ty)
negated-there ty e = rw e refl

sign-gives : (op : ℕ) (ty : Ty) → is_among signing op ≡ true → is_numeric ty ≡ true → unary_type op ty ≡ Some ty
sign-gives op ty h k = rw h (rw k refl)

negated-on : (signs numeric negates bools : Bool) (ty : Ty) → numeric ≡ false → negates ≡ true → bools ≡ true → (if signs && numeric then Some ty else (if negates && bools then Some ty else None)) ≡ Some ty
negated-on true numeric negates bools ty e h k = rw e (rw h (rw k refl))
negated-on false numeric negates bools ty e h k = rw h (rw k refl)

negation-gives : (op : ℕ) (ty : Ty) → is_among negating op ≡ true → is_of BoolKind ty ≡ true → unary_type op ty ≡ Some ty
negation-gives op ty h k = negated-on (is_among signing op) (is_numeric ty) (is_among negating op) (is_of BoolKind ty) ty (bool-number ty k) h k

-- `+`, `-` and `~`
pub signs-becomes : (s : Scope) (at op : ℕ) (operand : Code) → is_among signing op ≡ true → is_basic (type_of_code operand) ≡ true → IsValueIn s (value_of_code operand) → Becomes s (plain_value (signed_type (type_of_code operand))) (signed_code at op (signed_type (type_of_code operand)) operand)
signs-becomes s at op operand h e stands =
    let kind = computing_kind (kind_of (type_of_code operand)) in
    subst (λ o. Becomes s (plain_value o) (signed_code at op o operand)) (sym (signed-there (type_of_code operand) e))
    (signed-becomes s at op (with_kind kind (type_of_code operand)) operand (kind-converts kind (type_of_code operand) e)
    (sign-gives op (with_kind kind (type_of_code operand)) h (numeric-kind kind (type_of_code operand) (computing-number (kind_of (type_of_code operand))) e))
    stands (kind-type s kind (value_of_code operand) e stands))

-- `!`
pub negates-becomes : (s : Scope) (at op : ℕ) (operand : Code) → is_among negating op ≡ true → is_basic (type_of_code operand) ≡ true → IsValueIn s (value_of_code operand) → Becomes s (plain_value (negated_type (type_of_code operand))) (signed_code at op (negated_type (type_of_code operand)) operand)
negates-becomes s at op operand h e stands =
    subst (λ o. Becomes s (plain_value o) (signed_code at op o operand)) (sym (negated-there (type_of_code operand) e))
    (signed-becomes s at op (with_kind BoolKind (type_of_code operand)) operand (kind-converts BoolKind (type_of_code operand) e)
    (negation-gives op (with_kind BoolKind (type_of_code operand)) h (bool-kind (type_of_code operand) e))
    stands (kind-type s BoolKind (value_of_code operand) e stands))
