-- Operators between two operands.
use Rattle.std.proofs.Common.{◌≡◌, ◌∙◌, refl, sym, ap, subst, arith, ℕ, Bool, true, false, ◌&&◌, ◌||◌, if◌then◌else◌, not, nat_le, List, [], ◌∷◌, None, Some}
use Rattle.std.specs.Prelude.{◌==◌, option_map}
use Rattle.std.specs.List.{list_all}
use Rattle.hl_meaning.specs.declared.ty.Kind.{Kind}
use Rattle.hl_meaning.specs.declared.ty.Kind.TheVariants.{Bool as BoolKind, Int as IntKind, Uint as UintKind}
use Rattle.hl_meaning.specs.Types.{Ty, array_type, is_basic, is_numeric, is_of, is_scalar, scalar_type, struct_type, vector_type, void_type, with_kind}
use Rattle.hl_meaning.specs.Conversions.{converts}
use Rattle.hl_meaning.specs.Operators.{binary_type, comparing, computing, is_among, joining}
use Rattle.hl_meaning.specs.Trees.{Expr, an_expr, binary_form}
use Rattle.hl_rules.specs.Expressions.{binary_code}
use Rattle.hl_rules.specs.Nodes.{Code, a_value, a_value_code, converted_code, type_of_code, value_of_code}
use Rattle.hl_rules.specs.Operands.{common_kind, common_type, computing_kind, joint_type, kind_of, number_kind, operand_type, operator_type, shift_type, sized}
use Rattle.hl_rules.specs.Scopes.{Scope}
use Rattle.hl_rules.specs.Values.{plain_value}
use Rattle.hl_rules.proofs.Becoming.{Becomes, IsConverted, IsValueIn, converted-there, operand-short}
use Rattle.hl_rules.proofs.Marks.{is_operator_of}
use Rattle.hl_rules.proofs.ShortTypes.{IsShort, short-kind, short-result}
use Rattle.hl_rules.proofs.TypeLemmas.{IsSized, and-left, and-right, is_number_kind, same-number, sized-there}

-- ---- kinds

-- the kind in which an operator computes
abbrev pub operand_kind : (joins shifts : Bool) → Ty → Ty → Kind
operand_kind true shifts a b = BoolKind
operand_kind false true a b = computing_kind (kind_of a)
operand_kind false false a b = common_kind (kind_of a) (kind_of b)

sized-operands : (joins shifts : Bool) (a b : Ty) → (if joins then joint_type a b else (if shifts then shift_type a b else common_type a b)) ≡ sized (operand_kind joins shifts a b) a b
sized-operands true shifts a b = refl
sized-operands false true a b = refl
sized-operands false false a b = refl

pub computing-number : (kind : Kind) → is_number_kind (computing_kind kind) ≡ true
computing-number BoolKind = refl
computing-number IntKind = refl
computing-number UintKind = refl

pub common-number : (a b : Kind) → is_number_kind (number_kind a b) ≡ true
common-number IntKind IntKind = refl
common-number IntKind BoolKind = refl
common-number IntKind UintKind = refl
common-number BoolKind b = refl
common-number UintKind b = refl

operands-number : (shifts : Bool) (a b : Ty) → is_number_kind (operand_kind false shifts a b) ≡ true
operands-number true a b = computing-number (kind_of a)
operands-number false a b = common-number (computing_kind (kind_of a)) (computing_kind (kind_of b))

-- ---- types

-- the type in which an operator computes, to which both operands convert
pub record IsOperated (production : ℕ) (a b ty result : Ty) : Type 0 where
  pub computes : operand_type production a b ≡ Some ty
  pub gives : operator_type production a b ≡ Some result
  pub basic : is_basic ty ≡ true
  pub left : converts a ty ≡ true
  pub right : converts b ty ≡ true
  pub back : is_scalar b ≡ true → converts ty a ≡ true
  pub short : IsShort a → IsShort b → IsShort ty
  pub joins : nat_le production 31 ≡ true → is_of BoolKind ty ≡ true
  pub numbers : nat_le production 31 ≡ false → is_numeric ty ≡ true

abbrev pub result_of : (production : ℕ) → Ty → Ty
result_of production ty = if production == 35 || production == 36 then with_kind BoolKind ty else ty

abbrev OperatedOf : ℕ → Ty → Ty → Type 0
OperatedOf production a b = (ty : Ty) × IsOperated production a b ty (result_of production ty)

pub operated-there : (production : ℕ) (a b : Ty) → is_basic a ≡ true → is_basic b ≡ true → OperatedOf production a b
operated-there production a b h k = given (sized-there (operand_kind (nat_le production 31) (production == 37) a b) a b h k)
  where
    joined : (joins : Bool) (ty : Ty) → IsSized (operand_kind joins (production == 37) a b) a b ty → joins ≡ true → is_of BoolKind ty ≡ true
    joined true ty r e = r.bools refl
    joined false ty r e = absurd (cc e)

    numbered : (joins : Bool) (ty : Ty) → IsSized (operand_kind joins (production == 37) a b) a b ty → joins ≡ false → is_numeric ty ≡ true
    numbered true ty r e = absurd (cc e)
    numbered false ty r e = r.numbers (operands-number (production == 37) a b)

    given : (ty : Ty) × IsSized (operand_kind (nat_le production 31) (production == 37) a b) a b ty → OperatedOf production a b
    given r = (
      r.0,
      record {
        computes = sized-operands (nat_le production 31) (production == 37) a b ∙ r.1.is;
        gives = ap (λ o. option_map (λ ty. result_of production ty) o) (sized-operands (nat_le production 31) (production == 37) a b ∙ r.1.is);
        basic = r.1.basic;
        left = r.1.left;
        right = r.1.right;
        back = r.1.back;
        short = r.1.short;
        joins = joined (nat_le production 31) r.0 r.1;
        numbers = numbered (nat_le production 31) r.0 r.1;
      },
    )

-- ---- operators

-- what follows from each of two follows from the one or the other
first-or : (one other to : Bool) → (one ≡ true → to ≡ true) → (other ≡ true → to ≡ true) → one || other ≡ true → to ≡ true
first-or true other to h k e = h refl
first-or false other to h k e = k e

-- what is true of each mark of some is true of one among them
among-all : (test : ℕ → Bool) (marks : List ℕ) (op : ℕ) → list_all test marks ≡ true → is_among marks op ≡ true → test op ≡ true
among-all test [] op e h = absurd (cc h)
among-all test (mark ∷ marks) op e h =
    first-or (op == mark) (is_among marks op) (test op)
    (λ k. subst (λ n. test n ≡ true) (sym (same-number op mark k)) (and-left (test mark) (list_all test marks) e))
    (λ k. among-all test marks op (and-right (test mark) (list_all test marks) e) k)
    h

from-not : (b : Bool) → not b ≡ true → b ≡ false
from-not false e = refl
from-not true e = absurd (cc e)

-- no operator compares and computes
compares-alone : (op : ℕ) → is_among comparing op ≡ true → is_among computing op ≡ false
compares-alone op h = from-not (is_among computing op) (among-all (λ n. not (is_among computing n)) comparing op refl h)

-- bools are no numbers
pub bool-number : (ty : Ty) → is_of BoolKind ty ≡ true → is_numeric ty ≡ false
bool-number (scalar_type BoolKind) e = refl
bool-number (scalar_type IntKind) e = absurd (cc e)
bool-number (scalar_type UintKind) e = absurd (cc e)
bool-number (vector_type BoolKind size) e = refl
bool-number (vector_type IntKind size) e = absurd (cc e)
bool-number (vector_type UintKind size) e = absurd (cc e)
bool-number void_type e = absurd (cc e)
bool-number (array_type element size) e = absurd (cc e)
bool-number (struct_type number) e = absurd (cc e)

joined-on : (computes compares numeric joins bools : Bool) (ty other : Ty) → numeric ≡ false → joins ≡ true → bools ≡ true → (if computes && numeric then Some ty else (if compares && numeric then Some other else (if joins && bools then Some ty else None))) ≡ Some ty
joined-on true true numeric joins bools ty other e h k = rw e (rw h (rw k refl))
joined-on true false numeric joins bools ty other e h k = rw e (rw h (rw k refl))
joined-on false true numeric joins bools ty other e h k = rw e (rw h (rw k refl))
joined-on false false numeric joins bools ty other e h k = rw h (rw k refl)

joined-gives : (op : ℕ) (ty : Ty) → is_among joining op ≡ true → is_of BoolKind ty ≡ true → binary_type op ty ≡ Some ty
joined-gives op ty e h =
    joined-on (is_among computing op) (is_among comparing op) (is_numeric ty) (is_among joining op) (is_of BoolKind ty) ty (with_kind BoolKind ty) (bool-number ty h) e h

-- what an operator of a production gives
gives-on : (joins compares : Bool) (op : ℕ) (ty : Ty) → (if joins then is_among joining op else (if compares then is_among comparing op else is_among computing op)) ≡ true → (joins ≡ true → is_of BoolKind ty ≡ true) → (joins ≡ false → is_numeric ty ≡ true) → (joins ≡ true → compares ≡ false) → binary_type op ty ≡ Some (if compares then with_kind BoolKind ty else ty)
gives-on true true op ty e h k l = absurd (cc (l refl))
gives-on true false op ty e h k l = joined-gives op ty e (h refl)
gives-on false true op ty e h k l = rw (compares-alone op e) (rw e (rw (k refl) refl))
gives-on false false op ty e h k l = rw e (rw (k refl) refl)

small-production : (production : ℕ) → nat_le production 31 ≡ true → production == 35 || production == 36 ≡ false
small-production production e = grind arith

pub operator-gives : (production op : ℕ) (ty : Ty) → is_operator_of production op ≡ true → (nat_le production 31 ≡ true → is_of BoolKind ty ≡ true) → (nat_le production 31 ≡ false → is_numeric ty ≡ true) → binary_type op ty ≡ Some (result_of production ty)
operator-gives production op ty e h k = gives-on (nat_le production 31) (production == 35 || production == 36) op ty e h k (small-production production)

result-short : (production : ℕ) (ty : Ty) → IsShort ty → IsShort (result_of production ty)
result-short production ty h = on (production == 35 || production == 36)
  where
    on : (compares : Bool) → IsShort (if compares then with_kind BoolKind ty else ty)
    on true = short-kind BoolKind ty h
    on false = h

binary-made : (production at op : ℕ) (left right : Code) (ty : Ty) (l r : Expr) → operand_type production (type_of_code left) (type_of_code right) ≡ Some ty → converted_code ty left ≡ Some l → converted_code ty right ≡ Some r → binary_code production at op left right ≡ a_value (result_of production ty) at (binary_form op l r)
binary-made production at op left right ty l r computes e k = rw computes (rw e (rw k refl))

-- an operator on two operands becomes a value
pub binary-becomes : (s : Scope) (production at op : ℕ) (left right : Code) → is_operator_of production op ≡ true → is_basic (type_of_code left) ≡ true → is_basic (type_of_code right) ≡ true → IsValueIn s (value_of_code left) → IsValueIn s (value_of_code right) → Becomes s (plain_value (operator_type production (type_of_code left) (type_of_code right))) (binary_code production at op left right)
binary-becomes s production at op left right marked h k stands_l stands_r = given (operated-there production (type_of_code left) (type_of_code right) h k)
  where
    made : (ty : Ty) → IsOperated production (type_of_code left) (type_of_code right) ty (result_of production ty) → IsConverted ty (value_of_code left) (converted_code ty left) → IsConverted ty (value_of_code right) (converted_code ty right) → Becomes s (plain_value (operator_type production (type_of_code left) (type_of_code right))) (binary_code production at op left right)
    made ty o l r = record {
      to = a_value_code (an_expr (result_of production ty) at (binary_form op l.to r.to));
      is = binary-made production at op left right ty l.to r.to o.computes l.is r.is;
      type = o.gives;
      agrees = tt;
      fits = λ env fits.
          let short : IsShort ty = o.short (operand-short env (value_of_code left) h (stands_l env fits)) (operand-short env (value_of_code right) k (stands_r env fits)) in (
            short-result env.structs (result_of production ty) (result-short production ty short),
            (
              l.stands env (stands_l env fits) (short-result env.structs ty short),
              r.stands env (stands_r env fits) (short-result env.structs ty short),
              l.type ∙ sym r.type,
              ap (λ x. binary_type op x) l.type ∙ operator-gives production op ty marked o.joins o.numbers,
            ),
          );
    }

    given : OperatedOf production (type_of_code left) (type_of_code right) → Becomes s (plain_value (operator_type production (type_of_code left) (type_of_code right))) (binary_code production at op left right)
    given r = made r.0 r.1 (converted-there r.0 (value_of_code left) r.1.left) (converted-there r.0 (value_of_code right) r.1.right)
