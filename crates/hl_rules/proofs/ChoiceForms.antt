-- `?:` becomes what is known of it.
use Rattle.std.proofs.Common.{◌≡◌, refl, arith, ℕ, ◌≤◌, true, Some, le_trans}
use Rattle.std.specs.Prelude.{min}
use Rattle.hl_meaning.specs.declared.ty.Kind.{Kind}
use Rattle.hl_meaning.specs.declared.ty.Kind.TheVariants.{Bool as BoolKind}
use Rattle.hl_meaning.specs.Types.{Ty, array_type, is_basic, scalar_type, struct_type, vector_type, void_type, with_kind}
use Rattle.hl_meaning.specs.Conversions.{converts}
use Rattle.hl_meaning.specs.Trees.{Expr, an_expr, choose_form}
use Rattle.hl_rules.specs.Expressions.{choice_code}
use Rattle.hl_rules.specs.Nodes.{Code, a_value, a_value_code, converted_code, type_of_code, value_of_code}
use Rattle.hl_rules.specs.Operands.{branch_kind, choice_type}
use Rattle.hl_rules.specs.Scopes.{Scope}
use Rattle.hl_rules.specs.Values.{plain_value}
use Rattle.hl_rules.proofs.Becoming.{Becomes, IsConverted, IsValueIn, converted-there, operand-short}
use Rattle.hl_rules.proofs.ShortTypes.{IsShort, short-kind, short-result}
use Rattle.hl_rules.proofs.TypeLemmas.{cut-converts, min-left, min-low}

-- the types of the parts of `?:` and of the whole
pub record IsChosen (c y n ty : Ty) : Type 0 where
  pub chosen : choice_type c y n ≡ Some ty
  pub basic : is_basic ty ≡ true
  pub short : IsShort c → IsShort y → IsShort n → IsShort ty
  pub condition : converts c (with_kind BoolKind ty) ≡ true
  pub consequent : converts y ty ≡ true
  pub alternative : converts n ty ≡ true

choice-made : (at : ℕ) (c y n : Code) (ty : Ty) (cond yes' no' : Expr) → choice_type (type_of_code c) (type_of_code y) (type_of_code n) ≡ Some ty → converted_code (with_kind BoolKind ty) c ≡ Some cond → converted_code ty y ≡ Some yes' → converted_code ty n ≡ Some no' → choice_code at c y n ≡ a_value ty at (choose_form cond yes' no')
choice-made at c y n ty cond yes' no' e h k l = rw e (rw h (rw k (rw l refl)))

-- scalars and vectors
pub data BasicView (ty : Ty) : Type 0 where
  is_scalar_view : (kind : Kind) → ty ≡ scalar_type kind → BasicView ty
  is_vector_view : (kind : Kind) (size : ℕ) → ty ≡ vector_type kind size → BasicView ty

pub basic-view : (ty : Ty) → is_basic ty ≡ true → BasicView ty
basic-view (scalar_type kind) e = is_scalar_view kind refl
basic-view (vector_type kind size) e = is_vector_view kind size refl
basic-view void_type e = absurd (cc e)
basic-view (array_type element size) e = absurd (cc e)
basic-view (struct_type number) e = absurd (cc e)

min-short : (m n : ℕ) → (2 ≤ m) × (m ≤ 4) → (2 ≤ n) × (n ≤ 4) → (2 ≤ min m n) × (min m n ≤ 4)
min-short m n h k = (min-low m n 2 h.0 k.0, le_trans (min-left m n) h.1)

abbrev pub ChosenOf : Ty → Ty → Ty → Type 0
ChosenOf c y n = (ty : Ty) × IsChosen c y n ty

choice-sss : (a b c : Kind) → ChosenOf (scalar_type a) (scalar_type b) (scalar_type c)
choice-sss a b c = (scalar_type (branch_kind b c), record { chosen = refl; basic = refl; short = λ e h k. tt; condition = refl; consequent = refl; alternative = refl })

choice-ssv : (a b c : Kind) (p : ℕ) → ChosenOf (scalar_type a) (scalar_type b) (vector_type c p)
choice-ssv a b c p = (
  vector_type (branch_kind b c) p,
  record {
    chosen = refl;
    basic = refl;
    short = λ e h k. k;
    condition = refl;
    consequent = refl;
    alternative = cut-converts c (branch_kind b c) p p (omega arith);
  },
)

choice-svs : (a b c : Kind) (m : ℕ) → ChosenOf (scalar_type a) (vector_type b m) (scalar_type c)
choice-svs a b c m = (
  vector_type (branch_kind b c) m,
  record {
    chosen = refl;
    basic = refl;
    short = λ e h k. h;
    condition = refl;
    consequent = cut-converts b (branch_kind b c) m m (omega arith);
    alternative = refl;
  },
)

choice-svv : (a b c : Kind) (m p : ℕ) → ChosenOf (scalar_type a) (vector_type b m) (vector_type c p)
choice-svv a b c m p = (
  vector_type (branch_kind b c) (min m p),
  record {
    chosen = refl;
    basic = refl;
    short = λ e h k. min-short m p h k;
    condition = refl;
    consequent = cut-converts b (branch_kind b c) m (min m p) (omega arith);
    alternative = cut-converts c (branch_kind b c) p (min m p) (omega arith);
  },
)

choice-vss : (a b c : Kind) (q : ℕ) → ChosenOf (vector_type a q) (scalar_type b) (scalar_type c)
choice-vss a b c q = (
  vector_type (branch_kind b c) q,
  record {
    chosen = refl;
    basic = refl;
    short = λ e h k. e;
    condition = cut-converts a BoolKind q q (omega arith);
    consequent = refl;
    alternative = refl;
  },
)

choice-vsv : (a b c : Kind) (q p : ℕ) → ChosenOf (vector_type a q) (scalar_type b) (vector_type c p)
choice-vsv a b c q p = (
  vector_type (branch_kind b c) (min q p),
  record {
    chosen = refl;
    basic = refl;
    short = λ e h k. min-short q p e k;
    condition = cut-converts a BoolKind q (min q p) (omega arith);
    consequent = refl;
    alternative = cut-converts c (branch_kind b c) p (min q p) (omega arith);
  },
)

choice-vvs : (a b c : Kind) (q m : ℕ) → ChosenOf (vector_type a q) (vector_type b m) (scalar_type c)
choice-vvs a b c q m = (
  vector_type (branch_kind b c) (min q m),
  record {
    chosen = refl;
    basic = refl;
    short = λ e h k. min-short q m e h;
    condition = cut-converts a BoolKind q (min q m) (omega arith);
    consequent = cut-converts b (branch_kind b c) m (min q m) (omega arith);
    alternative = refl;
  },
)

choice-vvv : (a b c : Kind) (q m p : ℕ) → ChosenOf (vector_type a q) (vector_type b m) (vector_type c p)
choice-vvv a b c q m p = (
  vector_type (branch_kind b c) (min q (min m p)),
  record {
    chosen = refl;
    basic = refl;
    short = λ e h k. min-short q (min m p) e (min-short m p h k);
    condition = cut-converts a BoolKind q (min q (min m p)) (omega arith);
    consequent = cut-converts b (branch_kind b c) m (min q (min m p)) (omega arith);
    alternative = cut-converts c (branch_kind b c) p (min q (min m p)) (omega arith);
  },
)

chosen-of : (c y n : Ty) → BasicView c → BasicView y → BasicView n → ChosenOf c y n
chosen-of c y n (is_scalar_view a e) (is_scalar_view b h) (is_scalar_view k l) = rw e (rw h (rw l (choice-sss a b k)))
chosen-of c y n (is_scalar_view a e) (is_scalar_view b h) (is_vector_view k p l) = rw e (rw h (rw l (choice-ssv a b k p)))
chosen-of c y n (is_scalar_view a e) (is_vector_view b m h) (is_scalar_view k l) = rw e (rw h (rw l (choice-svs a b k m)))
chosen-of c y n (is_scalar_view a e) (is_vector_view b m h) (is_vector_view k p l) = rw e (rw h (rw l (choice-svv a b k m p)))
chosen-of c y n (is_vector_view a q e) (is_scalar_view b h) (is_scalar_view k l) = rw e (rw h (rw l (choice-vss a b k q)))
chosen-of c y n (is_vector_view a q e) (is_scalar_view b h) (is_vector_view k p l) = rw e (rw h (rw l (choice-vsv a b k q p)))
chosen-of c y n (is_vector_view a q e) (is_vector_view b m h) (is_scalar_view k l) = rw e (rw h (rw l (choice-vvs a b k q m)))
chosen-of c y n (is_vector_view a q e) (is_vector_view b m h) (is_vector_view k p l) = rw e (rw h (rw l (choice-vvv a b k q m p)))

-- `?:`
pub choice-becomes : (s : Scope) (at : ℕ) (c y n : Code) → is_basic (type_of_code c) ≡ true → is_basic (type_of_code y) ≡ true → is_basic (type_of_code n) ≡ true → IsValueIn s (value_of_code c) → IsValueIn s (value_of_code y) → IsValueIn s (value_of_code n) → Becomes s (plain_value (choice_type (type_of_code c) (type_of_code y) (type_of_code n))) (choice_code at c y n)
choice-becomes s at c y n e h k stands_c stands_y stands_n =
    given (chosen-of (type_of_code c) (type_of_code y) (type_of_code n) (basic-view (type_of_code c) e) (basic-view (type_of_code y) h) (basic-view (type_of_code n) k))
  where
    made : (ty : Ty) → IsChosen (type_of_code c) (type_of_code y) (type_of_code n) ty → IsConverted (with_kind BoolKind ty) (value_of_code c) (converted_code (with_kind BoolKind ty) c) → IsConverted ty (value_of_code y) (converted_code ty y) → IsConverted ty (value_of_code n) (converted_code ty n) → Becomes s (plain_value (choice_type (type_of_code c) (type_of_code y) (type_of_code n))) (choice_code at c y n)
    made ty o p q r = record {
      to = a_value_code (an_expr ty at (choose_form p.to q.to r.to));
      is = choice-made at c y n ty p.to q.to r.to o.chosen p.is q.is r.is;
      type = o.chosen;
      agrees = tt;
      fits = λ env fits.
          let short : IsShort ty = o.short (operand-short env (value_of_code c) e (stands_c env fits)) (operand-short env (value_of_code y) h (stands_y env fits)) (operand-short env (value_of_code n) k (stands_n env fits)) in (
            short-result env.structs ty short,
            (
              p.stands env (stands_c env fits) (short-result env.structs (with_kind BoolKind ty) (short-kind BoolKind ty short)),
              q.stands env (stands_y env fits) (short-result env.structs ty short),
              r.stands env (stands_n env fits) (short-result env.structs ty short),
              p.type,
              q.type,
              r.type,
              o.basic,
            ),
          );
    }

    given : ChosenOf (type_of_code c) (type_of_code y) (type_of_code n) → Becomes s (plain_value (choice_type (type_of_code c) (type_of_code y) (type_of_code n))) (choice_code at c y n)
    given r =
        made r.0 r.1 (converted-there (with_kind BoolKind r.0) (value_of_code c) r.1.condition)
        (converted-there r.0 (value_of_code y) r.1.consequent) (converted-there r.0 (value_of_code n) r.1.alternative)
