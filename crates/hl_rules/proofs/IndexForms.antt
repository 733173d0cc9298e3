-- Indexes become what is known of them.
use Rattle.std.proofs.Common.{◌≡◌, ◌∙◌, refl, sym, ap, subst, arith, ℕ, ◌≤◌, Bool, true, false, ◌&&◌, if◌then◌else◌, nat_le, nat_lt, [], ◌∷◌, Option, None, Some}
use Rattle.std.specs.Prelude.{is_none, option_map, slice_index_or}
use Rattle.hl_lexer.specs.Numbers.{greatest_number}
use Rattle.hl_meaning.specs.declared.ty.Kind.{Kind}
use Rattle.hl_meaning.specs.Types.{Ty, array_type, is_scalar, scalar_type, struct_type, uint_type, vector_type, void_type}
use Rattle.hl_meaning.specs.Conversions.{converts}
use Rattle.hl_meaning.specs.Operators.{unary_type}
use Rattle.hl_meaning.specs.Trees.{Expr, an_expr, index_part, literal_form, type_of}
use Rattle.hl_meaning.specs.Places as places
use Rattle.hl_meaning.specs.Places.{is_index_within, is_literal, part_type}
use Rattle.hl_meaning.specs.WellFormed.{IsDeclared, IsExpr, IsResult}
use Rattle.hl_rules.specs.ExpressionRules.{is_past, needs_constant_index}
use Rattle.hl_rules.specs.Expressions.{index_expr, indexed_into, no_literal}
use Rattle.hl_rules.specs.Nodes.{Code, converted_code, type_of_code, value_of_code}
use Rattle.hl_rules.specs.Scopes.{Scope}
use Rattle.hl_rules.specs.Values.{Standing, a_place, indexed, indexed_value, is_longer, no_place, stepped, unclear}
use Rattle.hl_rules.proofs.Becoming.{Agrees, Becomes, IsConverted, IsValueIn, code-stands, converted-there, expr-result}
use Rattle.hl_rules.proofs.Fitting.{Fits, IsCode}
use Rattle.hl_rules.proofs.PathSteps.{last-index, last-number}
use Rattle.hl_rules.proofs.ShortTypes.{element-declared, short-declared, short-result}
use Rattle.hl_rules.proofs.StepForms.{IsFollowed, IsStep, part-becomes}

-- ---- indexes

-- what an index becomes: a uint, which is a literal where it is a constant number
pub record IsIndex (s : Scope) (number : Option ℕ) (made : Option Expr) : Type 0 where
  pub to : Expr
  pub is : made ≡ Some to
  pub type : type_of to ≡ uint_type
  pub stands : IsValueIn s to
  pub fixed : (n : ℕ) → number ≡ Some n → (at : ℕ) × (to ≡ an_expr uint_type at (literal_form n))
  pub free : number ≡ None → is_literal to ≡ false

no-literal-type : (e : Expr) → type_of (no_literal e) ≡ type_of e
no-literal-type (an_expr ty at (literal_form word)) = refl
no-literal-type (an_expr ty at form) = refl

no-literal-free : (e : Expr) → is_literal (no_literal e) ≡ false
no-literal-free (an_expr ty at (literal_form word)) = refl
no-literal-free (an_expr ty at form) = refl

no-literal-stands : (env : places.Scope) (e : Expr) → type_of e ≡ uint_type → IsExpr env e → IsExpr env (no_literal e)
no-literal-stands env (an_expr ty at (literal_form word)) e h = (h.0, (h, ap (λ t. unary_type 12 t) e ∙ ap Some (sym e)))
no-literal-stands env (an_expr ty at form) e h = h

pub scalar-converts : (ty : Ty) → is_scalar ty ≡ true → converts ty uint_type ≡ true
scalar-converts (scalar_type kind) e = refl
scalar-converts void_type e = absurd (cc e)
scalar-converts (vector_type kind size) e = absurd (cc e)
scalar-converts (array_type element size) e = absurd (cc e)
scalar-converts (struct_type number) e = absurd (cc e)

number-stands : (s : Scope) (at number : ℕ) → number ≤ greatest_number → IsValueIn s (an_expr uint_type at (literal_form number))
number-stands s at number h env fits = (short-result env.structs uint_type tt, omega arith)

some-same : {A : Type 0} (x y : A) → Some x ≡ Some y → x ≡ y
some-same x y e = cc

pub index-there : (s : Scope) (at : ℕ) (number : Option ℕ) (code : Code) → ((n : ℕ) → number ≡ Some n → n ≤ greatest_number) → converts (type_of_code code) uint_type ≡ true → IsValueIn s (value_of_code code) → IsIndex s number (index_expr at number code)
index-there s at (Some n) code small h stands = record {
  to = an_expr uint_type at (literal_form n);
  is = refl;
  type = refl;
  stands = number-stands s at n (small n refl);
  fixed = λ m e. (at, ap (λ x. an_expr uint_type at (literal_form x)) (some-same n m e));
  free = λ e. absurd (cc e);
}
index-there s at None code small h stands = given (converted-there uint_type (value_of_code code) h)
  where
    given : IsConverted uint_type (value_of_code code) (converted_code uint_type code) → IsIndex s None (option_map no_literal (converted_code uint_type code))
    given c = record {
      to = no_literal c.to;
      is = ap (λ o. option_map no_literal o) c.is;
      type = no-literal-type c.to ∙ c.type;
      stands = λ env f. no-literal-stands env c.to c.type (c.stands env (stands env f) (short-result env.structs uint_type tt));
      fixed = λ m e. absurd (cc e);
      free = λ e. no-literal-free c.to;
    }

-- ---- an index behind something

-- a constant index is less than the length
literal-within : (size number : ℕ) → nat_le size number ≡ false → nat_lt number size ≡ true
literal-within size number e = grind arith

free-within : (size : ℕ) (index : Expr) → is_literal index ≡ false → is_index_within size index ≡ true
free-within size (an_expr ty at (literal_form word)) e = absurd (cc e)
free-within size (an_expr ty at form) e = refl

index-within : (s : Scope) (number : Option ℕ) (made : Option Expr) (i : IsIndex s number made) (size : ℕ) → ((n : ℕ) → number ≡ Some n → nat_le size n ≡ false) → is_index_within size i.to ≡ true
index-within s None made i size h = free-within size i.to (i.free refl)
index-within s (Some n) made i size h = ap (λ e. is_index_within size e) (i.fixed n refl).1 ∙ literal-within size n (h n refl)

-- where it isn't a constant number, nothing is known at the end
free-followed : (index : Expr) (from : Ty) (standing : Standing) (code : Code) → is_literal index ≡ false → Agrees standing code → needs_constant_index standing ≡ false → IsFollowed (index_part index) from standing (stepped standing)
free-followed index from (a_place w a before) code e h k =
    (refl, refl, (λ parts l. sym (last-index parts index e)), (λ l m. absurd (cc (l, k))))
free-followed index from no_place code e h k = absurd (cc k)
free-followed index from unclear code e h k = absurd h

fixed-followed : (at number : ℕ) (from : Ty) (standing : Standing) (code : Code) → Agrees standing code → IsFollowed (index_part (an_expr uint_type at (literal_form number))) from standing (indexed (Some number) standing)
fixed-followed at number from (a_place w a before) code h =
    (refl, refl, (λ parts e. ap (λ b. if is_longer b then slice_index_or b number 0 ∷ [] else []) e ∙ sym (last-number parts uint_type at number)), (λ l m. refl))
fixed-followed at number from no_place code h = (refl, λ m. refl)
fixed-followed at number from unclear code h = absurd h

index-followed : (s : Scope) (number : Option ℕ) (made : Option Expr) (i : IsIndex s number made) (from : Ty) (standing : Standing) (code : Code) → Agrees standing code → is_none number && needs_constant_index standing ≡ false → IsFollowed (index_part i.to) from standing (indexed number standing)
index-followed s None made i from standing code h k = free-followed i.to from standing code (i.free refl) h k
index-followed s (Some n) made i from standing code h k =
    subst (λ e. IsFollowed (index_part e) from standing (indexed (Some n) standing)) (sym (i.fixed n refl).1) (fixed-followed (i.fixed n refl).0 n from standing code h)

abbrev pub is_indexed : Ty → Bool
is_indexed (array_type element size) = true
is_indexed (vector_type kind size) = true
is_indexed _ = false

-- a constant index isn't past the end
past-known : (number : Option ℕ) (ty : Ty) → is_past number (Some ty) ≡ false → (n : ℕ) → number ≡ Some n → is_past (Some n) (Some ty) ≡ false
past-known number ty e n h = ap (λ o. is_past o (Some ty)) (sym h) ∙ e

-- an index into an array or a vector
array-step : (env : places.Scope) (index : Expr) (from element : Ty) (size : ℕ) → IsExpr env index → type_of index ≡ uint_type → is_index_within size index ≡ true → from ≡ array_type element size → IsDeclared env.structs (array_type element size) → IsStep env (index_part index) from element
array-step env index from element size h k l e d = record {
  part_is = (h, k);
  leads = ap (λ t. part_type env.structs t (index_part index)) e ∙ ap (λ b. if b then Some element else None) l;
  declared = element-declared env.structs element size d;
}

vector-step : (env : places.Scope) (index : Expr) (from : Ty) (kind : Kind) (size : ℕ) → IsExpr env index → type_of index ≡ uint_type → is_index_within size index ≡ true → from ≡ vector_type kind size → IsStep env (index_part index) from (scalar_type kind)
vector-step env index from kind size h k l e = record {
  part_is = (h, k);
  leads = ap (λ t. part_type env.structs t (index_part index)) e ∙ ap (λ b. if b then Some (scalar_type kind) else None) l;
  declared = short-declared env.structs (scalar_type kind) tt;
}

-- an index behind an array or a vector
pub indexed-becomes : (s : Scope) (at : ℕ) (number : Option ℕ) (made : Option Expr) (i : IsIndex s number made) (ty : Ty) (standing : Standing) (code : Code) → type_of_code code ≡ ty → is_indexed ty ≡ true → is_past number (Some ty) ≡ false → is_none number && needs_constant_index standing ≡ false → Agrees standing code → ((env : places.Scope) → Fits env s → IsCode env standing code) → Becomes s (indexed_value number (Some ty) standing) (indexed_into at i.to ty code)
indexed-becomes s at number made i (array_type element size) standing code is e past needs agrees fits =
    part-becomes s at (index_part i.to) element standing (indexed number standing) code agrees
    (index-followed s number made i (type_of_code code) standing code agrees needs)
    (λ env f. array-step env i.to (type_of_code code) element size (i.stands env f) i.type
    (index-within s number made i size (past-known number (array_type element size) past))
    is (subst (λ t. IsResult env.structs t) is (expr-result env (value_of_code code) (code-stands env standing code (fits env f)))))
    fits
indexed-becomes s at number made i (vector_type kind size) standing code is e past needs agrees fits =
    part-becomes s at (index_part i.to) (scalar_type kind) standing (indexed number standing) code agrees
    (index-followed s number made i (type_of_code code) standing code agrees needs)
    (λ env f. vector-step env i.to (type_of_code code) kind size (i.stands env f) i.type
    (index-within s number made i size (past-known number (vector_type kind size) past))
    is)
    fits
indexed-becomes s at number made i (scalar_type kind) standing code is e past needs agrees fits = absurd (cc e)
indexed-becomes s at number made i (struct_type n) standing code is e past needs agrees fits = absurd (cc e)
indexed-becomes s at number made i void_type standing code is e past needs agrees fits = absurd (cc e)
