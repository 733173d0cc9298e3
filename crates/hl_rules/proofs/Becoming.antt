-- An expression that breaks no rule becomes what is known of it, and that is well formed in every program that the scope fits.
use Rattle.std.proofs.Common.{◌≡◌, ◌∙◌, refl, sym, ap, subst, ℕ, Bool, true, false, not, if◌then◌else◌, List, [], ◌∷◌, Option, None, Some}
use Rattle.hl_parser.specs.Trees.{Tree}
use Rattle.hl_meaning.specs.Types.{Ty, array_type, is_basic, is_void, scalar_type, struct_type, ty_eq, vector_type, void_type}
use Rattle.hl_meaning.specs.Conversions.{converts}
use Rattle.hl_meaning.specs.Trees.{Expr, Form, a_location, an_expr, convert_form, type_of}
use Rattle.hl_meaning.specs.Places as places
use Rattle.hl_meaning.specs.WellFormed.{IsExpr, IsResult}
use Rattle.hl_rules.specs.Expressions.{with_two}
use Rattle.hl_rules.specs.Nodes.{Code, a_place_code, a_value, a_value_code, converted, type_of_code, value_of_code}
use Rattle.hl_rules.specs.Operands.{of_two}
use Rattle.hl_rules.specs.Parts.{Site, a_use, an_operand, site}
use Rattle.hl_rules.specs.Scopes.{Scope}
use Rattle.hl_rules.specs.Sites.{operated, used}
use Rattle.hl_rules.specs.Values.{Standing, Value, a_place, is_no_operand, is_no_operand_type, is_nothing, no_place, plain_value, type_in, unclear, value_of, valued}
use Rattle.hl_rules.proofs.Fitting.{Fits, IsCode}
use Rattle.hl_rules.proofs.Free.{IsFree, free-first, free-left, free-rest, free-right, not_broken}
use Rattle.hl_rules.proofs.ShortTypes.{IsShort, declared-result, result-short}
use Rattle.hl_rules.proofs.TypeLemmas.{ty_eq-same}

-- ---- the claim

-- a place becomes a place, and what is none a value
abbrev pub Agrees : Standing → Code → Type 0
Agrees (a_place writable atomic letters) (a_place_code at place) = Unit {0}
Agrees no_place (a_value_code value) = Unit {0}
Agrees _ _ = ⊥

-- What is known of an expression is what it becomes: it becomes something, of the type that is known, and a place where
-- it is one. It is well formed wherever the scope fits.
pub record Becomes (s : Scope) (v : Value) (code : Option Code) : Type 0 where
  pub to : Code
  pub is : code ≡ Some to
  pub type : v.ty ≡ Some (type_of_code to)
  pub agrees : Agrees v.standing to
  pub fits : (env : places.Scope) → Fits env s → IsCode env v.standing to

-- a value is well formed wherever the scope fits
abbrev pub IsValueIn : Scope → Expr → Type 0
IsValueIn s e = (env : places.Scope) → Fits env s → IsExpr env e

-- a type is one of a value there
abbrev pub IsTypeIn : Scope → Ty → Type 0
IsTypeIn s ty = (env : places.Scope) → Fits env s → IsResult env.structs ty

-- a value becomes one of its type
pub value-becomes : (s : Scope) (ty : Ty) (at : ℕ) (form : Form) → IsValueIn s (an_expr ty at form) → Becomes s (plain_value (Some ty)) (a_value ty at form)
value-becomes s ty at form h = record { to = a_value_code (an_expr ty at form); is = refl; type = refl; agrees = tt; fits = h }

-- ---- values

pub expr-result : (env : places.Scope) (e : Expr) → IsExpr env e → IsResult env.structs (type_of e)
expr-result env (an_expr ty at form) h = h.0

-- a code is well formed as a value
pub code-stands : (env : places.Scope) (standing : Standing) (code : Code) → IsCode env standing code → IsExpr env (value_of_code code)
code-stands env (a_place writable atomic letters) (a_place_code at (a_location ty root parts)) h =
    (declared-result env.structs ty h.is.0, (h.is, refl))
code-stands env no_place (a_value_code value) h = h
code-stands env (a_place writable atomic letters) (a_value_code value) h = absurd h
code-stands env no_place (a_place_code at place) h = absurd h
code-stands env unclear code h = absurd h

pub becomes-stands : (s : Scope) (v : Value) (code : Option Code) (b : Becomes s v code) → IsValueIn s (value_of_code b.to)
becomes-stands s v code b env fits = code-stands env v.standing b.to (b.fits env fits)

-- the type of a well-formed operand
pub operand-short : (env : places.Scope) (e : Expr) → is_basic (type_of e) ≡ true → IsExpr env e → IsShort (type_of e)
operand-short env e h k = result-short env.structs (type_of e) h (expr-result env e k)

-- ---- options

pub with_two-there : {A B C : Type 0} (f : A → B → Option C) (a : Option A) (b : Option B) (x : A) (y : B) → a ≡ Some x → b ≡ Some y → with_two f a b ≡ f x y
with_two-there f a b x y e k = ap (λ o. with_two f o b) e ∙ ap (λ o. with_two f (Some x) o) k

pub of_two-there : (f : Ty → Ty → Option Ty) (a b : Option Ty) (x y : Ty) → a ≡ Some x → b ≡ Some y → of_two f a b ≡ f x y
of_two-there f a b x y e k = ap (λ o. of_two f o b) e ∙ ap (λ o. of_two f (Some x) o) k

-- ---- conversions

-- a value that converts to a type becomes one of it
pub record IsConverted (ty : Ty) (e : Expr) (made : Option Expr) : Type 0 where
  pub to : Expr
  pub is : made ≡ Some to
  pub type : type_of to ≡ ty
  pub stands : (env : places.Scope) → IsExpr env e → IsResult env.structs ty → IsExpr env to

pub converted-there : (ty : Ty) (e : Expr) → converts (type_of e) ty ≡ true → IsConverted ty e (converted ty e)
converted-there ty (an_expr from at form) h = on (ty_eq from ty) refl
  where
    on : (same : Bool) → ty_eq from ty ≡ same → IsConverted ty (an_expr from at form) (if same then Some (an_expr from at form) else (if converts from ty then Some (an_expr ty at (convert_form (an_expr from at form))) else None))
    on true e = record { to = an_expr from at form; is = refl; type = ty_eq-same from ty e; stands = λ env k l. k }
    on false e =
        subst (λ c. IsConverted ty (an_expr from at form) (if c then Some (an_expr ty at (convert_form (an_expr from at form))) else None)) (sym h)
        (record {
          to = an_expr ty at (convert_form (an_expr from at form));
          is = refl;
          type = refl;
          stands = λ env k l. (l, (k, h, ap not e));
        })

-- ---- operands

-- an operand has a type that is known, a scalar or a vector
pub record IsOperand (v : Value) (ty : Ty) : Type 0 where
  pub known : valued v.ty ≡ Some ty
  pub basic : is_basic ty ≡ true

pub not-true : (b : Bool) → not b ≡ false → b ≡ true
not-true true e = refl
not-true false e = absurd (cc e)

pub valued-there : (ty : Ty) → is_void ty ≡ false → valued (Some ty) ≡ Some ty
valued-there void_type e = absurd (cc e)
valued-there (scalar_type kind) e = refl
valued-there (vector_type kind size) e = refl
valued-there (array_type element size) e = refl
valued-there (struct_type number) e = refl

pub operand-known : (v : Value) (ty : Ty) → v.ty ≡ Some ty → is_no_operand_type (valued (valued v.ty)) ≡ false → is_nothing v.ty ≡ false → IsOperand v ty
operand-known v ty e h k = record {
  known = ap (λ o. valued o) e ∙ there;
  basic = not-true (is_basic ty) (sym (ap (λ o. is_no_operand_type o) (ap (λ o. valued (valued o)) e ∙ (ap (λ o. valued o) there ∙ there))) ∙ h);
}
  where
    there : valued (Some ty) ≡ Some ty
    there = valued-there ty (sym (ap (λ o. is_nothing o) e) ∙ k)

-- an operand among free sites
pub operated-known : (s : Scope) (e : Tree) (inside : List Site) (ty : Ty) → IsFree (operated s e inside) → (value_of s e).ty ≡ Some ty → IsOperand (value_of s e) ty
operated-known s e inside ty free h =
    operand-known (value_of s e) ty h
    (not_broken (is_no_operand (type_in s e)) _
    (free-first (site s (an_operand e)) [] (free-rest (site s (a_use e)) (site s (an_operand e) ∷ []) own)).obeys_32)
    (not_broken (is_nothing (value_of s e).ty) _ (free-first (site s (a_use e)) (site s (an_operand e) ∷ []) own).obeys_39)
  where
    own : IsFree (site s (a_use e) ∷ site s (an_operand e) ∷ [])
    own = free-right inside (site s (a_use e) ∷ site s (an_operand e) ∷ []) free

pub operated-inside : (s : Scope) (e : Tree) (inside : List Site) → IsFree (operated s e inside) → IsFree inside
operated-inside s e inside free = free-left inside (site s (a_use e) ∷ site s (an_operand e) ∷ []) free

-- a value that is used, among free sites, is a value
pub used-known : (s : Scope) (e : Tree) (inside : List Site) (ty : Ty) → IsFree (used s e inside) → (value_of s e).ty ≡ Some ty → is_void ty ≡ false
used-known s e inside ty free h =
    sym (ap (λ o. is_nothing o) h)
    ∙ not_broken (is_nothing (value_of s e).ty) _ (free-first (site s (a_use e)) [] (free-right inside (site s (a_use e) ∷ []) free)).obeys_39

pub used-inside : (s : Scope) (e : Tree) (inside : List Site) → IsFree (used s e inside) → IsFree inside
used-inside s e inside free = free-left inside (site s (a_use e) ∷ []) free
