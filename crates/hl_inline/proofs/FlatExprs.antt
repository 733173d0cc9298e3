-- What becomes of operands in order is well formed.
use Rattle.std.proofs.Common.{◌≡◌, refl, sym, ap, subst, ℕ, ◌⊎◌, inl, Bool, true, false, List, [], ◌∷◌, map, Some}
use Rattle.std.specs.Prelude.{◌||◌, ◌&&◌, not, if◌then◌else◌, IsTrue, option_and_then}
use Rattle.std.proofs.lemmas.Bool.{true≢false}
use Rattle.hl_meaning.specs.Types.{Ty, array_type, scalar_type, struct_type, vector_type, void_type}
use Rattle.hl_meaning.specs.Trees.{Expr, Form, an_expr, atomic_form, binary_form, build_form, call_form, choose_form, convert_form, intrinsic_form, literal_form, method_form, pick_form, read_form, type_of, unary_form, write_form}
use Rattle.hl_meaning.specs.Programs.{StructDef, Variable}
use Rattle.hl_meaning.specs.Places.{Scope, is_index_within, variable_type}
use Rattle.hl_meaning.specs.WellFormed.{IsDeclared, IsExpr, IsResult}
use Rattle.hl_inline.specs.FlatTrees.{flat_local}
use Rattle.typed_laws.proofs.OperandExpressions.{operand_exprs}
use Rattle.hl_inline.specs.Operands.{filled}
use Rattle.hl_inline.specs.EmittedExpressions.{over}
use Rattle.hl_inline.specs.EmittedStatements.{is_call}
use Rattle.hl_inline.specs.Emitting.{Emitter, Valued, Values, any_call, emit_all, reading, saved, settled, token_of, values_with}
use Rattle.hl_inline.specs.Fresh.{Fresh, Instance, next_of, unnamed}
use Rattle.typed_laws.proofs.Induction.{Every}
use Rattle.typed_laws.proofs.OperandValues.{is_call_form}
use Rattle.typed_laws.proofs.Typed.{IsSome, IsValue}
use Rattle.hl_inline.proofs.Fronts.{IsFront, front_more, front_trans, next_variable}
use Rattle.hl_inline.proofs.FlatCode.{AreBelow, IsCode, IsFitting, code_append, extends_with, no_code, one_code}
use Rattle.hl_inline.proofs.FlatForms.{ReplaceAll, StandsFrom, form_filled, scope_over}

-- types

pub declared_some : (structs : List StructDef) (ty : Ty) → IsResult structs ty → IsSome ty → IsDeclared structs ty
declared_some structs void_type h some = absurd (true≢false some)
declared_some structs (scalar_type kind) h some = h
declared_some structs (vector_type kind size) h some = h
declared_some structs (array_type element count) h some = h
declared_some structs (struct_type number) h some = h

pub result_declared : (structs : List StructDef) (ty : Ty) → IsDeclared structs ty → IsResult structs ty
result_declared structs void_type h = tt
result_declared structs (scalar_type kind) h = h
result_declared structs (vector_type kind size) h = h
result_declared structs (array_type element count) h = h
result_declared structs (struct_type number) h = h

pub expr_result : (s : Scope) (e : Expr) → IsExpr s e → IsResult s.structs (type_of e)
expr_result s (an_expr ty at form) h = h.0

pub value_declared : (s : Scope) (e : Expr) → IsValue s e → IsDeclared s.structs (type_of e)
value_declared s e h = declared_some s.structs (type_of e) (expr_result s e h.0) h.1

-- a variable is read
pub reading_well : (S : Scope) (ty : Ty) (at number : ℕ) → IsDeclared S.structs ty → variable_type S.variables number ≡ Some ty → IsExpr S (reading ty at number)
reading_well S ty at number declared typed = (result_declared S.structs ty declared, ((declared, tt, tt, ap (option_and_then (λ t. Some t)) typed), refl))

-- nothing is asked of the names around
abbrev pub Anywhere : List ℕ → Type 0
Anywhere names = Unit {0}

-- a value is a literal only where its expression is one
literal_filled : (first : ℕ) (ty : Ty) (at : ℕ) (form : Form) (values : List Expr) (size : ℕ) → IsTrue (is_index_within size (an_expr ty at form)) → IsTrue (is_index_within size (an_expr ty at (filled first form values)))
literal_filled first ty at (literal_form word) values size h = h
literal_filled first ty at (read_form place) values size h = refl
literal_filled first ty at (write_form to op common value old) values size h = refl
literal_filled first ty at (convert_form value) values size h = refl
literal_filled first ty at (unary_form op value) values size h = refl
literal_filled first ty at (binary_form op left right) values size h = refl
literal_filled first ty at (choose_form cond consequent alternative) values size h = refl
literal_filled first ty at (build_form parts) values size h = refl
literal_filled first ty at (pick_form value parts) values size h = refl
literal_filled first ty at (call_form function args) values size h = refl
literal_filled first ty at (intrinsic_form number args) values size h = refl
literal_filled first ty at (method_form resource count address value) values size h = refl
literal_filled first ty at (atomic_form target kind compare value original) values size h = refl

module _ (S : Scope) (R : Type 0) where
  -- What becomes of an expression. The value of a call that has none is left out.
  pub record IsGiven (e : Expr) (fresh : Fresh) (x : Valued) : Type 0 where
    pub code : IsCode S R Anywhere fresh x.fresh x.code
    pub same : type_of x.value ≡ type_of e
    pub index : (size : ℕ) → IsTrue (is_index_within size e) → IsTrue (is_index_within size x.value)
    pub well : R → IsFront x.fresh.variables S.variables → IsSome (type_of e) ⊎ (is_call e ≡ false) → IsExpr S x.value

  -- what becomes of expressions in order
  pub record AreGiven (es : List Expr) (fresh : Fresh) (x : Values) : Type 0 where
    pub code : IsCode S R Anywhere fresh x.fresh x.code
    pub values : R → IsFront x.fresh.variables S.variables → ReplaceAll S es x.values

  abbrev pub IsEmitted : Expr → Emitter → Type 0
  IsEmitted e em = (fresh : Fresh) → IsGiven e fresh (em.emit fresh)

  -- the value is put into a variable
  saved_given : (e : Expr) (fresh : Fresh) (x : Valued) → IsDeclared S.structs (type_of e) → IsSome (type_of e) → IsGiven e fresh x → IsGiven e fresh (saved x)
  saved_given e fresh x declared some g = record {
    code = code_append S R Anywhere fresh x.fresh (saved x).fresh x.code (flat_local (next_of x.fresh) (Some x.value) ∷ []) g.code
        (one_code S R Anywhere x.fresh (saved x).fresh (flat_local (next_of x.fresh) (Some x.value)) (extends_with S.structs (new ∷ []) x.fresh (declared_new, tt)) set);
    same = g.same;
    index = λ size h. refl;
    well = λ r front or_none. reading_well S (type_of x.value) (token_of x.value) (next_of x.fresh) declared_new (next_variable x.fresh.variables S.variables new front);
  }
    where
      new : Variable
      new = unnamed (type_of x.value) (token_of x.value)

      declared_new : IsDeclared S.structs (type_of x.value)
      declared_new = subst (IsDeclared S.structs) (sym g.same) declared

      set : R → IsFront (saved x).fresh.variables S.variables → (names : List ℕ) → AreBelow x.fresh.names names → Unit {0} → IsFitting S names (flat_local (next_of x.fresh) (Some x.value))
      set r front names below t = (
        (
          g.well r (front_trans x.fresh.variables (saved x).fresh.variables S.variables (front_more x.fresh.variables (unnamed (type_of x.value) (token_of x.value) ∷ [])) front) (inl some),
          next_variable x.fresh.variables S.variables (unnamed (type_of x.value) (token_of x.value)) front,
        ),
        refl,
      )

  pub settled_given : (further : Bool) (e : Expr) (fresh : Fresh) (x : Valued) → IsDeclared S.structs (type_of e) → IsSome (type_of e) → IsGiven e fresh x → IsGiven e fresh (settled further x)
  settled_given further e fresh x declared some g = by_test (further && not x.fixed)
    where
      by_test : (b : Bool) → IsGiven e fresh (if b then saved x else x)
      by_test true = saved_given e fresh x declared some g
      by_test false = g

  none_given : (fresh : Fresh) → AreGiven [] fresh (record { code = []; values = []; fresh = fresh })
  none_given fresh = record { code = no_code S R Anywhere fresh; values = λ r front. tt }

  one_more_given : (e : Expr) (es : List Expr) (fresh : Fresh) (x : Valued) (y : Values) → IsSome (type_of e) → IsGiven e fresh x → AreGiven es x.fresh y → AreGiven (e ∷ es) fresh (values_with x y)
  one_more_given e es fresh x y some g h = record {
    code = code_append S R Anywhere fresh x.fresh y.fresh x.code y.code g.code h.code;
    values = λ r front. (
      record {
        well = g.well r (front_trans x.fresh.variables y.fresh.variables S.variables h.code.extends.grows front) (inl some);
        same = g.same;
        index = g.index;
      },
      h.values r front,
    );
  }

  -- operands in order
  pub all_given : (further : Bool) (s : Scope) (em : Expr → Emitter) (es : List Expr) → S.structs ≡ s.structs → Every (λ e. IsEmitted e (em e)) es → Every (IsValue s) es → (fresh : Fresh) →
      AreGiven es fresh (emit_all further (map em es) fresh)
  all_given further s em [] same emitted values fresh = none_given fresh
  all_given further s em (e ∷ es) same emitted values fresh =
      one_more_given e es fresh (settled (further || any_call (map em es)) ((em e).emit fresh)) (emit_all further (map em es) (settled (further || any_call (map em es)) ((em e).emit fresh)).fresh) values.0.1
      (settled_given (further || any_call (map em es)) e fresh ((em e).emit fresh) (subst (λ structs. IsDeclared structs (type_of e)) (sym same) (value_declared s e values.0)) values.0.1 (emitted.0 fresh))
      (all_given further s em es same emitted.1 values.1 (settled (further || any_call (map em es)) ((em e).emit fresh)).fresh)

-- a form that isn't a call, over what is left of its operands
pub form_given : (s : Scope) (V : List Variable) (R : Type 0) (i : Instance) (ty : Ty) (at : ℕ) (form : Form) (fresh : Fresh) (x : Values) → (R → StandsFrom s.constants s.variables V i.first) →
    is_call_form form ≡ false → IsExpr s (an_expr ty at form) → AreGiven (scope_over s V) R (operand_exprs form) fresh x → IsGiven (scope_over s V) R (an_expr ty at form) fresh (over i ty at form x)
form_given s V R i ty at form fresh x stands other h g = record {
  code = g.code;
  same = refl;
  index = λ size h. literal_filled i.first ty at form x.values size h;
  well = λ r front or_none. (h.0, form_filled s V i.first (stands r) ty form x.values other h.1 (g.values r front));
}
