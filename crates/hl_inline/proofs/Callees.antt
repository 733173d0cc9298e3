-- Calls of functions that aren't there, and what arguments start with and are written back by.
use Rattle.std.proofs.Common.{◌≡◌, ◌∙◌, refl, ap, sym, ℕ, suc, ◌+◌, Bool, false, true, if◌then◌else◌, List, [], ◌∷◌, ◌++◌, ◌⊎◌, inl, inr, Some, arith}
use Rattle.hl_meaning.specs.declared.expression.Location.{Location as HeldLocation}
use Rattle.hl_meaning.specs.declared.program.Copying.{Copying}
use Rattle.hl_meaning.specs.declared.program.Copying.TheVariants.{CopyBoth, CopyIn}
use Rattle.hl_meaning.specs.declared.ty.HlType.{HlType}
use Rattle.hl_meaning.specs.declared.ty.HlType.TheVariants.{Void}
use Rattle.hl_meaning.specs.Programs.{Variable}
use Rattle.hl_meaning.specs.Types.{Ty, is_void}
use Rattle.hl_meaning.specs.Trees.{Form, Location, an_expr, place_type, read_form}
use Rattle.hl_meaning.specs.Views.{plain_location, plain_ty}
use Rattle.hl_meaning.proofs.Plain.{plain_location-is, plain_ty-Array, plain_ty-Scalar, plain_ty-Struct, plain_ty-Vector, plain_ty-Void}
use Rattle.hl_meaning.proofs.TypeLemmas.{type_cases}
use Rattle.hl_inline.specs.Building.{behind, valued}
use Rattle.hl_inline.specs.FlatTrees.{FlatStmt, flat_block, flat_named, no_flat_stmts}
use Rattle.hl_inline.specs.Emitting.{place_of_variable, reading}
use Rattle.hl_inline.specs.Fresh.{Fresh, Instance, next_of, unnamed, with_variables}
use Rattle.hl_inline.specs.InlinedCalls.{Argument, call, instance_of, nothing_inlined, nothing_passed, pass_all, place_argument, result_variables, start_value, value_argument, with_body, with_instance}

-- no parameter takes an argument
passed-none : (i : Instance) (at number : ℕ) (args : List Argument) (fresh : Fresh) → pass_all i at number args [] fresh ≡ nothing_passed fresh
passed-none i at number [] fresh = refl
passed-none i at number (value_argument value ∷ args) fresh = refl
passed-none i at number (place_argument place indexes ∷ args) fresh = refl

-- a call of a function that isn't there
pub missing-call : (i : Instance) (args : List Argument) (ty : Ty) (at : ℕ) (code grown : List FlatStmt) (fresh now : Fresh) (number name : ℕ) (form : Form)
    → number ≡ next_of fresh → name ≡ fresh.names → form ≡ read_form (place_of_variable ty number)
    → now ≡ with_variables (result_variables ty at) (record fresh { names = suc fresh.names }) → grown ≡ code ++ flat_named name (flat_block no_flat_stmts) ∷ []
    → behind code ((call i ty at nothing_inlined args).emit fresh) ≡ valued grown (an_expr ty at form) true now
missing-call i args ty at code grown fresh now number name form number-is name-is form-is now-is grown-is =
    ap (λ p. behind code (with_body ty at nothing_inlined (instance_of nothing_inlined fresh) p)) (passed-none i at (next_of fresh) args (with_instance nothing_inlined ty at fresh)) ∙
    (ap (λ n. valued stmts (reading ty at n) true after) same ∙
    (ap (λ n. valued stmts (reading ty at n) true after) (sym number-is) ∙
    (ap (λ f. valued stmts (an_expr ty at f) true after) (sym form-is) ∙
    (ap (λ c. valued c (an_expr ty at form) true after) (ap (λ n. code ++ flat_named n (flat_block no_flat_stmts) ∷ []) (sym name-is) ∙ sym grown-is) ∙
    ap (λ f. valued grown (an_expr ty at form) true f) (sym now-is)))))
  where
    stmts : List FlatStmt
    stmts = code ++ flat_named fresh.names (flat_block no_flat_stmts) ∷ []

    after : Fresh
    after = with_variables (result_variables ty at) (record fresh { names = suc fresh.names })

    same : next_of fresh + 0 ≡ next_of fresh
    same = omega arith

-- the variable of a result

pub no-result : (ty : HlType) (at : ℕ) → ty ≡ Void → result_variables (plain_ty ty) at ≡ []
no-result ty at is = ap (λ t. result_variables t at) (ap plain_ty is ∙ plain_ty-Void)

pub one-result : (ty : HlType) (at : ℕ) → (ty ≡ Void → ⊥) → result_variables (plain_ty ty) at ≡ unnamed (plain_ty ty) at ∷ []
one-result ty at other = ap (λ b. result b) (type_cases (λ t. (t ≡ Void → ⊥) → is_void (plain_ty t) ≡ false)
    (λ not_void. absurd (not_void refl))
    (λ k not_void. ap is_void (plain_ty-Scalar k))
    (λ k n not_void. ap is_void (plain_ty-Vector k n))
    (λ e n not_void. ap is_void (plain_ty-Array e n))
    (λ n not_void. ap is_void (plain_ty-Struct n)) ty other)
  where
    result : Bool → List Variable
    result b = if b then [] else unnamed (plain_ty ty) at ∷ []

-- what the variable of a parameter starts with that takes a value
pub start-given : (given : Copying) (place : Location) (at : ℕ) → (given ≡ CopyIn) ⊎ (given ≡ CopyBoth) → start_value given place at ≡ Some (an_expr (place_type place) at (read_form place))
start-given given place at (inl is) = ap (λ c. start_value c place at) is
start-given given place at (inr is) = ap (λ c. start_value c place at) is

pub place_type-is : (l : HeldLocation) → place_type (plain_location l) ≡ plain_ty l.ty
place_type-is l = ap place_type (plain_location-is l)
