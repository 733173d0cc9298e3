-- Types that are held, by their forms.
use Rattle.std.proofs.Common.{◌≡◌, ◌∙◌, refl, ap, ℕ, false, List, [], ◌∷◌}
use Rattle.hl_meaning.specs.declared.ty.Kind.{Kind}
use Rattle.hl_meaning.specs.declared.ty.Kind.TheVariants.{Uint}
use Rattle.hl_meaning.specs.declared.ty.HlType.{HlType}
use Rattle.hl_meaning.specs.declared.ty.HlType.TheVariants.{Scalar, Vector}
use Rattle.hl_meaning.specs.Layout.{kinds_of}
use Rattle.hl_meaning.specs.Programs.{StructDef}
use Rattle.hl_meaning.specs.Types.{Ty, array_type, component_count, is_scalar, scalar_type, struct_type, void_type}
use Rattle.hl_meaning.specs.Views.{plain_ty}
use Rattle.hl_meaning.proofs.Plain.{plain_ty-Array, plain_ty-Struct, plain_ty-Vector, plain_ty-Void}
use Rattle.hl_meaning.proofs.TypeLemmas.{type_cases}
use Rattle.hl_source.specs.Operations.{component_kind}

-- what is neither a scalar nor a vector is one of three forms
pub other_than_basic : {A : Type 0} (f : Ty → A) (x : A) → f void_type ≡ x → ((e : Ty) (n : ℕ) → f (array_type e n) ≡ x) → ((n : ℕ) → f (struct_type n) ≡ x) → (o : HlType) → ((k : Kind) → o ≡ Scalar k → ⊥) → ((k : Kind) (n : ℕ) → o ≡ Vector k n → ⊥) → f (plain_ty o) ≡ x
other_than_basic f x void array struct = type_cases (λ o. ((k : Kind) → o ≡ Scalar k → ⊥) → ((k : Kind) (n : ℕ) → o ≡ Vector k n → ⊥) → f (plain_ty o) ≡ x)
    (λ not_scalar not_vector. ap f plain_ty-Void ∙ void)
    (λ k not_scalar not_vector. absurd (not_scalar k refl))
    (λ k n not_scalar not_vector. absurd (not_vector k n refl))
    (λ e n not_scalar not_vector. ap f (plain_ty-Array e n) ∙ array (plain_ty e) n)
    (λ n not_scalar not_vector. ap f (plain_ty-Struct n) ∙ struct n)

pub component_kind-other : (o : HlType) → ((k : Kind) → o ≡ Scalar k → ⊥) → ((k : Kind) (n : ℕ) → o ≡ Vector k n → ⊥) → component_kind (plain_ty o) ≡ Uint
component_kind-other o = other_than_basic component_kind Uint refl (λ e n. refl) (λ n. refl) o

pub component_count-other : (o : HlType) → ((k : Kind) → o ≡ Scalar k → ⊥) → ((k : Kind) (n : ℕ) → o ≡ Vector k n → ⊥) → component_count (plain_ty o) ≡ 0
component_count-other o = other_than_basic component_count 0 refl (λ e n. refl) (λ n. refl) o

-- what is no scalar is one of four forms
pub is_scalar-other : (o : HlType) → ((k : Kind) → o ≡ Scalar k → ⊥) → is_scalar (plain_ty o) ≡ false
is_scalar-other = type_cases (λ o. ((k : Kind) → o ≡ Scalar k → ⊥) → is_scalar (plain_ty o) ≡ false)
    (λ not. ap is_scalar plain_ty-Void)
    (λ k not. absurd (not k refl))
    (λ k n not. ap is_scalar (plain_ty-Vector k n))
    (λ e n not. ap is_scalar (plain_ty-Array e n))
    (λ n not. ap is_scalar (plain_ty-Struct n))

pub kinds-scalar : (structs : List StructDef) (kind : Kind) → kinds_of structs (scalar_type kind) ≡ kind ∷ []
unfolding kinds_of
kinds-scalar structs kind = refl

pub kinds-void : (structs : List StructDef) → kinds_of structs void_type ≡ []
unfolding kinds_of
kinds-void structs = refl
