-- When types that are held are the same.
use Rattle.std.proofs.Common.{◌≡◌, ◌∙◌, refl, sym, subst, ap, ℕ, false}
use Rattle.hl_meaning.specs.declared.ty.Kind.{Kind}
use Rattle.hl_meaning.specs.declared.ty.HlType.{HlType, HlType-F, out-HlType, roll-HlType, roll-out-HlType}
use Rattle.hl_meaning.specs.declared.ty.HlType.TheVariants.{Void, Scalar, Vector, Array, Struct, rolls-Void, rolls-Scalar, rolls-Vector, rolls-Array, rolls-Struct}
use Rattle.hl_meaning.specs.Types.{Ty, array_type, scalar_type, struct_type, ty_eq, vector_type, void_type}
use Rattle.hl_meaning.specs.Views.{plain_ty}
use Rattle.hl_meaning.proofs.Plain.{plain_ty-Array, plain_ty-Scalar, plain_ty-Struct, plain_ty-Vector, plain_ty-Void}

-- a type is one of its forms
pub type_cases : (P : HlType → Type 0) → P Void → ((k : Kind) → P (Scalar k)) → ((k : Kind) (n : ℕ) → P (Vector k n)) → ((e : HlType) (n : ℕ) → P (Array e n)) → ((n : ℕ) → P (Struct n)) → (o : HlType) → P o
type_cases P void scalar vector array struct o = subst P (roll-out-HlType o) (of_layer (out-HlType o))
  where
    of_layer : (x : HlType-F HlType) → P (roll-HlType x)
    of_layer HlType-F.Void = subst P (sym rolls-Void) void
    of_layer (HlType-F.Scalar k) = subst P (sym (rolls-Scalar k)) (scalar k)
    of_layer (HlType-F.Vector k n) = subst P (sym (rolls-Vector k n)) (vector k n)
    of_layer (HlType-F.Array e n) = subst P (sym (rolls-Array e n)) (array e n)
    of_layer (HlType-F.Struct n) = subst P (sym (rolls-Struct n)) (struct n)

pub ty_eq-void_other : (o : HlType) → (o ≡ Void → ⊥) → ty_eq void_type (plain_ty o) ≡ false
ty_eq-void_other = type_cases (λ o. (o ≡ Void → ⊥) → ty_eq void_type (plain_ty o) ≡ false)
    (λ not. absurd (not refl))
    (λ k not. ap (ty_eq void_type) (plain_ty-Scalar k))
    (λ k n not. ap (ty_eq void_type) (plain_ty-Vector k n))
    (λ e n not. ap (ty_eq void_type) (plain_ty-Array e n))
    (λ n not. ap (ty_eq void_type) (plain_ty-Struct n))

pub ty_eq-scalar_other : (kind : Kind) (o : HlType) → ((k : Kind) → o ≡ Scalar k → ⊥) → ty_eq (scalar_type kind) (plain_ty o) ≡ false
ty_eq-scalar_other kind = type_cases (λ o. ((k : Kind) → o ≡ Scalar k → ⊥) → ty_eq (scalar_type kind) (plain_ty o) ≡ false)
    (λ not. ap (ty_eq (scalar_type kind)) plain_ty-Void)
    (λ k not. absurd (not k refl))
    (λ k n not. ap (ty_eq (scalar_type kind)) (plain_ty-Vector k n))
    (λ e n not. ap (ty_eq (scalar_type kind)) (plain_ty-Array e n))
    (λ n not. ap (ty_eq (scalar_type kind)) (plain_ty-Struct n))

pub ty_eq-vector_other : (kind : Kind) (size : ℕ) (o : HlType) → ((k : Kind) (n : ℕ) → o ≡ Vector k n → ⊥) → ty_eq (vector_type kind size) (plain_ty o) ≡ false
ty_eq-vector_other kind size = type_cases (λ o. ((k : Kind) (n : ℕ) → o ≡ Vector k n → ⊥) → ty_eq (vector_type kind size) (plain_ty o) ≡ false)
    (λ not. ap (ty_eq (vector_type kind size)) plain_ty-Void)
    (λ k not. ap (ty_eq (vector_type kind size)) (plain_ty-Scalar k))
    (λ k n not. absurd (not k n refl))
    (λ e n not. ap (ty_eq (vector_type kind size)) (plain_ty-Array e n))
    (λ n not. ap (ty_eq (vector_type kind size)) (plain_ty-Struct n))

pub ty_eq-array_other : (element : Ty) (size : ℕ) (o : HlType) → ((e : HlType) (n : ℕ) → o ≡ Array e n → ⊥) → ty_eq (array_type element size) (plain_ty o) ≡ false
ty_eq-array_other element size = type_cases (λ o. ((e : HlType) (n : ℕ) → o ≡ Array e n → ⊥) → ty_eq (array_type element size) (plain_ty o) ≡ false)
    (λ not. ap (ty_eq (array_type element size)) plain_ty-Void)
    (λ k not. ap (ty_eq (array_type element size)) (plain_ty-Scalar k))
    (λ k n not. ap (ty_eq (array_type element size)) (plain_ty-Vector k n))
    (λ e n not. absurd (not e n refl))
    (λ n not. ap (ty_eq (array_type element size)) (plain_ty-Struct n))

pub ty_eq-struct_other : (number : ℕ) (o : HlType) → ((n : ℕ) → o ≡ Struct n → ⊥) → ty_eq (struct_type number) (plain_ty o) ≡ false
ty_eq-struct_other number = type_cases (λ o. ((n : ℕ) → o ≡ Struct n → ⊥) → ty_eq (struct_type number) (plain_ty o) ≡ false)
    (λ not. ap (ty_eq (struct_type number)) plain_ty-Void)
    (λ k not. ap (ty_eq (struct_type number)) (plain_ty-Scalar k))
    (λ k n not. ap (ty_eq (struct_type number)) (plain_ty-Vector k n))
    (λ e n not. ap (ty_eq (struct_type number)) (plain_ty-Array e n))
    (λ n not. absurd (not n refl))

pub ty_eq-at : (a b : HlType) (s t : Ty) → plain_ty a ≡ s → plain_ty b ≡ t → ty_eq (plain_ty a) (plain_ty b) ≡ ty_eq s t
ty_eq-at a b s t left right = ap (λ x. ty_eq x (plain_ty b)) left ∙ ap (λ x. ty_eq s x) right
