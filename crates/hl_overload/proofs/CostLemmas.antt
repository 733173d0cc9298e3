-- The cost of a scalar's and of a vector's conversion to what is held.
use Rattle.std.proofs.Common.{◌≡◌, ◌∙◌, refl, ap, ℕ, ◌+◌, ◌<◌, ◌≤◌, if◌then◌else◌, nat_lt, None, Some, eq-eqb, arith}
use Rattle.std.proofs.lemmas.Bool.{lt-ltb, le-ltb, ne_eqb}
use Rattle.hl_meaning.specs.declared.ty.Kind.{Kind}
use Rattle.hl_meaning.specs.declared.ty.HlType.{HlType}
use Rattle.hl_meaning.specs.declared.ty.HlType.TheVariants.{Scalar, Vector}
use Rattle.hl_meaning.specs.Conversions.{conversion_cost, kind_cost}
use Rattle.hl_meaning.specs.Types.{scalar_type, vector_type}
use Rattle.hl_meaning.specs.Views.{plain_ty}
use Rattle.hl_meaning.proofs.Plain.{plain_ty-Array, plain_ty-Struct, plain_ty-Void}
use Rattle.hl_meaning.proofs.TypeLemmas.{type_cases}

pub scalar_cost-other : (kind : Kind) (o : HlType) → ((k : Kind) → o ≡ Scalar k → ⊥) → ((k : Kind) (n : ℕ) → o ≡ Vector k n → ⊥) → conversion_cost (scalar_type kind) (plain_ty o) ≡ None
scalar_cost-other kind = type_cases (λ o. ((k : Kind) → o ≡ Scalar k → ⊥) → ((k : Kind) (n : ℕ) → o ≡ Vector k n → ⊥) → conversion_cost (scalar_type kind) (plain_ty o) ≡ None)
    (λ not_scalar not_vector. ap (conversion_cost (scalar_type kind)) plain_ty-Void)
    (λ k not_scalar not_vector. absurd (not_scalar k refl))
    (λ k n not_scalar not_vector. absurd (not_vector k n refl))
    (λ e n not_scalar not_vector. ap (conversion_cost (scalar_type kind)) (plain_ty-Array e n))
    (λ n not_scalar not_vector. ap (conversion_cost (scalar_type kind)) (plain_ty-Struct n))

pub vector_cost-other : (kind : Kind) (size : ℕ) (o : HlType) → ((k : Kind) → o ≡ Scalar k → ⊥) → ((k : Kind) (n : ℕ) → o ≡ Vector k n → ⊥) → conversion_cost (vector_type kind size) (plain_ty o) ≡ None
vector_cost-other kind size = type_cases (λ o. ((k : Kind) → o ≡ Scalar k → ⊥) → ((k : Kind) (n : ℕ) → o ≡ Vector k n → ⊥) → conversion_cost (vector_type kind size) (plain_ty o) ≡ None)
    (λ not_scalar not_vector. ap (conversion_cost (vector_type kind size)) plain_ty-Void)
    (λ k not_scalar not_vector. absurd (not_scalar k refl))
    (λ k n not_scalar not_vector. absurd (not_vector k n refl))
    (λ e n not_scalar not_vector. ap (conversion_cost (vector_type kind size)) (plain_ty-Array e n))
    (λ n not_scalar not_vector. ap (conversion_cost (vector_type kind size)) (plain_ty-Struct n))

pub vector_cost-same : (from to : Kind) (m n : ℕ) → m ≡ n → conversion_cost (vector_type from m) (vector_type to n) ≡ Some (kind_cost from to)
vector_cost-same from to m n same =
    ap (λ b. if b then Some (kind_cost from to) else (if nat_lt n m then Some (kind_cost from to + 8) else None)) (eq-eqb m n same)

pub vector_cost-shorter : (from to : Kind) (m n : ℕ) → n < m → conversion_cost (vector_type from m) (vector_type to n) ≡ Some (kind_cost from to + 8)
vector_cost-shorter from to m n shorter =
    ap (λ b. if b then Some (kind_cost from to) else (if nat_lt n m then Some (kind_cost from to + 8) else None)) (ne_eqb m n (λ e. omega (arith, e, shorter))) ∙
    ap (λ b. if b then Some (kind_cost from to + 8) else None) (lt-ltb n m shorter)

pub vector_cost-longer : (from to : Kind) (m n : ℕ) → (m ≡ n → ⊥) → m ≤ n → conversion_cost (vector_type from m) (vector_type to n) ≡ None
vector_cost-longer from to m n other longer =
    ap (λ b. if b then Some (kind_cost from to) else (if nat_lt n m then Some (kind_cost from to + 8) else None)) (ne_eqb m n other) ∙
    ap (λ b. if b then Some (kind_cost from to + 8) else None) (le-ltb n m longer)
