use Rattle.std.proofs.Common.{◌≡◌, ◌∙◌, sym, ap, ◌&&◌, ◌==◌}
use Rattle.hl_meaning.specs.Types.{array_type, scalar_type, struct_type, ty_eq, vector_type, void_type}
use Rattle.hl_meaning.specs.Views.{plain_ty}
use Rattle.hl_meaning.proofs.Plain.{plain_ty-Array, plain_ty-Scalar, plain_ty-Struct, plain_ty-Vector, plain_ty-Void}
use Rattle.hl_meaning.proofs.TypeLemmas.{ty_eq-array_other, ty_eq-at, ty_eq-scalar_other, ty_eq-struct_other, ty_eq-vector_other, ty_eq-void_other}
use Rattle.hl_meaning.proofs.ty.HlType.+is_same.Goals as goal

pub returns-in-Void-Void : goal.returns-in-Void-Void
returns-in-Void-Void t c = sym (ty_eq-at c.args.self.now c.args.other.now void_type void_type (ap plain_ty c.in-Void-Void.is-0 ∙ plain_ty-Void) (ap plain_ty c.in-Void-Void.is-1 ∙ plain_ty-Void))

pub returns-in-Scalar-Scalar : goal.returns-in-Scalar-Scalar
returns-in-Scalar-Scalar t c =
    let b = c.in-Scalar-Scalar in
    c.is_same.ensures ∙ sym (ty_eq-at c.args.self.now c.args.other.now (scalar_type b.kind) (scalar_type b.other) (ap plain_ty b.is-0 ∙ plain_ty-Scalar b.kind) (ap plain_ty b.is-1 ∙ plain_ty-Scalar b.other))

pub returns-then-is_same : goal.returns-then-is_same
returns-then-is_same t c =
    let b = c.in-Vector-Vector in
    ap (λ same. same && b.size == b.length) c.if-is_same.ensures ∙
    sym (ty_eq-at c.args.self.now c.args.other.now (vector_type b.kind b.size) (vector_type b.other b.length) (ap plain_ty b.is-0 ∙ plain_ty-Vector b.kind b.size) (ap plain_ty b.is-1 ∙ plain_ty-Vector b.other b.length))

pub returns-else-is_same : goal.returns-else-is_same
returns-else-is_same t c =
    let b = c.in-Vector-Vector in
    c.if-is_same.false ∙ (ap (λ same. same && b.size == b.length) c.if-is_same.ensures ∙
    sym (ty_eq-at c.args.self.now c.args.other.now (vector_type b.kind b.size) (vector_type b.other b.length) (ap plain_ty b.is-0 ∙ plain_ty-Vector b.kind b.size) (ap plain_ty b.is-1 ∙ plain_ty-Vector b.other b.length)))

pub returns-then-is_same-2 : goal.returns-then-is_same-2
returns-then-is_same-2 t c =
    let b = c.in-Array-Array in
    let inner : c.is_same-in-Array-Array.result ≡ ty_eq (plain_ty b.element) (plain_ty b.other) =
    c.is_same-in-Array-Array.ensures ∙ (ap (λ e. ty_eq (plain_ty e) (plain_ty c.get-in-Array-Array.result.now)) c.get.ensures ∙ ap (λ e. ty_eq (plain_ty b.element) (plain_ty e)) c.get-in-Array-Array.ensures) in
    ap (λ same. same && b.size == b.length) (sym c.if-is_same-2.true ∙ inner) ∙
    sym (ty_eq-at c.args.self.now c.args.other.now (array_type (plain_ty b.element) b.size) (array_type (plain_ty b.other) b.length) (ap plain_ty b.is-0 ∙ plain_ty-Array b.element b.size) (ap plain_ty b.is-1 ∙ plain_ty-Array b.other b.length))

pub returns-else-is_same-2 : goal.returns-else-is_same-2
returns-else-is_same-2 t c =
    let b = c.in-Array-Array in
    let inner : c.is_same-in-Array-Array.result ≡ ty_eq (plain_ty b.element) (plain_ty b.other) =
    c.is_same-in-Array-Array.ensures ∙ (ap (λ e. ty_eq (plain_ty e) (plain_ty c.get-in-Array-Array.result.now)) c.get.ensures ∙ ap (λ e. ty_eq (plain_ty b.element) (plain_ty e)) c.get-in-Array-Array.ensures) in
    c.if-is_same-2.false ∙ (ap (λ same. same && b.size == b.length) (sym c.if-is_same-2.false ∙ inner) ∙
    sym (ty_eq-at c.args.self.now c.args.other.now (array_type (plain_ty b.element) b.size) (array_type (plain_ty b.other) b.length) (ap plain_ty b.is-0 ∙ plain_ty-Array b.element b.size) (ap plain_ty b.is-1 ∙ plain_ty-Array b.other b.length)))

pub returns-in-Struct-Struct : goal.returns-in-Struct-Struct
returns-in-Struct-Struct t c =
    let b = c.in-Struct-Struct in
    sym (ty_eq-at c.args.self.now c.args.other.now (struct_type b.number) (struct_type b.other) (ap plain_ty b.is-0 ∙ plain_ty-Struct b.number) (ap plain_ty b.is-1 ∙ plain_ty-Struct b.other))

pub returns-in_default : goal.returns-in_default
returns-in_default t c = sym (ap (λ x. ty_eq x (plain_ty c.args.other.now)) (ap plain_ty c.in_default.is-0 ∙ plain_ty-Void) ∙ ty_eq-void_other c.args.other.now c.in_default.not-Void-1)

pub returns-in_default-2 : goal.returns-in_default-2
returns-in_default-2 t c = sym (ap (λ x. ty_eq x (plain_ty c.args.other.now)) (ap plain_ty c.in_default.is-0 ∙ plain_ty-Scalar _) ∙ ty_eq-scalar_other c.in_default.field-0-0 c.args.other.now c.in_default.not-Scalar-1)

pub returns-in_default-3 : goal.returns-in_default-3
returns-in_default-3 t c = sym (ap (λ x. ty_eq x (plain_ty c.args.other.now)) (ap plain_ty c.in_default.is-0 ∙ plain_ty-Vector _ _) ∙ ty_eq-vector_other c.in_default.field-0-0 c.in_default.field-1-0 c.args.other.now c.in_default.not-Vector-1)

pub returns-in_default-4 : goal.returns-in_default-4
returns-in_default-4 t c = sym (ap (λ x. ty_eq x (plain_ty c.args.other.now)) (ap plain_ty c.in_default.is-0 ∙ plain_ty-Array _ _) ∙ ty_eq-array_other (plain_ty c.in_default.field-0-0) c.in_default.field-1-0 c.args.other.now c.in_default.not-Array-1)

pub returns-in_default-5 : goal.returns-in_default-5
returns-in_default-5 t c = sym (ap (λ x. ty_eq x (plain_ty c.args.other.now)) (ap plain_ty c.in_default.is-0 ∙ plain_ty-Struct _) ∙ ty_eq-struct_other c.in_default.field-0-0 c.args.other.now c.in_default.not-Struct-1)
