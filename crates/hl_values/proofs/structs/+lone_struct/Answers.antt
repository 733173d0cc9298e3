use Rattle.std.proofs.Common.{◌∙◌, ◌==◌, if◌then◌else◌, None, sym, ap}
use Rattle.hl_meaning.specs.Views.{plain_ty}
use Rattle.hl_meaning.proofs.Plain.{plain_ty-Array, plain_ty-Scalar, plain_ty-Struct, plain_ty-Vector, plain_ty-Void}
use Rattle.hl_values.specs.Innermost.{lone_struct}
use Rattle.hl_values.proofs.StructLemmas.{not-alone}
use Rattle.hl_values.proofs.structs.+lone_struct.Goals as goal

pub returns-in-Void : goal.returns-in-Void
returns-in-Void t c = sym (ap lone_struct (ap plain_ty c.in-Void.is ∙ plain_ty-Void))

pub returns-in-Scalar : goal.returns-in-Scalar
returns-in-Scalar t c = sym (ap lone_struct (ap plain_ty c.in-Scalar.is ∙ plain_ty-Scalar _))

pub returns-in-Vector : goal.returns-in-Vector
returns-in-Vector t c = sym (ap lone_struct (ap plain_ty c.in-Vector.is ∙ plain_ty-Vector _ _))

pub returns-then-length-eq1 : goal.returns-then-length-eq1
returns-then-length-eq1 t c =
    c.lone_struct.ensures ∙ (ap (λ x. lone_struct (plain_ty x)) c.get.ensures ∙
    (sym (ap (λ n. if n == 1 then lone_struct (plain_ty c.in-Array.element) else None) c.if-length-eq1.true) ∙
    sym (ap lone_struct (ap plain_ty c.in-Array.is ∙ plain_ty-Array c.in-Array.element c.in-Array.length))))

pub returns-else-length-eq1 : goal.returns-else-length-eq1
returns-else-length-eq1 t c =
    not-alone c.in-Array.length (lone_struct (plain_ty c.in-Array.element)) c.if-length-eq1.false ∙
    sym (ap lone_struct (ap plain_ty c.in-Array.is ∙ plain_ty-Array c.in-Array.element c.in-Array.length))

pub returns-in-Struct : goal.returns-in-Struct
returns-in-Struct t c = sym (ap lone_struct (ap plain_ty c.in-Struct.is ∙ plain_ty-Struct _))
