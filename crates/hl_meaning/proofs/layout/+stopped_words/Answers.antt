use Rattle.std.proofs.Common.{◌≡◌, ◌∙◌, sym, ap, ◌*◌, ◌<◌, ◌^◌, arith, rules}
use Rattle.hl_meaning.specs.Stopping.{stopped}
use Rattle.hl_meaning.specs.Layout.{words_of}
use Rattle.hl_meaning.specs.Views.{plain_structs, plain_ty}
use Rattle.hl_meaning.proofs.Plain.{plain_ty-Void, plain_ty-Scalar, plain_ty-Vector, plain_ty-Array, plain_ty-Struct}
use Rattle.hl_meaning.proofs.LayoutLemmas.{stopped-product, stopped-below, words-void, words-scalar, words-vector, words-array, words-struct_there, words-struct_absent_held}
use Rattle.hl_meaning.proofs.layout.+stopped_words.Goals as goal

pub returns-in-Void : goal.returns-in-Void
returns-in-Void t c =
    sym (ap (λ ty. stopped (words_of (plain_structs c.args.structs.now) ty)) (ap plain_ty c.in-Void.is ∙ plain_ty-Void) ∙ ap stopped (words-void _))

pub returns-in-Scalar : goal.returns-in-Scalar
returns-in-Scalar t c =
    sym (ap (λ ty. stopped (words_of (plain_structs c.args.structs.now) ty)) (ap plain_ty c.in-Scalar.is ∙ plain_ty-Scalar _) ∙ ap stopped (words-scalar _ _))

pub returns-in-Vector : goal.returns-in-Vector
returns-in-Vector t c =
    let small : c.in-Vector.size < 256 = search rules in
    c.from.ensures ∙ (sym (stopped-below _ (omega (arith, small))) ∙
    sym (ap (λ ty. stopped (words_of (plain_structs c.args.structs.now) ty)) (ap plain_ty c.in-Vector.is ∙ plain_ty-Vector _ _) ∙ ap stopped (words-vector _ _ _)))

pub returns-in-Array : goal.returns-in-Array
returns-in-Array t c =
    let words = words_of (plain_structs c.args.structs.now) in
    let of_element : c.stopped_words.result ≡ stopped (words (plain_ty c.in-Array.element)) =
    c.stopped_words.ensures ∙ ap (λ ty. stopped (words (plain_ty ty))) c.get.ensures in
    c.stop.ensures ∙ (ap (λ n. stopped (n * c.stopped_words.result)) c.from-in-Array.ensures ∙ (ap (λ w. stopped (c.in-Array.length * w)) of_element ∙
    (stopped-product c.in-Array.length (words (plain_ty c.in-Array.element)) ∙
    sym (ap (λ ty. stopped (words ty)) (ap plain_ty c.in-Array.is ∙ plain_ty-Array _ _) ∙ ap stopped (words-array _ _ _)))))

pub returns-in-Some : goal.returns-in-Some
returns-in-Some t c =
    let small : c.in-Some.field-0.now.words < 2 ^ 32 = search rules in
    c.from-in-Some.ensures ∙ (sym (stopped-below _ (omega (arith, small))) ∙
    sym (ap (λ ty. stopped (words_of (plain_structs c.args.structs.now) ty)) (ap plain_ty c.in-Struct.is ∙ plain_ty-Struct _) ∙
    ap stopped (words-struct_there c.args.structs.now c.in-Struct.number c.in-Some.field-0.now c.requires (sym (c.in-Some.ensures.value)))))

pub returns-in-None : goal.returns-in-None
returns-in-None t c =
    sym (ap (λ ty. stopped (words_of (plain_structs c.args.structs.now) ty)) (ap plain_ty c.in-Struct.is ∙ plain_ty-Struct _) ∙
    ap stopped (words-struct_absent_held c.args.structs.now c.in-Struct.number (sym c.in-None.ensures.value)))
