use Rattle.std.proofs.Common.{◌∙◌, ap, map, sym}
use Rattle.hl_meaning.specs.Trees.{atomic_form, binary_form, build_form, bytes_target, call_form, choose_form, convert_form, element_root, index_part, intrinsic_form, method_form, pick_form, place_arg, place_target, read_form, unary_form, value_arg, write_form}
use Rattle.hl_meaning.specs.Views.{args_of, exprs_of, parts_of, plain_arg, plain_expr, plain_form, plain_location, plain_maybe_expr, plain_maybe_location, plain_part, plain_parts, plain_root, plain_target, plain_ty}
use Rattle.hl_meaning.proofs.Plain.{plain_arg-Place, plain_arg-Value, plain_expr-is, plain_form-Atomic, plain_form-Binary, plain_form-Build, plain_form-Call, plain_form-Choose, plain_form-Convert, plain_form-Intrinsic, plain_form-Method, plain_form-Pick, plain_form-Read, plain_form-Unary, plain_form-Write, plain_location-is, plain_part-Index, plain_root-Element, plain_target-Bytes, plain_target-Place}
use Rattle.hl_inline.proofs.Gathering.{copied-end, copied-next}
use Rattle.hl_inline.proofs.GivenForms.{expr-as, location-as}
use Rattle.hl_inline.proofs.copies.+copying.Goals as goal

pub copied_form-returns-in_ok-place-in-Read : goal.copied_form-returns-in_ok-place-in-Read
copied_form-returns-in_ok-place-in-Read t c =
    plain_form-Read c.in_ok-place-in-Read.place ∙
    (ap (λ x. read_form x) c.in_ok-place-in-Read.ensures ∙
    sym (ap plain_form c.in-Read.is ∙ plain_form-Read c.in-Read.place))

pub copied_form-returns-in_ok-value-in-Write : goal.copied_form-returns-in_ok-value-in-Write
copied_form-returns-in_ok-value-in-Write t c =
    plain_form-Write c.in_ok-to-in-Write.to c.in-Write.op c.in_ok-common-in-Write.common c.in_ok-value-in-Write.value c.in-Write.old ∙
    (ap (λ x. write_form x c.in-Write.op (plain_ty c.in_ok-common-in-Write.common) (plain_expr c.in_ok-value-in-Write.value) c.in-Write.old) c.in_ok-to-in-Write.ensures ∙ (ap (λ x. write_form (plain_location c.in-Write.to) c.in-Write.op x (plain_expr c.in_ok-value-in-Write.value) c.in-Write.old) c.in_ok-common-in-Write.ensures ∙ (ap (λ x. write_form (plain_location c.in-Write.to) c.in-Write.op (plain_ty c.in-Write.common) x c.in-Write.old) (c.in_ok-value-in-Write.ensures ∙ ap plain_expr c.get.ensures))) ∙
    sym (ap plain_form c.in-Write.is ∙ plain_form-Write c.in-Write.to c.in-Write.op c.in-Write.common c.in-Write.value c.in-Write.old))

pub copied_form-returns-in_ok-value-in-Convert : goal.copied_form-returns-in_ok-value-in-Convert
copied_form-returns-in_ok-value-in-Convert t c =
    plain_form-Convert c.in_ok-value-in-Convert.value ∙
    (ap (λ x. convert_form x) (c.in_ok-value-in-Convert.ensures ∙ ap plain_expr c.get-in-Convert.ensures) ∙
    sym (ap plain_form c.in-Convert.is ∙ plain_form-Convert c.in-Convert.value))

pub copied_form-returns-in_ok-value-in-Unary : goal.copied_form-returns-in_ok-value-in-Unary
copied_form-returns-in_ok-value-in-Unary t c =
    plain_form-Unary c.in-Unary.op c.in_ok-value-in-Unary.value ∙
    (ap (λ x. unary_form c.in-Unary.op x) (c.in_ok-value-in-Unary.ensures ∙ ap plain_expr c.get-in-Unary.ensures) ∙
    sym (ap plain_form c.in-Unary.is ∙ plain_form-Unary c.in-Unary.op c.in-Unary.value))

pub copied_form-returns-in_ok-right-in-Binary : goal.copied_form-returns-in_ok-right-in-Binary
copied_form-returns-in_ok-right-in-Binary t c =
    plain_form-Binary c.in-Binary.op c.in_ok-left-in-Binary.left c.in_ok-right-in-Binary.right ∙
    (ap (λ x. binary_form c.in-Binary.op x (plain_expr c.in_ok-right-in-Binary.right)) (c.in_ok-left-in-Binary.ensures ∙ ap plain_expr c.get-in-Binary.ensures) ∙ (ap (λ x. binary_form c.in-Binary.op (plain_expr c.in-Binary.left) x) (c.in_ok-right-in-Binary.ensures ∙ ap plain_expr c.get-in-Binary-2.ensures)) ∙
    sym (ap plain_form c.in-Binary.is ∙ plain_form-Binary c.in-Binary.op c.in-Binary.left c.in-Binary.right))

pub copied_form-returns-in_ok-no-in-Choose : goal.copied_form-returns-in_ok-no-in-Choose
copied_form-returns-in_ok-no-in-Choose t c =
    plain_form-Choose c.in_ok-cond-in-Choose.cond c.in_ok-yes-in-Choose.yes c.in_ok-no-in-Choose.no ∙
    (ap (λ x. choose_form x (plain_expr c.in_ok-yes-in-Choose.yes) (plain_expr c.in_ok-no-in-Choose.no)) (c.in_ok-cond-in-Choose.ensures ∙ ap plain_expr c.get-in-Choose.ensures) ∙ (ap (λ x. choose_form (plain_expr c.in-Choose.cond) x (plain_expr c.in_ok-no-in-Choose.no)) (c.in_ok-yes-in-Choose.ensures ∙ ap plain_expr c.get-in-Choose-2.ensures) ∙ (ap (λ x. choose_form (plain_expr c.in-Choose.cond) (plain_expr c.in-Choose.yes) x) (c.in_ok-no-in-Choose.ensures ∙ ap plain_expr c.get-in-Choose-3.ensures))) ∙
    sym (ap plain_form c.in-Choose.is ∙ plain_form-Choose c.in-Choose.cond c.in-Choose.yes c.in-Choose.no))

pub copied_form-returns-in_ok-parts-in-Build : goal.copied_form-returns-in_ok-parts-in-Build
copied_form-returns-in_ok-parts-in-Build t c =
    plain_form-Build c.in_ok-parts-in-Build.parts ∙
    (ap (λ x. build_form x) c.in_ok-parts-in-Build.ensures ∙
    sym (ap plain_form c.in-Build.is ∙ plain_form-Build c.in-Build.parts))

pub copied_form-returns-in_ok-parts-in-Pick : goal.copied_form-returns-in_ok-parts-in-Pick
copied_form-returns-in_ok-parts-in-Pick t c =
    plain_form-Pick c.in_ok-value-in-Pick.value c.in_ok-parts-in-Pick.parts ∙
    (ap (λ x. pick_form x (plain_parts c.in_ok-parts-in-Pick.parts)) (c.in_ok-value-in-Pick.ensures ∙ ap plain_expr c.get-in-Pick.ensures) ∙ (ap (λ x. pick_form (plain_expr c.in-Pick.value) x) c.in_ok-parts-in-Pick.ensures) ∙
    sym (ap plain_form c.in-Pick.is ∙ plain_form-Pick c.in-Pick.value c.in-Pick.parts))

pub copied_form-returns-in_ok-args-in-Call : goal.copied_form-returns-in_ok-args-in-Call
copied_form-returns-in_ok-args-in-Call t c =
    plain_form-Call c.in-Call.function c.in_ok-args-in-Call.args ∙
    (ap (λ x. call_form c.in-Call.function x) c.in_ok-args-in-Call.ensures ∙
    sym (ap plain_form c.in-Call.is ∙ plain_form-Call c.in-Call.function c.in-Call.args))

pub copied_form-returns-in_ok-args-in-Intrinsic : goal.copied_form-returns-in_ok-args-in-Intrinsic
copied_form-returns-in_ok-args-in-Intrinsic t c =
    plain_form-Intrinsic c.in-Intrinsic.number c.in_ok-args-in-Intrinsic.args ∙
    (ap (λ x. intrinsic_form c.in-Intrinsic.number x) c.in_ok-args-in-Intrinsic.ensures ∙
    sym (ap plain_form c.in-Intrinsic.is ∙ plain_form-Intrinsic c.in-Intrinsic.number c.in-Intrinsic.args))

pub copied_form-returns-in_ok-value-in-Method : goal.copied_form-returns-in_ok-value-in-Method
copied_form-returns-in_ok-value-in-Method t c =
    plain_form-Method c.in-Method.resource c.in-Method.count c.in_ok-address-in-Method.address c.in_ok-value-in-Method.value ∙
    (ap (λ x. method_form c.in-Method.resource c.in-Method.count x (plain_maybe_expr c.in_ok-value-in-Method.value)) (c.in_ok-address-in-Method.ensures ∙ ap plain_expr c.get-in-Method.ensures) ∙ (ap (λ x. method_form c.in-Method.resource c.in-Method.count (plain_expr c.in-Method.address) x) c.in_ok-value-in-Method.ensures) ∙
    sym (ap plain_form c.in-Method.is ∙ plain_form-Method c.in-Method.resource c.in-Method.count c.in-Method.address c.in-Method.value))

pub copied_form-returns-in_ok-original-in-Atomic : goal.copied_form-returns-in_ok-original-in-Atomic
copied_form-returns-in_ok-original-in-Atomic t c =
    plain_form-Atomic c.in_ok-target-in-Atomic.target c.in-Atomic.kind c.in_ok-compare-in-Atomic.compare c.in_ok-value-in-Atomic.value c.in_ok-original-in-Atomic.original ∙
    (ap (λ x. atomic_form x c.in-Atomic.kind (plain_maybe_expr c.in_ok-compare-in-Atomic.compare) (plain_expr c.in_ok-value-in-Atomic.value) (plain_maybe_location c.in_ok-original-in-Atomic.original)) c.in_ok-target-in-Atomic.ensures ∙ (ap (λ x. atomic_form (plain_target c.in-Atomic.target) c.in-Atomic.kind x (plain_expr c.in_ok-value-in-Atomic.value) (plain_maybe_location c.in_ok-original-in-Atomic.original)) c.in_ok-compare-in-Atomic.ensures ∙ (ap (λ x. atomic_form (plain_target c.in-Atomic.target) c.in-Atomic.kind (plain_maybe_expr c.in-Atomic.compare) x (plain_maybe_location c.in_ok-original-in-Atomic.original)) (c.in_ok-value-in-Atomic.ensures ∙ ap plain_expr c.get-in-Atomic.ensures) ∙ (ap (λ x. atomic_form (plain_target c.in-Atomic.target) c.in-Atomic.kind (plain_maybe_expr c.in-Atomic.compare) (plain_expr c.in-Atomic.value) x) c.in_ok-original-in-Atomic.ensures))) ∙
    sym (ap plain_form c.in-Atomic.is ∙ plain_form-Atomic c.in-Atomic.target c.in-Atomic.kind c.in-Atomic.compare c.in-Atomic.value c.in-Atomic.original))

pub copied_root-returns-in_ok-index-in-Element : goal.copied_root-returns-in_ok-index-in-Element
copied_root-returns-in_ok-index-in-Element t c =
    plain_root-Element c.in-Element.resource c.in_ok-index-in-Element.index ∙
    (ap (λ x. element_root c.in-Element.resource x) (c.in_ok-index-in-Element.ensures ∙ ap plain_expr c.get.ensures) ∙
    sym (ap plain_root c.in-Element.is ∙ plain_root-Element c.in-Element.resource c.in-Element.index))

pub copied_part-returns-in_ok-index-in-Index : goal.copied_part-returns-in_ok-index-in-Index
copied_part-returns-in_ok-index-in-Index t c =
    plain_part-Index c.in_ok-index-in-Index.index ∙
    (ap (λ x. index_part x) (c.in_ok-index-in-Index.ensures ∙ ap plain_expr c.get.ensures) ∙
    sym (ap plain_part c.in-Index.is ∙ plain_part-Index c.in-Index.index))

pub copied_arg-returns-in_ok-value-in-Value : goal.copied_arg-returns-in_ok-value-in-Value
copied_arg-returns-in_ok-value-in-Value t c =
    plain_arg-Value c.in_ok-value-in-Value.value ∙
    (ap (λ x. value_arg x) c.in_ok-value-in-Value.ensures ∙
    sym (ap plain_arg c.in-Value.is ∙ plain_arg-Value c.in-Value.value))

pub copied_arg-returns-in_ok-place-in-Place : goal.copied_arg-returns-in_ok-place-in-Place
copied_arg-returns-in_ok-place-in-Place t c =
    plain_arg-Place c.in_ok-place-in-Place.place ∙
    (ap (λ x. place_arg x) c.in_ok-place-in-Place.ensures ∙
    sym (ap plain_arg c.in-Place.is ∙ plain_arg-Place c.in-Place.place))

pub copied_target-returns-in_ok-place-in-Place : goal.copied_target-returns-in_ok-place-in-Place
copied_target-returns-in_ok-place-in-Place t c =
    plain_target-Place c.in_ok-place-in-Place.place ∙
    (ap (λ x. place_target x) c.in_ok-place-in-Place.ensures ∙
    sym (ap plain_target c.in-Place.is ∙ plain_target-Place c.in-Place.place))

pub copied_target-returns-in_ok-address-in-Bytes : goal.copied_target-returns-in_ok-address-in-Bytes
copied_target-returns-in_ok-address-in-Bytes t c =
    plain_target-Bytes c.in-Bytes.resource c.in_ok-address-in-Bytes.address ∙
    (ap (λ x. bytes_target c.in-Bytes.resource x) (c.in_ok-address-in-Bytes.ensures ∙ ap plain_expr c.get.ensures) ∙
    sym (ap plain_target c.in-Bytes.is ∙ plain_target-Bytes c.in-Bytes.resource c.in-Bytes.address))

pub copied_place-returns : goal.copied_place-returns
copied_place-returns t c = location-as _ _ _ _ c.in_ok-ty.ensures c.in_ok-root.ensures c.in_ok-parts.ensures ∙ sym (plain_location-is c.args.place.now)

pub copied_expr-returns : goal.copied_expr-returns
copied_expr-returns t c = expr-as _ _ _ c.in_ok-ty.ensures c.in_ok-form.ensures ∙ sym (plain_expr-is c.args.expr.now)

pub copied_boxed-returns : goal.copied_boxed-returns
copied_boxed-returns t c = ap plain_expr c.in_ok-copy.ensures ∙ (expr-as _ _ _ c.in_ok-ty.ensures c.in_ok-form.ensures ∙ sym (plain_expr-is c.args.expr.now))

pub copied_parts-loop-part-preserved : goal.copied_parts-loop-part-preserved
copied_parts-loop-part-preserved t c =
    copied-next plain_part c.as_slice-part-items.result.now c.loop-part.part-index c.part-item.result c.in_ok-copy.copy c.loop-part.copies _
    c.loop-part-test.true c.part-item.is c.loop-part.invariant c.in_ok-copy.ensures c.in_ok-push.ensures.ok

pub copied_parts-returns : goal.copied_parts-returns
copied_parts-returns t c =
    ap parts_of (copied-end plain_part c.as_slice-part-items.result.now c.loop-part.part-index c.loop-part.copies c.loop-part-test.false c.loop-part.invariant ∙ ap (map plain_part) c.as_slice-part-items.ensures)

pub copied_exprs-loop-expr-preserved : goal.copied_exprs-loop-expr-preserved
copied_exprs-loop-expr-preserved t c =
    copied-next plain_expr c.as_slice-expr-items.result.now c.loop-expr.expr-index c.expr-item.result c.in_ok-copy.copy c.loop-expr.copies _
    c.loop-expr-test.true c.expr-item.is c.loop-expr.invariant c.in_ok-copy.ensures c.in_ok-push.ensures.ok

pub copied_exprs-returns : goal.copied_exprs-returns
copied_exprs-returns t c =
    ap exprs_of (copied-end plain_expr c.as_slice-expr-items.result.now c.loop-expr.expr-index c.loop-expr.copies c.loop-expr-test.false c.loop-expr.invariant ∙ ap (map plain_expr) c.as_slice-expr-items.ensures)

pub copied_args-loop-arg-preserved : goal.copied_args-loop-arg-preserved
copied_args-loop-arg-preserved t c =
    copied-next plain_arg c.as_slice-arg-items.result.now c.loop-arg.arg-index c.arg-item.result c.in_ok-copy.copy c.loop-arg.copies _
    c.loop-arg-test.true c.arg-item.is c.loop-arg.invariant c.in_ok-copy.ensures c.in_ok-push.ensures.ok

pub copied_args-returns : goal.copied_args-returns
copied_args-returns t c =
    ap args_of (copied-end plain_arg c.as_slice-arg-items.result.now c.loop-arg.arg-index c.loop-arg.copies c.loop-arg-test.false c.loop-arg.invariant ∙ ap (map plain_arg) c.as_slice-arg-items.ensures)
