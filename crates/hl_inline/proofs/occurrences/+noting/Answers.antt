use Rattle.std.proofs.Common.{◌∙◌, ◌++◌, ◌∷◌, [], ap, refl, sym}
use Rattle.hl_meaning.specs.Views.{plain_arg, plain_args, plain_expr, plain_exprs, plain_form, plain_location, plain_maybe_expr, plain_maybe_location, plain_part, plain_parts, plain_root, plain_target}
use Rattle.hl_meaning.proofs.Plain.{plain_arg-Place, plain_arg-Value, plain_form-Atomic, plain_form-Binary, plain_form-Build, plain_form-Call, plain_form-Choose, plain_form-Convert, plain_form-Intrinsic, plain_form-Literal, plain_form-Method, plain_form-Pick, plain_form-Read, plain_form-Unary, plain_form-Write, plain_location-is, plain_part-Index, plain_part-Member, plain_part-Swizzle, plain_root-Constant, plain_root-Element, plain_root-Shared, plain_target-Bytes, plain_target-Place}
use Rattle.hl_inline.specs.Occurrences.{arg_occurrences, args_occurrences, call_occurrence, expr_if_occurrences, expr_occurrences, exprs_occurrences, location_if_occurrences, location_occurrences, part_occurrences, parts_occurrences, place_occurrence, root_occurrences, target_occurrences}
use Rattle.hl_inline.specs.Marking.{mark_occurrences}
use Rattle.hl_inline.proofs.GivenForms.{root-variable}
use Rattle.hl_inline.proofs.Marks.{form-occurrences, mark_occurrences-append, occurrences-end, occurrences-next, occurrences-then}
use Rattle.hl_inline.proofs.occurrences.+noting.Goals as goal

pub note_expr-returns-in-Literal : goal.note_expr-returns-in-Literal
note_expr-returns-in-Literal t c =
    let k = c.args.declared.now in
    refl ∙
    sym (form-occurrences k c.args.expr.now _ c.args.used_undeclared.now (ap plain_form c.in-Literal.is ∙ plain_form-Literal _))

pub note_expr-returns-in-Read : goal.note_expr-returns-in-Read
note_expr-returns-in-Read t c =
    let k = c.args.declared.now in
    c.note_place.ensures ∙
    sym (form-occurrences k c.args.expr.now _ c.args.used_undeclared.now (ap plain_form c.in-Read.is ∙ plain_form-Read _))

pub note_expr-returns-in-Write : goal.note_expr-returns-in-Write
note_expr-returns-in-Write t c =
    let k = c.args.declared.now in
    occurrences-then k (location_occurrences (plain_location c.in-Write.to)) (expr_occurrences (plain_expr c.in-Write.value)) c.args.used_undeclared.now c.note_place-in-Write.new.used_undeclared c.note_expr.new.used_undeclared (c.note_place-in-Write.ensures) (c.note_expr.ensures ∙ ap (λ e. mark_occurrences k (expr_occurrences (plain_expr e)) c.note_place-in-Write.new.used_undeclared) c.get.ensures) ∙
    sym (form-occurrences k c.args.expr.now _ c.args.used_undeclared.now (ap plain_form c.in-Write.is ∙ plain_form-Write _ _ _ _ _))

pub note_expr-returns-in-Convert : goal.note_expr-returns-in-Convert
note_expr-returns-in-Convert t c =
    let k = c.args.declared.now in
    (c.note_expr-in-Convert.ensures ∙ ap (λ e. mark_occurrences k (expr_occurrences (plain_expr e)) c.args.used_undeclared.now) c.get-in-Convert.ensures) ∙
    sym (form-occurrences k c.args.expr.now _ c.args.used_undeclared.now (ap plain_form c.in-Convert.is ∙ plain_form-Convert _))

pub note_expr-returns-in-Unary : goal.note_expr-returns-in-Unary
note_expr-returns-in-Unary t c =
    let k = c.args.declared.now in
    (c.note_expr-in-Unary.ensures ∙ ap (λ e. mark_occurrences k (expr_occurrences (plain_expr e)) c.args.used_undeclared.now) c.get-in-Unary.ensures) ∙
    sym (form-occurrences k c.args.expr.now _ c.args.used_undeclared.now (ap plain_form c.in-Unary.is ∙ plain_form-Unary _ _))

pub note_expr-returns-in-Binary : goal.note_expr-returns-in-Binary
note_expr-returns-in-Binary t c =
    let k = c.args.declared.now in
    occurrences-then k (expr_occurrences (plain_expr c.in-Binary.left)) (expr_occurrences (plain_expr c.in-Binary.right)) c.args.used_undeclared.now c.note_expr-in-Binary.new.used_undeclared c.note_expr-in-Binary-2.new.used_undeclared (c.note_expr-in-Binary.ensures ∙ ap (λ e. mark_occurrences k (expr_occurrences (plain_expr e)) c.args.used_undeclared.now) c.get-in-Binary.ensures) (c.note_expr-in-Binary-2.ensures ∙ ap (λ e. mark_occurrences k (expr_occurrences (plain_expr e)) c.note_expr-in-Binary.new.used_undeclared) c.get-in-Binary-2.ensures) ∙
    sym (form-occurrences k c.args.expr.now _ c.args.used_undeclared.now (ap plain_form c.in-Binary.is ∙ plain_form-Binary _ _ _))

pub note_expr-returns-in-Choose : goal.note_expr-returns-in-Choose
note_expr-returns-in-Choose t c =
    let k = c.args.declared.now in
    occurrences-then k (expr_occurrences (plain_expr c.in-Choose.cond)) (expr_occurrences (plain_expr c.in-Choose.yes) ++ (expr_occurrences (plain_expr c.in-Choose.no))) c.args.used_undeclared.now c.note_expr-in-Choose.new.used_undeclared c.note_expr-in-Choose-3.new.used_undeclared (c.note_expr-in-Choose.ensures ∙ ap (λ e. mark_occurrences k (expr_occurrences (plain_expr e)) c.args.used_undeclared.now) c.get-in-Choose.ensures) (occurrences-then k (expr_occurrences (plain_expr c.in-Choose.yes)) (expr_occurrences (plain_expr c.in-Choose.no)) c.note_expr-in-Choose.new.used_undeclared c.note_expr-in-Choose-2.new.used_undeclared c.note_expr-in-Choose-3.new.used_undeclared (c.note_expr-in-Choose-2.ensures ∙ ap (λ e. mark_occurrences k (expr_occurrences (plain_expr e)) c.note_expr-in-Choose.new.used_undeclared) c.get-in-Choose-2.ensures) (c.note_expr-in-Choose-3.ensures ∙ ap (λ e. mark_occurrences k (expr_occurrences (plain_expr e)) c.note_expr-in-Choose-2.new.used_undeclared) c.get-in-Choose-3.ensures)) ∙
    sym (form-occurrences k c.args.expr.now _ c.args.used_undeclared.now (ap plain_form c.in-Choose.is ∙ plain_form-Choose _ _ _))

pub note_expr-returns-in-Build : goal.note_expr-returns-in-Build
note_expr-returns-in-Build t c =
    let k = c.args.declared.now in
    (c.note_exprs.ensures ∙ ap (λ l. mark_occurrences k (exprs_occurrences (plain_exprs l)) c.args.used_undeclared.now) c.as_slice.ensures) ∙
    sym (form-occurrences k c.args.expr.now _ c.args.used_undeclared.now (ap plain_form c.in-Build.is ∙ plain_form-Build _))

pub note_expr-returns-in-Pick : goal.note_expr-returns-in-Pick
note_expr-returns-in-Pick t c =
    let k = c.args.declared.now in
    occurrences-then k (expr_occurrences (plain_expr c.in-Pick.value)) (parts_occurrences (plain_parts c.in-Pick.parts)) c.args.used_undeclared.now c.note_expr-in-Pick.new.used_undeclared c.note_parts.new.used_undeclared (c.note_expr-in-Pick.ensures ∙ ap (λ e. mark_occurrences k (expr_occurrences (plain_expr e)) c.args.used_undeclared.now) c.get-in-Pick.ensures) (c.note_parts.ensures ∙ ap (λ l. mark_occurrences k (parts_occurrences (plain_parts l)) c.note_expr-in-Pick.new.used_undeclared) c.as_slice-in-Pick.ensures) ∙
    sym (form-occurrences k c.args.expr.now _ c.args.used_undeclared.now (ap plain_form c.in-Pick.is ∙ plain_form-Pick _ _))

pub note_expr-returns-in-Call : goal.note_expr-returns-in-Call
note_expr-returns-in-Call t c =
    let k = c.args.declared.now in
    (c.note_args.ensures ∙ ap (λ l. mark_occurrences k (args_occurrences (plain_args l)) c.args.used_undeclared.now) c.as_slice-in-Call.ensures) ∙ sym (mark_occurrences-append k (args_occurrences (plain_args c.in-Call.args)) (call_occurrence c.in-Call.function ∷ []) c.args.used_undeclared.now) ∙
    sym (form-occurrences k c.args.expr.now _ c.args.used_undeclared.now (ap plain_form c.in-Call.is ∙ plain_form-Call _ _))

pub note_expr-returns-in-Intrinsic : goal.note_expr-returns-in-Intrinsic
note_expr-returns-in-Intrinsic t c =
    let k = c.args.declared.now in
    (c.note_exprs-in-Intrinsic.ensures ∙ ap (λ l. mark_occurrences k (exprs_occurrences (plain_exprs l)) c.args.used_undeclared.now) c.as_slice-in-Intrinsic.ensures) ∙
    sym (form-occurrences k c.args.expr.now _ c.args.used_undeclared.now (ap plain_form c.in-Intrinsic.is ∙ plain_form-Intrinsic _ _))

pub note_expr-returns-in-Method : goal.note_expr-returns-in-Method
note_expr-returns-in-Method t c =
    let k = c.args.declared.now in
    occurrences-then k (expr_occurrences (plain_expr c.in-Method.address)) (expr_if_occurrences (plain_maybe_expr c.in-Method.value)) c.args.used_undeclared.now c.note_expr-in-Method.new.used_undeclared c.note_expr_if.new.used_undeclared (c.note_expr-in-Method.ensures ∙ ap (λ e. mark_occurrences k (expr_occurrences (plain_expr e)) c.args.used_undeclared.now) c.get-in-Method.ensures) (c.note_expr_if.ensures) ∙
    sym (form-occurrences k c.args.expr.now _ c.args.used_undeclared.now (ap plain_form c.in-Method.is ∙ plain_form-Method _ _ _ _))

pub note_expr-returns-in-Atomic : goal.note_expr-returns-in-Atomic
note_expr-returns-in-Atomic t c =
    let k = c.args.declared.now in
    occurrences-then k (target_occurrences (plain_target c.in-Atomic.target)) (expr_if_occurrences (plain_maybe_expr c.in-Atomic.compare) ++ (expr_occurrences (plain_expr c.in-Atomic.value) ++ (location_if_occurrences (plain_maybe_location c.in-Atomic.original)))) c.args.used_undeclared.now c.note_target.new.used_undeclared c.note_place_if.new.used_undeclared (c.note_target.ensures) (occurrences-then k (expr_if_occurrences (plain_maybe_expr c.in-Atomic.compare)) (expr_occurrences (plain_expr c.in-Atomic.value) ++ (location_if_occurrences (plain_maybe_location c.in-Atomic.original))) c.note_target.new.used_undeclared c.note_expr_if-in-Atomic.new.used_undeclared c.note_place_if.new.used_undeclared (c.note_expr_if-in-Atomic.ensures) (occurrences-then k (expr_occurrences (plain_expr c.in-Atomic.value)) (location_if_occurrences (plain_maybe_location c.in-Atomic.original)) c.note_expr_if-in-Atomic.new.used_undeclared c.note_expr-in-Atomic.new.used_undeclared c.note_place_if.new.used_undeclared (c.note_expr-in-Atomic.ensures ∙ ap (λ e. mark_occurrences k (expr_occurrences (plain_expr e)) c.note_expr_if-in-Atomic.new.used_undeclared) c.get-in-Atomic.ensures) (c.note_place_if.ensures))) ∙
    sym (form-occurrences k c.args.expr.now _ c.args.used_undeclared.now (ap plain_form c.in-Atomic.is ∙ plain_form-Atomic _ _ _ _ _))

pub note_arg-returns-in-Value : goal.note_arg-returns-in-Value
note_arg-returns-in-Value t c =
    let k = c.args.declared.now in
    c.note_expr.ensures ∙
    sym (ap (λ x. mark_occurrences k (arg_occurrences x) c.args.used_undeclared.now) (ap plain_arg c.in-Value.is ∙ plain_arg-Value _))

pub note_arg-returns-in-Place : goal.note_arg-returns-in-Place
note_arg-returns-in-Place t c =
    let k = c.args.declared.now in
    c.note_place.ensures ∙
    sym (ap (λ x. mark_occurrences k (arg_occurrences x) c.args.used_undeclared.now) (ap plain_arg c.in-Place.is ∙ plain_arg-Place _))

pub note_target-returns-in-Place : goal.note_target-returns-in-Place
note_target-returns-in-Place t c =
    let k = c.args.declared.now in
    c.note_place.ensures ∙
    sym (ap (λ x. mark_occurrences k (target_occurrences x) c.args.used_undeclared.now) (ap plain_target c.in-Place.is ∙ plain_target-Place _))

pub note_target-returns-in-Bytes : goal.note_target-returns-in-Bytes
note_target-returns-in-Bytes t c =
    let k = c.args.declared.now in
    (c.note_expr.ensures ∙ ap (λ e. mark_occurrences k (expr_occurrences (plain_expr e)) c.args.used_undeclared.now) c.get.ensures) ∙
    sym (ap (λ x. mark_occurrences k (target_occurrences x) c.args.used_undeclared.now) (ap plain_target c.in-Bytes.is ∙ plain_target-Bytes _ _))

pub note_part-returns-in-Index : goal.note_part-returns-in-Index
note_part-returns-in-Index t c =
    let k = c.args.declared.now in
    (c.note_expr.ensures ∙ ap (λ e. mark_occurrences k (expr_occurrences (plain_expr e)) c.args.used_undeclared.now) c.get.ensures) ∙
    sym (ap (λ x. mark_occurrences k (part_occurrences x) c.args.used_undeclared.now) (ap plain_part c.in-Index.is ∙ plain_part-Index _))

pub note_place-returns : goal.note_place-returns
note_place-returns t c =
    let k = c.args.declared.now in
    let place = c.args.place.now in
    occurrences-then k (place_occurrence (plain_root place.root) (plain_parts place.parts) ∷ root_occurrences (plain_root place.root)) (parts_occurrences (plain_parts place.parts)) c.args.used_undeclared.now c.note_root.new.used_undeclared c.note_parts.new.used_undeclared
    (c.note_root.ensures (plain_parts place.parts)) (c.note_parts.ensures ∙ ap (λ l. mark_occurrences k (parts_occurrences (plain_parts l)) c.note_root.new.used_undeclared) c.as_slice.ensures) ∙
    sym (ap (λ l. mark_occurrences k (location_occurrences l) c.args.used_undeclared.now) (plain_location-is place))

pub note_root-returns-in-Variable : goal.note_root-returns-in-Variable
note_root-returns-in-Variable t c = λ parts.
    let k = c.args.declared.now in
    root-variable (λ r. mark_occurrences k (place_occurrence r parts ∷ root_occurrences r) c.args.used_undeclared.now) c.note.new.used_undeclared c.args.root.now c.in-Variable.number c.in-Variable.is (sym c.note.ensures)

pub note_root-returns-in-Element : goal.note_root-returns-in-Element
note_root-returns-in-Element t c = λ parts.
    let k = c.args.declared.now in
    (c.note_expr.ensures ∙ ap (λ e. mark_occurrences k (expr_occurrences (plain_expr e)) c.args.used_undeclared.now) c.get.ensures) ∙
    sym (ap (λ r. mark_occurrences k (place_occurrence r parts ∷ root_occurrences r) c.args.used_undeclared.now) (ap plain_root c.in-Element.is ∙ plain_root-Element _ _))

pub note_root-returns-in-Constant : goal.note_root-returns-in-Constant
note_root-returns-in-Constant t c = λ parts.
    sym (ap (λ r. mark_occurrences c.args.declared.now (place_occurrence r parts ∷ root_occurrences r) c.args.used_undeclared.now) (ap plain_root c.in-Constant.is ∙ plain_root-Constant _))

pub note_root-returns-in-Shared : goal.note_root-returns-in-Shared
note_root-returns-in-Shared t c = λ parts.
    sym (ap (λ r. mark_occurrences c.args.declared.now (place_occurrence r parts ∷ root_occurrences r) c.args.used_undeclared.now) (ap plain_root c.in-Shared.is ∙ plain_root-Shared _))

pub note_part-returns-in-Member : goal.note_part-returns-in-Member
note_part-returns-in-Member t c = sym (ap (λ p. mark_occurrences c.args.declared.now (part_occurrences p) c.args.used_undeclared.now) (ap plain_part c.in-Member.is ∙ plain_part-Member _))

pub note_part-returns-in-Swizzle : goal.note_part-returns-in-Swizzle
note_part-returns-in-Swizzle t c = sym (ap (λ p. mark_occurrences c.args.declared.now (part_occurrences p) c.args.used_undeclared.now) (ap plain_part c.in-Swizzle.is ∙ plain_part-Swizzle _))

pub note_exprs-loop-expr-init : goal.note_exprs-loop-expr-init
note_exprs-loop-expr-init t c = refl

pub note_exprs-loop-expr-preserved : goal.note_exprs-loop-expr-preserved
note_exprs-loop-expr-preserved t c =
    occurrences-next c.args.declared.now (λ l. exprs_occurrences (plain_exprs l)) (λ x. expr_occurrences (plain_expr x)) c.args.exprs.now c.loop-expr.expr-index c.expr-item.result c.loop-expr.used_undeclared c.note_expr.new.used_undeclared _
    c.loop-expr-test.true c.expr-item.is refl c.note_expr.ensures c.loop-expr.invariant

pub note_exprs-returns : goal.note_exprs-returns
note_exprs-returns t c =
    occurrences-end c.args.declared.now (λ l. exprs_occurrences (plain_exprs l)) (λ x. expr_occurrences (plain_expr x)) c.args.exprs.now c.loop-expr.expr-index c.loop-expr.used_undeclared _ c.loop-expr-test.false refl c.loop-expr.invariant

pub note_args-loop-arg-init : goal.note_args-loop-arg-init
note_args-loop-arg-init t c = refl

pub note_args-loop-arg-preserved : goal.note_args-loop-arg-preserved
note_args-loop-arg-preserved t c =
    occurrences-next c.args.declared.now (λ l. args_occurrences (plain_args l)) (λ x. arg_occurrences (plain_arg x)) c.args.args.now c.loop-arg.arg-index c.arg-item.result c.loop-arg.used_undeclared c.note_arg.new.used_undeclared _
    c.loop-arg-test.true c.arg-item.is refl c.note_arg.ensures c.loop-arg.invariant

pub note_args-returns : goal.note_args-returns
note_args-returns t c =
    occurrences-end c.args.declared.now (λ l. args_occurrences (plain_args l)) (λ x. arg_occurrences (plain_arg x)) c.args.args.now c.loop-arg.arg-index c.loop-arg.used_undeclared _ c.loop-arg-test.false refl c.loop-arg.invariant

pub note_parts-loop-part-init : goal.note_parts-loop-part-init
note_parts-loop-part-init t c = refl

pub note_parts-loop-part-preserved : goal.note_parts-loop-part-preserved
note_parts-loop-part-preserved t c =
    occurrences-next c.args.declared.now (λ l. parts_occurrences (plain_parts l)) (λ x. part_occurrences (plain_part x)) c.args.parts.now c.loop-part.part-index c.part-item.result c.loop-part.used_undeclared c.note_part.new.used_undeclared _
    c.loop-part-test.true c.part-item.is refl c.note_part.ensures c.loop-part.invariant

pub note_parts-returns : goal.note_parts-returns
note_parts-returns t c =
    occurrences-end c.args.declared.now (λ l. parts_occurrences (plain_parts l)) (λ x. part_occurrences (plain_part x)) c.args.parts.now c.loop-part.part-index c.loop-part.used_undeclared _ c.loop-part-test.false refl c.loop-part.invariant
