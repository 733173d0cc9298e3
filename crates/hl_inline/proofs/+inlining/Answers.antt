use Rattle.std.proofs.Common.{◌≡◌, ◌∙◌, refl, sym, ap, subst, ◌||◌, ◌+◌, false, true, List, [], ◌∷◌, ◌++◌, map, drop, rules, ◌<◌, ◌≤◌, None, arith, get_or, length, min, option_map, take}
use Rattle.std.proofs.lemmas.List.{map-append, get_or_default}
use Rattle.hl_meaning.proofs.Plain.{plain_expr-is, plain_form-Atomic, plain_form-Binary, plain_form-Build, plain_form-Call, plain_form-Choose, plain_form-Convert, plain_form-Intrinsic, plain_form-Literal, plain_form-Method, plain_form-Pick, plain_form-Read, plain_form-Unary, plain_form-Write, plain_location-is, plain_part-Index, plain_part-Member, plain_part-Swizzle, plain_root-Constant, plain_root-Element, plain_root-Shared, plain_root-Variable, plain_target-Bytes, plain_target-Place, plain_arg-Place, plain_arg-Value, plain_stmt-Block, plain_stmt-Break, plain_stmt-Continue, plain_stmt-Do, plain_stmt-For, plain_stmt-If, plain_stmt-Local, plain_stmt-Return, plain_stmt-Run, plain_stmt-While}
use Rattle.hl_meaning.specs.Trees.{a_location, an_expr, atomic_form, binary_form, build_form, call_form, choose_form, constant_root, convert_form, element_root, index_part, intrinsic_form, literal_form, member_part, method_form, no_expr, no_location, pick_form, place_target, bytes_target, read_form, shared_root, some_expr, some_location, swizzle_part, unary_form, variable_root, write_form, do_stmt, for_stmt, if_stmt, while_stmt}
use Rattle.hl_meaning.specs.Views.{exprs_of, plain_args, plain_expr, plain_exprs, plain_form, plain_location, plain_maybe_expr, plain_maybe_location, plain_part, plain_parts, plain_root, plain_target, plain_ty, plain_arg, plain_function, plain_maybe_stmt, plain_stmt, plain_stmts}
use Rattle.hl_meaning.specs.declared.program.Copying.TheVariants.{CopyIn}
use Rattle.hl_meaning.specs.declared.program.Parameter.{Parameter}
use Rattle.hl_inline.proofs.AlongLemmas.{some-known}
use Rattle.hl_inline.proofs.BuildingLemmas.{map_made, none, values_behind}
use Rattle.hl_inline.proofs.CalleeLemmas.{called, called_missing, callee_found, callee_missing, instance, stands_at, weight_before, weight_within}
use Rattle.hl_inline.proofs.CallPaths.{exprs-calls, parts-calls}
use Rattle.hl_inline.proofs.EmittingLemmas.{build_done, bytes_done, element_done, expr_if_done, index_done, intrinsic_done, read_done}
use Rattle.hl_inline.proofs.GivenEmissions.{called_as, emitted_as, formed, literal_done, settled_as}
use Rattle.hl_inline.proofs.GivenForms.{expr-as, location-as}
use Rattle.hl_inline.proofs.KnownForms.{atomic_known, binary_known, choose_known, convert_known, method_known, pick_known, place_known, unary_known, write_known}
use Rattle.hl_inline.proofs.LastCallLemmas.{exprs-number, exprs-split, held-part_path, held-part_paths, held-path, held-paths, parts-number, parts-split}
use Rattle.hl_inline.proofs.EmittedParts.{emitted_stmt-as, jumped, pass-end, pass-turn, place-passed, value-passed}
use Rattle.hl_inline.proofs.WalkLemmas.{em, exprs_end, exprs_held, exprs_next, parts_end, parts_left, parts_next}
use Rattle.hl_source.proofs.Weights.{expr_if, stmt_if, stmt_weight, stmt_weight-Block, stmt_weight-Do, stmt_weight-For, stmt_weight-If, stmt_weight-Local, stmt_weight-Return, stmt_weight-Run, stmt_weight-While, stmts_weight}
use Rattle.hl_inline.specs.Building.{behind, callees_in, filled_part, instance_in, made, made_behind, operand_behind, plain_code, plain_fresh, valued, inlined_all, passed_behind, plain_jumps}
use Rattle.hl_inline.specs.EmittedExpressions.{arg_emitter, args_emitters, emitted, expr_if_emitters, exprs_emitters, form_emitter, part_emitters, parts_emitters, place_emitters, place_if_emitters, root_emitters, target_emitters}
use Rattle.hl_inline.specs.Emitting.{any_call, emit_all, settled}
use Rattle.hl_inline.specs.InlinedCalls.{inlined_at, pass_all}
use Rattle.hl_inline.specs.InlinedFunctions.{inlined}
use Rattle.hl_inline.specs.LastCalls.{Knows, expr_if_path, expr_path, form_path, part_path, path_among, place_if_path, place_path, root_path, target_path}
use Rattle.hl_inline.specs.Operands.{filled_expr_if, filled_parts, filled_place, filled_place_if, filled_root, filled_target}
use Rattle.hl_inline.specs.declared.emitting.Formed.{Formed}
use Rattle.hl_inline.proofs.+inlining.Goals as goal

-- ---- expressions

pub emitting::emit-returns : goal.emitting::emit-returns
emitting::emit-returns t c =
    c.emit_along.ensures (c.as_slice.ensures.value ∙ c.in_ok-numbers.ensures)

pub emitting::emit_along-returns : goal.emitting::emit_along-returns
emitting::emit_along-returns t c known =
    let k = callees_in c.args.context.now in
    let i = instance_in c.args.context.now in
    ap (λ e. behind (plain_code c.args.code.now) (emitted k i e (plain_fresh c.args.fresh.now))) (plain_expr-is c.args.expr.now) ∙
    (c.in_ok-formed.ensures (known ∙ ap expr_path (plain_expr-is c.args.expr.now)) ∙
    ap (λ e. valued (plain_code c.emit_form.new.code) e c.in_ok-formed.formed.fixed (plain_fresh c.emit_form.new.fresh)) (sym (expr-as _ _ _ c.in_ok-ty.ensures refl)))

pub emitting::emit_operand-returns : goal.emitting::emit_operand-returns
emitting::emit_operand-returns t c known =
    let k = callees_in c.args.context.now in
    let i = instance_in c.args.context.now in
    settled_as k i (plain_code c.args.code.now) (plain_code c.emit_known.new.code) (plain_code c.settle.new.code) (plain_fresh c.args.fresh.now) (plain_fresh c.emit_known.new.fresh) (plain_fresh c.settle.new.fresh)
    c.args.operand.further c.in_ok-emitted.emitted.fixed (plain_expr c.args.expr.now) (plain_expr c.in_ok-emitted.emitted.value) c.settle.result (c.in_ok-emitted.ensures known) c.settle.ensures

pub emitting::emit_known-returns-in-Some : goal.emitting::emit_known-returns-in-Some
emitting::emit_known-returns-in-Some t c known = c.emit_along.ensures (some-known c.args.operand c.in-Some.last_call (expr_path (plain_expr c.args.expr.now)) c.in-Some.is known)

pub emitting::emit_known-returns-in-None : goal.emitting::emit_known-returns-in-None
emitting::emit_known-returns-in-None t c known = c.emit.ensures

pub emitting::emit_boxed-returns : goal.emitting::emit_boxed-returns
emitting::emit_boxed-returns t c known =
    c.in_ok-value.ensures known ∙ ap (λ v. made (plain_code c.emit_operand.new.code) (plain_expr v) (plain_fresh c.emit_operand.new.fresh)) (sym c.in_ok-value-2.ensures)

pub emitting::emit_form-returns-in-Literal : goal.emitting::emit_form-returns-in-Literal
emitting::emit_form-returns-in-Literal t c known =
    let k = callees_in c.args.context.now in
    let i = instance_in c.args.context.now in
    let code = plain_code c.args.code.now in
    let fresh = plain_fresh c.args.fresh.now in
    let ty = plain_ty c.args.ty.now in
    ap (λ h. behind code ((form_emitter k i ty c.args.at h).emit fresh)) (ap plain_form c.in-Literal.is ∙ plain_form-Literal c.in-Literal.word) ∙
    (literal_done k i code fresh ty c.args.at c.in-Literal.word ∙ ap (λ h. valued code (an_expr ty c.args.at h) true fresh) (sym (plain_form-Literal c.in-Literal.word)))

pub emitting::emit_form-returns-in_ok-place-in-Read : goal.emitting::emit_form-returns-in_ok-place-in-Read
emitting::emit_form-returns-in_ok-place-in-Read t c known =
    let k = callees_in c.args.context.now in
    let i = instance_in c.args.context.now in
    let form_is : plain_form c.args.form.now ≡ read_form (plain_location c.in-Read.place) = ap plain_form c.in-Read.is ∙ plain_form-Read _ in
    formed k i (plain_code c.args.code.now) (plain_code c.emit_place_along.new.code) (plain_fresh c.args.fresh.now) (plain_fresh c.emit_place_along.new.fresh) (plain_ty c.args.ty.now) c.args.at c.open.result
    (read_form (plain_location c.in-Read.place)) (plain_form c.args.form.now) (read_form (plain_location c.in_ok-place-in-Read.place)) false
    form_is
    (read_done k i (plain_code c.args.code.now) (plain_fresh c.args.fresh.now) (plain_ty c.args.ty.now) c.args.at (plain_location c.in-Read.place) _ (c.in_ok-place-in-Read.ensures (known ∙ ap form_path form_is)))
    (ap plain_form c.open.ensures.form ∙ plain_form-Read _) c.open.ensures.fixed

pub emitting::emit_form-returns-in-Write : goal.emitting::emit_form-returns-in-Write
emitting::emit_form-returns-in-Write t c known =
    let k = callees_in c.args.context.now in
    let i = instance_in c.args.context.now in
    let form_is : plain_form c.args.form.now ≡ write_form (plain_location c.in-Write.to) c.in-Write.op (plain_ty c.in-Write.common) (plain_expr c.get.result.now) c.in-Write.old =
    ap plain_form c.in-Write.is ∙ (plain_form-Write _ _ _ _ _ ∙
    ap (λ v. write_form (plain_location c.in-Write.to) c.in-Write.op (plain_ty c.in-Write.common) (plain_expr v) c.in-Write.old) (sym c.get.ensures)) in
    emitted_as k i (plain_code c.args.code.now) (plain_code c.emit_write.new.code) (plain_fresh c.args.fresh.now) (plain_fresh c.emit_write.new.fresh) (plain_ty c.args.ty.now) c.args.at c.emit_write.result _ (plain_form c.args.form.now)
    form_is (c.emit_write.ensures (known ∙ ap form_path form_is))

pub emitting::emit_form-returns-in_ok-value-in-Convert : goal.emitting::emit_form-returns-in_ok-value-in-Convert
emitting::emit_form-returns-in_ok-value-in-Convert t c known =
    let k = callees_in c.args.context.now in
    let i = instance_in c.args.context.now in
    let form_is : plain_form c.args.form.now ≡ convert_form (plain_expr c.get-in-Convert.result.now) = ap plain_form c.in-Convert.is ∙ (plain_form-Convert _ ∙ ap (λ v. convert_form (plain_expr v)) (sym c.get-in-Convert.ensures)) in
    let o = c.alone.ensures (expr_path (plain_expr c.get-in-Convert.result.now)) (known ∙ ap form_path form_is) in
    formed k i (plain_code c.args.code.now) (plain_code c.emit_boxed.new.code) (plain_fresh c.args.fresh.now) (plain_fresh c.emit_boxed.new.fresh) (plain_ty c.args.ty.now) c.args.at c.open-in-Convert.result
    (convert_form (plain_expr c.get-in-Convert.result.now)) (plain_form c.args.form.now) (convert_form (plain_expr c.in_ok-value-in-Convert.value)) false
    form_is
    (convert_known k i (plain_code c.args.code.now) (plain_fresh c.args.fresh.now) (plain_ty c.args.ty.now) c.args.at (plain_expr c.get-in-Convert.result.now) c.alone.result.further _ o.0 (c.in_ok-value-in-Convert.ensures o.1))
    (ap plain_form c.open-in-Convert.ensures.form ∙ plain_form-Convert _) c.open-in-Convert.ensures.fixed

pub emitting::emit_form-returns-in_ok-value-in-Unary : goal.emitting::emit_form-returns-in_ok-value-in-Unary
emitting::emit_form-returns-in_ok-value-in-Unary t c known =
    let k = callees_in c.args.context.now in
    let i = instance_in c.args.context.now in
    let form_is : plain_form c.args.form.now ≡ unary_form c.in-Unary.op (plain_expr c.get-in-Unary.result.now) = ap plain_form c.in-Unary.is ∙ (plain_form-Unary _ _ ∙ ap (λ v. unary_form c.in-Unary.op (plain_expr v)) (sym c.get-in-Unary.ensures)) in
    let o = c.alone-in-Unary.ensures (expr_path (plain_expr c.get-in-Unary.result.now)) (known ∙ ap form_path form_is) in
    formed k i (plain_code c.args.code.now) (plain_code c.emit_boxed-in-Unary.new.code) (plain_fresh c.args.fresh.now) (plain_fresh c.emit_boxed-in-Unary.new.fresh) (plain_ty c.args.ty.now) c.args.at c.open-in-Unary.result
    (unary_form c.in-Unary.op (plain_expr c.get-in-Unary.result.now)) (plain_form c.args.form.now) (unary_form c.in-Unary.op (plain_expr c.in_ok-value-in-Unary.value)) false
    form_is
    (unary_known k i (plain_code c.args.code.now) (plain_fresh c.args.fresh.now) (plain_ty c.args.ty.now) c.args.at c.in-Unary.op (plain_expr c.get-in-Unary.result.now) c.alone-in-Unary.result.further _ o.0 (c.in_ok-value-in-Unary.ensures o.1))
    (ap plain_form c.open-in-Unary.ensures.form ∙ plain_form-Unary _ _) c.open-in-Unary.ensures.fixed

pub emitting::emit_form-returns-in-Binary : goal.emitting::emit_form-returns-in-Binary
emitting::emit_form-returns-in-Binary t c known =
    let k = callees_in c.args.context.now in
    let i = instance_in c.args.context.now in
    let form_is : plain_form c.args.form.now ≡ binary_form c.in-Binary.op (plain_expr c.get-in-Binary.result.now) (plain_expr c.get-in-Binary-2.result.now) =
    ap plain_form c.in-Binary.is ∙ (plain_form-Binary _ _ _ ∙
    (ap (λ v. binary_form c.in-Binary.op (plain_expr v) (plain_expr c.in-Binary.right)) (sym c.get-in-Binary.ensures) ∙
    ap (λ v. binary_form c.in-Binary.op (plain_expr c.get-in-Binary.result.now) (plain_expr v)) (sym c.get-in-Binary-2.ensures))) in
    emitted_as k i (plain_code c.args.code.now) (plain_code c.emit_binary.new.code) (plain_fresh c.args.fresh.now) (plain_fresh c.emit_binary.new.fresh) (plain_ty c.args.ty.now) c.args.at c.emit_binary.result _ (plain_form c.args.form.now)
    form_is (c.emit_binary.ensures (known ∙ ap form_path form_is))

pub emitting::emit_form-returns-in-Choose : goal.emitting::emit_form-returns-in-Choose
emitting::emit_form-returns-in-Choose t c known =
    let k = callees_in c.args.context.now in
    let i = instance_in c.args.context.now in
    let form_is : plain_form c.args.form.now ≡ choose_form (plain_expr c.get-in-Choose.result.now) (plain_expr c.get-in-Choose-2.result.now) (plain_expr c.get-in-Choose-3.result.now) =
    ap plain_form c.in-Choose.is ∙ (plain_form-Choose _ _ _ ∙
    (ap (λ v. choose_form (plain_expr v) (plain_expr c.in-Choose.yes) (plain_expr c.in-Choose.no)) (sym c.get-in-Choose.ensures) ∙
    (ap (λ v. choose_form (plain_expr c.get-in-Choose.result.now) (plain_expr v) (plain_expr c.in-Choose.no)) (sym c.get-in-Choose-2.ensures) ∙
    ap (λ v. choose_form (plain_expr c.get-in-Choose.result.now) (plain_expr c.get-in-Choose-2.result.now) (plain_expr v)) (sym c.get-in-Choose-3.ensures)))) in
    emitted_as k i (plain_code c.args.code.now) (plain_code c.emit_choice.new.code) (plain_fresh c.args.fresh.now) (plain_fresh c.emit_choice.new.fresh) (plain_ty c.args.ty.now) c.args.at c.emit_choice.result _ (plain_form c.args.form.now)
    form_is (c.emit_choice.ensures (known ∙ ap form_path form_is))

pub emitting::emit_form-returns-in_ok-parts-in-Build : goal.emitting::emit_form-returns-in_ok-parts-in-Build
emitting::emit_form-returns-in_ok-parts-in-Build t c known =
    let k = callees_in c.args.context.now in
    let i = instance_in c.args.context.now in
    let form_is : plain_form c.args.form.now ≡ build_form (plain_exprs c.in-Build.parts) = ap plain_form c.in-Build.is ∙ plain_form-Build _ in
    formed k i (plain_code c.args.code.now) (plain_code c.emit_exprs.new.code) (plain_fresh c.args.fresh.now) (plain_fresh c.emit_exprs.new.fresh) (plain_ty c.args.ty.now) c.args.at c.open-in-Build.result
    (build_form (plain_exprs c.in-Build.parts)) (plain_form c.args.form.now) (build_form (plain_exprs c.in_ok-parts-in-Build.parts)) false
    form_is
    (build_done k i (plain_code c.args.code.now) (plain_fresh c.args.fresh.now) (plain_ty c.args.ty.now) c.args.at (plain_exprs c.in-Build.parts) _ (c.in_ok-parts-in-Build.ensures (known ∙ ap form_path form_is)))
    (ap plain_form c.open-in-Build.ensures.form ∙ plain_form-Build _) c.open-in-Build.ensures.fixed

pub emitting::emit_form-returns-in_ok-parts-in-Pick : goal.emitting::emit_form-returns-in_ok-parts-in-Pick
emitting::emit_form-returns-in_ok-parts-in-Pick t c known =
    let k = callees_in c.args.context.now in
    let i = instance_in c.args.context.now in
    let form_is : plain_form c.args.form.now ≡ pick_form (plain_expr c.get-in-Pick.result.now) (plain_parts c.in-Pick.parts) = ap plain_form c.in-Pick.is ∙ (plain_form-Pick _ _ ∙ ap (λ v. pick_form (plain_expr v) (plain_parts c.in-Pick.parts)) (sym c.get-in-Pick.ensures)) in
    let o = c.alone-in-Pick.ensures (expr_path (plain_expr c.get-in-Pick.result.now)) (known ∙ ap form_path form_is) in
    formed k i (plain_code c.args.code.now) (plain_code c.emit_boxed-in-Pick.new.code) (plain_fresh c.args.fresh.now) (plain_fresh c.emit_boxed-in-Pick.new.fresh) (plain_ty c.args.ty.now) c.args.at c.open-in-Pick.result
    (pick_form (plain_expr c.get-in-Pick.result.now) (plain_parts c.in-Pick.parts)) (plain_form c.args.form.now) (pick_form (plain_expr c.in_ok-value-in-Pick.value) (plain_parts c.in-Pick.parts)) false
    form_is
    (pick_known k i (plain_code c.args.code.now) (plain_fresh c.args.fresh.now) (plain_ty c.args.ty.now) c.args.at (plain_expr c.get-in-Pick.result.now) (plain_parts c.in-Pick.parts) c.alone-in-Pick.result.further _ o.0 (c.in_ok-value-in-Pick.ensures o.1))
    (ap plain_form c.open-in-Pick.ensures.form ∙ (plain_form-Pick _ _ ∙ ap (pick_form (plain_expr c.in_ok-value-in-Pick.value)) c.in_ok-parts-in-Pick.ensures)) c.open-in-Pick.ensures.fixed

pub emitting::emit_form-returns-in-Call : goal.emitting::emit_form-returns-in-Call
emitting::emit_form-returns-in-Call t c known =
    let k = callees_in c.args.context.now in
    let i = instance_in c.args.context.now in
    called_as k i (plain_code c.args.code.now) (plain_code c.emit_call.new.code) (plain_fresh c.args.fresh.now) (plain_fresh c.emit_call.new.fresh) (plain_ty c.args.ty.now) c.args.at c.in-Call.function
    (plain_args c.as_slice.result.now) c.emit_call.result (plain_form c.args.form.now)
    (ap plain_form c.in-Call.is ∙ (plain_form-Call _ _ ∙ ap (λ l. call_form c.in-Call.function (plain_args l)) (sym c.as_slice.ensures)))
    c.emit_call.ensures

pub emitting::emit_form-returns-in_ok-args-in-Intrinsic : goal.emitting::emit_form-returns-in_ok-args-in-Intrinsic
emitting::emit_form-returns-in_ok-args-in-Intrinsic t c known =
    let k = callees_in c.args.context.now in
    let i = instance_in c.args.context.now in
    let form_is : plain_form c.args.form.now ≡ intrinsic_form c.in-Intrinsic.number (plain_exprs c.in-Intrinsic.args) = ap plain_form c.in-Intrinsic.is ∙ plain_form-Intrinsic _ _ in
    formed k i (plain_code c.args.code.now) (plain_code c.emit_exprs-in-Intrinsic.new.code) (plain_fresh c.args.fresh.now) (plain_fresh c.emit_exprs-in-Intrinsic.new.fresh) (plain_ty c.args.ty.now) c.args.at c.open-in-Intrinsic.result
    (intrinsic_form c.in-Intrinsic.number (plain_exprs c.in-Intrinsic.args)) (plain_form c.args.form.now) (intrinsic_form c.in-Intrinsic.number (plain_exprs c.in_ok-args-in-Intrinsic.args)) false
    form_is
    (intrinsic_done k i (plain_code c.args.code.now) (plain_fresh c.args.fresh.now) (plain_ty c.args.ty.now) c.args.at c.in-Intrinsic.number (plain_exprs c.in-Intrinsic.args) _ (c.in_ok-args-in-Intrinsic.ensures (known ∙ ap form_path form_is)))
    (ap plain_form c.open-in-Intrinsic.ensures.form ∙ plain_form-Intrinsic _ _) c.open-in-Intrinsic.ensures.fixed

pub emitting::emit_form-returns-in-Method : goal.emitting::emit_form-returns-in-Method
emitting::emit_form-returns-in-Method t c known =
    let k = callees_in c.args.context.now in
    let i = instance_in c.args.context.now in
    let form_is : plain_form c.args.form.now ≡ method_form c.in-Method.resource c.in-Method.count (plain_expr c.get-in-Method.result.now) (plain_maybe_expr c.in-Method.value) =
    ap plain_form c.in-Method.is ∙ (plain_form-Method _ _ _ _ ∙
    ap (λ v. method_form c.in-Method.resource c.in-Method.count (plain_expr v) (plain_maybe_expr c.in-Method.value)) (sym c.get-in-Method.ensures)) in
    emitted_as k i (plain_code c.args.code.now) (plain_code c.emit_method.new.code) (plain_fresh c.args.fresh.now) (plain_fresh c.emit_method.new.fresh) (plain_ty c.args.ty.now) c.args.at c.emit_method.result _ (plain_form c.args.form.now)
    form_is (c.emit_method.ensures (known ∙ ap form_path form_is))

pub emitting::emit_form-returns-in-Atomic : goal.emitting::emit_form-returns-in-Atomic
emitting::emit_form-returns-in-Atomic t c known =
    let k = callees_in c.args.context.now in
    let i = instance_in c.args.context.now in
    let form_is : plain_form c.args.form.now ≡ atomic_form (plain_target c.in-Atomic.target) c.in-Atomic.kind (plain_maybe_expr c.in-Atomic.compare) (plain_expr c.get-in-Atomic.result.now) (plain_maybe_location c.in-Atomic.original) =
    ap plain_form c.in-Atomic.is ∙ (plain_form-Atomic _ _ _ _ _ ∙
    ap (λ v. atomic_form (plain_target c.in-Atomic.target) c.in-Atomic.kind (plain_maybe_expr c.in-Atomic.compare) (plain_expr v) (plain_maybe_location c.in-Atomic.original)) (sym c.get-in-Atomic.ensures)) in
    emitted_as k i (plain_code c.args.code.now) (plain_code c.emit_atomic.new.code) (plain_fresh c.args.fresh.now) (plain_fresh c.emit_atomic.new.fresh) (plain_ty c.args.ty.now) c.args.at c.emit_atomic.result _ (plain_form c.args.form.now)
    form_is (c.emit_atomic.ensures (known ∙ ap form_path form_is))

pub emitting::emit_write-returns : goal.emitting::emit_write-returns
emitting::emit_write-returns t c known ty at =
    let k = callees_in c.args.context.now in
    let i = instance_in c.args.context.now in
    let to = c.operand.ensures [] (place_path (plain_location c.args.to.now)) ((expr_path (plain_expr c.args.value.now)) ∷ []) refl known in
    let value = c.operand-2.ensures ((place_path (plain_location c.args.to.now)) ∷ []) (expr_path (plain_expr c.args.value.now)) [] refl known in
    formed k i (plain_code c.args.code.now) (plain_code c.emit_boxed.new.code) (plain_fresh c.args.fresh.now) (plain_fresh c.emit_boxed.new.fresh) ty at c.open.result
    (write_form (plain_location c.args.to.now) c.args.op (plain_ty c.args.common.now) (plain_expr c.args.value.now) c.args.old)
    (write_form (plain_location c.args.to.now) c.args.op (plain_ty c.args.common.now) (plain_expr c.args.value.now) c.args.old)
    (write_form (plain_location c.in_ok-to.to) c.args.op (plain_ty c.args.common.now) (plain_expr c.in_ok-value.value) c.args.old) false refl
    (write_known k i (plain_code c.args.code.now) (plain_fresh c.args.fresh.now) ty at (plain_location c.args.to.now) c.args.op (plain_ty c.args.common.now) (plain_expr c.args.value.now) c.args.old c.operand.result.further c.operand-2.result.further
    (made (plain_code c.emit_operand_place.new.code) (plain_location c.in_ok-to.to) (plain_fresh c.emit_operand_place.new.fresh)) (made (plain_code c.emit_boxed.new.code) (plain_expr c.in_ok-value.value) (plain_fresh c.emit_boxed.new.fresh))
    to.0 value.0 (c.in_ok-to.ensures to.1) (c.in_ok-value.ensures value.1))
    (ap plain_form c.open.ensures.form ∙ (plain_form-Write _ _ _ _ _ ∙ ap (λ t. write_form (plain_location c.in_ok-to.to) c.args.op t (plain_expr c.in_ok-value.value) c.args.old) c.in_ok-common.ensures))
    c.open.ensures.fixed

pub emitting::emit_binary-returns : goal.emitting::emit_binary-returns
emitting::emit_binary-returns t c known ty at =
    let k = callees_in c.args.context.now in
    let i = instance_in c.args.context.now in
    let left = c.operand.ensures [] (expr_path (plain_expr c.args.left.now)) ((expr_path (plain_expr c.args.right.now)) ∷ []) refl known in
    let right = c.operand-2.ensures ((expr_path (plain_expr c.args.left.now)) ∷ []) (expr_path (plain_expr c.args.right.now)) [] refl known in
    formed k i (plain_code c.args.code.now) (plain_code c.emit_boxed-2.new.code) (plain_fresh c.args.fresh.now) (plain_fresh c.emit_boxed-2.new.fresh) ty at c.open.result
    (binary_form c.args.op (plain_expr c.args.left.now) (plain_expr c.args.right.now))
    (binary_form c.args.op (plain_expr c.args.left.now) (plain_expr c.args.right.now))
    (binary_form c.args.op (plain_expr c.in_ok-left.left) (plain_expr c.in_ok-right.right)) false refl
    (binary_known k i (plain_code c.args.code.now) (plain_fresh c.args.fresh.now) ty at c.args.op (plain_expr c.args.left.now) (plain_expr c.args.right.now) c.operand.result.further c.operand-2.result.further
    (made (plain_code c.emit_boxed.new.code) (plain_expr c.in_ok-left.left) (plain_fresh c.emit_boxed.new.fresh)) (made (plain_code c.emit_boxed-2.new.code) (plain_expr c.in_ok-right.right) (plain_fresh c.emit_boxed-2.new.fresh))
    left.0 right.0 (c.in_ok-left.ensures left.1) (c.in_ok-right.ensures right.1))
    (ap plain_form c.open.ensures.form ∙ plain_form-Binary _ _ _) c.open.ensures.fixed

pub emitting::emit_choice-returns : goal.emitting::emit_choice-returns
emitting::emit_choice-returns t c known ty at =
    let k = callees_in c.args.context.now in
    let i = instance_in c.args.context.now in
    let cond = c.operand.ensures [] (expr_path (plain_expr c.args.cond.now)) ((expr_path (plain_expr c.args.consequent.now)) ∷ (expr_path (plain_expr c.args.alternative.now)) ∷ []) refl known in
    let yes = c.operand-2.ensures ((expr_path (plain_expr c.args.cond.now)) ∷ []) (expr_path (plain_expr c.args.consequent.now)) ((expr_path (plain_expr c.args.alternative.now)) ∷ []) refl known in
    let no = c.operand-3.ensures ((expr_path (plain_expr c.args.cond.now)) ∷ (expr_path (plain_expr c.args.consequent.now)) ∷ []) (expr_path (plain_expr c.args.alternative.now)) [] refl known in
    formed k i (plain_code c.args.code.now) (plain_code c.emit_boxed-3.new.code) (plain_fresh c.args.fresh.now) (plain_fresh c.emit_boxed-3.new.fresh) ty at c.open.result
    (choose_form (plain_expr c.args.cond.now) (plain_expr c.args.consequent.now) (plain_expr c.args.alternative.now))
    (choose_form (plain_expr c.args.cond.now) (plain_expr c.args.consequent.now) (plain_expr c.args.alternative.now))
    (choose_form (plain_expr c.in_ok-cond.cond) (plain_expr c.in_ok-yes.yes) (plain_expr c.in_ok-no.no)) false refl
    (choose_known k i (plain_code c.args.code.now) (plain_fresh c.args.fresh.now) ty at (plain_expr c.args.cond.now) (plain_expr c.args.consequent.now) (plain_expr c.args.alternative.now) c.operand.result.further c.operand-2.result.further c.operand-3.result.further
    (made (plain_code c.emit_boxed.new.code) (plain_expr c.in_ok-cond.cond) (plain_fresh c.emit_boxed.new.fresh)) (made (plain_code c.emit_boxed-2.new.code) (plain_expr c.in_ok-yes.yes) (plain_fresh c.emit_boxed-2.new.fresh))
    (made (plain_code c.emit_boxed-3.new.code) (plain_expr c.in_ok-no.no) (plain_fresh c.emit_boxed-3.new.fresh))
    cond.0 yes.0 no.0 (c.in_ok-cond.ensures cond.1) (c.in_ok-yes.ensures yes.1) (c.in_ok-no.ensures no.1))
    (ap plain_form c.open.ensures.form ∙ plain_form-Choose _ _ _) c.open.ensures.fixed

pub emitting::emit_method-returns : goal.emitting::emit_method-returns
emitting::emit_method-returns t c known ty at =
    let k = callees_in c.args.context.now in
    let i = instance_in c.args.context.now in
    let address = c.operand.ensures [] (expr_path (plain_expr c.args.address.now)) ((expr_if_path (plain_maybe_expr c.args.value.now)) ∷ []) refl known in
    let value = c.operand-2.ensures ((expr_path (plain_expr c.args.address.now)) ∷ []) (expr_if_path (plain_maybe_expr c.args.value.now)) [] refl known in
    formed k i (plain_code c.args.code.now) (plain_code c.emit_expr_if.new.code) (plain_fresh c.args.fresh.now) (plain_fresh c.emit_expr_if.new.fresh) ty at c.open.result
    (method_form c.args.resource c.args.count (plain_expr c.args.address.now) (plain_maybe_expr c.args.value.now))
    (method_form c.args.resource c.args.count (plain_expr c.args.address.now) (plain_maybe_expr c.args.value.now))
    (method_form c.args.resource c.args.count (plain_expr c.in_ok-address.address) (plain_maybe_expr c.in_ok-value.value)) false refl
    (method_known k i (plain_code c.args.code.now) (plain_fresh c.args.fresh.now) ty at c.args.resource c.args.count (plain_expr c.args.address.now) (plain_maybe_expr c.args.value.now) c.operand.result.further c.operand-2.result.further
    (made (plain_code c.emit_boxed.new.code) (plain_expr c.in_ok-address.address) (plain_fresh c.emit_boxed.new.fresh)) (made (plain_code c.emit_expr_if.new.code) (plain_maybe_expr c.in_ok-value.value) (plain_fresh c.emit_expr_if.new.fresh))
    address.0 value.0 (c.in_ok-address.ensures address.1) (c.in_ok-value.ensures value.1))
    (ap plain_form c.open.ensures.form ∙ plain_form-Method _ _ _ _) c.open.ensures.fixed

pub emitting::emit_atomic-returns : goal.emitting::emit_atomic-returns
emitting::emit_atomic-returns t c known ty at =
    let k = callees_in c.args.context.now in
    let i = instance_in c.args.context.now in
    let target = c.operand.ensures [] (target_path (plain_target c.args.target.now)) ((expr_if_path (plain_maybe_expr c.args.compare.now)) ∷ (expr_path (plain_expr c.args.value.now)) ∷ (place_if_path (plain_maybe_location c.args.original.now)) ∷ []) refl known in
    let compare = c.operand-2.ensures ((target_path (plain_target c.args.target.now)) ∷ []) (expr_if_path (plain_maybe_expr c.args.compare.now)) ((expr_path (plain_expr c.args.value.now)) ∷ (place_if_path (plain_maybe_location c.args.original.now)) ∷ []) refl known in
    let value = c.operand-3.ensures ((target_path (plain_target c.args.target.now)) ∷ (expr_if_path (plain_maybe_expr c.args.compare.now)) ∷ []) (expr_path (plain_expr c.args.value.now)) ((place_if_path (plain_maybe_location c.args.original.now)) ∷ []) refl known in
    let original = c.operand-4.ensures ((target_path (plain_target c.args.target.now)) ∷ (expr_if_path (plain_maybe_expr c.args.compare.now)) ∷ (expr_path (plain_expr c.args.value.now)) ∷ []) (place_if_path (plain_maybe_location c.args.original.now)) [] refl known in
    formed k i (plain_code c.args.code.now) (plain_code c.emit_place_if.new.code) (plain_fresh c.args.fresh.now) (plain_fresh c.emit_place_if.new.fresh) ty at c.open.result
    (atomic_form (plain_target c.args.target.now) c.args.kind (plain_maybe_expr c.args.compare.now) (plain_expr c.args.value.now) (plain_maybe_location c.args.original.now))
    (atomic_form (plain_target c.args.target.now) c.args.kind (plain_maybe_expr c.args.compare.now) (plain_expr c.args.value.now) (plain_maybe_location c.args.original.now))
    (atomic_form (plain_target c.in_ok-target.target) c.args.kind (plain_maybe_expr c.in_ok-compare.compare) (plain_expr c.in_ok-value.value) (plain_maybe_location c.in_ok-original.original)) false refl
    (atomic_known k i (plain_code c.args.code.now) (plain_fresh c.args.fresh.now) ty at (plain_target c.args.target.now) c.args.kind (plain_maybe_expr c.args.compare.now) (plain_expr c.args.value.now) (plain_maybe_location c.args.original.now)
    c.operand.result.further c.operand-2.result.further c.operand-3.result.further c.operand-4.result.further
    (made (plain_code c.emit_target.new.code) (plain_target c.in_ok-target.target) (plain_fresh c.emit_target.new.fresh)) (made (plain_code c.emit_expr_if.new.code) (plain_maybe_expr c.in_ok-compare.compare) (plain_fresh c.emit_expr_if.new.fresh))
    (made (plain_code c.emit_boxed.new.code) (plain_expr c.in_ok-value.value) (plain_fresh c.emit_boxed.new.fresh)) (made (plain_code c.emit_place_if.new.code) (plain_maybe_location c.in_ok-original.original) (plain_fresh c.emit_place_if.new.fresh))
    target.0 compare.0 value.0 original.0 (c.in_ok-target.ensures target.1) (c.in_ok-compare.ensures compare.1) (c.in_ok-value.ensures value.1) (c.in_ok-original.ensures original.1))
    (ap plain_form c.open.ensures.form ∙ plain_form-Atomic _ _ _ _ _) c.open.ensures.fixed

pub emitting::emit_expr_if-returns-in_ok-value-in-Some : goal.emitting::emit_expr_if-returns-in_ok-value-in-Some
emitting::emit_expr_if-returns-in_ok-value-in-Some t c known =
    let k = callees_in c.args.context.now in
    let i = instance_in c.args.context.now in
    let code = plain_code c.args.code.now in
    let fresh = plain_fresh c.args.fresh.now in
    let value_is : plain_maybe_expr c.args.value.now ≡ some_expr (plain_expr c.get.result.now) = ap plain_maybe_expr c.in-Some.is ∙ ap (λ v. some_expr (plain_expr v)) (sym c.get.ensures) in
    ap (λ v. made_behind code (filled_expr_if v) (emit_all c.args.operand.further (expr_if_emitters k i v) fresh)) value_is ∙
    expr_if_done k i code fresh c.args.operand.further (plain_expr c.get.result.now) _ (c.in_ok-value-in-Some.ensures (subst (Knows c.args.operand) (ap expr_if_path value_is) known))

pub emitting::emit_expr_if-returns-in-None : goal.emitting::emit_expr_if-returns-in-None
emitting::emit_expr_if-returns-in-None t c known =
    let k = callees_in c.args.context.now in
    let i = instance_in c.args.context.now in
    let code = plain_code c.args.code.now in
    let fresh = plain_fresh c.args.fresh.now in
    ap (λ v. made_behind code (filled_expr_if v) (emit_all c.args.operand.further (expr_if_emitters k i v) fresh)) (ap plain_maybe_expr c.in-None.is) ∙ none c.args.operand.further (filled_expr_if no_expr) code fresh

pub emitting::emit_exprs-loop-index-init : goal.emitting::emit_exprs-loop-index-init
emitting::emit_exprs-loop-index-init t c known =
    let k = callees_in c.args.context.now in
    let i = instance_in c.args.context.now in
    ap (λ v. values_behind (plain_code c.args.code.now) (map plain_expr v) (emit_all false (map (em k i) c.as_slice-expr-items.result.now) (plain_fresh c.args.fresh.now))) (sym c.new-values.ensures)

pub emitting::emit_exprs-loop-index-preserved : goal.emitting::emit_exprs-loop-index-preserved
emitting::emit_exprs-loop-index-preserved t c known =
    let k = callees_in c.args.context.now in
    let i = instance_in c.args.context.now in
    let xs = c.as_slice-expr-items.result.now in
    let j = c.loop-index.index in
    let x = c.expr-item.result in
    let o = c.operand-operand.ensures (held-paths (take j xs)) (held-path x) (held-paths (drop (j + 1) xs)) (exprs-number xs j c.loop-index-test.true)
    (known ∙ ap path_among (exprs-split xs j x c.loop-index-test.true c.expr-item.is)) in
    let rest = emit_all false (map (em k i) (drop (c.loop-index.index + 1) xs)) (plain_fresh c.emit_operand.new.fresh) in
    c.loop-index.invariant known ∙
    (exprs_next k i c.operand-operand.result.further xs c.loop-index.index c.expr-item.result (plain_code c.loop-index.code) (map plain_expr c.loop-index.values) (plain_fresh c.loop-index.fresh)
    (made (plain_code c.emit_operand.new.code) (plain_expr c.in_ok-value.value) (plain_fresh c.emit_operand.new.fresh))
    c.loop-index-test.true c.expr-item.is
    (o.0 ∙ exprs-calls k i (plain_exprs (drop (j + 1) xs))) (c.in_ok-value.ensures o.1) ∙
    ap (λ v. values_behind (plain_code c.emit_operand.new.code) v rest)
    (sym (ap (map plain_expr) c.in_ok-push.ensures.ok ∙ map-append plain_expr c.loop-index.values (c.in_ok-value.value ∷ []))))

pub emitting::emit_exprs-returns : goal.emitting::emit_exprs-returns
emitting::emit_exprs-returns t c known =
    let k = callees_in c.args.context.now in
    let i = instance_in c.args.context.now in
    let xs = c.as_slice-expr-items.result.now in
    ap (λ l. made_behind (plain_code c.args.code.now) exprs_of (emit_all false l (plain_fresh c.args.fresh.now))) (exprs_held k i c.args.exprs.now ∙ ap (map (em k i)) (sym c.as_slice-expr-items.ensures)) ∙
    ap (λ v. made v.code (exprs_of v.values) v.fresh)
    (c.loop-index.invariant (known ∙ ap (λ l. path_among (held-paths l)) (sym c.as_slice-expr-items.ensures)) ∙ exprs_end k i xs c.loop-index.index (plain_code c.loop-index.code) (map plain_expr c.loop-index.values) (plain_fresh c.loop-index.fresh) c.loop-index-test.false)

-- ---- places

pub places::emit_place-returns : goal.places::emit_place-returns
places::emit_place-returns t c =
    c.emit_place_along.ensures (c.as_slice.ensures.value ∙ c.in_ok-numbers.ensures)

pub places::emit_operand_place-returns-in-Some : goal.places::emit_operand_place-returns-in-Some
places::emit_operand_place-returns-in-Some t c known =
    c.emit_place_along.ensures (some-known c.args.operand c.in-Some.last_call (place_path (plain_location c.args.place.now)) c.in-Some.is known)

pub places::emit_operand_place-returns-in-None : goal.places::emit_operand_place-returns-in-None
places::emit_operand_place-returns-in-None t c known = c.emit_place.ensures

pub places::emit_place_along-returns : goal.places::emit_place_along-returns
places::emit_place_along-returns t c known =
    let k = callees_in c.args.context.now in
    let i = instance_in c.args.context.now in
    let code = plain_code c.args.code.now in
    let fresh = plain_fresh c.args.fresh.now in
    let place = c.args.place.now in
    let here = known ∙ ap place_path (plain_location-is place) in
    let root = c.operand-operand.ensures [] (root_path (plain_root place.root)) (held-part_paths place.parts) refl here in
    ap (λ l. made_behind code (filled_place i.first l) (emit_all c.args.further (place_emitters k i l) fresh)) (plain_location-is place) ∙
    (place_known k i code fresh c.args.further c.operand-operand.result.further (plain_ty place.ty) (plain_root place.root) (plain_parts place.parts)
    (made (plain_code c.emit_root.new.code) (plain_root c.in_ok-root.root) (plain_fresh c.emit_root.new.fresh))
    (made (plain_code c.emit_parts.new.code) (plain_parts c.in_ok-parts.parts) (plain_fresh c.emit_parts.new.fresh))
    root.0 (c.in_ok-root.ensures root.1) (c.in_ok-parts.ensures (root_path (plain_root place.root)) here) ∙
    ap (λ l. made (plain_code c.emit_parts.new.code) l (plain_fresh c.emit_parts.new.fresh)) (sym (location-as _ _ _ _ c.in_ok-ty.ensures refl refl)))

pub places::emit_root-returns-in_ok-number-in-Variable : goal.places::emit_root-returns-in_ok-number-in-Variable
places::emit_root-returns-in_ok-number-in-Variable t c known =
    let k = callees_in c.args.context.now in
    let i = instance_in c.args.context.now in
    let code = plain_code c.args.code.now in
    let fresh = plain_fresh c.args.fresh.now in
    ap (λ r. made_behind code (filled_root i.first r) (emit_all c.args.operand.further (root_emitters k i r) fresh)) (ap plain_root c.in-Variable.is ∙ plain_root-Variable _) ∙
    (none c.args.operand.further (filled_root i.first (variable_root c.in-Variable.number)) code fresh ∙
    (ap (λ n. made code (variable_root n) fresh) (sym c.in_ok-number-in-Variable.ensures) ∙ ap (λ r. made code r fresh) (sym (plain_root-Variable _))))

pub places::emit_root-returns-in-Constant : goal.places::emit_root-returns-in-Constant
places::emit_root-returns-in-Constant t c known =
    let k = callees_in c.args.context.now in
    let i = instance_in c.args.context.now in
    let code = plain_code c.args.code.now in
    let fresh = plain_fresh c.args.fresh.now in
    ap (λ r. made_behind code (filled_root i.first r) (emit_all c.args.operand.further (root_emitters k i r) fresh)) (ap plain_root c.in-Constant.is ∙ plain_root-Constant _) ∙
    (none c.args.operand.further (filled_root i.first (constant_root c.in-Constant.number)) code fresh ∙ ap (λ r. made code r fresh) (sym (plain_root-Variable _)))

pub places::emit_root-returns-in-Shared : goal.places::emit_root-returns-in-Shared
places::emit_root-returns-in-Shared t c known =
    let k = callees_in c.args.context.now in
    let i = instance_in c.args.context.now in
    let code = plain_code c.args.code.now in
    let fresh = plain_fresh c.args.fresh.now in
    ap (λ r. made_behind code (filled_root i.first r) (emit_all c.args.operand.further (root_emitters k i r) fresh)) (ap plain_root c.in-Shared.is ∙ plain_root-Shared _) ∙
    (none c.args.operand.further (filled_root i.first (shared_root c.in-Shared.number)) code fresh ∙ ap (λ r. made code r fresh) (sym (plain_root-Shared _)))

pub places::emit_root-returns-in_ok-index-in-Element : goal.places::emit_root-returns-in_ok-index-in-Element
places::emit_root-returns-in_ok-index-in-Element t c known =
    let k = callees_in c.args.context.now in
    let i = instance_in c.args.context.now in
    let code = plain_code c.args.code.now in
    let fresh = plain_fresh c.args.fresh.now in
    let root_is : plain_root c.args.root.now ≡ element_root c.in-Element.resource (plain_expr c.get.result.now) = ap plain_root c.in-Element.is ∙ (plain_root-Element _ _ ∙ ap (λ v. element_root c.in-Element.resource (plain_expr v)) (sym c.get.ensures)) in
    ap (λ r. made_behind code (filled_root i.first r) (emit_all c.args.operand.further (root_emitters k i r) fresh))
    root_is ∙
    (element_done k i code fresh c.args.operand.further c.in-Element.resource (plain_expr c.get.result.now) _ (c.in_ok-index-in-Element.ensures (subst (Knows c.args.operand) (ap root_path root_is) known)) ∙
    ap (λ r. made (plain_code c.emit_boxed.new.code) r (plain_fresh c.emit_boxed.new.fresh)) (sym (plain_root-Element _ _)))

pub places::emit_parts-loop-index-init : goal.places::emit_parts-loop-index-init
places::emit_parts-loop-index-init t c root known =
    let k = callees_in c.args.context.now in
    let i = instance_in c.args.context.now in
    ap (λ v. parts_left k i c.args.further (plain_code c.args.code.now) (map plain_part v) c.as_slice-part-items.result.now (plain_fresh c.args.fresh.now)) (sym c.new-made.ensures)

pub places::emit_parts-loop-index-preserved : goal.places::emit_parts-loop-index-preserved
places::emit_parts-loop-index-preserved t c root known =
    let k = callees_in c.args.context.now in
    let i = instance_in c.args.context.now in
    let xs = c.as_slice-part-items.result.now in
    let j = c.loop-index.index in
    let x = c.part-item.result in
    let o = c.operand-operand.ensures (root ∷ held-part_paths (take j xs)) (held-part_path x) (held-part_paths (drop (j + 1) xs)) (parts-number root xs j c.loop-index-test.true)
    (known ∙ ap (λ l. path_among (root ∷ l)) (parts-split xs j x c.loop-index-test.true c.part-item.is)) in
    c.loop-index.invariant root known ∙
    (parts_next k i c.args.further c.operand-operand.result.further xs c.loop-index.index c.part-item.result (plain_code c.loop-index.code) (map plain_part c.loop-index.made) (plain_fresh c.loop-index.fresh)
    (made (plain_code c.emit_part.new.code) (plain_part c.in_ok-part.part) (plain_fresh c.emit_part.new.fresh))
    c.loop-index-test.true c.part-item.is (o.0 ∙ ap (λ b. c.args.further || b) (parts-calls k i (plain_parts (drop (j + 1) xs)))) (c.in_ok-part.ensures o.1) ∙
    ap (λ v. parts_left k i c.args.further (plain_code c.emit_part.new.code) v (drop (c.loop-index.index + 1) xs) (plain_fresh c.emit_part.new.fresh))
    (sym (ap (map plain_part) c.in_ok-push.ensures.ok ∙ map-append plain_part c.loop-index.made (c.in_ok-part.part ∷ []))))

pub places::emit_parts-returns : goal.places::emit_parts-returns
places::emit_parts-returns t c root known =
    let k = callees_in c.args.context.now in
    let i = instance_in c.args.context.now in
    let xs = c.as_slice-part-items.result.now in
    ap (λ ps. parts_left k i c.args.further (plain_code c.args.code.now) [] ps (plain_fresh c.args.fresh.now)) (sym c.as_slice-part-items.ensures) ∙
    (c.loop-index.invariant root (known ∙ ap (λ l. path_among (root ∷ held-part_paths l)) (sym c.as_slice-part-items.ensures)) ∙
    parts_end k i c.args.further xs c.loop-index.index (plain_code c.loop-index.code) (map plain_part c.loop-index.made) (plain_fresh c.loop-index.fresh) c.loop-index-test.false)

pub places::emit_part-returns-in-Member : goal.places::emit_part-returns-in-Member
places::emit_part-returns-in-Member t c known =
    let k = callees_in c.args.context.now in
    let i = instance_in c.args.context.now in
    let code = plain_code c.args.code.now in
    let fresh = plain_fresh c.args.fresh.now in
    ap (λ p. made_behind code (filled_part p) (emit_all c.args.operand.further (part_emitters k i p) fresh)) (ap plain_part c.in-Member.is ∙ plain_part-Member _) ∙
    (none c.args.operand.further (filled_part (member_part c.in-Member.number)) code fresh ∙ ap (λ p. made code p fresh) (sym (plain_part-Member _)))

pub places::emit_part-returns-in_ok-index-in-Index : goal.places::emit_part-returns-in_ok-index-in-Index
places::emit_part-returns-in_ok-index-in-Index t c known =
    let k = callees_in c.args.context.now in
    let i = instance_in c.args.context.now in
    let code = plain_code c.args.code.now in
    let fresh = plain_fresh c.args.fresh.now in
    let part_is : plain_part c.args.part.now ≡ index_part (plain_expr c.get.result.now) = ap plain_part c.in-Index.is ∙ (plain_part-Index _ ∙ ap (λ v. index_part (plain_expr v)) (sym c.get.ensures)) in
    ap (λ p. made_behind code (filled_part p) (emit_all c.args.operand.further (part_emitters k i p) fresh))
    part_is ∙
    (index_done k i code fresh c.args.operand.further (plain_expr c.get.result.now) _ (c.in_ok-index-in-Index.ensures (subst (Knows c.args.operand) (ap part_path part_is) known)) ∙
    ap (λ p. made (plain_code c.emit_boxed.new.code) p (plain_fresh c.emit_boxed.new.fresh)) (sym (plain_part-Index _)))

pub places::emit_part-returns-in_ok-letters-in-Swizzle : goal.places::emit_part-returns-in_ok-letters-in-Swizzle
places::emit_part-returns-in_ok-letters-in-Swizzle t c known =
    let k = callees_in c.args.context.now in
    let i = instance_in c.args.context.now in
    let code = plain_code c.args.code.now in
    let fresh = plain_fresh c.args.fresh.now in
    ap (λ p. made_behind code (filled_part p) (emit_all c.args.operand.further (part_emitters k i p) fresh)) (ap plain_part c.in-Swizzle.is ∙ plain_part-Swizzle _) ∙
    (none c.args.operand.further (filled_part (swizzle_part c.in-Swizzle.letters)) code fresh ∙
    (ap (λ l. made code (swizzle_part l) fresh) (sym (c.in_ok-letters-in-Swizzle.ensures ∙ c.as_slice.ensures.value)) ∙ ap (λ p. made code p fresh) (sym (plain_part-Swizzle _))))

pub places::emit_place_if-returns-in_ok-place-in-Some : goal.places::emit_place_if-returns-in_ok-place-in-Some
places::emit_place_if-returns-in_ok-place-in-Some t c known =
    let k = callees_in c.args.context.now in
    let i = instance_in c.args.context.now in
    let code = plain_code c.args.code.now in
    let fresh = plain_fresh c.args.fresh.now in
    let place_is : plain_maybe_location c.args.place.now ≡ some_location (plain_location c.in-Some.place) = ap plain_maybe_location c.in-Some.is in
    ap (λ l. made_behind code (filled_place_if i.first l) (emit_all c.args.operand.further (place_if_emitters k i l) fresh)) place_is ∙ ap (map_made some_location) (c.in_ok-place-in-Some.ensures (subst (Knows c.args.operand) (ap place_if_path place_is) known))

pub places::emit_place_if-returns-in-None : goal.places::emit_place_if-returns-in-None
places::emit_place_if-returns-in-None t c known =
    let k = callees_in c.args.context.now in
    let i = instance_in c.args.context.now in
    let code = plain_code c.args.code.now in
    let fresh = plain_fresh c.args.fresh.now in
    ap (λ l. made_behind code (filled_place_if i.first l) (emit_all c.args.operand.further (place_if_emitters k i l) fresh)) (ap plain_maybe_location c.in-None.is) ∙ none c.args.operand.further (filled_place_if i.first no_location) code fresh

pub places::emit_target-returns-in_ok-place-in-Place : goal.places::emit_target-returns-in_ok-place-in-Place
places::emit_target-returns-in_ok-place-in-Place t c known =
    let k = callees_in c.args.context.now in
    let i = instance_in c.args.context.now in
    let code = plain_code c.args.code.now in
    let fresh = plain_fresh c.args.fresh.now in
    let target_is : plain_target c.args.target.now ≡ place_target (plain_location c.in-Place.place) = ap plain_target c.in-Place.is ∙ plain_target-Place _ in
    ap (λ l. made_behind code (filled_target i.first l) (emit_all c.args.operand.further (target_emitters k i l) fresh)) target_is ∙
    (ap (map_made place_target) (c.in_ok-place-in-Place.ensures (subst (Knows c.args.operand) (ap target_path target_is) known)) ∙
    ap (λ l. made (plain_code c.emit_operand_place.new.code) l (plain_fresh c.emit_operand_place.new.fresh)) (sym (plain_target-Place _)))

pub places::emit_target-returns-in_ok-address-in-Bytes : goal.places::emit_target-returns-in_ok-address-in-Bytes
places::emit_target-returns-in_ok-address-in-Bytes t c known =
    let k = callees_in c.args.context.now in
    let i = instance_in c.args.context.now in
    let code = plain_code c.args.code.now in
    let fresh = plain_fresh c.args.fresh.now in
    let target_is : plain_target c.args.target.now ≡ bytes_target c.in-Bytes.resource (plain_expr c.get.result.now) = ap plain_target c.in-Bytes.is ∙ (plain_target-Bytes _ _ ∙ ap (λ v. bytes_target c.in-Bytes.resource (plain_expr v)) (sym c.get.ensures)) in
    ap (λ l. made_behind code (filled_target i.first l) (emit_all c.args.operand.further (target_emitters k i l) fresh))
    target_is ∙
    (bytes_done k i code fresh c.args.operand.further c.in-Bytes.resource (plain_expr c.get.result.now) _ (c.in_ok-address-in-Bytes.ensures (subst (Knows c.args.operand) (ap target_path target_is) known)) ∙
    ap (λ l. made (plain_code c.emit_boxed.new.code) l (plain_fresh c.emit_boxed.new.fresh)) (sym (plain_target-Bytes _ _)))

-- ---- measures

pub bodies::emit_stmt-emit_block-requires : goal.bodies::emit_stmt-emit_block-requires
bodies::emit_stmt-emit_block-requires t c =
    let w = ap stmt_weight c.in-Block.is ∙ stmt_weight-Block c.in-Block.body in
    (omega arith, tt)

pub bodies::emit_stmt-emit_local-requires : goal.bodies::emit_stmt-emit_local-requires
bodies::emit_stmt-emit_local-requires t c =
    let w = ap stmt_weight c.in-Local.is ∙ stmt_weight-Local c.in-Local.variable c.in-Local.init in
    (omega arith, tt)

pub bodies::emit_stmt-emit_run-requires : goal.bodies::emit_stmt-emit_run-requires
bodies::emit_stmt-emit_run-requires t c =
    let w = ap stmt_weight c.in-Run.is ∙ stmt_weight-Run c.in-Run.value in
    (omega arith, tt)

pub bodies::emit_stmt-emit_if-requires : goal.bodies::emit_stmt-emit_if-requires
bodies::emit_stmt-emit_if-requires t c =
    let w = ap stmt_weight c.in-If.is ∙ stmt_weight-If c.in-If.cond c.in-If.yes c.in-If.no in
    let g = ap stmt_weight c.get.ensures in
    (omega arith, tt)

pub bodies::emit_stmt-emit_for-requires : goal.bodies::emit_stmt-emit_for-requires
bodies::emit_stmt-emit_for-requires t c =
    let w = ap stmt_weight c.in-For.is ∙ stmt_weight-For c.in-For.init c.in-For.cond c.in-For.step c.in-For.body in
    let g = ap stmt_weight c.get-in-For.ensures in
    (omega arith, tt)

pub bodies::emit_stmt-emit_while-requires : goal.bodies::emit_stmt-emit_while-requires
bodies::emit_stmt-emit_while-requires t c =
    let w = ap stmt_weight c.in-While.is ∙ stmt_weight-While c.in-While.cond c.in-While.body in
    let g = ap stmt_weight c.get-in-While.ensures in
    (omega arith, tt)

pub bodies::emit_stmt-emit_do-requires : goal.bodies::emit_stmt-emit_do-requires
bodies::emit_stmt-emit_do-requires t c =
    let w = ap stmt_weight c.in-Do.is ∙ stmt_weight-Do c.in-Do.body c.in-Do.cond in
    let g = ap stmt_weight c.get-in-Do.ensures in
    (omega arith, tt)

pub bodies::emit_stmt-emit_return-requires : goal.bodies::emit_stmt-emit_return-requires
bodies::emit_stmt-emit_return-requires t c =
    let w = ap stmt_weight c.in-Return.is ∙ stmt_weight-Return c.in-Return.value in
    (omega arith, tt)

pub calling::emit_call-emit_around-requires : goal.calling::emit_call-emit_around-requires
calling::emit_call-emit_around-requires t c =
    let fs = c.args.context.now.functions.now in
    let n = c.args.function in
    let within : n < length fs = omega arith in
    let callee = get_or fs n c.index-context-number.result in
    let w = weight_before fs n callee within (get_or_default fs n c.index-context-number.result callee within) in
    (omega arith, tt)

pub calling::emit_around-passed-requires : goal.calling::emit_around-passed-requires
calling::emit_around-passed-requires t c = (omega arith, tt)

-- ---- statements and calls

pub bodies::emit_stmt-returns-in-Block : goal.bodies::emit_stmt-returns-in-Block
bodies::emit_stmt-returns-in-Block t c =
    emitted_stmt-as (callees_in c.args.context.now) (instance_in c.args.context.now) (plain_jumps c.args.jumps) c.emit_block.result (plain_code c.args.code.now) (plain_fresh c.args.fresh.now) _ _ _
    (ap plain_stmt c.in-Block.is ∙ plain_stmt-Block c.in-Block.body) (c.emit_block.ensures)

pub bodies::emit_stmt-returns-in-Local : goal.bodies::emit_stmt-returns-in-Local
bodies::emit_stmt-returns-in-Local t c =
    emitted_stmt-as (callees_in c.args.context.now) (instance_in c.args.context.now) (plain_jumps c.args.jumps) c.emit_local.result (plain_code c.args.code.now) (plain_fresh c.args.fresh.now) _ _ _
    (ap plain_stmt c.in-Local.is ∙ plain_stmt-Local c.in-Local.variable c.in-Local.init) (c.emit_local.ensures)

pub bodies::emit_stmt-returns-in-Run : goal.bodies::emit_stmt-returns-in-Run
bodies::emit_stmt-returns-in-Run t c =
    emitted_stmt-as (callees_in c.args.context.now) (instance_in c.args.context.now) (plain_jumps c.args.jumps) c.emit_run.result (plain_code c.args.code.now) (plain_fresh c.args.fresh.now) _ _ _
    (ap plain_stmt c.in-Run.is ∙ plain_stmt-Run c.in-Run.value) (c.emit_run.ensures)

pub bodies::emit_stmt-returns-in-If : goal.bodies::emit_stmt-returns-in-If
bodies::emit_stmt-returns-in-If t c =
    emitted_stmt-as (callees_in c.args.context.now) (instance_in c.args.context.now) (plain_jumps c.args.jumps) c.emit_if.result (plain_code c.args.code.now) (plain_fresh c.args.fresh.now) _ _ _
    (ap plain_stmt c.in-If.is ∙ (plain_stmt-If c.in-If.cond c.in-If.yes c.in-If.no ∙ sym (ap (λ s. if_stmt (plain_expr c.in-If.cond) (plain_stmt s) (plain_maybe_stmt c.in-If.no)) c.get.ensures))) (c.emit_if.ensures)

pub bodies::emit_stmt-returns-in-For : goal.bodies::emit_stmt-returns-in-For
bodies::emit_stmt-returns-in-For t c =
    emitted_stmt-as (callees_in c.args.context.now) (instance_in c.args.context.now) (plain_jumps c.args.jumps) c.emit_for.result (plain_code c.args.code.now) (plain_fresh c.args.fresh.now) _ _ _
    (ap plain_stmt c.in-For.is ∙ (plain_stmt-For c.in-For.init c.in-For.cond c.in-For.step c.in-For.body ∙ sym (ap (λ s. for_stmt (plain_stmts c.in-For.init) (option_map plain_expr c.in-For.cond) (option_map plain_expr c.in-For.step) (plain_stmt s)) c.get-in-For.ensures))) (c.emit_for.ensures)

pub bodies::emit_stmt-returns-in-While : goal.bodies::emit_stmt-returns-in-While
bodies::emit_stmt-returns-in-While t c =
    emitted_stmt-as (callees_in c.args.context.now) (instance_in c.args.context.now) (plain_jumps c.args.jumps) c.emit_while.result (plain_code c.args.code.now) (plain_fresh c.args.fresh.now) _ _ _
    (ap plain_stmt c.in-While.is ∙ (plain_stmt-While c.in-While.cond c.in-While.body ∙ sym (ap (λ s. while_stmt (plain_expr c.in-While.cond) (plain_stmt s)) c.get-in-While.ensures))) (c.emit_while.ensures (plain_jumps c.args.jumps))

pub bodies::emit_stmt-returns-in-Do : goal.bodies::emit_stmt-returns-in-Do
bodies::emit_stmt-returns-in-Do t c =
    emitted_stmt-as (callees_in c.args.context.now) (instance_in c.args.context.now) (plain_jumps c.args.jumps) c.emit_do.result (plain_code c.args.code.now) (plain_fresh c.args.fresh.now) _ _ _
    (ap plain_stmt c.in-Do.is ∙ (plain_stmt-Do c.in-Do.body c.in-Do.cond ∙ sym (ap (λ s. do_stmt (plain_stmt s) (plain_expr c.in-Do.cond)) c.get-in-Do.ensures))) (c.emit_do.ensures (plain_jumps c.args.jumps))

pub bodies::emit_stmt-returns-in-Return : goal.bodies::emit_stmt-returns-in-Return
bodies::emit_stmt-returns-in-Return t c =
    emitted_stmt-as (callees_in c.args.context.now) (instance_in c.args.context.now) (plain_jumps c.args.jumps) c.emit_return.result (plain_code c.args.code.now) (plain_fresh c.args.fresh.now) _ _ _
    (ap plain_stmt c.in-Return.is ∙ plain_stmt-Return c.in-Return.value) (c.emit_return.ensures)

pub bodies::emit_stmt-returns-in-Break : goal.bodies::emit_stmt-returns-in-Break
bodies::emit_stmt-returns-in-Break t c =
    jumped (callees_in c.args.context.now) (instance_in c.args.context.now) (plain_jumps c.args.jumps) c.add_leave.result (plain_code c.args.code.now) (plain_fresh c.args.fresh.now) _ _ _ _
    (ap plain_stmt c.in-Break.is ∙ plain_stmt-Break) refl c.add_leave.ensures

pub bodies::emit_stmt-returns-in-Continue : goal.bodies::emit_stmt-returns-in-Continue
bodies::emit_stmt-returns-in-Continue t c =
    jumped (callees_in c.args.context.now) (instance_in c.args.context.now) (plain_jumps c.args.jumps) c.add_leave-in-Continue.result (plain_code c.args.code.now) (plain_fresh c.args.fresh.now) _ _ _ _
    (ap plain_stmt c.in-Continue.is ∙ plain_stmt-Continue) refl c.add_leave-in-Continue.ensures

pub calling::pass-returns-in_ok-emitted-in-Value : goal.calling::pass-returns-in_ok-emitted-in-Value
calling::pass-returns-in_ok-emitted-in-Value t c = λ parameter same.
    value-passed (callees_in c.args.context.now) (instance_in c.args.context.now) c.args.at c.args.number (plain_code c.args.code.now) (plain_code c.args.copies.now) (plain_fresh c.args.fresh.now) parameter (plain_arg c.args.arg.now)
    c.add_set.result (plain_expr c.in-Value.value) (plain_code c.emit.new.code) (plain_expr c.in_ok-emitted-in-Value.emitted.value) c.in_ok-emitted-in-Value.emitted.fixed (plain_fresh c.emit.new.fresh) (plain_code c.add_set.new.code)
    (ap plain_arg c.in-Value.is ∙ plain_arg-Value c.in-Value.value) c.in_ok-emitted-in-Value.ensures c.add_set.ensures

pub calling::pass-returns-in_ok-to-in-Place : goal.calling::pass-returns-in_ok-to-in-Place
calling::pass-returns-in_ok-to-in-Place t c = λ parameter same.
    place-passed (callees_in c.args.context.now) (instance_in c.args.context.now) c.args.at c.args.number (plain_code c.args.code.now) (plain_code c.args.copies.now) (plain_fresh c.args.fresh.now) parameter (plain_arg c.args.arg.now)
    c.pass_place.result (plain_location c.in-Place.place) c.args.copying (plain_code c.emit_place.new.code) (plain_location c.in_ok-to-in-Place.to) (plain_fresh c.emit_place.new.fresh) (plain_code c.pass_place.new.code) (plain_code c.pass_place.new.copies)
    (ap plain_arg c.in-Place.is ∙ plain_arg-Place c.in-Place.place) same c.in_ok-to-in-Place.ensures c.pass_place.ensures.code c.pass_place.ensures.copies

-- what is read past the end
abbrev no_parameter : Parameter
no_parameter = record { variable = 0; copying = CopyIn; semantic = None }

pub calling::pass_all-loop-index-preserved : goal.calling::pass_all-loop-index-preserved
calling::pass_all-loop-index-preserved t c =
    let k = callees_in c.args.context.now in
    let i = instance_in c.args.context.now in
    let n = c.loop-index.index in
    let ps = c.as_slice-parameters.result.now in
    let p = get_or ps n no_parameter in
    let count : length ps ≡ length c.args.parameters.now = ap length c.as_slice-parameters.ensures.value in
    let within : n < length c.args.args.now = omega arith in
    let among : n < length ps = omega arith in
    pass-turn k i c.args.at c.args.number c.args.args.now ps n c.index-args-index.result p _ (plain_code c.loop-index.code) (plain_code c.loop-index.copies) (plain_fresh c.loop-index.fresh)
    (plain_code c.pass.new.code) (plain_code c.pass.new.copies) (plain_fresh c.pass.new.fresh)
    within c.index-args-index.is among (get_or_default ps n no_parameter p among) c.loop-index.invariant
    (ap (λ m. passed_behind (plain_code c.loop-index.code) (plain_code c.loop-index.copies) (pass_all i c.args.at m (arg_emitter k i (plain_arg c.index-args-index.result) ∷ []) (p ∷ []) (plain_fresh c.loop-index.fresh)))
    (sym c.in_ok-variable.ensures) ∙ c.in_ok-pass.ensures p refl)

pub calling::pass_all-returns : goal.calling::pass_all-returns
calling::pass_all-returns t c =
    let k = callees_in c.args.context.now in
    let i = instance_in c.args.context.now in
    let ps = c.as_slice-parameters.result.now in
    let count : length ps ≡ length c.args.parameters.now = ap length c.as_slice-parameters.ensures.value in
    let past : min (length c.args.args.now) (length ps) ≤ c.loop-index.index = omega arith in
    ap (λ l. passed_behind (plain_code c.args.code.now) (plain_code c.args.copies.now) (pass_all i c.args.at c.args.number (args_emitters k i (plain_args c.args.args.now)) l (plain_fresh c.args.fresh.now))) (sym c.as_slice-parameters.ensures.value) ∙
    pass-end k i c.args.at c.args.number c.args.args.now ps c.loop-index.index _ (plain_code c.loop-index.code) (plain_code c.loop-index.copies) (plain_fresh c.loop-index.fresh) past c.loop-index.invariant

pub calling::emit_call-returns-then-number-context : goal.calling::emit_call-returns-then-number-context
calling::emit_call-returns-then-number-context t c =
    let k = callees_in c.args.context.now in
    let i = instance_in c.args.context.now in
    called_missing c.emit_missing.result
    (λ (made : Formed). valued (plain_code c.emit_missing.new.code) (an_expr (plain_ty c.args.ty.now) c.args.at (plain_form made.form)) made.fixed (plain_fresh c.emit_missing.new.fresh))
    (plain_code c.args.code.now) (plain_ty c.args.ty.now) c.args.at i (args_emitters k i (plain_args c.args.args.now)) (plain_fresh c.args.fresh.now) (inlined_at k c.args.function)
    (callee_missing c.args.context.now.functions.now c.args.function c.if-number-context.true) c.emit_missing.ensures

pub calling::emit_call-returns : goal.calling::emit_call-returns
calling::emit_call-returns t c =
    let k = callees_in c.args.context.now in
    let i = instance_in c.args.context.now in
    let fs = c.args.context.now.functions.now in
    let n = c.args.function in
    let within : n < length fs = omega arith in
    let callee = get_or fs n c.index-context-number.result in
    let before = inlined_all (take n fs) in
    called c.emit_around.result
    (λ (made : Formed). valued (plain_code c.emit_around.new.code) (an_expr (plain_ty c.args.ty.now) c.args.at (plain_form made.form)) made.fixed (plain_fresh c.emit_around.new.fresh))
    (plain_code c.args.code.now) (plain_ty c.args.ty.now) c.args.at i (args_emitters k i (plain_args c.args.args.now)) (plain_fresh c.args.fresh.now) (inlined_at k n)
    (inlined before (plain_function callee)) (instance c.next.result c.result_number.result c.args.fresh.now.names) (plain_fresh c.add_instance.new.fresh)
    (callee_found fs n callee within (get_or_default fs n c.index-context-number.result callee within))
    (stands_at before callee (plain_fresh c.args.fresh.now) c.next.result c.result_number.result c.args.fresh.now.names c.next.ensures c.result_number.ensures refl)
    (c.in_ok-add_instance.ensures before) c.emit_around.ensures
