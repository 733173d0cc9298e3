use Rattle.std.proofs.Common.{get_or, ◌∙◌, ◌+◌, ◌-◌, refl, sym, ap, true, false, [], ◌∷◌, ◌++◌, drop, length, map, take, slice_get, slice_index, slice_index_or, slice_set, unwrap_or, Some, None, option_map, Ok, Err, arith, rules}
use Rattle.std.proofs.lemmas.List.{drop_all, get_or_default, length_push}
use Rattle.std.proofs.lemmas.Result.{IfOk-weaker}
use Rattle.std.specs.List.{concat}
use Rattle.lane_core.specs.Words.{holds}
use Rattle.hl_meaning.specs.declared.expression.Form.TheVariants as Form_variants
use Rattle.hl_meaning.specs.declared.expression.PathPart.TheVariants as PathPart_variants
use Rattle.hl_meaning.specs.declared.expression.Root.TheVariants as Root_variants
use Rattle.hl_meaning.specs.declared.expression.Target.TheVariants as Target_variants
use Rattle.hl_meaning.specs.declared.program.Copying.TheVariants.{CopyIn}
use Rattle.hl_meaning.specs.declared.statement.Stmt.TheVariants as Stmt_variants
use Rattle.hl_meaning.specs.Trees.{atomic_form, binary_form, build_form, call_form, choose_form, convert_form, do_stmt, intrinsic_form, literal_form, method_form, pick_form, read_form, type_of, unary_form, while_stmt, write_form}
use Rattle.hl_meaning.specs.Views.{plain_arg, plain_args, plain_expr, plain_exprs, plain_function, plain_location, plain_maybe_expr, plain_maybe_location, plain_maybe_stmt, plain_part, plain_parts, plain_root, plain_stmt, plain_stmts, plain_target, plain_ty}
use Rattle.hl_meaning.proofs.Plain.{plain_arg-Place, plain_arg-Value, plain_form-Atomic, plain_form-Binary, plain_form-Build, plain_form-Call, plain_form-Choose, plain_form-Convert, plain_form-Intrinsic, plain_form-Literal, plain_form-Method, plain_form-Pick, plain_form-Read, plain_form-Unary, plain_form-Write, plain_part-Index, plain_root-Element, plain_stmt-Block, plain_stmt-Break, plain_stmt-Continue, plain_stmt-Do, plain_stmt-For, plain_stmt-If, plain_stmt-Local, plain_stmt-Return, plain_stmt-Run, plain_stmt-While, plain_target-Bytes, plain_target-Place}
use Rattle.hl_source.specs.Expressions.{argument_of, argument_operands, arguments, assigns, copies_in, evaluates, indexes, indexes_if, no_callee, root_index, step_index, step_indexes, target_indexes, value_if, values}
use Rattle.hl_source.specs.Intrinsics.{work_of, worked}
use Rattle.hl_source.specs.Memory.{load_four, read_place}
use Rattle.hl_source.specs.Offsets.{picked_words, slot_of}
use Rattle.hl_source.specs.Operations.{binary_words, chosen_word, component_kind, converted, map_3, unary_word}
use Rattle.hl_source.specs.SourceLane.{returned_value}
use Rattle.hl_source.specs.State.{after, gives, goes_with, with_variable}
use Rattle.hl_source.specs.Statements.{at_end, by_return, computes_if, condition, condition_if, declares, do_turn, does, does_all, does_if, for_turn, returns, turns}
use Rattle.hl_interpreter.specs.declared.statements.Leaving.TheVariants.{AtEnd}
use Rattle.hl_interpreter.specs.Operands.{interleaved, operands_of, pair_of}
use Rattle.hl_interpreter.specs.Runs.{callees_behind, context_behind, context_of, form_value, loop_left, plain_leaving, run_context, state_of}
use Rattle.hl_interpreter.proofs.Arms.{binary-acts, form-of, operation, worked-same}
use Rattle.hl_interpreter.proofs.Branching.{body-continues, body-ends, body-left, body-stops, first-continues, first-ends, first-left, first-stops, for-goes, for-left, for-stops, if-goes, if-stops, lone-continues, lone-left, test-breaks, test-stops, tests-goes, tests-stops}
use Rattle.hl_interpreter.proofs.Callees.{callee-at, callee-past}
use Rattle.hl_interpreter.proofs.Calls.{argument-next, argument-stops, call-first, call-goes, call-second, call-third, copied-same, initial-of}
use Rattle.hl_interpreter.proofs.Doing.{all-left, all-next, all-stops, turn-done, turn-stops, turns-over}
use Rattle.hl_interpreter.proofs.Exits.{memory-exit, stop-exit}
use Rattle.hl_interpreter.proofs.Expressing.{atomic-first, atomic-fourth, atomic-goes, atomic-second, atomic-third, binary-goes, binary-left, binary-right, choose-first, choose-goes, choose-second, choose-third, load-first, load-goes, one-value-goes, one-value-stops, read-goes, read-stops, several-goes, several-stops, store-second, write-first, write-goes, write-second}
use Rattle.hl_interpreter.proofs.Forms.{type-of}
use Rattle.hl_interpreter.proofs.Indexing.{no-root_index, no-step_index, place-root, place-root-stops, steps-next, steps-stop, values-next, values-stop}
use Rattle.hl_interpreter.proofs.Meeting.{behind, behind-end, behind-none, goes, same, stops}
use Rattle.hl_interpreter.proofs.Running.{arguments-end, called-as, first-is, state-changed, turns-first}
use Rattle.hl_interpreter.proofs.Turns.{drop-next}
use Rattle.hl_source.proofs.Weights.{stmt_weight, stmt_weight-Block, stmt_weight-Do, stmt_weight-For, stmt_weight-If, stmt_weight-Local, stmt_weight-Return, stmt_weight-Run, stmt_weight-While, weight-within}
use Rattle.hl_interpreter.proofs.+running.Goals as goal

pub expressions::evaluate-returns-in-Literal : goal.expressions::evaluate-returns-in-Literal
expressions::evaluate-returns-in-Literal t c =
    let context = context_of c.args.context.now in let replies = c.args.context.now.run.now.replies.now in let s = state_of replies c.args.state.now in form-of context c.args.expr.now s (Form_variants.Literal c.in-Literal.word) (literal_form c.in-Literal.word) c.or_stop.result s (c.in-Literal.is) (plain_form-Literal c.in-Literal.word) (c.or_stop.ensures (c.in-Literal.word ∷ []) s c.one_word.ensures)

pub expressions::evaluate-returns-in_err-indexes-in-Read : goal.expressions::evaluate-returns-in_err-indexes-in-Read
expressions::evaluate-returns-in_err-indexes-in-Read t c =
    let context = context_of c.args.context.now in let replies = c.args.context.now.run.now.replies.now in let s = state_of replies c.args.state.now in stop-exit (λ w. w) c.from_residual.result c.in_err-indexes-in-Read.field-0.0 (state_of replies c.indexes.new.state) _ c.from_residual.ensures.1 (form-of context c.args.expr.now s (Form_variants.Read c.in-Read.place) (read_form (plain_location c.in-Read.place)) (Err c.in_err-indexes-in-Read.field-0.0) (state_of replies c.indexes.new.state) (c.in-Read.is) (plain_form-Read c.in-Read.place)
    (read-stops context (plain_ty c.args.expr.now.ty) s (λ w. w) c.in_err-indexes-in-Read.field-0.0 (state_of replies c.indexes.new.state) (plain_location c.in-Read.place) c.in_err-indexes-in-Read.ensures))

pub expressions::evaluate-returns-in_ok-indexes-in-Read : goal.expressions::evaluate-returns-in_ok-indexes-in-Read
expressions::evaluate-returns-in_ok-indexes-in-Read t c =
    let context = context_of c.args.context.now in let replies = c.args.context.now.run.now.replies.now in let s = state_of replies c.args.state.now in form-of context c.args.expr.now s (Form_variants.Read c.in-Read.place) (read_form (plain_location c.in-Read.place)) c.read_place.result (state_of replies c.read_place.new.state) (c.in-Read.is) (plain_form-Read c.in-Read.place)
    (read-goes context (plain_ty c.args.expr.now.ty) s c.read_place.result (state_of replies c.indexes.new.state) (state_of replies c.read_place.new.state) (plain_location c.in-Read.place) c.in_ok-indexes-in-Read.indexes c.in_ok-indexes-in-Read.ensures (same (λ w. w) c.read_place.result (state_of replies c.read_place.new.state) _ _ (ap (λ l. read_place context (plain_location c.in-Read.place) l (state_of replies c.indexes.new.state)) c.as_slice.ensures.value) c.read_place.ensures))

pub expressions::evaluate-returns-in_err-indexes-in-Write : goal.expressions::evaluate-returns-in_err-indexes-in-Write
expressions::evaluate-returns-in_err-indexes-in-Write t c =
    let context = context_of c.args.context.now in let replies = c.args.context.now.run.now.replies.now in let s = state_of replies c.args.state.now in stop-exit (λ w. w) c.from_residual-in_err-indexes-in-Write.result c.in_err-indexes-in-Write.field-0.0 (state_of replies c.indexes-in-Write.new.state) _ c.from_residual-in_err-indexes-in-Write.ensures.1
    (form-of context c.args.expr.now s (Form_variants.Write c.in-Write.to c.in-Write.op c.in-Write.common c.in-Write.value c.in-Write.old) (write_form (plain_location c.in-Write.to) c.in-Write.op (plain_ty c.in-Write.common) (plain_expr c.in-Write.value) c.in-Write.old) (Err c.in_err-indexes-in-Write.field-0.0) (state_of replies c.indexes-in-Write.new.state) (c.in-Write.is) (plain_form-Write c.in-Write.to c.in-Write.op c.in-Write.common c.in-Write.value c.in-Write.old)
    (write-first context (plain_ty c.args.expr.now.ty) s (plain_location c.in-Write.to) c.in-Write.op (plain_ty c.in-Write.common) (plain_expr c.in-Write.value) c.in-Write.old (λ w. w) c.in_err-indexes-in-Write.field-0.0 (state_of replies c.indexes-in-Write.new.state) c.in_err-indexes-in-Write.ensures))

pub expressions::evaluate-returns-in_err-words-in-Write : goal.expressions::evaluate-returns-in_err-words-in-Write
expressions::evaluate-returns-in_err-words-in-Write t c =
    let context = context_of c.args.context.now in let replies = c.args.context.now.run.now.replies.now in let s = state_of replies c.args.state.now in stop-exit (λ w. w) c.from_residual-in_err-words-in-Write.result c.in_err-words-in-Write.field-0.0 (state_of replies c.evaluate.new.state) _ c.from_residual-in_err-words-in-Write.ensures.1
    (form-of context c.args.expr.now s (Form_variants.Write c.in-Write.to c.in-Write.op c.in-Write.common c.get.result.now c.in-Write.old) (write_form (plain_location c.in-Write.to) c.in-Write.op (plain_ty c.in-Write.common) (plain_expr c.get.result.now) c.in-Write.old) (Err c.in_err-words-in-Write.field-0.0) (state_of replies c.evaluate.new.state) (c.in-Write.is ∙ ap (λ v. Form_variants.Write c.in-Write.to c.in-Write.op c.in-Write.common v c.in-Write.old) (sym c.get.ensures)) (plain_form-Write c.in-Write.to c.in-Write.op c.in-Write.common c.get.result.now c.in-Write.old)
    (write-second context (plain_ty c.args.expr.now.ty) s (plain_location c.in-Write.to) c.in-Write.op (plain_ty c.in-Write.common) (plain_expr c.get.result.now) c.in-Write.old (λ w. w) c.in_err-words-in-Write.field-0.0 (state_of replies c.indexes-in-Write.new.state) (state_of replies c.evaluate.new.state) c.in_ok-indexes-in-Write.indexes c.in_ok-indexes-in-Write.ensures c.in_err-words-in-Write.ensures))

pub expressions::evaluate-returns-in_ok-words-in-Write : goal.expressions::evaluate-returns-in_ok-words-in-Write
expressions::evaluate-returns-in_ok-words-in-Write t c =
    let context = context_of c.args.context.now in let replies = c.args.context.now.run.now.replies.now in let s = state_of replies c.args.state.now in
    form-of context c.args.expr.now s (Form_variants.Write c.in-Write.to c.in-Write.op c.in-Write.common c.get.result.now c.in-Write.old) (write_form (plain_location c.in-Write.to) c.in-Write.op (plain_ty c.in-Write.common) (plain_expr c.get.result.now) c.in-Write.old) c.assign.result (state_of replies c.assign.new.state) (c.in-Write.is ∙ ap (λ v. Form_variants.Write c.in-Write.to c.in-Write.op c.in-Write.common v c.in-Write.old) (sym c.get.ensures)) (plain_form-Write c.in-Write.to c.in-Write.op c.in-Write.common c.get.result.now c.in-Write.old)
    (write-goes context (plain_ty c.args.expr.now.ty) s (plain_location c.in-Write.to) c.in-Write.op (plain_ty c.in-Write.common) (plain_expr c.get.result.now) c.in-Write.old c.assign.result (state_of replies c.indexes-in-Write.new.state) (state_of replies c.evaluate.new.state) (state_of replies c.assign.new.state) c.in_ok-indexes-in-Write.indexes c.in_ok-words-in-Write.words c.in_ok-indexes-in-Write.ensures c.in_ok-words-in-Write.ensures
    (same (λ w. w) c.assign.result (state_of replies c.assign.new.state) _ _ (ap (λ l. assigns context (plain_location c.in-Write.to) c.in-Write.op (plain_ty c.in-Write.common) c.in-Write.old l c.in_ok-words-in-Write.words (state_of replies c.evaluate.new.state)) c.as_slice-in-Write.ensures.value) c.assign.ensures))

pub expressions::evaluate-returns-in_err-words-in-Convert : goal.expressions::evaluate-returns-in_err-words-in-Convert
expressions::evaluate-returns-in_err-words-in-Convert t c =
    let context = context_of c.args.context.now in let replies = c.args.context.now.run.now.replies.now in let s = state_of replies c.args.state.now in stop-exit (λ w. w) c.from_residual-in_err-words-in-Convert.result c.in_err-words-in-Convert.field-0.0 (state_of replies c.evaluate-in-Convert.new.state) _ c.from_residual-in_err-words-in-Convert.ensures.1
    (form-of context c.args.expr.now s (Form_variants.Convert c.get-value.result.now) (convert_form (plain_expr c.get-value.result.now)) (Err c.in_err-words-in-Convert.field-0.0) (state_of replies c.evaluate-in-Convert.new.state) (c.in-Convert.is ∙ ap (λ v. Form_variants.Convert v) (sym c.get-value.ensures)) (plain_form-Convert c.get-value.result.now)
    (one-value-stops context (plain_ty c.args.expr.now.ty) s (λ w. w) c.in_err-words-in-Convert.field-0.0 (state_of replies c.evaluate-in-Convert.new.state) (convert_form (plain_expr c.get-value.result.now)) (plain_expr c.get-value.result.now) refl c.in_err-words-in-Convert.ensures))

pub expressions::evaluate-returns-in_ok-words-in-Convert : goal.expressions::evaluate-returns-in_ok-words-in-Convert
expressions::evaluate-returns-in_ok-words-in-Convert t c =
    let context = context_of c.args.context.now in let replies = c.args.context.now.run.now.replies.now in let s = state_of replies c.args.state.now in form-of context c.args.expr.now s (Form_variants.Convert c.get-value.result.now) (convert_form (plain_expr c.get-value.result.now)) c.or_stop-in-Convert.result (state_of replies c.evaluate-in-Convert.new.state) (c.in-Convert.is ∙ ap (λ v. Form_variants.Convert v) (sym c.get-value.ensures)) (plain_form-Convert c.get-value.result.now)
    (one-value-goes context (plain_ty c.args.expr.now.ty) s c.or_stop-in-Convert.result (state_of replies c.evaluate-in-Convert.new.state) (state_of replies c.evaluate-in-Convert.new.state) (convert_form (plain_expr c.get-value.result.now)) (plain_expr c.get-value.result.now) c.in_ok-words-in-Convert.words refl c.in_ok-words-in-Convert.ensures (c.or_stop-in-Convert.ensures (converted (type_of (plain_expr c.get-value.result.now)) (plain_ty c.args.expr.now.ty) c.in_ok-words-in-Convert.words) (state_of replies c.evaluate-in-Convert.new.state)
    (IfOk-weaker c.convert.result _ _ (λ w k. k ∙ (ap (λ l. converted (plain_ty c.get-value.result.now.ty) (plain_ty c.args.expr.now.ty) l) c.as_slice-in-Convert.ensures.value ∙ ap (λ y. converted y (plain_ty c.args.expr.now.ty) c.in_ok-words-in-Convert.words) (sym (type-of c.get-value.result.now)))) c.convert.ensures)))

pub expressions::evaluate-returns-in_err-words-in-Unary : goal.expressions::evaluate-returns-in_err-words-in-Unary
expressions::evaluate-returns-in_err-words-in-Unary t c =
    let context = context_of c.args.context.now in let replies = c.args.context.now.run.now.replies.now in let s = state_of replies c.args.state.now in stop-exit (λ w. w) c.from_residual-in_err-words-in-Unary.result c.in_err-words-in-Unary.field-0.0 (state_of replies c.evaluate-in-Unary.new.state) _ c.from_residual-in_err-words-in-Unary.ensures.1
    (form-of context c.args.expr.now s (Form_variants.Unary c.in-Unary.op c.get-in-Unary.result.now) (unary_form c.in-Unary.op (plain_expr c.get-in-Unary.result.now)) (Err c.in_err-words-in-Unary.field-0.0) (state_of replies c.evaluate-in-Unary.new.state) (c.in-Unary.is ∙ ap (λ v. Form_variants.Unary c.in-Unary.op v) (sym c.get-in-Unary.ensures)) (plain_form-Unary c.in-Unary.op c.get-in-Unary.result.now)
    (one-value-stops context (plain_ty c.args.expr.now.ty) s (λ w. w) c.in_err-words-in-Unary.field-0.0 (state_of replies c.evaluate-in-Unary.new.state) (unary_form c.in-Unary.op (plain_expr c.get-in-Unary.result.now)) (plain_expr c.get-in-Unary.result.now) refl c.in_err-words-in-Unary.ensures))

pub expressions::evaluate-returns-in_ok-words-in-Unary : goal.expressions::evaluate-returns-in_ok-words-in-Unary
expressions::evaluate-returns-in_ok-words-in-Unary t c =
    let context = context_of c.args.context.now in let replies = c.args.context.now.run.now.replies.now in let s = state_of replies c.args.state.now in form-of context c.args.expr.now s (Form_variants.Unary c.in-Unary.op c.get-in-Unary.result.now) (unary_form c.in-Unary.op (plain_expr c.get-in-Unary.result.now)) c.or_stop-in-Unary.result (state_of replies c.evaluate-in-Unary.new.state) (c.in-Unary.is ∙ ap (λ v. Form_variants.Unary c.in-Unary.op v) (sym c.get-in-Unary.ensures)) (plain_form-Unary c.in-Unary.op c.get-in-Unary.result.now)
    (one-value-goes context (plain_ty c.args.expr.now.ty) s c.or_stop-in-Unary.result (state_of replies c.evaluate-in-Unary.new.state) (state_of replies c.evaluate-in-Unary.new.state) (unary_form c.in-Unary.op (plain_expr c.get-in-Unary.result.now)) (plain_expr c.get-in-Unary.result.now) c.in_ok-words-in-Unary.words refl c.in_ok-words-in-Unary.ensures (c.or_stop-in-Unary.ensures (map (unary_word c.in-Unary.op) c.in_ok-words-in-Unary.words) (state_of replies c.evaluate-in-Unary.new.state)
    (IfOk-weaker c.unary_words.result _ _ (λ w k. k ∙ (ap (λ l. map (unary_word c.in-Unary.op) l) c.as_slice-in-Unary.ensures.value)) c.unary_words.ensures)))

pub expressions::evaluate-returns-in-Binary : goal.expressions::evaluate-returns-in-Binary
expressions::evaluate-returns-in-Binary t c =
    let context = context_of c.args.context.now in let replies = c.args.context.now.run.now.replies.now in let s = state_of replies c.args.state.now in
    form-of context c.args.expr.now s (Form_variants.Binary c.in-Binary.op c.get-in-Binary.result.now c.get-in-Binary-2.result.now) (binary_form c.in-Binary.op (plain_expr c.get-in-Binary.result.now) (plain_expr c.get-in-Binary-2.result.now)) c.evaluate_binary.result (state_of replies c.evaluate_binary.new.state) (c.in-Binary.is ∙ (ap (λ v. Form_variants.Binary c.in-Binary.op v c.in-Binary.right) (sym c.get-in-Binary.ensures) ∙ ap (λ v. Form_variants.Binary c.in-Binary.op c.get-in-Binary.result.now v) (sym c.get-in-Binary-2.ensures))) (plain_form-Binary c.in-Binary.op c.get-in-Binary.result.now c.get-in-Binary-2.result.now)
    (c.evaluate_binary.ensures (plain_ty c.args.expr.now.ty))

pub expressions::evaluate-returns-in-Choose : goal.expressions::evaluate-returns-in-Choose
expressions::evaluate-returns-in-Choose t c =
    let context = context_of c.args.context.now in let replies = c.args.context.now.run.now.replies.now in let s = state_of replies c.args.state.now in
    form-of context c.args.expr.now s (Form_variants.Choose c.get-in-Choose.result.now c.get-in-Choose-2.result.now c.get-in-Choose-3.result.now) (choose_form (plain_expr c.get-in-Choose.result.now) (plain_expr c.get-in-Choose-2.result.now) (plain_expr c.get-in-Choose-3.result.now)) c.evaluate_choice.result (state_of replies c.evaluate_choice.new.state) (c.in-Choose.is ∙ (ap (λ v. Form_variants.Choose v c.in-Choose.yes c.in-Choose.no) (sym c.get-in-Choose.ensures) ∙ (ap (λ v. Form_variants.Choose c.get-in-Choose.result.now v c.in-Choose.no) (sym c.get-in-Choose-2.ensures) ∙ ap (λ v. Form_variants.Choose c.get-in-Choose.result.now c.get-in-Choose-2.result.now v) (sym c.get-in-Choose-3.ensures)))) (plain_form-Choose c.get-in-Choose.result.now c.get-in-Choose-2.result.now c.get-in-Choose-3.result.now)
    (c.evaluate_choice.ensures (plain_ty c.args.expr.now.ty))

pub expressions::evaluate-returns-in_err-values-in-Build : goal.expressions::evaluate-returns-in_err-values-in-Build
expressions::evaluate-returns-in_err-values-in-Build t c =
    let context = context_of c.args.context.now in let replies = c.args.context.now.run.now.replies.now in let s = state_of replies c.args.state.now in stop-exit (λ w. w) c.from_residual-in_err-values-in-Build.result c.in_err-values-in-Build.field-0.0 (state_of replies c.values.new.state) _ c.from_residual-in_err-values-in-Build.ensures.1
    (form-of context c.args.expr.now s (Form_variants.Build c.in-Build.parts) (build_form (plain_exprs c.in-Build.parts)) (Err c.in_err-values-in-Build.field-0.0) (state_of replies c.values.new.state) (c.in-Build.is) (plain_form-Build c.in-Build.parts) (several-stops context (plain_ty c.args.expr.now.ty) s (λ l. l) c.in_err-values-in-Build.field-0.0 (state_of replies c.values.new.state) (build_form (plain_exprs c.in-Build.parts)) (values context (plain_exprs c.in-Build.parts) s) refl c.in_err-values-in-Build.ensures))

pub expressions::evaluate-returns-in_ok-values-in-Build : goal.expressions::evaluate-returns-in_ok-values-in-Build
expressions::evaluate-returns-in_ok-values-in-Build t c =
    let context = context_of c.args.context.now in let replies = c.args.context.now.run.now.replies.now in let s = state_of replies c.args.state.now in form-of context c.args.expr.now s (Form_variants.Build c.in-Build.parts) (build_form (plain_exprs c.in-Build.parts)) c.or_stop-in-Build.result (state_of replies c.values.new.state) (c.in-Build.is) (plain_form-Build c.in-Build.parts)
    (several-goes context (plain_ty c.args.expr.now.ty) s c.or_stop-in-Build.result (state_of replies c.values.new.state) (state_of replies c.values.new.state) (build_form (plain_exprs c.in-Build.parts)) (values context (plain_exprs c.in-Build.parts) s) c.in_ok-values-in-Build.values refl c.in_ok-values-in-Build.ensures (c.or_stop-in-Build.ensures (concat c.in_ok-values-in-Build.values) (state_of replies c.values.new.state) (IfOk-weaker c.concatenate.result _ _ (λ w k. k ∙ ap concat c.as_slice-in-Build.ensures.value) c.concatenate.ensures)))

pub expressions::evaluate-returns-in_err-words-in-Pick : goal.expressions::evaluate-returns-in_err-words-in-Pick
expressions::evaluate-returns-in_err-words-in-Pick t c =
    let context = context_of c.args.context.now in let replies = c.args.context.now.run.now.replies.now in let s = state_of replies c.args.state.now in stop-exit (λ w. w) c.from_residual-in_err-words-in-Pick.result c.in_err-words-in-Pick.field-0.0 (state_of replies c.evaluate-in-Pick.new.state) _ c.from_residual-in_err-words-in-Pick.ensures.1
    (form-of context c.args.expr.now s (Form_variants.Pick c.get-value-in-Pick.result.now c.in-Pick.parts) (pick_form (plain_expr c.get-value-in-Pick.result.now) (plain_parts c.in-Pick.parts)) (Err c.in_err-words-in-Pick.field-0.0) (state_of replies c.evaluate-in-Pick.new.state) (c.in-Pick.is ∙ ap (λ v. Form_variants.Pick v c.in-Pick.parts) (sym c.get-value-in-Pick.ensures)) (plain_form-Pick c.get-value-in-Pick.result.now c.in-Pick.parts)
    (one-value-stops context (plain_ty c.args.expr.now.ty) s (λ w. w) c.in_err-words-in-Pick.field-0.0 (state_of replies c.evaluate-in-Pick.new.state) (pick_form (plain_expr c.get-value-in-Pick.result.now) (plain_parts c.in-Pick.parts)) (plain_expr c.get-value-in-Pick.result.now) refl c.in_err-words-in-Pick.ensures))

pub expressions::evaluate-returns-in_ok-words-in-Pick : goal.expressions::evaluate-returns-in_ok-words-in-Pick
expressions::evaluate-returns-in_ok-words-in-Pick t c =
    let context = context_of c.args.context.now in let replies = c.args.context.now.run.now.replies.now in let s = state_of replies c.args.state.now in
    form-of context c.args.expr.now s (Form_variants.Pick c.get-value-in-Pick.result.now c.in-Pick.parts) (pick_form (plain_expr c.get-value-in-Pick.result.now) (plain_parts c.in-Pick.parts)) c.or_stop-in-Pick.result (state_of replies c.evaluate-in-Pick.new.state) (c.in-Pick.is ∙ ap (λ v. Form_variants.Pick v c.in-Pick.parts) (sym c.get-value-in-Pick.ensures)) (plain_form-Pick c.get-value-in-Pick.result.now c.in-Pick.parts)
    (one-value-goes context (plain_ty c.args.expr.now.ty) s c.or_stop-in-Pick.result (state_of replies c.evaluate-in-Pick.new.state) (state_of replies c.evaluate-in-Pick.new.state) (pick_form (plain_expr c.get-value-in-Pick.result.now) (plain_parts c.in-Pick.parts)) (plain_expr c.get-value-in-Pick.result.now) c.in_ok-words-in-Pick.words refl c.in_ok-words-in-Pick.ensures
    (c.or_stop-in-Pick.ensures (picked_words context.scope.structs (type_of (plain_expr c.get-value-in-Pick.result.now)) (plain_parts c.in-Pick.parts) c.in_ok-words-in-Pick.words) (state_of replies c.evaluate-in-Pick.new.state)
    (IfOk-weaker c.picked_words.result _ _ (λ w k. k ∙ (ap (λ l. picked_words context.scope.structs (plain_ty c.get-value-in-Pick.result.now.ty) (plain_parts l) c.as_slice-in-Pick-2.result.now) c.as_slice-in-Pick.ensures ∙ (ap (λ l. picked_words context.scope.structs (plain_ty c.get-value-in-Pick.result.now.ty) (plain_parts c.in-Pick.parts) l) c.as_slice-in-Pick-2.ensures.value ∙ ap (λ y. picked_words context.scope.structs y (plain_parts c.in-Pick.parts) c.in_ok-words-in-Pick.words) (sym (type-of c.get-value-in-Pick.result.now))))) c.picked_words.ensures)))

pub expressions::evaluate-returns-in-Call : goal.expressions::evaluate-returns-in-Call
expressions::evaluate-returns-in-Call t c =
    let context = context_of c.args.context.now in let replies = c.args.context.now.run.now.replies.now in let s = state_of replies c.args.state.now in form-of context c.args.expr.now s (Form_variants.Call c.in-Call.function c.in-Call.args) (call_form c.in-Call.function (plain_args c.in-Call.args)) c.call_function.result (state_of replies c.call_function.new.state) (c.in-Call.is) (plain_form-Call c.in-Call.function c.in-Call.args) (c.call_function.ensures (plain_ty c.args.expr.now.ty))

pub expressions::evaluate-returns-in_err-values-in-Intrinsic : goal.expressions::evaluate-returns-in_err-values-in-Intrinsic
expressions::evaluate-returns-in_err-values-in-Intrinsic t c =
    let context = context_of c.args.context.now in let replies = c.args.context.now.run.now.replies.now in let s = state_of replies c.args.state.now in stop-exit (λ w. w) c.from_residual-in_err-values-in-Intrinsic.result c.in_err-values-in-Intrinsic.field-0.0 (state_of replies c.values-in-Intrinsic.new.state) _ c.from_residual-in_err-values-in-Intrinsic.ensures.1
    (form-of context c.args.expr.now s (Form_variants.Intrinsic c.in-Intrinsic.number c.in-Intrinsic.args) (intrinsic_form c.in-Intrinsic.number (plain_exprs c.in-Intrinsic.args)) (Err c.in_err-values-in-Intrinsic.field-0.0) (state_of replies c.values-in-Intrinsic.new.state) (c.in-Intrinsic.is) (plain_form-Intrinsic c.in-Intrinsic.number c.in-Intrinsic.args)
    (several-stops context (plain_ty c.args.expr.now.ty) s (λ l. l) c.in_err-values-in-Intrinsic.field-0.0 (state_of replies c.values-in-Intrinsic.new.state) (intrinsic_form c.in-Intrinsic.number (plain_exprs c.in-Intrinsic.args)) (values context (plain_exprs c.in-Intrinsic.args) s) refl c.in_err-values-in-Intrinsic.ensures))

pub expressions::evaluate-returns-in_ok-values-in-Intrinsic : goal.expressions::evaluate-returns-in_ok-values-in-Intrinsic
expressions::evaluate-returns-in_ok-values-in-Intrinsic t c =
    let context = context_of c.args.context.now in let replies = c.args.context.now.run.now.replies.now in let s = state_of replies c.args.state.now in form-of context c.args.expr.now s (Form_variants.Intrinsic c.in-Intrinsic.number c.in-Intrinsic.args) (intrinsic_form c.in-Intrinsic.number (plain_exprs c.in-Intrinsic.args)) c.call_intrinsic.result (state_of replies c.call_intrinsic.new.state) (c.in-Intrinsic.is) (plain_form-Intrinsic c.in-Intrinsic.number c.in-Intrinsic.args)
    (several-goes context (plain_ty c.args.expr.now.ty) s c.call_intrinsic.result (state_of replies c.values-in-Intrinsic.new.state) (state_of replies c.call_intrinsic.new.state) (intrinsic_form c.in-Intrinsic.number (plain_exprs c.in-Intrinsic.args)) (values context (plain_exprs c.in-Intrinsic.args) s) c.in_ok-values-in-Intrinsic.values refl c.in_ok-values-in-Intrinsic.ensures
    (same (λ w. w) c.call_intrinsic.result (state_of replies c.call_intrinsic.new.state) _ _ (worked-same (run_context c.args.context.now.run.now) context (work_of c.in-Intrinsic.number) (plain_ty c.args.expr.now.ty) c.as_slice-in-Intrinsic.result.now (state_of replies c.values-in-Intrinsic.new.state) refl ∙ ap (λ l. worked context (work_of c.in-Intrinsic.number) (plain_ty c.args.expr.now.ty) l (state_of replies c.values-in-Intrinsic.new.state)) c.as_slice-in-Intrinsic.ensures.value) c.call_intrinsic.ensures))

pub expressions::evaluate-returns-in-Method : goal.expressions::evaluate-returns-in-Method
expressions::evaluate-returns-in-Method t c =
    let context = context_of c.args.context.now in let replies = c.args.context.now.run.now.replies.now in let s = state_of replies c.args.state.now in
    form-of context c.args.expr.now s (Form_variants.Method c.in-Method.resource c.in-Method.count c.get-in-Method.result.now c.in-Method.value) (method_form c.in-Method.resource c.in-Method.count (plain_expr c.get-in-Method.result.now) (plain_maybe_expr c.in-Method.value)) c.call_method.result (state_of replies c.call_method.new.state) (c.in-Method.is ∙ ap (λ v. Form_variants.Method c.in-Method.resource c.in-Method.count v c.in-Method.value) (sym c.get-in-Method.ensures)) (plain_form-Method c.in-Method.resource c.in-Method.count c.get-in-Method.result.now c.in-Method.value)
    (c.call_method.ensures (plain_ty c.args.expr.now.ty))

pub expressions::evaluate-returns-in-Atomic : goal.expressions::evaluate-returns-in-Atomic
expressions::evaluate-returns-in-Atomic t c =
    let context = context_of c.args.context.now in let replies = c.args.context.now.run.now.replies.now in let s = state_of replies c.args.state.now in
    form-of context c.args.expr.now s (Form_variants.Atomic c.in-Atomic.target c.in-Atomic.kind c.in-Atomic.compare c.get-in-Atomic.result.now c.in-Atomic.original) (atomic_form (plain_target c.in-Atomic.target) c.in-Atomic.kind (plain_maybe_expr c.in-Atomic.compare) (plain_expr c.get-in-Atomic.result.now) (plain_maybe_location c.in-Atomic.original)) c.evaluate_atomic.result (state_of replies c.evaluate_atomic.new.state) (c.in-Atomic.is ∙ ap (λ v. Form_variants.Atomic c.in-Atomic.target c.in-Atomic.kind c.in-Atomic.compare v c.in-Atomic.original) (sym c.get-in-Atomic.ensures)) (plain_form-Atomic c.in-Atomic.target c.in-Atomic.kind c.in-Atomic.compare c.get-in-Atomic.result.now c.in-Atomic.original)
    (c.evaluate_atomic.ensures (plain_ty c.args.expr.now.ty))

pub expressions::evaluate_binary-returns-in_err-words : goal.expressions::evaluate_binary-returns-in_err-words
expressions::evaluate_binary-returns-in_err-words t c =
    let context = context_of c.args.context.now in let replies = c.args.context.now.run.now.replies.now in let s = state_of replies c.args.state.now in λ ty. stop-exit (λ w. w) c.from_residual.result c.in_err-words.field-0.0 (state_of replies c.evaluate.new.state) _ c.from_residual.ensures.1 (binary-left context ty s c.args.op (plain_expr c.args.left.now) (plain_expr c.args.right.now) (λ w. w) c.in_err-words.field-0.0 (state_of replies c.evaluate.new.state) c.in_err-words.ensures)

pub expressions::evaluate_binary-returns-in_err-others : goal.expressions::evaluate_binary-returns-in_err-others
expressions::evaluate_binary-returns-in_err-others t c =
    let context = context_of c.args.context.now in let replies = c.args.context.now.run.now.replies.now in let s = state_of replies c.args.state.now in λ ty. stop-exit (λ w. w) c.from_residual-in_err-others.result c.in_err-others.field-0.0 (state_of replies c.evaluate-2.new.state) _ c.from_residual-in_err-others.ensures.1
    (binary-right context ty s c.args.op (plain_expr c.args.left.now) (plain_expr c.args.right.now) (λ w. w) c.in_err-others.field-0.0 (state_of replies c.evaluate.new.state) (state_of replies c.evaluate-2.new.state) c.in_ok-words.words c.in_ok-words.ensures c.in_err-others.ensures)

pub expressions::evaluate_binary-returns : goal.expressions::evaluate_binary-returns
expressions::evaluate_binary-returns t c =
    let context = context_of c.args.context.now in let replies = c.args.context.now.run.now.replies.now in let s = state_of replies c.args.state.now in λ ty. binary-goes context ty s c.args.op (plain_expr c.args.left.now) (plain_expr c.args.right.now) c.binary_words.result (state_of replies c.evaluate.new.state) (state_of replies c.evaluate-2.new.state) (state_of replies c.evaluate-2.new.state) c.in_ok-words.words c.in_ok-others.others c.in_ok-words.ensures c.in_ok-others.ensures
    (same (λ w. w) c.binary_words.result (state_of replies c.evaluate-2.new.state) _ _ (ap (λ k. gives (binary_words c.args.op k c.as_slice.result.now c.as_slice-2.result.now) (state_of replies c.evaluate-2.new.state)) c.component_kind.ensures ∙ (ap (λ l. gives (binary_words c.args.op (component_kind (plain_ty c.args.left.now.ty)) l c.as_slice-2.result.now) (state_of replies c.evaluate-2.new.state)) c.as_slice.ensures.value ∙
    (ap (λ l. gives (binary_words c.args.op (component_kind (plain_ty c.args.left.now.ty)) c.in_ok-words.words l) (state_of replies c.evaluate-2.new.state)) c.as_slice-2.ensures.value ∙ binary-acts context ty (state_of replies c.evaluate-2.new.state) c.args.op c.args.left.now (plain_expr c.args.right.now) c.in_ok-words.words c.in_ok-others.others))) (c.binary_words.ensures (state_of replies c.evaluate-2.new.state)))

pub expressions::evaluate_choice-returns-in_err-truths : goal.expressions::evaluate_choice-returns-in_err-truths
expressions::evaluate_choice-returns-in_err-truths t c =
    let context = context_of c.args.context.now in let replies = c.args.context.now.run.now.replies.now in let s = state_of replies c.args.state.now in λ ty. stop-exit (λ w. w) c.from_residual.result c.in_err-truths.field-0.0 (state_of replies c.evaluate.new.state) _ c.from_residual.ensures.1 (choose-first context ty s (plain_expr c.args.cond.now) (plain_expr c.args.consequent.now) (plain_expr c.args.alternative.now) (λ w. w) c.in_err-truths.field-0.0 (state_of replies c.evaluate.new.state) c.in_err-truths.ensures)

pub expressions::evaluate_choice-returns-in_err-words : goal.expressions::evaluate_choice-returns-in_err-words
expressions::evaluate_choice-returns-in_err-words t c =
    let context = context_of c.args.context.now in let replies = c.args.context.now.run.now.replies.now in let s = state_of replies c.args.state.now in λ ty. stop-exit (λ w. w) c.from_residual-in_err-words.result c.in_err-words.field-0.0 (state_of replies c.evaluate-2.new.state) _ c.from_residual-in_err-words.ensures.1
    (choose-second context ty s (plain_expr c.args.cond.now) (plain_expr c.args.consequent.now) (plain_expr c.args.alternative.now) (λ w. w) c.in_err-words.field-0.0 (state_of replies c.evaluate.new.state) (state_of replies c.evaluate-2.new.state) c.in_ok-truths.truths c.in_ok-truths.ensures c.in_err-words.ensures)

pub expressions::evaluate_choice-returns-in_err-others : goal.expressions::evaluate_choice-returns-in_err-others
expressions::evaluate_choice-returns-in_err-others t c =
    let context = context_of c.args.context.now in let replies = c.args.context.now.run.now.replies.now in let s = state_of replies c.args.state.now in λ ty. stop-exit (λ w. w) c.from_residual-in_err-others.result c.in_err-others.field-0.0 (state_of replies c.evaluate-3.new.state) _ c.from_residual-in_err-others.ensures.1
    (choose-third context ty s (plain_expr c.args.cond.now) (plain_expr c.args.consequent.now) (plain_expr c.args.alternative.now) (λ w. w) c.in_err-others.field-0.0 (state_of replies c.evaluate.new.state) (state_of replies c.evaluate-2.new.state) (state_of replies c.evaluate-3.new.state) c.in_ok-truths.truths c.in_ok-words.words c.in_ok-truths.ensures c.in_ok-words.ensures c.in_err-others.ensures)

pub expressions::evaluate_choice-returns : goal.expressions::evaluate_choice-returns
expressions::evaluate_choice-returns t c =
    let context = context_of c.args.context.now in let replies = c.args.context.now.run.now.replies.now in let s = state_of replies c.args.state.now in
    λ ty. choose-goes context ty s (plain_expr c.args.cond.now) (plain_expr c.args.consequent.now) (plain_expr c.args.alternative.now) c.or_stop.result (state_of replies c.evaluate.new.state) (state_of replies c.evaluate-2.new.state) (state_of replies c.evaluate-3.new.state) (state_of replies c.evaluate-3.new.state) c.in_ok-truths.truths c.in_ok-words.words c.in_ok-others.others c.in_ok-truths.ensures c.in_ok-words.ensures c.in_ok-others.ensures
    (c.or_stop.ensures (map_3 chosen_word c.in_ok-truths.truths c.in_ok-words.words c.in_ok-others.others) (state_of replies c.evaluate-3.new.state) (IfOk-weaker c.chosen_words.result _ _ (λ w k. k ∙ (ap (λ l. map_3 chosen_word l c.as_slice-2.result.now c.as_slice-3.result.now) c.as_slice.ensures.value ∙ (ap (λ l. map_3 chosen_word c.in_ok-truths.truths l c.as_slice-3.result.now) c.as_slice-2.ensures.value ∙ ap (λ l. map_3 chosen_word c.in_ok-truths.truths c.in_ok-words.words l) c.as_slice-3.ensures.value))) c.chosen_words.ensures))

pub expressions::indexes-returns-in_err-indexes : goal.expressions::indexes-returns-in_err-indexes
expressions::indexes-returns-in_err-indexes t c =
    let context = context_of c.args.context.now in let replies = c.args.context.now.run.now.replies.now in let s = state_of replies c.args.state.now in stop-exit (λ w. w) c.from_residual.result c.in_err-indexes.field-0.0 (state_of replies c.root_index.new.state) _ c.from_residual.ensures.1 (place-root-stops context c.args.place.now s (λ w. w) (λ w. w) c.in_err-indexes.field-0.0 (state_of replies c.root_index.new.state) c.in_err-indexes.ensures)

pub expressions::indexes-loop-part-init : goal.expressions::indexes-loop-part-init
expressions::indexes-loop-part-init t c =
    let context = context_of c.args.context.now in let replies = c.args.context.now.run.now.replies.now in let s = state_of replies c.args.state.now in place-root context c.args.place.now s (state_of replies c.root_index.new.state) c.in_ok-indexes.indexes c.in_ok-indexes.ensures ∙ ap (λ l. behind c.in_ok-indexes.indexes (step_indexes context (plain_parts l) (state_of replies c.root_index.new.state))) (sym c.as_slice-part-items.ensures)

pub expressions::indexes-returns-in_err-words : goal.expressions::indexes-returns-in_err-words
expressions::indexes-returns-in_err-words t c =
    let context = context_of c.args.context.now in let replies = c.args.context.now.run.now.replies.now in let s = state_of replies c.args.state.now in stop-exit (λ w. w) c.from_residual-in_err-words.result c.in_err-words.field-0.0 (state_of replies c.step_index.new.state) _ c.from_residual-in_err-words.ensures.1
    (steps-stop context c.as_slice-part-items.result.now c.loop-part.part-index c.part-item.result c.loop-part.indexes (state_of replies c.loop-part.state) (indexes context (plain_location c.args.place.now) s) (drop-next c.as_slice-part-items.result.now c.loop-part.part-index c.part-item.result (search rules) c.part-item.is) c.loop-part.invariant (λ w. w) (λ w. w) c.in_err-words.field-0.0 (state_of replies c.step_index.new.state) c.in_err-words.ensures)

pub expressions::indexes-returns-in_err-extend_from_slice : goal.expressions::indexes-returns-in_err-extend_from_slice
expressions::indexes-returns-in_err-extend_from_slice t c =
    memory-exit (λ w. w) c.from_residual-in_err-extend_from_slice.result _ _ c.from_residual-in_err-extend_from_slice.ensures.1

pub expressions::indexes-loop-part-preserved : goal.expressions::indexes-loop-part-preserved
expressions::indexes-loop-part-preserved t c =
    let context = context_of c.args.context.now in let replies = c.args.context.now.run.now.replies.now in let s = state_of replies c.args.state.now in
    steps-next context c.as_slice-part-items.result.now c.loop-part.part-index c.part-item.result c.loop-part.indexes (state_of replies c.loop-part.state) (indexes context (plain_location c.args.place.now) s) (drop-next c.as_slice-part-items.result.now c.loop-part.part-index c.part-item.result (search rules) c.part-item.is) c.loop-part.invariant (state_of replies c.step_index.new.state) c.in_ok-words.words c.in_ok-words.ensures ∙
    ap (λ l. behind l (step_indexes context (plain_parts (drop (c.loop-part.part-index + 1) c.as_slice-part-items.result.now)) (state_of replies c.step_index.new.state))) (ap (λ l. c.loop-part.indexes ++ l) (sym c.as_slice.ensures.value) ∙ sym c.in_ok-extend_from_slice.ensures.ok)

pub expressions::indexes-returns : goal.expressions::indexes-returns
expressions::indexes-returns t c =
    let context = context_of c.args.context.now in let replies = c.args.context.now.run.now.replies.now in c.loop-part.invariant ∙ (ap (λ l. behind c.loop-part.indexes (step_indexes context (plain_parts l) (state_of replies c.loop-part.state))) (drop_all c.loop-part.part-index c.as_slice-part-items.result.now (omega arith)) ∙ behind-end c.loop-part.indexes (state_of replies c.loop-part.state))

pub expressions::step_index-returns-in-Index : goal.expressions::step_index-returns-in-Index
expressions::step_index-returns-in-Index t c =
    let context = context_of c.args.context.now in let replies = c.args.context.now.run.now.replies.now in let s = state_of replies c.args.state.now in same (λ w. w) c.evaluate.result (state_of replies c.evaluate.new.state) _ _ (ap (λ p. step_index context p s) (sym (ap plain_part (c.in-Index.is ∙ ap PathPart_variants.Index (sym c.get.ensures)) ∙ plain_part-Index c.get.result.now))) c.evaluate.ensures

pub expressions::step_index-returns-in-Member : goal.expressions::step_index-returns-in-Member
expressions::step_index-returns-in-Member t c =
    let context = context_of c.args.context.now in let replies = c.args.context.now.run.now.replies.now in let s = state_of replies c.args.state.now in no-step_index context c.args.part.now s c.in-Member.is ∙ ap (λ w. goes_with w s) (sym c.new.ensures)

pub expressions::root_index-returns-in-Element : goal.expressions::root_index-returns-in-Element
expressions::root_index-returns-in-Element t c =
    let context = context_of c.args.context.now in let replies = c.args.context.now.run.now.replies.now in let s = state_of replies c.args.state.now in same (λ w. w) c.evaluate.result (state_of replies c.evaluate.new.state) _ _ (ap (λ p. root_index context p s) (sym (ap plain_root (c.in-Element.is ∙ ap (λ v. Root_variants.Element c.in-Element.resource v) (sym c.get.ensures)) ∙ plain_root-Element c.in-Element.resource c.get.result.now))) c.evaluate.ensures

pub expressions::root_index-returns-in-Variable : goal.expressions::root_index-returns-in-Variable
expressions::root_index-returns-in-Variable t c =
    let context = context_of c.args.context.now in let replies = c.args.context.now.run.now.replies.now in let s = state_of replies c.args.state.now in no-root_index context c.args.root.now s c.in-Variable.is ∙ ap (λ w. goes_with w s) (sym c.new.ensures)

pub expressions::values-loop-expr-init : goal.expressions::values-loop-expr-init
expressions::values-loop-expr-init t c =
    let context = context_of c.args.context.now in let replies = c.args.context.now.run.now.replies.now in let s = state_of replies c.args.state.now in behind-none (values context (plain_exprs c.args.exprs.now) s) ∙ (ap (λ l. behind l (values context (plain_exprs c.args.exprs.now) s)) (sym c.new-values.ensures) ∙ ap (λ l. behind c.new-values.result (values context (plain_exprs l) s)) (sym c.as_slice-expr-items.ensures))

pub expressions::values-returns-in_err-words : goal.expressions::values-returns-in_err-words
expressions::values-returns-in_err-words t c =
    let context = context_of c.args.context.now in let replies = c.args.context.now.run.now.replies.now in let s = state_of replies c.args.state.now in stop-exit (λ l. l) c.from_residual.result c.in_err-words.field-0.0 (state_of replies c.evaluate.new.state) _ c.from_residual.ensures.1
    (values-stop context c.as_slice-expr-items.result.now c.loop-expr.expr-index c.expr-item.result c.loop-expr.values (state_of replies c.loop-expr.state) (values context (plain_exprs c.args.exprs.now) s) (drop-next c.as_slice-expr-items.result.now c.loop-expr.expr-index c.expr-item.result (search rules) c.expr-item.is) c.loop-expr.invariant (λ w. w) (λ l. l) c.in_err-words.field-0.0 (state_of replies c.evaluate.new.state) c.in_err-words.ensures)

pub expressions::values-returns-in_err-push : goal.expressions::values-returns-in_err-push
expressions::values-returns-in_err-push t c =
    memory-exit (λ l. l) c.from_residual-in_err-push.result _ _ c.from_residual-in_err-push.ensures.1

pub expressions::values-loop-expr-preserved : goal.expressions::values-loop-expr-preserved
expressions::values-loop-expr-preserved t c =
    let context = context_of c.args.context.now in let replies = c.args.context.now.run.now.replies.now in let s = state_of replies c.args.state.now in
    values-next context c.as_slice-expr-items.result.now c.loop-expr.expr-index c.expr-item.result c.loop-expr.values (state_of replies c.loop-expr.state) (values context (plain_exprs c.args.exprs.now) s) (drop-next c.as_slice-expr-items.result.now c.loop-expr.expr-index c.expr-item.result (search rules) c.expr-item.is) c.loop-expr.invariant (state_of replies c.evaluate.new.state) c.in_ok-words.words c.in_ok-words.ensures ∙
    ap (λ l. behind l (values context (plain_exprs (drop (c.loop-expr.expr-index + 1) c.as_slice-expr-items.result.now)) (state_of replies c.evaluate.new.state))) (sym c.in_ok-push.ensures.ok)

pub expressions::values-returns : goal.expressions::values-returns
expressions::values-returns t c =
    let context = context_of c.args.context.now in let replies = c.args.context.now.run.now.replies.now in c.loop-expr.invariant ∙ (ap (λ l. behind c.loop-expr.values (values context (plain_exprs l) (state_of replies c.loop-expr.state))) (drop_all c.loop-expr.expr-index c.as_slice-expr-items.result.now (omega arith)) ∙ behind-end c.loop-expr.values (state_of replies c.loop-expr.state))

pub expressions::call_method-returns-in_err-at : goal.expressions::call_method-returns-in_err-at
expressions::call_method-returns-in_err-at t c =
    let context = context_of c.args.context.now in let replies = c.args.context.now.run.now.replies.now in let s = state_of replies c.args.state.now in λ ty. stop-exit (λ w. w) c.from_residual.result c.in_err-at.field-0.0 (state_of replies c.evaluate.new.state) _ c.from_residual.ensures.1 (load-first context ty s c.args.resource c.args.count (plain_expr c.args.address.now) (λ w. w) c.in_err-at.field-0.0 (state_of replies c.evaluate.new.state) c.in_err-at.ensures (plain_maybe_expr c.args.value.now))

pub expressions::call_method-returns-in-None : goal.expressions::call_method-returns-in-None
expressions::call_method-returns-in-None t c =
    let context = context_of c.args.context.now in let replies = c.args.context.now.run.now.replies.now in let s = state_of replies c.args.state.now in λ ty. same (λ w. w) c.load_method.result (state_of replies c.load_method.new.state) _ _ (ap (λ v. form_value context ty (method_form c.args.resource c.args.count (plain_expr c.args.address.now) (plain_maybe_expr v)) s) (sym c.in-None.is))
    (load-goes context ty s c.args.resource c.args.count (plain_expr c.args.address.now) c.load_method.result (state_of replies c.evaluate.new.state) (state_of replies c.load_method.new.state) c.in_ok-at.at c.in_ok-at.ensures (same (λ w. w) c.load_method.result (state_of replies c.load_method.new.state) _ _ (ap (λ l. after (load_four (slot_of context c.args.resource) (slice_index l 0) 0 (state_of replies c.evaluate.new.state)) (λ words s. goes_with (take c.args.count words) s)) c.as_slice.ensures.value) c.load_method.ensures))

pub expressions::call_method-returns-in_err-words-in-Some : goal.expressions::call_method-returns-in_err-words-in-Some
expressions::call_method-returns-in_err-words-in-Some t c =
    let context = context_of c.args.context.now in let replies = c.args.context.now.run.now.replies.now in let s = state_of replies c.args.state.now in λ ty. stop-exit (λ w. w) c.from_residual-in_err-words-in-Some.result c.in_err-words-in-Some.field-0.0 (state_of replies c.evaluate-in-Some.new.state) _ c.from_residual-in_err-words-in-Some.ensures.1
    (same (λ w. w) (Err c.in_err-words-in-Some.field-0.0) (state_of replies c.evaluate-in-Some.new.state) _ _ (ap (λ v. form_value context ty (method_form c.args.resource c.args.count (plain_expr c.args.address.now) (plain_maybe_expr v)) s) (ap Some c.get.ensures ∙ sym c.in-Some.is))
    (store-second context ty s c.args.resource c.args.count (plain_expr c.args.address.now) (λ w. w) c.in_err-words-in-Some.field-0.0 (state_of replies c.evaluate.new.state) (state_of replies c.evaluate-in-Some.new.state) (plain_expr c.get.result.now) c.in_ok-at.at c.in_ok-at.ensures c.in_err-words-in-Some.ensures))

pub expressions::evaluate_atomic-returns-in_err-at : goal.expressions::evaluate_atomic-returns-in_err-at
expressions::evaluate_atomic-returns-in_err-at t c =
    let context = context_of c.args.context.now in let replies = c.args.context.now.run.now.replies.now in let s = state_of replies c.args.state.now in λ ty. stop-exit (λ w. w) c.from_residual.result c.in_err-at.field-0.0 (state_of replies c.target_indexes.new.state) _ c.from_residual.ensures.1
    (atomic-first context ty s (plain_target c.args.target.now) c.args.kind (plain_maybe_expr c.args.compare.now) (plain_expr c.args.value.now) (plain_maybe_location c.args.original.now) (λ w. w) c.in_err-at.field-0.0 (state_of replies c.target_indexes.new.state) c.in_err-at.ensures)

pub expressions::evaluate_atomic-returns-in_err-compared : goal.expressions::evaluate_atomic-returns-in_err-compared
expressions::evaluate_atomic-returns-in_err-compared t c =
    let context = context_of c.args.context.now in let replies = c.args.context.now.run.now.replies.now in let s = state_of replies c.args.state.now in λ ty. stop-exit (λ w. w) c.from_residual-in_err-compared.result c.in_err-compared.field-0.0 (state_of replies c.value_if.new.state) _ c.from_residual-in_err-compared.ensures.1
    (atomic-second context ty s (plain_target c.args.target.now) c.args.kind (plain_maybe_expr c.args.compare.now) (plain_expr c.args.value.now) (plain_maybe_location c.args.original.now) c.in_ok-at.at (state_of replies c.target_indexes.new.state) c.in_ok-at.ensures (λ w. w) c.in_err-compared.field-0.0 (state_of replies c.value_if.new.state) c.in_err-compared.ensures)

pub expressions::evaluate_atomic-returns-in_err-words : goal.expressions::evaluate_atomic-returns-in_err-words
expressions::evaluate_atomic-returns-in_err-words t c =
    let context = context_of c.args.context.now in let replies = c.args.context.now.run.now.replies.now in let s = state_of replies c.args.state.now in λ ty. stop-exit (λ w. w) c.from_residual-in_err-words.result c.in_err-words.field-0.0 (state_of replies c.evaluate.new.state) _ c.from_residual-in_err-words.ensures.1
    (atomic-third context ty s (plain_target c.args.target.now) c.args.kind (plain_maybe_expr c.args.compare.now) (plain_expr c.args.value.now) (plain_maybe_location c.args.original.now) c.in_ok-at.at (state_of replies c.target_indexes.new.state) c.in_ok-at.ensures c.in_ok-compared.compared (state_of replies c.value_if.new.state) c.in_ok-compared.ensures (λ w. w) c.in_err-words.field-0.0 (state_of replies c.evaluate.new.state) c.in_err-words.ensures)

pub expressions::evaluate_atomic-returns-in_err-place : goal.expressions::evaluate_atomic-returns-in_err-place
expressions::evaluate_atomic-returns-in_err-place t c =
    let context = context_of c.args.context.now in let replies = c.args.context.now.run.now.replies.now in let s = state_of replies c.args.state.now in λ ty. stop-exit (λ w. w) c.from_residual-in_err-place.result c.in_err-place.field-0.0 (state_of replies c.indexes_if.new.state) _ c.from_residual-in_err-place.ensures.1
    (atomic-fourth context ty s (plain_target c.args.target.now) c.args.kind (plain_maybe_expr c.args.compare.now) (plain_expr c.args.value.now) (plain_maybe_location c.args.original.now) c.in_ok-at.at (state_of replies c.target_indexes.new.state) c.in_ok-at.ensures c.in_ok-compared.compared (state_of replies c.value_if.new.state) c.in_ok-compared.ensures c.in_ok-words.words (state_of replies c.evaluate.new.state) c.in_ok-words.ensures (λ w. w) c.in_err-place.field-0.0 (state_of replies c.indexes_if.new.state) c.in_err-place.ensures)

pub expressions::evaluate_atomic-returns : goal.expressions::evaluate_atomic-returns
expressions::evaluate_atomic-returns t c =
    let context = context_of c.args.context.now in let replies = c.args.context.now.run.now.replies.now in let s = state_of replies c.args.state.now in
    λ ty. atomic-goes context ty s (plain_target c.args.target.now) c.args.kind (plain_maybe_expr c.args.compare.now) (plain_expr c.args.value.now) (plain_maybe_location c.args.original.now) c.in_ok-at.at (state_of replies c.target_indexes.new.state) c.in_ok-at.ensures c.in_ok-compared.compared (state_of replies c.value_if.new.state) c.in_ok-compared.ensures c.in_ok-words.words (state_of replies c.evaluate.new.state) c.in_ok-words.ensures c.apply_atomic.result c.in_ok-place.place (state_of replies c.indexes_if.new.state) (state_of replies c.apply_atomic.new.state) c.in_ok-place.ensures
    (same (λ w. w) c.apply_atomic.result (state_of replies c.apply_atomic.new.state) _ _ (ap (λ l. operation context (plain_target c.args.target.now) c.args.kind (plain_maybe_location c.args.original.now) l c.word_at-compare.result c.word_at-word.result c.as_slice-4.result.now (state_of replies c.indexes_if.new.state)) c.as_slice-3.ensures.value ∙
    (ap (λ n. operation context (plain_target c.args.target.now) c.args.kind (plain_maybe_location c.args.original.now) c.in_ok-at.at n c.word_at-word.result c.as_slice-4.result.now (state_of replies c.indexes_if.new.state)) (c.word_at-compare.ensures ∙ ap (λ l. slice_index l 0) c.as_slice.ensures.value) ∙
    (ap (λ n. operation context (plain_target c.args.target.now) c.args.kind (plain_maybe_location c.args.original.now) c.in_ok-at.at (slice_index c.in_ok-compared.compared 0) n c.as_slice-4.result.now (state_of replies c.indexes_if.new.state)) (c.word_at-word.ensures ∙ ap (λ l. slice_index l 0) c.as_slice-2.ensures.value) ∙
    ap (λ l. operation context (plain_target c.args.target.now) c.args.kind (plain_maybe_location c.args.original.now) c.in_ok-at.at (slice_index c.in_ok-compared.compared 0) (slice_index c.in_ok-words.words 0) l (state_of replies c.indexes_if.new.state)) c.as_slice-4.ensures.value))) c.apply_atomic.ensures)

pub expressions::target_indexes-returns-in-Place : goal.expressions::target_indexes-returns-in-Place
expressions::target_indexes-returns-in-Place t c =
    let context = context_of c.args.context.now in let replies = c.args.context.now.run.now.replies.now in let s = state_of replies c.args.state.now in same (λ w. w) c.indexes.result (state_of replies c.indexes.new.state) _ _ (ap (λ g. target_indexes context g s) (sym (ap plain_target c.in-Place.is ∙ plain_target-Place c.in-Place.place))) c.indexes.ensures

pub expressions::target_indexes-returns-in-Bytes : goal.expressions::target_indexes-returns-in-Bytes
expressions::target_indexes-returns-in-Bytes t c =
    let context = context_of c.args.context.now in let replies = c.args.context.now.run.now.replies.now in let s = state_of replies c.args.state.now in same (λ w. w) c.evaluate.result (state_of replies c.evaluate.new.state) _ _ (ap (λ g. target_indexes context g s) (sym (ap plain_target (c.in-Bytes.is ∙ ap (λ v. Target_variants.Bytes c.in-Bytes.resource v) (sym c.get.ensures)) ∙ plain_target-Bytes c.in-Bytes.resource c.get.result.now))) c.evaluate.ensures

pub expressions::value_if-returns-in-Some : goal.expressions::value_if-returns-in-Some
expressions::value_if-returns-in-Some t c =
    let context = context_of c.args.context.now in let replies = c.args.context.now.run.now.replies.now in let s = state_of replies c.args.state.now in same (λ w. w) c.evaluate.result (state_of replies c.evaluate.new.state) _ _ (ap (λ v. value_if context (plain_maybe_expr v) s) (ap Some c.get.ensures ∙ sym c.in-Some.is)) c.evaluate.ensures

pub expressions::value_if-returns-in-None : goal.expressions::value_if-returns-in-None
expressions::value_if-returns-in-None t c =
    let context = context_of c.args.context.now in let replies = c.args.context.now.run.now.replies.now in let s = state_of replies c.args.state.now in ap (λ v. value_if context (plain_maybe_expr v) s) c.in-None.is ∙ ap (λ w. goes_with w s) (sym c.new.ensures)

pub expressions::indexes_if-returns-in-Some : goal.expressions::indexes_if-returns-in-Some
expressions::indexes_if-returns-in-Some t c =
    let context = context_of c.args.context.now in let replies = c.args.context.now.run.now.replies.now in let s = state_of replies c.args.state.now in same (λ w. w) c.indexes.result (state_of replies c.indexes.new.state) _ _ (ap (λ v. indexes_if context (plain_maybe_location v) s) (sym c.in-Some.is)) c.indexes.ensures

pub expressions::indexes_if-returns-in-None : goal.expressions::indexes_if-returns-in-None
expressions::indexes_if-returns-in-None t c =
    let context = context_of c.args.context.now in let replies = c.args.context.now.run.now.replies.now in let s = state_of replies c.args.state.now in ap (λ v. indexes_if context (plain_maybe_location v) s) c.in-None.is ∙ ap (λ w. goes_with w s) (sym c.new.ensures)

pub calling::argument-returns-in_err-initial-in-Value : goal.calling::argument-returns-in_err-initial-in-Value
calling::argument-returns-in_err-initial-in-Value t c =
    let context = context_of c.args.context.now in let replies = c.args.context.now.run.now.replies.now in let s = state_of replies c.args.state.now in stop-exit pair_of c.from_residual.result c.in_err-initial-in-Value.field-0.0 (state_of replies c.evaluate.new.state) _ c.from_residual.ensures.1 (same pair_of (Err c.in_err-initial-in-Value.field-0.0) (state_of replies c.evaluate.new.state) _ _ (ap (λ g. argument_of context g c.args.copying s) (sym (ap plain_arg c.in-Value.is ∙ plain_arg-Value c.in-Value.value)))
    (stops (λ w. w) pair_of c.in_err-initial-in-Value.field-0.0 (state_of replies c.evaluate.new.state) (evaluates context (plain_expr c.in-Value.value) s) (λ words s'. goes_with (argument_operands [] words) s') c.in_err-initial-in-Value.ensures))

pub calling::argument-returns-in_ok-initial-in-Value : goal.calling::argument-returns-in_ok-initial-in-Value
calling::argument-returns-in_ok-initial-in-Value t c =
    let context = context_of c.args.context.now in let replies = c.args.context.now.run.now.replies.now in let s = state_of replies c.args.state.now in sym (ap (λ g. argument_of context g c.args.copying s) (sym (ap plain_arg c.in-Value.is ∙ plain_arg-Value c.in-Value.value))) ∙ (ap (λ q. after q (λ words s'. goes_with (argument_operands [] words) s')) c.in_ok-initial-in-Value.ensures ∙ ap (λ l. goes_with (argument_operands l c.in_ok-initial-in-Value.initial) (state_of replies c.evaluate.new.state)) (sym c.new-indexes.ensures))

pub calling::argument-returns-in_err-indexes-in-Place : goal.calling::argument-returns-in_err-indexes-in-Place
calling::argument-returns-in_err-indexes-in-Place t c =
    let context = context_of c.args.context.now in let replies = c.args.context.now.run.now.replies.now in let s = state_of replies c.args.state.now in stop-exit pair_of c.from_residual-in_err-indexes-in-Place.result c.in_err-indexes-in-Place.field-0.0 (state_of replies c.indexes.new.state) _ c.from_residual-in_err-indexes-in-Place.ensures.1 (same pair_of (Err c.in_err-indexes-in-Place.field-0.0) (state_of replies c.indexes.new.state) _ _ (ap (λ g. argument_of context g c.args.copying s) (sym (ap plain_arg c.in-Place.is ∙ plain_arg-Place c.in-Place.place)))
    (stops (λ w. w) pair_of c.in_err-indexes-in-Place.field-0.0 (state_of replies c.indexes.new.state) (indexes context (plain_location c.in-Place.place) s) (λ at s1. after (copies_in context c.args.copying (plain_location c.in-Place.place) at s1) (λ initial s2. goes_with (argument_operands at initial) s2)) c.in_err-indexes-in-Place.ensures))

pub calling::argument-returns-in_err-initial-in-Place : goal.calling::argument-returns-in_err-initial-in-Place
calling::argument-returns-in_err-initial-in-Place t c =
    let context = context_of c.args.context.now in let replies = c.args.context.now.run.now.replies.now in let s = state_of replies c.args.state.now in stop-exit pair_of c.from_residual-in_err-initial-in-Place.result c.in_err-initial-in-Place.field-0.0 (state_of replies c.copy_in.new.state) _ c.from_residual-in_err-initial-in-Place.ensures.1 (same pair_of (Err c.in_err-initial-in-Place.field-0.0) (state_of replies c.copy_in.new.state) _ _ (ap (λ g. argument_of context g c.args.copying s) (sym (ap plain_arg c.in-Place.is ∙ plain_arg-Place c.in-Place.place)))
    (goes pair_of c.in_ok-indexes-in-Place.indexes (Err c.in_err-initial-in-Place.field-0.0) (state_of replies c.indexes.new.state) (state_of replies c.copy_in.new.state) (indexes context (plain_location c.in-Place.place) s) (λ at s1. after (copies_in context c.args.copying (plain_location c.in-Place.place) at s1) (λ initial s2. goes_with (argument_operands at initial) s2)) c.in_ok-indexes-in-Place.ensures
    (stops (λ w. w) pair_of c.in_err-initial-in-Place.field-0.0 (state_of replies c.copy_in.new.state) (copies_in context c.args.copying (plain_location c.in-Place.place) c.in_ok-indexes-in-Place.indexes (state_of replies c.indexes.new.state)) (λ initial s2. goes_with (argument_operands c.in_ok-indexes-in-Place.indexes initial) s2)
    (same (λ w. w) (Err c.in_err-initial-in-Place.field-0.0) (state_of replies c.copy_in.new.state) _ _ (ap (λ l. copies_in context c.args.copying (plain_location c.in-Place.place) l (state_of replies c.indexes.new.state)) c.as_slice.ensures.value) c.in_err-initial-in-Place.ensures))))

pub calling::argument-returns-in_ok-initial-in-Place : goal.calling::argument-returns-in_ok-initial-in-Place
calling::argument-returns-in_ok-initial-in-Place t c =
    let context = context_of c.args.context.now in let replies = c.args.context.now.run.now.replies.now in let s = state_of replies c.args.state.now in sym (ap (λ g. argument_of context g c.args.copying s) (sym (ap plain_arg c.in-Place.is ∙ plain_arg-Place c.in-Place.place))) ∙ (ap (λ q. after q (λ at s1. after (copies_in context c.args.copying (plain_location c.in-Place.place) at s1) (λ initial s2. goes_with (argument_operands at initial) s2))) c.in_ok-indexes-in-Place.ensures ∙
    ap (λ q. after q (λ initial s2. goes_with (argument_operands c.in_ok-indexes-in-Place.indexes initial) s2)) (sym (ap (λ l. copies_in context c.args.copying (plain_location c.in-Place.place) l (state_of replies c.indexes.new.state)) c.as_slice.ensures.value) ∙ c.in_ok-initial-in-Place.ensures))

pub calling::arguments-loop-at-init : goal.calling::arguments-loop-at-init
calling::arguments-loop-at-init t c =
    let context = context_of c.args.context.now in let replies = c.args.context.now.run.now.replies.now in let s = state_of replies c.args.state.now in record {
      whole = behind-none (arguments context (plain_args c.args.args.now) c.args.parameters.now s) ∙ (ap (λ l. behind l (arguments context (plain_args c.args.args.now) c.args.parameters.now s)) (sym (ap (λ l. interleaved l c.new-initial_parameters.result) c.new-indexes.ensures)) ∙ ap (λ l. behind (interleaved c.new-indexes.result c.new-initial_parameters.result) (arguments context (plain_args l) c.args.parameters.now s)) (sym c.as_slice-items.ensures));
      both = ap length c.new-indexes.ensures ∙ sym (ap length c.new-initial_parameters.ensures);
    }

pub calling::arguments-returns-in_err-words-clause-met : goal.calling::arguments-returns-in_err-words-clause-met
calling::arguments-returns-in_err-words-clause-met t c =
    let context = context_of c.args.context.now in let replies = c.args.context.now.run.now.replies.now in let s = state_of replies c.args.state.now in stop-exit operands_of c.from_residual.result c.in_err-words.field-0.0 (state_of replies c.argument.new.state) _ c.from_residual.ensures.1
    (argument-stops context (plain_arg c.index-items-at.result) (plain_args (drop (c.loop-at.at + 1) c.as_slice-items.result.now)) (get_or c.args.parameters.now c.loop-at.at (record { variable = 0; copying = CopyIn; semantic = None })) (drop (c.loop-at.at + 1) c.args.parameters.now) c.loop-at.indexes c.loop-at.initial_parameters (state_of replies c.loop-at.state) (arguments context (plain_args c.args.args.now) c.args.parameters.now s) (c.loop-at.invariant.whole ∙ (ap (λ l. behind (interleaved c.loop-at.indexes c.loop-at.initial_parameters) (arguments context (plain_args l) (drop c.loop-at.at c.args.parameters.now) (state_of replies c.loop-at.state))) (drop-next c.as_slice-items.result.now c.loop-at.at c.index-items-at.result (omega arith) c.index-items-at.is) ∙ ap (λ l. behind (interleaved c.loop-at.indexes c.loop-at.initial_parameters) (arguments context (plain_args (c.index-items-at.result ∷ drop (c.loop-at.at + 1) c.as_slice-items.result.now)) l (state_of replies c.loop-at.state))) (drop-next c.args.parameters.now c.loop-at.at (get_or c.args.parameters.now c.loop-at.at (record { variable = 0; copying = CopyIn; semantic = None })) (omega arith) (get_or_default c.args.parameters.now c.loop-at.at (record { variable = 0; copying = CopyIn; semantic = None }) (get_or c.args.parameters.now c.loop-at.at (record { variable = 0; copying = CopyIn; semantic = None })) (omega arith))))) pair_of operands_of c.in_err-words.field-0.0 (state_of replies c.argument.new.state)
    (same pair_of (Err c.in_err-words.field-0.0) (state_of replies c.argument.new.state) _ _ (ap (λ k. argument_of context (plain_arg c.index-items-at.result) k (state_of replies c.loop-at.state)) (c.copying_at.ensures (get_or c.args.parameters.now c.loop-at.at (record { variable = 0; copying = CopyIn; semantic = None })) (get_or_default c.args.parameters.now c.loop-at.at (record { variable = 0; copying = CopyIn; semantic = None }) (get_or c.args.parameters.now c.loop-at.at (record { variable = 0; copying = CopyIn; semantic = None })) (omega arith)))) c.in_err-words.ensures))

pub calling::arguments-returns-in_err-push-clause-met : goal.calling::arguments-returns-in_err-push-clause-met
calling::arguments-returns-in_err-push-clause-met t c =
    memory-exit operands_of c.from_residual-in_err-push.result _ _ c.from_residual-in_err-push.ensures.1

pub calling::arguments-returns-in_err-push-2-clause-met : goal.calling::arguments-returns-in_err-push-2-clause-met
calling::arguments-returns-in_err-push-2-clause-met t c =
    memory-exit operands_of c.from_residual-in_err-push-2.result _ _ c.from_residual-in_err-push-2.ensures.1

pub calling::arguments-loop-at-preserved : goal.calling::arguments-loop-at-preserved
calling::arguments-loop-at-preserved t c =
    let context = context_of c.args.context.now in let replies = c.args.context.now.run.now.replies.now in let s = state_of replies c.args.state.now in record {
      whole = argument-next context (plain_arg c.index-items-at.result) (plain_args (drop (c.loop-at.at + 1) c.as_slice-items.result.now)) (get_or c.args.parameters.now c.loop-at.at (record { variable = 0; copying = CopyIn; semantic = None })) (drop (c.loop-at.at + 1) c.args.parameters.now) c.loop-at.indexes c.loop-at.initial_parameters (state_of replies c.loop-at.state) (arguments context (plain_args c.args.args.now) c.args.parameters.now s) (c.loop-at.invariant.whole ∙ (ap (λ l. behind (interleaved c.loop-at.indexes c.loop-at.initial_parameters) (arguments context (plain_args l) (drop c.loop-at.at c.args.parameters.now) (state_of replies c.loop-at.state))) (drop-next c.as_slice-items.result.now c.loop-at.at c.index-items-at.result (omega arith) c.index-items-at.is) ∙ ap (λ l. behind (interleaved c.loop-at.indexes c.loop-at.initial_parameters) (arguments context (plain_args (c.index-items-at.result ∷ drop (c.loop-at.at + 1) c.as_slice-items.result.now)) l (state_of replies c.loop-at.state))) (drop-next c.args.parameters.now c.loop-at.at (get_or c.args.parameters.now c.loop-at.at (record { variable = 0; copying = CopyIn; semantic = None })) (omega arith) (get_or_default c.args.parameters.now c.loop-at.at (record { variable = 0; copying = CopyIn; semantic = None }) (get_or c.args.parameters.now c.loop-at.at (record { variable = 0; copying = CopyIn; semantic = None })) (omega arith))))) (state_of replies c.argument.new.state) c.in_ok-words.field-0.indexes c.in_ok-words.field-0.initial c.loop-at.invariant.both (sym (ap (λ k. argument_of context (plain_arg c.index-items-at.result) k (state_of replies c.loop-at.state)) (c.copying_at.ensures (get_or c.args.parameters.now c.loop-at.at (record { variable = 0; copying = CopyIn; semantic = None })) (get_or_default c.args.parameters.now c.loop-at.at (record { variable = 0; copying = CopyIn; semantic = None }) (get_or c.args.parameters.now c.loop-at.at (record { variable = 0; copying = CopyIn; semantic = None })) (omega arith)))) ∙ c.in_ok-words.ensures) ∙
          (ap (λ l. behind (interleaved l (c.loop-at.initial_parameters ++ c.in_ok-words.field-0.initial ∷ [])) (arguments context (plain_args (drop (c.loop-at.at + 1) c.as_slice-items.result.now)) (drop (c.loop-at.at + 1) c.args.parameters.now) (state_of replies c.argument.new.state))) (sym c.in_ok-push.ensures.ok) ∙
          ap (λ l. behind (interleaved c.push.new.self l) (arguments context (plain_args (drop (c.loop-at.at + 1) c.as_slice-items.result.now)) (drop (c.loop-at.at + 1) c.args.parameters.now) (state_of replies c.argument.new.state))) (sym c.in_ok-push-2.ensures.ok));
      both = ap length c.in_ok-push.ensures.ok ∙ (length_push c.loop-at.indexes c.in_ok-words.field-0.indexes ∙ (ap (λ n. n + 1) c.loop-at.invariant.both ∙ (sym (length_push c.loop-at.initial_parameters c.in_ok-words.field-0.initial) ∙ sym (ap length c.in_ok-push-2.ensures.ok))));
    }

pub calling::arguments-returns : goal.calling::arguments-returns
calling::arguments-returns t c =
    let context = context_of c.args.context.now in let replies = c.args.context.now.run.now.replies.now in record {
      both = c.loop-at.invariant.both;
      met = c.loop-at.invariant.whole ∙ (ap (λ q. behind (interleaved c.loop-at.indexes c.loop-at.initial_parameters) q) (arguments-end context c.as_slice-items.result.now c.args.parameters.now c.loop-at.at (state_of replies c.loop-at.state) (omega arith)) ∙ behind-end (interleaved c.loop-at.indexes c.loop-at.initial_parameters) (state_of replies c.loop-at.state));
    }

pub calling::call_function-returns-in_err-indexes : goal.calling::call_function-returns-in_err-indexes
calling::call_function-returns-in_err-indexes t c =
    let context = context_of c.args.context.now in let replies = c.args.context.now.run.now.replies.now in let s = state_of replies c.args.state.now in λ ty. stop-exit (λ w. w) c.from_residual.result c.in_err-indexes.field-0.0 (state_of replies c.arguments.new.state) _ c.from_residual.ensures.1
    (call-first context ty s c.args.function (plain_args c.args.args.now) operands_of c.in_err-indexes.field-0.0 (state_of replies c.arguments.new.state) (same operands_of (Err c.in_err-indexes.field-0.0) (state_of replies c.arguments.new.state) _ _ (ap (λ ps. arguments context (plain_args c.args.args.now) ps s) c.parameters_of-parameters.ensures) c.in_err-indexes.ensures.met))

pub calling::run_function-returns-then-number-functions : goal.calling::run_function-returns-then-number-functions
calling::run_function-returns-then-number-functions t c =
    let run = c.args.run.now in ap (λ f. f c.args.state.now.variables.items (state_of run.replies.now c.args.state.now).exchange) (callee-past run c.args.functions.now c.args.number no_callee (omega arith)) ∙ ap (λ w. goes_with w (state_of run.replies.now c.args.state.now)) (sym c.new.ensures)

pub statements::run_statement-returns-in-Block : goal.statements::run_statement-returns-in-Block
statements::run_statement-returns-in-Block t c =
    let context = context_of c.args.context.now in let replies = c.args.context.now.run.now.replies.now in let s = state_of replies c.args.state.now in same plain_leaving c.run_statements.result (state_of replies c.run_statements.new.state) _ _ (ap (λ g. does context c.args.context.now.run.now.turns g s) (sym (ap plain_stmt (c.in-Block.is) ∙ plain_stmt-Block c.in-Block.body))) (c.run_statements.ensures)

pub statements::run_statement-returns-in-Local : goal.statements::run_statement-returns-in-Local
statements::run_statement-returns-in-Local t c =
    let context = context_of c.args.context.now in let replies = c.args.context.now.run.now.replies.now in let s = state_of replies c.args.state.now in same plain_leaving c.declare.result (state_of replies c.declare.new.state) _ _ (ap (λ g. does context c.args.context.now.run.now.turns g s) (sym (ap plain_stmt (c.in-Local.is) ∙ plain_stmt-Local c.in-Local.variable c.in-Local.init))) (c.declare.ensures)

pub statements::run_statement-returns-in_err-evaluate-in-Run : goal.statements::run_statement-returns-in_err-evaluate-in-Run
statements::run_statement-returns-in_err-evaluate-in-Run t c =
    let context = context_of c.args.context.now in let replies = c.args.context.now.run.now.replies.now in let s = state_of replies c.args.state.now in stop-exit plain_leaving c.from_residual.result c.in_err-evaluate-in-Run.field-0.0 (state_of replies c.evaluate.new.state) _ c.from_residual.ensures.1 (same plain_leaving (Err c.in_err-evaluate-in-Run.field-0.0) (state_of replies c.evaluate.new.state) _ _ (ap (λ g. does context c.args.context.now.run.now.turns g s) (sym (ap plain_stmt (c.in-Run.is) ∙ plain_stmt-Run c.in-Run.value)))
    (stops (λ w. w) plain_leaving c.in_err-evaluate-in-Run.field-0.0 (state_of replies c.evaluate.new.state) (evaluates context (plain_expr c.in-Run.value) s) (λ _ s'. goes_with at_end s') c.in_err-evaluate-in-Run.ensures))

pub statements::run_statement-returns-in_ok-evaluate-in-Run : goal.statements::run_statement-returns-in_ok-evaluate-in-Run
statements::run_statement-returns-in_ok-evaluate-in-Run t c =
    let context = context_of c.args.context.now in let replies = c.args.context.now.run.now.replies.now in let s = state_of replies c.args.state.now in sym (ap (λ g. does context c.args.context.now.run.now.turns g s) (sym (ap plain_stmt c.in-Run.is ∙ plain_stmt-Run c.in-Run.value))) ∙ ap (λ q. after q (λ _ s'. goes_with at_end s')) c.in_ok-evaluate-in-Run.ensures

pub statements::run_statement-returns-in-If : goal.statements::run_statement-returns-in-If
statements::run_statement-returns-in-If t c =
    let context = context_of c.args.context.now in let replies = c.args.context.now.run.now.replies.now in let s = state_of replies c.args.state.now in same plain_leaving c.run_if.result (state_of replies c.run_if.new.state) _ _ (ap (λ g. does context c.args.context.now.run.now.turns g s) (sym (ap plain_stmt (c.in-If.is ∙ ap (λ v. Stmt_variants.If c.in-If.cond v c.in-If.no) (sym c.get.ensures)) ∙ plain_stmt-If c.in-If.cond c.get.result.now c.in-If.no))) (c.run_if.ensures)

pub statements::run_statement-returns-in-For : goal.statements::run_statement-returns-in-For
statements::run_statement-returns-in-For t c =
    let context = context_of c.args.context.now in let replies = c.args.context.now.run.now.replies.now in let s = state_of replies c.args.state.now in same plain_leaving c.for_loop.result (state_of replies c.for_loop.new.state) _ _ (ap (λ g. does context c.args.context.now.run.now.turns g s) (sym (ap plain_stmt (c.in-For.is ∙ ap (λ v. Stmt_variants.For c.in-For.init c.in-For.cond c.in-For.step v) (sym c.get-in-For.ensures)) ∙ plain_stmt-For c.in-For.init c.in-For.cond c.in-For.step c.get-in-For.result.now))) (c.for_loop.ensures)

pub statements::run_statement-returns-in-While : goal.statements::run_statement-returns-in-While
statements::run_statement-returns-in-While t c =
    let context = context_of c.args.context.now in let replies = c.args.context.now.run.now.replies.now in let s = state_of replies c.args.state.now in same plain_leaving c.while_loop.result (state_of replies c.while_loop.new.state) _ _ (ap (λ g. does context c.args.context.now.run.now.turns g s) (sym (ap plain_stmt (c.in-While.is ∙ ap (λ v. Stmt_variants.While c.in-While.cond v) (sym c.get-in-While.ensures)) ∙ plain_stmt-While c.in-While.cond c.get-in-While.result.now))) (c.while_loop.ensures)

pub statements::run_statement-returns-in-Do : goal.statements::run_statement-returns-in-Do
statements::run_statement-returns-in-Do t c =
    let context = context_of c.args.context.now in let replies = c.args.context.now.run.now.replies.now in let s = state_of replies c.args.state.now in same plain_leaving c.do_loop.result (state_of replies c.do_loop.new.state) _ _ (ap (λ g. does context c.args.context.now.run.now.turns g s) (sym (ap plain_stmt (c.in-Do.is ∙ ap (λ v. Stmt_variants.Do v c.in-Do.cond) (sym c.get-in-Do.ensures)) ∙ plain_stmt-Do c.get-in-Do.result.now c.in-Do.cond))) (c.do_loop.ensures)

pub statements::run_statement-returns-in-Break : goal.statements::run_statement-returns-in-Break
statements::run_statement-returns-in-Break t c =
    let context = context_of c.args.context.now in let replies = c.args.context.now.run.now.replies.now in let s = state_of replies c.args.state.now in ap (λ g. does context c.args.context.now.run.now.turns g s) (ap plain_stmt c.in-Break.is ∙ plain_stmt-Break)

pub statements::run_statement-returns-in-Continue : goal.statements::run_statement-returns-in-Continue
statements::run_statement-returns-in-Continue t c =
    let context = context_of c.args.context.now in let replies = c.args.context.now.run.now.replies.now in let s = state_of replies c.args.state.now in ap (λ g. does context c.args.context.now.run.now.turns g s) (ap plain_stmt c.in-Continue.is ∙ plain_stmt-Continue)

pub statements::run_statement-returns-in-Return : goal.statements::run_statement-returns-in-Return
statements::run_statement-returns-in-Return t c =
    let context = context_of c.args.context.now in let replies = c.args.context.now.run.now.replies.now in let s = state_of replies c.args.state.now in same plain_leaving c.return_value.result (state_of replies c.return_value.new.state) _ _ (ap (λ g. does context c.args.context.now.run.now.turns g s) (sym (ap plain_stmt (c.in-Return.is) ∙ plain_stmt-Return c.in-Return.value))) (c.return_value.ensures)

pub statements::run_statement-run_statements-requires : goal.statements::run_statement-run_statements-requires
statements::run_statement-run_statements-requires t c =
    let w = ap stmt_weight c.in-Block.is ∙ stmt_weight-Block c.in-Block.body in (omega arith, tt)

pub statements::run_statement-declare-requires : goal.statements::run_statement-declare-requires
statements::run_statement-declare-requires t c =
    let w = ap stmt_weight c.in-Local.is ∙ stmt_weight-Local c.in-Local.variable c.in-Local.init in (omega arith, tt)

pub statements::run_statement-evaluate-requires : goal.statements::run_statement-evaluate-requires
statements::run_statement-evaluate-requires t c =
    let w = ap stmt_weight c.in-Run.is ∙ stmt_weight-Run c.in-Run.value in (omega arith, tt)

pub statements::run_statement-run_if-requires : goal.statements::run_statement-run_if-requires
statements::run_statement-run_if-requires t c =
    let w = ap stmt_weight c.in-If.is ∙ stmt_weight-If c.in-If.cond c.in-If.yes c.in-If.no in let g = ap stmt_weight c.get.ensures in (omega arith, tt)

pub statements::run_statement-for_loop-requires : goal.statements::run_statement-for_loop-requires
statements::run_statement-for_loop-requires t c =
    let w = ap stmt_weight c.in-For.is ∙ stmt_weight-For c.in-For.init c.in-For.cond c.in-For.step c.in-For.body in let g = ap stmt_weight c.get-in-For.ensures in (omega arith, tt)

pub statements::run_statement-while_loop-requires : goal.statements::run_statement-while_loop-requires
statements::run_statement-while_loop-requires t c =
    let w = ap stmt_weight c.in-While.is ∙ stmt_weight-While c.in-While.cond c.in-While.body in let g = ap stmt_weight c.get-in-While.ensures in (omega arith, tt)

pub statements::run_statement-do_loop-requires : goal.statements::run_statement-do_loop-requires
statements::run_statement-do_loop-requires t c =
    let w = ap stmt_weight c.in-Do.is ∙ stmt_weight-Do c.in-Do.body c.in-Do.cond in let g = ap stmt_weight c.get-in-Do.ensures in (omega arith, tt)

pub statements::run_statement-return_value-requires : goal.statements::run_statement-return_value-requires
statements::run_statement-return_value-requires t c =
    let w = ap stmt_weight c.in-Return.is ∙ stmt_weight-Return c.in-Return.value in (omega arith, tt)

pub statements::run_statements-loop-stmt-init : goal.statements::run_statements-loop-stmt-init
statements::run_statements-loop-stmt-init t c =
    let context = context_of c.args.context.now in let replies = c.args.context.now.run.now.replies.now in let s = state_of replies c.args.state.now in ap (λ l. does_all context c.args.context.now.run.now.turns (plain_stmts l) s) (sym c.as_slice-stmt-items.ensures)

pub statements::run_statements-returns-in_err-leaving : goal.statements::run_statements-returns-in_err-leaving
statements::run_statements-returns-in_err-leaving t c =
    let context = context_of c.args.context.now in let replies = c.args.context.now.run.now.replies.now in let s = state_of replies c.args.state.now in stop-exit plain_leaving c.from_residual.result c.in_err-leaving.field-0.0 (state_of replies c.run_statement.new.state) _ c.from_residual.ensures.1
    (all-stops context c.args.context.now.run.now.turns c.as_slice-stmt-items.result.now c.loop-stmt.stmt-index c.stmt-item.result (state_of replies c.loop-stmt.state) (state_of replies c.run_statement.new.state) (does_all context c.args.context.now.run.now.turns (plain_stmts c.args.stmts.now) s) (drop-next c.as_slice-stmt-items.result.now c.loop-stmt.stmt-index c.stmt-item.result (search rules) c.stmt-item.is) c.loop-stmt.invariant plain_leaving plain_leaving c.in_err-leaving.field-0.0 c.in_err-leaving.ensures)

pub statements::run_statements-loop-stmt-preserved : goal.statements::run_statements-loop-stmt-preserved
statements::run_statements-loop-stmt-preserved t c =
    let context = context_of c.args.context.now in let replies = c.args.context.now.run.now.replies.now in let s = state_of replies c.args.state.now in
    all-next context c.args.context.now.run.now.turns c.as_slice-stmt-items.result.now c.loop-stmt.stmt-index c.stmt-item.result (state_of replies c.loop-stmt.state) (state_of replies c.run_statement.new.state) (does_all context c.args.context.now.run.now.turns (plain_stmts c.args.stmts.now) s) (drop-next c.as_slice-stmt-items.result.now c.loop-stmt.stmt-index c.stmt-item.result (search rules) c.stmt-item.is) c.loop-stmt.invariant (c.in_ok-leaving.ensures ∙ ap (λ k. goes_with (plain_leaving k) (state_of replies c.run_statement.new.state)) c.in-AtEnd.is)

pub statements::run_statements-returns-in_default : goal.statements::run_statements-returns-in_default
statements::run_statements-returns-in_default t c =
    let context = context_of c.args.context.now in let replies = c.args.context.now.run.now.replies.now in let s = state_of replies c.args.state.now in
    all-left context c.args.context.now.run.now.turns c.as_slice-stmt-items.result.now c.loop-stmt.stmt-index c.stmt-item.result (state_of replies c.loop-stmt.state) (state_of replies c.run_statement.new.state) (does_all context c.args.context.now.run.now.turns (plain_stmts c.args.stmts.now) s) (drop-next c.as_slice-stmt-items.result.now c.loop-stmt.stmt-index c.stmt-item.result (search rules) c.stmt-item.is) c.loop-stmt.invariant c.in_ok-leaving.leaving c.in_default.not-AtEnd c.in_ok-leaving.ensures

pub statements::run_statements-returns : goal.statements::run_statements-returns
statements::run_statements-returns t c =
    let context = context_of c.args.context.now in let replies = c.args.context.now.run.now.replies.now in c.loop-stmt.invariant ∙ ap (λ l. does_all context c.args.context.now.run.now.turns (plain_stmts l) (state_of replies c.loop-stmt.state)) (drop_all c.loop-stmt.stmt-index c.as_slice-stmt-items.result.now (omega arith))

pub statements::condition-returns-in_err-words : goal.statements::condition-returns-in_err-words
statements::condition-returns-in_err-words t c =
    let context = context_of c.args.context.now in let replies = c.args.context.now.run.now.replies.now in let s = state_of replies c.args.state.now in stop-exit (λ b. b) c.from_residual.result c.in_err-words.field-0.0 (state_of replies c.evaluate.new.state) _ c.from_residual.ensures.1 (stops (λ w. w) (λ b. b) c.in_err-words.field-0.0 (state_of replies c.evaluate.new.state) (evaluates context (plain_expr c.args.cond.now) s) (λ words s'. goes_with (holds (slice_index words 0)) s') c.in_err-words.ensures)

pub statements::condition-returns : goal.statements::condition-returns
statements::condition-returns t c =
    let replies = c.args.context.now.run.now.replies.now in ap (λ q. after q (λ words s'. goes_with (holds (slice_index words 0)) s')) c.in_ok-words.ensures ∙ ap (λ b. goes_with b (state_of replies c.evaluate.new.state)) (sym (c.holds.ensures ∙ ap holds (c.word_at.ensures ∙ ap (λ l. slice_index l 0) c.as_slice.ensures.value)))

pub statements::condition_if-returns-in-Some : goal.statements::condition_if-returns-in-Some
statements::condition_if-returns-in-Some t c =
    let context = context_of c.args.context.now in let replies = c.args.context.now.run.now.replies.now in let s = state_of replies c.args.state.now in same (λ b. b) c.condition.result (state_of replies c.condition.new.state) _ _ (ap (λ v. condition_if context (option_map plain_expr v) s) (sym c.in-Some.is)) c.condition.ensures

pub statements::condition_if-returns-in-None : goal.statements::condition_if-returns-in-None
statements::condition_if-returns-in-None t c =
    let context = context_of c.args.context.now in let replies = c.args.context.now.run.now.replies.now in let s = state_of replies c.args.state.now in ap (λ v. condition_if context (option_map plain_expr v) s) c.in-None.is

pub statements::compute_if-returns-in_err-evaluate-in-Some : goal.statements::compute_if-returns-in_err-evaluate-in-Some
statements::compute_if-returns-in_err-evaluate-in-Some t c =
    let context = context_of c.args.context.now in let replies = c.args.context.now.run.now.replies.now in let s = state_of replies c.args.state.now in stop-exit plain_leaving c.from_residual.result c.in_err-evaluate-in-Some.field-0.0 (state_of replies c.evaluate.new.state) _ c.from_residual.ensures.1 (same plain_leaving (Err c.in_err-evaluate-in-Some.field-0.0) (state_of replies c.evaluate.new.state) _ _ (ap (λ v. computes_if context (option_map plain_expr v) s) (sym c.in-Some.is))
    (stops (λ w. w) plain_leaving c.in_err-evaluate-in-Some.field-0.0 (state_of replies c.evaluate.new.state) (evaluates context (plain_expr c.in-Some.value) s) (λ _ s'. goes_with at_end s') c.in_err-evaluate-in-Some.ensures))

pub statements::compute_if-returns-in_ok-evaluate-in-Some : goal.statements::compute_if-returns-in_ok-evaluate-in-Some
statements::compute_if-returns-in_ok-evaluate-in-Some t c =
    let context = context_of c.args.context.now in let replies = c.args.context.now.run.now.replies.now in let s = state_of replies c.args.state.now in sym (ap (λ v. computes_if context (option_map plain_expr v) s) (sym c.in-Some.is)) ∙ ap (λ q. after q (λ _ s'. goes_with at_end s')) c.in_ok-evaluate-in-Some.ensures

pub statements::compute_if-returns-in-None : goal.statements::compute_if-returns-in-None
statements::compute_if-returns-in-None t c =
    let context = context_of c.args.context.now in let replies = c.args.context.now.run.now.replies.now in let s = state_of replies c.args.state.now in ap (λ v. computes_if context (option_map plain_expr v) s) c.in-None.is

pub statements::return_value-returns-in_err-words-in-Some : goal.statements::return_value-returns-in_err-words-in-Some
statements::return_value-returns-in_err-words-in-Some t c =
    let context = context_of c.args.context.now in let replies = c.args.context.now.run.now.replies.now in let s = state_of replies c.args.state.now in stop-exit plain_leaving c.from_residual.result c.in_err-words-in-Some.field-0.0 (state_of replies c.evaluate.new.state) _ c.from_residual.ensures.1 (same plain_leaving (Err c.in_err-words-in-Some.field-0.0) (state_of replies c.evaluate.new.state) _ _ (ap (λ v. returns context (option_map plain_expr v) s) (sym c.in-Some.is))
    (stops (λ w. w) plain_leaving c.in_err-words-in-Some.field-0.0 (state_of replies c.evaluate.new.state) (evaluates context (plain_expr c.in-Some.value) s) (λ words s'. goes_with (by_return words) s') c.in_err-words-in-Some.ensures))

pub statements::return_value-returns-in_ok-words-in-Some : goal.statements::return_value-returns-in_ok-words-in-Some
statements::return_value-returns-in_ok-words-in-Some t c =
    let context = context_of c.args.context.now in let replies = c.args.context.now.run.now.replies.now in let s = state_of replies c.args.state.now in sym (ap (λ v. returns context (option_map plain_expr v) s) (sym c.in-Some.is)) ∙ ap (λ q. after q (λ words s'. goes_with (by_return words) s')) c.in_ok-words-in-Some.ensures

pub statements::return_value-returns-in-None : goal.statements::return_value-returns-in-None
statements::return_value-returns-in-None t c =
    let context = context_of c.args.context.now in let replies = c.args.context.now.run.now.replies.now in let s = state_of replies c.args.state.now in ap (λ v. returns context (option_map plain_expr v) s) c.in-None.is ∙ ap (λ w. goes_with (by_return w) s) (sym c.new.ensures)

pub statements::declare-returns-in_err-words-in-Some : goal.statements::declare-returns-in_err-words-in-Some
statements::declare-returns-in_err-words-in-Some t c =
    let context = context_of c.args.context.now in let replies = c.args.context.now.run.now.replies.now in let s = state_of replies c.args.state.now in stop-exit plain_leaving c.from_residual.result c.in_err-words-in-Some.field-0.0 (state_of replies c.evaluate.new.state) _ c.from_residual.ensures.1 (same plain_leaving (Err c.in_err-words-in-Some.field-0.0) (state_of replies c.evaluate.new.state) _ _ (ap (λ v. declares context c.args.variable (option_map plain_expr v) s) (sym c.in-Some.is))
    (stops (λ w. w) plain_leaving c.in_err-words-in-Some.field-0.0 (state_of replies c.evaluate.new.state) (evaluates context (plain_expr c.in-Some.init) s) (λ words s'. goes_with at_end (with_variable c.args.variable words s')) c.in_err-words-in-Some.ensures))

pub statements::declare-returns-in_ok-words-in-Some : goal.statements::declare-returns-in_ok-words-in-Some
statements::declare-returns-in_ok-words-in-Some t c =
    let context = context_of c.args.context.now in let replies = c.args.context.now.run.now.replies.now in let s = state_of replies c.args.state.now in sym (ap (λ v. declares context c.args.variable (option_map plain_expr v) s) (sym c.in-Some.is)) ∙ (ap (λ q. after q (λ words s'. goes_with at_end (with_variable c.args.variable words s'))) c.in_ok-words-in-Some.ensures ∙
    ap (λ s. goes_with at_end s) (state-changed replies c.evaluate.new.state c.set_variable.new.state (slice_set c.evaluate.new.state.variables.items c.args.variable c.in_ok-words-in-Some.words) c.set_variable.ensures.variables c.set_variable.ensures.events))

pub statements::declare-returns-in_err-clear_variable-in-None : goal.statements::declare-returns-in_err-clear_variable-in-None
statements::declare-returns-in_err-clear_variable-in-None t c =
    memory-exit plain_leaving c.from_residual-in_err-clear_variable-in-None.result _ _ c.from_residual-in_err-clear_variable-in-None.ensures.1

pub statements::declare-returns-in_ok-clear_variable-in-None : goal.statements::declare-returns-in_ok-clear_variable-in-None
statements::declare-returns-in_ok-clear_variable-in-None t c =
    let context = context_of c.args.context.now in let replies = c.args.context.now.run.now.replies.now in let s = state_of replies c.args.state.now in ap (λ v. declares context c.args.variable (option_map plain_expr v) s) c.in-None.is ∙
    ap (λ s. goes_with at_end s) (state-changed replies c.args.state.now c.clear_variable.new.state (slice_set c.args.state.now.variables.items c.args.variable (map (λ _. 0) (unwrap_or (slice_get c.args.state.now.variables.items c.args.variable) []))) c.in_ok-clear_variable-in-None.ensures.variables c.clear_variable.ensures.events)

pub statements::run_if-returns-in_err-condition : goal.statements::run_if-returns-in_err-condition
statements::run_if-returns-in_err-condition t c =
    let context = context_of c.args.context.now in let replies = c.args.context.now.run.now.replies.now in let s = state_of replies c.args.state.now in stop-exit plain_leaving c.from_residual.result c.in_err-condition.field-0.0 (state_of replies c.condition.new.state) _ c.from_residual.ensures.1 (if-stops context c.args.context.now.run.now.turns s (state_of replies c.condition.new.state) (plain_expr c.args.cond.now) (plain_stmt c.args.consequent.now) (plain_maybe_stmt c.args.alternative.now) c.in_err-condition.field-0.0 c.in_err-condition.ensures)

pub statements::run_if-returns-then-branch : goal.statements::run_if-returns-then-branch
statements::run_if-returns-then-branch t c =
    let context = context_of c.args.context.now in let replies = c.args.context.now.run.now.replies.now in let s = state_of replies c.args.state.now in if-goes context c.args.context.now.run.now.turns s (state_of replies c.condition.new.state) (plain_expr c.args.cond.now) (plain_stmt c.args.consequent.now) (plain_maybe_stmt c.args.alternative.now) true c.run_statement.result (state_of replies c.run_statement.new.state) (c.in_ok-condition.ensures ∙ ap (λ b. goes_with b (state_of replies c.condition.new.state)) c.if-branch.true) c.run_statement.ensures

pub statements::run_if-returns-in-Some : goal.statements::run_if-returns-in-Some
statements::run_if-returns-in-Some t c =
    let context = context_of c.args.context.now in let replies = c.args.context.now.run.now.replies.now in let s = state_of replies c.args.state.now in if-goes context c.args.context.now.run.now.turns s (state_of replies c.condition.new.state) (plain_expr c.args.cond.now) (plain_stmt c.args.consequent.now) (plain_maybe_stmt c.args.alternative.now) false c.run_statement-in-Some.result (state_of replies c.run_statement-in-Some.new.state) (c.in_ok-condition.ensures ∙ ap (λ b. goes_with b (state_of replies c.condition.new.state)) c.if-branch.false)
    (same plain_leaving c.run_statement-in-Some.result (state_of replies c.run_statement-in-Some.new.state) _ _ (ap (λ v. does_if context c.args.context.now.run.now.turns (plain_maybe_stmt v) (state_of replies c.condition.new.state)) (ap Some c.get.ensures ∙ sym c.in-Some.is)) c.run_statement-in-Some.ensures)

pub statements::run_if-returns-in-None : goal.statements::run_if-returns-in-None
statements::run_if-returns-in-None t c =
    let context = context_of c.args.context.now in let replies = c.args.context.now.run.now.replies.now in let s = state_of replies c.args.state.now in
    if-goes context c.args.context.now.run.now.turns s (state_of replies c.condition.new.state) (plain_expr c.args.cond.now) (plain_stmt c.args.consequent.now) (plain_maybe_stmt c.args.alternative.now) false (Ok AtEnd) (state_of replies c.condition.new.state) (c.in_ok-condition.ensures ∙ ap (λ b. goes_with b (state_of replies c.condition.new.state)) c.if-branch.false) (ap (λ v. does_if context c.args.context.now.run.now.turns (plain_maybe_stmt v) (state_of replies c.condition.new.state)) c.in-None.is)

pub loops::for_loop-returns-in_err-leaving : goal.loops::for_loop-returns-in_err-leaving
loops::for_loop-returns-in_err-leaving t c =
    let context = context_of c.args.context.now in let replies = c.args.context.now.run.now.replies.now in let s = state_of replies c.args.state.now in stop-exit plain_leaving c.from_residual.result c.in_err-leaving.field-0.0 (state_of replies c.run_statements.new.state) _ c.from_residual.ensures.1
    (for-stops context c.args.context.now.run.now.turns s (state_of replies c.run_statements.new.state) (plain_stmts c.args.init.now) (option_map plain_expr c.args.cond.now) (option_map plain_expr c.args.step.now) (plain_stmt c.args.body.now) c.in_err-leaving.field-0.0 c.in_err-leaving.ensures)

pub loops::for_loop-returns-in-AtEnd : goal.loops::for_loop-returns-in-AtEnd
loops::for_loop-returns-in-AtEnd t c =
    let context = context_of c.args.context.now in let replies = c.args.context.now.run.now.replies.now in let s = state_of replies c.args.state.now in for-goes context c.args.context.now.run.now.turns s (state_of replies c.run_statements.new.state) (plain_stmts c.args.init.now) (option_map plain_expr c.args.cond.now) (option_map plain_expr c.args.step.now) (plain_stmt c.args.body.now) c.in_ok-leaving.leaving c.for_turns.result (state_of replies c.for_turns.new.state) c.in_ok-leaving.ensures c.in-AtEnd.is c.for_turns.ensures

pub loops::for_loop-returns-in_default : goal.loops::for_loop-returns-in_default
loops::for_loop-returns-in_default t c =
    let context = context_of c.args.context.now in let replies = c.args.context.now.run.now.replies.now in let s = state_of replies c.args.state.now in for-left context c.args.context.now.run.now.turns s (state_of replies c.run_statements.new.state) (plain_stmts c.args.init.now) (option_map plain_expr c.args.cond.now) (option_map plain_expr c.args.step.now) (plain_stmt c.args.body.now) c.in_ok-leaving.leaving c.in_ok-leaving.ensures c.in_default.not-AtEnd

pub loops::for_turns-loop-turn-init : goal.loops::for_turns-loop-turn-init
loops::for_turns-loop-turn-init t c =
    let context = context_of c.args.context.now in let replies = c.args.context.now.run.now.replies.now in let s = state_of replies c.args.state.now in turns-first c.args.context.now.run.now.turns (for_turn context (option_map plain_expr c.args.cond.now) (λ s. does context c.args.context.now.run.now.turns (plain_stmt c.args.body.now) s) (option_map plain_expr c.args.step.now)) s

pub loops::for_turns-returns-in_err-leaving : goal.loops::for_turns-returns-in_err-leaving
loops::for_turns-returns-in_err-leaving t c =
    let context = context_of c.args.context.now in let replies = c.args.context.now.run.now.replies.now in let s = state_of replies c.args.state.now in stop-exit plain_leaving c.from_residual.result c.in_err-leaving.field-0.0 (state_of replies c.for_turn.new.state) _ c.from_residual.ensures.1
    (turn-stops c.args.context.now.run.now.turns c.loop-turn._turn (for_turn context (option_map plain_expr c.args.cond.now) (λ s. does context c.args.context.now.run.now.turns (plain_stmt c.args.body.now) s) (option_map plain_expr c.args.step.now)) (state_of replies c.loop-turn.state) (state_of replies c.for_turn.new.state) (turns c.args.context.now.run.now.turns (for_turn context (option_map plain_expr c.args.cond.now) (λ s. does context c.args.context.now.run.now.turns (plain_stmt c.args.body.now) s) (option_map plain_expr c.args.step.now)) s) plain_leaving plain_leaving c.in_err-leaving.field-0.0 c.loop-turn-test.true c.loop-turn.invariant c.in_err-leaving.ensures)

pub loops::for_turns-returns-in-Some : goal.loops::for_turns-returns-in-Some
loops::for_turns-returns-in-Some t c =
    let context = context_of c.args.context.now in let replies = c.args.context.now.run.now.replies.now in let s = state_of replies c.args.state.now in
    turn-done c.args.context.now.run.now.turns c.loop-turn._turn (for_turn context (option_map plain_expr c.args.cond.now) (λ s. does context c.args.context.now.run.now.turns (plain_stmt c.args.body.now) s) (option_map plain_expr c.args.step.now)) (state_of replies c.loop-turn.state) (state_of replies c.for_turn.new.state) (turns c.args.context.now.run.now.turns (for_turn context (option_map plain_expr c.args.cond.now) (λ s. does context c.args.context.now.run.now.turns (plain_stmt c.args.body.now) s) (option_map plain_expr c.args.step.now)) s) c.in_ok-leaving.leaving c.behind_turn.result c.loop-turn-test.true c.loop-turn.invariant c.in_ok-leaving.ensures c.behind_turn.ensures ∙
    ap (λ o. loop_left (turns (c.args.context.now.run.now.turns - (c.loop-turn._turn + 1)) (for_turn context (option_map plain_expr c.args.cond.now) (λ s. does context c.args.context.now.run.now.turns (plain_stmt c.args.body.now) s) (option_map plain_expr c.args.step.now))) o (state_of replies c.for_turn.new.state)) c.in-Some.is

pub loops::for_turns-loop-turn-preserved : goal.loops::for_turns-loop-turn-preserved
loops::for_turns-loop-turn-preserved t c =
    let context = context_of c.args.context.now in let replies = c.args.context.now.run.now.replies.now in let s = state_of replies c.args.state.now in
    turn-done c.args.context.now.run.now.turns c.loop-turn._turn (for_turn context (option_map plain_expr c.args.cond.now) (λ s. does context c.args.context.now.run.now.turns (plain_stmt c.args.body.now) s) (option_map plain_expr c.args.step.now)) (state_of replies c.loop-turn.state) (state_of replies c.for_turn.new.state) (turns c.args.context.now.run.now.turns (for_turn context (option_map plain_expr c.args.cond.now) (λ s. does context c.args.context.now.run.now.turns (plain_stmt c.args.body.now) s) (option_map plain_expr c.args.step.now)) s) c.in_ok-leaving.leaving c.behind_turn.result c.loop-turn-test.true c.loop-turn.invariant c.in_ok-leaving.ensures c.behind_turn.ensures ∙
    ap (λ o. loop_left (turns (c.args.context.now.run.now.turns - (c.loop-turn._turn + 1)) (for_turn context (option_map plain_expr c.args.cond.now) (λ s. does context c.args.context.now.run.now.turns (plain_stmt c.args.body.now) s) (option_map plain_expr c.args.step.now))) o (state_of replies c.for_turn.new.state)) c.in_default.is

pub loops::for_turns-returns : goal.loops::for_turns-returns
loops::for_turns-returns t c =
    let context = context_of c.args.context.now in let replies = c.args.context.now.run.now.replies.now in let s = state_of replies c.args.state.now in
    turns-over c.args.context.now.run.now.turns c.loop-turn._turn (for_turn context (option_map plain_expr c.args.cond.now) (λ s. does context c.args.context.now.run.now.turns (plain_stmt c.args.body.now) s) (option_map plain_expr c.args.step.now)) (state_of replies c.loop-turn.state) (turns c.args.context.now.run.now.turns (for_turn context (option_map plain_expr c.args.cond.now) (λ s. does context c.args.context.now.run.now.turns (plain_stmt c.args.body.now) s) (option_map plain_expr c.args.step.now)) s) c.loop-turn-test.false c.loop-turn.invariant

pub loops::while_loop-loop-turn-init : goal.loops::while_loop-loop-turn-init
loops::while_loop-loop-turn-init t c =
    let context = context_of c.args.context.now in let replies = c.args.context.now.run.now.replies.now in let s = state_of replies c.args.state.now in turns-first c.args.context.now.run.now.turns (for_turn context (Some (plain_expr c.args.cond.now)) (λ s. does context c.args.context.now.run.now.turns (plain_stmt c.args.body.now) s) None) s

pub loops::while_loop-returns-in_err-leaving : goal.loops::while_loop-returns-in_err-leaving
loops::while_loop-returns-in_err-leaving t c =
    let context = context_of c.args.context.now in let replies = c.args.context.now.run.now.replies.now in let s = state_of replies c.args.state.now in stop-exit plain_leaving c.from_residual.result c.in_err-leaving.field-0.0 (state_of replies c.while_turn.new.state) _ c.from_residual.ensures.1
    (turn-stops c.args.context.now.run.now.turns c.loop-turn._turn (for_turn context (Some (plain_expr c.args.cond.now)) (λ s. does context c.args.context.now.run.now.turns (plain_stmt c.args.body.now) s) None) (state_of replies c.loop-turn.state) (state_of replies c.while_turn.new.state) (does context c.args.context.now.run.now.turns (while_stmt (plain_expr c.args.cond.now) (plain_stmt c.args.body.now)) s) plain_leaving plain_leaving c.in_err-leaving.field-0.0 c.loop-turn-test.true c.loop-turn.invariant c.in_err-leaving.ensures)

pub loops::while_loop-returns-in-Some : goal.loops::while_loop-returns-in-Some
loops::while_loop-returns-in-Some t c =
    let context = context_of c.args.context.now in let replies = c.args.context.now.run.now.replies.now in let s = state_of replies c.args.state.now in
    turn-done c.args.context.now.run.now.turns c.loop-turn._turn (for_turn context (Some (plain_expr c.args.cond.now)) (λ s. does context c.args.context.now.run.now.turns (plain_stmt c.args.body.now) s) None) (state_of replies c.loop-turn.state) (state_of replies c.while_turn.new.state) (does context c.args.context.now.run.now.turns (while_stmt (plain_expr c.args.cond.now) (plain_stmt c.args.body.now)) s) c.in_ok-leaving.leaving c.behind_turn.result c.loop-turn-test.true c.loop-turn.invariant c.in_ok-leaving.ensures c.behind_turn.ensures ∙
    ap (λ o. loop_left (turns (c.args.context.now.run.now.turns - (c.loop-turn._turn + 1)) (for_turn context (Some (plain_expr c.args.cond.now)) (λ s. does context c.args.context.now.run.now.turns (plain_stmt c.args.body.now) s) None)) o (state_of replies c.while_turn.new.state)) c.in-Some.is

pub loops::while_loop-loop-turn-preserved : goal.loops::while_loop-loop-turn-preserved
loops::while_loop-loop-turn-preserved t c =
    let context = context_of c.args.context.now in let replies = c.args.context.now.run.now.replies.now in let s = state_of replies c.args.state.now in
    turn-done c.args.context.now.run.now.turns c.loop-turn._turn (for_turn context (Some (plain_expr c.args.cond.now)) (λ s. does context c.args.context.now.run.now.turns (plain_stmt c.args.body.now) s) None) (state_of replies c.loop-turn.state) (state_of replies c.while_turn.new.state) (does context c.args.context.now.run.now.turns (while_stmt (plain_expr c.args.cond.now) (plain_stmt c.args.body.now)) s) c.in_ok-leaving.leaving c.behind_turn.result c.loop-turn-test.true c.loop-turn.invariant c.in_ok-leaving.ensures c.behind_turn.ensures ∙
    ap (λ o. loop_left (turns (c.args.context.now.run.now.turns - (c.loop-turn._turn + 1)) (for_turn context (Some (plain_expr c.args.cond.now)) (λ s. does context c.args.context.now.run.now.turns (plain_stmt c.args.body.now) s) None)) o (state_of replies c.while_turn.new.state)) c.in_default.is

pub loops::while_loop-returns : goal.loops::while_loop-returns
loops::while_loop-returns t c =
    let context = context_of c.args.context.now in let replies = c.args.context.now.run.now.replies.now in let s = state_of replies c.args.state.now in turns-over c.args.context.now.run.now.turns c.loop-turn._turn (for_turn context (Some (plain_expr c.args.cond.now)) (λ s. does context c.args.context.now.run.now.turns (plain_stmt c.args.body.now) s) None) (state_of replies c.loop-turn.state) (does context c.args.context.now.run.now.turns (while_stmt (plain_expr c.args.cond.now) (plain_stmt c.args.body.now)) s) c.loop-turn-test.false c.loop-turn.invariant

pub loops::do_loop-loop-turn-init : goal.loops::do_loop-loop-turn-init
loops::do_loop-loop-turn-init t c =
    let context = context_of c.args.context.now in let replies = c.args.context.now.run.now.replies.now in let s = state_of replies c.args.state.now in turns-first c.args.context.now.run.now.turns (do_turn context (λ s. does context c.args.context.now.run.now.turns (plain_stmt c.args.body.now) s) (plain_expr c.args.cond.now)) s

pub loops::do_loop-returns-in_err-leaving : goal.loops::do_loop-returns-in_err-leaving
loops::do_loop-returns-in_err-leaving t c =
    let context = context_of c.args.context.now in let replies = c.args.context.now.run.now.replies.now in let s = state_of replies c.args.state.now in stop-exit plain_leaving c.from_residual.result c.in_err-leaving.field-0.0 (state_of replies c.do_turn.new.state) _ c.from_residual.ensures.1
    (turn-stops c.args.context.now.run.now.turns c.loop-turn._turn (do_turn context (λ s. does context c.args.context.now.run.now.turns (plain_stmt c.args.body.now) s) (plain_expr c.args.cond.now)) (state_of replies c.loop-turn.state) (state_of replies c.do_turn.new.state) (does context c.args.context.now.run.now.turns (do_stmt (plain_stmt c.args.body.now) (plain_expr c.args.cond.now)) s) plain_leaving plain_leaving c.in_err-leaving.field-0.0 c.loop-turn-test.true c.loop-turn.invariant c.in_err-leaving.ensures)

pub loops::do_loop-returns-in-Some : goal.loops::do_loop-returns-in-Some
loops::do_loop-returns-in-Some t c =
    let context = context_of c.args.context.now in let replies = c.args.context.now.run.now.replies.now in let s = state_of replies c.args.state.now in
    turn-done c.args.context.now.run.now.turns c.loop-turn._turn (do_turn context (λ s. does context c.args.context.now.run.now.turns (plain_stmt c.args.body.now) s) (plain_expr c.args.cond.now)) (state_of replies c.loop-turn.state) (state_of replies c.do_turn.new.state) (does context c.args.context.now.run.now.turns (do_stmt (plain_stmt c.args.body.now) (plain_expr c.args.cond.now)) s) c.in_ok-leaving.leaving c.behind_turn.result c.loop-turn-test.true c.loop-turn.invariant c.in_ok-leaving.ensures c.behind_turn.ensures ∙
    ap (λ o. loop_left (turns (c.args.context.now.run.now.turns - (c.loop-turn._turn + 1)) (do_turn context (λ s. does context c.args.context.now.run.now.turns (plain_stmt c.args.body.now) s) (plain_expr c.args.cond.now))) o (state_of replies c.do_turn.new.state)) c.in-Some.is

pub loops::do_loop-loop-turn-preserved : goal.loops::do_loop-loop-turn-preserved
loops::do_loop-loop-turn-preserved t c =
    let context = context_of c.args.context.now in let replies = c.args.context.now.run.now.replies.now in let s = state_of replies c.args.state.now in
    turn-done c.args.context.now.run.now.turns c.loop-turn._turn (do_turn context (λ s. does context c.args.context.now.run.now.turns (plain_stmt c.args.body.now) s) (plain_expr c.args.cond.now)) (state_of replies c.loop-turn.state) (state_of replies c.do_turn.new.state) (does context c.args.context.now.run.now.turns (do_stmt (plain_stmt c.args.body.now) (plain_expr c.args.cond.now)) s) c.in_ok-leaving.leaving c.behind_turn.result c.loop-turn-test.true c.loop-turn.invariant c.in_ok-leaving.ensures c.behind_turn.ensures ∙
    ap (λ o. loop_left (turns (c.args.context.now.run.now.turns - (c.loop-turn._turn + 1)) (do_turn context (λ s. does context c.args.context.now.run.now.turns (plain_stmt c.args.body.now) s) (plain_expr c.args.cond.now))) o (state_of replies c.do_turn.new.state)) c.in_default.is

pub loops::do_loop-returns : goal.loops::do_loop-returns
loops::do_loop-returns t c =
    let context = context_of c.args.context.now in let replies = c.args.context.now.run.now.replies.now in let s = state_of replies c.args.state.now in turns-over c.args.context.now.run.now.turns c.loop-turn._turn (do_turn context (λ s. does context c.args.context.now.run.now.turns (plain_stmt c.args.body.now) s) (plain_expr c.args.cond.now)) (state_of replies c.loop-turn.state) (does context c.args.context.now.run.now.turns (do_stmt (plain_stmt c.args.body.now) (plain_expr c.args.cond.now)) s) c.loop-turn-test.false c.loop-turn.invariant

pub loops::for_turn-returns-in_err-condition_if : goal.loops::for_turn-returns-in_err-condition_if
loops::for_turn-returns-in_err-condition_if t c =
    let context = context_of c.args.context.now in let replies = c.args.context.now.run.now.replies.now in let s = state_of replies c.args.state.now in stop-exit plain_leaving c.from_residual.result c.in_err-condition_if.field-0.0 (state_of replies c.condition_if.new.state) _ c.from_residual.ensures.1
    (test-stops context s (state_of replies c.condition_if.new.state) (option_map plain_expr c.args.cond.now) (λ s. does context c.args.context.now.run.now.turns (plain_stmt c.args.body.now) s) (option_map plain_expr c.args.step.now) c.in_err-condition_if.field-0.0 c.in_err-condition_if.ensures)

pub loops::for_turn-returns-then-not-branch : goal.loops::for_turn-returns-then-not-branch
loops::for_turn-returns-then-not-branch t c =
    let context = context_of c.args.context.now in let replies = c.args.context.now.run.now.replies.now in let s = state_of replies c.args.state.now in test-breaks context s (state_of replies c.condition_if.new.state) (option_map plain_expr c.args.cond.now) (λ s. does context c.args.context.now.run.now.turns (plain_stmt c.args.body.now) s) (option_map plain_expr c.args.step.now) c.in_ok-condition_if.field-0 c.in_ok-condition_if.ensures c.if-not-branch.true

pub loops::for_turn-returns-in_err-leaving : goal.loops::for_turn-returns-in_err-leaving
loops::for_turn-returns-in_err-leaving t c =
    let context = context_of c.args.context.now in let replies = c.args.context.now.run.now.replies.now in let s = state_of replies c.args.state.now in stop-exit plain_leaving c.from_residual-in_err-leaving.result c.in_err-leaving.field-0.0 (state_of replies c.run_statement.new.state) _ c.from_residual-in_err-leaving.ensures.1
    (body-stops context s (state_of replies c.condition_if.new.state) (option_map plain_expr c.args.cond.now) (λ s. does context c.args.context.now.run.now.turns (plain_stmt c.args.body.now) s) (option_map plain_expr c.args.step.now) c.in_ok-condition_if.field-0 c.in_ok-condition_if.ensures c.if-not-branch.false (state_of replies c.run_statement.new.state) c.in_err-leaving.field-0.0 c.in_err-leaving.ensures)

pub loops::for_turn-returns-in-AtEnd : goal.loops::for_turn-returns-in-AtEnd
loops::for_turn-returns-in-AtEnd t c =
    let context = context_of c.args.context.now in let replies = c.args.context.now.run.now.replies.now in let s = state_of replies c.args.state.now in
    body-ends context s (state_of replies c.condition_if.new.state) (option_map plain_expr c.args.cond.now) (λ s. does context c.args.context.now.run.now.turns (plain_stmt c.args.body.now) s) (option_map plain_expr c.args.step.now) c.in_ok-condition_if.field-0 c.in_ok-condition_if.ensures c.if-not-branch.false (state_of replies c.run_statement.new.state) c.in_ok-leaving.leaving c.in_ok-leaving.ensures c.compute_if.result (state_of replies c.compute_if.new.state) c.in-AtEnd.is c.compute_if.ensures

pub loops::for_turn-returns-in-ByContinue : goal.loops::for_turn-returns-in-ByContinue
loops::for_turn-returns-in-ByContinue t c =
    let context = context_of c.args.context.now in let replies = c.args.context.now.run.now.replies.now in let s = state_of replies c.args.state.now in
    body-continues context s (state_of replies c.condition_if.new.state) (option_map plain_expr c.args.cond.now) (λ s. does context c.args.context.now.run.now.turns (plain_stmt c.args.body.now) s) (option_map plain_expr c.args.step.now) c.in_ok-condition_if.field-0 c.in_ok-condition_if.ensures c.if-not-branch.false (state_of replies c.run_statement.new.state) c.in_ok-leaving.leaving c.in_ok-leaving.ensures c.compute_if-in-ByContinue.result (state_of replies c.compute_if-in-ByContinue.new.state) c.in-ByContinue.is c.compute_if-in-ByContinue.ensures

pub loops::for_turn-returns-in_default : goal.loops::for_turn-returns-in_default
loops::for_turn-returns-in_default t c =
    let context = context_of c.args.context.now in let replies = c.args.context.now.run.now.replies.now in let s = state_of replies c.args.state.now in
    body-left context s (state_of replies c.condition_if.new.state) (option_map plain_expr c.args.cond.now) (λ s. does context c.args.context.now.run.now.turns (plain_stmt c.args.body.now) s) (option_map plain_expr c.args.step.now) c.in_ok-condition_if.field-0 c.in_ok-condition_if.ensures c.if-not-branch.false (state_of replies c.run_statement.new.state) c.in_ok-leaving.leaving c.in_ok-leaving.ensures c.in_default.not-AtEnd c.in_default.not-ByContinue

pub loops::while_turn-returns-in_err-condition : goal.loops::while_turn-returns-in_err-condition
loops::while_turn-returns-in_err-condition t c =
    let context = context_of c.args.context.now in let replies = c.args.context.now.run.now.replies.now in let s = state_of replies c.args.state.now in stop-exit plain_leaving c.from_residual.result c.in_err-condition.field-0.0 (state_of replies c.condition.new.state) _ c.from_residual.ensures.1 (test-stops context s (state_of replies c.condition.new.state) (Some (plain_expr c.args.cond.now)) (λ s. does context c.args.context.now.run.now.turns (plain_stmt c.args.body.now) s) None c.in_err-condition.field-0.0 c.in_err-condition.ensures)

pub loops::while_turn-returns-then-not-branch : goal.loops::while_turn-returns-then-not-branch
loops::while_turn-returns-then-not-branch t c =
    let context = context_of c.args.context.now in let replies = c.args.context.now.run.now.replies.now in let s = state_of replies c.args.state.now in test-breaks context s (state_of replies c.condition.new.state) (Some (plain_expr c.args.cond.now)) (λ s. does context c.args.context.now.run.now.turns (plain_stmt c.args.body.now) s) None c.in_ok-condition.field-0 c.in_ok-condition.ensures c.if-not-branch.true

pub loops::while_turn-returns-in_err-leaving : goal.loops::while_turn-returns-in_err-leaving
loops::while_turn-returns-in_err-leaving t c =
    let context = context_of c.args.context.now in let replies = c.args.context.now.run.now.replies.now in let s = state_of replies c.args.state.now in stop-exit plain_leaving c.from_residual-in_err-leaving.result c.in_err-leaving.field-0.0 (state_of replies c.run_statement.new.state) _ c.from_residual-in_err-leaving.ensures.1
    (body-stops context s (state_of replies c.condition.new.state) (Some (plain_expr c.args.cond.now)) (λ s. does context c.args.context.now.run.now.turns (plain_stmt c.args.body.now) s) None c.in_ok-condition.field-0 c.in_ok-condition.ensures c.if-not-branch.false (state_of replies c.run_statement.new.state) c.in_err-leaving.field-0.0 c.in_err-leaving.ensures)

pub loops::while_turn-returns-in-ByContinue : goal.loops::while_turn-returns-in-ByContinue
loops::while_turn-returns-in-ByContinue t c =
    let context = context_of c.args.context.now in let replies = c.args.context.now.run.now.replies.now in let s = state_of replies c.args.state.now in lone-continues context s (state_of replies c.condition.new.state) (Some (plain_expr c.args.cond.now)) (λ s. does context c.args.context.now.run.now.turns (plain_stmt c.args.body.now) s) c.in_ok-condition.field-0 c.in_ok-condition.ensures c.if-not-branch.false (state_of replies c.run_statement.new.state) c.in_ok-leaving.leaving c.in_ok-leaving.ensures c.in-ByContinue.is

pub loops::while_turn-returns-in_default : goal.loops::while_turn-returns-in_default
loops::while_turn-returns-in_default t c =
    let context = context_of c.args.context.now in let replies = c.args.context.now.run.now.replies.now in let s = state_of replies c.args.state.now in lone-left context s (state_of replies c.condition.new.state) (Some (plain_expr c.args.cond.now)) (λ s. does context c.args.context.now.run.now.turns (plain_stmt c.args.body.now) s) c.in_ok-condition.field-0 c.in_ok-condition.ensures c.if-not-branch.false (state_of replies c.run_statement.new.state) c.in_ok-leaving.leaving c.in_ok-leaving.ensures c.in_default.not-ByContinue

pub loops::do_turn-returns-in_err-leaving : goal.loops::do_turn-returns-in_err-leaving
loops::do_turn-returns-in_err-leaving t c =
    let context = context_of c.args.context.now in let replies = c.args.context.now.run.now.replies.now in let s = state_of replies c.args.state.now in stop-exit plain_leaving c.from_residual.result c.in_err-leaving.field-0.0 (state_of replies c.run_statement.new.state) _ c.from_residual.ensures.1 (first-stops context s (state_of replies c.run_statement.new.state) (λ s. does context c.args.context.now.run.now.turns (plain_stmt c.args.body.now) s) (plain_expr c.args.cond.now) c.in_err-leaving.field-0.0 c.in_err-leaving.ensures)

pub loops::do_turn-returns-in-AtEnd : goal.loops::do_turn-returns-in-AtEnd
loops::do_turn-returns-in-AtEnd t c =
    let context = context_of c.args.context.now in let replies = c.args.context.now.run.now.replies.now in let s = state_of replies c.args.state.now in first-ends context s (state_of replies c.run_statement.new.state) (λ s. does context c.args.context.now.run.now.turns (plain_stmt c.args.body.now) s) (plain_expr c.args.cond.now) c.in_ok-leaving.leaving c.in_ok-leaving.ensures c.test_condition.result (state_of replies c.test_condition.new.state) c.in-AtEnd.is c.test_condition.ensures

pub loops::do_turn-returns-in-ByContinue : goal.loops::do_turn-returns-in-ByContinue
loops::do_turn-returns-in-ByContinue t c =
    let context = context_of c.args.context.now in let replies = c.args.context.now.run.now.replies.now in let s = state_of replies c.args.state.now in first-continues context s (state_of replies c.run_statement.new.state) (λ s. does context c.args.context.now.run.now.turns (plain_stmt c.args.body.now) s) (plain_expr c.args.cond.now) c.in_ok-leaving.leaving c.in_ok-leaving.ensures c.test_condition-in-ByContinue.result (state_of replies c.test_condition-in-ByContinue.new.state) c.in-ByContinue.is c.test_condition-in-ByContinue.ensures

pub loops::do_turn-returns-in_default : goal.loops::do_turn-returns-in_default
loops::do_turn-returns-in_default t c =
    let context = context_of c.args.context.now in let replies = c.args.context.now.run.now.replies.now in let s = state_of replies c.args.state.now in first-left context s (state_of replies c.run_statement.new.state) (λ s. does context c.args.context.now.run.now.turns (plain_stmt c.args.body.now) s) (plain_expr c.args.cond.now) c.in_ok-leaving.leaving c.in_ok-leaving.ensures c.in_default.not-AtEnd c.in_default.not-ByContinue

pub loops::test_condition-returns-in_err-condition : goal.loops::test_condition-returns-in_err-condition
loops::test_condition-returns-in_err-condition t c =
    let context = context_of c.args.context.now in let replies = c.args.context.now.run.now.replies.now in let s = state_of replies c.args.state.now in stop-exit plain_leaving c.from_residual.result c.in_err-condition.field-0.0 (state_of replies c.condition.new.state) _ c.from_residual.ensures.1 (tests-stops context (plain_expr c.args.cond.now) s (state_of replies c.condition.new.state) c.in_err-condition.field-0.0 c.in_err-condition.ensures)

pub loops::test_condition-returns-then-branch : goal.loops::test_condition-returns-then-branch
loops::test_condition-returns-then-branch t c =
    let context = context_of c.args.context.now in let replies = c.args.context.now.run.now.replies.now in let s = state_of replies c.args.state.now in tests-goes context (plain_expr c.args.cond.now) s (state_of replies c.condition.new.state) c.in_ok-condition.field-0 true c.in_ok-condition.ensures c.if-branch.true

pub loops::test_condition-returns-else-branch : goal.loops::test_condition-returns-else-branch
loops::test_condition-returns-else-branch t c =
    let context = context_of c.args.context.now in let replies = c.args.context.now.run.now.replies.now in let s = state_of replies c.args.state.now in tests-goes context (plain_expr c.args.cond.now) s (state_of replies c.condition.new.state) c.in_ok-condition.field-0 false c.in_ok-condition.ensures c.if-branch.false

pub calling::call_function-returns-in_err-result : goal.calling::call_function-returns-in_err-result
calling::call_function-returns-in_err-result t c =
    let context = context_of c.args.context.now in let replies = c.args.context.now.run.now.replies.now in let s = state_of replies c.args.state.now in λ ty. stop-exit (λ w. w) c.from_residual-in_err-result.result c.in_err-result.field-0.0 (state_of replies c.run_function.new.state) _ c.from_residual-in_err-result.ensures.1
    (call-second context ty s c.args.function (plain_args c.args.args.now) (interleaved c.in_ok-indexes.field-0.indexes c.in_ok-indexes.field-0.initial_parameters) (state_of replies c.arguments.new.state) c.replace-own.new.dest.items (sym (ap (λ ps. arguments context (plain_args c.args.args.now) ps s) c.parameters_of-parameters.ensures) ∙ c.in_ok-indexes.ensures.met) (initial-of c.in_ok-indexes.field-0.indexes c.in_ok-indexes.field-0.initial_parameters c.in_ok-indexes.ensures.both ∙ (sym c.into_vec.ensures ∙ ap (λ v. v.items) (sym c.replace-own.ensures.after))) c.in_err-result.field-0.0 (state_of replies c.run_function.new.state) c.in_err-result.ensures)

pub calling::call_function-returns-in_err-copy_out : goal.calling::call_function-returns-in_err-copy_out
calling::call_function-returns-in_err-copy_out t c =
    let context = context_of c.args.context.now in let replies = c.args.context.now.run.now.replies.now in let s = state_of replies c.args.state.now in λ ty. stop-exit (λ w. w) c.from_residual-in_err-copy_out.result c.in_err-copy_out.field-0.0 (state_of replies c.copy_out.new.state) _ c.from_residual-in_err-copy_out.ensures.1
    (call-third context ty s c.args.function (plain_args c.args.args.now) (interleaved c.in_ok-indexes.field-0.indexes c.in_ok-indexes.field-0.initial_parameters) (state_of replies c.arguments.new.state) c.replace-own.new.dest.items (sym (ap (λ ps. arguments context (plain_args c.args.args.now) ps s) c.parameters_of-parameters.ensures) ∙ c.in_ok-indexes.ensures.met) (initial-of c.in_ok-indexes.field-0.indexes c.in_ok-indexes.field-0.initial_parameters c.in_ok-indexes.ensures.both ∙ (sym c.into_vec.ensures ∙ ap (λ v. v.items) (sym c.replace-own.ensures.after))) c.in_ok-result.result (state_of replies c.run_function.new.state) c.in_ok-result.ensures c.in_err-copy_out.field-0.0 (state_of replies c.copy_out.new.state)
    (same {B = Unit {0}} (λ _. []) (Err c.in_err-copy_out.field-0.0) (state_of replies c.copy_out.new.state) _ _ (copied-same context (plain_args c.args.args.now) replies c.as_slice.result.now c.in_ok-indexes.field-0.indexes c.in_ok-indexes.field-0.initial_parameters c.as_slice-2.result.now c.arguments.new.state c.run_function.new.state c.replace-parameters.new.dest.items c.as_slice.ensures.value (c.as_slice-2.ensures.value ∙ ap (λ v. v.items) c.replace-parameters.ensures.value) (ap (λ v. v.items) (c.replace-parameters.ensures.after ∙ c.replace-own.ensures.value))) (c.in_err-copy_out.ensures c.in_ok-indexes.field-0.initial_parameters (sym c.in_ok-indexes.ensures.both ∙ ap length (sym c.as_slice.ensures.value)))))

pub calling::call_function-returns : goal.calling::call_function-returns
calling::call_function-returns t c =
    let context = context_of c.args.context.now in let replies = c.args.context.now.run.now.replies.now in let s = state_of replies c.args.state.now in
    λ ty. call-goes context ty s c.args.function (plain_args c.args.args.now) (interleaved c.in_ok-indexes.field-0.indexes c.in_ok-indexes.field-0.initial_parameters) (state_of replies c.arguments.new.state) c.replace-own.new.dest.items (sym (ap (λ ps. arguments context (plain_args c.args.args.now) ps s) c.parameters_of-parameters.ensures) ∙ c.in_ok-indexes.ensures.met) (initial-of c.in_ok-indexes.field-0.indexes c.in_ok-indexes.field-0.initial_parameters c.in_ok-indexes.ensures.both ∙ (sym c.into_vec.ensures ∙ ap (λ v. v.items) (sym c.replace-own.ensures.after))) c.in_ok-result.result (state_of replies c.run_function.new.state) c.in_ok-result.ensures (state_of replies c.copy_out.new.state) (sym (copied-same context (plain_args c.args.args.now) replies c.as_slice.result.now c.in_ok-indexes.field-0.indexes c.in_ok-indexes.field-0.initial_parameters c.as_slice-2.result.now c.arguments.new.state c.run_function.new.state c.replace-parameters.new.dest.items c.as_slice.ensures.value (c.as_slice-2.ensures.value ∙ ap (λ v. v.items) c.replace-parameters.ensures.value) (ap (λ v. v.items) (c.replace-parameters.ensures.after ∙ c.replace-own.ensures.value))) ∙ c.in_ok-copy_out.ensures c.in_ok-indexes.field-0.initial_parameters (sym c.in_ok-indexes.ensures.both ∙ ap length (sym c.as_slice.ensures.value)))

pub calling::run_function-returns-in_err-add_variables : goal.calling::run_function-returns-in_err-add_variables
calling::run_function-returns-in_err-add_variables t c =
    memory-exit (λ w. w) c.from_residual.result _ _ c.from_residual.ensures.1

pub calling::run_function-returns-in_err-leaving : goal.calling::run_function-returns-in_err-leaving
calling::run_function-returns-in_err-leaving t c =
    let replies = c.args.run.now.replies.now in stop-exit (λ w. w) c.from_residual-in_err-leaving.result c.in_err-leaving.field-0.0 (state_of replies c.run_statements.new.state) _ c.from_residual-in_err-leaving.ensures.1
    (same (λ w. w) (Err c.in_err-leaving.field-0.0) (state_of replies c.run_statements.new.state) _ _ (sym (called-as (context_behind c.args.run.now (take c.args.number c.args.functions.now) (plain_function c.index-functions-number.result)) c.args.run.now.turns (plain_function c.index-functions-number.result) (slice_index_or (callees_behind c.args.run.now [] [] (map plain_function c.args.functions.now)) c.args.number no_callee) c.args.state.now.variables.items (state_of replies c.args.state.now).exchange (state_of replies c.add_variables.new.state) (callee-at c.args.run.now c.args.functions.now c.args.number c.index-functions-number.result no_callee (omega arith) c.index-functions-number.is) (first-is c.args.run.now (take c.args.number c.args.functions.now) c.index-functions-number.result c.args.state.now c.add_variables.new.state c.in_ok-add_variables.ensures.variables c.add_variables.ensures.events)))
    (stops plain_leaving (λ w. w) c.in_err-leaving.field-0.0 (state_of replies c.run_statements.new.state) (does_all (context_behind c.args.run.now (take c.args.number c.args.functions.now) (plain_function c.index-functions-number.result)) c.args.run.now.turns (plain_stmts c.index-functions-number.result.body) (state_of replies c.add_variables.new.state)) (λ leaving t. goes_with (returned_value leaving) t) c.in_err-leaving.ensures))

pub calling::run_function-returns : goal.calling::run_function-returns
calling::run_function-returns t c =
    let replies = c.args.run.now.replies.now in
    (called-as (context_behind c.args.run.now (take c.args.number c.args.functions.now) (plain_function c.index-functions-number.result)) c.args.run.now.turns (plain_function c.index-functions-number.result) (slice_index_or (callees_behind c.args.run.now [] [] (map plain_function c.args.functions.now)) c.args.number no_callee) c.args.state.now.variables.items (state_of replies c.args.state.now).exchange (state_of replies c.add_variables.new.state) (callee-at c.args.run.now c.args.functions.now c.args.number c.index-functions-number.result no_callee (omega arith) c.index-functions-number.is) (first-is c.args.run.now (take c.args.number c.args.functions.now) c.index-functions-number.result c.args.state.now c.add_variables.new.state c.in_ok-add_variables.ensures.variables c.add_variables.ensures.events)) ∙ (ap (λ q. after q (λ leaving t. goes_with (returned_value leaving) t)) c.in_ok-leaving.ensures ∙ ap (λ w. goes_with w (state_of replies c.run_statements.new.state)) (sym c.returned_value.ensures))

pub calling::run_function-run_statements-requires : goal.calling::run_function-run_statements-requires
calling::run_function-run_statements-requires t c =
    let w = weight-within c.args.functions.now c.args.number c.index-functions-number.result (omega arith) c.index-functions-number.is in (omega arith, tt)
