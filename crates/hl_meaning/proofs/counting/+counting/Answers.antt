use Rattle.std.proofs.Common.{◌≡◌, max, ◌∙◌, ◌<◌, refl, sym, ap, length, arith, rules}
use Rattle.std.proofs.lemmas.List.{take_all}
use Rattle.hl_meaning.specs.Sums.{arg_sums, args_sums, callee_sums, expr_if_sums, expr_sums, form_sums, indexes_sums, location_if_sums, location_sums, part_sums, parts_sums, root_sums, step, stop_all, target_sums, both, node}
use Rattle.hl_meaning.specs.Layout.{words_of}
use Rattle.hl_meaning.specs.Stopping.{stopped}
use Rattle.hl_meaning.specs.Views.{plain_arg, plain_args, plain_expr, plain_form, plain_location, plain_maybe_expr, plain_maybe_location, plain_part, plain_parts, plain_root, plain_structs, plain_target, plain_ty}
use Rattle.hl_meaning.specs.Counters.{counted_by}
use Rattle.hl_meaning.proofs.Plain.{plain_arg-Place, plain_arg-Value, plain_expr-is, plain_form-Atomic, plain_form-Binary, plain_form-Build, plain_form-Call, plain_form-Choose, plain_form-Convert, plain_form-Intrinsic, plain_form-Literal, plain_form-Method, plain_form-Pick, plain_form-Read, plain_form-Unary, plain_form-Write, plain_location-is, plain_part-Index, plain_root-Element, plain_target-Bytes, plain_target-Place}
use Rattle.hl_meaning.proofs.SumLemmas.{all_sums, stop_all-both_left, both_of, stop_all-node, stop_all-step}
use Rattle.hl_meaning.proofs.ListSums.{all_sums-more, args_sums-all, exprs_sums-all, indexes_sums-all, part_sums-nothing, parts_sums-all, root_sums-nothing}
use Rattle.hl_meaning.proofs.counting.+counting.Goals as goal

pub form_sums-returns-in-Literal : goal.form_sums-returns-in-Literal
form_sums-returns-in-Literal t c =
    let k = counted_by c.args.counter.now in
    refl ∙
    sym (ap (λ f. stop_all (form_sums k f)) (ap plain_form c.in-Literal.is ∙ plain_form-Literal _))

pub form_sums-returns-in-Read : goal.form_sums-returns-in-Read
form_sums-returns-in-Read t c =
    let k = counted_by c.args.counter.now in
    c.location_sums.ensures ∙
    sym (ap (λ f. stop_all (form_sums k f)) (ap plain_form c.in-Read.is ∙ plain_form-Read _))

pub form_sums-returns-in-Write : goal.form_sums-returns-in-Write
form_sums-returns-in-Write t c =
    let k = counted_by c.args.counter.now in
    both_of c.both.result c.location_sums-in-Write.result c.expr_sums.result (location_sums k (plain_location c.in-Write.to)) (expr_sums k (plain_expr c.in-Write.value)) c.both.ensures c.location_sums-in-Write.ensures (c.expr_sums.ensures ∙ ap (λ e. stop_all (expr_sums k (plain_expr e))) c.get.ensures) ∙
    sym (ap (λ f. stop_all (form_sums k f)) (ap plain_form c.in-Write.is ∙ plain_form-Write _ _ _ _ _))

pub form_sums-returns-in-Convert : goal.form_sums-returns-in-Convert
form_sums-returns-in-Convert t c =
    let k = counted_by c.args.counter.now in
    (c.expr_sums-in-Convert.ensures ∙ ap (λ e. stop_all (expr_sums k (plain_expr e))) c.get-in-Convert.ensures) ∙
    sym (ap (λ f. stop_all (form_sums k f)) (ap plain_form c.in-Convert.is ∙ plain_form-Convert _))

pub form_sums-returns-in-Unary : goal.form_sums-returns-in-Unary
form_sums-returns-in-Unary t c =
    let k = counted_by c.args.counter.now in
    (c.expr_sums-in-Unary.ensures ∙ ap (λ e. stop_all (expr_sums k (plain_expr e))) c.get-in-Unary.ensures) ∙
    sym (ap (λ f. stop_all (form_sums k f)) (ap plain_form c.in-Unary.is ∙ plain_form-Unary _ _))

pub form_sums-returns-in-Binary : goal.form_sums-returns-in-Binary
form_sums-returns-in-Binary t c =
    let k = counted_by c.args.counter.now in
    both_of c.both-in-Binary.result c.expr_sums-in-Binary.result c.expr_sums-in-Binary-2.result (expr_sums k (plain_expr c.in-Binary.left)) (expr_sums k (plain_expr c.in-Binary.right)) c.both-in-Binary.ensures (c.expr_sums-in-Binary.ensures ∙ ap (λ e. stop_all (expr_sums k (plain_expr e))) c.get-in-Binary.ensures) (c.expr_sums-in-Binary-2.ensures ∙ ap (λ e. stop_all (expr_sums k (plain_expr e))) c.get-in-Binary-2.ensures) ∙
    sym (ap (λ f. stop_all (form_sums k f)) (ap plain_form c.in-Binary.is ∙ plain_form-Binary _ _ _))

pub form_sums-returns-in-Choose : goal.form_sums-returns-in-Choose
form_sums-returns-in-Choose t c =
    let k = counted_by c.args.counter.now in
    both_of c.both-in-Choose.result c.expr_sums-in-Choose-3.result c.both-branches.result (expr_sums k (plain_expr c.in-Choose.cond)) (both (expr_sums k (plain_expr c.in-Choose.yes)) (expr_sums k (plain_expr c.in-Choose.no))) c.both-in-Choose.ensures (c.expr_sums-in-Choose-3.ensures ∙ ap (λ e. stop_all (expr_sums k (plain_expr e))) c.get-in-Choose-3.ensures) (both_of c.both-branches.result c.expr_sums-in-Choose.result c.expr_sums-in-Choose-2.result (expr_sums k (plain_expr c.in-Choose.yes)) (expr_sums k (plain_expr c.in-Choose.no)) c.both-branches.ensures (c.expr_sums-in-Choose.ensures ∙ ap (λ e. stop_all (expr_sums k (plain_expr e))) c.get-in-Choose.ensures) (c.expr_sums-in-Choose-2.ensures ∙ ap (λ e. stop_all (expr_sums k (plain_expr e))) c.get-in-Choose-2.ensures)) ∙
    sym (ap (λ f. stop_all (form_sums k f)) (ap plain_form c.in-Choose.is ∙ plain_form-Choose _ _ _))

pub form_sums-returns-in-Build : goal.form_sums-returns-in-Build
form_sums-returns-in-Build t c =
    let k = counted_by c.args.counter.now in
    c.exprs_sums.ensures ∙
    sym (ap (λ f. stop_all (form_sums k f)) (ap plain_form c.in-Build.is ∙ plain_form-Build _))

pub form_sums-returns-in-Pick : goal.form_sums-returns-in-Pick
form_sums-returns-in-Pick t c =
    let k = counted_by c.args.counter.now in
    both_of c.both-in-Pick.result c.expr_sums-in-Pick.result c.indexes_sums.result (expr_sums k (plain_expr c.in-Pick.value)) (indexes_sums k (plain_parts c.in-Pick.parts)) c.both-in-Pick.ensures (c.expr_sums-in-Pick.ensures ∙ ap (λ e. stop_all (expr_sums k (plain_expr e))) c.get-in-Pick.ensures) c.indexes_sums.ensures ∙
    sym (ap (λ f. stop_all (form_sums k f)) (ap plain_form c.in-Pick.is ∙ plain_form-Pick _ _))

pub form_sums-returns-in-Call : goal.form_sums-returns-in-Call
form_sums-returns-in-Call t c =
    let k = counted_by c.args.counter.now in
    (c.both-in-Call.ensures ∙ (ap (λ s. stop_all (both c.args_sums.result s)) c.callee_sums.ensures ∙ (ap (λ s. stop_all (both s (callee_sums k c.in-Call.function))) c.args_sums.ensures ∙ stop_all-both_left (args_sums k (plain_args c.in-Call.args)) (callee_sums k c.in-Call.function)))) ∙
    sym (ap (λ f. stop_all (form_sums k f)) (ap plain_form c.in-Call.is ∙ plain_form-Call _ _))

pub form_sums-returns-in-Intrinsic : goal.form_sums-returns-in-Intrinsic
form_sums-returns-in-Intrinsic t c =
    let k = counted_by c.args.counter.now in
    c.exprs_sums-in-Intrinsic.ensures ∙
    sym (ap (λ f. stop_all (form_sums k f)) (ap plain_form c.in-Intrinsic.is ∙ plain_form-Intrinsic _ _))

pub form_sums-returns-in-Method : goal.form_sums-returns-in-Method
form_sums-returns-in-Method t c =
    let k = counted_by c.args.counter.now in
    both_of c.both-in-Method.result c.expr_sums-in-Method.result c.expr_if_sums.result (expr_sums k (plain_expr c.in-Method.address)) (expr_if_sums k (plain_maybe_expr c.in-Method.value)) c.both-in-Method.ensures (c.expr_sums-in-Method.ensures ∙ ap (λ e. stop_all (expr_sums k (plain_expr e))) c.get-in-Method.ensures) c.expr_if_sums.ensures ∙
    sym (ap (λ f. stop_all (form_sums k f)) (ap plain_form c.in-Method.is ∙ plain_form-Method _ _ _ _))

pub form_sums-returns-in-Atomic : goal.form_sums-returns-in-Atomic
form_sums-returns-in-Atomic t c =
    let k = counted_by c.args.counter.now in
    both_of c.both-in-Atomic.result c.target_sums.result c.both-values-in-Atomic.result (target_sums k (plain_target c.in-Atomic.target)) (both (expr_if_sums k (plain_maybe_expr c.in-Atomic.compare)) (both (expr_sums k (plain_expr c.in-Atomic.value)) (location_if_sums k (plain_maybe_location c.in-Atomic.original)))) c.both-in-Atomic.ensures c.target_sums.ensures (both_of c.both-values-in-Atomic.result c.expr_if_sums-in-Atomic.result c.both-values.result (expr_if_sums k (plain_maybe_expr c.in-Atomic.compare)) (both (expr_sums k (plain_expr c.in-Atomic.value)) (location_if_sums k (plain_maybe_location c.in-Atomic.original))) c.both-values-in-Atomic.ensures c.expr_if_sums-in-Atomic.ensures (both_of c.both-values.result c.expr_sums-in-Atomic.result c.location_if_sums-written.result (expr_sums k (plain_expr c.in-Atomic.value)) (location_if_sums k (plain_maybe_location c.in-Atomic.original)) c.both-values.ensures (c.expr_sums-in-Atomic.ensures ∙ ap (λ e. stop_all (expr_sums k (plain_expr e))) c.get-in-Atomic.ensures) c.location_if_sums-written.ensures)) ∙
    sym (ap (λ f. stop_all (form_sums k f)) (ap plain_form c.in-Atomic.is ∙ plain_form-Atomic _ _ _ _ _))

pub arg_sums-returns-in-Value : goal.arg_sums-returns-in-Value
arg_sums-returns-in-Value t c =
    let k = counted_by c.args.counter.now in
    c.expr_sums.ensures ∙
    sym (ap (λ f. stop_all (arg_sums k f)) (ap plain_arg c.in-Value.is ∙ plain_arg-Value _))

pub arg_sums-returns-in-Place : goal.arg_sums-returns-in-Place
arg_sums-returns-in-Place t c =
    let k = counted_by c.args.counter.now in
    c.location_sums.ensures ∙
    sym (ap (λ f. stop_all (arg_sums k f)) (ap plain_arg c.in-Place.is ∙ plain_arg-Place _))

pub target_sums-returns-in-Place : goal.target_sums-returns-in-Place
target_sums-returns-in-Place t c =
    let k = counted_by c.args.counter.now in
    c.location_sums.ensures ∙
    sym (ap (λ f. stop_all (target_sums k f)) (ap plain_target c.in-Place.is ∙ plain_target-Place _))

pub target_sums-returns-in-Bytes : goal.target_sums-returns-in-Bytes
target_sums-returns-in-Bytes t c =
    let k = counted_by c.args.counter.now in
    (c.expr_sums.ensures ∙ ap (λ e. stop_all (expr_sums k (plain_expr e))) c.get.ensures) ∙
    sym (ap (λ f. stop_all (target_sums k f)) (ap plain_target c.in-Bytes.is ∙ plain_target-Bytes _ _))

pub part_sums-returns-in-Index : goal.part_sums-returns-in-Index
part_sums-returns-in-Index t c =
    let k = counted_by c.args.counter.now in
    (c.expr_sums.ensures ∙ ap (λ e. stop_all (expr_sums k (plain_expr e))) c.get.ensures) ∙
    sym (ap (λ f. stop_all (part_sums k f)) (ap plain_part c.in-Index.is ∙ plain_part-Index _))

pub part_sums-returns-in-Member : goal.part_sums-returns-in-Member
part_sums-returns-in-Member t c =
    let k = counted_by c.args.counter.now in
    part_sums-nothing k c.args.part.now c.in-Member.is

pub part_sums-returns-in-Member-2 : goal.part_sums-returns-in-Member-2
part_sums-returns-in-Member-2 t c =
    let k = counted_by c.args.counter.now in
    part_sums-nothing k c.args.part.now c.in-Member.is

pub root_sums-returns-in-Element : goal.root_sums-returns-in-Element
root_sums-returns-in-Element t c =
    let k = counted_by c.args.counter.now in
    (c.expr_sums.ensures ∙ ap (λ e. stop_all (expr_sums k (plain_expr e))) c.get.ensures) ∙
    sym (ap (λ f. stop_all (root_sums k f)) (ap plain_root c.in-Element.is ∙ plain_root-Element _ _))

pub root_sums-returns-in-Variable : goal.root_sums-returns-in-Variable
root_sums-returns-in-Variable t c =
    let k = counted_by c.args.counter.now in
    root_sums-nothing k c.args.root.now c.in-Variable.is

pub root_sums-returns-in-Variable-2 : goal.root_sums-returns-in-Variable-2
root_sums-returns-in-Variable-2 t c =
    let k = counted_by c.args.counter.now in
    root_sums-nothing k c.args.root.now c.in-Variable.is

pub root_sums-returns-in-Variable-3 : goal.root_sums-returns-in-Variable-3
root_sums-returns-in-Variable-3 t c =
    let k = counted_by c.args.counter.now in
    root_sums-nothing k c.args.root.now c.in-Variable.is

pub location_sums-returns : goal.location_sums-returns
location_sums-returns t c =
    let k = counted_by c.args.counter.now in
    both_of c.both.result c.root_sums.result c.parts_sums.result (root_sums k (plain_root c.args.place.now.root)) (parts_sums k (plain_parts c.args.place.now.parts))
    c.both.ensures c.root_sums.ensures c.parts_sums.ensures ∙ sym (ap (λ l. stop_all (location_sums k l)) (plain_location-is c.args.place.now))

pub expr_sums-returns : goal.expr_sums-returns
expr_sums-returns t c =
    let k = counted_by c.args.counter.now in
    let words = words_of (plain_structs c.args.counter.now.structs.now) (plain_ty c.args.expr.now.ty) in
    let form = form_sums k (plain_form c.args.expr.now.form) in
    let size : c.max.result ≡ stopped (max 1 words) = (omega (arith, c.max.ensures, c.stopped_words-words.ensures)) in
    c.node.ensures ∙ (ap (λ n. stop_all (node n c.form_sums.result)) size ∙ (ap (λ s. stop_all (node (stopped (max 1 words)) s)) c.form_sums.ensures ∙
    (stop_all-node (max 1 words) form ∙ sym (ap (λ e. stop_all (expr_sums k e)) (plain_expr-is c.args.expr.now)))))

pub exprs_sums-loop-expr-preserved : goal.exprs_sums-loop-expr-preserved
exprs_sums-loop-expr-preserved t c =
    let k = counted_by c.args.counter.now in
    let xs = c.as_slice-expr-items.result.now in
    let within : c.loop-expr.expr-index < length xs = search rules in
    all_sums-more (λ x. expr_sums k (plain_expr x)) xs c.loop-expr.expr-index c.expr-item.result c.loop-expr.sums c.expr_sums.result c.both-sums.result within c.expr-item.is c.loop-expr.invariant c.expr_sums.ensures c.both-sums.ensures

pub exprs_sums-returns : goal.exprs_sums-returns
exprs_sums-returns t c =
    let k = counted_by c.args.counter.now in
    let xs = c.as_slice-expr-items.result.now in
    c.loop-expr.invariant ∙ (ap (λ ys. stop_all (all_sums (λ x. expr_sums k (plain_expr x)) ys)) (take_all c.loop-expr.expr-index xs (omega arith) ∙ c.as_slice-expr-items.ensures) ∙
    ap stop_all (sym (exprs_sums-all k c.args.exprs.now)))

pub args_sums-loop-arg-preserved : goal.args_sums-loop-arg-preserved
args_sums-loop-arg-preserved t c =
    let k = counted_by c.args.counter.now in
    let xs = c.as_slice-arg-items.result.now in
    let within : c.loop-arg.arg-index < length xs = search rules in
    all_sums-more (λ x. arg_sums k (plain_arg x)) xs c.loop-arg.arg-index c.arg-item.result c.loop-arg.sums c.arg_sums.result c.both-sums.result within c.arg-item.is c.loop-arg.invariant c.arg_sums.ensures c.both-sums.ensures

pub args_sums-returns : goal.args_sums-returns
args_sums-returns t c =
    let k = counted_by c.args.counter.now in
    let xs = c.as_slice-arg-items.result.now in
    c.loop-arg.invariant ∙ (ap (λ ys. stop_all (all_sums (λ x. arg_sums k (plain_arg x)) ys)) (take_all c.loop-arg.arg-index xs (omega arith) ∙ c.as_slice-arg-items.ensures) ∙
    ap stop_all (sym (args_sums-all k c.args.args.now)))

pub indexes_sums-loop-part-preserved : goal.indexes_sums-loop-part-preserved
indexes_sums-loop-part-preserved t c =
    let k = counted_by c.args.counter.now in
    let xs = c.as_slice-part-items.result.now in
    let within : c.loop-part.part-index < length xs = search rules in
    all_sums-more (λ x. part_sums k (plain_part x)) xs c.loop-part.part-index c.part-item.result c.loop-part.sums c.part_sums.result c.both-sums.result within c.part-item.is c.loop-part.invariant c.part_sums.ensures c.both-sums.ensures

pub indexes_sums-returns : goal.indexes_sums-returns
indexes_sums-returns t c =
    let k = counted_by c.args.counter.now in
    let xs = c.as_slice-part-items.result.now in
    c.loop-part.invariant ∙ (ap (λ ys. stop_all (all_sums (λ x. part_sums k (plain_part x)) ys)) (take_all c.loop-part.part-index xs (omega arith) ∙ c.as_slice-part-items.ensures) ∙
    ap stop_all (sym (indexes_sums-all k c.args.parts.now)))

pub parts_sums-loop-part-preserved : goal.parts_sums-loop-part-preserved
parts_sums-loop-part-preserved t c =
    let k = counted_by c.args.counter.now in
    let xs = c.as_slice-part-items.result.now in
    let within : c.loop-part.part-index < length xs = search rules in
    all_sums-more (λ x. step 1 (part_sums k (plain_part x))) xs c.loop-part.part-index c.part-item.result c.loop-part.sums c.step.result c.both-sums.result within c.part-item.is c.loop-part.invariant (c.step.ensures ∙ (ap (λ s. stop_all (step 1 s)) c.part_sums.ensures ∙ stop_all-step (part_sums k (plain_part c.part-item.result)))) c.both-sums.ensures

pub parts_sums-returns : goal.parts_sums-returns
parts_sums-returns t c =
    let k = counted_by c.args.counter.now in
    let xs = c.as_slice-part-items.result.now in
    c.loop-part.invariant ∙ (ap (λ ys. stop_all (all_sums (λ x. step 1 (part_sums k (plain_part x))) ys)) (take_all c.loop-part.part-index xs (omega arith) ∙ c.as_slice-part-items.ensures) ∙
    ap stop_all (sym (parts_sums-all k c.args.parts.now)))

pub exprs_sums-loop-expr-init : goal.exprs_sums-loop-expr-init
exprs_sums-loop-expr-init t c = refl

pub args_sums-loop-arg-init : goal.args_sums-loop-arg-init
args_sums-loop-arg-init t c = refl

pub indexes_sums-loop-part-init : goal.indexes_sums-loop-part-init
indexes_sums-loop-part-init t c = refl

pub parts_sums-loop-part-init : goal.parts_sums-loop-part-init
parts_sums-loop-part-init t c = refl
