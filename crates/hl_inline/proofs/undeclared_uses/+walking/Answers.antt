use Rattle.std.proofs.Common.{◌∙◌, ap, refl, sym, take}
use Rattle.std.proofs.lemmas.List.{take_all}
use Rattle.std.proofs.lemmas.Result.{on_ok_weaker}
use Rattle.std.specs.Prelude.{option_map}
use Rattle.hl_meaning.specs.Views.{plain_expr, plain_maybe_stmt, plain_stmt, plain_stmts}
use Rattle.hl_meaning.proofs.Plain.{plain_stmt-Block, plain_stmt-Break, plain_stmt-Continue, plain_stmt-Do, plain_stmt-For, plain_stmt-If, plain_stmt-Local, plain_stmt-Return, plain_stmt-Run, plain_stmt-While}
use Rattle.hl_inline.specs.UsedUndeclared.{declared_in, undeclared, used_undeclared, used_undeclared_if, used_undeclared_in}
use Rattle.hl_inline.specs.Occurrences.{expr_occurrences, expr_option_occurrences}
use Rattle.hl_inline.specs.Marking.{mark_all, marking, plain_usage}
use Rattle.hl_inline.proofs.NotedUses.{four-marked, noted-turn, then-marked, three-marked, with-items}
use Rattle.hl_inline.proofs.undeclared_uses.+walking.Goals as goal

pub note_stmts-loop-stmt-init : goal.note_stmts-loop-stmt-init
note_stmts-loop-stmt-init t c = λ known marks is. is

pub note_stmts-loop-stmt-preserved : goal.note_stmts-loop-stmt-preserved
note_stmts-loop-stmt-preserved t c = λ known marks is.
    let xs = c.as_slice-stmt-items.result.now in
    let before = plain_stmts (take c.loop-stmt.stmt-index xs) in
    noted-turn xs c.loop-stmt.stmt-index c.stmt-item.result (plain_usage c.note_stmt.new.usage) _ known marks c.loop-stmt-test.true c.stmt-item.is
    (c.in_ok-note_stmt.ensures (declared_in known before) (mark_all (used_undeclared_in known before) marks) (c.loop-stmt.invariant known marks is)) refl
    (λ size k e.
    with-items c.note_stmt.new.usage.declared c.declare_by.new.declared c.as_mut_slice.result.now c.as_mut_slice.ensures.value c.declare_by.auto.declared ∙
    c.in_ok-declare_by.ensures size k (c.as_mut_slice.ensures.value ∙ e))

pub note_stmts-returns : goal.note_stmts-returns
note_stmts-returns t c = λ known marks is.
    c.loop-stmt.invariant known marks is ∙
    ap (λ l. marking (declared_in known (plain_stmts l)) (mark_all (used_undeclared_in known (plain_stmts l)) marks))
    (take_all c.loop-stmt.stmt-index c.as_slice-stmt-items.result.now c.loop-stmt-test.false ∙ c.as_slice-stmt-items.ensures)

pub note_stmt-returns-in-Block : goal.note_stmt-returns-in-Block
note_stmt-returns-in-Block t c = λ known marks is.
    on_ok_weaker c.note_block.result (λ e. e ∙ ap (λ s. marking known (mark_all (used_undeclared known s) marks)) (sym (ap plain_stmt c.in-Block.is ∙ plain_stmt-Block _))) (c.note_block.ensures known marks is)

pub note_stmt-returns-in-Local : goal.note_stmt-returns-in-Local
note_stmt-returns-in-Local t c = λ known marks is. c.note_value_if.ensures known marks is ∙ ap (λ s. marking known (mark_all (used_undeclared known s) marks)) (sym (ap plain_stmt c.in-Local.is ∙ plain_stmt-Local _ _))

pub note_stmt-returns-in-Run : goal.note_stmt-returns-in-Run
note_stmt-returns-in-Run t c = λ known marks is. c.note_value.ensures known marks is ∙ ap (λ s. marking known (mark_all (used_undeclared known s) marks)) (sym (ap plain_stmt c.in-Run.is ∙ plain_stmt-Run _))

pub note_stmt-returns-in_ok-note_stmt-in-If : goal.note_stmt-returns-in_ok-note_stmt-in-If
note_stmt-returns-in_ok-note_stmt-in-If t c = λ known marks is.
    let first = undeclared known (expr_occurrences (plain_expr c.in-If.cond)) in
    let second = used_undeclared known (plain_stmt c.in-If.yes) in
    let third = used_undeclared_if known (plain_maybe_stmt c.in-If.no) in
    let between = mark_all first marks in
    on_ok_weaker c.note_stmt_if.result
    (λ e. e ∙ (three-marked known first second third marks ∙ ap (λ s. marking known (mark_all (used_undeclared known s) marks)) (sym (ap plain_stmt c.in-If.is ∙ plain_stmt-If _ _ _))))
    (c.note_stmt_if.ensures known (mark_all second between)
    (c.in_ok-note_stmt-in-If.ensures known between (c.note_value-in-If.ensures known marks is) ∙ ap (λ s. marking known (mark_all (used_undeclared known (plain_stmt s)) between)) c.get.ensures))

pub note_stmt-returns-in_ok-note_stmt-in-For : goal.note_stmt-returns-in_ok-note_stmt-in-For
note_stmt-returns-in_ok-note_stmt-in-For t c = λ known marks is.
    let inner = declared_in known (plain_stmts c.in-For.init) in
    let first = used_undeclared_in known (plain_stmts c.in-For.init) in
    let second = undeclared inner (expr_option_occurrences (option_map plain_expr c.in-For.cond)) in
    let third = undeclared inner (expr_option_occurrences (option_map plain_expr c.in-For.step)) in
    let fourth = used_undeclared inner (plain_stmt c.in-For.body) in
    let m1 = mark_all first marks in
    let m2 = mark_all second m1 in
    let m3 = mark_all third m2 in
    c.undeclare_all.ensures known (mark_all fourth m3)
    (c.in_ok-note_stmt-in-For.ensures inner m3 (c.note_value_if-in-For-2.ensures inner m2 (c.note_value_if-in-For.ensures inner m1 (c.in_ok-note_stmts-in-For.ensures known marks is))) ∙
    ap (λ s. marking inner (mark_all (used_undeclared inner (plain_stmt s)) m3)) c.get-in-For.ensures) ∙
    (four-marked known first second third fourth marks ∙ ap (λ s. marking known (mark_all (used_undeclared known s) marks)) (sym (ap plain_stmt c.in-For.is ∙ plain_stmt-For _ _ _ _)))

pub note_stmt-returns-in-While : goal.note_stmt-returns-in-While
note_stmt-returns-in-While t c = λ known marks is.
    let first = undeclared known (expr_occurrences (plain_expr c.in-While.cond)) in
    let second = used_undeclared known (plain_stmt c.in-While.body) in
    let between = mark_all first marks in
    on_ok_weaker c.note_stmt-in-While.result
    (λ e. e ∙ (ap (λ s. marking known (mark_all (used_undeclared known (plain_stmt s)) between)) c.get-in-While.ensures ∙ (then-marked known first second marks ∙ ap (λ s. marking known (mark_all (used_undeclared known s) marks)) (sym (ap plain_stmt c.in-While.is ∙ plain_stmt-While _ _)))))
    (c.note_stmt-in-While.ensures known between (c.note_value-in-While.ensures known marks is))

pub note_stmt-returns-in_ok-note_stmt-in-Do : goal.note_stmt-returns-in_ok-note_stmt-in-Do
note_stmt-returns-in_ok-note_stmt-in-Do t c = λ known marks is.
    let first = used_undeclared known (plain_stmt c.in-Do.body) in
    let second = undeclared known (expr_occurrences (plain_expr c.in-Do.cond)) in
    c.note_value-in-Do.ensures known (mark_all first marks)
    (c.in_ok-note_stmt-in-Do.ensures known marks is ∙ ap (λ s. marking known (mark_all (used_undeclared known (plain_stmt s)) marks)) c.get-in-Do.ensures) ∙
    (then-marked known first second marks ∙ ap (λ s. marking known (mark_all (used_undeclared known s) marks)) (sym (ap plain_stmt c.in-Do.is ∙ plain_stmt-Do _ _)))

pub note_stmt-returns-in-Return : goal.note_stmt-returns-in-Return
note_stmt-returns-in-Return t c = λ known marks is. c.note_value_if-in-Return.ensures known marks is ∙ ap (λ s. marking known (mark_all (used_undeclared known s) marks)) (sym (ap plain_stmt c.in-Return.is ∙ plain_stmt-Return _))

pub note_stmt-returns-in-Break : goal.note_stmt-returns-in-Break
note_stmt-returns-in-Break t c = λ known marks is. is ∙ ap (λ s. marking known (mark_all (used_undeclared known s) marks)) (sym (ap plain_stmt c.in-Break.is ∙ plain_stmt-Break))

pub note_stmt-returns-in-Continue : goal.note_stmt-returns-in-Continue
note_stmt-returns-in-Continue t c = λ known marks is. is ∙ ap (λ s. marking known (mark_all (used_undeclared known s) marks)) (sym (ap plain_stmt c.in-Continue.is ∙ plain_stmt-Continue))
