use Rattle.std.proofs.Common.{◌∙◌, ap, refl, sym}
use Rattle.std.proofs.lemmas.List.{drop_all}
use Rattle.hl_meaning.specs.Views.{plain_stmts}
use Rattle.hl_inline.specs.UsedUndeclared.{declared_in}
use Rattle.hl_inline.specs.Marking.{marking, plain_usage}
use Rattle.hl_inline.proofs.NotedUses.{undeclared-turn, with-items}
use Rattle.hl_inline.proofs.undeclared_uses.undeclare_all.Goals as goal

pub loop-stmt-init : goal.loop-stmt-init
loop-stmt-init c = λ known marks is. is ∙ ap (λ l. marking (declared_in known (plain_stmts l)) marks) (sym c.as_slice-stmt-items.ensures)

pub loop-stmt-preserved : goal.loop-stmt-preserved
loop-stmt-preserved c = λ known marks is.
    undeclared-turn c.as_slice-stmt-items.result.now c.loop-stmt.stmt-index c.stmt-item.result (plain_usage c.loop-stmt.usage) _ known marks c.loop-stmt-test.true c.stmt-item.is
    (c.loop-stmt.invariant known marks is) refl (λ size k e.
    with-items c.loop-stmt.usage.declared c.undeclare_by.new.declared c.as_mut_slice.result.now c.as_mut_slice.ensures.value c.undeclare_by.auto.declared ∙
    c.undeclare_by.ensures size k (c.as_mut_slice.ensures.value ∙ e))

pub returns : goal.returns
returns c = λ known marks is.
    c.loop-stmt.invariant known marks is ∙ ap (λ l. marking (declared_in known (plain_stmts l)) marks) (drop_all c.loop-stmt.stmt-index c.as_slice-stmt-items.result.now c.loop-stmt-test.false)
