use Rattle.std.proofs.Common.{◌∙◌, ap, map}
use Rattle.hl_meaning.specs.Views.{plain_variable}
use Rattle.hl_inline.proofs.Gathering.{copied-end, copied-next}
use Rattle.hl_inline.proofs.parts.copied_variables.Goals as goal

pub loop-variable-preserved : goal.loop-variable-preserved
loop-variable-preserved c =
    copied-next plain_variable c.as_slice-variable-items.result.now c.loop-variable.variable-index c.variable-item.result c.in_ok-copy.copy c.loop-variable.copies _
    c.loop-variable-test.true c.variable-item.is c.loop-variable.invariant c.in_ok-copy.ensures c.in_ok-push.ensures.ok

pub returns : goal.returns
returns c =
    copied-end plain_variable c.as_slice-variable-items.result.now c.loop-variable.variable-index c.loop-variable.copies c.loop-variable-test.false c.loop-variable.invariant ∙
    ap (map plain_variable) c.as_slice-variable-items.ensures.value
