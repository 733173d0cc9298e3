use Rattle.std.proofs.Common.{◌∙◌, ap, map}
use Rattle.hl_meaning.specs.Views.{plain_struct}
use Rattle.hl_inline.proofs.Gathering.{copied-end, copied-next}
use Rattle.hl_inline.proofs.parts.copied_structs.Goals as goal

pub loop-structure-preserved : goal.loop-structure-preserved
loop-structure-preserved c =
    copied-next plain_struct c.as_slice-structure-items.result.now c.loop-structure.structure-index c.structure-item.result c.in_ok-copy.copy c.loop-structure.copies _
    c.loop-structure-test.true c.structure-item.is c.loop-structure.invariant c.in_ok-copy.ensures c.in_ok-push.ensures.ok

pub returns : goal.returns
returns c =
    copied-end plain_struct c.as_slice-structure-items.result.now c.loop-structure.structure-index c.loop-structure.copies c.loop-structure-test.false c.loop-structure.invariant ∙
    ap (map plain_struct) c.as_slice-structure-items.ensures.value
