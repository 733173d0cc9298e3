use Rattle.std.proofs.Common.{◌∙◌, ap, map}
use Rattle.hl_meaning.specs.Views.{plain_resource}
use Rattle.hl_inline.proofs.Gathering.{copied-end, copied-next}
use Rattle.hl_inline.proofs.parts.copied_resources.Goals as goal

pub loop-resource-preserved : goal.loop-resource-preserved
loop-resource-preserved c =
    copied-next plain_resource c.as_slice-resource-items.result.now c.loop-resource.resource-index c.resource-item.result c.in_ok-copy.copy c.loop-resource.copies _
    c.loop-resource-test.true c.resource-item.is c.loop-resource.invariant c.in_ok-copy.ensures c.in_ok-push.ensures.ok

pub returns : goal.returns
returns c =
    copied-end plain_resource c.as_slice-resource-items.result.now c.loop-resource.resource-index c.loop-resource.copies c.loop-resource-test.false c.loop-resource.invariant ∙
    ap (map plain_resource) c.as_slice-resource-items.ensures.value
