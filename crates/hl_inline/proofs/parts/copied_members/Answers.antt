use Rattle.std.proofs.Common.{◌∙◌, ap, map}
use Rattle.hl_meaning.specs.Views.{plain_member}
use Rattle.hl_inline.proofs.Gathering.{copied-end, copied-next}
use Rattle.hl_inline.proofs.parts.copied_members.Goals as goal

pub loop-member-preserved : goal.loop-member-preserved
loop-member-preserved c =
    copied-next plain_member c.as_slice-member-items.result.now c.loop-member.member-index c.member-item.result c.in_ok-copy.copy c.loop-member.copies _
    c.loop-member-test.true c.member-item.is c.loop-member.invariant c.in_ok-copy.ensures c.in_ok-push.ensures.ok

pub returns : goal.returns
returns c =
    copied-end plain_member c.as_slice-member-items.result.now c.loop-member.member-index c.loop-member.copies c.loop-member-test.false c.loop-member.invariant ∙
    ap (map plain_member) c.as_slice-member-items.ensures.value
