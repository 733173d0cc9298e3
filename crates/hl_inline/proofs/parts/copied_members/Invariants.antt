use Rattle.std.proofs.Common.{◌≡◌, map, take}
use Rattle.hl_meaning.specs.Views.{plain_member}
use Rattle.hl_inline.proofs.parts.copied_members.Given as goal

abbrev pub invariant-loop-member : goal.invariant-loop-member
invariant-loop-member l = map plain_member l.copies ≡ map plain_member (take l.member-index l.member-items)
