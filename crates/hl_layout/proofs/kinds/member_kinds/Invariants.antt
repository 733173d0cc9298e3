use Rattle.std.proofs.Common.{◌≡◌, ◌++◌, drop, map}
use Rattle.hl_meaning.specs.Layout.{member_kinds}
use Rattle.hl_meaning.specs.Views.{plain_member}
use Rattle.hl_layout.proofs.kinds.member_kinds.Given as goal

abbrev pub invariant-loop-member : goal.invariant-loop-member
invariant-loop-member l = l.kinds ++ member_kinds l.structs (map plain_member (drop l.member-index l.members)) ≡ member_kinds l.structs (map plain_member l.members)
