use Rattle.hl_inline.proofs.Keeping.{kept_same_lane}
use Rattle.hl_inline.proofs.laws.kept_is_same_lane.Goals as goal

pub returns : goal.returns
returns c = kept_same_lane
