use Rattle.lane_core.proofs.Follows.{same_lane_trans}
use Rattle.lane_core.proofs.laws.same_lane_is_transitive.Goals as goal

pub returns : goal.returns
returns c = same_lane_trans
