use Rattle.std.proofs.Common.{◌≡◌, map}
use Rattle.hl_rules.specs.DeclarationRules.{have_same_types}
use Rattle.hl_values.specs.ScopeViews.{plain_param}
use Rattle.hl_types.proofs.SignatureLemmas.{same_left}
use Rattle.hl_types.proofs.signatures.have_same_types.Given as goal

abbrev pub invariant-loop-at : goal.invariant-loop-at
invariant-loop-at l = same_left l.at l.params l.others ≡ have_same_types (map plain_param l.params) (map plain_param l.others)
