use Rattle.std.proofs.Common.{◌∙◌, sym, ap}
use Rattle.std.proofs.lemmas.Result.{IfOk-weaker}
use Rattle.hl_meaning.specs.Views.{plain_part}
use Rattle.hl_values.proofs.StepLemmas.{before-swizzle, joined-other}
use Rattle.hl_values.proofs.steps.merged.Goals as goal

pub returns-in-Swizzle : goal.returns-in-Swizzle
returns-in-Swizzle c =
    IfOk-weaker c.merged_behind.result _ _ (λ merged e. before-swizzle c.in-Swizzle.letters c.args.before.now (plain_part c.args.part.now) merged c.in-Swizzle.is e) c.merged_behind.ensures

pub returns-in_default : goal.returns-in_default
returns-in_default c = joined-other c.args.before.now (plain_part c.args.part.now) c.in_default.not-Swizzle
