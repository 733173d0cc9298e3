use Rattle.std.proofs.Common.{◌∙◌, ap}
use Rattle.std.specs.Prelude.{unwrap_or}
use Rattle.std.proofs.lemmas.Option.{unwrap_or-slice_get}
use Rattle.hl_values.proofs.steps.letter_at.Goals as goal

pub returns-in-None : goal.returns-in-None
returns-in-None c = let h = c.in-None.ensures in ap (λ o. unwrap_or o 0) h.value ∙ unwrap_or-slice_get c.args.letters.now c.args.at 0
