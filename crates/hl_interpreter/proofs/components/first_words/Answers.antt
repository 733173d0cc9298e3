use Rattle.std.proofs.Common.{◌∙◌, ap, take}
use Rattle.std.proofs.lemmas.List.{take_min}
use Rattle.std.proofs.lemmas.Result.{IfOk-weaker}
use Rattle.hl_interpreter.proofs.components.first_words.Goals as goal

pub returns : goal.returns
returns c = IfOk-weaker c.from_slice.result _ _ (λ l e. e ∙ (ap (λ n. take n c.args.words.now) c.min.ensures ∙ take_min c.args.count c.args.words.now)) c.from_slice.ensures
