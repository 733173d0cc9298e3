use Rattle.std.proofs.Common.{◌∙◌, ap}
use Rattle.std.proofs.lemmas.Result.{IfOk-weaker}
use Rattle.hl_source.specs.Operations.{map_2, picked, word_as}
use Rattle.hl_interpreter.proofs.memory.value_of.Goals as goal

pub returns : goal.returns
returns c =
    IfOk-weaker c.pick_words.result _ _
    (λ v e. e ∙ ap (picked c.args.at.letters.now) (c.as_slice-2.ensures.value ∙ (c.in_ok-value.ensures ∙ ap (λ k. map_2 word_as k c.args.words.now) (c.as_slice.ensures.value ∙ c.in_ok-kinds.ensures))))
    c.pick_words.ensures
