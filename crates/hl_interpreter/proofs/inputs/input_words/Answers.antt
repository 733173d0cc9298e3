use Rattle.std.proofs.Common.{◌∙◌, ap, take}
use Rattle.std.proofs.lemmas.Result.{IfOk-weaker}
use Rattle.hl_interpreter.proofs.inputs.input_words.Goals as goal

pub returns : goal.returns
returns c =
    IfOk-weaker c.first_words.result _ _
    (λ words e. e ∙ (ap (λ n. take n c.as_slice.result.now) c.parameter_count.ensures ∙ ap (take _) (c.as_slice.ensures.value ∙ c.in_ok-words.ensures)))
    c.first_words.ensures
