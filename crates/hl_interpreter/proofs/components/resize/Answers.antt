use Rattle.std.proofs.Common.{◌∙◌, ap, sym, replicate, take}
use Rattle.std.proofs.lemmas.Result.{IfOk-weaker}
use Rattle.hl_interpreter.proofs.Values.{resized-other, resized-scalar}
use Rattle.hl_interpreter.proofs.components.resize.Goals as goal

pub returns-in-Scalar : goal.returns-in-Scalar
returns-in-Scalar c =
    IfOk-weaker c.repeat_word.result _ _
    (λ words e. e ∙ (ap (λ n. replicate n c.word_at.result) c.component_count-count.ensures ∙ (ap (replicate _) c.word_at.ensures ∙
    sym (resized-scalar c.args.from.now c.args.to.now c.in-Scalar.field-0 c.args.words.now c.in-Scalar.is))))
    c.repeat_word.ensures

pub returns-in_default : goal.returns-in_default
returns-in_default c =
    IfOk-weaker c.first_words.result _ _
    (λ words e. e ∙ (ap (λ n. take n c.args.words.now) c.component_count-count.ensures ∙
    sym (resized-other c.args.from.now c.args.to.now c.args.words.now c.in_default.not-Scalar)))
    c.first_words.ensures
