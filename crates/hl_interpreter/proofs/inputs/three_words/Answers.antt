use Rattle.std.proofs.Common.{◌∙◌, sym}
use Rattle.std.proofs.lemmas.Result.{IfOk-weaker}
use Rattle.hl_interpreter.proofs.Asking.{wrapped-word}
use Rattle.hl_interpreter.proofs.Semantics.{three-same}
use Rattle.hl_interpreter.proofs.inputs.three_words.Goals as goal

pub returns : goal.returns
returns c =
    IfOk-weaker c.from_slice.result _ _
    (λ words e. e ∙ three-same _ _ _ _ _ _ (sym (wrapped-word c.args.x c.ranges.x.fits)) (sym (wrapped-word c.args.y c.ranges.y.fits)) (sym (wrapped-word c.args.z c.ranges.z.fits)))
    c.from_slice.ensures
