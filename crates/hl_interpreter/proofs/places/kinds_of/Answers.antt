use Rattle.std.proofs.Common.{◌∙◌, ap}
use Rattle.std.proofs.lemmas.Result.{IfOk-weaker}
use Rattle.hl_meaning.specs.Layout.{kinds_in, kinds_of}
use Rattle.hl_meaning.specs.Views.{plain_ty}
use Rattle.hl_interpreter.proofs.places.kinds_of.Goals as goal

pub returns : goal.returns
unfolding kinds_of
returns c =
    IfOk-weaker c.kinds_in.result _ _ (λ kinds e. e ∙ ap (λ all. kinds_in all (plain_ty c.args.ty.now)) c.args.run.now.known) c.kinds_in.ensures
