use Rattle.std.proofs.Common.{◌∙◌, ◌++◌, ap, drop}
use Rattle.std.proofs.lemmas.Result.{on_ok_weaker}
use Rattle.hl_meaning.specs.Layout.{repeated}
use Rattle.hl_types.proofs.kinds.repeat.Goals as goal

pub returns : goal.returns
returns c =
    on_ok_weaker c.add_all.result
    (λ e. e ∙ ap (λ l. c.args.kinds.now ++ repeated c.args.more l) (c.as_slice-2.ensures.value ∙ (c.in_ok-part.ensures ∙ ap (drop c.args.start) c.as_slice.ensures.value)))
    c.add_all.ensures
