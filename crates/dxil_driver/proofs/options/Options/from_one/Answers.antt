use Rattle.std.proofs.Common.{◌∷◌, [], sym, subst}
use Rattle.std.proofs.lemmas.Result.{IfOk-weaker}
use Rattle.dxil_driver.specs.Options.{Chooses, an_entry}
use Rattle.dxil_driver.proofs.Chosen.{one_target}
use Rattle.dxil_driver.proofs.options.Options.from_one.Goals as goal

pub returns-then-names_entry : goal.returns-then-names_entry
returns-then-names_entry c =
    subst (Chooses (c.args.option.now ∷ c.args.value.now ∷ [])) (sym c.in_ok-chosen.ensures) (an_entry c.args.option.now c.args.value.now c.if-names_entry.ensures)

pub returns : goal.returns
returns c =
    IfOk-weaker c.with_target.result _ _ (one_target c.args.option.now c.args.value.now c.if-names_entry.ensures c.named_target.result c.named_target.ensures) c.with_target.ensures
