use Rattle.std.proofs.lemmas.Result.{IfOk-weaker}
use Rattle.dxil_driver.proofs.Chosen.{entry_first, target_first}
use Rattle.dxil_driver.proofs.options.Options.from_two.Goals as goal

pub returns-then-names_entry : goal.returns-then-names_entry
returns-then-names_entry c =
    IfOk-weaker c.with_target.result _ _ (entry_first c.args.first.now c.args.one.now c.args.second.now c.args.other.now c.if-names_entry.ensures c.named_target.result c.named_target.ensures) c.with_target.ensures

pub returns-then-names_entry-2 : goal.returns-then-names_entry-2
returns-then-names_entry-2 c =
    IfOk-weaker c.with_target-then-names_entry-2.result _ _ (target_first c.args.first.now c.args.one.now c.args.second.now c.args.other.now c.if-names_entry-2.ensures c.named_target-then-names_entry-2.result c.named_target-then-names_entry-2.ensures) c.with_target-then-names_entry-2.ensures
