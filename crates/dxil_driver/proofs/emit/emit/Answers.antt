use Rattle.std.proofs.lemmas.Result.{IfOk-weaker}
use Rattle.dxil_driver.proofs.EmittedFacts.{is_whole, is_listed, has_no_waves, has_lane}
use Rattle.dxil_driver.proofs.emit.emit.Goals as goal

pub returns-clause-emitted : goal.returns-clause-emitted
returns-clause-emitted c =
    rw (c.as_slice.ensures.value, c.as_slice-2.ensures.value) at c.emit_module.ensures.emitted

pub returns-clause-whole : goal.returns-clause-whole
returns-clause-whole c =
    IfOk-weaker c.emit_module.result _ _ (is_whole c.args.form.now.entry c.args.form.now.buffer c.args.form.now.threads c.args.form.now.stores) (returns-clause-emitted c)

pub returns-clause-waves : goal.returns-clause-waves
returns-clause-waves c =
    IfOk-weaker c.emit_module.result _ _ (has_no_waves c.args.form.now.entry c.args.form.now.buffer c.args.form.now.threads c.args.form.now.stores) (returns-clause-emitted c)

pub returns-clause-lane : goal.returns-clause-lane
returns-clause-lane c =
    IfOk-weaker c.emit_module.result _ _ (has_lane c.args.form.now.entry c.args.form.now.buffer c.args.form.now.threads c.args.form.now.stores) (returns-clause-emitted c)

pub returns-clause-listed : goal.returns-clause-listed
returns-clause-listed c =
    IfOk-weaker c.emit_module.result _ _ (is_listed c.args.form.now.entry c.args.form.now.buffer c.args.form.now.threads c.args.form.now.stores) (returns-clause-emitted c)
