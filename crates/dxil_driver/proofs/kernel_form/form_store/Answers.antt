use Rattle.std.proofs.Common.{◌∙◌}
use Rattle.dxil_driver.proofs.HeldForms.{form-none, method-loads, method-stored}
use Rattle.dxil_driver.proofs.kernel_form.form_store.Goals as goal

pub returns-in-Some : goal.returns-in-Some
returns-in-Some c =
    c.one_word.ensures ∙
    method-stored c.args.form.now c.in-Method.resource c.in-Method.count c.in-Method.address c.in-Method.value c.in-Some.value c.get.result.now c.get-in-Some.result.now c.in-Method.is c.in-Some.is c.get.ensures c.get-in-Some.ensures

pub returns-in-None : goal.returns-in-None
returns-in-None c = method-loads c.args.form.now c.in-Method.resource c.in-Method.count c.in-Method.address c.in-Method.value c.in-Method.is c.in-None.is

pub returns-in_default : goal.returns-in_default
returns-in_default c = form-none c.args.form.now c.in_default.not-Method
