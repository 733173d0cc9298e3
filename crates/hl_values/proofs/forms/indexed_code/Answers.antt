use Rattle.hl_meaning.specs.Views.{plain_ty}
use Rattle.hl_values.specs.Steps.{element_of}
use Rattle.hl_values.specs.Views.{plain_code}
use Rattle.hl_values.proofs.FormLemmas.{indexed-done, there}
use Rattle.hl_values.proofs.forms.indexed_code.Goals as goal

pub returns : goal.returns
returns c =
    let made = c.in_ok-stepped.ensures in
    let element = c.in_ok-element.ensures in
    indexed-done c.args.at c.args.index c.in-Some.element (plain_ty c.ty.result.now) (plain_code c.args.code) (plain_code c.in_ok-stepped.stepped)
    (there plain_ty c.in_ok-element.field-0 c.in-Some.element (element_of (plain_ty c.ty.result.now)) c.in-Some.is element) c.ty.ensures made
