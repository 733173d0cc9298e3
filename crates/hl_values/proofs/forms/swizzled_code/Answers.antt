use Rattle.hl_values.specs.Views.{plain_code}
use Rattle.hl_values.proofs.FormLemmas.{swizzled-done}
use Rattle.hl_values.proofs.forms.swizzled_code.Goals as goal

pub returns : goal.returns
returns c =
    let made = c.in_ok-stepped.ensures in
    swizzled-done c.args.at c.args.kind c.args.letters c.in-Some.letters c.components_type-ty.result c.len.result (plain_code c.args.code) (plain_code c.in_ok-stepped.stepped) c.in-Some.is c.components_type-ty.ensures c.len.ensures.value made
