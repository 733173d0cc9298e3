use Rattle.std.proofs.Common.{◌∙◌, ap}
use Rattle.hl_meaning.specs.Views.{plain_expr}
use Rattle.hl_values.proofs.FormLemmas.{no_literal-done}
use Rattle.hl_values.proofs.forms.no_literal.Goals as goal

pub returns : goal.returns
returns c =
    let literal = c.if-not-is_literal.ensures in
    let ty = c.in_ok-ty.ensures in
    let new = c.in_ok-new.ensures in
    no_literal-done c.args.value c.get.result.now c.get-2.result.now c.get-3.result.now c.in_ok-ty.ty (plain_expr c.in_ok-new.field-0) c.get.ensures c.get-2.ensures c.get-3.ensures literal ty (ap plain_expr new ∙ c.node-made.ensures)
