use Rattle.std.proofs.Common.{◌∙◌, ap}
use Rattle.hl_rules.specs.Constants.{combined}
use Rattle.hl_rules.specs.Expressions.{binary_code, with_two}
use Rattle.hl_rules.specs.Values.{plain_value}
use Rattle.hl_values.specs.Basics.{production_of}
use Rattle.hl_values.specs.Views.{plain_code_if}
use Rattle.hl_values.proofs.ExpressionLemmas.{known-parts}
use Rattle.hl_values.proofs.parts.binary.Goals as goal

pub returns : goal.returns
returns c =
    let code = c.in_ok-code.ensures in
    known-parts _ _ _ _ _ _ (ap plain_value c.type_of_two-ty.ensures)
    (c.combined-number.ensures ∙ ap (λ m. combined m c.args.left.number c.args.right.number) c.terminal_at.ensures)
    (code ∙ ap (λ m. with_two (binary_code (production_of c.args.operator) c.args.at m) (plain_code_if c.args.left.code) (plain_code_if c.args.right.code)) c.mark_at-sign.ensures)
