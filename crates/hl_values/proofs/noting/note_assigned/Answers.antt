use Rattle.std.proofs.Common.{◌∙◌, ap}
use Rattle.hl_rules.specs.Operands.{operator_type}
use Rattle.hl_rules.specs.Sites.{compound_production}
use Rattle.hl_rules.specs.Values.{valued}
use Rattle.hl_values.specs.Basics.{production_of}
use Rattle.hl_values.specs.Noted.{noted_conversion}
use Rattle.hl_values.specs.Views.{plain_type_if, plain_value}
use Rattle.hl_values.proofs.NoteLemmas.{assigned-other, of_two-same}
use Rattle.hl_values.proofs.noting.note_assigned.Goals as goal

pub returns-in_default : goal.returns-in_default
returns-in_default c =
    c.note_conversion-in_default.ensures ∙
    (ap (λ x. noted_conversion x (plain_type_if c.type_of_two-gives.result) (plain_type_if c.args.left.now.ty) c.args.right_at) c.note_written.ensures ∙
    assigned-other c.args.mark c.args.found.now (plain_value c.args.left.now) (plain_value c.args.right.now) c.args.left_at c.args.right_at (plain_type_if c.type_of_two-gives.result) c.in_default.not-Equals
    (c.type_of_two-gives.ensures ∙
    of_two-same (operator_type (production_of c.compound.result)) (operator_type (compound_production c.args.mark)) (valued (plain_type_if c.args.left.now.ty)) (valued (plain_type_if c.args.right.now.ty)) c.compound.ensures.operator))
