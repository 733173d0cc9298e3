use Rattle.std.proofs.Common.{◌∙◌, sym, ap, false}
use Rattle.std.proofs.lemmas.Result.{IfOk-weaker}
use Rattle.hl_rules.specs.Expressions.{assignment_code, compound_code}
use Rattle.hl_rules.specs.Sites.{compound_production}
use Rattle.hl_values.specs.Basics.{production_of}
use Rattle.hl_values.specs.Views.{plain_code, plain_code_if}
use Rattle.hl_values.proofs.FormLemmas.{assignment-other, compound-same, two-there}
use Rattle.hl_values.proofs.forms.assignment_code.Goals as goal

pub returns-in_default-mark : goal.returns-in_default-mark
returns-in_default-mark c =
    let l = plain_code c.in-Some.left in
    let r = plain_code c.in-Some-right.right in
    IfOk-weaker c.compound_code.result _ _
    (λ code e. e ∙ (ap (λ op. compound_code (production_of c.compound.result) c.args.at op false (plain_code c.in-Some.left) (plain_code c.in-Some-right.right)) c.compound_mark.ensures ∙
    (compound-same (production_of c.compound.result) (compound_production c.args.mark) c.args.at _ false (plain_code c.in-Some.left) (plain_code c.in-Some-right.right) c.compound.ensures.operand ∙
    (sym (assignment-other c.args.mark c.args.at (plain_code c.in-Some.left) (plain_code c.in-Some-right.right) c.in_default-mark.not-Equals) ∙
    two-there (assignment_code c.args.mark c.args.at) (plain_code_if c.args.left) (plain_code_if c.args.right) (plain_code c.in-Some.left) (plain_code c.in-Some-right.right) (ap (λ o. plain_code_if o) (sym c.in-Some.is)) (ap (λ o. plain_code_if o) (sym c.in-Some-right.is))))))
    c.compound_code.ensures
