use Rattle.std.proofs.Common.{◌∙◌, ap}
use Rattle.hl_meaning.specs.Views.{plain_expr}
use Rattle.hl_inline.specs.Building.{plain_code}
use Rattle.hl_inline.specs.FlatTrees.{flat_if}
use Rattle.hl_inline.specs.FlatViews.{plain_flat_stmt, plain_maybe_flat_stmt}
use Rattle.hl_inline.specs.EmittedCode.{as_one}
use Rattle.hl_inline.proofs.FlatPlain.{plain_flat_stmt-If}
use Rattle.hl_inline.proofs.made.choice.Goals as goal

pub returns : goal.returns
returns c =
    let cond = plain_expr c.args.cond in
    plain_flat_stmt-If c.args.cond c.in_ok-yes.yes c.in_ok-no.no ∙
    (ap (λ s. flat_if cond s (plain_maybe_flat_stmt c.in_ok-no.no)) (ap plain_flat_stmt c.in_ok-yes.ensures ∙ c.as_one.ensures) ∙
    ap (flat_if cond (as_one (plain_code c.args.consequent))) c.in_ok-no.ensures)
