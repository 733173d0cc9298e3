use Rattle.std.proofs.Common.{◌∙◌, ◌++◌, ap, sym}
use Rattle.hl_inline.specs.Building.{plain_code}
use Rattle.hl_inline.specs.FlatTrees.{flat_input}
use Rattle.hl_inline.specs.FlatViews.{plain_flat_stmt}
use Rattle.hl_inline.proofs.FlatPlain.{plain_flat_stmt-Input}
use Rattle.hl_inline.proofs.Gathering.{mapped-more}
use Rattle.hl_inline.proofs.Growing.{inputs-some}
use Rattle.hl_inline.proofs.entry.set_input.Goals as goal

pub returns-in_ok-push-in-Some : goal.returns-in_ok-push-in-Some
returns-in_ok-push-in-Some c =
    mapped-more plain_flat_stmt c.args.code.now _ _ _ c.in_ok-push-in-Some.ensures.ok (plain_flat_stmt-Input _ _ ∙ ap (λ n. flat_input n c.in-Some.semantic) c.in_ok-variable-in-Some.ensures) ∙
    ap (λ l. plain_code c.args.code.now ++ l) (sym (inputs-some c.args.first c.args.parameter.now c.in-Some.semantic c.in-Some.is))
