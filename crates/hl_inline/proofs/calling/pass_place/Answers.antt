use Rattle.std.proofs.Common.{◌∙◌, ◌∷◌, ◌++◌, [], ap}
use Rattle.std.proofs.lemmas.Result.{on_ok_weaker}
use Rattle.hl_inline.specs.Building.{plain_code}
use Rattle.hl_inline.specs.FlatTrees.{flat_local}
use Rattle.hl_inline.proofs.FlatPlain.{plain_flat_stmt-Local}
use Rattle.hl_inline.proofs.calling.pass_place.Goals as goal

pub returns-clause-code : goal.returns-clause-code
returns-clause-code c =
    on_ok_weaker c.add-2.result
    (λ e. c.in_ok-add.ensures ∙ ap (λ s. plain_code c.args.code.now ++ s ∷ []) (plain_flat_stmt-Local _ _ ∙ ap (flat_local c.args.number) c.in_ok-init.ensures))
    c.add-2.ensures

pub returns-clause-copies : goal.returns-clause-copies
returns-clause-copies c =
    on_ok_weaker c.add-2.result (λ e. e ∙ ap (λ s. plain_code c.args.copies.now ++ s ∷ []) c.in_ok-written.ensures) c.add-2.ensures
