use Rattle.std.proofs.Common.{◌∙◌, ap, map, suc}
use Rattle.std.proofs.lemmas.Result.{on_ok_weaker}
use Rattle.hl_meaning.specs.Views.{plain_ty, plain_variable}
use Rattle.hl_inline.specs.Building.{plain_fresh}
use Rattle.hl_inline.specs.Fresh.{Fresh, nameless, with_variables}
use Rattle.hl_inline.specs.InlinedCalls.{result_variables}
use Rattle.hl_inline.proofs.Growing.{variables-then}
use Rattle.hl_inline.proofs.calling.add_instance.Goals as goal

abbrev renamed : Fresh → Fresh
renamed fresh = record fresh { names = suc fresh.names }

pub returns : goal.returns
returns c = λ k.
    let result = result_variables (plain_ty c.args.ty.now) c.args.at in
    let first = renamed (plain_fresh c.args.fresh.now) in
    on_ok_weaker c.add_result.result
    (λ e. e ∙
    (ap (with_variables result)
    (c.in_ok-add_nameless.ensures ∙
    (ap (with_variables (map nameless (map plain_variable c.as_slice.result.now))) c.in_ok-take_name.ensures.fresh ∙ ap (λ l. with_variables (map nameless (map plain_variable l)) first) c.as_slice.ensures.value)) ∙
    variables-then (map nameless (map plain_variable c.args.callee.now.variables)) result first))
    c.add_result.ensures
