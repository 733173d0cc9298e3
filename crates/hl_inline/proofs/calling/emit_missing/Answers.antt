use Rattle.std.proofs.Common.{◌∙◌, ◌∷◌, ◌++◌, [], ap, sym}
use Rattle.std.proofs.lemmas.Result.{IfOk-weaker}
use Rattle.hl_meaning.specs.Trees.{an_expr}
use Rattle.hl_meaning.specs.Views.{plain_form, plain_ty}
use Rattle.hl_inline.specs.Building.{plain_code, plain_fresh, valued}
use Rattle.hl_inline.specs.FlatTrees.{flat_block, flat_named}
use Rattle.hl_inline.specs.FlatViews.{flat_stmts_of}
use Rattle.hl_inline.specs.Fresh.{with_variables}
use Rattle.hl_inline.specs.InlinedCalls.{result_variables}
use Rattle.hl_inline.proofs.Callees.{missing-call}
use Rattle.hl_inline.proofs.calling.emit_missing.Goals as goal

pub returns : goal.returns
returns c =
    let ty = plain_ty c.args.ty.now in
    let at = c.args.at in
    let code = plain_code c.args.code.now in
    let grown = plain_code c.add_named_block.new.code in
    let now = plain_fresh c.add_result.new.fresh in
    let name = c.in_ok-name.name in
    IfOk-weaker c.read_result.result _ _
    (λ m e. λ i args.
    missing-call i args ty at code grown (plain_fresh c.args.fresh.now) now c.next-number.result name (plain_form m.form) c.next-number.ensures c.in_ok-name.ensures.name e.0
    (c.in_ok-add_result.ensures ∙ ap (with_variables (result_variables ty at)) c.in_ok-name.ensures.fresh)
    (c.in_ok-add_named_block.ensures ∙ ap (λ l. code ++ flat_named name (flat_block (flat_stmts_of (plain_code l))) ∷ []) c.new.ensures) ∙
    ap (λ b. valued grown (an_expr ty at (plain_form m.form)) b now) (sym e.1))
    c.read_result.ensures
