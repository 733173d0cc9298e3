use Rattle.std.proofs.Common.{◌∙◌, None, ap, false, sym}
use Rattle.hl_meaning.specs.Trees.{place_type, write_form}
use Rattle.hl_meaning.specs.Views.{plain_expr, plain_location}
use Rattle.hl_meaning.proofs.Plain.{plain_form-Write}
use Rattle.hl_inline.specs.FlatTrees.{flat_run}
use Rattle.hl_inline.specs.Emitting.{reading}
use Rattle.hl_inline.proofs.Callees.{place_type-is}
use Rattle.hl_inline.proofs.FlatPlain.{plain_flat_stmt-Run}
use Rattle.hl_inline.proofs.GivenForms.{expr-as}
use Rattle.hl_inline.proofs.calling.copy_back.Goals as goal

pub returns : goal.returns
returns c =
    let to = c.args.to in
    let place = plain_location to in
    let ty = place_type-is to in
    let number = c.args.number in
    plain_flat_stmt-Run _ ∙
    ap flat_run
    (expr-as _ _ _ (c.in_ok-ty.ensures ∙ sym ty)
    (plain_form-Write to None c.in_ok-common.common c.in_ok-value-2.value false ∙
    (ap (λ t. write_form place None t (plain_expr c.in_ok-value-2.value) false) (c.in_ok-common.ensures ∙ sym ty) ∙
    ap (λ v. write_form place None (place_type place) v false)
    (ap plain_expr c.in_ok-value-2.ensures ∙ (c.in_ok-value.ensures ∙ ap (λ t. reading t c.args.at number) (sym ty))))))
