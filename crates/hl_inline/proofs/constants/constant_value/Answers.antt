use Rattle.std.proofs.Common.{◌∙◌, ap}
use Rattle.hl_meaning.specs.Layout.{kinds_of}
use Rattle.hl_meaning.specs.Trees.{build_form}
use Rattle.hl_meaning.specs.Views.{exprs_of, plain_ty}
use Rattle.hl_meaning.proofs.Plain.{plain_form-Build}
use Rattle.hl_inline.specs.InlinedPrograms.{literals}
use Rattle.hl_inline.proofs.GivenForms.{expr-as}
use Rattle.hl_inline.proofs.Growing.{kinds-known}
use Rattle.hl_inline.proofs.constants.constant_value.Goals as goal

pub returns : goal.returns
returns c = λ structs same.
    let v = c.args.constant.now.variable in
    let words = c.as_slice-words.result.now in
    expr-as _ _ _ c.in_ok-ty.ensures
    (plain_form-Build c.in_ok-parts.parts ∙
    ap (λ l. build_form (exprs_of l))
    (c.in_ok-parts.ensures ∙
    (ap (λ k. literals v.at k words) (c.as_slice.ensures.value ∙ (c.in_ok-kinds.ensures ∙ kinds-known c.args.known.now structs (plain_ty v.ty) same)) ∙
    ap (literals v.at (kinds_of structs (plain_ty v.ty))) c.as_slice-words.ensures.value)))
