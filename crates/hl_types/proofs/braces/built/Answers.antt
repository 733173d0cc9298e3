use Rattle.std.proofs.Common.{◌≡◌, ◌∙◌, sym, ap, map, length, option_map, arith}
use Rattle.hl_meaning.specs.Trees.{an_expr}
use Rattle.hl_meaning.specs.declared.expression.Form.TheVariants.{Build}
use Rattle.hl_meaning.specs.Views.{plain_exprs, plain_form, plain_ty}
use Rattle.hl_meaning.proofs.Plain.{plain_form-Build}
use Rattle.hl_types.specs.Kinds.{type_kinds}
use Rattle.hl_types.specs.Leaves.{leaves_in}
use Rattle.hl_values.specs.Views.{plain_code_if}
use Rattle.hl_types.proofs.LeafLemmas.{built-none, built-some, kinds-other, kinds_if-is}
use Rattle.hl_types.proofs.braces.built.Goals as goal

pub returns-in_default : goal.returns-in_default
returns-in_default c =
    let kinds = type_kinds c.args.structs.now (plain_ty c.args.ty.now) in
    let counted : c.len.result ≡ length c.args.codes.items = omega (arith, c.len.ensures, c.args.codes.ok.0) in
    built-none (plain_ty c.args.ty.now) c.args.at (leaves_in kinds (map plain_code_if c.args.codes.items))
    (kinds-other kinds c.args.codes.items c.len.result counted (sym c.in_default.is ∙ c.in_ok-kinds.ensures))

pub returns : goal.returns
returns c =
    let kinds = type_kinds c.args.structs.now (plain_ty c.args.ty.now) in
    let listed : c.in-Some.kinds ≡ kinds = kinds_if-is _ kinds c.in-Some.kinds (sym c.in-Some.is ∙ c.in_ok-kinds.ensures) in
    built-some (plain_ty c.args.ty.now) c.args.at (plain_exprs c.in-Some-2.parts) (leaves_in kinds (map plain_code_if c.args.codes.items)) _
    (ap (λ k. leaves_in k (map plain_code_if c.args.codes.items)) (sym (c.as_slice.ensures.value ∙ listed)) ∙ (sym c.in_ok-parts.ensures ∙ ap (option_map plain_exprs) c.in-Some-2.is))
    (c.node.ensures ∙ (ap (λ t. an_expr t c.args.at (plain_form (Build c.in-Some-2.parts))) c.in_ok-ty.ensures ∙ ap (λ f. an_expr (plain_ty c.args.ty.now) c.args.at f) (plain_form-Build c.in-Some-2.parts)))
