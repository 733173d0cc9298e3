use Rattle.std.proofs.Common.{◌∙◌, sym, ap}
use Rattle.std.specs.Option.{is_none, option_copied}
use Rattle.hl_meaning.specs.Views.{plain_ty}
use Rattle.hl_rules.specs.ExpressionRules.{is_no_swizzle}
use Rattle.hl_rules.specs.Values.{letters_within}
use Rattle.hl_values.specs.Basics.{basic_ty}
use Rattle.hl_values.specs.Views.{plain_type_if}
use Rattle.hl_types.proofs.DotLemmas.{none-found, swizzle-basic, swizzle-other}
use Rattle.hl_types.proofs.dots.is_no_swizzle.Goals as goal

pub returns-in_ok-letters-in-Some-of : goal.returns-in_ok-letters-in-Some-of
returns-in_ok-letters-in-Some-of c =
    let h = c.in_ok-letters-in-Some-of.ensures in
    none-found _ c.is_none.result c.is_none.ensures ∙
    (ap is_none (h.letters ∙ ap (λ n. letters_within n c.args.name.now) c.component_count.ensures) ∙
    (sym (swizzle-basic c.args.name.now (plain_ty c.in-Some.ty.now) (basic_ty c.in-Some-of.basic) c.in-Some-of.ensures) ∙
    sym (ap (λ o. is_no_swizzle c.args.name.now (plain_type_if (option_copied o))) c.in-Some.is)))

pub returns-in-None : goal.returns-in-None
returns-in-None c =
    swizzle-other c.args.name.now (plain_ty c.in-Some.ty.now) c.in-None.ensures ∙
    sym (ap (λ o. is_no_swizzle c.args.name.now (plain_type_if (option_copied o))) c.in-Some.is)
