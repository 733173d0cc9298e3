use Rattle.std.proofs.Common.{◌∙◌, ap, refl}
use Rattle.hl_meaning.specs.Views.{plain_expr}
use Rattle.hl_inline.specs.Occurrences.{expr_occurrences}
use Rattle.hl_inline.specs.Marking.{mark_occurrences, plain_usage}
use Rattle.hl_inline.proofs.NotedUses.{occurrences-marking, with-items}
use Rattle.hl_inline.proofs.undeclared_uses.note_value.Goals as goal

pub returns : goal.returns
returns c = λ known marks is.
    let occurrences = expr_occurrences (plain_expr c.args.value.now) in
    let old = plain_usage c.args.usage.now in
    occurrences-marking old _ known marks occurrences is refl
    (with-items c.args.usage.now.used_undeclared c.note_expr.new.used_undeclared c.as_mut_slice.result.now c.as_mut_slice.ensures.value c.note_expr.auto.used_undeclared ∙ (c.note_expr.ensures ∙ (ap (λ k. mark_occurrences k occurrences c.as_mut_slice.result.now) c.as_slice.ensures.value ∙ ap (mark_occurrences old.counts occurrences) c.as_mut_slice.ensures.value)))
