use Rattle.std.proofs.Common.{◌∙◌, refl, ap, None}
use Rattle.hl_rules.specs.ExpressionRules.{is_not_indexed, is_past}
use Rattle.hl_types.proofs.WholeLemmas.{judged-with}
use Rattle.hl_types.proofs.indexes.note_index.Goals as goal

pub returns : goal.returns
returns c =
    judged-with 31 c.args.at _ _ _ _ _ c.note_if-4.ensures c.needs_number.ensures
    (judged-with 30 c.args.at _ _ _ _ _ c.note_if-3.ensures (c.is_past.ensures ∙ ap (λ o. is_past c.args.index.now.number o) c.valued-2.ensures)
    (judged-with 29 c.args.at _ _ _ _ _ c.note_if-2.ensures c.is_no_scalar.ensures
    (judged-with 28 c.args.at _ _ _ _ _ c.note_if.ensures (c.is_not_indexed.ensures ∙ ap (λ o. is_not_indexed None o) c.valued.ensures) refl)))
