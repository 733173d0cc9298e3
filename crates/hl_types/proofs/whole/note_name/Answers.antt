use Rattle.std.proofs.Common.{◌∙◌, refl, ap, is_some}
use Rattle.hl_rules.specs.Intrinsics.{intrinsic_named}
use Rattle.hl_types.proofs.WholeLemmas.{judged-with}
use Rattle.hl_types.proofs.whole.note_name.Goals as goal

pub returns : goal.returns
returns c =
    judged-with 13 c.args.name _ _ _ _ _ c.note_if-4.ensures c.is_entry_again.ensures
    (judged-with 12 c.args.name _ _ _ _ _ c.note_if-3.ensures (c.is_intrinsic.ensures ∙ ap (λ n. is_some (intrinsic_named n)) c.text_at.ensures)
    (judged-with 11 c.args.name _ _ _ _ _ c.note_if-2.ensures c.is_declared_again.ensures
    (judged-with 1 c.args.name _ _ _ _ _ c.note_if.ensures c.is_other_global.ensures refl)))
