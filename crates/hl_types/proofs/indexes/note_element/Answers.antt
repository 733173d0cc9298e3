use Rattle.std.proofs.Common.{◌∙◌, ap, not}
use Rattle.hl_meaning.specs.Types.{is_scalar}
use Rattle.hl_rules.specs.Values.{is_known, valued}
use Rattle.hl_values.specs.Noted.{noted_if}
use Rattle.hl_values.specs.Views.{plain_type_if}
use Rattle.hl_types.proofs.IndexLemmas.{past-none}
use Rattle.hl_types.proofs.WholeLemmas.{judged-with}
use Rattle.hl_types.proofs.indexes.note_element.Goals as goal

pub returns : goal.returns
returns c =
    judged-with 29 c.args.at _ _ _ _ _ c.note_if-2.ensures c.is_no_scalar.ensures c.note_if.ensures ∙
    ap (λ b. noted_if (noted_if (noted_if c.args.found.now 28 c.args.buffer.now.raw c.args.at) 29 (is_known (λ t. not (is_scalar t)) (valued (plain_type_if c.args.index.now.ty))) c.args.at) 30 b c.args.at) (past-none c.args.index.now.number)
