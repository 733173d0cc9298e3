use Rattle.std.proofs.Common.{◌∙◌, sym}
use Rattle.hl_values.proofs.IntrinsicTable.{signature_at}
use Rattle.hl_values.proofs.intrinsics.signature_of.Goals as goal

pub returns : goal.returns
returns c = c.copied.ensures ∙ (c.at.ensures ∙ sym (signature_at c.args.number))
