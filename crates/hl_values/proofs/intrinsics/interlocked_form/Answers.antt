use Rattle.std.proofs.Common.{◌∙◌, sym}
use Rattle.hl_values.proofs.IntrinsicTable.{interlocked_from}
use Rattle.hl_values.proofs.intrinsics.interlocked_form.Goals as goal

pub returns : goal.returns
returns c = c.copied.ensures ∙ (c.at.ensures ∙ sym (interlocked_from c.args.number c.if-number-lt-FIRST_INTERLOCKED.false))
