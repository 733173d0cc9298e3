use Rattle.hl_values.proofs.AtomicLemmas.{atomic_form-is}
use Rattle.hl_values.proofs.interlocked.atomic_form.Goals as goal

pub returns : goal.returns
returns c = atomic_form-is c.args.target c.args.kind c.args.operands.compare c.args.operands.value c.unboxed-original.result _ c.unboxed-original.ensures
