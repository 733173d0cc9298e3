use Rattle.std.proofs.Common.{slice_index}
use Rattle.hl_interpreter.proofs.Semantics.{flat-cut}
use Rattle.hl_interpreter.proofs.inputs.flat_index.Goals as goal

pub returns : goal.returns
returns c =
    flat-cut (slice_index c.args.thread 0) (slice_index c.args.thread 1) (slice_index c.args.thread 2) (slice_index c.args.threads 0) (slice_index c.args.threads 1)
