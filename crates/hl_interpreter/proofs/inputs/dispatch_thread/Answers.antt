use Rattle.std.proofs.Common.{◌*◌, slice_index}
use Rattle.hl_interpreter.proofs.Semantics.{product-cut, three-same}
use Rattle.hl_interpreter.proofs.inputs.dispatch_thread.Goals as goal

pub returns : goal.returns
returns c =
    let threads = c.args.threads in
    let group = c.args.lane.now.group in
    let thread = c.args.lane.now.thread in
    three-same _ _ _ _ _ _
    (product-cut (slice_index group 0 * slice_index threads 0) (slice_index thread 0))
    (product-cut (slice_index group 1 * slice_index threads 1) (slice_index thread 1))
    (product-cut (slice_index group 2 * slice_index threads 2) (slice_index thread 2))
