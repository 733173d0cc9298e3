use Rattle.std.proofs.Common.{◌∙◌, ◌<◌, ◌≤◌, ap, subst, sym}
use Rattle.lane_core.specs.declared.event.Asked.TheVariants.{Fault}
use Rattle.lane_core.specs.declared.event.LaneFault.TheVariants.{OutOfBounds}
use Rattle.hl_source.specs.Memory.{shared_atomic, shared_size}
use Rattle.hl_source.specs.State.{asks_word}
use Rattle.hl_interpreter.specs.Runs.{run_context, state_of}
use Rattle.hl_interpreter.proofs.Cells.{within-in, within-out}
use Rattle.hl_interpreter.proofs.Exits.{ends-err, memory-exit}
use Rattle.hl_interpreter.proofs.Meeting.{same}
use Rattle.hl_interpreter.proofs.atomics.atomic_shared.Goals as goal

pub returns-in_err-size : goal.returns-in_err-size
returns-in_err-size c = memory-exit (λ w. w) c.from_residual.result _ _ c.from_residual.ensures.1

pub returns-then-cell-size : goal.returns-then-cell-size
returns-then-cell-size c =
    let cell = c.args.cell in
    let s = state_of c.args.run.now.replies.now c.args.state.now in
    ends-err (λ w. w) c.from.result (Fault OutOfBounds) s _ c.from.ensures
    (within-out cell.word (shared_size (run_context c.args.run.now) cell.variable) (asks_word (shared_atomic cell c.args.kind c.args.compare c.args.word)) s
    (subst (λ n. n ≤ cell.word) c.in_ok-size.ensures c.if-cell-size.true))

pub returns : goal.returns
returns c =
    let cell = c.args.cell in
    let s = state_of c.args.run.now.replies.now c.args.state.now in
    same (λ w. w) c.ask_word.result _ _ _
    (ap (λ e. asks_word e s) c.shared_atomic.ensures ∙
    sym (within-in cell.word (shared_size (run_context c.args.run.now) cell.variable) (asks_word (shared_atomic cell c.args.kind c.args.compare c.args.word)) s
    (subst (λ n. cell.word < n) c.in_ok-size.ensures c.if-cell-size.false)))
    c.ask_word.ensures
