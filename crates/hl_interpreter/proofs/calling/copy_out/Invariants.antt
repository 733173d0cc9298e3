use Rattle.std.proofs.Common.{◌≡◌, ℕ, List, drop, length}
use Rattle.hl_meaning.specs.Views.{plain_args}
use Rattle.hl_source.specs.Expressions.{copies_out}
use Rattle.hl_interpreter.specs.Operands.{interleaved}
use Rattle.hl_interpreter.specs.Runs.{context_of, state_of}
use Rattle.hl_interpreter.proofs.calling.copy_out.Given as goal

abbrev pub invariant-loop-at : goal.invariant-loop-at
invariant-loop-at l =
    (initial : List (List ℕ)) → length initial ≡ length l.indexes
    → copies_out (context_of l.context) (plain_args l.args) (interleaved l.indexes initial) l.parameters (state_of l.context.run.now.replies.now l.initial.state)
    ≡ copies_out (context_of l.context) (plain_args (drop l.at l.items)) (interleaved (drop l.at l.indexes) (drop l.at initial)) (drop l.at l.parameters) (state_of l.context.run.now.replies.now l.state)
