use Rattle.std.proofs.Common.{◌≡◌, ◌++◌, drop, map}
use Rattle.hl_meaning.specs.Views.{plain_variable}
use Rattle.hl_source.specs.Memory.{zeros_of}
use Rattle.hl_interpreter.specs.Runs.{run_context}
use Rattle.hl_interpreter.proofs.variables.add_variables.Given as goal

abbrev pub invariant-loop-variable : goal.invariant-loop-variable
invariant-loop-variable l = record {
  events : l.state.events ≡ l.initial.state.events;
  variables : l.state.variables.items ++ map (λ v. zeros_of (run_context l.run) (plain_variable v).ty) (drop l.variable-index l.variable-items)
      ≡ l.initial.state.variables.items ++ map (λ v. zeros_of (run_context l.run) (plain_variable v).ty) l.variable-items;
}
