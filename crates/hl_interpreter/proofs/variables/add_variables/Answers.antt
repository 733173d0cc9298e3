use Rattle.std.proofs.Common.{◌∙◌, ◌++◌, ap, arith, drop, length, map, take, ◌-◌}
use Rattle.hl_meaning.specs.Views.{plain_variable}
use Rattle.hl_source.specs.Memory.{zeros_of}
use Rattle.hl_interpreter.specs.Runs.{run_context}
use Rattle.hl_interpreter.proofs.Skipping.{skipped}
use Rattle.hl_interpreter.proofs.Turns.{map-end}
use Rattle.hl_interpreter.proofs.variables.add_variables.Goals as goal

pub returns-clause-variables : goal.returns-clause-variables
returns-clause-variables c =
    let rc = run_context c.args.run.now in
    let vs = c.as_slice-variables.result.now in
    let first = c.min-first.result in
    let items = take (length vs - first) (drop first vs) in
    let old = c.args.state.now.variables.items in
    map-end (λ v. zeros_of rc (plain_variable v).ty) items c.loop-variable.variable-index c.loop-variable.state.variables.items
    (old ++ map (λ v. zeros_of rc (plain_variable v).ty) items) (omega arith) c.loop-variable.invariant.variables ∙
    (ap (λ l. old ++ l) (skipped plain_variable (λ v. zeros_of rc v.ty) vs (length c.args.function.now.parameters) first (omega arith)) ∙
    ap (λ l. old ++ map (λ v. zeros_of rc v.ty) (drop (length c.args.function.now.parameters) (map plain_variable l))) c.as_slice-variables.ensures.value)
