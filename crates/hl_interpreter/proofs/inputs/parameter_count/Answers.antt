use Rattle.std.proofs.Common.{◌∙◌, ap, sym}
use Rattle.hl_meaning.specs.Types.{component_count}
use Rattle.hl_interpreter.proofs.HeldNames.{variable-absent, variable-there}
use Rattle.hl_interpreter.proofs.inputs.parameter_count.Goals as goal

pub returns-in-Some : goal.returns-in-Some
returns-in-Some c =
    c.component_count.ensures ∙ sym (ap component_count (variable-there c.args.function.now.variables c.args.parameter.now.variable c.in-Some.variable.now (sym c.in-Some.ensures.value)))

pub returns-in-None : goal.returns-in-None
returns-in-None c = sym (ap component_count (variable-absent c.args.function.now.variables c.args.parameter.now.variable (sym c.in-None.ensures.value)))
