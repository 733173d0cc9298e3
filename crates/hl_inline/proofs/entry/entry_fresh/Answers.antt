use Rattle.std.proofs.Common.{◌∙◌, ◌++◌, List, ap, map}
use Rattle.hl_meaning.specs.Programs.{Variable}
use Rattle.hl_meaning.specs.Views.{plain_constant, plain_variable}
use Rattle.hl_inline.specs.Building.{constant_variables}
use Rattle.hl_inline.specs.Fresh.{Fresh, nameless}
use Rattle.hl_inline.proofs.entry.entry_fresh.Goals as goal

abbrev started : List Variable → Fresh
started variables = record { variables = variables; names = 1 }

pub returns : goal.returns
returns c =
    c.in_ok-add_nameless.ensures ∙
    (ap (λ l. started (l ++ map nameless (map plain_variable c.as_slice.result.now))) c.in_ok-variables.ensures ∙
    ap (λ l. started (constant_variables (map plain_constant c.args.constants.now) ++ map nameless (map plain_variable l))) c.as_slice.ensures.value)
