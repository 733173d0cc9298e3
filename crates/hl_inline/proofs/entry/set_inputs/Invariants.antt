use Rattle.std.proofs.Common.{◌≡◌, ◌++◌, drop}
use Rattle.hl_inline.specs.Building.{plain_code}
use Rattle.hl_inline.specs.InlinedPrograms.{set_inputs}
use Rattle.hl_inline.proofs.entry.set_inputs.Given as goal

abbrev pub invariant-loop-parameter : goal.invariant-loop-parameter
invariant-loop-parameter l = plain_code l.code ++ set_inputs l.first (drop l.parameter-index l.parameters) ≡ plain_code l.initial.code ++ set_inputs l.first l.parameters
