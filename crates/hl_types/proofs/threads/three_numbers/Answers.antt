use Rattle.std.proofs.Common.{sym}
use Rattle.hl_values.specs.ScopeViews.{scope_of}
use Rattle.hl_types.proofs.ThreadLemmas.{three_numbers-absent}
use Rattle.hl_types.proofs.threads.three_numbers.Goals as goal

pub returns-then-arguments-ne3 : goal.returns-then-arguments-ne3
returns-then-arguments-ne3 c = sym (three_numbers-absent (scope_of c.args.scope.now) c.args.arguments.now c.if-arguments-ne3.true)
