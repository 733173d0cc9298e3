use Rattle.std.proofs.Common.{◌≡◌, [], map, take}
use Rattle.hl_meaning.specs.Sums.{functions_sums, stop_all}
use Rattle.hl_meaning.specs.Views.{plain_function, plain_structs}
use Rattle.hl_meaning.proofs.totals.functions_sums.Given as goal

abbrev pub invariant-loop-function : goal.invariant-loop-function
invariant-loop-function l =
    l.known.items ≡ map stop_all (functions_sums (plain_structs l.program.structs) [] (map plain_function (take l.function-index l.function-items)))
