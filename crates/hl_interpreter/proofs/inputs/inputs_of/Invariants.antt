use Rattle.std.proofs.Common.{◌≡◌, ◌++◌, drop, map}
use Rattle.hl_meaning.specs.Held.{plain_program}
use Rattle.hl_meaning.specs.Views.{plain_variable}
use Rattle.hl_source.specs.SourceLane.{input_words}
use Rattle.hl_interpreter.specs.Runs.{lane_of}
use Rattle.hl_interpreter.proofs.inputs.inputs_of.Given as goal

abbrev pub invariant-loop-parameter : goal.invariant-loop-parameter
invariant-loop-parameter l =
    l.inputs ++ map (input_words (plain_program l.run.program.now) (lane_of l.run.lane.now) (map plain_variable l.function.variables)) (drop l.parameter-index l.parameter-items)
    ≡ map (input_words (plain_program l.run.program.now) (lane_of l.run.lane.now) (map plain_variable l.function.variables)) l.parameter-items
