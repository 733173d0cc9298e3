use Rattle.std.proofs.Common.{◌∙◌, ap, sym}
use Rattle.std.proofs.lemmas.Option.{slice_get-map}
use Rattle.std.proofs.lemmas.Result.{IfOk-weaker}
use Rattle.std.specs.Prelude.{option_map}
use Rattle.hl_meaning.specs.Held.{plain_program}
use Rattle.hl_meaning.specs.Views.{plain_function}
use Rattle.hl_source.specs.SourceLane.{inputs}
use Rattle.hl_interpreter.specs.Runs.{lane_of}
use Rattle.hl_interpreter.proofs.inputs.inputs.Goals as goal

pub returns-in-Some : goal.returns-in-Some
returns-in-Some c =
    let run = c.args.run.now in
    let p = run.program.now in
    IfOk-weaker c.inputs_of.result _ _
    (λ words e. e ∙ sym (ap (inputs (plain_program p) (lane_of run.lane.now)) (slice_get-map plain_function p.functions p.entry ∙ ap (option_map plain_function) (sym c.in-Some.ensures.value))))
    c.inputs_of.ensures

pub returns-in-None : goal.returns-in-None
returns-in-None c =
    let run = c.args.run.now in
    let p = run.program.now in
    c.new.ensures ∙ sym (ap (inputs (plain_program p) (lane_of run.lane.now)) (slice_get-map plain_function p.functions p.entry ∙ ap (option_map plain_function) (sym c.in-None.ensures.value)))
