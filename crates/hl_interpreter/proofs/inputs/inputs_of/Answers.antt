use Rattle.std.proofs.Common.{◌∙◌, None, ap, get_or, map}
use Rattle.std.proofs.lemmas.List.{get_or_default}
use Rattle.hl_meaning.specs.declared.program.Copying.TheVariants.{CopyIn}
use Rattle.hl_meaning.specs.declared.program.Parameter.{Parameter}
use Rattle.hl_meaning.specs.Held.{plain_program}
use Rattle.hl_meaning.specs.Views.{plain_variable}
use Rattle.hl_source.specs.SourceLane.{input_words}
use Rattle.hl_interpreter.specs.Runs.{lane_of}
use Rattle.hl_interpreter.proofs.Turns.{map-end}
use Rattle.hl_interpreter.proofs.Values.{map-pushed}
use Rattle.hl_interpreter.proofs.inputs.inputs_of.Goals as goal

pub loop-parameter-preserved : goal.loop-parameter-preserved
loop-parameter-preserved c =
    let f = input_words (plain_program c.args.run.now.program.now) (lane_of c.args.run.now.lane.now) (map plain_variable c.args.function.now.variables) in
    let none : Parameter = record { variable = 0; copying = CopyIn; semantic = None } in
    let items = c.as_slice-parameter-items.result.now in
    let i = c.loop-parameter.parameter-index in
    let p = get_or items i none in
    map-pushed f items i p c.in_ok-words.words c.loop-parameter.inputs _ _ c.loop-parameter-test.true (get_or_default items i none p c.loop-parameter-test.true) c.in_ok-words.ensures c.in_ok-push.ensures.ok c.loop-parameter.invariant

pub returns : goal.returns
returns c =
    map-end (input_words (plain_program c.args.run.now.program.now) (lane_of c.args.run.now.lane.now) (map plain_variable c.args.function.now.variables)) c.as_slice-parameter-items.result.now
    c.loop-parameter.parameter-index c.loop-parameter.inputs _ c.loop-parameter-test.false c.loop-parameter.invariant ∙
    ap (map (input_words (plain_program c.args.run.now.program.now) (lane_of c.args.run.now.lane.now) (map plain_variable c.args.function.now.variables))) c.as_slice-parameter-items.ensures.value
