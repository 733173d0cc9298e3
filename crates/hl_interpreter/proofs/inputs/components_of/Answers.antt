use Rattle.std.proofs.Common.{◌∙◌, ◌∷◌, [], Some, ap, map, sym}
use Rattle.std.proofs.lemmas.Result.{IfOk-weaker}
use Rattle.lane_core.specs.Words.{wrapped}
use Rattle.hl_source.specs.SourceLane.{semantic_components}
use Rattle.lane_core.specs.Inputs.{coordinates_of}
use Rattle.hl_interpreter.specs.Runs.{lane_of}
use Rattle.hl_interpreter.proofs.inputs.components_of.Goals as goal

pub returns-in-DispatchThreadId : goal.returns-in-DispatchThreadId
returns-in-DispatchThreadId c =
    IfOk-weaker c.from_slice.result _ _
    (λ words e. e ∙ (c.dispatch_thread.ensures ∙ sym (ap (λ s. map wrapped (semantic_components (coordinates_of c.args.threads) (lane_of c.args.lane.now) (Some s))) c.in-DispatchThreadId.is)))
    c.from_slice.ensures

pub returns-in-GroupId : goal.returns-in-GroupId
returns-in-GroupId c =
    IfOk-weaker c.place_words.result _ _
    (λ words e. e ∙ sym (ap (λ s. map wrapped (semantic_components (coordinates_of c.args.threads) (lane_of c.args.lane.now) (Some s))) c.in-GroupId.is))
    c.place_words.ensures

pub returns-in-GroupThreadId : goal.returns-in-GroupThreadId
returns-in-GroupThreadId c =
    IfOk-weaker c.place_words-in-GroupThreadId.result _ _
    (λ words e. e ∙ sym (ap (λ s. map wrapped (semantic_components (coordinates_of c.args.threads) (lane_of c.args.lane.now) (Some s))) c.in-GroupThreadId.is))
    c.place_words-in-GroupThreadId.ensures

pub returns-in-GroupIndex : goal.returns-in-GroupIndex
returns-in-GroupIndex c =
    IfOk-weaker c.one_word.result _ _
    (λ words e. e ∙ (ap (λ n. n ∷ []) c.flat_index.ensures ∙ sym (ap (λ s. map wrapped (semantic_components (coordinates_of c.args.threads) (lane_of c.args.lane.now) (Some s))) c.in-GroupIndex.is)))
    c.one_word.ensures
