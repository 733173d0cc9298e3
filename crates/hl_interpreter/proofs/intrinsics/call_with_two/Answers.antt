use Rattle.std.proofs.Common.{◌∙◌, [], ◌∷◌, ap, slice_index, sym}
use Rattle.hl_meaning.specs.Views.{plain_ty}
use Rattle.hl_source.specs.Intrinsics.{wave_words, worked}
use Rattle.hl_source.specs.Operations.{map_2}
use Rattle.hl_source.specs.State.{goes_with}
use Rattle.hl_interpreter.specs.HeldWorks.{plain_two, plain_work}
use Rattle.hl_interpreter.specs.Runs.{run_context, state_of}
use Rattle.hl_interpreter.proofs.Exits.{memory-exit}
use Rattle.hl_interpreter.proofs.Meeting.{same}
use Rattle.hl_interpreter.proofs.WorkForms.{two-other}
use Rattle.hl_interpreter.proofs.intrinsics.call_with_two.Goals as goal

pub returns-in_err-words-in-Two : goal.returns-in_err-words-in-Two
returns-in_err-words-in-Two c = memory-exit (λ w. w) c.from_residual.result _ _ c.from_residual.ensures.1

pub returns-in_ok-words-in-Two : goal.returns-in_ok-words-in-Two
returns-in_ok-words-in-Two c =
    let s = state_of c.args.run.now.replies.now c.args.state.now in
    ap (λ w. worked (run_context c.args.run.now) (plain_work w) (plain_ty c.args.ty.now) (c.args.words.now ∷ c.args.others.now ∷ []) s) c.in-Two.is ∙
    ap (λ l. goes_with l s) (ap (λ k. map_2 (plain_two c.in-Two.two k) c.args.words.now c.args.others.now) (sym c.component_kind.ensures) ∙ sym c.in_ok-words-in-Two.ensures)

pub returns-in-WaveAt : goal.returns-in-WaveAt
returns-in-WaveAt c =
    let s = state_of c.args.run.now.replies.now c.args.state.now in
    let words = c.args.words.now in
    let wave = c.in-WaveAt.wave in
    let k = c.component_kind-in-WaveAt.result in
    same (λ w. w) c.wave_words.result _ _ _
    (ap (λ n. wave_words wave n k words s) c.word_at-lane.ensures ∙ (ap (λ kind. wave_words wave (slice_index c.args.others.now 0) kind words s) c.component_kind-in-WaveAt.ensures ∙
    sym (ap (λ w. worked (run_context c.args.run.now) (plain_work w) (plain_ty c.args.ty.now) (words ∷ c.args.others.now ∷ []) s) c.in-WaveAt.is)))
    c.wave_words.ensures

pub returns-in_default : goal.returns-in_default
returns-in_default c =
    let s = state_of c.args.run.now.replies.now c.args.state.now in
    two-other (run_context c.args.run.now) (plain_ty c.args.ty.now) s c.args.words.now c.args.others.now c.args.work c.in_default.not-Two c.in_default.not-WaveAt ∙
    ap (λ l. goes_with l s) (sym c.new.ensures)
