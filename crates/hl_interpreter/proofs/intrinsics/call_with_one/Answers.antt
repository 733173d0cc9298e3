use Rattle.std.proofs.Common.{◌∙◌, [], ◌∷◌, ap, map, sym}
use Rattle.lane_core.specs.declared.event.Event.TheVariants.{Wave as WaveEvent}
use Rattle.lane_core.specs.Words.{truth}
use Rattle.hl_meaning.specs.Views.{plain_ty}
use Rattle.hl_source.specs.Intrinsics.{wave_words, worked}
use Rattle.hl_source.specs.State.{after, asks, goes_with}
use Rattle.lane_core.specs.Replies.{reply_words}
use Rattle.hl_interpreter.specs.HeldWorks.{plain_one, plain_wave, plain_work}
use Rattle.hl_interpreter.specs.Runs.{run_context, state_of}
use Rattle.hl_interpreter.proofs.Exits.{memory-exit}
use Rattle.hl_interpreter.proofs.Meeting.{same}
use Rattle.hl_interpreter.proofs.WorkForms.{one-other}
use Rattle.hl_interpreter.proofs.intrinsics.call_with_one.Goals as goal

pub returns-in_err-words-in-One : goal.returns-in_err-words-in-One
returns-in_err-words-in-One c = memory-exit (λ w. w) c.from_residual.result _ _ c.from_residual.ensures.1

pub returns-in_ok-words-in-One : goal.returns-in_ok-words-in-One
returns-in_ok-words-in-One c =
    let s = state_of c.args.run.now.replies.now c.args.state.now in
    ap (λ w. worked (run_context c.args.run.now) (plain_work w) (plain_ty c.args.ty.now) (c.args.words.now ∷ []) s) c.in-One.is ∙
    ap (λ l. goes_with l s) (ap (λ k. map (plain_one c.in-One.one k) c.args.words.now) (sym c.component_kind.ensures) ∙ sym c.in_ok-words-in-One.ensures)

pub returns-in_err-words-in-Judge : goal.returns-in_err-words-in-Judge
returns-in_err-words-in-Judge c = memory-exit (λ w. w) c.from_residual-in_err-words-in-Judge.result _ _ c.from_residual-in_err-words-in-Judge.ensures.1

pub returns-in_ok-words-in-Judge : goal.returns-in_ok-words-in-Judge
returns-in_ok-words-in-Judge c =
    let s = state_of c.args.run.now.replies.now c.args.state.now in
    ap (λ w. worked (run_context c.args.run.now) (plain_work w) (plain_ty c.args.ty.now) (c.args.words.now ∷ []) s) c.in-Judge.is ∙
    ap (λ l. goes_with l s) (ap (λ b. truth b ∷ []) (sym c.judge.ensures) ∙ (ap (λ n. n ∷ []) (sym c.truth.ensures) ∙ sym c.in_ok-words-in-Judge.ensures))

pub returns-in-Wave : goal.returns-in-Wave
returns-in-Wave c =
    let s = state_of c.args.run.now.replies.now c.args.state.now in
    let words = c.args.words.now in
    let k = c.component_kind-kind.result in
    same (λ w. w) c.wave_words.result _ _ _
    (ap (λ wave. wave_words wave 0 k words s) c.wave_kind.ensures ∙
    (ap (λ kind. wave_words (plain_wave c.in-Wave.wave kind) 0 kind words s) c.component_kind-kind.ensures ∙
    sym (ap (λ w. worked (run_context c.args.run.now) (plain_work w) (plain_ty c.args.ty.now) (words ∷ []) s) c.in-Wave.is)))
    c.wave_words.ensures

pub returns-in-WaveFour : goal.returns-in-WaveFour
returns-in-WaveFour c =
    let s = state_of c.args.run.now.replies.now c.args.state.now in
    same (λ w. w) c.ask_four.result _ _ _
    (ap (λ n. after (asks (WaveEvent c.in-WaveFour.wave n 0) s) (λ reply u. goes_with (reply_words 4 reply) u)) c.word_at.ensures ∙
    sym (ap (λ w. worked (run_context c.args.run.now) (plain_work w) (plain_ty c.args.ty.now) (c.args.words.now ∷ []) s) c.in-WaveFour.is))
    c.ask_four.ensures

pub returns-in_default : goal.returns-in_default
returns-in_default c =
    let s = state_of c.args.run.now.replies.now c.args.state.now in
    one-other (run_context c.args.run.now) (plain_ty c.args.ty.now) s c.args.words.now c.args.work c.in_default.not-One c.in_default.not-Judge c.in_default.not-Wave c.in_default.not-WaveFour ∙
    ap (λ l. goes_with l s) (sym c.new.ensures)
