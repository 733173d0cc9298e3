use Rattle.std.proofs.Common.{◌∙◌, [], ◌∷◌, ap, sym}
use Rattle.lane_core.specs.Words.{wrapped}
use Rattle.hl_meaning.specs.Views.{plain_ty}
use Rattle.hl_source.specs.Intrinsics.{wave_words, worked}
use Rattle.hl_source.specs.State.{goes_with}
use Rattle.hl_interpreter.specs.HeldWorks.{plain_work}
use Rattle.hl_interpreter.specs.Runs.{run_context, state_of}
use Rattle.hl_interpreter.proofs.Asking.{wrapped-word}
use Rattle.hl_interpreter.proofs.Exits.{memory-exit}
use Rattle.hl_interpreter.proofs.Meeting.{same}
use Rattle.hl_interpreter.proofs.WorkForms.{none-other}
use Rattle.hl_interpreter.proofs.intrinsics.call_with_none.Goals as goal

pub returns-in_err-words-in-Tell : goal.returns-in_err-words-in-Tell
returns-in_err-words-in-Tell c = memory-exit (λ w. w) c.from_residual.result _ _ c.from_residual.ensures.1

pub returns-in_ok-words-in-Tell : goal.returns-in_ok-words-in-Tell
returns-in_ok-words-in-Tell c =
    let s = state_of c.args.run.now.replies.now c.args.state.now in
    ap (λ w. worked (run_context c.args.run.now) (plain_work w) (plain_ty c.args.ty.now) [] s) c.in-Tell.is ∙
    ap (λ l. goes_with l s) (ap (λ n. wrapped n ∷ []) (sym c.tell.ensures) ∙ (ap (λ n. n ∷ []) (wrapped-word c.tell.result c.tell.type_inv) ∙ sym c.in_ok-words-in-Tell.ensures))

pub returns-in-Barrier : goal.returns-in-Barrier
returns-in-Barrier c =
    let s = state_of c.args.run.now.replies.now c.args.state.now in
    same (λ w. w) c.barrier.result _ _ _ (sym (ap (λ w. worked (run_context c.args.run.now) (plain_work w) (plain_ty c.args.ty.now) [] s) c.in-Barrier.is)) c.barrier.ensures

pub returns-in-WaveAlone : goal.returns-in-WaveAlone
returns-in-WaveAlone c =
    let s = state_of c.args.run.now.replies.now c.args.state.now in
    same (λ w. w) c.wave_words.result _ _ _
    (ap (λ k. wave_words c.in-WaveAlone.wave 0 k (0 ∷ []) s) c.component_kind.ensures ∙
    sym (ap (λ w. worked (run_context c.args.run.now) (plain_work w) (plain_ty c.args.ty.now) [] s) c.in-WaveAlone.is))
    c.wave_words.ensures

pub returns-in_default : goal.returns-in_default
returns-in_default c =
    let s = state_of c.args.run.now.replies.now c.args.state.now in
    none-other (run_context c.args.run.now) (plain_ty c.args.ty.now) s c.args.work c.in_default.not-Tell c.in_default.not-Barrier c.in_default.not-WaveAlone ∙
    ap (λ l. goes_with l s) (sym c.new.ensures)
