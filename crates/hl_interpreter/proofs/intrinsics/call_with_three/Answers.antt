use Rattle.std.proofs.Common.{◌∙◌, [], ◌∷◌, ap, sym}
use Rattle.hl_meaning.specs.Views.{plain_ty}
use Rattle.hl_source.specs.Intrinsics.{clamped, worked}
use Rattle.hl_source.specs.Operations.{map_3}
use Rattle.hl_source.specs.State.{goes_with}
use Rattle.hl_interpreter.specs.HeldWorks.{plain_work}
use Rattle.hl_interpreter.specs.Runs.{run_context}
use Rattle.hl_interpreter.proofs.Exits.{memory-exit}
use Rattle.hl_interpreter.proofs.WorkForms.{three-other}
use Rattle.hl_interpreter.proofs.intrinsics.call_with_three.Goals as goal

pub returns-in_err-words-in-Clamp : goal.returns-in_err-words-in-Clamp
returns-in_err-words-in-Clamp c = λ s. memory-exit (λ w. w) c.from_residual.result s _ c.from_residual.ensures.1

pub returns-in_ok-words-in-Clamp : goal.returns-in_ok-words-in-Clamp
returns-in_ok-words-in-Clamp c = λ s.
    ap (λ w. worked (run_context c.args.run.now) (plain_work w) (plain_ty c.args.ty.now) (c.args.words.now ∷ c.args.low.now ∷ c.args.high.now ∷ []) s) c.in-Clamp.is ∙
    ap (λ l. goes_with l s) (ap (λ k. map_3 (clamped k) c.args.words.now c.args.low.now c.args.high.now) (sym c.component_kind.ensures) ∙ sym c.in_ok-words-in-Clamp.ensures)

pub returns-in_default : goal.returns-in_default
returns-in_default c = λ s.
    three-other (run_context c.args.run.now) (plain_ty c.args.ty.now) s c.args.words.now c.args.low.now c.args.high.now c.args.work c.in_default.not-Clamp ∙
    ap (λ l. goes_with l s) (sym c.new.ensures)
