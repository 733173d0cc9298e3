-- What intrinsic functions do that have other arguments than are given.
use Rattle.std.proofs.Common.{◌≡◌, refl, sym, ap, ℕ, ◌<◌, List, [], ◌∷◌}
use Rattle.std.proofs.lemmas.Option.{slice_get_past}
use Rattle.std.specs.Prelude.{unwrap_or}
use Rattle.lane_core.specs.declared.event.WaveKind.{WaveKind}
use Rattle.hl_meaning.specs.Types.{Ty}
use Rattle.hl_source.specs.Intrinsics.{own_form, work_of, worked, works}
use Rattle.hl_source.specs.State.{Context, State, goes_with}
use Rattle.hl_interpreter.specs.declared.works.Judgement.{Judgement}
use Rattle.hl_interpreter.specs.declared.works.OneWork.{OneWork}
use Rattle.hl_interpreter.specs.declared.works.Told.{Told}
use Rattle.hl_interpreter.specs.declared.works.TwoWork.{TwoWork}
use Rattle.hl_interpreter.specs.declared.works.WaveWork.{WaveWork}
use Rattle.hl_interpreter.specs.declared.works.Work.{Work}
use Rattle.hl_interpreter.specs.declared.works.Work.TheVariants.{Barrier, Clamp, Judge, One, OwnForm, Tell, Two, Wave, WaveAlone, WaveAt, WaveFour}
use Rattle.hl_interpreter.specs.HeldWorks.{plain_work}

-- there are 46 intrinsic functions
pub past-works : (number : ℕ) → 45 < number → own_form ≡ work_of number
past-works number past = sym (ap (λ o. unwrap_or o own_form) (slice_get_past works number past))

module _ (c : Context) (ty : Ty) (s : State) where
  pub none-other : (work : Work) → ((told : Told) → work ≡ Tell told → ⊥) → ((mode : ℕ) → work ≡ Barrier mode → ⊥) → ((kind : WaveKind) → work ≡ WaveAlone kind → ⊥) → worked c (plain_work work) ty [] s ≡ goes_with [] s
  none-other (One work) a b d = refl
  none-other (Two work) a b d = refl
  none-other Clamp a b d = refl
  none-other (Judge judgement) a b d = refl
  none-other (Tell told) a b d = absurd (a told refl)
  none-other (Barrier mode) a b d = absurd (b mode refl)
  none-other (Wave kind) a b d = refl
  none-other (WaveAt kind) a b d = refl
  none-other (WaveAlone kind) a b d = absurd (d kind refl)
  none-other (WaveFour kind) a b d = refl
  none-other OwnForm a b d = refl

  pub one-other : (xs : List ℕ) (work : Work) → ((one : OneWork) → work ≡ One one → ⊥) → ((judgement : Judgement) → work ≡ Judge judgement → ⊥) → ((kind : WaveWork) → work ≡ Wave kind → ⊥) → ((kind : WaveKind) → work ≡ WaveFour kind → ⊥)
      → worked c (plain_work work) ty (xs ∷ []) s ≡ goes_with [] s
  one-other xs (One work) a b d e = absurd (a work refl)
  one-other xs (Two work) a b d e = refl
  one-other xs Clamp a b d e = refl
  one-other xs (Judge judgement) a b d e = absurd (b judgement refl)
  one-other xs (Tell told) a b d e = refl
  one-other xs (Barrier mode) a b d e = refl
  one-other xs (Wave kind) a b d e = absurd (d kind refl)
  one-other xs (WaveAt kind) a b d e = refl
  one-other xs (WaveAlone kind) a b d e = refl
  one-other xs (WaveFour kind) a b d e = absurd (e kind refl)
  one-other xs OwnForm a b d e = refl

  pub two-other : (xs ys : List ℕ) (work : Work) → ((two : TwoWork) → work ≡ Two two → ⊥) → ((kind : WaveKind) → work ≡ WaveAt kind → ⊥) → worked c (plain_work work) ty (xs ∷ ys ∷ []) s ≡ goes_with [] s
  two-other xs ys (One work) a b = refl
  two-other xs ys (Two work) a b = absurd (a work refl)
  two-other xs ys Clamp a b = refl
  two-other xs ys (Judge judgement) a b = refl
  two-other xs ys (Tell told) a b = refl
  two-other xs ys (Barrier mode) a b = refl
  two-other xs ys (Wave kind) a b = refl
  two-other xs ys (WaveAt kind) a b = absurd (b kind refl)
  two-other xs ys (WaveAlone kind) a b = refl
  two-other xs ys (WaveFour kind) a b = refl
  two-other xs ys OwnForm a b = refl

  pub three-other : (xs ys zs : List ℕ) (work : Work) → (work ≡ Clamp → ⊥) → worked c (plain_work work) ty (xs ∷ ys ∷ zs ∷ []) s ≡ goes_with [] s
  three-other xs ys zs (One work) a = refl
  three-other xs ys zs (Two work) a = refl
  three-other xs ys zs Clamp a = absurd (a refl)
  three-other xs ys zs (Judge judgement) a = refl
  three-other xs ys zs (Tell told) a = refl
  three-other xs ys zs (Barrier mode) a = refl
  three-other xs ys zs (Wave kind) a = refl
  three-other xs ys zs (WaveAt kind) a = refl
  three-other xs ys zs (WaveAlone kind) a = refl
  three-other xs ys zs (WaveFour kind) a = refl
  three-other xs ys zs OwnForm a = refl

  -- no function has more than three arguments
  pub more-other : (xs ys zs ws : List ℕ) (rest : List (List ℕ)) (work : Work) → worked c (plain_work work) ty (xs ∷ ys ∷ zs ∷ ws ∷ rest) s ≡ goes_with [] s
  more-other xs ys zs ws rest (One work) = refl
  more-other xs ys zs ws rest (Two work) = refl
  more-other xs ys zs ws rest Clamp = refl
  more-other xs ys zs ws rest (Judge judgement) = refl
  more-other xs ys zs ws rest (Tell told) = refl
  more-other xs ys zs ws rest (Barrier mode) = refl
  more-other xs ys zs ws rest (Wave kind) = refl
  more-other xs ys zs ws rest (WaveAt kind) = refl
  more-other xs ys zs ws rest (WaveAlone kind) = refl
  more-other xs ys zs ws rest (WaveFour kind) = refl
  more-other xs ys zs ws rest OwnForm = refl
