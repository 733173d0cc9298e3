-- Intrinsic functions as the meaning of programs speaks of them.
use Rattle.std.specs.Prelude.{ℕ, Bool, List, count_ones}
use Rattle.std.specs.Int.{reverse_bits, w32}
use Rattle.std.specs.List.{list_all, list_any}
use Rattle.lane_core.specs.declared.event.WaveKind.{WaveKind}
use Rattle.lane_core.specs.Lane.{Lane}
use Rattle.hl_meaning.specs.declared.ty.Kind.{Kind}
use Rattle.hl_source.specs.Intrinsics as meaning
use Rattle.hl_source.specs.Intrinsics.{absolute, barrier, clamped, from_all, from_one, from_three, from_two, greater, lesser, of_lane, own_form, wave, wave_alone, wave_at, wave_four}
use Rattle.hl_source.specs.Operations.{by_sign}
use Rattle.lane_core.specs.Words.{first_bit_low, holds}
use Rattle.hl_interpreter.specs.declared.works.Judgement.{Judgement}
use Rattle.hl_interpreter.specs.declared.works.Judgement.TheVariants.{All, Any}
use Rattle.hl_interpreter.specs.declared.works.OneWork.{OneWork}
use Rattle.hl_interpreter.specs.declared.works.OneWork.TheVariants.{Absolute, CountBits, FirstBitLow, ReverseBits, SameBits}
use Rattle.hl_interpreter.specs.declared.works.Told.{Told}
use Rattle.hl_interpreter.specs.declared.works.Told.TheVariants.{LaneIndex, WaveSize}
use Rattle.hl_interpreter.specs.declared.works.TwoWork.{TwoWork}
use Rattle.hl_interpreter.specs.declared.works.TwoWork.TheVariants.{Greater, Lesser}
use Rattle.hl_interpreter.specs.declared.works.WaveWork.{WaveWork}
use Rattle.hl_interpreter.specs.declared.works.WaveWork.TheVariants.{Always, BySign}
use Rattle.hl_interpreter.specs.declared.works.Work.{Work}
use Rattle.hl_interpreter.specs.declared.works.Work.TheVariants.{Barrier, Clamp, Judge, One, OwnForm, Tell, Two, Wave, WaveAlone, WaveAt, WaveFour}

abbrev pub plain_one : OneWork → Kind → ℕ → ℕ
plain_one Absolute = absolute
plain_one CountBits = λ kind word. count_ones word
plain_one ReverseBits = λ kind word. reverse_bits w32 word
plain_one FirstBitLow = λ kind word. first_bit_low word
plain_one SameBits = λ kind word. word

abbrev pub plain_two : TwoWork → Kind → ℕ → ℕ → ℕ
plain_two Lesser = lesser
plain_two Greater = greater

abbrev pub plain_judgement : Judgement → List ℕ → Bool
plain_judgement Any = λ words. list_any holds words
plain_judgement All = λ words. list_all holds words

abbrev pub plain_told : Told → Lane → ℕ
plain_told LaneIndex = λ lane. lane.lane_index
plain_told WaveSize = λ lane. lane.wave_size

abbrev pub plain_wave : WaveWork → Kind → WaveKind
plain_wave (Always kind) = λ _. kind
plain_wave (BySign signed unsigned) = by_sign signed unsigned

abbrev pub plain_work : Work → meaning.Work
plain_work (One work) = from_one (plain_one work)
plain_work (Two work) = from_two (plain_two work)
plain_work Clamp = from_three clamped
plain_work (Judge judgement) = from_all (plain_judgement judgement)
plain_work (Tell told) = of_lane (plain_told told)
plain_work (Barrier mode) = barrier mode
plain_work (Wave kind) = wave (plain_wave kind)
plain_work (WaveAt kind) = wave_at kind
plain_work (WaveAlone kind) = wave_alone kind
plain_work (WaveFour kind) = wave_four kind
plain_work OwnForm = own_form
