-- The fault of a layer is the reason why bytes are refused.
use mathlib.Core.Logic.{inl, inr}
use Rattle.std.proofs.Common.{◌≡◌, ℕ, List, refl, sym, subst}
use Rattle.std.specs.Prelude.{Result, Ok, Err, MatchResult, IsErrAnd}
use Rattle.ir_core.specs.declared.module.Module.{Module}
use Rattle.bc_stream.specs.Blocks.{Contents}
use Rattle.bc_stream.specs.Spelling.{Spelled}
use Rattle.bc_stream.specs.Faults.{IsBad}
use Rattle.bc_stream.specs.declared.fault.StreamFault.{StreamFault}
use Rattle.bc_stream.specs.declared.fault.StreamFault.TheVariants.{Bad as BadStream, Memory as NoRoomForBlocks}
use Rattle.bc_records.specs.RecordAnswers.{IsBadList}
use Rattle.bc_records.specs.declared.fault.RecordFault.{RecordFault}
use Rattle.bc_records.specs.declared.fault.RecordFault.TheVariants.{Bad as BadRecord, Memory as NoRoomForRecords}
use Rattle.dx_validate.specs.Answer.{IsValidated}
use Rattle.dx_validate.specs.declared.verdict.Invalid.{Invalid}
use Rattle.dx_validate.specs.declared.verdict.Invalid.TheVariants.{Broken, Memory as NoRoomToValidate}
use Rattle.dxil_driver.specs.Compiled.{Spells}
use Rattle.dxil_driver.specs.Check.{Holds, in_stream, in_records, in_module, of_stream, of_records, of_verdict, IsRefused}

-- what holds of the error holds of the answer that has it
pub exit : {T E : Type 0} (P : T → Type 0) (Q : E → Type 0) (r : Result T E) (e : E) → IsErrAnd r (λ f. f ≡ e) → Q e → MatchResult r P Q
exit P Q (Ok x) e is holds = absurd is
exit P Q (Err f) e is holds = subst Q (sym is) holds

pub stream_refused : (bytes bitcode : List ℕ) (fault : StreamFault) → Holds bytes bitcode → IsBad bitcode fault → IsRefused bytes (of_stream fault)
stream_refused bytes bitcode (BadStream kind bit) holds bad = inr (in_stream kind bit (record { bitcode = bitcode; holds = holds; faulty = bad }))
stream_refused bytes bitcode NoRoomForBlocks holds bad = inl refl

pub records_refused : (bytes bitcode : List ℕ) (blocks : Contents) (fault : RecordFault) → Holds bytes bitcode → Spelled bitcode blocks → IsBadList blocks fault →
    IsRefused bytes (of_records fault)
records_refused bytes bitcode blocks (BadRecord kind block at) holds spelled bad =
    inr (in_records kind block at (record { bitcode = bitcode; holds = holds; blocks = blocks; spelled = spelled; faulty = bad }))
records_refused bytes bitcode blocks NoRoomForRecords holds spelled bad = inl refl

pub verdict_refused : (bytes : List ℕ) (m : Module) (invalid : Invalid) → Spells bytes m → IsValidated m (Err invalid) → IsRefused bytes (of_verdict invalid)
verdict_refused bytes m (Broken rule spot back) spells valid = inr (in_module rule spot (record { m = m; spells = spells; verdict = valid.1 }))
verdict_refused bytes m (NoRoomToValidate back) spells valid = inl refl
