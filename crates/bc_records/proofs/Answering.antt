-- A block list has one answer: its module, or its fault.
use mathlib.Core.Logic.{inl, inr}
use Rattle.std.proofs.Common.{◌≡◌, ℕ, ◌∷◌, length, refl, ap, ◌∙◌, subst, arith}
use Rattle.std.specs.Prelude.{All, Option, None, Some, MatchOption, Result, Ok, Err, MatchResult}
use Rattle.std.proofs.lemmas.List.Elements.{All-head}
use Rattle.ir_core.specs.declared.module.Module.{Module}
use Rattle.bc_stream.specs.Blocks.{Contents}
use Rattle.bc_records.specs.FaultSites.{Site, site, IsFree}
use Rattle.bc_records.specs.RecordAnswers.{GivesModule, IsBadList, NamesFault}
use Rattle.bc_records.specs.RecordFaults.{IsFault, record_sites, OneRecordFault, NoRecordFault}
use Rattle.bc_records.specs.Records.{Recorded, OneModule}
use Rattle.bc_records.specs.declared.fault.RecordFault.{RecordFault}
use Rattle.bc_records.specs.declared.fault.RecordFault.TheVariants.{Bad, Memory}
use Rattle.bc_records.proofs.Tests.{all_right}

-- where nothing was found, what that says holds
pub without : {F : Type 0} (A : Type 0) (B : F → Type 0) (found : Option F) → found ≡ None → MatchOption found A B → A
without A B None is holds = holds
without A B (Some x) is holds = absurd (some_is_none is)
  where
    some_is_none : Some x ≡ None → ⊥
    some_is_none same = cc

-- a list whose places are free has no fault
pub faulty_free : (blocks : Contents) (kind block at : ℕ) → IsFault blocks kind block at → All IsFree (record_sites blocks) → ⊥
faulty_free blocks kind block at f free =
    let here : Site = site block at f.kinds in
    let none : IsFree here = All-head IsFree here f.after (all_right IsFree f.before (here ∷ f.after) (subst (All IsFree) f.order free)) in
    omega (arith, f.has.1, ap length none)

same_fault : (kind block at other number place : ℕ) → (kind ≡ other) × (block ≡ number) × (at ≡ place) → Bad kind block at ≡ Bad other number place
same_fault kind block at other number place same =
    ap (λ k. Bad k block at) same.0 ∙ (ap (λ b. Bad other b at) same.1 ∙ ap (λ a. Bad other number a) same.2)

module _ (blocks : Contents) where
  abbrev pub Answers : Result Module RecordFault → Type 0
  Answers answer = MatchResult answer (λ m. Recorded blocks m) (λ fault. IsBadList blocks fault)

  pub gives : OneModule → NoRecordFault → (answer : Result Module RecordFault) → Answers answer → (m : Module) → Recorded blocks m → GivesModule m answer
  gives one none (Ok n) is m recorded = one blocks n m is recorded
  gives one none (Err (Bad kind block at)) is m recorded = absurd (faulty_free blocks kind block at is (none blocks m recorded))
  gives one none (Err Memory) is m recorded = refl

  pub names : OneRecordFault → NoRecordFault → (answer : Result Module RecordFault) → Answers answer → (kind block at : ℕ) → IsFault blocks kind block at → NamesFault kind block at answer
  names one none (Ok n) is kind block at fault = absurd (faulty_free blocks kind block at fault (none blocks n is))
  names one none (Err (Bad other number place)) is kind block at fault = inl (same_fault other number place kind block at (one blocks other number place kind block at is fault))
  names one none (Err Memory) is kind block at fault = inr refl
