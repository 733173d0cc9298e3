-- Bytes pass with one module or fail for one fault, by the laws of the layers.
use mathlib.Core.Logic.{inl, inr}
use Rattle.std.proofs.Common.{◌≡◌, ℕ, List, ◌∷◌, length, ap, sym, ◌∙◌, subst, arith}
use Rattle.std.specs.Prelude.{All, Result, Ok, Err}
use Rattle.std.proofs.lemmas.List.Elements.{All-head}
use Rattle.ir_core.specs.declared.module.Module.{Module}
use Rattle.ir_core.specs.declared.spot.Spot.{Spot}
use Rattle.bc_stream.specs.Blocks.{Contents}
use Rattle.bc_stream.specs.Spelling.{Spelled, Faulty, OneList, OneFault, NoFault}
use Rattle.bc_stream.specs.declared.fault.StreamFault.TheVariants.{Bad as BadStream}
use Rattle.bc_records.specs.FaultSites.{Site, site, IsFree}
use Rattle.bc_records.specs.Records.{OneModule}
use Rattle.bc_records.specs.RecordFaults.{IsFault, record_sites, OneRecordFault, NoRecordFault}
use Rattle.bc_records.specs.declared.fault.RecordFault.TheVariants.{Bad as BadRecord}
use Rattle.bc_records.proofs.Tests.{all_right}
use Rattle.dx_container.specs.Container.{FaultIs}
use Rattle.dx_container.specs.Laws.{AtMostOneContent, AtMostOneFault, ContainedHasNoFault}
use Rattle.dx_container.specs.declared.content.ContainerFault.{ContainerFault}
use Rattle.ir_core.specs.ValidatorRules.{Breaks}
use Rattle.dx_validate.specs.Verdict.{IsSpotless, IsVerdict, IsAtOrBefore}
use Rattle.dxil_driver.specs.Compiled.{Spells}
use Rattle.dxil_driver.specs.Check.{Holds, HasStreamFault, HasRecordFault, HasVerdict, Passes, Fails, in_container, in_stream, in_records, in_module, HasOneAnswer, IsChecked, GivesModule, NamesFault}
use Rattle.dxil_driver.specs.declared.checker.CheckFault.{CheckFault}
use Rattle.dxil_driver.specs.declared.checker.CheckFault.TheVariants.{Container, Stream, Records, Rules}
use Rattle.dxil_driver.proofs.Containers.{only_module}

-- the laws of the layers
pub record Laws : Type 0 where
  pub contents : AtMostOneContent
  pub container_faults : AtMostOneFault
  pub no_container_fault : ContainedHasNoFault
  pub lists : OneList
  pub stream_faults : OneFault
  pub no_stream_fault : NoFault
  pub modules : OneModule
  pub record_faults : OneRecordFault
  pub no_record_fault : NoRecordFault

held : (bytes : List ℕ) (m : Module) (s : Spells bytes m) → Holds bytes s.bitcode
held bytes m s = record { major = s.major; minor = s.minor; contained = s.contained }

module _ (laws : Laws) (bytes : List ℕ) where
  same_bitcode : (a b : List ℕ) → Holds bytes a → Holds bytes b → a ≡ b
  same_bitcode a b h k = (laws.contents bytes a b h.major h.minor k.major k.minor h.contained k.contained).0

  -- the fault of a layer stands against the next layers

  no_container : (fault : ContainerFault) (bitcode : List ℕ) → FaultIs bytes fault.kind fault.offset → Holds bytes bitcode → ⊥
  no_container fault bitcode f h = laws.no_container_fault bytes bitcode h.major h.minor fault.kind fault.offset h.contained f

  no_stream : (kind bit : ℕ) (bitcode : List ℕ) (blocks : Contents) → HasStreamFault bytes kind bit → Holds bytes bitcode → Spelled bitcode blocks → ⊥
  no_stream kind bit bitcode blocks f h s =
      laws.no_stream_fault bitcode blocks kind bit s (subst (λ (b : List ℕ). Faulty b kind bit) (same_bitcode f.bitcode bitcode f.holds h) f.faulty)

  faulty_free : (blocks : Contents) (kind block at : ℕ) → IsFault blocks kind block at → All IsFree (record_sites blocks) → ⊥
  faulty_free blocks kind block at f free =
      let here : Site = site block at f.kinds in
      let none : IsFree here = All-head IsFree here f.after (all_right IsFree f.before (here ∷ f.after) (subst (All IsFree) f.order free)) in
      omega (arith, f.has.1, ap length none)

  no_records : (kind block at : ℕ) (m : Module) → HasRecordFault bytes kind block at → Spells bytes m → ⊥
  no_records kind block at m f s =
      let bits : f.bitcode ≡ s.bitcode = same_bitcode f.bitcode s.bitcode f.holds (held bytes m s) in
      let blocks : f.blocks ≡ s.blocks = laws.lists s.bitcode f.blocks s.blocks (subst (λ (b : List ℕ). Spelled b f.blocks) bits f.spelled) s.spelled in
      faulty_free s.blocks kind block at (subst (λ (b : Contents). IsFault b kind block at) blocks f.faulty) (laws.no_record_fault s.blocks m s.recorded)

  -- a layer has one fault

  same_container : (f g : ContainerFault) → (f.kind ≡ g.kind) × (f.offset ≡ g.offset) → Container f ≡ Container g
  same_container f g same =
      ap (λ k. Container (record { kind = k; offset = f.offset })) same.0 ∙ ap (λ o. Container (record { kind = g.kind; offset = o })) same.1

  same_stream : (kind bit other place : ℕ) → HasStreamFault bytes kind bit → HasStreamFault bytes other place → Stream (BadStream kind bit) ≡ Stream (BadStream other place)
  same_stream kind bit other place f g =
      let same = laws.stream_faults g.bitcode kind other bit place (subst (λ (b : List ℕ). Faulty b kind bit) (same_bitcode f.bitcode g.bitcode f.holds g.holds) f.faulty) g.faulty in
      ap (λ k. Stream (BadStream k bit)) same.0 ∙ ap (λ b. Stream (BadStream other b)) same.1

  same_records : (kind block at other number place : ℕ) → HasRecordFault bytes kind block at → HasRecordFault bytes other number place →
      Records (BadRecord kind block at) ≡ Records (BadRecord other number place)
  same_records kind block at other number place f g =
      let bits : f.bitcode ≡ g.bitcode = same_bitcode f.bitcode g.bitcode f.holds g.holds in
      let blocks : f.blocks ≡ g.blocks = laws.lists g.bitcode f.blocks g.blocks (subst (λ (b : List ℕ). Spelled b f.blocks) bits f.spelled) g.spelled in
      let same = laws.record_faults g.blocks kind block at other number place (subst (λ (b : Contents). IsFault b kind block at) blocks f.faulty) g.faulty in
      ap (λ k. Records (BadRecord k block at)) same.0 ∙ (ap (λ b. Records (BadRecord other b at)) same.1 ∙ ap (λ a. Records (BadRecord other number a)) same.2)

  same_m : (m n : Module) → Spells bytes m → Spells bytes n → m ≡ n
  same_m m n a b = only_module laws.contents laws.lists laws.modules bytes n m b a

  same_spot : (s t : Spot) → IsAtOrBefore s t → IsAtOrBefore t s → s ≡ t
  same_spot s t p q =
      let parts : s.part ≡ t.part = part_of p q in
      let firsts : s.first ≡ t.first = first_of p q in
      let seconds : s.second ≡ t.second = second_of p q in
      ap (λ a. record { part = a; first = s.first; second = s.second }) parts
      ∙ (ap (λ b. record { part = t.part; first = b; second = s.second }) firsts
      ∙ ap (λ c. record { part = t.part; first = t.first; second = c }) seconds)
    where
      part_of : IsAtOrBefore s t → IsAtOrBefore t s → s.part ≡ t.part
      part_of p q = grind (arith, p, q)

      first_of : IsAtOrBefore s t → IsAtOrBefore t s → s.first ≡ t.first
      first_of p q = grind (arith, p, q)

      second_of : IsAtOrBefore s t → IsAtOrBefore t s → s.second ≡ t.second
      second_of p q = grind (arith, p, q)

  same_verdict : (rule other : ℕ) (spot there : Spot) → HasVerdict bytes rule spot → HasVerdict bytes other there → Rules rule spot ≡ Rules other there
  same_verdict rule other spot there f g =
      let m : Module = g.m in
      let own : IsVerdict m rule spot = subst (λ (n : Module). IsVerdict n rule spot) (same_m f.m g.m f.spells g.spells) f.verdict in
      let rules : rule ≡ other = omega (arith, own.least other there g.verdict.broken, g.verdict.least rule spot own.broken) in
      let spots : spot ≡ there = same_spot spot there
      (own.first there (subst (λ (r : ℕ). Breaks m r there) (sym rules) g.verdict.broken))
      (g.verdict.first spot (subst (λ (r : ℕ). Breaks m r spot) rules own.broken)) in
      ap (λ r. Rules r spot) rules ∙ ap (λ s. Rules other s) spots

  one_fault : (fault other : CheckFault) → Fails bytes fault → Fails bytes other → fault ≡ other
  one_fault _ _ (in_container f p) (in_container g q) = same_container f g (laws.container_faults bytes f.kind f.offset g.kind g.offset p q)
  one_fault _ _ (in_container f p) (in_stream k b q) = absurd (no_container f q.bitcode p q.holds)
  one_fault _ _ (in_container f p) (in_records k b a q) = absurd (no_container f q.bitcode p q.holds)
  one_fault _ _ (in_container f p) (in_module r s q) = absurd (no_container f q.spells.bitcode p (held bytes q.m q.spells))
  one_fault _ _ (in_stream k b p) (in_container g q) = absurd (no_container g p.bitcode q p.holds)
  one_fault _ _ (in_stream k b p) (in_stream l c q) = same_stream k b l c p q
  one_fault _ _ (in_stream k b p) (in_records l c a q) = absurd (no_stream k b q.bitcode q.blocks p q.holds q.spelled)
  one_fault _ _ (in_stream k b p) (in_module r s q) = absurd (no_stream k b q.spells.bitcode q.spells.blocks p (held bytes q.m q.spells) q.spells.spelled)
  one_fault _ _ (in_records k b a p) (in_container g q) = absurd (no_container g p.bitcode q p.holds)
  one_fault _ _ (in_records k b a p) (in_stream l c q) = absurd (no_stream l c p.bitcode p.blocks q p.holds p.spelled)
  one_fault _ _ (in_records k b a p) (in_records l c d q) = same_records k b a l c d p q
  one_fault _ _ (in_records k b a p) (in_module r s q) = absurd (no_records k b a q.m p q.spells)
  one_fault _ _ (in_module r s p) (in_container g q) = absurd (no_container g p.spells.bitcode q (held bytes p.m p.spells))
  one_fault _ _ (in_module r s p) (in_stream l c q) = absurd (no_stream l c p.spells.bitcode p.spells.blocks q (held bytes p.m p.spells) p.spells.spelled)
  one_fault _ _ (in_module r s p) (in_records l c a q) = absurd (no_records l c a p.m q p.spells)
  one_fault _ _ (in_module r s p) (in_module l t q) = same_verdict r l s t p q

  not_both : (m : Module) (fault : CheckFault) → Spells bytes m → IsSpotless m → Fails bytes fault → ⊥
  not_both m _ s clean (in_container f p) = no_container f s.bitcode p (held bytes m s)
  not_both m _ s clean (in_stream k b p) = no_stream k b s.bitcode s.blocks p (held bytes m s) s.spelled
  not_both m _ s clean (in_records k b a p) = no_records k b a m p s
  not_both m _ s clean (in_module r t p) = clean r t (subst (λ (n : Module). Breaks n r t) (same_m p.m m p.spells s) p.verdict.broken)

pub has_one_answer : Laws → HasOneAnswer
unfolding Passes
has_one_answer laws = record {
  one_module = λ bytes m n p q. same_m laws bytes m n p.0 q.0;
  one_fault = λ bytes fault other p q. one_fault laws bytes fault other p q;
  not_both = λ bytes m fault p f. not_both laws bytes m fault p.0 p.1 f;
}

-- the answer is the one that the bytes have

pub gives : HasOneAnswer → (bytes : List ℕ) (m : Module) (r : Result Module CheckFault) → IsChecked bytes r → Passes bytes m → GivesModule m r
gives law bytes m (Ok n) is p = law.one_module bytes n m is p
gives law bytes m (Err fault) (inl memory) p = memory
gives law bytes m (Err fault) (inr fails) p = absurd (law.not_both bytes m fault p fails)

pub names : HasOneAnswer → (bytes : List ℕ) (fault : CheckFault) (r : Result Module CheckFault) → IsChecked bytes r → Fails bytes fault → NamesFault fault r
names law bytes fault (Ok n) is f = absurd (law.not_both bytes n fault is f)
names law bytes fault (Err other) (inl memory) f = inr (ap Err memory)
names law bytes fault (Err other) (inr fails) f = inl (ap Err (law.one_fault bytes other fault fails f))
