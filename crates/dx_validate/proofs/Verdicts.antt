-- The verdict, from what the searches for each rule found.
use Rattle.std.proofs.Common.{◌≡◌, ℕ, ◌<◌, ◌≤◌, arith, rules, refl, Some, inl, inr}
use Rattle.std.specs.Prelude.{slice_get, ◌⊎◌}
use Rattle.std.proofs.lemmas.Bool.{cases_order}
use Rattle.ir_core.specs.declared.module.Module.{Module}
use Rattle.ir_core.specs.declared.module.Ty.{Ty}
use Rattle.ir_core.specs.declared.module.Ty.TheVariants.{Int}
use Rattle.ir_core.specs.declared.spot.Spot.{Spot}
use Rattle.ir_core.specs.Metadata.{dxil_triple}
use Rattle.ir_core.specs.Spots.{module_spot, type_spot, function_spot, named_spot}
use Rattle.ir_core.specs.ValidatorRules.{Breaks, other_triple, unknown_name, odd_width, no_body, second_body, body_with_parts, HasBodyAt, IsPlain}
use Rattle.dx_validate.specs.Places.{FailsAt, HasKnownName, HasFineWidth}
use Rattle.dx_validate.specs.Bodies.{IsWrongAt}
use Rattle.dx_validate.specs.Verdict.{IsVerdict, IsSpotless, IsAtOrBefore}

-- what each rule rests on
abbrev pub HasTriple : Module → Type 0
HasTriple m = m.triple ≡ dxil_triple

abbrev pub KnowsNames : Module → Type 0
KnowsNames m = (k : ℕ) → FailsAt HasKnownName m.named k → ⊥

abbrev pub HasFineWidths : Module → Type 0
HasFineWidths m = (k : ℕ) → FailsAt HasFineWidth m.types k → ⊥

-- a rule's number is one of four
pub rule-from-1 : {m : Module} {r : ℕ} {s : Spot} → Breaks m r s → 1 ≤ r
rule-from-1 (other_triple h) = omega arith
rule-from-1 (unknown_name p n at h) = omega arith
rule-from-1 (odd_width n w at h) = omega arith
rule-from-1 (no_body h) = omega arith
rule-from-1 (second_body p e lt a b) = omega arith
rule-from-1 (body_with_parts p f at has h) = omega arith

pub rule-from-3 : {m : Module} {r : ℕ} {s : Spot} → HasTriple m → Breaks m r s → 3 ≤ r
rule-from-3 t (other_triple h) = absurd (h t)
rule-from-3 t (unknown_name p n at h) = omega arith
rule-from-3 t (odd_width n w at h) = omega arith
rule-from-3 t (no_body h) = omega arith
rule-from-3 t (second_body p e lt a b) = omega arith
rule-from-3 t (body_with_parts p f at has h) = omega arith

pub rule-from-8 : {m : Module} {r : ℕ} {s : Spot} → HasTriple m → KnowsNames m → Breaks m r s → 8 ≤ r
rule-from-8 t names (other_triple h) = absurd (h t)
rule-from-8 t names (unknown_name p n at h) = absurd (names p (n, at, h))
rule-from-8 t names (odd_width n w at h) = omega arith
rule-from-8 t names (no_body h) = omega arith
rule-from-8 t names (second_body p e lt a b) = omega arith
rule-from-8 t names (body_with_parts p f at has h) = omega arith

pub rule-from-9 : {m : Module} {r : ℕ} {s : Spot} → HasTriple m → KnowsNames m → HasFineWidths m → Breaks m r s → 9 ≤ r
rule-from-9 t names widths (other_triple h) = absurd (h t)
rule-from-9 t names widths (unknown_name p n at h) = absurd (names p (n, at, h))
rule-from-9 t names widths (odd_width n w at h) = absurd (widths n (Int w, at, h))
rule-from-9 t names widths (no_body h) = omega arith
rule-from-9 t names widths (second_body p e lt a b) = omega arith
rule-from-9 t names widths (body_with_parts p f at has h) = omega arith

-- numbers by trichotomy, at what a search says of the places before
at_or_before : (part k j : ℕ) → (j < k → ⊥) → IsAtOrBefore (record { part = part; first = k; second = 0 }) (record { part = part; first = j; second = 0 })
at_or_before part k j none = inr (refl, below (cases_order k j)) where
  below : (k ≡ j) ⊎ ((k < j) ⊎ (j < k)) → (k < j) ⊎ ((k ≡ j) × (0 ≤ 0))
  below (inl e) = inr (e, omega arith)
  below (inr (inl lt)) = inl lt
  below (inr (inr lt)) = absurd (none lt)

module_first : (there : Spot) → IsAtOrBefore module_spot there
module_first there = search rules

-- the first rule: the triple
pub verdict-1 : (m : Module) → ¬ HasTriple m → IsVerdict m 1 module_spot
verdict-1 m wrong = record { broken = other_triple wrong; least = λ other there b. rule-from-1 b; first = λ there b. module_first there }

first-3 : {m : Module} {r : ℕ} {s : Spot} (k : ℕ) → HasTriple m → ((j : ℕ) → j < k → FailsAt HasKnownName m.named j → ⊥) → Breaks m r s → r ≡ 3 → IsAtOrBefore (named_spot k) s
first-3 k t before (other_triple h) e = absurd (h t)
first-3 k t before (unknown_name p n at h) e = at_or_before 5 k p (λ lt. before p lt (n, at, h))
first-3 k t before (odd_width n w at h) e = absurd (omega arith)
first-3 k t before (no_body h) e = absurd (omega arith)
first-3 k t before (second_body p q lt a b) e = absurd (omega arith)
first-3 k t before (body_with_parts p f at has h) e = absurd (omega arith)

pub verdict-3 : (m : Module) (k : ℕ) → HasTriple m → FailsAt HasKnownName m.named k → ((j : ℕ) → j < k → FailsAt HasKnownName m.named j → ⊥) → IsVerdict m 3 (named_spot k)
verdict-3 m k t (n, at, wrong) before = record { broken = unknown_name k n at wrong; least = λ other there b. rule-from-3 t b; first = λ there b. first-3 k t before b refl }

first-8 : {m : Module} {r : ℕ} {s : Spot} (k : ℕ) → ((j : ℕ) → j < k → FailsAt HasFineWidth m.types j → ⊥) → Breaks m r s → r ≡ 8 → IsAtOrBefore (type_spot k) s
first-8 k before (other_triple h) e = absurd (omega arith)
first-8 k before (unknown_name p n at h) e = absurd (omega arith)
first-8 k before (odd_width n w at h) e = at_or_before 1 k n (λ lt. before n lt (Int w, at, h))
first-8 k before (no_body h) e = absurd (omega arith)
first-8 k before (second_body p q lt a b) e = absurd (omega arith)
first-8 k before (body_with_parts p f at has h) e = absurd (omega arith)

-- an integer type of a width that is fine nowhere is one that the rule names
odd_at : (m : Module) (k : ℕ) (ty : Ty) → slice_get m.types k ≡ Some ty → ¬ HasFineWidth ty → Breaks m 8 (type_spot k)
odd_at m k (Int w) at wrong = odd_width k w at wrong
odd_at m k _ at wrong = absurd (wrong tt)

pub verdict-8 : (m : Module) (k : ℕ) → HasTriple m → KnowsNames m → FailsAt HasFineWidth m.types k → ((j : ℕ) → j < k → FailsAt HasFineWidth m.types j → ⊥) → IsVerdict m 8 (type_spot k)
verdict-8 m k t names (ty, at, wrong) before = record { broken = odd_at m k ty at wrong; least = λ other there b. rule-from-8 t names b; first = λ there b. first-8 k before b refl }

pub verdict-9-missing : (m : Module) → HasTriple m → KnowsNames m → HasFineWidths m → ((place : ℕ) → HasBodyAt m.functions place → ⊥) → IsVerdict m 9 module_spot
verdict-9-missing m t names widths none =
    record { broken = no_body none; least = λ other there b. rule-from-9 t names widths b; first = λ there b. module_first there }

-- a wrong body is one that the rule names
broken_body : (m : Module) (k : ℕ) → IsWrongAt m.types m.functions k → Breaks m 9 (function_spot k)
broken_body m k (f, at, has, why) = by_cause why where
  by_cause : ((earlier : ℕ) × (earlier < k) × HasBodyAt m.functions earlier) ⊎ (¬ IsPlain m.types f.ty) → Breaks m 9 (function_spot k)
  by_cause (inl e) = second_body k e.0 e.1 e.2 (f, at, has)
  by_cause (inr odd) = body_with_parts k f at has odd

first-9 : {m : Module} {r : ℕ} {s : Spot} (k : ℕ) → (place : ℕ) × HasBodyAt m.functions place → ((j : ℕ) → j < k → IsWrongAt m.types m.functions j → ⊥) → Breaks m r s → r ≡ 9 → IsAtOrBefore (function_spot k) s
first-9 k some before (other_triple h) e = absurd (omega arith)
first-9 k some before (unknown_name p n at h) e = absurd (omega arith)
first-9 k some before (odd_width n w at h) e = absurd (omega arith)
first-9 k some before (no_body h) e = absurd (h some.0 some.1)
first-9 k some before (second_body p q lt a b) e = at_or_before 3 k p (λ l. before p l (b.0, b.1, b.2, inl (q, lt, a)))
first-9 k some before (body_with_parts p f at has h) e = at_or_before 3 k p (λ l. before p l (f, at, has, inr h))

pub verdict-9 : (m : Module) (k : ℕ) → HasTriple m → KnowsNames m → HasFineWidths m → IsWrongAt m.types m.functions k →
    ((j : ℕ) → j < k → IsWrongAt m.types m.functions j → ⊥) → IsVerdict m 9 (function_spot k)
verdict-9 m k t names widths wrong before =
    record { broken = broken_body m k wrong; least = λ other there b. rule-from-9 t names widths b; first = λ there b. first-9 k (k, (wrong.0, wrong.1, wrong.2)) before b refl }

pub spotless : (m : Module) → HasTriple m → KnowsNames m → HasFineWidths m → (place : ℕ) × HasBodyAt m.functions place →
    ((j : ℕ) → IsWrongAt m.types m.functions j → ⊥) → IsSpotless m
spotless m t names widths some right rule spot broken = by_case broken where
  by_case : {r : ℕ} {s : Spot} → Breaks m r s → ⊥
  by_case (other_triple h) = h t
  by_case (unknown_name p n at h) = names p (n, at, h)
  by_case (odd_width n w at h) = widths n (Int w, at, h)
  by_case (no_body h) = h some.0 some.1
  by_case (second_body p q lt a b) = right p (b.0, b.1, b.2, inl (q, lt, a))
  by_case (body_with_parts p f at has h) = right p (f, at, has, inr h)
