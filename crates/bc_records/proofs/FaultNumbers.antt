-- The numbers of values in a body, with one record more.
use Rattle.std.proofs.Common.{◌≡◌, ℕ, suc, ◌+◌, Bool, true, false, List, [], ◌∷◌, ◌++◌, ◌==◌, ◌||◌, refl, ap, ◌∙◌, arith}
use Rattle.std.specs.Prelude.{if◌then◌else◌}
use Rattle.bc_records.specs.Entries.{Entry}
use Rattle.bc_records.specs.declared.faults.place.Place.{Place}
use Rattle.bc_records.specs.BodyPlaces.{IsBehind, place_behind}
use Rattle.bc_records.specs.RecordKinds.{Known, Numbers, code_of, entry_has_value, next_after, count_code}
use Rattle.bc_records.proofs.FaultWalk.{has-code-append}
use Rattle.bc_records.proofs.FaultCounts.{count_code-append}

pub next-append : (known : Known) (next : ℕ) (es : List Entry) (e : Entry) →
    next_after known next (es ++ e ∷ []) ≡ (if entry_has_value known (next_after known next es) e then suc (next_after known next es) else next_after known next es)
next-append known next [] e = refl
next-append known next (x ∷ es) e = next-append known (if entry_has_value known next x then suc next else next) es e

pub next-more : (known : Known) (next : ℕ) (es : List Entry) (e : Entry) → entry_has_value known (next_after known next es) e ≡ true →
    next_after known next (es ++ e ∷ []) ≡ suc (next_after known next es)
next-more known next es e has =
    next-append known next es e ∙ ap (λ b. if b then suc (next_after known next es) else next_after known next es) has

pub next-same : (known : Known) (next : ℕ) (es : List Entry) (e : Entry) → entry_has_value known (next_after known next es) e ≡ false →
    next_after known next (es ++ e ∷ []) ≡ next_after known next es
next-same known next es e has =
    next-append known next es e ∙ ap (λ b. if b then suc (next_after known next es) else next_after known next es) has

count-one : (code : ℕ) (es : List Entry) (e : Entry) → count_code code (es ++ e ∷ []) ≡ (if code_of e == code then suc (count_code code es) else count_code code es)
count-one code es e = count_code-append code es (e ∷ []) ∙ by_case (code_of e == code) where
  by_case : (b : Bool) → count_code code es + (if b then 1 else 0) ≡ (if b then suc (count_code code es) else count_code code es)
  by_case true = omega arith
  by_case false = omega arith

-- the place behind a record more
pub behind-more : (known : Known) (numbers : Numbers) (before : List Entry) (place : Place) (e : Entry) → IsBehind known numbers before place →
    IsBehind known numbers (before ++ e ∷ []) (place_behind known place e)
behind-more known numbers before place e at = record {
  next = next-append known numbers.first before e ∙ ap (λ n. if entry_has_value known n e then suc n else n) at.next;
  declared = has-code-append 1 before e ∙ ap (λ b. b || (code_of e == 1)) at.declared;
  returns = count-one 10 before e ∙ ap (λ n. if code_of e == 10 then suc n else n) at.returns;
  blocks = at.blocks;
}
