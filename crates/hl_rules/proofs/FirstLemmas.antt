-- A tree has at most one first broken rule, and at most one program.
use Rattle.std.proofs.Common.{◌≡◌, ◌∙◌, sym, ap, arith, ℕ, ◌<◌, ◌≤◌, ◌⊎◌, Some}
use Rattle.std.specs.Prelude.{unwrap_or}
use Rattle.hl_rules.specs.Laws.{AtMostOneFirst, AtMostOneProgram, NoProgram}

-- two places, each of which is at or before the other
same_place : (at rule other_at other : ℕ) → (at < other_at) ⊎ (at ≡ other_at) × (rule ≤ other) → (other_at < at) ⊎ (other_at ≡ at) × (other ≤ rule) → (at ≡ other_at) × (rule ≡ other)
same_place at rule other_at other h k = grind arith

some_injective : {A : Type 0} {x y : A} → Some x ≡ Some y → x ≡ y
some_injective {x = x} e = ap (λ o. unwrap_or o x) e

pub at_most_one_first : AtMostOneFirst
at_most_one_first tree tokens entry at rule other_at other one two =
    same_place at rule other_at other (one.first other_at other two.breaks) (two.first at rule one.breaks)

pub at_most_one_program : AtMostOneProgram
at_most_one_program tree tokens entry program other one two = some_injective (sym one.becomes ∙ two.becomes)

pub no_program : NoProgram
no_program tree tokens entry at rule program broken made = made.free at rule broken
