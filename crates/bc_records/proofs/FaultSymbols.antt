-- The values that the records of symbol tables name, with one record more.
use Rattle.std.proofs.Common.{◌≡◌, ℕ, ◌<◌, ◌==◌, nat_lt, Bool, true, false, ◌||◌, ◌&&◌, List, [], ◌∷◌, ◌++◌, Some, length, get_or, set, refl, ap, sym, ◌∙◌, arith, eq-eqb, get_or-set_same, get_or-set_other, length-set}
use Rattle.std.specs.Prelude.{slice_get, ◌⊎◌}
use Rattle.std.proofs.Common.{inl, inr}
use Rattle.std.proofs.lemmas.Option.{slice_get-get_or}
use Rattle.std.proofs.lemmas.Bool.{cases_order, and_from, and_left, and_right, lt-ltb, le-ltb, ne_eqb}
use Rattle.bc_records.specs.Entries.{Entry, entry}
use Rattle.bc_records.specs.FaultSearch.{MarksNamed}
use Rattle.bc_records.specs.RecordKinds.{code_of, operands_of, operand, names_value}

-- whether a record names a value
abbrev pub names_here : ℕ → Entry → Bool
names_here value e = (code_of e == 1) && (nat_lt 0 (length (operands_of e)) && (operand (operands_of e) 0 == value))

pub or-assoc : (a b c : Bool) → (a || (b || c)) ≡ ((a || b) || c)
or-assoc true b c = refl
or-assoc false b c = refl

pub or-false : (a : Bool) → (a || false) ≡ a
or-false true = refl
or-false false = refl

pub or-true : (a : Bool) → (a || true) ≡ true
or-true true = refl
or-true false = refl

pub names-append : (value : ℕ) (es : List Entry) (e : Entry) → names_value value (es ++ e ∷ []) ≡ (names_value value es || names_here value e)
names-append value [] e = or-false (names_here value e)
names-append value (x ∷ es) e = ap (λ b. names_here value x || b) (names-append value es e) ∙ or-assoc (names_here value x) (names_value value es) (names_here value e)

pub unmarked-more : (marks : List Bool) (earlier : List Entry) (e : Entry) → MarksNamed marks earlier →
    ((value : ℕ) → value < length marks → names_here value e ≡ false) → MarksNamed marks (earlier ++ e ∷ [])
unmarked-more marks earlier e marked none value within =
    marked value within
    ∙ ap Some (sym (names-append value earlier e ∙ (ap (λ b. names_value value earlier || b) (none value within) ∙ or-false (names_value value earlier))))

-- the value that a record names
pub named-value : (value : ℕ) (operands : List ℕ) → (length operands ≡ 0 → ⊥) → operand operands 0 ≡ value → names_here value (entry 1 operands) ≡ true
named-value value operands some same =
    and_from (nat_lt 0 (length operands)) (operand operands 0 == value) (lt-ltb 0 (length operands) (omega (arith, some))) (eq-eqb (operand operands 0) value same)

pub not-named : (value : ℕ) (operands : List ℕ) → (operand operands 0 ≡ value → ⊥) → names_here value (entry 1 operands) ≡ false
not-named value operands other = and_right (nat_lt 0 (length operands)) (operand operands 0 == value) (ne_eqb (operand operands 0) value other)

pub none-named : (value code : ℕ) (operands : List ℕ) → length operands ≡ 0 → names_here value (entry code operands) ≡ false
none-named value code operands none =
    and_right (code == 1) (nat_lt 0 (length operands) && (operand operands 0 == value))
    (and_left (nat_lt 0 (length operands)) (operand operands 0 == value) (le-ltb 0 (length operands) (omega (arith, none))))

pub other-code : (value code : ℕ) (operands : List ℕ) → (code ≡ 1 → ⊥) → names_here value (entry code operands) ≡ false
other-code value code operands other = and_left (code == 1) (nat_lt 0 (length operands) && (operand operands 0 == value)) (ne_eqb code 1 other)

pub marked-more : (marks : List Bool) (earlier : List Entry) (operands : List ℕ) (v : ℕ) → v < length marks → (length operands ≡ 0 → ⊥) → operand operands 0 ≡ v →
    MarksNamed marks earlier → MarksNamed (set marks v true) (earlier ++ entry 1 operands ∷ [])
marked-more marks earlier operands v within some same marked value inside = by_case (cases_order value v) where
  inside_old : value < length marks
  inside_old = omega (arith, inside, length-set marks v true)

  other : (value ≡ v → ⊥) → slice_get (set marks v true) value ≡ Some (names_value value (earlier ++ entry 1 operands ∷ []))
  other ne =
      slice_get-get_or (set marks v true) value false inside
      ∙ (ap Some (get_or-set_other marks v value true false ne)
      ∙ (sym (slice_get-get_or marks value false inside_old)
      ∙ (marked value inside_old
      ∙ ap Some (sym (names-append value earlier (entry 1 operands)
      ∙ (ap (λ b. names_value value earlier || b) (not-named value operands (λ e. ne (sym e ∙ same))) ∙ or-false (names_value value earlier)))))))

  by_case : (value ≡ v) ⊎ ((value < v) ⊎ (v < value)) → slice_get (set marks v true) value ≡ Some (names_value value (earlier ++ entry 1 operands ∷ []))
  by_case (inl e) =
      slice_get-get_or (set marks v true) value false inside
      ∙ (ap (λ n. Some (get_or (set marks v true) n false)) e
      ∙ (ap Some (get_or-set_same marks v true false within)
      ∙ ap Some (sym (names-append value earlier (entry 1 operands)
      ∙ (ap (λ b. names_value value earlier || b) (named-value value operands some (same ∙ sym e)) ∙ or-true (names_value value earlier))))))
  by_case (inr (inl lt)) = other (λ e. omega (arith, lt, e))
  by_case (inr (inr lt)) = other (λ e. omega (arith, lt, e))
