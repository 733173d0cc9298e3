-- What is free of broken rules: each rule says nothing of each of its sites.
use Rattle.std.proofs.Common.{◌≡◌, ◌∙◌, refl, sym, ℕ, Bool, true, false, List, [], ◌∷◌, ◌++◌}
use Rattle.std.proofs.lemmas.Grind.{flat_map-append}
use Rattle.hl_rules.specs.DeclarationRules.{rule_1, rule_2, rule_3, rule_4, rule_5, rule_6, rule_7, rule_8, rule_9, rule_10, rule_11, rule_12, rule_13, rule_14, rule_15, rule_16, rule_17, rule_21, rule_42}
use Rattle.hl_rules.specs.ExpressionRules.{rule_18, rule_19, rule_20, rule_22, rule_23, rule_24, rule_25, rule_26, rule_27, rule_28, rule_29, rule_30, rule_31, rule_32, rule_33, rule_34, rule_35, rule_36, rule_37, rule_38, rule_39, rule_40, rule_41}
use Rattle.hl_rules.specs.declared.found.Broken.{Broken}
use Rattle.hl_rules.specs.Found.{breaking, broken_if}
use Rattle.hl_rules.specs.Parts.{Part, Site}
use Rattle.hl_rules.specs.Rules.{broken_by, broken_in}
use Rattle.hl_rules.specs.Scopes.{Scope}

-- ---- lists

pub empty-left : {A : Type 0} (xs ys : List A) → xs ++ ys ≡ [] → xs ≡ []
empty-left [] ys e = refl
empty-left (x ∷ xs) ys e = absurd (cc e)

pub empty-right : {A : Type 0} (xs ys : List A) → xs ++ ys ≡ [] → ys ≡ []
empty-right [] ys e = e
empty-right (x ∷ xs) ys e = absurd (cc e)

breaking-none : (rule : ℕ) (tokens : List ℕ) → breaking rule tokens ≡ [] → tokens ≡ []
breaking-none rule [] e = refl
breaking-none rule (x ∷ xs) e = absurd (cc e)

-- what isn't broken doesn't hold
pub not_broken : (holds : Bool) (at : ℕ) → broken_if holds at ≡ [] → holds ≡ false
not_broken false at e = refl
not_broken true at e = absurd (cc e)

-- ---- sites

-- the sites are free of broken rules
abbrev pub IsFree : List Site → Type 0
IsFree sites = broken_in sites ≡ []

pub free-append : (xs ys : List Site) → broken_in (xs ++ ys) ≡ broken_in xs ++ broken_in ys
free-append xs ys = flat_map-append (λ place. broken_by place.scope place.part) xs ys

pub free-left : (xs ys : List Site) → IsFree (xs ++ ys) → IsFree xs
free-left xs ys e = empty-left (broken_in xs) (broken_in ys) (sym (free-append xs ys) ∙ e)

pub free-right : (xs ys : List Site) → IsFree (xs ++ ys) → IsFree ys
free-right xs ys e = empty-right (broken_in xs) (broken_in ys) (sym (free-append xs ys) ∙ e)

pub free-rest : (first : Site) (rest : List Site) → IsFree (first ∷ rest) → IsFree rest
free-rest first rest e = empty-right (broken_by first.scope first.part) (broken_in rest) e

-- ---- rules

-- each rule says nothing of a part
pub record Obeys (s : Scope) (part : Part) : Type 0 where
  pub obeys_1 : rule_1 s part ≡ []
  pub obeys_2 : rule_2 s part ≡ []
  pub obeys_3 : rule_3 s part ≡ []
  pub obeys_4 : rule_4 s part ≡ []
  pub obeys_5 : rule_5 s part ≡ []
  pub obeys_6 : rule_6 s part ≡ []
  pub obeys_7 : rule_7 s part ≡ []
  pub obeys_8 : rule_8 s part ≡ []
  pub obeys_9 : rule_9 s part ≡ []
  pub obeys_10 : rule_10 s part ≡ []
  pub obeys_11 : rule_11 s part ≡ []
  pub obeys_12 : rule_12 s part ≡ []
  pub obeys_13 : rule_13 s part ≡ []
  pub obeys_14 : rule_14 s part ≡ []
  pub obeys_15 : rule_15 s part ≡ []
  pub obeys_16 : rule_16 s part ≡ []
  pub obeys_17 : rule_17 s part ≡ []
  pub obeys_18 : rule_18 s part ≡ []
  pub obeys_19 : rule_19 s part ≡ []
  pub obeys_20 : rule_20 s part ≡ []
  pub obeys_21 : rule_21 s part ≡ []
  pub obeys_22 : rule_22 s part ≡ []
  pub obeys_23 : rule_23 s part ≡ []
  pub obeys_24 : rule_24 s part ≡ []
  pub obeys_25 : rule_25 s part ≡ []
  pub obeys_26 : rule_26 s part ≡ []
  pub obeys_27 : rule_27 s part ≡ []
  pub obeys_28 : rule_28 s part ≡ []
  pub obeys_29 : rule_29 s part ≡ []
  pub obeys_30 : rule_30 s part ≡ []
  pub obeys_31 : rule_31 s part ≡ []
  pub obeys_32 : rule_32 s part ≡ []
  pub obeys_33 : rule_33 s part ≡ []
  pub obeys_34 : rule_34 s part ≡ []
  pub obeys_35 : rule_35 s part ≡ []
  pub obeys_36 : rule_36 s part ≡ []
  pub obeys_37 : rule_37 s part ≡ []
  pub obeys_38 : rule_38 s part ≡ []
  pub obeys_39 : rule_39 s part ≡ []
  pub obeys_40 : rule_40 s part ≡ []
  pub obeys_41 : rule_41 s part ≡ []
  pub obeys_42 : rule_42 s part ≡ []

-- of lists one behind the other, each is empty
one : (rule : ℕ) (tokens : List ℕ) (rest : List Broken) → breaking rule tokens ++ rest ≡ [] → (tokens ≡ []) × (rest ≡ [])
one rule tokens rest e = (breaking-none rule tokens (empty-left (breaking rule tokens) rest e), empty-right (breaking rule tokens) rest e)

pub obeys : (s : Scope) (part : Part) → broken_by s part ≡ [] → Obeys s part
obeys s part e =
    let r1 = one 1 (rule_1 s part) _ e in
    let r2 = one 2 (rule_2 s part) _ r1.1 in
    let r3 = one 3 (rule_3 s part) _ r2.1 in
    let r4 = one 4 (rule_4 s part) _ r3.1 in
    let r5 = one 5 (rule_5 s part) _ r4.1 in
    let r6 = one 6 (rule_6 s part) _ r5.1 in
    let r7 = one 7 (rule_7 s part) _ r6.1 in
    let r8 = one 8 (rule_8 s part) _ r7.1 in
    let r9 = one 9 (rule_9 s part) _ r8.1 in
    let r10 = one 10 (rule_10 s part) _ r9.1 in
    let r11 = one 11 (rule_11 s part) _ r10.1 in
    let r12 = one 12 (rule_12 s part) _ r11.1 in
    let r13 = one 13 (rule_13 s part) _ r12.1 in
    let r14 = one 14 (rule_14 s part) _ r13.1 in
    let r15 = one 15 (rule_15 s part) _ r14.1 in
    let r16 = one 16 (rule_16 s part) _ r15.1 in
    let r17 = one 17 (rule_17 s part) _ r16.1 in
    let r18 = one 18 (rule_18 s part) _ r17.1 in
    let r19 = one 19 (rule_19 s part) _ r18.1 in
    let r20 = one 20 (rule_20 s part) _ r19.1 in
    let r21 = one 21 (rule_21 s part) _ r20.1 in
    let r22 = one 22 (rule_22 s part) _ r21.1 in
    let r23 = one 23 (rule_23 s part) _ r22.1 in
    let r24 = one 24 (rule_24 s part) _ r23.1 in
    let r25 = one 25 (rule_25 s part) _ r24.1 in
    let r26 = one 26 (rule_26 s part) _ r25.1 in
    let r27 = one 27 (rule_27 s part) _ r26.1 in
    let r28 = one 28 (rule_28 s part) _ r27.1 in
    let r29 = one 29 (rule_29 s part) _ r28.1 in
    let r30 = one 30 (rule_30 s part) _ r29.1 in
    let r31 = one 31 (rule_31 s part) _ r30.1 in
    let r32 = one 32 (rule_32 s part) _ r31.1 in
    let r33 = one 33 (rule_33 s part) _ r32.1 in
    let r34 = one 34 (rule_34 s part) _ r33.1 in
    let r35 = one 35 (rule_35 s part) _ r34.1 in
    let r36 = one 36 (rule_36 s part) _ r35.1 in
    let r37 = one 37 (rule_37 s part) _ r36.1 in
    let r38 = one 38 (rule_38 s part) _ r37.1 in
    let r39 = one 39 (rule_39 s part) _ r38.1 in
    let r40 = one 40 (rule_40 s part) _ r39.1 in
    let r41 = one 41 (rule_41 s part) _ r40.1 in
    let r42 = one 42 (rule_42 s part) _ r41.1 in
    record {
      obeys_1 = r1.0;
      obeys_2 = r2.0;
      obeys_3 = r3.0;
      obeys_4 = r4.0;
      obeys_5 = r5.0;
      obeys_6 = r6.0;
      obeys_7 = r7.0;
      obeys_8 = r8.0;
      obeys_9 = r9.0;
      obeys_10 = r10.0;
      obeys_11 = r11.0;
      obeys_12 = r12.0;
      obeys_13 = r13.0;
      obeys_14 = r14.0;
      obeys_15 = r15.0;
      obeys_16 = r16.0;
      obeys_17 = r17.0;
      obeys_18 = r18.0;
      obeys_19 = r19.0;
      obeys_20 = r20.0;
      obeys_21 = r21.0;
      obeys_22 = r22.0;
      obeys_23 = r23.0;
      obeys_24 = r24.0;
      obeys_25 = r25.0;
      obeys_26 = r26.0;
      obeys_27 = r27.0;
      obeys_28 = r28.0;
      obeys_29 = r29.0;
      obeys_30 = r30.0;
      obeys_31 = r31.0;
      obeys_32 = r32.0;
      obeys_33 = r33.0;
      obeys_34 = r34.0;
      obeys_35 = r35.0;
      obeys_36 = r36.0;
      obeys_37 = r37.0;
      obeys_38 = r38.0;
      obeys_39 = r39.0;
      obeys_40 = r40.0;
      obeys_41 = r41.0;
      obeys_42 = r42.0;
    }

pub free-first : (first : Site) (rest : List Site) → IsFree (first ∷ rest) → Obeys first.scope first.part
free-first first rest e = obeys first.scope first.part (empty-left (broken_by first.scope first.part) (broken_in rest) e)
