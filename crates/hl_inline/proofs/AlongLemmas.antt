-- What is known of the operands of a node, along the path to its last call.
use Rattle.std.proofs.Common.{◌≡◌, ◌∙◌, refl, sym, ap, subst, ℕ, zero, suc, ◌+◌, ◌<◌, ◌≤◌, Bool, true, false, ◌||◌, if◌then◌else◌, List, [], ◌∷◌, ◌++◌, length, Some, arith}
use Rattle.std.specs.Prelude.{IfSome}
use Rattle.hl_inline.specs.declared.last_call.LastCall.{LastCall}
use Rattle.hl_inline.specs.declared.last_call.Operand.{Operand}
use Rattle.hl_inline.specs.LastCalls.{IsOperand, Knows, any_holds, holds, path_among, path_from, path_inside}
use Rattle.hl_inline.proofs.Flags.{or-assoc}
use Rattle.hl_inline.proofs.LastCallLemmas.{from-behind, from-last, nothing-from, nothing-held}

-- the last number of a path, and those in front of it

abbrev last_number : List ℕ → ℕ
last_number [] = 0
last_number (number ∷ []) = number
last_number (number ∷ next ∷ path) = last_number (next ∷ path)

abbrev other_numbers : List ℕ → List ℕ
other_numbers [] = []
other_numbers (number ∷ []) = []
other_numbers (number ∷ next ∷ path) = number ∷ other_numbers (next ∷ path)

last-is : (path : List ℕ) (number : ℕ) → last_number (path ++ number ∷ []) ≡ number
last-is [] number = refl
last-is (first ∷ []) number = refl
last-is (first ∷ next ∷ path) number = last-is (next ∷ path) number

others-are : (path : List ℕ) (number : ℕ) → other_numbers (path ++ number ∷ []) ≡ path
others-are [] number = refl
others-are (first ∷ []) number = refl
others-are (first ∷ next ∷ path) number = ap (λ l. first ∷ l) (others-are (next ∷ path) number)

holds-some : (path : List ℕ) (number : ℕ) → holds (path ++ number ∷ []) ≡ true
holds-some [] number = refl
holds-some (first ∷ path) number = refl

-- its bounds

last-inside : (number : ℕ) (path : List ℕ) → (holds path || false) ≡ true → last_number (path_inside number path) ≡ number
last-inside number [] e = absurd (cc)
last-inside number (first ∷ path) e = last-is (first ∷ path) number

least-more : (number : ℕ) (path : List ℕ) (rest : List (List ℕ)) (b : Bool) → any_holds rest ≡ b → (any_holds rest ≡ true → suc number ≤ last_number (path_from (suc number) rest)) →
    (holds path || any_holds rest) ≡ true → number ≤ last_number (path_from number (path ∷ rest))
least-more number path rest true e least held =
    let same = ap last_number (from-behind number path rest e) in
    omega (arith, least e, same)
least-more number path rest false e least held =
    let same = ap last_number (from-last number path rest e) ∙ last-inside number path (sym (ap (λ b. holds path || b) e) ∙ held) in
    omega (arith, same)

least-last : (number : ℕ) (paths : List (List ℕ)) → any_holds paths ≡ true → number ≤ last_number (path_from number paths)
least-last number [] e = absurd (cc)
least-last number (path ∷ rest) e = least-more number path rest (any_holds rest) refl (least-last (suc number) rest) e

most-more : (number : ℕ) (path : List ℕ) (rest : List (List ℕ)) (b : Bool) → any_holds rest ≡ b → (any_holds rest ≡ true → last_number (path_from (suc number) rest) < suc number + length rest) →
    (holds path || any_holds rest) ≡ true → last_number (path_from number (path ∷ rest)) < number + suc (length rest)
most-more number path rest true e most held =
    let same = ap last_number (from-behind number path rest e) in
    omega (arith, most e, same)
most-more number path rest false e most held =
    let same = ap last_number (from-last number path rest e) ∙ last-inside number path (sym (ap (λ b. holds path || b) e) ∙ held) in
    omega (arith, same)

most-last : (number : ℕ) (paths : List (List ℕ)) → any_holds paths ≡ true → last_number (path_from number paths) < number + length paths
most-last number [] e = absurd (cc)
most-last number (path ∷ rest) e = most-more number path rest (any_holds rest) refl (most-last (suc number) rest) e

-- operands in front

any-held : (xs ys : List (List ℕ)) → any_holds (xs ++ ys) ≡ (any_holds xs || any_holds ys)
any-held [] ys = refl
any-held (path ∷ xs) ys = ap (λ b. holds path || b) (any-held xs ys) ∙ sym (or-assoc (holds path) (any_holds xs) (any_holds ys))

or-true : (b : Bool) → (b || true) ≡ true
or-true true = refl
or-true false = refl

or-false : (b : Bool) → (b || false) ≡ b
or-false true = refl
or-false false = refl

past-front : (number : ℕ) (before rest : List (List ℕ)) → any_holds rest ≡ true → path_from number (before ++ rest) ≡ path_from (number + length before) rest
past-front number [] rest e = ap (λ n. path_from n rest) (no-more number)
  where
    no-more : (n : ℕ) → n ≡ n + 0
    no-more n = omega arith
past-front number (path ∷ before) rest e =
    from-behind number path (before ++ rest) (any-held before rest ∙ (ap (λ b. any_holds before || b) e ∙ or-true (any_holds before))) ∙
    (past-front (suc number) before rest e ∙ ap (λ n. path_from n rest) (one-more number (length before)))
  where
    one-more : (n m : ℕ) → suc n + m ≡ n + suc m
    one-more n m = omega arith

in-front : (number : ℕ) (before rest : List (List ℕ)) → any_holds rest ≡ false → path_from number (before ++ rest) ≡ path_from number before
in-front number [] rest e = nothing-from number rest e
in-front number (path ∷ before) rest e =
    ap (λ b. if b then path_from (suc number) (before ++ rest) else path_inside number path) (any-held before rest ∙ (ap (λ b. any_holds before || b) e ∙ or-false (any_holds before))) ∙
    ap (λ p. if any_holds before then p else path_inside number path) (in-front (suc number) before rest e)

-- where the last call stands, seen from an operand

data Stands (numbers path : List ℕ) (behind : List (List ℕ)) (number : ℕ) : Type 0 where
  stands_behind : any_holds behind ≡ true → number < last_number numbers → Stands numbers path behind number
  stands_here : any_holds behind ≡ false → numbers ≡ path ++ number ∷ [] → Stands numbers path behind number
  stands_before : any_holds behind ≡ false → path ≡ [] → last_number numbers < number → Stands numbers path behind number

before-number : (before : List (List ℕ)) (b : Bool) → any_holds before ≡ b → last_number (path_from 1 before) < suc (length before)
before-number before true e = let bound = most-last 1 before e in omega (arith, bound)
before-number before false e = let none = ap last_number (nothing-from 1 before e) in omega (arith, none)

inside-held : (number : ℕ) (path : List ℕ) → holds path ≡ true → path_inside number path ≡ path ++ number ∷ []
inside-held number [] e = absurd (cc)
inside-held number (first ∷ path) e = refl

by-cases : (before : List (List ℕ)) (path : List ℕ) (behind : List (List ℕ)) (b p : Bool) → any_holds behind ≡ b → holds path ≡ p →
    Stands (path_among (before ++ path ∷ behind)) path behind (suc (length before))
by-cases before path behind true p e h =
    let n = suc (length before) in
    let held : any_holds (path ∷ behind) ≡ true = ap (λ b. holds path || b) e ∙ or-true (holds path) in
    let first : 1 + length before ≡ n = omega arith in
    let is : path_among (before ++ path ∷ behind) ≡ path_from (suc n) behind =
    past-front 1 before (path ∷ behind) held ∙ (ap (λ m. path_from m (path ∷ behind)) first ∙ from-behind n path behind e) in
    let same = ap last_number is in
    let bound = least-last (suc n) behind e in
    stands_behind e (omega (arith, same, bound))
by-cases before path behind false true e h =
    let n = suc (length before) in
    let held : any_holds (path ∷ behind) ≡ true = ap (λ b. b || any_holds behind) h in
    let first : 1 + length before ≡ n = omega arith in
    stands_here e (past-front 1 before (path ∷ behind) held ∙ (ap (λ m. path_from m (path ∷ behind)) first ∙ (from-last n path behind e ∙ inside-held n path h)))
by-cases before path behind false false e h =
    let unheld : any_holds (path ∷ behind) ≡ false = ap (λ b. b || any_holds behind) h ∙ e in
    let same = ap last_number (in-front 1 before (path ∷ behind) unheld) in
    let bound = before-number before (any_holds before) refl in
    stands_before e (nothing-held path h) (omega (arith, same, bound))

stands : (before : List (List ℕ)) (path : List ℕ) (behind : List (List ℕ)) (numbers : List ℕ) (number : ℕ) → number ≡ suc (length before) → numbers ≡ path_among (before ++ path ∷ behind) →
    Stands numbers path behind number
stands before path behind numbers number number_is is =
    subst (λ n. Stands numbers path behind n) (sym number_is) (subst (λ l. Stands l path behind (suc (length before))) (sym is)
    (by-cases before path behind (any_holds behind) (holds path) refl refl))

no-numbers : (numbers : List ℕ) → length numbers ≡ 0 → numbers ≡ []
no-numbers [] e = refl
no-numbers (number ∷ numbers) e = absurd (omega (arith, e))

-- an operand that was searched
searched-as : (o : Operand) (further : Bool) (numbers path : List ℕ) (behind : List (List ℕ)) → any_holds behind ≡ false → numbers ≡ path → IsOperand o further numbers [] → IsOperand o further path behind
searched-as o further numbers path behind e is f = (f.0 ∙ ap (λ b. further || b) (sym e), subst (Knows o) is f.1)

seen-nowhere : (o : Operand) (further : Bool) (numbers path : List ℕ) (behind : List (List ℕ)) (number : ℕ) → Stands numbers path behind number → numbers ≡ [] → IsOperand o further [] [] → IsOperand o further path behind
seen-nowhere o further numbers path behind number (stands_behind e far) none f = let same = ap last_number none in absurd (omega (arith, far, same))
seen-nowhere o further numbers path behind number (stands_here e here) none f = let same = sym (holds-some path number) ∙ (sym (ap holds here) ∙ ap holds none) in absurd (cc)
seen-nowhere o further numbers path behind number (stands_before e empty near) none f = searched-as o further [] path behind e (sym empty) f

seen-behind : (further : Bool) (numbers inner path : List ℕ) (behind : List (List ℕ)) (number last : ℕ) → Stands numbers path behind number → numbers ≡ inner ++ last ∷ [] → number < last → any_holds behind ≡ true
seen-behind further numbers inner path behind number last (stands_behind e far) is below = e
seen-behind further numbers inner path behind number last (stands_here e here) is below =
    let same = sym (last-is inner last) ∙ (sym (ap last_number is) ∙ (ap last_number here ∙ last-is path number)) in
    absurd (omega (arith, same, below))
seen-behind further numbers inner path behind number last (stands_before e empty near) is below =
    let same = ap last_number is ∙ last-is inner last in
    absurd (omega (arith, same, below, near))

seen-here : (o : Operand) (further : Bool) (numbers inner path : List ℕ) (behind : List (List ℕ)) (number last : ℕ) → Stands numbers path behind number → numbers ≡ inner ++ last ∷ [] → number ≡ last →
    IsOperand o further inner [] → IsOperand o further path behind
seen-here o further numbers inner path behind number last (stands_behind e far) is same f =
    let last_is = ap last_number is ∙ last-is inner last in
    absurd (omega (arith, last_is, same, far))
seen-here o further numbers inner path behind number last (stands_here e here) is same f =
    searched-as o further inner path behind e (sym (others-are inner last) ∙ (sym (ap other_numbers is) ∙ (ap other_numbers here ∙ others-are path number))) f
seen-here o further numbers inner path behind number last (stands_before e empty near) is same f =
    let last_is = ap last_number is ∙ last-is inner last in
    absurd (omega (arith, last_is, same, near))

seen-before : (o : Operand) (further : Bool) (numbers inner path : List ℕ) (behind : List (List ℕ)) (number last : ℕ) → Stands numbers path behind number → numbers ≡ inner ++ last ∷ [] → last < number →
    IsOperand o further [] [] → IsOperand o further path behind
seen-before o further numbers inner path behind number last (stands_behind e far) is above f =
    let last_is = ap last_number is ∙ last-is inner last in
    absurd (omega (arith, last_is, above, far))
seen-before o further numbers inner path behind number last (stands_here e here) is above f =
    let same = sym (last-is inner last) ∙ (sym (ap last_number is) ∙ (ap last_number here ∙ last-is path number)) in
    absurd (omega (arith, same, above))
seen-before o further numbers inner path behind number last (stands_before e empty near) is above f = searched-as o further [] path behind e (sym empty) f

-- what a node knows of the operand of a number

module _ (before : List (List ℕ)) (path : List ℕ) (behind : List (List ℕ)) (numbers : List ℕ) (number : ℕ)
    (number_is : number ≡ suc (length before)) (is : numbers ≡ path_among (before ++ path ∷ behind)) (further : Bool) where
  pub none-known : (o : Operand) → length numbers ≡ 0 → IsOperand o further [] [] → IsOperand o further path behind
  none-known o none f = seen-nowhere o further numbers path behind number (stands before path behind numbers number number_is is) (no-numbers numbers none) f

  pub behind-known : (inner : List ℕ) (last : ℕ) → numbers ≡ inner ++ last ∷ [] → number < last → true ≡ (further || any_holds behind)
  behind-known inner last split below =
      sym (ap (λ b. further || b) (seen-behind further numbers inner path behind number last (stands before path behind numbers number number_is is) split below) ∙ or-true further)

  pub here-known : (o : Operand) (inner : List ℕ) (last : ℕ) → numbers ≡ inner ++ last ∷ [] → number ≡ last → IsOperand o further inner [] → IsOperand o further path behind
  here-known o inner last split same f = seen-here o further numbers inner path behind number last (stands before path behind numbers number number_is is) split same f

  pub before-known : (o : Operand) (inner : List ℕ) (last : ℕ) → numbers ≡ inner ++ last ∷ [] → last < number → IsOperand o further [] [] → IsOperand o further path behind
  before-known o inner last split above f = seen-before o further numbers inner path behind number last (stands before path behind numbers number number_is is) split above f

-- where the last call of an operand is known
pub some-known : (o : Operand) (l : LastCall) (path : List ℕ) → o.last_call ≡ Some l → Knows o path → l.numbers.now ≡ path
some-known o l path is known = subst (λ x. IfSome x (λ c. c.numbers.now ≡ path)) is known
