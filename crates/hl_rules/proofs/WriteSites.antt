-- Assignments and the operators `++` and `--` among free sites.
use Rattle.std.proofs.Common.{◌≡◌, ◌∙◌, refl, sym, ap, subst, ℕ, Bool, true, false, ◌||◌, not, if◌then◌else◌, nat_le, List, [], ◌∷◌, ◌++◌, Option, None, Some}
use Rattle.std.specs.Prelude.{option_and_then}
use Rattle.std.proofs.lemmas.Option.{same_Some}
use Rattle.hl_lexer.specs.declared.terminal.Terminal.{Terminal}
use Rattle.hl_lexer.specs.declared.terminal.Terminal.TheVariants as terminals
use Rattle.hl_parser.specs.Grammar.{is_assign, is_prefix}
use Rattle.hl_parser.specs.Trees.{Tree, at_of}
use Rattle.hl_meaning.specs.Types.{Ty, array_type, is_basic, is_void, scalar_type, struct_type, vector_type, void_type}
use Rattle.hl_meaning.specs.Conversions.{converts}
use Rattle.hl_meaning.specs.Operators.{computing, is_among}
use Rattle.hl_meaning.specs.Trees.{Location, a_location, place_type}
use Rattle.hl_meaning.specs.Places as places
use Rattle.hl_meaning.specs.WellFormed.{IsExpr}
use Rattle.hl_rules.specs.ExpressionRules.{is_no_conversion, is_unwritable}
use Rattle.hl_rules.specs.Expressions.{assignment_code, code_of, compound_code, plain_assignment, prefix_code, signed_code, step_code, with_two}
use Rattle.hl_rules.specs.Nodes.{Code, a_place_code, a_value_code, type_of_code, value_of_code}
use Rattle.hl_rules.specs.Operands.{negated_type, of_two, operand_type, operator_type, signed_type}
use Rattle.hl_rules.specs.Parts.{Site, a_conversion, a_written_side, site}
use Rattle.hl_rules.specs.Scopes.{Scope}
use Rattle.hl_rules.specs.Sites.{assignment_sites, operated, prefix_sites, used}
use Rattle.hl_rules.specs.Source.{mark_at}
use Rattle.hl_rules.specs.Values.{Standing, a_place, assigned, is_no_operand, is_no_operand_type, may_be_written, no_place, operand_of, plain_value, prefix_type, standing_in, type_in, unclear, value_of, valued, is_known}
use Rattle.hl_rules.proofs.Becoming.{Agrees, Becomes, IsOperand, not-true, of_two-there, valued-there, with_two-there}
use Rattle.hl_rules.proofs.BinaryForms.{IsOperated, operated-there, result_of}
use Rattle.hl_rules.proofs.Fitting.{Fits, IsCode, IsStanding}
use Rattle.hl_rules.proofs.Free.{IsFree, Obeys, free-first, free-left, free-rest, free-right, not_broken}
use Rattle.hl_rules.proofs.Marks.{is_sign}
use Rattle.hl_rules.proofs.OperatorSites.{Known, known-stands, of-one, operand-of, type-known, used-of}
use Rattle.hl_rules.proofs.SignForms.{negates-becomes, signs-becomes}
use Rattle.hl_rules.proofs.WriteForms.{IsTargetIn, assignment-becomes, compound-becomes, standing-written, step-becomes}

-- ---- targets

-- a code that is a place that may be written
pub record IsTargetCode (s : Scope) (code : Code) : Type 0 where
  pub first : ℕ
  pub place : Location
  pub is : code ≡ a_place_code first place
  pub stands : IsTargetIn s place

pub target-there : (s : Scope) (standing : Standing) (code : Code) → Agrees standing code → ((env : places.Scope) → Fits env s → IsCode env standing code) → is_unwritable standing ≡ false → IsTargetCode s code
target-there s (a_place w a letters) (a_place_code at (a_location ty root parts)) h fits e = record {
  first = at;
  place = a_location ty root parts;
  is = refl;
  stands = λ env f.
      let standing : IsStanding env w a letters ty root parts = fits env f in
      (standing.is, standing-written env w a letters ty root parts standing (not-true (may_be_written (a_place w a letters)) e));
}
target-there s (a_place w a letters) (a_value_code value) h fits e = absurd h
target-there s no_place code h fits e = absurd (cc e)
target-there s unclear code h fits e = absurd h

-- a written side among free sites
written-side : (s : Scope) (side : Tree) (b : Known s side) → Obeys s (a_written_side side) → IsTargetCode s b.to
written-side s side b o =
    target-there s (standing_in s side) b.to b.agrees b.fits (not_broken (is_unwritable (standing_in s side)) (at_of side) o.obeys_25)

-- ---- steps

operand-there : (ty : Ty) → is_basic ty ≡ true → operand_of (Some ty) ≡ Some ty
operand-there ty e = rw e refl

step-on : (s : Scope) (at mark : ℕ) (old : Bool) (code : Code) → is_basic (type_of_code code) ≡ true → IsTargetCode s code → Becomes s (plain_value (Some (type_of_code code))) (step_code s at mark old code)
step-on s at mark old code e t =
    subst (λ c. Becomes s (plain_value (Some (type_of_code c))) (step_code s at mark old c)) (sym t.is)
    (step-becomes s at mark old t.first t.place (ap (λ c. is_basic (type_of_code c)) (sym t.is) ∙ e) t.stands)

-- `++` and `--`
pub step-known : (s : Scope) (at mark : ℕ) (old : Bool) (operand : Tree) (inside : List Site) → Known s operand → IsFree (operated s operand inside ++ site s (a_written_side operand) ∷ []) → Becomes s (plain_value (operand_of (value_of s operand).ty)) (option_and_then (step_code s at mark old) (code_of s operand))
step-known s at mark old operand inside b free =
    let own : IsOperand (value_of s operand) (type_of_code b.to) = operand-of s operand inside b (free-left (operated s operand inside) (site s (a_written_side operand) ∷ []) free) in
    let target : IsTargetCode s b.to = written-side s operand b (free-first (site s (a_written_side operand)) [] (free-right (operated s operand inside) (site s (a_written_side operand) ∷ []) free)) in
    of-one s (plain_value (operand_of (value_of s operand).ty)) (step_code s at mark old) (code_of s operand) b.to b.is
    (subst (λ o. Becomes s (plain_value o) (step_code s at mark old b.to)) (sym (ap (λ o. operand_of o) b.type ∙ operand-there (type_of_code b.to) own.basic))
    (step-on s at mark old b.to own.basic target))

-- ---- prefixes

sign-on : (s : Scope) (at : ℕ) (operand : Tree) (inside : List Site) (f : Ty → Option Ty) → (b : Known s operand) → (is_basic (type_of_code b.to) ≡ true → Becomes s (plain_value (f (type_of_code b.to))) (signed_code at (mark_at s.tokens at) (f (type_of_code b.to)) b.to)) → IsFree (operated s operand inside) → Becomes s (plain_value (option_and_then f (valued (value_of s operand).ty))) (option_and_then (λ code. signed_code at (mark_at s.tokens at) (f (type_of_code code)) code) (code_of s operand))
sign-on s at operand inside f b h free =
    let own : IsOperand (value_of s operand) (type_of_code b.to) = operand-of s operand inside b free in
    of-one s (plain_value (option_and_then f (valued (value_of s operand).ty))) (λ code. signed_code at (mark_at s.tokens at) (f (type_of_code code)) code) (code_of s operand) b.to b.is
    (subst (λ o. Becomes s (plain_value (option_and_then f o)) (signed_code at (mark_at s.tokens at) (f (type_of_code b.to)) b.to)) (sym own.known) (h own.basic))

pub prefix-on : (s : Scope) (terminal : Terminal) (at : ℕ) (operand : Tree) (inside : List Site) → Known s operand → is_prefix terminal ≡ true → is_sign terminal (mark_at s.tokens at) ≡ true → IsFree (prefix_sites s terminal operand inside) → Becomes s (plain_value (prefix_type terminal (value_of s operand).ty)) (option_and_then (prefix_code s terminal at) (code_of s operand))
prefix-on s terminals.PlusPlus at operand inside b e sign free = step-known s at at false operand inside b free
prefix-on s terminals.MinusMinus at operand inside b e sign free = step-known s at at false operand inside b free
prefix-on s terminals.Exclamation at operand inside b e sign free =
    sign-on s at operand inside negated_type b (λ h. negates-becomes s at (mark_at s.tokens at) b.to sign h (known-stands s operand b)) free
prefix-on s terminals.Plus at operand inside b e sign free =
    sign-on s at operand inside signed_type b (λ h. signs-becomes s at (mark_at s.tokens at) b.to sign h (known-stands s operand b)) free
prefix-on s terminals.Minus at operand inside b e sign free =
    sign-on s at operand inside signed_type b (λ h. signs-becomes s at (mark_at s.tokens at) b.to sign h (known-stands s operand b)) free
prefix-on s terminals.Tilde at operand inside b e sign free =
    sign-on s at operand inside signed_type b (λ h. signs-becomes s at (mark_at s.tokens at) b.to sign h (known-stands s operand b)) free
prefix-on s _ at operand inside b e sign free = absurd (cc e)

-- ---- assignments

-- a conversion of types that are known
conversion-there : (from to : Ty) (a b : Option Ty) → valued a ≡ Some from → valued b ≡ Some to → is_no_conversion a b ≡ false → converts from to ≡ true
conversion-there from to a b e h k = not-true (converts from to) (sym (made (valued a) (valued b) e h) ∙ k)
  where
    made : (x y : Option Ty) → x ≡ Some from → y ≡ Some to → is_known (λ t. is_known (λ u. not (converts t u)) y) x ≡ not (converts from to)
    made x y l m = rw l (rw m refl)

basic-value : (ty : Ty) → is_basic ty ≡ true → is_void ty ≡ false
basic-value (scalar_type kind) e = refl
basic-value (vector_type kind size) e = refl
basic-value void_type e = absurd (cc e)
basic-value (array_type element size) e = absurd (cc e)
basic-value (struct_type number) e = absurd (cc e)

assigned-to : (s : Scope) (at : ℕ) (left right : Code) → converts (type_of_code right) (type_of_code left) ≡ true → IsTargetCode s left → ((env : places.Scope) → Fits env s → IsExpr env (value_of_code right)) → Becomes s (plain_value (Some (type_of_code left))) (plain_assignment at left right)
assigned-to s at left right h t stands =
    subst (λ c. Becomes s (plain_value (Some (type_of_code c))) (plain_assignment at c right)) (sym t.is)
    (assignment-becomes s at t.first t.place right (ap (λ c. converts (type_of_code right) (type_of_code c)) (sym t.is) ∙ h) t.stands stands)

plain-on : (s : Scope) (at : ℕ) (left right : Tree) (left_inside right_inside : List Site) → Known s left → Known s right → IsFree (assignment_sites s terminals.Equals left right left_inside right_inside) → Becomes s (plain_value (valued (value_of s left).ty)) (with_two (plain_assignment at) (code_of s left) (code_of s right))
plain-on s at left right left_inside right_inside l r free =
    subst (λ c. Becomes s (plain_value (valued (value_of s left).ty)) c) (sym (with_two-there (plain_assignment at) (code_of s left) (code_of s right) l.to r.to l.is r.is))
    (subst (λ o. Becomes s (plain_value o) (plain_assignment at l.to r.to)) (sym l_type)
    (assigned-to s at l.to r.to converting (written-side s left l written) (known-stands s right r)))
  where
    rest : IsFree (used s right right_inside ++ (site s (a_written_side left) ∷ site s (a_conversion (type_in s right) (type_in s left) (at_of right)) ∷ []))
    rest = free-right (used s left left_inside) (used s right right_inside ++ (site s (a_written_side left) ∷ site s (a_conversion (type_in s right) (type_in s left) (at_of right)) ∷ [])) free

    own : IsFree (site s (a_written_side left) ∷ site s (a_conversion (type_in s right) (type_in s left) (at_of right)) ∷ [])
    own = free-right (used s right right_inside) (site s (a_written_side left) ∷ site s (a_conversion (type_in s right) (type_in s left) (at_of right)) ∷ []) rest

    written : Obeys s (a_written_side left)
    written = free-first (site s (a_written_side left)) (site s (a_conversion (type_in s right) (type_in s left) (at_of right)) ∷ []) own

    converted : Obeys s (a_conversion (type_in s right) (type_in s left) (at_of right))
    converted = free-first (site s (a_conversion (type_in s right) (type_in s left) (at_of right))) [] (free-rest (site s (a_written_side left)) (site s (a_conversion (type_in s right) (type_in s left) (at_of right)) ∷ []) own)

    l_used : is_void (type_of_code l.to) ≡ false
    l_used = used-of s left left_inside l (free-left (used s left left_inside) (used s right right_inside ++ (site s (a_written_side left) ∷ site s (a_conversion (type_in s right) (type_in s left) (at_of right)) ∷ [])) free)

    r_used : is_void (type_of_code r.to) ≡ false
    r_used = used-of s right right_inside r (free-left (used s right right_inside) (site s (a_written_side left) ∷ site s (a_conversion (type_in s right) (type_in s left) (at_of right)) ∷ []) rest)

    l_type : valued (value_of s left).ty ≡ Some (type_of_code l.to)
    l_type = type-known s left (type_of_code l.to) l.type l_used

    converting : converts (type_of_code r.to) (type_of_code l.to) ≡ true
    converting =
        conversion-there (type_of_code r.to) (type_of_code l.to) (type_in s right) (type_in s left)
        (ap (λ o. valued o) (type-known s right (type_of_code r.to) r.type r_used) ∙ valued-there (type_of_code r.to) r_used)
        (ap (λ o. valued o) l_type ∙ valued-there (type_of_code l.to) l_used)
        (not_broken (is_no_conversion (type_in s right) (type_in s left)) (at_of right) converted.obeys_24)

-- ---- compound assignments

-- what an operator computes converts back to what it writes
converts-back : (production : ℕ) (to from : Ty) → ((ty : Ty) → result_of production ty ≡ ty) → is_basic to ≡ true → is_basic from ≡ true → is_no_conversion (operator_type production to from) (Some to) ≡ false → (ty : Ty) → operand_type production to from ≡ Some ty → converts ty to ≡ true
converts-back production to from same h k e ty l = given (operated-there production to from h k)
  where
    given : (own : Ty) × IsOperated production to from own (result_of production own) → converts ty to ≡ true
    given r =
        subst (λ t. converts t to ≡ true) (same_Some r.0 ty (sym r.1.computes ∙ l))
        (conversion-there r.0 to (operator_type production to from) (Some to)
        (ap (λ o. valued o) (r.1.gives ∙ ap Some (same r.0)) ∙ valued-there r.0 (basic-value r.0 r.1.basic))
        (valued-there to (basic-value to h))
        e)

compound-to : (s : Scope) (production op at : ℕ) (left right : Code) → is_among computing op ≡ true → nat_le production 31 ≡ false → ((ty : Ty) → result_of production ty ≡ ty) → is_basic (type_of_code left) ≡ true → is_basic (type_of_code right) ≡ true → is_no_conversion (operator_type production (type_of_code left) (type_of_code right)) (Some (type_of_code left)) ≡ false → IsTargetCode s left → ((env : places.Scope) → Fits env s → IsExpr env (value_of_code right)) → Becomes s (plain_value (Some (type_of_code left))) (compound_code production at op false left right)
compound-to s production op at left right computes numbers same h k e t stands =
    subst (λ c. Becomes s (plain_value (Some (type_of_code c))) (compound_code production at op false c right)) (sym t.is)
    (compound-becomes s production at op false t.first t.place right
    (record {
      computes = computes;
      numbers = numbers;
      steps = refl;
      back = converts-back production (place_type t.place) (type_of_code right) same basic k (ap (λ c. is_no_conversion (operator_type production (type_of_code c) (type_of_code right)) (Some (type_of_code c))) (sym t.is) ∙ e);
    })
    basic k t.stands stands)
  where
    basic : is_basic (place_type t.place) ≡ true
    basic = ap (λ c. is_basic (type_of_code c)) (sym t.is) ∙ h

assigned-known : (a b : Option Ty) (x y : Ty) → valued a ≡ Some x → valued b ≡ Some y → is_basic x ≡ true → is_basic y ≡ true → (if is_no_operand a || is_no_operand b then None else valued a) ≡ Some x
assigned-known a b x y e h k l = made (valued a) (valued b) e h
  where
    made : (v w : Option Ty) → v ≡ Some x → w ≡ Some y → (if is_no_operand_type v || is_no_operand_type w then None else v) ≡ Some x
    made v w m n = rw m (rw n (rw k (rw l refl)))

abbrev back_site : Scope → ℕ → Tree → Tree → Site
back_site s production left right = site s (a_conversion (of_two (operator_type production) (type_in s left) (type_in s right)) (type_in s left) (at_of right))

compound-on : (s : Scope) (production op at : ℕ) (left right : Tree) (left_inside right_inside : List Site) → Known s left → Known s right → is_among computing op ≡ true → nat_le production 31 ≡ false → ((ty : Ty) → result_of production ty ≡ ty) → IsFree (operated s left left_inside ++ (operated s right right_inside ++ (site s (a_written_side left) ∷ back_site s production left right ∷ []))) → Becomes s (plain_value (if is_no_operand (value_of s left).ty || is_no_operand (value_of s right).ty then None else valued (value_of s left).ty)) (with_two (compound_code production at op false) (code_of s left) (code_of s right))
compound-on s production op at left right left_inside right_inside l r computes numbers same free =
    subst (λ c. Becomes s (plain_value (if is_no_operand (value_of s left).ty || is_no_operand (value_of s right).ty then None else valued (value_of s left).ty)) c) (sym (with_two-there (compound_code production at op false) (code_of s left) (code_of s right) l.to r.to l.is r.is))
    (subst (λ o. Becomes s (plain_value o) (compound_code production at op false l.to r.to)) (sym (assigned-known (value_of s left).ty (value_of s right).ty (type_of_code l.to) (type_of_code r.to) at_l.known at_r.known at_l.basic at_r.basic))
    (compound-to s production op at l.to r.to computes numbers same at_l.basic at_r.basic converting (written-side s left l written) (known-stands s right r)))
  where
    rest : IsFree (operated s right right_inside ++ (site s (a_written_side left) ∷ back_site s production left right ∷ []))
    rest = free-right (operated s left left_inside) (operated s right right_inside ++ (site s (a_written_side left) ∷ back_site s production left right ∷ [])) free

    own : IsFree (site s (a_written_side left) ∷ back_site s production left right ∷ [])
    own = free-right (operated s right right_inside) (site s (a_written_side left) ∷ back_site s production left right ∷ []) rest

    written : Obeys s (a_written_side left)
    written = free-first (site s (a_written_side left)) (back_site s production left right ∷ []) own

    at_l : IsOperand (value_of s left) (type_of_code l.to)
    at_l = operand-of s left left_inside l (free-left (operated s left left_inside) (operated s right right_inside ++ (site s (a_written_side left) ∷ back_site s production left right ∷ [])) free)

    at_r : IsOperand (value_of s right) (type_of_code r.to)
    at_r = operand-of s right right_inside r (free-left (operated s right right_inside) (site s (a_written_side left) ∷ back_site s production left right ∷ []) rest)

    back : is_no_conversion (of_two (operator_type production) (type_in s left) (type_in s right)) (type_in s left) ≡ false
    back = not_broken (is_no_conversion (of_two (operator_type production) (type_in s left) (type_in s right)) (type_in s left)) (at_of right) (free-first (back_site s production left right) [] (free-rest (site s (a_written_side left)) (back_site s production left right ∷ []) own)).obeys_24

    converting : is_no_conversion (operator_type production (type_of_code l.to) (type_of_code r.to)) (Some (type_of_code l.to)) ≡ false
    converting =
        ap (λ o. is_no_conversion o (Some (type_of_code l.to))) (sym (of_two-there (operator_type production) (type_in s left) (type_in s right) (type_of_code l.to) (type_of_code r.to) at_l.known at_r.known))
        ∙ (ap (λ o. is_no_conversion (of_two (operator_type production) (type_in s left) (type_in s right)) o) (sym at_l.known) ∙ back)

pub assignment-on : (s : Scope) (terminal : Terminal) (at : ℕ) (left right : Tree) (left_inside right_inside : List Site) → Known s left → Known s right → is_assign terminal ≡ true → IsFree (assignment_sites s terminal left right left_inside right_inside) → Becomes s (plain_value (assigned terminal (value_of s left).ty (value_of s right).ty)) (with_two (assignment_code terminal at) (code_of s left) (code_of s right))
assignment-on s terminals.Equals at left right li ri l r e free = plain-on s at left right li ri l r free
assignment-on s terminals.PlusEquals at left right li ri l r e free = compound-on s 38 12 at left right li ri l r refl refl (λ ty. refl) free
assignment-on s terminals.MinusEquals at left right li ri l r e free = compound-on s 38 13 at left right li ri l r refl refl (λ ty. refl) free
assignment-on s terminals.StarEquals at left right li ri l r e free = compound-on s 39 14 at left right li ri l r refl refl (λ ty. refl) free
assignment-on s terminals.SlashEquals at left right li ri l r e free = compound-on s 39 15 at left right li ri l r refl refl (λ ty. refl) free
assignment-on s terminals.PercentEquals at left right li ri l r e free = compound-on s 39 16 at left right li ri l r refl refl (λ ty. refl) free
assignment-on s terminals.AmpersandEquals at left right li ri l r e free = compound-on s 34 21 at left right li ri l r refl refl (λ ty. refl) free
assignment-on s terminals.BarEquals at left right li ri l r e free = compound-on s 32 22 at left right li ri l r refl refl (λ ty. refl) free
assignment-on s terminals.CaretEquals at left right li ri l r e free = compound-on s 33 23 at left right li ri l r refl refl (λ ty. refl) free
assignment-on s terminals.LessLessEquals at left right li ri l r e free = compound-on s 37 30 at left right li ri l r refl refl (λ ty. refl) free
assignment-on s terminals.GreaterGreaterEquals at left right li ri l r e free = compound-on s 37 31 at left right li ri l r refl refl (λ ty. refl) free
assignment-on s _ at left right li ri l r e free = absurd (cc e)
