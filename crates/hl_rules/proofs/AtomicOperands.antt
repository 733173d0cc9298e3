-- The operands of interlocked operations become what is known of them.
use Rattle.std.proofs.Common.{◌≡◌, ◌∙◌, refl, sym, ap, subst, Bool, true, false, not, if◌then◌else◌, List, [], ◌∷◌, Option, None, Some}
use Rattle.std.specs.Prelude.{IsTrue, is_none, is_some, option_map}
use Rattle.std.proofs.lemmas.Bool.{and_parts}
use Rattle.std.proofs.lemmas.Option.{same_Some}
use Rattle.lane_core.specs.declared.event.AtomicKind.{AtomicKind}
use Rattle.hl_meaning.specs.declared.ty.Kind.{Kind}
use Rattle.hl_meaning.specs.Types.{Ty, array_type, is_basic, scalar_type, struct_type, vector_type, void_type}
use Rattle.hl_meaning.specs.Conversions.{converts}
use Rattle.hl_meaning.specs.Places as places
use Rattle.hl_meaning.specs.Places.{is_writable_place}
use Rattle.hl_meaning.specs.Trees.{Expr, Location, place_type, type_of}
use Rattle.hl_meaning.specs.WellFormed.{IsExpr, IsPlace, IsResult}
use Rattle.hl_rules.specs.declared.interlocked.Interlocked.{Interlocked}
use Rattle.hl_rules.specs.declared.interlocked.Presence.{Presence}
use Rattle.hl_rules.specs.Intrinsics.{Operands, may_be_absent, may_be_present, operands_of}
use Rattle.hl_rules.specs.ExpressionRules.{is_unwritable}
use Rattle.hl_rules.specs.Nodes.{Code, converted_code, perhaps, place_of_code, type_of_code, value_of_code}
use Rattle.hl_rules.specs.Scopes.{Scope}
use Rattle.hl_rules.specs.Values.{Standing, Value, a_place, holds_if, is_basic_value, is_written_place, may_be_written, no_place, unclear, value}
use Rattle.hl_rules.proofs.Arguments.{ArgumentsBecome, IsArgument, argument-stands}
use Rattle.hl_rules.proofs.Becoming.{IsConverted, converted-there}
use Rattle.hl_rules.proofs.CallForms.{IsWritten, written-there}
use Rattle.hl_rules.proofs.Fitting.{Fits}

-- ---- operands

-- what is known of something that may be left out, and what it becomes
abbrev pub ArgumentIf : Scope → Option Value → Option Code → Type 0
ArgumentIf s None None = Unit {0}
ArgumentIf s (Some v) (Some code) = IsArgument s v code
ArgumentIf s _ _ = ⊥

-- what operands become
pub record AreOperands (s : Scope) (compares : Bool) (original : Presence) (o : Operands Value) (made : Option (Operands Code)) : Type 0 where
  pub to : Operands Code
  pub is : made ≡ Some to
  pub compare_is : ArgumentIf s o.compare to.compare
  pub value_is : IsArgument s o.value to.value
  pub original_is : ArgumentIf s o.original to.original
  pub comparing : is_some to.compare ≡ compares
  pub absent : is_none to.original ≡ true → may_be_absent original ≡ true

abbrev an_operands : {A : Type 0} → Option A → A → Option A → Operands A
an_operands compare value original = record { compare = compare; value = value; original = original }

-- operands that are there where a test holds
operands-if : (s : Scope) (compares : Bool) (presence : Presence) (test : Bool) (compare original : Option Value) (compare_code original_code : Option Code) (v : Value) (code : Code) (o : Operands Value) → ArgumentIf s compare compare_code → IsArgument s v code → ArgumentIf s original original_code → is_some compare_code ≡ compares → (test ≡ true → is_none original_code ≡ true → may_be_absent presence ≡ true) → (if test then Some (an_operands compare v original) else None) ≡ Some o → AreOperands s compares presence o (if test then Some (an_operands compare_code code original_code) else None)
operands-if s compares presence true compare original compare_code original_code v code o c a r comparing absent e =
    subst (λ x. AreOperands s compares presence x (Some (an_operands compare_code code original_code))) (same_Some (an_operands compare v original) o e) (record {
      to = an_operands compare_code code original_code;
      is = refl;
      compare_is = c;
      value_is = a;
      original_is = r;
      comparing = comparing;
      absent = absent refl;
    })
operands-if s compares presence false compare original compare_code original_code v code o c a r comparing absent e = absurd (cc e)

-- the codes of one argument and more
record IsMore (s : Scope) (v : Value) (values : List Value) (codes : List Code) : Type 0 where
  code : Code
  rest : List Code
  is : code ∷ rest ≡ codes
  first : IsArgument s v code
  behind : ArgumentsBecome s values rest

more-there : (s : Scope) (v : Value) (values : List Value) (codes : List Code) → ArgumentsBecome s (v ∷ values) codes → IsMore s v values codes
more-there s v values [] h = absurd h
more-there s v values (code ∷ codes) h = record { code = code; rest = codes; is = refl; first = h.0; behind = h.1 }

none-there : (s : Scope) (codes : List Code) → ArgumentsBecome s [] codes → [] ≡ codes
none-there s [] h = refl
none-there s (code ∷ codes) h = absurd h

abbrev OperandsOf : Scope → Interlocked → Operands Value → List Code → Type 0
OperandsOf s form o codes = AreOperands s form.compares form.original o (operands_of form codes)

abbrev a_form : Bool → Presence → Option AtomicKind → Option AtomicKind → Interlocked
a_form compares original signed unsigned = record { compares = compares; original = original; signed = signed; unsigned = unsigned }

one-operand : (s : Scope) (original : Presence) (signed unsigned : Option AtomicKind) (compares : Bool) (a : Value) (x : Code) (o : Operands Value) → IsArgument s a x → operands_of (a_form compares original signed unsigned) (a ∷ []) ≡ Some o → OperandsOf s (a_form compares original signed unsigned) o (x ∷ [])
one-operand s original signed unsigned false a x o h e = operands-if s false original (may_be_absent original) None None None None a x o tt h tt refl (λ k l. k) e
one-operand s original signed unsigned true a x o h e = absurd (cc e)

two-operands : (s : Scope) (original : Presence) (signed unsigned : Option AtomicKind) (compares : Bool) (a b : Value) (x y : Code) (o : Operands Value) → IsArgument s a x → IsArgument s b y → operands_of (a_form compares original signed unsigned) (a ∷ b ∷ []) ≡ Some o → OperandsOf s (a_form compares original signed unsigned) o (x ∷ y ∷ [])
two-operands s original signed unsigned false a b x y o h k e = operands-if s false original (may_be_present original) None (Some b) None (Some y) a x o tt h k refl (λ l m. absurd (cc m)) e
two-operands s original signed unsigned true a b x y o h k e = operands-if s true original (may_be_absent original) (Some a) None (Some x) None b y o h k tt refl (λ l m. l) e

three-operands : (s : Scope) (original : Presence) (signed unsigned : Option AtomicKind) (compares : Bool) (a b c : Value) (x y z : Code) (o : Operands Value) → IsArgument s a x → IsArgument s b y → IsArgument s c z → operands_of (a_form compares original signed unsigned) (a ∷ b ∷ c ∷ []) ≡ Some o → OperandsOf s (a_form compares original signed unsigned) o (x ∷ y ∷ z ∷ [])
three-operands s original signed unsigned false a b c x y z o h k l e = absurd (cc e)
three-operands s original signed unsigned true a b c x y z o h k l e = operands-if s true original (may_be_present original) (Some a) (Some c) (Some x) (Some z) b y o h k l refl (λ m n. absurd (cc n)) e

no-operands : (original : Presence) (signed unsigned : Option AtomicKind) (compares : Bool) (o : Operands Value) → operands_of (a_form compares original signed unsigned) [] ≡ Some o → ⊥
no-operands original signed unsigned false o e = cc e
no-operands original signed unsigned true o e = cc e

many-operands : (original : Presence) (signed unsigned : Option AtomicKind) (compares : Bool) (a b c d : Value) (more : List Value) (o : Operands Value) → operands_of (a_form compares original signed unsigned) (a ∷ b ∷ c ∷ d ∷ more) ≡ Some o → ⊥
many-operands original signed unsigned false a b c d more o e = cc e
many-operands original signed unsigned true a b c d more o e = cc e

pub operands-there : (s : Scope) (form : Interlocked) (values : List Value) (codes : List Code) (o : Operands Value) → ArgumentsBecome s values codes → operands_of form values ≡ Some o → OperandsOf s form o codes
operands-there s form [] codes o h e = absurd (no-operands form.original form.signed form.unsigned form.compares o e)
operands-there s form (a ∷ []) codes o h e =
    let p : IsMore s a [] codes = more-there s a [] codes h in
    subst (λ l. OperandsOf s form o l) (ap (λ r. p.code ∷ r) (none-there s p.rest p.behind) ∙ p.is)
    (one-operand s form.original form.signed form.unsigned form.compares a p.code o p.first e)
operands-there s form (a ∷ b ∷ []) codes o h e =
    let p : IsMore s a (b ∷ []) codes = more-there s a (b ∷ []) codes h in
    let q : IsMore s b [] p.rest = more-there s b [] p.rest p.behind in
    subst (λ l. OperandsOf s form o l) (ap (λ r. p.code ∷ r) (ap (λ r. q.code ∷ r) (none-there s q.rest q.behind) ∙ q.is) ∙ p.is)
    (two-operands s form.original form.signed form.unsigned form.compares a b p.code q.code o p.first q.first e)
operands-there s form (a ∷ b ∷ c ∷ []) codes o h e =
    let p : IsMore s a (b ∷ c ∷ []) codes = more-there s a (b ∷ c ∷ []) codes h in
    let q : IsMore s b (c ∷ []) p.rest = more-there s b (c ∷ []) p.rest p.behind in
    let r : IsMore s c [] q.rest = more-there s c [] q.rest q.behind in
    subst (λ l. OperandsOf s form o l) (ap (λ t. p.code ∷ t) (ap (λ t. q.code ∷ t) (ap (λ t. r.code ∷ t) (none-there s r.rest r.behind) ∙ r.is) ∙ q.is) ∙ p.is)
    (three-operands s form.original form.signed form.unsigned form.compares a b c p.code q.code r.code o p.first q.first r.first e)
operands-there s form (a ∷ b ∷ c ∷ d ∷ more) codes o h e = absurd (many-operands form.original form.signed form.unsigned form.compares a b c d more o e)

-- ---- what they become

basic-converts : (from : Ty) (kind : Kind) → is_basic from ≡ true → converts from (scalar_type kind) ≡ true
basic-converts (scalar_type k) kind e = refl
basic-converts (vector_type k size) kind e = refl
basic-converts void_type kind e = absurd (cc e)
basic-converts (array_type element size) kind e = absurd (cc e)
basic-converts (struct_type number) kind e = absurd (cc e)

-- a basic value converts to a scalar
pub basic-converted : (s : Scope) (v : Value) (code : Code) (kind : Kind) → IsArgument s v code → is_basic_value v ≡ true → IsConverted (scalar_type kind) (value_of_code code) (converted_code (scalar_type kind) code)
basic-converted s v code kind a e =
    converted-there (scalar_type kind) (value_of_code code)
    (basic-converts (type_of_code code) kind (sym (ap (λ o. is_basic_value (value o v.standing)) a.type) ∙ e))

-- what is compared with, where something is
pub record IsComparedWith (s : Scope) (ty : Ty) (code : Option Code) (made : Option (Option Expr)) : Type 0 where
  pub to : Option Expr
  pub is : made ≡ Some to
  pub there : is_some to ≡ is_some code
  pub stands : (env : places.Scope) → Fits env s → IsResult env.structs ty → (e : Expr) → to ≡ Some e → IsExpr env e × (type_of e ≡ ty)

pub compared-there : (s : Scope) (v : Option Value) (code : Option Code) (kind : Kind) → ArgumentIf s v code → holds_if is_basic_value v ≡ true → IsComparedWith s (scalar_type kind) code (perhaps (converted_code (scalar_type kind)) code)
compared-there s None None kind h e = record { to = None; is = refl; there = refl; stands = λ env f r x k. absurd (cc k) }
compared-there s (Some v) (Some code) kind h e = given (basic-converted s v code kind h e)
  where
    given : IsConverted (scalar_type kind) (value_of_code code) (converted_code (scalar_type kind) code) → IsComparedWith s (scalar_type kind) (Some code) (perhaps (converted_code (scalar_type kind)) (Some code))
    given c = record {
      to = Some c.to;
      is = ap (λ o. option_map (λ y. Some y) o) c.is;
      there = refl;
      stands = λ env f r x k.
          subst (λ y. IsExpr env y × (type_of y ≡ scalar_type kind)) (same_Some c.to x k) (c.stands env (argument-stands s v code h env f) r, c.type);
    }
compared-there s None (Some code) kind h e = absurd h
compared-there s (Some v) None kind h e = absurd h

-- where the original goes, where it goes somewhere
pub record IsOriginalAt (s : Scope) (test : Ty → Bool) (code : Option Code) (made : Option (Option Location)) : Type 0 where
  pub to : Option Location
  pub is : made ≡ Some to
  pub there : is_none to ≡ is_none code
  pub stands : (env : places.Scope) → Fits env s → (place : Location) → to ≡ Some place → IsPlace env place × IsTrue (is_writable_place env place) × (test (place_type place) ≡ true)

-- a written place of a type that passes
record IsPassing (v : Value) (test : Ty → Bool) (ty : Ty) : Type 0 where
  written : may_be_written v.standing ≡ true
  passes : test ty ≡ true

written-passes : (v : Value) (test : Ty → Bool) (ty : Ty) → v.ty ≡ Some ty → is_written_place test v ≡ true → IsPassing v test ty
written-passes v test ty e h =
    let p : (may_be_written v.standing ≡ true) × (test ty ≡ true) = and_parts (may_be_written v.standing) (test ty) (sym (ap (λ o. is_written_place test (value o v.standing)) e) ∙ h) in
    record { written = p.0; passes = p.1 }

writable-known : (standing : Standing) → may_be_written standing ≡ true → is_unwritable standing ≡ false
writable-known (a_place w a letters) e = ap not e
writable-known no_place e = absurd (cc e)
writable-known unclear e = refl

pub original-there : (s : Scope) (v : Option Value) (code : Option Code) (test : Ty → Bool) → ArgumentIf s v code → holds_if (is_written_place test) v ≡ true → IsOriginalAt s test code (perhaps place_of_code code)
original-there s None None test h e = record { to = None; is = refl; there = refl; stands = λ env f place k. absurd (cc k) }
original-there s (Some v) (Some code) test h e = given (written-passes v test (type_of_code code) h.type e)
  where
    written : IsPassing v test (type_of_code code) → IsWritten s code → IsOriginalAt s test (Some code) (perhaps place_of_code (Some code))
    written p w = record {
      to = Some w.place;
      is = ap (λ o. option_map (λ y. Some y) o) w.is;
      there = refl;
      stands = λ env f place k.
          subst (λ x. IsPlace env x × IsTrue (is_writable_place env x) × (test (place_type x) ≡ true)) (same_Some w.place place k)
          ((w.stands env f).0, (w.stands env f).1, ap test w.type ∙ p.passes);
    }

    given : IsPassing v test (type_of_code code) → IsOriginalAt s test (Some code) (perhaps place_of_code (Some code))
    given p = written p (written-there s v.standing code h.agrees h.fits (writable-known v.standing p.written))
original-there s None (Some code) test h e = absurd h
original-there s (Some v) None test h e = absurd h
