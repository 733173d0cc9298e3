-- Members, swizzles, indexes and methods among free sites.
use Rattle.std.proofs.Common.{◌≡◌, ◌∙◌, refl, sym, ap, subst, ℕ, Bool, true, false, ◌&&◌, not, if◌then◌else◌, List, [], ◌∷◌, ◌++◌, map, Option, None, Some}
use Rattle.std.specs.Prelude.{is_some, option_and_then, slice_get}
use Rattle.std.proofs.lemmas.Option.{option_and_then_some}
use Rattle.hl_lexer.specs.declared.terminal.Terminal.TheVariants as terminals
use Rattle.hl_parser.specs.Trees.{Tree, Trees, a_postfix, absent, an_args, present}
use Rattle.hl_meaning.specs.Types.{Ty, is_void}
use Rattle.hl_rules.specs.declared.interlocked.Method.{Method}
use Rattle.hl_rules.specs.ExpressionRules.{is_no_member, is_no_method, is_no_swizzle}
use Rattle.hl_rules.specs.Expressions.{code_of, codes_of, dotted_code, first_at, first_number, method_call_code, method_code}
use Rattle.hl_rules.specs.Intrinsics.{method_of}
use Rattle.hl_rules.specs.Nodes.{Code, type_of_code}
use Rattle.hl_rules.specs.Parts.{Site, a_dot, a_method_call, site}
use Rattle.hl_rules.specs.Scopes.{BufferInfo, Scope, spelled}
use Rattle.hl_rules.specs.Sites.{arguments_sites, buffer_or_used, expression_sites, used}
use Rattle.hl_rules.specs.Source.{terminal_at}
use Rattle.hl_rules.specs.Values.{Value, argument_types, buffer_at, buffer_named, dotted_value, method_fits, method_gives, method_type, plain_value, type_in, value_of, values_of}
use Rattle.hl_rules.proofs.Arguments.{ArgumentsBecome, arguments-typed}
use Rattle.hl_rules.proofs.Becoming.{Becomes, not-true}
use Rattle.hl_rules.proofs.ConstantNumbers.{first-small}
use Rattle.hl_rules.proofs.DotForms.{dotted-becomes}
use Rattle.hl_rules.proofs.Fitting.{IsKnown}
use Rattle.hl_rules.proofs.Free.{IsFree, Obeys, free-first, free-left, free-right, not_broken}
use Rattle.hl_rules.proofs.MethodForms.{method-becomes}
use Rattle.hl_rules.proofs.Methods.{method-is}
use Rattle.hl_rules.proofs.OperatorSites.{Known, of-one, type-known, used-of}

-- ---- members and swizzles

pub dot-known : (s : Scope) → IsKnown s → (at mark name : ℕ) (operand : Tree) → terminal_at s.tokens name ≡ terminals.Name → Known s operand → IsFree (expression_sites s (a_postfix at operand mark (Some name) absent)) → Known s (a_postfix at operand mark (Some name) absent)
dot-known s known at mark name operand named b free =
    of-one s (value_of s (a_postfix at operand mark (Some name) absent)) (dotted_code s at (spelled s name)) (code_of s operand) b.to b.is
    (subst (λ o. Becomes s (dotted_value s (spelled s name) o (value_of s operand).standing) (dotted_code s at (spelled s name) b.to)) (sym b.type)
    (dotted-becomes s known at (spelled s name) (type_of_code b.to) (value_of s operand).standing b.to (known.tokens.names name named) refl own_used member swizzle b.agrees b.fits))
  where
    before : List Site
    before = used s operand (expression_sites s operand)

    own_used : is_void (type_of_code b.to) ≡ false
    own_used = used-of s operand (expression_sites s operand) b (free-left before (site s (a_dot operand name) ∷ []) free)

    there : type_in s operand ≡ Some (type_of_code b.to)
    there = type-known s operand (type_of_code b.to) b.type own_used

    own : Obeys s (a_dot operand name)
    own = free-first (site s (a_dot operand name)) [] (free-right before (site s (a_dot operand name) ∷ []) free)

    member : is_no_member s (spelled s name) (Some (type_of_code b.to)) ≡ false
    member = ap (λ o. is_no_member s (spelled s name) o) (sym there) ∙ not_broken (is_no_member s (spelled s name) (type_in s operand)) name own.obeys_26

    swizzle : is_no_swizzle (spelled s name) (Some (type_of_code b.to)) ≡ false
    swizzle = ap (λ o. is_no_swizzle (spelled s name) o) (sym there) ∙ not_broken (is_no_swizzle (spelled s name) (type_in s operand)) name own.obeys_27

-- ---- buffers

-- the buffer that an expression names
pub record IsBuffer (s : Scope) (operand : Tree) (buffer : BufferInfo) : Type 0 where
  pub number : ℕ
  pub named : buffer_named s operand ≡ Some number
  pub there : slice_get s.buffers number ≡ Some buffer

pub buffer-there : (s : Scope) (operand : Tree) (buffer : BufferInfo) → buffer_at s operand ≡ Some buffer → IsBuffer s operand buffer
buffer-there s operand buffer e =
    option_and_then_some (λ number. slice_get s.buffers number) (buffer_named s operand) buffer e
    (λ number h k. record { number = number; named = h; there = k })

-- ---- methods

record IsMethodCall (buffer : BufferInfo) (name : List ℕ) (values : List Value) : Type 0 where
  method : Method
  is : method_of buffer name ≡ Some method
  fits : method_fits method values ≡ true

and-not : (b c : Bool) → b ≡ true → b && not c ≡ false → c ≡ true
and-not true c e h = not-true c h
and-not false c e h = absurd (cc e)

call-there : (buffer : BufferInfo) (name : List ℕ) (values : List Value) (types : List Ty) → argument_types values ≡ Some types → is_no_method (Some buffer) name values ≡ false → IsMethodCall buffer name values
call-there buffer name values types e h = on (method_of buffer name) refl
  where
    on : (method : Option Method) → method_of buffer name ≡ method → IsMethodCall buffer name values
    on None k = absurd (cc (rw k at h))
    on (Some method) k = record {
      method = method;
      is = k;
      fits = and-not (is_some (argument_types values)) (method_fits method values) (ap (λ o. is_some o) e) (rw k at h);
    }

method-typed : (buffer : BufferInfo) (name : List ℕ) (values : List Value) (types : List Ty) (method : Method) → argument_types values ≡ Some types → method_of buffer name ≡ Some method → method_fits method values ≡ true → method_type buffer name values ≡ method_gives buffer method
method-typed buffer name values types method e h k =
    ap (λ o. option_and_then (λ types. option_and_then (λ m. if method_fits m values then method_gives buffer m else None) (method_of buffer name)) o) e
    ∙ (ap (λ o. option_and_then (λ m. if method_fits m values then method_gives buffer m else None) o) h
    ∙ ap (λ b. if b then method_gives buffer method else None) k)

method-coded : (s : Scope) (at number : ℕ) (operand : Tree) (name : List ℕ) (trees : Trees) (codes : List Code) (buffer : BufferInfo) (method : Method) → buffer_named s operand ≡ Some number → slice_get s.buffers number ≡ Some buffer → method_of buffer name ≡ Some method → method_call_code s at (buffer_named s operand) name trees codes ≡ method_code buffer at number method (first_at trees) (first_number s trees) codes
method-coded s at number operand name trees codes buffer method e h k =
    ap (λ o. method_call_code s at o name trees codes) e
    ∙ (ap (λ o. option_and_then (λ info. option_and_then (λ m. method_code info at number m (first_at trees) (first_number s trees) codes) (method_of info name)) o) h
    ∙ ap (λ o. option_and_then (λ m. method_code buffer at number m (first_at trees) (first_number s trees) codes) o) k)

pub method-known : (s : Scope) → IsKnown s → (at mark name first : ℕ) (operand : Tree) (trees : Trees) (codes : List Code) → codes_of s trees ≡ Some codes → ArgumentsBecome s (values_of s trees) codes → IsFree (expression_sites s (a_postfix at operand mark (Some name) (present (an_args first trees)))) → Known s (a_postfix at operand mark (Some name) (present (an_args first trees)))
method-known s known at mark name first operand trees codes coded h free = on (buffer_at s operand) refl judged
  where
    own : Obeys s (a_method_call operand name (an_args first trees))
    own =
        free-first (site s (a_method_call operand name (an_args first trees))) []
        (free-right (arguments_sites s trees) (site s (a_method_call operand name (an_args first trees)) ∷ [])
        (free-right (buffer_or_used s operand (expression_sites s operand)) (arguments_sites s trees ++ site s (a_method_call operand name (an_args first trees)) ∷ []) free))

    judged : is_no_method (buffer_at s operand) (spelled s name) (values_of s trees) ≡ false
    judged = not_broken (is_no_method (buffer_at s operand) (spelled s name) (values_of s trees)) name own.obeys_41

    typed : argument_types (values_of s trees) ≡ Some (map type_of_code codes)
    typed = arguments-typed s (values_of s trees) codes h

    called : (buffer : BufferInfo) → IsBuffer s operand buffer → IsMethodCall buffer (spelled s name) (values_of s trees) → Becomes s (plain_value (method_type buffer (spelled s name) (values_of s trees))) (option_and_then (method_call_code s at (buffer_named s operand) (spelled s name) trees) (codes_of s trees))
    called buffer b m =
        of-one s (plain_value (method_type buffer (spelled s name) (values_of s trees))) (method_call_code s at (buffer_named s operand) (spelled s name) trees) (codes_of s trees) codes coded
        (subst (λ o. Becomes s (plain_value o) (method_call_code s at (buffer_named s operand) (spelled s name) trees codes)) (sym (method-typed buffer (spelled s name) (values_of s trees) (map type_of_code codes) m.method typed m.is m.fits))
        (subst (λ c. Becomes s (plain_value (method_gives buffer m.method)) c) (sym (method-coded s at b.number operand (spelled s name) trees codes buffer m.method b.named b.there m.is))
        (method-becomes s known at b.number buffer m.method trees (values_of s trees) codes (first-small s known trees) b.there
        (method-is buffer.raw buffer.writable (spelled s name) m.method m.is) h m.fits)))

    on : (buffer : Option BufferInfo) → buffer_at s operand ≡ buffer → is_no_method buffer (spelled s name) (values_of s trees) ≡ false → Becomes s (plain_value (option_and_then (λ b. method_type b (spelled s name) (values_of s trees)) (buffer_at s operand))) (option_and_then (method_call_code s at (buffer_named s operand) (spelled s name) trees) (codes_of s trees))
    on None e k = absurd (cc k)
    on (Some buffer) e k =
        subst (λ o. Becomes s (plain_value (option_and_then (λ b. method_type b (spelled s name) (values_of s trees)) o)) (option_and_then (method_call_code s at (buffer_named s operand) (spelled s name) trees) (codes_of s trees))) (sym e)
        (called buffer (buffer-there s operand buffer e) (call-there buffer (spelled s name) (values_of s trees) (map type_of_code codes) typed k))
