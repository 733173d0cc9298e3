-- Calls and constructors among free sites.
use Rattle.std.proofs.Common.{◌≡◌, ◌∙◌, refl, sym, ap, subst, ℕ, Bool, true, false, ◌&&◌, ◌||◌, not, if◌then◌else◌, List, [], ◌∷◌, map, Option, None, Some}
use Rattle.std.specs.Prelude.{is_none, is_some, option_and_then}
use Rattle.std.specs.List.{list_any}
use Rattle.std.proofs.lemmas.Bool.{true≢false}
use Rattle.hl_parser.specs.Grammar as grammar
use Rattle.hl_parser.specs.Trees.{Tree, Trees, a_primary, absent, an_args, at_of, more_trees, no_trees, present}
use Rattle.hl_meaning.specs.Types.{Ty, component_count}
use Rattle.hl_rules.specs.declared.interlocked.Interlocked.{Interlocked}
use Rattle.hl_rules.specs.Constants.{basic_type}
use Rattle.hl_rules.specs.DeclarationRules.{is_function_sort, is_other_sort}
use Rattle.hl_rules.specs.ExpressionRules.{chosen_at, is_ambiguous_choice, is_function_call, is_interlocked, is_itself, is_no_target, is_none_fitting, is_other_sum, is_unfit, is_unfit_call, untargeted, unwritable_of}
use Rattle.hl_rules.specs.Expressions.{call_code, code_by_form, codes_of, constructor_code, function_code, intrinsic_code}
use Rattle.hl_rules.specs.Intrinsics.{interlocked_form, intrinsic_named}
use Rattle.hl_rules.specs.Nodes.{Code, type_of_code}
use Rattle.hl_rules.specs.Parts.{a_call, a_constructor, site}
use Rattle.hl_rules.specs.Scopes.{Scope, Sort, a_buffer_name, a_function_name, a_struct_name, a_variable_name, sort_at, spelled}
use Rattle.hl_rules.specs.Sites.{arguments_sites, expression_sites}
use Rattle.hl_rules.specs.Source.{terminal_at}
use Rattle.hl_rules.specs.Values.{argument_types, call_choice, call_type, called, function_result, intrinsic_result, intrinsic_type, is_no_operand, plain_value, result_by_form, value_of, values_of}
use Rattle.hl_rules.proofs.Arguments.{ArgumentsBecome, arguments-typed}
use Rattle.hl_rules.proofs.AtomicCalls.{atomic-becomes, is_targeted}
use Rattle.hl_rules.proofs.Becoming.{Becomes}
use Rattle.hl_rules.proofs.BuildForms.{constructor-becomes}
use Rattle.hl_rules.proofs.CallForms.{IsCandidate, function-becomes}
use Rattle.hl_rules.proofs.Candidates.{IsCalled, call-chosen, called-candidate}
use Rattle.hl_rules.proofs.Fitting.{IsKnown}
use Rattle.hl_rules.proofs.Free.{IsFree, Obeys, free-first, free-right, not_broken}
use Rattle.hl_rules.proofs.IntrinsicForms.{intrinsic-becomes}
use Rattle.hl_rules.proofs.OperatorSites.{Known, of-one}
use Rattle.hl_rules.proofs.SignForms.{word-short}

-- ---- constructors

pub constructor-known : (s : Scope) (at first : ℕ) (basic : Tree) (trees : Trees) (codes : List Code) → grammar.is_basic (terminal_at s.tokens (at_of basic)) ≡ true → codes_of s trees ≡ Some codes → ArgumentsBecome s (values_of s trees) codes → IsFree (expression_sites s (a_primary at (present basic) (present (an_args first trees)))) → Known s (a_primary at (present basic) (present (an_args first trees)))
constructor-known s at first basic trees codes word coded h free =
    of-one s (plain_value (Some (basic_type s basic))) (λ codes. constructor_code at (basic_type s basic) codes) (codes_of s trees) codes coded
    (constructor-becomes s at (basic_type s basic) (values_of s trees) codes (word-short (terminal_at s.tokens (at_of basic)) word) h
    (not_broken (list_any (λ v. is_no_operand v.ty) (values_of s trees) || is_other_sum (component_count (basic_type s basic)) (argument_types (values_of s trees))) at own.obeys_33))
  where
    own : Obeys s (a_constructor at basic (an_args first trees))
    own =
        free-first (site s (a_constructor at basic (an_args first trees))) []
        (free-right (arguments_sites s trees) (site s (a_constructor at basic (an_args first trees)) ∷ []) free)

-- ---- intrinsic functions

and-not-left : (b c : Bool) → b ≡ true → b && c ≡ false → c ≡ false
and-not-left true c e h = h
and-not-left false c e h = absurd (cc e)

-- the target of an interlocked operation
targeted : (s : Scope) (trees : Trees) → untargeted s trees ≡ [] → is_targeted (values_of s trees) ≡ true
targeted s no_trees e = refl
targeted s (more_trees first rest) e = ap not (not_broken (is_no_target (value_of s first)) (at_of first) e)

intrinsic-on : (s : Scope) (at number : ℕ) (trees : Trees) (codes : List Code) (form : Option Interlocked) → interlocked_form number ≡ form → ArgumentsBecome s (values_of s trees) codes → (if is_some form then untargeted s trees else []) ≡ [] → is_none (result_by_form form number (values_of s trees) (map type_of_code codes)) ≡ false → Becomes s (plain_value (result_by_form form number (values_of s trees) (map type_of_code codes))) (code_by_form form at number codes)
intrinsic-on s at number trees codes (Some form) found h free e =
    atomic-becomes s at number form (values_of s trees) codes (map type_of_code codes) h found (targeted s trees free) e
intrinsic-on s at number trees codes None found h free e = intrinsic-becomes s at number (values_of s trees) codes h e

-- a call of an intrinsic function
intrinsic-call : (s : Scope) (at number : ℕ) (trees : Trees) (codes : List Code) → ArgumentsBecome s (values_of s trees) codes → (if is_some (interlocked_form number) then untargeted s trees else []) ≡ [] → is_none (intrinsic_type number (values_of s trees)) ≡ false → Becomes s (plain_value (intrinsic_type number (values_of s trees))) (intrinsic_code at number codes)
intrinsic-call s at number trees codes h free e =
    subst (λ o. Becomes s (plain_value o) (intrinsic_code at number codes)) (sym typed)
    (intrinsic-on s at number trees codes (interlocked_form number) refl h free (ap (λ o. is_none o) (sym typed) ∙ e))
  where
    typed : intrinsic_type number (values_of s trees) ≡ intrinsic_result number (values_of s trees) (map type_of_code codes)
    typed = ap (λ o. option_and_then (intrinsic_result number (values_of s trees)) o) (arguments-typed s (values_of s trees) codes h)

-- ---- functions

function-call : (s : Scope) → IsKnown s → (at : ℕ) (name : List ℕ) (trees : Trees) (codes : List Code) → ArgumentsBecome s (values_of s trees) codes → is_none_fitting (call_choice s name (values_of s trees)) ≡ false → is_ambiguous_choice (call_choice s name (values_of s trees)) ≡ false → unwritable_of s (called s name (values_of s trees)) trees ≡ [] → is_itself s.inside (called s name (values_of s trees)) ≡ false → Becomes s (plain_value (option_and_then (λ c. function_result s c.number) (called s name (values_of s trees)))) (option_and_then (λ c. function_code s at c codes) (called s name (values_of s trees)))
function-call s known at name trees codes h fits clear written other =
    given (call-chosen s known name (values_of s trees) (map type_of_code codes) (arguments-typed s (values_of s trees) codes h) fits clear)
  where
    given : IsCalled s name (values_of s trees) (map type_of_code codes) → Becomes s (plain_value (option_and_then (λ c. function_result s c.number) (called s name (values_of s trees)))) (option_and_then (λ c. function_code s at c codes) (called s name (values_of s trees)))
    given c =
        let own : IsCandidate s c.candidate = called-candidate s name (values_of s trees) (map type_of_code codes) c (ap (λ o. is_itself s.inside o) (sym c.is) ∙ other) in
        let result : (ty : Ty) × (own.f.result ≡ Some ty) = (known.functions c.candidate.number own.f own.there).result in
        subst (λ o. Becomes s (plain_value (option_and_then (λ c. function_result s c.number) o)) (option_and_then (λ c. function_code s at c codes) o)) (sym c.is)
        (function-becomes s at c.candidate result.0 trees codes c.sum own result.1 h c.costs (ap (λ o. unwritable_of s o trees) (sym c.is) ∙ written))

-- ---- calls

-- a call of what isn't declared, which is an intrinsic function
call-none : (s : Scope) (at : ℕ) (intrinsic : Option ℕ) (trees : Trees) (codes : List Code) → ArgumentsBecome s (values_of s trees) codes → is_none intrinsic ≡ false → is_unfit intrinsic (values_of s trees) ≡ false → (if is_some (option_and_then interlocked_form intrinsic) then untargeted s trees else []) ≡ [] → Becomes s (plain_value (option_and_then (λ number. intrinsic_type number (values_of s trees)) intrinsic)) (option_and_then (λ number. intrinsic_code at number codes) intrinsic)
call-none s at None trees codes h there unfit free = absurd (true≢false there)
call-none s at (Some number) trees codes h there unfit free =
    intrinsic-call s at number trees codes h free
    (and-not-left (is_some (argument_types (values_of s trees))) (is_none (intrinsic_type number (values_of s trees))) (ap (λ o. is_some o) (arguments-typed s (values_of s trees) codes h)) unfit)

-- what the rules say of a call of a name of a sort
record IsAllowed (s : Scope) (name : List ℕ) (sort : Option Sort) (trees : Trees) : Type 0 where
  there : is_none sort && is_none (intrinsic_named name) ≡ false
  called_sort : is_other_sort is_function_sort sort ≡ false
  fits : is_unfit_call s name sort (values_of s trees) ≡ false
  clear : is_function_call sort && is_ambiguous_choice (call_choice s name (values_of s trees)) ≡ false
  writes : unwritable_of s (if is_function_call sort then called s name (values_of s trees) else None) trees ≡ []
  other : is_itself s.inside (if is_function_call sort then called s name (values_of s trees) else None) ≡ false
  targets : (if is_interlocked sort name then untargeted s trees else []) ≡ []

-- what is called, by the sort of its name
call-on : (s : Scope) → IsKnown s → (at : ℕ) (sort : Option Sort) (trees : Trees) (codes : List Code) → ArgumentsBecome s (values_of s trees) codes → IsAllowed s (spelled s at) sort trees → Becomes s (plain_value (call_type s (spelled s at) sort (values_of s trees))) (call_code s at sort (called s (spelled s at) (values_of s trees)) codes)
call-on s known at (Some a_function_name) trees codes h a = function-call s known at (spelled s at) trees codes h a.fits a.clear a.writes a.other
call-on s known at (Some (a_struct_name n)) trees codes h a = absurd (true≢false a.called_sort)
call-on s known at (Some (a_buffer_name n)) trees codes h a = absurd (true≢false a.called_sort)
call-on s known at (Some (a_variable_name v)) trees codes h a = absurd (true≢false a.called_sort)
call-on s known at None trees codes h a = call-none s at (intrinsic_named (spelled s at)) trees codes h a.there a.fits a.targets

allowed : (s : Scope) (at first : ℕ) (trees : Trees) → Obeys s (a_call at (an_args first trees)) → IsAllowed s (spelled s at) (sort_at s at) trees
allowed s at first trees o = record {
  there = not_broken (is_none (sort_at s at) && is_none (intrinsic_named (spelled s at))) at o.obeys_3;
  called_sort = not_broken (is_other_sort is_function_sort (sort_at s at)) at o.obeys_4;
  fits = not_broken (is_unfit_call s (spelled s at) (sort_at s at) (values_of s trees)) at o.obeys_35;
  clear = not_broken (is_function_call (sort_at s at) && is_ambiguous_choice (call_choice s (spelled s at) (values_of s trees))) at o.obeys_36;
  writes = o.obeys_37;
  other = not_broken (is_itself s.inside (chosen_at s at (an_args first trees))) at o.obeys_38;
  targets = o.obeys_40;
}

pub call-known : (s : Scope) → IsKnown s → (at first : ℕ) (trees : Trees) (codes : List Code) → codes_of s trees ≡ Some codes → ArgumentsBecome s (values_of s trees) codes → IsFree (expression_sites s (a_primary at absent (present (an_args first trees)))) → Known s (a_primary at absent (present (an_args first trees)))
call-known s known at first trees codes coded h free =
    of-one s (plain_value (call_type s (spelled s at) (sort_at s at) (values_of s trees))) (call_code s at (sort_at s at) (called s (spelled s at) (values_of s trees))) (codes_of s trees) codes coded
    (call-on s known at (sort_at s at) trees codes h (allowed s at first trees own))
  where
    own : Obeys s (a_call at (an_args first trees))
    own = free-first (site s (a_call at (an_args first trees))) [] (free-right (arguments_sites s trees) (site s (a_call at (an_args first trees)) ∷ []) free)
