-- What calls are and break, by what their names and their arguments are.
use Rattle.std.proofs.Common.{◌≡◌, ◌∙◌, refl, sym, ap, ℕ, Bool, true, false, ◌&&◌, if◌then◌else◌, List, [], ◌∷◌, map, slice_get, Option, None, Some, Result, Ok, Err}
use Rattle.std.specs.Prelude.{bytes_eq, is_none, is_some, option_and_then}
use Rattle.hl_overload.specs.declared.choice.ChoiceFault.{ChoiceFault}
use Rattle.hl_overload.specs.declared.choice.ChoiceFault.TheVariants.{Ambiguous, NoMatch}
use Rattle.hl_parser.specs.declared.tree.Tree as held_tree
use Rattle.hl_parser.specs.Trees.{Tree, Trees, a_primary, absent, at_of, present}
use Rattle.hl_parser.specs.Views.{plain_of, plain_trees}
use Rattle.hl_rules.specs.declared.found.Broken.{Broken}
use Rattle.hl_rules.specs.declared.interlocked.Interlocked.{Interlocked}
use Rattle.hl_rules.specs.DeclarationRules.{is_function_sort, is_other_sort}
use Rattle.hl_rules.specs.ExpressionRules.{argument_trees, is_ambiguous_choice, is_function_call, is_interlocked, is_itself, is_no_target, is_none_fitting, is_unfit, is_unfit_call, untargeted, unwritable_arguments, unwritable_of}
use Rattle.hl_rules.specs.Expressions.{argument_codes, call_code, function_code, intrinsic_code}
use Rattle.hl_rules.specs.Found.{breaking, broken_if, gathered}
use Rattle.hl_rules.specs.Intrinsics.{interlocked_form, intrinsic_named}
use Rattle.hl_rules.specs.Nodes.{Code}
use Rattle.hl_rules.specs.Parts.{a_call, site}
use Rattle.hl_rules.specs.Rules.{noted}
use Rattle.hl_rules.specs.Scopes.{Scope, Sort, a_buffer_name, a_function_name, a_struct_name, a_variable_name, sort_at, spelled}
use Rattle.hl_rules.specs.Sites.{argument_sites, expression_sites}
use Rattle.hl_rules.specs.Values.{Candidate, Value, arguments_of, call_choice, call_type, called, function_result, intrinsic_type, plain_value, value_of, values_of}
use Rattle.hl_rules.proofs.Noting.{noted-append, noted-call}
use Rattle.hl_values.specs.declared.typed.Typed.{Typed}
use Rattle.hl_values.specs.Arguments.{plain_codes}
use Rattle.hl_values.specs.Calls.{fault_of}
use Rattle.hl_values.specs.Known.{Known, known_value, plain_known}
use Rattle.hl_values.specs.Noted.{noted_if}
use Rattle.hl_values.specs.TypedViews.{IsTyped}
use Rattle.hl_values.specs.Views as views
use Rattle.hl_values.proofs.ExpressionLemmas.{known-typed}
use Rattle.hl_types.specs.Arguments.{AreTyped, behind_arguments}
use Rattle.hl_types.specs.Calls.{call_known, call_noted, callee_known, callee_noted, fault_noted, function_known, function_noted, intrinsic_known, target_noted, undeclared_noted}
use Rattle.hl_types.proofs.ArgumentLemmas.{arguments-typed, behind-code}

-- ---- what they break

-- what a call breaks where its name is of a sort
abbrev notes : Option Broken → Scope → ℕ → Trees → List Value → Option Sort → Option Broken
notes found s at trees args sort =
    gathered (gathered (gathered (gathered (gathered (gathered (gathered (gathered found
    (breaking 3 (broken_if (is_none sort && is_none (intrinsic_named (spelled s at))) at)))
    (breaking 4 (broken_if (is_other_sort is_function_sort sort) at)))
    (breaking 18 (broken_if (is_function_call sort && bytes_eq (spelled s at) s.entry) at)))
    (breaking 35 (broken_if (is_unfit_call s (spelled s at) sort args) at)))
    (breaking 36 (broken_if (is_function_call sort && is_ambiguous_choice (call_choice s (spelled s at) args)) at)))
    (breaking 37 (unwritable_of s (if is_function_call sort then called s (spelled s at) args else None) trees)))
    (breaking 38 (broken_if (is_itself s.inside (if is_function_call sort then called s (spelled s at) args else None)) at)))
    (breaking 40 (if is_interlocked sort (spelled s at) then untargeted s trees else []))

not_itself : (inside : Option ℕ) → is_itself inside None ≡ false
not_itself None = refl
not_itself (Some number) = refl

-- of a name that isn't declared
undeclared-by : (found : Option Broken) (s : Scope) (at : ℕ) (trees : Trees) (args : List Value) (named : Option ℕ) →
    gathered (gathered (gathered found
    (breaking 3 (broken_if (is_none named) at)))
    (breaking 35 (broken_if (is_unfit named args) at)))
    (breaking 40 (if is_some (option_and_then interlocked_form named) then untargeted s trees else []))
    ≡ undeclared_noted found s at trees args named
undeclared-by found s at trees args None = refl
undeclared-by found s at trees args (Some number) = refl

undeclared-notes : (found : Option Broken) (s : Scope) (at : ℕ) (trees : Trees) (args : List Value) → notes found s at trees args None ≡ call_noted found s at trees args None
undeclared-notes found s at trees args =
    ap (λ b. gathered (gathered (gathered (gathered found
    (breaking 3 (broken_if (is_none (intrinsic_named (spelled s at))) at)))
    (breaking 35 (broken_if (is_unfit (intrinsic_named (spelled s at)) args) at)))
    (breaking 38 (broken_if b at)))
    (breaking 40 (if is_some (option_and_then interlocked_form (intrinsic_named (spelled s at))) then untargeted s trees else []))) (not_itself s.inside) ∙
    undeclared-by found s at trees args (intrinsic_named (spelled s at))

-- of a function: why none is called
fault-by : (found : Option Broken) (at : ℕ) (choice : Option (Result ℕ ChoiceFault)) →
    gathered (gathered found (breaking 35 (broken_if (is_none_fitting choice) at))) (breaking 36 (broken_if (is_ambiguous_choice choice) at)) ≡ fault_noted found at (fault_of choice)
fault-by found at None = refl
fault-by found at (Some (Ok place)) = refl
fault-by found at (Some (Err NoMatch)) = refl
fault-by found at (Some (Err (Ambiguous first second))) = refl

-- what its call breaks
callee-by : (found : Option Broken) (s : Scope) (at : ℕ) (trees : Trees) (candidate : Option Candidate) →
    gathered (gathered found (breaking 37 (unwritable_of s candidate trees))) (breaking 38 (broken_if (is_itself s.inside candidate) at)) ≡ callee_noted found s at trees candidate
callee-by found s at trees None = ap (λ b. gathered found (breaking 38 (broken_if b at))) (not_itself s.inside)
callee-by found s at trees (Some candidate) = refl

function-notes : (found : Option Broken) (s : Scope) (at : ℕ) (trees : Trees) (args : List Value) → notes found s at trees args (Some a_function_name) ≡ function_noted found s at trees args
function-notes found s at trees args =
    ap (λ g. gathered (gathered g (breaking 37 (unwritable_of s (called s (spelled s at) args) trees))) (breaking 38 (broken_if (is_itself s.inside (called s (spelled s at) args)) at)))
    (fault-by (noted_if found 18 (bytes_eq (spelled s at) s.entry) at) at (call_choice s (spelled s at) args)) ∙
    callee-by (fault_noted (noted_if found 18 (bytes_eq (spelled s at) s.entry) at) at (fault_of (call_choice s (spelled s at) args))) s at trees (called s (spelled s at) args)

-- of another sort
other-notes : (found : Option Broken) (at : ℕ) (inside : Option ℕ) → gathered (noted_if found 4 true at) (breaking 38 (broken_if (is_itself inside None) at)) ≡ noted_if found 4 true at
other-notes found at inside = ap (λ b. gathered (noted_if found 4 true at) (breaking 38 (broken_if b at))) (not_itself inside)

sort-notes : (found : Option Broken) (s : Scope) (at : ℕ) (trees : Trees) (args : List Value) (sort : Option Sort) → notes found s at trees args sort ≡ call_noted found s at trees args sort
sort-notes found s at trees args None = undeclared-notes found s at trees args
sort-notes found s at trees args (Some a_function_name) = function-notes found s at trees args
sort-notes found s at trees args (Some (a_struct_name number)) = other-notes found at s.inside
sort-notes found s at trees args (Some (a_buffer_name number)) = other-notes found at s.inside
sort-notes found s at trees args (Some (a_variable_name variable)) = other-notes found at s.inside

call-noted : (found : Option Broken) (s : Scope) (at : ℕ) (a : Tree) → noted found (site s (a_call at a) ∷ []) ≡ call_noted found s at (argument_trees a) (arguments_of s a) (sort_at s at)
call-noted found s at a = noted-call found s at a ∙ sort-notes found s at (argument_trees a) (arguments_of s a) (sort_at s at)

-- behind the sites of the arguments
pub call-found : (f old new : Option Broken) (s : Scope) (at : ℕ) (a : Tree) (args : List Typed) → AreTyped s (argument_trees a) args → old ≡ noted f (argument_sites s a) → new ≡ call_noted old s at (argument_trees a) (map views.plain_value args) (sort_at s at) → new ≡ noted f (expression_sites s (a_primary at absent (present a)))
call-found f old new s at a args typed before e =
    e ∙ (ap (λ v. call_noted old s at (argument_trees a) v (sort_at s at)) (sym (arguments-typed s a args typed)) ∙
    (sym (call-noted old s at a) ∙
    (ap (λ g. noted g (site s (a_call at a) ∷ [])) before ∙ sym (noted-append f (argument_sites s a) (site s (a_call at a) ∷ [])))))

-- ---- what they are

pub call-typed : (s : Scope) (at : ℕ) (a : Tree) (args : List Typed) (inner t : Typed) → AreTyped s (argument_trees a) args →
    plain_known inner ≡ call_known s at (sort_at s at) (map views.plain_value args) (plain_codes args) → plain_known t ≡ behind_arguments a (plain_known inner) → IsTyped s (a_primary at absent (present a)) t
call-typed s at a args inner t typed h e =
    known-typed s (a_primary at absent (present a)) t
    (e ∙ (ap (behind_arguments a) h ∙
    (behind-code s a args typed (plain_value (call_type s (spelled s at) (sort_at s at) (map views.plain_value args))) (call_code s at (sort_at s at) (called s (spelled s at) (map views.plain_value args))) ∙
    ap (λ v. call_known s at (sort_at s at) v (argument_codes s a)) (sym (arguments-typed s a args typed)))))

-- what isn't called becomes nothing
abbrev pub no_code : List Code → Option Code
no_code codes = None

nothing-made : (codes : Option (List Code)) → option_and_then no_code codes ≡ None
nothing-made None = refl
nothing-made (Some codes) = refl

pub nothing-known : (k : Known) (codes : Option (List Code)) → k ≡ known_value None None → k ≡ known_value None (option_and_then no_code codes)
nothing-known k codes e = e ∙ ap (known_value None) (sym (nothing-made codes))

-- the same sort
pub sort-known : (s : Scope) (at : ℕ) (args : List Value) (codes : Option (List Code)) (own sort : Option Sort) (k : Known) → own ≡ sort → k ≡ call_known s at own args codes → k ≡ call_known s at sort args codes
sort-known s at args codes own sort k is e = e ∙ ap (λ o. call_known s at o args codes) is

pub sort-found : (old new : Option Broken) (s : Scope) (at : ℕ) (trees : Trees) (args : List Value) (own sort : Option Sort) → own ≡ sort → new ≡ call_noted old s at trees args own → new ≡ call_noted old s at trees args sort
sort-found old new s at trees args own sort is e = e ∙ ap (call_noted old s at trees args) is

-- a name that isn't declared, which is that of an intrinsic function or isn't
abbrev undeclared_known : (at : ℕ) → List Value → Option (List Code) → (named : Option ℕ) → Known
undeclared_known at args codes named =
    known_value (option_and_then (λ n. intrinsic_type n args) named) (option_and_then (λ l. option_and_then (λ n. intrinsic_code at n l) named) codes)

pub intrinsic-called : (s : Scope) (at number : ℕ) (args : List Value) (codes : Option (List Code)) (k : Known) → Some number ≡ intrinsic_named (spelled s at) → k ≡ intrinsic_known at number args codes → k ≡ call_known s at None args codes
intrinsic-called s at number args codes k is e = e ∙ ap (undeclared_known at args codes) is

pub unknown-called : (s : Scope) (at : ℕ) (args : List Value) (codes : Option (List Code)) (k : Known) → None ≡ intrinsic_named (spelled s at) → k ≡ known_value None None → k ≡ call_known s at None args codes
unknown-called s at args codes k is e = nothing-known k codes e ∙ ap (undeclared_known at args codes) is

pub undeclared-found : (old new : Option Broken) (s : Scope) (at : ℕ) (trees : Trees) (args : List Value) (named : Option ℕ) → named ≡ intrinsic_named (spelled s at) → new ≡ undeclared_noted old s at trees args named → new ≡ call_noted old s at trees args None
undeclared-found old new s at trees args named is e = e ∙ ap (undeclared_noted old s at trees args) is

-- a function, of which a candidate is chosen or none
abbrev chosen_known : Scope → (at : ℕ) → Option (List Code) → Option Candidate → Known
chosen_known s at codes chosen =
    known_value (option_and_then (λ c. function_result s c.number) chosen) (option_and_then (λ l. option_and_then (λ c. function_code s at c l) chosen) codes)

pub callee-called : (s : Scope) (at : ℕ) (args : List Value) (codes : Option (List Code)) (candidate : Candidate) (k : Known) → Some candidate ≡ called s (spelled s at) args → k ≡ callee_known s at candidate codes → k ≡ function_known s at args codes
callee-called s at args codes candidate k is e = e ∙ ap (chosen_known s at codes) is

pub none-called : (s : Scope) (at : ℕ) (args : List Value) (codes : Option (List Code)) (k : Known) → None ≡ called s (spelled s at) args → k ≡ known_value None None → k ≡ function_known s at args codes
none-called s at args codes k is e = nothing-known k codes e ∙ ap (chosen_known s at codes) is

pub function-found : (old entered new : Option Broken) (s : Scope) (at : ℕ) (trees : Trees) (args : List Value) (is_entry : Bool) (fault : Option ChoiceFault) (chosen : Option Candidate) →
    is_entry ≡ bytes_eq (spelled s at) s.entry → entered ≡ noted_if old 18 is_entry at → fault ≡ fault_of (call_choice s (spelled s at) args) → chosen ≡ called s (spelled s at) args →
    new ≡ callee_noted (fault_noted entered at fault) s at trees chosen → new ≡ function_noted old s at trees args
function-found old entered new s at trees args is_entry fault chosen entry before fault_is chosen_is e =
    e ∙ (ap (λ g. callee_noted (fault_noted g at fault) s at trees chosen) (before ∙ ap (λ b. noted_if old 18 b at) entry) ∙
    (ap (λ f. callee_noted (fault_noted (noted_if old 18 (bytes_eq (spelled s at) s.entry) at) at f) s at trees chosen) fault_is ∙
    ap (callee_noted (fault_noted (noted_if old 18 (bytes_eq (spelled s at) s.entry) at) at (fault_of (call_choice s (spelled s at) args))) s at trees) chosen_is))

pub callee-found : (old written new : Option Broken) (s : Scope) (at : ℕ) (trees : Trees) (candidate : Candidate) (inside : Bool) →
    written ≡ gathered old (breaking 37 (unwritable_arguments s candidate.params trees)) → inside ≡ is_itself s.inside (Some candidate) → new ≡ noted_if written 38 inside at → new ≡ callee_noted old s at trees (Some candidate)
callee-found old written new s at trees candidate inside before is e =
    e ∙ (ap (λ g. noted_if g 38 inside at) before ∙ ap (λ b. noted_if (gathered old (breaking 37 (unwritable_arguments s candidate.params trees))) 38 b at) is)

-- the target of an interlocked function
pub target-found : (old new : Option Broken) (s : Scope) (trees : Trees) (number : ℕ) (form : Interlocked) → Some form ≡ interlocked_form number → new ≡ gathered old (breaking 40 (untargeted s trees)) → new ≡ target_noted old s number trees
target-found old new s trees number form is e = e ∙ ap (λ o. gathered old (breaking 40 (if is_some o then untargeted s trees else []))) is

pub target-none : (old : Option Broken) (s : Scope) (trees : Trees) (number : ℕ) → None ≡ interlocked_form number → old ≡ target_noted old s number trees
target-none old s trees number is = ap (λ (o : Option Interlocked). gathered old (breaking 40 (if is_some o then untargeted s trees else []))) is

pub first-target : (s : Scope) (trees : List held_tree.Tree) (args : List Typed) (tree : held_tree.Tree) (arg : Typed) (is : Bool) (at : ℕ) →
    values_of s (plain_trees trees) ≡ map views.plain_value args → Some tree ≡ slice_get trees 0 → Some arg ≡ slice_get args 0 → is ≡ is_no_target (views.plain_value arg) → at ≡ at_of (plain_of tree) →
    broken_if is at ≡ untargeted s (plain_trees trees)
first-target s [] args tree arg is at same tree_is arg_is test place = absurd (cc tree_is)
first-target s (t ∷ trees) [] tree arg is at same tree_is arg_is test place = absurd (cc arg_is)
first-target s (t ∷ trees) (a ∷ args) tree arg is at same tree_is arg_is test place =
    let known : value_of s (plain_of t) ≡ views.plain_value a = cc same in
    let tree_same : tree ≡ t = cc tree_is in
    let arg_same : arg ≡ a = cc arg_is in
    ap (λ b. broken_if b at) (test ∙ (ap (λ (x : Typed). is_no_target (views.plain_value x)) arg_same ∙ ap is_no_target (sym known))) ∙
    ap (λ n. broken_if (is_no_target (value_of s (plain_of t))) n) (place ∙ ap (λ (x : held_tree.Tree). at_of (plain_of x)) tree_same)

pub no-target : (s : Scope) (trees : List held_tree.Tree) (args : List Typed) → values_of s (plain_trees trees) ≡ map views.plain_value args → None ≡ slice_get args 0 → untargeted s (plain_trees trees) ≡ []
no-target s [] args same none = refl
no-target s (t ∷ trees) [] same none = absurd (cc same)
no-target s (t ∷ trees) (a ∷ args) same none = absurd (cc none)

pub no-first : (s : Scope) (trees : List held_tree.Tree) → None ≡ slice_get trees 0 → untargeted s (plain_trees trees) ≡ []
no-first s [] none = refl
no-first s (t ∷ trees) none = absurd (cc none)
