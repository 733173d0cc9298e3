use Rattle.std.proofs.Common.{◌≡◌, ◌∙◌, refl, sym, ap, map, None, Some}
use Rattle.std.proofs.lemmas.Result.{IfOk-weaker, on_ok_weaker}
use Rattle.hl_parser.specs.Views.{plain_trees}
use Rattle.hl_rules.specs.Scopes.{spelled}
use Rattle.hl_rules.specs.Values.{call_choice, called}
use Rattle.hl_values.specs.Arguments.{plain_codes}
use Rattle.hl_values.specs.Calls.{called_in, fault_in, fault_of, plain_callee}
use Rattle.hl_values.specs.Known.{plain_known}
use Rattle.hl_values.specs.ScopeViews.{scope_of}
use Rattle.hl_values.specs.Views.{plain_value}
use Rattle.hl_types.proofs.CallLemmas.{callee-called, function-found, none-called}
use Rattle.hl_types.proofs.call_sites.function_called.Goals as goal

pub returns-in-Callee-clause-typed : goal.returns-in-Callee-clause-typed
returns-in-Callee-clause-typed c =
    let s = scope_of c.args.scope.now in
    let chosen : Some (plain_callee c.in-Callee.callee) ≡ called s (spelled s c.args.at) (map plain_value c.args.args) =
    sym (ap called_in c.in-Callee.is) ∙ (c.in_ok-choice.ensures.callee ∙
    (ap (λ n. called s n (map plain_value c.as_slice.result.now)) c.text_at.ensures ∙ ap (λ l. called s (spelled s c.args.at) (map plain_value l)) c.as_slice.ensures.value)) in
    IfOk-weaker c.callee_called.result _ _
    (λ t e. callee-called s c.args.at (map plain_value c.args.args) (plain_codes c.args.args) (plain_callee c.in-Callee.callee) (plain_known t) chosen e)
    c.callee_called.ensures.typed

pub returns-in-Callee-clause-found : goal.returns-in-Callee-clause-found
returns-in-Callee-clause-found c =
    let s = scope_of c.args.scope.now in
    let chosen : Some (plain_callee c.in-Callee.callee) ≡ called s (spelled s c.args.at) (map plain_value c.args.args) =
    sym (ap called_in c.in-Callee.is) ∙ (c.in_ok-choice.ensures.callee ∙
    (ap (λ n. called s n (map plain_value c.as_slice.result.now)) c.text_at.ensures ∙ ap (λ l. called s (spelled s c.args.at) (map plain_value l)) c.as_slice.ensures.value)) in
    let fault : None ≡ fault_of (call_choice s (spelled s c.args.at) (map plain_value c.args.args)) =
    sym (ap fault_in c.in-Callee.is) ∙ (c.in_ok-choice.ensures.fault ∙
    (ap (λ n. fault_of (call_choice s n (map plain_value c.as_slice.result.now))) c.text_at.ensures ∙ ap (λ l. fault_of (call_choice s (spelled s c.args.at) (map plain_value l))) c.as_slice.ensures.value)) in
    on_ok_weaker c.callee_called.result
    (λ e. function-found c.args.found.now c.note_if.new.found c.callee_called.new.found s c.args.at (plain_trees c.args.trees.now) (map plain_value c.args.args) c.is_entry_name.result (None) (Some (plain_callee c.in-Callee.callee)) c.is_entry_name.ensures c.note_if.ensures fault chosen e)
    c.callee_called.ensures.found

pub returns-in-Fault-clause-typed : goal.returns-in-Fault-clause-typed
returns-in-Fault-clause-typed c =
    let s = scope_of c.args.scope.now in
    let chosen : None ≡ called s (spelled s c.args.at) (map plain_value c.args.args) =
    sym (ap called_in c.in-Fault.is) ∙ (c.in_ok-choice.ensures.callee ∙
    (ap (λ n. called s n (map plain_value c.as_slice.result.now)) c.text_at.ensures ∙ ap (λ l. called s (spelled s c.args.at) (map plain_value l)) c.as_slice.ensures.value)) in
    none-called s c.args.at (map plain_value c.args.args) (plain_codes c.args.args) (plain_known c.fault_found.result) chosen c.fault_found.ensures.typed

pub returns-in-Fault-clause-found : goal.returns-in-Fault-clause-found
returns-in-Fault-clause-found c =
    let s = scope_of c.args.scope.now in
    let chosen : None ≡ called s (spelled s c.args.at) (map plain_value c.args.args) =
    sym (ap called_in c.in-Fault.is) ∙ (c.in_ok-choice.ensures.callee ∙
    (ap (λ n. called s n (map plain_value c.as_slice.result.now)) c.text_at.ensures ∙ ap (λ l. called s (spelled s c.args.at) (map plain_value l)) c.as_slice.ensures.value)) in
    let fault : Some c.in-Fault.fault ≡ fault_of (call_choice s (spelled s c.args.at) (map plain_value c.args.args)) =
    sym (ap fault_in c.in-Fault.is) ∙ (c.in_ok-choice.ensures.fault ∙
    (ap (λ n. fault_of (call_choice s n (map plain_value c.as_slice.result.now))) c.text_at.ensures ∙ ap (λ l. fault_of (call_choice s (spelled s c.args.at) (map plain_value l))) c.as_slice.ensures.value)) in
    function-found c.args.found.now c.note_if.new.found c.fault_found.new.found s c.args.at (plain_trees c.args.trees.now) (map plain_value c.args.args) c.is_entry_name.result (Some c.in-Fault.fault) (None) c.is_entry_name.ensures c.note_if.ensures fault chosen c.fault_found.ensures.found

pub returns-in-Unknown-clause-typed : goal.returns-in-Unknown-clause-typed
returns-in-Unknown-clause-typed c =
    let s = scope_of c.args.scope.now in
    let chosen : None ≡ called s (spelled s c.args.at) (map plain_value c.args.args) =
    sym (ap called_in c.in-Unknown.is) ∙ (c.in_ok-choice.ensures.callee ∙
    (ap (λ n. called s n (map plain_value c.as_slice.result.now)) c.text_at.ensures ∙ ap (λ l. called s (spelled s c.args.at) (map plain_value l)) c.as_slice.ensures.value)) in
    none-called s c.args.at (map plain_value c.args.args) (plain_codes c.args.args) (plain_known c.value.result) chosen c.value.ensures

pub returns-in-Unknown-clause-found : goal.returns-in-Unknown-clause-found
returns-in-Unknown-clause-found c =
    let s = scope_of c.args.scope.now in
    let chosen : None ≡ called s (spelled s c.args.at) (map plain_value c.args.args) =
    sym (ap called_in c.in-Unknown.is) ∙ (c.in_ok-choice.ensures.callee ∙
    (ap (λ n. called s n (map plain_value c.as_slice.result.now)) c.text_at.ensures ∙ ap (λ l. called s (spelled s c.args.at) (map plain_value l)) c.as_slice.ensures.value)) in
    let fault : None ≡ fault_of (call_choice s (spelled s c.args.at) (map plain_value c.args.args)) =
    sym (ap fault_in c.in-Unknown.is) ∙ (c.in_ok-choice.ensures.fault ∙
    (ap (λ n. fault_of (call_choice s n (map plain_value c.as_slice.result.now))) c.text_at.ensures ∙ ap (λ l. fault_of (call_choice s (spelled s c.args.at) (map plain_value l))) c.as_slice.ensures.value)) in
    function-found c.args.found.now c.note_if.new.found c.note_if.new.found s c.args.at (plain_trees c.args.trees.now) (map plain_value c.args.args) c.is_entry_name.result (None) (None) c.is_entry_name.ensures c.note_if.ensures fault chosen refl
