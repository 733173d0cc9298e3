use Rattle.std.proofs.Common.{◌≡◌, ◌∙◌, sym, ap, subst, map, IfOk, Some}
use Rattle.std.specs.Prelude.{option_and_then, option_map}
use Rattle.hl_meaning.specs.Views.{plain_ty}
use Rattle.hl_overload.specs.Best.{choice_of}
use Rattle.hl_overload.specs.Views.{plain_candidates, plain_types}
use Rattle.hl_rules.specs.Values.{chosen_candidate}
use Rattle.hl_values.specs.Calls.{called_in, fault_in, fault_of, picked}
use Rattle.hl_values.specs.ScopeViews.{plain_function, scope_of}
use Rattle.hl_values.specs.Views.{plain_value}
use Rattle.hl_values.proofs.CallLemmas.{IsChoice, choice-held, same-length, unknown-held}
use Rattle.hl_values.proofs.calls.choice_of_call.Goals as goal

pub chosen-requires : goal.chosen-requires
chosen-requires c =
    same-length (map plain_function c.args.scope.now.functions) c.positions-places.result.now c.in-Some-2.candidates.items
    (sym (ap (option_map (λ l. plain_candidates l.items)) c.in-Some-2.is) ∙ c.in_ok-candidates.ensures)

pub returns-in-Some-2-clause-callee : goal.returns-in-Some-2-clause-callee
returns-in-Some-2-clause-callee c =
    let candidates = plain_candidates c.in-Some-2.candidates.items in
    let h = choice-held c.args.scope.now c.args.name.now (map plain_value c.args.args.now) c.positions-places.result.now candidates (plain_types c.in-Some.types) c.positions-places.ensures
    (sym c.in_ok-types.ensures ∙ ap (option_map (map plain_ty)) c.in-Some.is)
    (sym c.in_ok-candidates.ensures ∙ ap (option_map (λ l. plain_candidates l.items)) c.in-Some-2.is) in
    subst (λ x. IfOk c.chosen.result (λ choice. called_in choice ≡ x))
    (ap (λ l. picked c.positions-places.result.now candidates (choice_of candidates (plain_types l))) c.as_slice.ensures.value ∙ sym h.callee) c.chosen.ensures.callee

pub returns-in-Some-2-clause-fault : goal.returns-in-Some-2-clause-fault
returns-in-Some-2-clause-fault c =
    let candidates = plain_candidates c.in-Some-2.candidates.items in
    let h = choice-held c.args.scope.now c.args.name.now (map plain_value c.args.args.now) c.positions-places.result.now candidates (plain_types c.in-Some.types) c.positions-places.ensures
    (sym c.in_ok-types.ensures ∙ ap (option_map (map plain_ty)) c.in-Some.is)
    (sym c.in_ok-candidates.ensures ∙ ap (option_map (λ l. plain_candidates l.items)) c.in-Some-2.is) in
    subst (λ x. IfOk c.chosen.result (λ choice. fault_in choice ≡ x))
    (ap (λ l. fault_of (Some (choice_of candidates (plain_types l)))) c.as_slice.ensures.value ∙ ap fault_of (sym h.choice)) c.chosen.ensures.fault

pub returns-clause-callee : goal.returns-clause-callee
returns-clause-callee c =
    let unknown = unknown-held c.args.scope.now c.args.name.now (map plain_value c.args.args.now) c.positions-places.result.now c.positions-places.ensures
    (sym c.in_ok-candidates.ensures ∙ ap (option_map (λ l. plain_candidates l.items)) c.in-None.is) in
    sym (ap (option_and_then (chosen_candidate (scope_of c.args.scope.now) c.args.name.now)) unknown)

pub returns-clause-fault : goal.returns-clause-fault
returns-clause-fault c =
    let unknown = unknown-held c.args.scope.now c.args.name.now (map plain_value c.args.args.now) c.positions-places.result.now c.positions-places.ensures
    (sym c.in_ok-candidates.ensures ∙ ap (option_map (λ l. plain_candidates l.items)) c.in-None.is) in
    sym (ap fault_of unknown)
