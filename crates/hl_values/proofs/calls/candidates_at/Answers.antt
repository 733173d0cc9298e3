use Rattle.std.proofs.Common.{◌≡◌, ◌∙◌, sym, ap, map, get_or, None, Some}
use Rattle.std.specs.Option.{option_copied}
use Rattle.std.specs.Prelude.{option_and_then, option_map}
use Rattle.std.proofs.lemmas.List.{get_or_default}
use Rattle.hl_overload.specs.Views.{plain_candidates, plain_params}
use Rattle.hl_rules.specs.Values.{params_known}
use Rattle.hl_values.specs.Calls.{params_at}
use Rattle.hl_values.specs.Few.{each}
use Rattle.hl_values.specs.ScopeViews.{plain_function, plain_param}
use Rattle.hl_values.proofs.CallLemmas.{none-from, params_at-held}
use Rattle.hl_values.proofs.EachLemmas.{held-more, slice-stop}
use Rattle.hl_values.proofs.calls.candidates_at.Goals as goal

pub returns-in_default : goal.returns-in_default
returns-in_default c =
    let f = params_at (map plain_function c.args.functions.now) in
    let place = get_or c.args.places.now c.loop-place.place-index 0 in
    slice-stop f c.args.places.now c.loop-place.place-index place (plain_candidates c.loop-place.candidates.items) (each f c.args.places.now)
    c.loop-place.invariant c.loop-place-test.true (get_or_default c.args.places.now c.loop-place.place-index 0 place c.loop-place-test.true)
    (params_at-held c.args.functions.now place None (sym (ap option_copied (none-from c.value_at.result c.in_default.not-Some)) ∙ c.value_at.ensures))

pub returns-in_default-2 : goal.returns-in_default-2
returns-in_default-2 c =
    let f = params_at (map plain_function c.args.functions.now) in
    let place = get_or c.args.places.now c.loop-place.place-index 0 in
    slice-stop f c.args.places.now c.loop-place.place-index place (plain_candidates c.loop-place.candidates.items) (each f c.args.places.now)
    c.loop-place.invariant c.loop-place-test.true (get_or_default c.args.places.now c.loop-place.place-index 0 place c.loop-place-test.true)
    (params_at-held c.args.functions.now place (Some c.in-Some.function.now) (sym (ap option_copied c.in-Some.is) ∙ c.value_at.ensures) ∙
    (ap (λ l. params_known (map plain_param l)) (sym c.as_slice.ensures.value) ∙
    (sym c.in_ok-params.ensures ∙ ap (option_map plain_params) (none-from c.in_ok-params.field-0 c.in_default-2.not-Some))))

pub loop-place-preserved : goal.loop-place-preserved
loop-place-preserved c =
    let f = params_at (map plain_function c.args.functions.now) in
    let place = get_or c.args.places.now c.loop-place.place-index 0 in
    held-more f (λ d. plain_params d.params) c.args.places.now c.loop-place.place-index place (record { params = c.in-Some-2.params }) c.loop-place.candidates.items c.push.new.self.items (each f c.args.places.now)
    c.loop-place.invariant c.loop-place-test.true (get_or_default c.args.places.now c.loop-place.place-index 0 place c.loop-place-test.true)
    (params_at-held c.args.functions.now place (Some c.in-Some.function.now) (sym (ap option_copied c.in-Some.is) ∙ c.value_at.ensures) ∙
    (ap (λ l. params_known (map plain_param l)) (sym c.as_slice.ensures.value) ∙
    (sym c.in_ok-params.ensures ∙ ap (option_map plain_params) c.in-Some-2.is)))
    c.in_ok-push.ensures.items
