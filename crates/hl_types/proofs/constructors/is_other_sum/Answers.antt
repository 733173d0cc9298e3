use Rattle.std.proofs.Common.{◌∙◌, sym, ap, subst, ◌+◌, ◌<◌, ◌≤◌, ◌==◌, length, get_or, map, arith, rules}
use Rattle.std.specs.Option.{option_copied}
use Rattle.std.specs.Prelude.{not}
use Rattle.hl_meaning.specs.Views.{plain_ty}
use Rattle.hl_rules.specs.Values.{argument_types}
use Rattle.hl_values.specs.Views.{plain_type_if, plain_value}
use Rattle.hl_types.proofs.ConstructorLemmas.{components-end, components-more, components_on, other-sum}
use Rattle.hl_types.proofs.constructors.is_other_sum.Goals as goal

pub loop-arg-preserved : goal.loop-arg-preserved
loop-arg-preserved c =
    let small : c.component_count.result ≤ 255 = search rules in (
      components-more c.args.args.now c.loop-arg.arg-index c.arg-item.result (plain_ty c.in-Some.ty.now) c.loop-arg.sum (c.loop-arg.sum + c.from-sum.result) (components_on 0 (argument_types (map plain_value c.args.args.now)))
          c.loop-arg.invariant.0
          (subst (λ l. c.loop-arg.arg-index < length l) c.as_slice-arg-items.ensures.value c.loop-arg-test.true)
          (c.arg-item.is ∙ ap (λ l. get_or l c.loop-arg.arg-index c.arg-item.result) c.as_slice-arg-items.ensures.value)
          (sym c.valued.ensures ∙ ap (λ o. plain_type_if (option_copied o)) c.in-Some.is)
          (ap (λ n. c.loop-arg.sum + n) (c.from-sum.ensures ∙ c.component_count.ensures)),
      let was = c.loop-arg.invariant.1 in
          let same = c.from-sum.ensures in
          omega arith,
    )

pub returns : goal.returns
returns c =
    ap (λ n. not (c.loop-arg.sum == n)) c.from.ensures ∙
    other-sum c.args.count c.loop-arg.sum (argument_types (map plain_value c.args.args.now))
    (components-end c.args.args.now c.loop-arg.arg-index c.loop-arg.sum (components_on 0 (argument_types (map plain_value c.args.args.now))) c.loop-arg.invariant.0
    (subst (λ l. length l ≤ c.loop-arg.arg-index) c.as_slice-arg-items.ensures.value c.loop-arg-test.false))
