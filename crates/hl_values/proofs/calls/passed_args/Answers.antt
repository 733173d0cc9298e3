use Rattle.std.proofs.Common.{◌≡◌, ◌∙◌, ◌∷◌, [], sym, ap, length, map, arith}
use Rattle.std.proofs.lemmas.List.{nil_from_length}
use Rattle.std.specs.Vec.Iter.{into_iter_items}
use Rattle.hl_overload.specs.Views.{plain_params}
use Rattle.hl_rules.specs.Expressions.{passed_args}
use Rattle.hl_values.specs.Views.{plain_code}
use Rattle.hl_values.proofs.PassedLemmas.{passed-end, passed-loop}
use Rattle.hl_values.proofs.calls.passed_args.Goals as goal

pub loop-param-preserved : goal.loop-param-preserved
loop-param-preserved c =
    let steps : into_iter_items c.loop-param.rest ≡ c.in-Some.code ∷ into_iter_items c.next.new.self = c.in-Some.ensures.cases.0 in
    let conv = c.in_ok-arg.ensures in
    let pushed = c.in_ok-push.ensures in (
      passed-loop c.args.params.now c.loop-param.param-index c.param-item.result c.loop-param.args c.push.new.self c.in-Some-2.arg c.in-Some.code (into_iter_items c.loop-param.rest) (into_iter_items c.next.new.self)
          c.in_ok-arg.field-0 (passed_args (plain_params c.args.params.now) (map plain_code c.args.codes.items)) c.loop-param.invariant.0 c.loop-param-test.true c.param-item.is steps c.in-Some-2.is conv pushed.ok,
      let was = c.loop-param.invariant.1 in
          let gone = c.in-Some.ensures.cases.1 in
          let short = ap length steps in
          omega arith,
    )

pub returns-in-None : goal.returns-in-None
returns-in-None c =
    let none = c.in-None.ensures.cases in
    passed-end c.args.params.now c.loop-param.param-index c.loop-param.args (into_iter_items c.loop-param.rest) (passed_args (plain_params c.args.params.now) (map plain_code c.args.codes.items)) c.loop-param.invariant.0 c.loop-param-test.false
    (nil_from_length (into_iter_items c.loop-param.rest) (sym c.loop-param.invariant.1 ∙ none.0))
