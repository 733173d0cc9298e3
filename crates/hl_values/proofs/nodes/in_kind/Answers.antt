use Rattle.std.proofs.Common.{◌≡◌, ◌∙◌, ◌∷◌, [], sym, ap, length, map, arith}
use Rattle.std.proofs.lemmas.List.{nil_from_length}
use Rattle.std.specs.Vec.Iter.{into_iter_items}
use Rattle.hl_rules.specs.Nodes.{in_kind}
use Rattle.hl_values.specs.Views.{plain_code}
use Rattle.hl_values.proofs.NodeLemmas.{in_kind-end, in_kind-loop}
use Rattle.hl_values.proofs.nodes.in_kind.Goals as goal

pub loop-code-preserved : goal.loop-code-preserved
loop-code-preserved c =
    let steps : into_iter_items c.loop-code.code-iterator ≡ c.in-Some.code ∷ into_iter_items c.next.new.self = c.in-Some.ensures.steps.0 in
    let conv = c.in_ok-expr.ensures in
    let pushed = c.in_ok-push.ensures in (
      in_kind-loop c.args.kind c.loop-code.exprs c.push.new.self c.in-Some-2.expr c.into_inner.result c.in-Some.code (into_iter_items c.loop-code.code-iterator) (into_iter_items c.next.new.self)
          c.in_ok-expr.field-0 (in_kind c.args.kind (map plain_code c.args.codes.items)) c.loop-code.invariant.0 steps c.in-Some-2.is conv c.into_inner.ensures pushed.ok,
      let was = c.loop-code.invariant.1 in
          let gone = c.in-Some.ensures.steps.1 in
          let short = ap length steps in
          omega arith,
    )

pub returns : goal.returns
returns c =
    let none = c.in-None.ensures.steps in
    in_kind-end c.args.kind c.loop-code.exprs (into_iter_items c.loop-code.code-iterator) (in_kind c.args.kind (map plain_code c.args.codes.items)) c.loop-code.invariant.0
    (nil_from_length (into_iter_items c.loop-code.code-iterator) (sym c.loop-code.invariant.1 ∙ none.0))
