use Rattle.std.proofs.Common.{◌≡◌, ◌∙◌, ◌∷◌, [], sym, ap, length, map, arith}
use Rattle.std.proofs.lemmas.List.{nil_from_length}
use Rattle.std.specs.Vec.Iter.{into_iter_items}
use Rattle.hl_meaning.specs.Views.{plain_ty}
use Rattle.hl_rules.specs.Nodes.{converted_each}
use Rattle.hl_values.specs.Views.{plain_code}
use Rattle.hl_values.proofs.NodeLemmas.{each-end, each-loop}
use Rattle.hl_values.proofs.nodes.converted_each.Goals as goal

pub loop-ty-preserved : goal.loop-ty-preserved
loop-ty-preserved c =
    let steps : into_iter_items c.loop-ty.rest ≡ c.in-Some.code ∷ into_iter_items c.next.new.self = c.in-Some.ensures.cases.0 in
    let conv = c.in_ok-expr.ensures in
    let pushed = c.in_ok-push.ensures in (
      each-loop c.args.types.now c.loop-ty.ty-index c.ty-item.result c.loop-ty.exprs c.push.new.self c.in-Some-2.expr c.into_inner.result c.in-Some.code (into_iter_items c.loop-ty.rest) (into_iter_items c.next.new.self)
          c.in_ok-expr.field-0 (converted_each (map plain_ty c.args.types.now) (map plain_code c.args.codes.items)) c.loop-ty.invariant.0 c.loop-ty-test.true c.ty-item.is steps c.in-Some-2.is conv c.into_inner.ensures pushed.ok,
      let was = c.loop-ty.invariant.1 in
          let gone = c.in-Some.ensures.cases.1 in
          let short = ap length steps in
          omega arith,
    )

pub returns-in-None : goal.returns-in-None
returns-in-None c =
    let none = c.in-None.ensures.cases in
    each-end c.args.types.now c.loop-ty.ty-index c.loop-ty.exprs (into_iter_items c.loop-ty.rest) (converted_each (map plain_ty c.args.types.now) (map plain_code c.args.codes.items)) c.loop-ty.invariant.0 c.loop-ty-test.false
    (nil_from_length (into_iter_items c.loop-ty.rest) (sym c.loop-ty.invariant.1 ∙ none.0))
