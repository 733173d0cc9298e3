use Rattle.std.proofs.Common.{◌≡◌, ◌∙◌, ◌∷◌, refl, sym, ap, get_or, length, map, arith}
use Rattle.std.proofs.lemmas.List.{nil_from_length}
use Rattle.std.specs.Vec.Iter.{into_iter_items}
use Rattle.hl_meaning.specs.declared.ty.Kind.TheVariants.{Bool as BoolKind}
use Rattle.hl_values.specs.Views.{plain_code_if}
use Rattle.hl_types.specs.Leaves.{leaves_in}
use Rattle.hl_types.proofs.LeafLemmas.{leaf-end, leaf-loop, leaf-short}
use Rattle.hl_types.proofs.braces.leaves_in.Goals as goal

pub loop-kind-preserved : goal.loop-kind-preserved
loop-kind-preserved c =
    let steps : into_iter_items c.loop-kind.rest ≡ c.in-Some.code ∷ into_iter_items c.next.new.self = c.in-Some.ensures.cases.0 in
    let conv = c.in_ok-expr.ensures in
    let pushed = c.in_ok-push.ensures in (
      leaf-loop c.args.kinds.now c.loop-kind.kind-index (get_or c.args.kinds.now c.loop-kind.kind-index BoolKind) BoolKind c.loop-kind.exprs c.push.new.self c.in-Some-2.expr c.into_inner.result c.in-Some.code (into_iter_items c.loop-kind.rest) (into_iter_items c.next.new.self)
          c.in_ok-expr.field-0 (leaves_in c.args.kinds.now (map plain_code_if c.args.codes.items)) c.loop-kind.invariant.0 c.loop-kind-test.true refl steps c.in-Some-2.is conv c.into_inner.ensures pushed.ok,
      let was = c.loop-kind.invariant.1 in
          let gone = c.in-Some.ensures.cases.1 in
          let short = ap length steps in
          omega arith,
    )

pub returns-in_default : goal.returns-in_default
returns-in_default c =
    let none = c.in_default.ensures.cases in
    leaf-short c.args.kinds.now c.loop-kind.kind-index BoolKind c.loop-kind.exprs (into_iter_items c.loop-kind.rest) (leaves_in c.args.kinds.now (map plain_code_if c.args.codes.items)) c.loop-kind.invariant.0 c.loop-kind-test.true
    (nil_from_length (into_iter_items c.loop-kind.rest) (sym c.loop-kind.invariant.1 ∙ none.0))

pub returns-in-None : goal.returns-in-None
returns-in-None c =
    let none = c.in-None.ensures.cases in
    leaf-end c.args.kinds.now c.loop-kind.kind-index c.loop-kind.exprs (into_iter_items c.loop-kind.rest) (leaves_in c.args.kinds.now (map plain_code_if c.args.codes.items)) c.loop-kind.invariant.0 c.loop-kind-test.false
    (nil_from_length (into_iter_items c.loop-kind.rest) (sym c.loop-kind.invariant.1 ∙ none.0))
