use Rattle.std.proofs.Common.{◌≡◌, ◌∙◌, ◌∷◌, sym, ap, length, map, arith}
use Rattle.std.proofs.lemmas.List.{nil_from_length}
use Rattle.std.specs.Vec.Iter.{into_iter_items}
use Rattle.hl_values.specs.Arguments.{becomes}
use Rattle.hl_values.specs.Few.{each}
use Rattle.hl_values.specs.Views.{plain_code, plain_code_if}
use Rattle.hl_values.proofs.EachLemmas.{list-end, list-more}
use Rattle.hl_types.proofs.arguments.codes_of.Goals as goal

pub loop-arg-preserved : goal.loop-arg-preserved
loop-arg-preserved c =
    let steps : into_iter_items c.loop-arg.arg-iterator ≡ c.in-Some.arg ∷ into_iter_items c.next.new.self = c.in-Some.ensures.steps.0 in (
      list-more becomes plain_code c.in-Some.arg c.in-Some-code.code (into_iter_items c.loop-arg.arg-iterator) (into_iter_items c.next.new.self) c.loop-arg.codes.items c.push.new.self.items (each becomes c.args.args)
          c.loop-arg.invariant.0 steps (ap plain_code_if c.in-Some-code.is) c.in_ok-push.ensures.items,
      let was = c.loop-arg.invariant.1 in
          let gone = c.in-Some.ensures.steps.1 in
          let short = ap length steps in
          omega arith,
    )

pub returns : goal.returns
returns c =
    let none = c.in-None.ensures.steps in
    list-end becomes (into_iter_items c.loop-arg.arg-iterator) (map plain_code c.loop-arg.codes.items) (each becomes c.args.args) c.loop-arg.invariant.0
    (nil_from_length (into_iter_items c.loop-arg.arg-iterator) (sym c.loop-arg.invariant.1 ∙ none.0))
