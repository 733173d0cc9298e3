use Rattle.std.proofs.Common.{◌<◌, length, arith}
use Rattle.hl_overload.specs.Views.{plain_params}
use Rattle.hl_parser.specs.Views.{plain_trees}
use Rattle.hl_rules.specs.ExpressionRules.{unwritable_arguments}
use Rattle.hl_rules.specs.Found.{breaking, gathered}
use Rattle.hl_types.proofs.WrittenLemmas.{written-none, written-step, written-stop}
use Rattle.hl_types.proofs.call_sites.note_unwritable.Goals as goal
use Rattle.hl_types.proofs.call_sites.note_unwritable.Goals.{then-place-trees-via-then-place-trees, then-place-trees-via-else-place-trees+then-place-args}

pub returns-then-place-trees : goal.returns-then-place-trees
returns-then-place-trees c = λ s same.
    let whole = gathered c.args.found.now (breaking 37 (unwritable_arguments s (plain_params c.args.params.now) (plain_trees c.args.trees.now))) in
    elim c.then-place-trees.branch [
      | then-place-trees-via-then-place-trees w ↦
          written-stop s c.args.params.now c.args.trees.now c.args.args.now c.loop-place.place c.loop-place.found whole same (c.loop-place.invariant s same) w.if-place-trees.true
      | then-place-trees-via-else-place-trees+then-place-args w ↦
          written-none s c.args.params.now c.args.trees.now c.args.args.now c.loop-place.place c.loop-place.found whole same (c.loop-place.invariant s same) w.if-place-args.true
    ]

pub loop-place-preserved : goal.loop-place-preserved
loop-place-preserved c = λ s same.
    let within : c.loop-place.place < length c.args.params.now = omega arith in
    let within_trees : c.loop-place.place < length c.args.trees.now = omega arith in
    written-step s c.args.params.now c.args.trees.now c.args.args.now c.loop-place.place c.loop-place.found
    (gathered c.args.found.now (breaking 37 (unwritable_arguments s (plain_params c.args.params.now) (plain_trees c.args.trees.now)))) same (c.loop-place.invariant s same)
    c.index-params-place.result c.index-trees-place.result c.index-args-place.result c.is_unwritable_for-broken.result c.at.result c.note_if.new.found
    within within_trees c.index-params-place.is c.index-trees-place.is c.index-args-place.is c.is_unwritable_for-broken.ensures c.at.ensures c.note_if.ensures
