use Rattle.std.proofs.Common.{arith, get_or}
use Rattle.std.proofs.lemmas.List.{get_or_default}
use Rattle.hl_meaning.specs.declared.ty.Kind.TheVariants.{Bool as BoolKind}
use Rattle.hl_source.specs.Operations.{word_as}
use Rattle.hl_interpreter.proofs.Values.{map_2-done, map_2-pushed}
use Rattle.hl_interpreter.proofs.components.words_by_kind.Goals as goal

pub loop-at-preserved : goal.loop-at-preserved
loop-at-preserved c =
    let kinds = c.args.kinds.now in
    let words = c.args.words.now in
    let i = c.loop-at.at in
    let x = get_or words i 0 in
    let kind = get_or kinds i BoolKind in
    map_2-pushed word_as kinds words i kind x c.word_as.result c.loop-at.result _ _ (omega arith) (get_or_default kinds i BoolKind kind (omega arith)) (get_or_default words i 0 x (omega arith))
    c.word_as.ensures c.in_ok-push.ensures.ok c.loop-at.invariant

pub returns : goal.returns
returns c = map_2-done word_as c.args.kinds.now c.args.words.now c.loop-at.at c.loop-at.result _ (omega arith) c.loop-at.invariant
