use Rattle.hl_meaning.specs.declared.ty.Kind.TheVariants.{Bool as BoolKind}
use Rattle.hl_types.proofs.LeafLemmas.{words-stop}
use Rattle.hl_types.proofs.constant_words.words_in_kinds.Goals as goal

pub returns-in-None : goal.returns-in-None
returns-in-None c = words-stop c.args.kinds.now c.args.words.now c.loop-at.at c.loop-at.made BoolKind _ _ c.loop-at-test.true c.requires c.loop-at.invariant c.in-None.is
