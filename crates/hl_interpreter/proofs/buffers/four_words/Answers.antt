use Rattle.hl_interpreter.proofs.Fours.{first-four}
use Rattle.hl_interpreter.proofs.buffers.four_words.Goals as goal

pub returns : goal.returns
returns c = first-four c.args.words.now _ _ _ _ c.word_at.ensures c.word_at-2.ensures c.word_at-3.ensures c.word_at-4.ensures
