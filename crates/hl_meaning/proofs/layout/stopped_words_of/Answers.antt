use Rattle.hl_meaning.specs.Held.{plain_program}
use Rattle.hl_meaning.proofs.LayoutLemmas.{has_words}
use Rattle.hl_meaning.proofs.layout.stopped_words_of.Goals as goal

pub stopped_words-requires : goal.stopped_words-requires
stopped_words-requires c = has_words (plain_program c.args.program.now) c.args.program.now.well_formed
