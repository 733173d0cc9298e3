use Rattle.hl_meaning.specs.Held.{plain_program}
use Rattle.hl_meaning.proofs.LayoutLemmas.{has_words}
use Rattle.hl_meaning.proofs.totals.sizes.Goals as goal

pub variables_words-shared-requires : goal.variables_words-shared-requires
variables_words-shared-requires c = has_words (plain_program c.args.program.now) c.args.program.now.well_formed
