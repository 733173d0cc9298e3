use Rattle.hl_inline.proofs.Keeping.{inlined_program_flat}
use Rattle.hl_inline.proofs.laws.inlined_is_well_formed.Goals as goal

pub returns : goal.returns
returns c = inlined_program_flat
