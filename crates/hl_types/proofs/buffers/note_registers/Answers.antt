use Rattle.hl_values.specs.ScopeViews.{scope_of}
use Rattle.hl_types.proofs.BufferLemmas.{registers-noted}
use Rattle.hl_types.proofs.buffers.note_registers.Goals as goal

pub returns : goal.returns
returns c = registers-noted (scope_of c.args.scope.now) c.args.writable c.args.register c.args.space _ _ _ c.note_register.ensures c.note_space.ensures
