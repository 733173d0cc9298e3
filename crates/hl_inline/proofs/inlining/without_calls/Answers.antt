use Rattle.std.proofs.Common.{subst, sym}
use Rattle.hl_meaning.specs.Held.{plain_program}
use Rattle.hl_inline.specs.FlatWellFormed.{IsFlat}
use Rattle.hl_inline.proofs.Keeping.{inlined_program_flat}
use Rattle.hl_inline.proofs.inlining.without_calls.Goals as goal

pub invariant_of-result : goal.invariant_of-result
invariant_of-result c =
    let p = c.args.program.now in
    record { well_formed = subst (λ f. ∥ IsFlat f ∥₁) (sym c.in_ok-parts.ensures) (inlined_program_flat (plain_program p) p.well_formed c.requires) }
