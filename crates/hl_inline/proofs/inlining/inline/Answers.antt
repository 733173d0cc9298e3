use Rattle.std.proofs.Common.{sym, subst}
use Rattle.std.proofs.lemmas.Result.{IfOk-weaker}
use Rattle.hl_meaning.specs.Held.{plain_program}
use Rattle.hl_inline.specs.HeldFlat.{plain_flat}
use Rattle.hl_inline.specs.Keeps.{Keeps}
use Rattle.hl_inline.proofs.Keeping.{inlined_keeps, kept_same_lane}
use Rattle.hl_inline.proofs.inlining.inline.Goals as goal

pub returns-clause-kept : goal.returns-clause-kept
returns-clause-kept c =
    IfOk-weaker c.without_calls.result _ _
    (λ flat is. subst (Keeps (plain_program c.args.program.now)) (sym is) (inlined_keeps (plain_program c.args.program.now) c.args.program.now.well_formed))
    c.without_calls.ensures

pub returns-clause-lane : goal.returns-clause-lane
returns-clause-lane c =
    IfOk-weaker c.without_calls.result _ _
    (λ flat is. kept_same_lane (plain_program c.args.program.now) (plain_flat flat)
    (subst (Keeps (plain_program c.args.program.now)) (sym is) (inlined_keeps (plain_program c.args.program.now) c.args.program.now.well_formed)))
    c.without_calls.ensures
