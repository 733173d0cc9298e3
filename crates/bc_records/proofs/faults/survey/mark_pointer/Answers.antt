use Rattle.std.proofs.Common.{◌∙◌, arith}
use Rattle.std.proofs.lemmas.Bool.{ne_eqb}
use Rattle.bc_records.specs.Entries.{entry}
use Rattle.bc_records.proofs.FaultSurvey.{unmarked-pointer, marked-pointer}
use Rattle.bc_records.proofs.faults.survey.mark_pointer.Goals as goal

pub returns-then-ty-pointed : goal.returns-then-ty-pointed
returns-then-ty-pointed c before marked =
    let e = c.args.entry.now in
    marked-pointer before (entry e.code e.values) c.args.pointed.now c.in-Some.ty c.if-ty-pointed.true marked (λ ty. c.in-Some.ensures ty)

pub returns-else-ty-pointed : goal.returns-else-ty-pointed
returns-else-ty-pointed c before marked =
    let e = c.args.entry.now in
    unmarked-pointer before (entry e.code e.values) c.args.pointed.now marked
    (λ ty within. c.in-Some.ensures ty ∙ ne_eqb c.in-Some.ty ty (λ same. omega (arith, same, within, c.if-ty-pointed.false)))

pub returns-in_default : goal.returns-in_default
returns-in_default c before marked =
    let e = c.args.entry.now in
    unmarked-pointer before (entry e.code e.values) c.args.pointed.now marked (λ ty within. c.in_default.ensures ty)
