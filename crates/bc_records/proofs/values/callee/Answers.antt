use Rattle.std.proofs.Common.{◌-◌, ◌<◌, ◌≤◌, ◌∙◌, ap, sym, length, arith}
use Rattle.std.specs.Prelude.{slice_get}
use Rattle.bc_records.proofs.ValueLemmas.{below_globals, from_globals}
use Rattle.bc_records.proofs.values.callee.Goals as goal

pub returns-then-place-globals : goal.returns-then-place-globals
returns-then-place-globals c =
    let below : c.args.value < length c.args.module.now.globals = omega (arith, c.len-globals.ensures.value, c.if-place-globals.true) in
    sym (below_globals c.args.module.now c.args.value below)

pub returns : goal.returns
returns c =
    let past : length c.args.module.now.globals ≤ c.args.value = omega (arith, c.len-globals.ensures.value, c.if-place-globals.false) in
    c.get.ensures.value
    ∙ (ap (λ n. slice_get c.args.module.now.functions (c.args.value - n)) c.len-globals.ensures.value
    ∙ sym (from_globals c.args.module.now c.args.value past))
