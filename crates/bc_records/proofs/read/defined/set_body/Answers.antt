use Rattle.std.proofs.Common.{rules, Some}
use Rattle.bc_records.proofs.ReadDefined.{set_is_with_body, no_such_place}
use Rattle.bc_records.proofs.read.defined.set_body.Goals as goal

pub returns-then-place-len : goal.returns-then-place-len
returns-then-place-len c = set_is_with_body c.args.functions.now.items c.args.place c.args.body c.index_mut.result.now (search rules) c.index_mut.ensures.value

pub returns-else-place-len : goal.returns-else-place-len
returns-else-place-len c = no_such_place c.args.functions.now.items c.args.place (Some c.args.body) (search rules)
