use Rattle.std.proofs.Common.{rules}
use Rattle.bc_records.proofs.ReadNames.{set_is_with_name, no_function}
use Rattle.bc_records.proofs.read.names.set_name.Goals as goal

pub returns-then-place-len : goal.returns-then-place-len
returns-then-place-len c = set_is_with_name c.args.functions.now.items c.args.value c.args.name c.index_mut.result.now (search rules) c.index_mut.ensures.value

pub returns-else-place-len : goal.returns-else-place-len
returns-else-place-len c = no_function c.args.functions.now.items c.args.value c.args.name (search rules)
