use Rattle.bc_stream.specs.Blocks.{parts_contents}
use Rattle.bc_records.proofs.ConstantSteps.{kept}
use Rattle.bc_records.proofs.constants.push_settype.Goals as goal

pub returns-then-last-ty : goal.returns-then-last-ty
returns-then-last-ty c = kept (parts_contents c.args.parts.now) c.args.last_type c.in-Some.last c.args.ty c.in-Some.is c.if-last-ty.true
