use Rattle.bc_stream.specs.Blocks.{parts_contents}
use Rattle.bc_records.specs.Written.{constant_record}
use Rattle.bc_records.proofs.ConstantSteps.{both}
use Rattle.bc_records.proofs.constants.push_constant.Goals as goal

pub returns-clause-ok : goal.returns-clause-ok
returns-clause-ok c =
    both (parts_contents c.args.parts.now) (parts_contents c.push_settype.new.parts) (parts_contents c.push_value.new.parts)
    c.args.last_type c.args.constant.now.ty (constant_record c.args.constant.now.value) c.in_ok-push_settype.ensures c.in_ok-push_value.ensures
