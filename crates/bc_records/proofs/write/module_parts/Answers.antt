use Rattle.bc_stream.specs.Blocks.{parts_contents}
use Rattle.bc_records.proofs.ModuleSteps.{module_pushed}
use Rattle.bc_records.proofs.write.module_parts.Goals as goal

pub returns-clause-value : goal.returns-clause-value
returns-clause-value c =
    module_pushed c.args.module.now (parts_contents c.in_ok-parts.parts) (parts_contents c.push_functions.new.parts) (parts_contents c.push_tables.new.parts)
    (parts_contents c.push_bodies.new.parts) c.in_ok-parts.ensures.value c.in_ok-push_functions.ensures.ok c.in_ok-push_tables.ensures.ok c.in_ok-push_bodies.ensures.ok
