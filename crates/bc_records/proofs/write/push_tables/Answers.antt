use Rattle.bc_stream.specs.Blocks.{parts_contents}
use Rattle.bc_records.proofs.ModuleSteps.{tables_pushed}
use Rattle.bc_records.proofs.write.push_tables.Goals as goal

pub returns-clause-ok : goal.returns-clause-ok
returns-clause-ok c =
    tables_pushed c.args.module.now (parts_contents c.args.parts.now) (parts_contents c.push_block.new.parts) (parts_contents c.push_block-2.new.parts)
    (parts_contents c.push_block-3.new.parts) (parts_contents c.in_ok-constants.constants) (parts_contents c.in_ok-metadata.metadata) (parts_contents c.in_ok-symbols.symbols)
    c.in_ok-constants.ensures.value c.in_ok-metadata.ensures.value c.in_ok-symbols.ensures.value
    c.in_ok-push_block.ensures.ok c.in_ok-push_block-2.ensures.ok c.in_ok-push_block-3.ensures.ok
