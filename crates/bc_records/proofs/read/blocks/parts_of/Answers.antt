use Rattle.bc_records.proofs.ReadSteps.{skip_record, skip_block, take_block}
use Rattle.bc_records.proofs.read.blocks.parts_of.Goals as goal

pub returns-then-block-id : goal.returns-then-block-id
returns-then-block-id c = λ rest. skip_block c.args.id c.args.part.now c.in-Block.block rest c.in-Block.is c.if-block-id.true

pub returns-in-Entry : goal.returns-in-Entry
returns-in-Entry c = λ rest. skip_record c.args.id c.args.part.now c.in-Entry.field-0 rest c.in-Entry.is

pub returns-else-block-id : goal.returns-else-block-id
returns-else-block-id c = λ rest. take_block c.args.id c.args.part.now c.in-Block.block rest c.in-Block.is c.if-block-id.false
