-- The answer is the one that the list has.
use Rattle.bc_stream.specs.Blocks.{contents_of}
use Rattle.bc_records.proofs.Answering.{gives, names}
use Rattle.bc_records.proofs.reader.from_blocks.Goals as goal

pub returns-clause-recorded : goal.returns-clause-recorded
returns-clause-recorded c = gives (contents_of c.args.blocks.now) c.one_module.ensures c.no_record_fault.ensures c.read_list.result c.read_list.ensures

pub returns-clause-faulty : goal.returns-clause-faulty
returns-clause-faulty c = names (contents_of c.args.blocks.now) c.one_record_fault.ensures c.no_record_fault.ensures c.read_list.result c.read_list.ensures
