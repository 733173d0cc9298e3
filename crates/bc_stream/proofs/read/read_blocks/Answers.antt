use Rattle.bc_stream.proofs.BodyLemmas.{gives_blocks, gives_fault}
use Rattle.bc_stream.proofs.CountLemmas.{answers_few}
use Rattle.bc_stream.proofs.read.read_blocks.Goals as goal

pub returns-clause-spelled : goal.returns-clause-spelled
returns-clause-spelled c = λ blocks spelled. gives_blocks c.args.bytes.now c.read_all.result blocks c.read_all.ensures spelled

pub returns-clause-faulty : goal.returns-clause-faulty
returns-clause-faulty c = λ kind bit faulty. gives_fault c.args.bytes.now c.read_all.result kind bit c.read_all.ensures faulty

pub returns-clause-few : goal.returns-clause-few
returns-clause-few c = answers_few c.args.bytes.now c.read_all.result c.requires c.read_all.ensures
