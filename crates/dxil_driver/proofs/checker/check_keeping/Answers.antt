-- The answer is the one that the bytes have.
use Rattle.dxil_driver.proofs.OneAnswer.{gives, names}
use Rattle.dxil_driver.proofs.checker.check_keeping.Goals as goal

pub returns-clause-passes : goal.returns-clause-passes
returns-clause-passes c = λ m. gives c.one_answer.ensures c.args.bytes.now m c.judge.result c.judge.ensures

pub returns-clause-fails : goal.returns-clause-fails
returns-clause-fails c = λ fault. names c.one_answer.ensures c.args.bytes.now fault c.judge.result c.judge.ensures
