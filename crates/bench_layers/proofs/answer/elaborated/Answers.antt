use Rattle.hl_parser.specs.Views.{plain_of}
use Rattle.bench_layers.proofs.Spelled.{spelling}
use Rattle.bench_layers.proofs.answer.elaborated.Goals as goal

pub judged-requires : goal.judged-requires
judged-requires c = spelling c.requires.0 c.args.tokens.now.list c.args.tokens.now.end (plain_of c.in-Ok.tree) c.requires.1 c.in-Ok.ensures.tree
