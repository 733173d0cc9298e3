use Rattle.bench_layers.proofs.answer.answer_of.Goals as goal

pub elaborated-requires : goal.elaborated-requires
elaborated-requires c = (c.args.text.now, c.in-Ok.ensures.tokens)
