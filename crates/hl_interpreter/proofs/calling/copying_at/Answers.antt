use Rattle.std.proofs.Common.{◌∙◌, ap, arith, sym}
use Rattle.std.proofs.lemmas.List.{get_or_default}
use Rattle.hl_meaning.specs.declared.program.Parameter.{Parameter}
use Rattle.hl_interpreter.proofs.calling.copying_at.Goals as goal

pub returns : goal.returns
returns c = λ p is. ap (λ (x : Parameter). x.copying) (get_or_default c.args.parameters.now c.args.at _ p (omega arith) ∙ sym is)
