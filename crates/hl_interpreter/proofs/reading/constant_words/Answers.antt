use Rattle.std.proofs.Common.{◌∙◌, [], ap, sym}
use Rattle.std.specs.Option.{option_map_or}
use Rattle.hl_interpreter.proofs.HeldNames.{constant-absent, constant-there}
use Rattle.hl_interpreter.proofs.reading.constant_words.Goals as goal

pub returns-in-Some : goal.returns-in-Some
returns-in-Some c =
    c.as_slice.ensures.value ∙ sym (ap (λ o. option_map_or (λ k. k.words) o []) (constant-there c.args.run.now.program.now.constants c.args.number c.in-Some.constant.now (sym c.in-Some.ensures.value)))

pub returns-in-None : goal.returns-in-None
returns-in-None c = sym (ap (λ o. option_map_or (λ k. k.words) o []) (constant-absent c.args.run.now.program.now.constants c.args.number (sym c.in-None.ensures.value)))
