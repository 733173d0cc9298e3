use Rattle.std.proofs.Common.{◌∙◌, ap, sym}
use Rattle.std.proofs.lemmas.Result.{IfOk-weaker}
use Rattle.hl_meaning.specs.Layout.{words_of}
use Rattle.hl_meaning.specs.Views.{plain_structs}
use Rattle.hl_meaning.proofs.LayoutLemmas.{words-void}
use Rattle.hl_interpreter.proofs.HeldNames.{variable-absent, variable-there}
use Rattle.hl_interpreter.proofs.reading.shared_size.Goals as goal

pub returns-in-Some : goal.returns-in-Some
returns-in-Some c =
    let p = c.args.run.now.program.now in
    IfOk-weaker c.words_of.result _ _
    (λ w e. e ∙ sym (ap (words_of (plain_structs p.structs)) (variable-there p.shared c.args.number c.in-Some.variable.now (sym c.in-Some.ensures.value))))
    c.words_of.ensures

pub returns-in-None : goal.returns-in-None
returns-in-None c =
    let p = c.args.run.now.program.now in
    sym (ap (words_of (plain_structs p.structs)) (variable-absent p.shared c.args.number (sym c.in-None.ensures.value)) ∙ words-void (plain_structs p.structs))
