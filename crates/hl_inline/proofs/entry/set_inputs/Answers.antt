use Rattle.std.proofs.Common.{◌+◌, ◌∷◌, [], None, drop, get_or, refl}
use Rattle.std.proofs.lemmas.List.{get_or_default}
use Rattle.hl_meaning.specs.declared.program.Copying.TheVariants.{CopyIn}
use Rattle.hl_meaning.specs.declared.program.Parameter.{Parameter}
use Rattle.hl_inline.specs.Building.{plain_code}
use Rattle.hl_inline.specs.InlinedPrograms.{set_inputs}
use Rattle.hl_inline.proofs.Growing.{given-end, given-next, inputs-first}
use Rattle.hl_inline.proofs.entry.set_inputs.Goals as goal

-- what is read past the end
abbrev no_parameter : Parameter
no_parameter = record { variable = 0; copying = CopyIn; semantic = None }

pub loop-parameter-init : goal.loop-parameter-init
loop-parameter-init c = refl

pub loop-parameter-preserved : goal.loop-parameter-preserved
loop-parameter-preserved c =
    let parameters = c.args.parameters.now in
    let i = c.loop-parameter.parameter-index in
    let p = get_or parameters i no_parameter in
    given-next (λ l. set_inputs c.args.first l) parameters i p (set_inputs c.args.first (p ∷ [])) (plain_code c.loop-parameter.code) _ _
    c.loop-parameter-test.true (get_or_default parameters i no_parameter p c.loop-parameter-test.true) (inputs-first c.args.first p (drop (i + 1) parameters)) c.in_ok-set_input.ensures c.loop-parameter.invariant

pub returns : goal.returns
returns c =
    given-end (λ l. set_inputs c.args.first l) c.args.parameters.now c.loop-parameter.parameter-index (plain_code c.loop-parameter.code) _ c.loop-parameter-test.false refl c.loop-parameter.invariant
