use Rattle.std.proofs.Common.{◌∙◌, sym, map}
use Rattle.std.proofs.lemmas.List.{at_drop_all}
use Rattle.hl_meaning.specs.Views.{plain_ty}
use Rattle.hl_rules.specs.Operands.{common_behind}
use Rattle.hl_values.specs.Views.{plain_type_if}
use Rattle.hl_values.proofs.operators.common_of.Goals as goal

pub returns : goal.returns
returns c =
    sym (at_drop_all (λ l. common_behind (plain_type_if c.loop-ty.common) (map plain_ty l)) c.in_ok-first.rest.now c.loop-ty.ty-index c.loop-ty-test.false) ∙ c.loop-ty.invariant
