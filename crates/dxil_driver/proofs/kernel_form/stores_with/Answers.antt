use Rattle.std.proofs.Common.{◌∙◌, ap, length, ◌==◌}
use Rattle.std.proofs.lemmas.Bool.{both_ways}
use Rattle.dxil_driver.proofs.Formed.{without_buffer}
use Rattle.dxil_driver.proofs.kernel_form.stores_with.Goals as goal

pub returns-in-None-2 : goal.returns-in-None-2
returns-in-None-2 c =
    rw c.in-None-2.is (without_buffer c.args.statements.now (λ none. both_ways c.is_empty.result c.if-is_empty.false (c.is_empty.ensures ∙ ap (λ xs. length xs == 0) none)))
