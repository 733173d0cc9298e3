use Rattle.std.proofs.Common.{◌∙◌, ◌||◌, ap, sym, drop, map, ◌+◌}
use Rattle.std.proofs.lemmas.List.{drop_all}
use Rattle.hl_interpreter.proofs.Turns.{drop-next}
use Rattle.hl_meaning.specs.Views.{plain_resource}
use Rattle.hl_interpreter.specs.Registers.{has_register}
use Rattle.hl_interpreter.proofs.Registers.{given-end, given-turn, is_given}
use Rattle.hl_interpreter.proofs.slots.given_registers.Goals as goal

pub loop-resource-preserved : goal.loop-resource-preserved
loop-resource-preserved c =
    let xs = c.args.resources.now in
    let i = c.loop-resource.resource-index in
    let taken = c.loop-resource.taken in
    given-turn taken c.add_given.new.taken (plain_resource c.resource-item.result) (map plain_resource (drop (i + 1) xs)) (λ class register. is_given class register (map plain_resource xs))
    c.in_ok-add_given.ensures
    (λ class register.
    ap (λ l. has_register taken class register || is_given class register (map plain_resource l)) (sym (drop-next xs i c.resource-item.result c.loop-resource-test.true c.resource-item.is)) ∙
    c.loop-resource.invariant class register)

pub returns : goal.returns
returns c =
    let xs = c.args.resources.now in
    let taken = c.loop-resource.taken in
    given-end taken (map plain_resource xs)
    (λ class register.
    ap (λ l. has_register taken class register || is_given class register (map plain_resource l)) (sym (drop_all c.loop-resource.resource-index xs c.loop-resource-test.false)) ∙
    c.loop-resource.invariant class register)
