use Rattle.std.proofs.Common.{◌∙◌, ◌∷◌, ◌++◌, [], ap, sym, subst, drop, map, ◌+◌}
use Rattle.std.proofs.lemmas.List.{drop_all}
use Rattle.hl_interpreter.proofs.Turns.{drop-next}
use Rattle.hl_meaning.specs.Slots.{slot_register, slots_after}
use Rattle.hl_meaning.specs.Views.{plain_resource}
use Rattle.hl_interpreter.specs.Registers.{IsTaken}
use Rattle.hl_interpreter.proofs.Registers.{starts-init, starts-turn, taken-turn}
use Rattle.hl_interpreter.proofs.slots.slots_of.Goals as goal

pub loop-resource-init : goal.loop-resource-init
loop-resource-init c =
    let all = map plain_resource c.args.resources.now in
    let taken = c.in_ok-taken.taken in
    let none = sym c.new-slots.ensures in
    record {
      slots = ap (λ l. slots_after all l all) c.new-slots.ensures;
      taken = subst (λ l. IsTaken all l taken) none c.in_ok-taken.ensures;
      starts = starts-init taken 256;
    }

pub loop-resource-preserved : goal.loop-resource-preserved
loop-resource-preserved c =
    let xs = c.args.resources.now in
    let all = map plain_resource xs in
    let i = c.loop-resource.resource-index in
    let r = c.resource-item.result in
    let slots = c.loop-resource.slots in
    let slot = c.in_ok-slot.slot in
    let taken = c.loop-resource.taken in
    let behind = c.add_slot.new.taken in
    let rest = map plain_resource (drop (i + 1) xs) in
    let is = c.loop-resource.invariant in
    let pushed = c.in_ok-push.ensures.ok in
    record {
      slots =
          ap (λ l. slots_after all l rest) (pushed ∙ ap (λ k. slots ++ k ∷ []) (c.in_ok-slot.ensures.slot all slots is.taken)) ∙
          (ap (λ l. slots_after all slots (map plain_resource l)) (sym (drop-next xs i r c.loop-resource-test.true c.resource-item.is)) ∙ is.slots);
      taken = subst (λ l. IsTaken all l behind) (sym pushed) (taken-turn all slots slot taken behind c.in_ok-add_slot.ensures is.taken);
      starts = starts-turn c.next_slot.new.starts (λ class. slot_register class slot) taken behind c.in_ok-add_slot.ensures c.in_ok-slot.ensures.starts;
    }

pub returns : goal.returns
returns c =
    let xs = c.args.resources.now in
    ap (λ l. slots_after (map plain_resource xs) c.loop-resource.slots (map plain_resource l)) (sym (drop_all c.loop-resource.resource-index xs c.loop-resource-test.false)) ∙ c.loop-resource.invariant.slots
