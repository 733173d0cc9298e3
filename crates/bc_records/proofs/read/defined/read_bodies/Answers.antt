use Rattle.std.proofs.Common.{◌+◌, [], ◌∷◌, ◌++◌, ◌∙◌, ap, sym, drop, append-nil}
use Rattle.std.proofs.lemmas.List.{drop_more}
use Rattle.bc_records.specs.ReadBodies.{bodies_of}
use Rattle.bc_records.proofs.ReadDefined.{held, holds, body_more, here_first, no_functions, nothing_at}
use Rattle.bc_records.proofs.read.defined.read_bodies.Goals as goal

pub returns-in-None : goal.returns-in-None
returns-in-None c =
    let m = c.args.module.now in
    let i = c.loop-place.place in
    let blocks = held (drop i c.args.blocks.now) in
    sym (append-nil c.loop-place.bodies.items)
    ∙ (ap (λ bs. c.loop-place.bodies.items ++ bs) (sym (no_functions m blocks))
    ∙ (ap (λ fs. c.loop-place.bodies.items ++ bodies_of m blocks fs) (sym (nothing_at m.functions i c.in-None.ensures.value))
    ∙ c.loop-place.invariant))

pub loop-place-preserved : goal.loop-place-preserved
loop-place-preserved c =
    let m = c.args.module.now in
    let i = c.loop-place.place in
    let blocks = c.args.blocks.now in
    body_more m c.loop-place.bodies.items c.push.new.self.items (bodies_of m (held blocks) m.functions)
    (held (drop i blocks)) (held (drop (i + 1) blocks)) (drop i m.functions) (drop (i + 1) m.functions)
    (holds c.index-blocks-place.result) c.in-Some.function.now
    (ap held (drop_more blocks i c.index-blocks-place.result c.loop-place-test.true ∙ ap (λ b. b ∷ drop (i + 1) blocks) (sym c.index-blocks-place.is)))
    (here_first m.functions i c.in-Some.function.now c.in-Some.ensures.value)
    (c.in_ok-push-in-Some.ensures.items ∙ ap (λ b. c.loop-place.bodies.items ++ b ∷ []) c.in_ok-optional_body-in-Some.ensures)
    c.loop-place.invariant
