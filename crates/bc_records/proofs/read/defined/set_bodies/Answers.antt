use Rattle.std.proofs.Common.{◌≡◌, rules, Some, [], length, ◌∙◌, ap, sym}
use Rattle.bc_records.specs.ReadBodies.{with_bodies, with_body_at}
use Rattle.bc_records.proofs.ReadDefined.{last_first, no_body, all_set}
use Rattle.bc_records.proofs.read.defined.set_bodies.Goals as goal

pub loop-last-preserved-in-Some-last : goal.loop-last-preserved-in-Some-last
loop-last-preserved-in-Some-last c =
    let fs = c.loop-last.functions.items in
    let bodies = c.pop.new.self.items in
    let place : c.len.result ≡ length bodies = search rules in
    ap (λ gs. with_bodies gs bodies) (c.set_body.ensures ∙ ap (λ n. with_body_at fs n (Some c.in-Some-last.body)) place)
    ∙ (ap (λ o. with_bodies (with_body_at fs (length bodies) o) bodies) (sym c.in-Some-last.is)
    ∙ (last_first fs bodies c.in-Some.last ∙ (ap (with_bodies fs) (sym c.in-Some.ensures.items) ∙ c.loop-last.invariant)))

pub loop-last-preserved : goal.loop-last-preserved
loop-last-preserved c =
    let fs = c.loop-last.functions.items in
    let bodies = c.pop.new.self.items in
    ap (λ gs. with_bodies gs bodies) (no_body fs (length bodies))
    ∙ (ap (λ o. with_bodies (with_body_at fs (length bodies) o) bodies) (sym c.in_default-last.is)
    ∙ (last_first fs bodies c.in-Some.last ∙ (ap (with_bodies fs) (sym c.in-Some.ensures.items) ∙ c.loop-last.invariant)))

pub returns : goal.returns
returns c =
    let none : c.loop-last.left.items ≡ [] = search rules in
    sym (all_set c.loop-last.functions.items c.loop-last.left.items none) ∙ c.loop-last.invariant
