use Rattle.std.proofs.Common.{◌∙◌, ◌∷◌, ◌++◌, [], ap, sym, drop, map, ◌+◌}
use Rattle.std.proofs.lemmas.List.{drop_all}
use Rattle.hl_meaning.specs.Layout.{member_kinds, struct_kinds_after}
use Rattle.hl_meaning.specs.Views.{plain_member, plain_structs}
use Rattle.hl_layout.proofs.Parts.{drop-next}
use Rattle.hl_layout.proofs.kinds.struct_kinds.Goals as goal

pub loop-structure-preserved : goal.loop-structure-preserved
loop-structure-preserved c =
    let structs = c.args.structs.now in
    let i = c.loop-structure.structure-index in
    let d = c.structure-item.result in
    let all = c.loop-structure.all in
    let rest = plain_structs (drop (i + 1) structs) in
    ap (λ l. struct_kinds_after l rest)
    (c.in_ok-push.ensures.ok ∙ ap (λ k. all ++ k ∷ [])
    (c.in_ok-kinds.ensures ∙ (ap (λ l. member_kinds l (map plain_member c.as_slice-in-loop-structure.result.now)) c.as_slice.ensures.value ∙ ap (λ l. member_kinds all (map plain_member l)) c.as_slice-in-loop-structure.ensures.value))) ∙
    (ap (λ l. struct_kinds_after all (plain_structs l)) (sym (drop-next structs i d c.loop-structure-test.true c.structure-item.is)) ∙ c.loop-structure.invariant)

pub returns : goal.returns
returns c =
    ap (λ l. struct_kinds_after c.loop-structure.all (plain_structs l)) (sym (drop_all c.loop-structure.structure-index c.args.structs.now c.loop-structure-test.false)) ∙ c.loop-structure.invariant
