use Rattle.std.proofs.Common.{◌∙◌, ◌++◌, ap, sym, drop, map, ◌+◌, append-nil, append_assoc}
use Rattle.std.proofs.lemmas.List.{drop_all}
use Rattle.hl_meaning.specs.Layout.{kinds_in, member_kinds}
use Rattle.hl_meaning.specs.Views.{plain_member, plain_ty}
use Rattle.hl_layout.proofs.Parts.{drop-next}
use Rattle.hl_layout.proofs.kinds.member_kinds.Goals as goal

pub loop-member-preserved : goal.loop-member-preserved
loop-member-preserved c =
    let structs = c.args.structs.now in
    let members = c.args.members.now in
    let i = c.loop-member.member-index in
    let m = c.member-item.result in
    let kinds = c.loop-member.kinds in
    let rest = member_kinds structs (map plain_member (drop (i + 1) members)) in
    ap (λ l. l ++ rest) (c.in_ok-extend_from_slice.ensures.ok ∙ ap (λ l. kinds ++ l) (c.as_slice.ensures.value ∙ c.in_ok-more.ensures)) ∙
    (append_assoc kinds (kinds_in structs (plain_ty m.ty)) rest ∙
    (ap (λ l. kinds ++ member_kinds structs (map plain_member l)) (sym (drop-next members i m c.loop-member-test.true c.member-item.is)) ∙ c.loop-member.invariant))

pub returns : goal.returns
returns c =
    let structs = c.args.structs.now in
    let kinds = c.loop-member.kinds in
    sym (append-nil kinds) ∙
    (ap (λ l. kinds ++ member_kinds structs (map plain_member l)) (sym (drop_all c.loop-member.member-index c.args.members.now c.loop-member-test.false)) ∙ c.loop-member.invariant)
