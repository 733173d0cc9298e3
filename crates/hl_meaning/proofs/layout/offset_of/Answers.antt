use Rattle.std.proofs.Common.{◌≡◌, ◌∙◌, sym, ap, get_or}
use Rattle.hl_meaning.proofs.OffsetLemmas.{offset-read}
use Rattle.hl_meaning.proofs.layout.offset_of.Goals as goal

pub returns : goal.returns
returns c =
    let d = c.index-as_slice-structure.result in
    let m = c.index-as_slice-member.result in
    let struct_read : d ≡ get_or c.args.program.now.structs c.args.structure d =
    c.index-as_slice-structure.is ∙ ap (λ xs. get_or xs c.args.structure d) c.as_slice.ensures.value in
    let members : c.as_slice-2.result.now ≡ d.members = c.as_slice-2.ensures.value ∙ ap (λ x. x.members) (sym c.index-as_slice-structure.is) in
    let member_read : m ≡ get_or d.members c.args.member m =
    c.index-as_slice-member.is ∙ ap (λ xs. get_or xs c.args.member m) members in
    ap (λ x. x.offset) (sym c.index-as_slice-member.is) ∙ offset-read c.args.program.now c.args.structure c.args.member d m struct_read member_read c.requires
