use Rattle.hl_meaning.specs.Views.{plain_ty}
use Rattle.hl_values.specs.Views.{plain_code_if, plain_standing}
use Rattle.hl_types.proofs.DotLemmas.{swizzle-made}
use Rattle.hl_types.proofs.dots.swizzle_value.Goals as goal

pub returns : goal.returns
returns c =
    let behind = c.in_ok-standing.ensures in
    swizzle-made c.args.kind c.args.letters c.in-Some.letters (plain_ty c.components_type-ty.result) c.len.result (plain_standing c.args.standing) (plain_standing c.in_ok-standing.standing) (plain_code_if c.args.code)
    c.in-Some.is c.components_type-ty.ensures c.len.ensures.value behind
