use Rattle.std.proofs.Common.{◌∙◌, [], ◌++◌, ap, append-nil, map, refl, sym}
use Rattle.hl_meaning.specs.Layout.{struct_kinds_after}
use Rattle.hl_meaning.specs.Views.{plain_constant, plain_structs}
use Rattle.hl_inline.specs.Building.{plain_code}
use Rattle.hl_inline.specs.InlinedPrograms.{set_constants}
use Rattle.hl_inline.proofs.constants.set_constants.Goals as goal

pub returns-then-is_empty : goal.returns-then-is_empty
returns-then-is_empty c =
    let code = plain_code c.args.code.now in
    sym (ap (λ l. code ++ set_constants (plain_structs c.args.structs.now) 0 (map plain_constant l)) (c.if-is_empty.ensures.0 refl) ∙ append-nil code)

pub returns : goal.returns
returns c =
    c.set_each.ensures (plain_structs c.args.structs.now)
    (c.as_slice-2.ensures.value ∙ (c.in_ok-known.ensures ∙ ap (λ l. struct_kinds_after [] (plain_structs l)) c.as_slice.ensures.value))
