use Rattle.std.proofs.Common.{◌∙◌, sym}
use Rattle.hl_meaning.specs.Views.{plain_ty}
use Rattle.hl_rules.specs.Scopes.{type_words}
use Rattle.hl_types.specs.Kinds.{type_kinds}
use Rattle.hl_types.proofs.KindLemmas.{kinds_if-apart, kinds_if-known, kinds_if-same}
use Rattle.hl_values.specs.StructTables.{plain_structs}
use Rattle.hl_types.proofs.kinds.kinds_if.Goals as goal

pub returns-then-is_other : goal.returns-then-is_other
returns-then-is_other c =
    let structs = c.args.structs.now in
    let ty = plain_ty c.args.ty.now in
    kinds_if-known c.args.count structs ty (sym (c.is_other.ensures (type_words (plain_structs structs) ty) c.type_words.ensures) ∙ c.if-is_other.true)

pub returns-then-len-count : goal.returns-then-len-count
returns-then-len-count c =
    kinds_if-same c.args.count (type_kinds c.args.structs.now (plain_ty c.args.ty.now)) c.in_ok-kinds.kinds c.in_ok-kinds.ensures (sym c.len.ensures.value ∙ c.if-len-count.true)

pub returns-else-len-count : goal.returns-else-len-count
returns-else-len-count c =
    kinds_if-apart c.args.count (type_kinds c.args.structs.now (plain_ty c.args.ty.now)) c.in_ok-kinds.kinds c.in_ok-kinds.ensures (λ same. c.if-len-count.false (c.len.ensures.value ∙ same))
