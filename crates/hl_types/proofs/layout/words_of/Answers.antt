use Rattle.std.proofs.Common.{◌∙◌}
use Rattle.hl_rules.specs.Scopes.{words_if}
use Rattle.hl_values.specs.StructTables.{plain_structs}
use Rattle.hl_values.specs.Views.{plain_type_if}
use Rattle.hl_types.proofs.LayoutLemmas.{known-words}
use Rattle.hl_types.proofs.layout.words_of.Goals as goal

pub returns : goal.returns
returns c =
    let structs = plain_structs c.args.structs.now in
    let ty = plain_type_if c.args.ty.now in
    c.in_ok-words.ensures (words_if structs ty) c.words_if.ensures ∙ known-words structs ty
