use Rattle.std.proofs.Common.{◌∙◌, sym}
use Rattle.hl_meaning.specs.Types.{struct_type}
use Rattle.hl_rules.specs.Scopes.{type_words}
use Rattle.hl_values.specs.StructTables.{plain_structs}
use Rattle.hl_types.proofs.KindLemmas.{has-known, has-none}
use Rattle.hl_types.proofs.kinds.is_empty.Goals as goal

pub returns-in-Some : goal.returns-in-Some
returns-in-Some c =
    has-known 0 c.in-Some.words c.is_count.result (type_words (plain_structs c.args.structs.now) (struct_type c.args.number)) c.is_count.ensures
    (sym c.in-Some.is ∙ c.words.ensures)

pub returns-in-None : goal.returns-in-None
returns-in-None c = has-none 0 (type_words (plain_structs c.args.structs.now) (struct_type c.args.number)) (sym c.in-None.is ∙ c.words.ensures)
