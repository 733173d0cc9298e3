use Rattle.std.proofs.Common.{ap, length, arith}
use Rattle.std.proofs.lemmas.List.{length-map}
use Rattle.hl_values.specs.NameEntries.{entry_of}
use Rattle.hl_values.proofs.NameLemmas.{position-within}
use Rattle.hl_values.proofs.name_table.NameTable.number.Goals as goal

pub overflow_cast-result : goal.overflow_cast-result
overflow_cast-result g c =
    omega (arith, position-within c.args.name.now c.args.self.now c.in_ok-at.at c.in_ok-at.ensures, c.self.invariant.within, length-map c.self.inside.entries.items entry_of, ap length c.self.view_is)
