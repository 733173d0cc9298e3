use Rattle.std.proofs.Common.{map, string_bytes, sym}
use Rattle.std.specs.Prelude.{codes}
use Rattle.std.proofs.lemmas.Slice.Eq.{bytes_eq-Decides}
use Rattle.dxil_driver.specs.Commands.{a_compilation}
use Rattle.dxil_driver.specs.Options.{Chooses, ChoosesNone}
use Rattle.dxil_driver.proofs.Matches.{some_says}
use Rattle.dxil_driver.proofs.Words.{only_check}
use Rattle.dxil_driver.proofs.command.Command.from_name.Goals as goal

pub returns-in-Some : goal.returns-in-Some
returns-in-Some c =
    a_compilation c.args.name.now (map string_bytes c.args.words.now) c.in-Some.options ((bytes_eq-Decides c.args.name.now (codes "compile")).0 (sym c.if-eq.ensures)) (some_says (ChoosesNone (map string_bytes c.args.words.now)) (Chooses (map string_bytes c.args.words.now)) c.in_ok-from_words.field-0 c.in-Some.options c.in_ok-from_words.ensures c.in-Some.is)

pub returns-then-is_empty : goal.returns-then-is_empty
returns-then-is_empty c =
    only_check string_bytes c.args.words.now c.args.name.now c.if-is_empty.ensures ((bytes_eq-Decides c.args.name.now (codes "check")).0 (sym c.if-eq-2.ensures))
