use Rattle.std.proofs.Common.{◌∙◌, ap, sym}
use Rattle.std.specs.Prelude.{option_map}
use Rattle.hl_meaning.specs.Views.{plain_member}
use Rattle.hl_source.specs.Offsets.{step_to_member}
use Rattle.hl_interpreter.specs.HeldPlaces.{plain_reached}
use Rattle.hl_interpreter.proofs.places.step_to_member.Goals as goal

pub returns-in-Some : goal.returns-in-Some
returns-in-Some c =
    c.further.ensures ∙ ap (step_to_member (plain_reached c.args.from)) (sym (ap (option_map (λ m. plain_member m.now)) c.in-Some.is) ∙ c.member_of.ensures)

pub returns-in-None : goal.returns-in-None
returns-in-None c =
    ap (step_to_member (plain_reached c.args.from)) (sym (ap (option_map (λ m. plain_member m.now)) c.in-None.is) ∙ c.member_of.ensures)
