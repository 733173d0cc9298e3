use Rattle.std.proofs.Common.{◌∙◌, ap, sym}
use Rattle.hl_meaning.specs.Views.{plain_structs}
use Rattle.hl_source.specs.Offsets.{member_of}
use Rattle.hl_interpreter.specs.HeldPlaces.{plain_type}
use Rattle.hl_interpreter.proofs.places.member_of.Goals as goal

pub returns-in-Held : goal.returns-in-Held
returns-in-Held c = c.held_member.ensures ∙ sym (ap (λ t. member_of (plain_structs c.args.program.now.structs) (plain_type t) c.args.number) c.in-Held.is)

pub returns-in-Component : goal.returns-in-Component
returns-in-Component c = sym (ap (λ t. member_of (plain_structs c.args.program.now.structs) (plain_type t) c.args.number) c.in-Component.is)

pub returns-in-Nothing : goal.returns-in-Nothing
returns-in-Nothing c = sym (ap (λ t. member_of (plain_structs c.args.program.now.structs) (plain_type t) c.args.number) c.in-Nothing.is)
